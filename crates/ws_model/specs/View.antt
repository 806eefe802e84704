-- What a history is at a moment, as indexed tables can show it (own).
use Rattle.std.specs.Prelude.{ℕ, false, cond, List, [], ◌∷◌, map, ◌==◌}
use Rattle.ws_model.specs.declared.event.Event.{Event}
use Rattle.ws_model.specs.declared.event.What.{What}
use Rattle.ws_model.specs.declared.event.What.TheVariants.{Barred, Revoked}
use Rattle.ws_model.specs.declared.event.Intent.{Intent}
use Rattle.ws_model.specs.declared.event.Version.{Version}
use Rattle.ws_model.specs.declared.lease.Lease.{Lease}
use Rattle.ws_model.specs.declared.account.Account.{Account}
use Rattle.ws_model.specs.History.{times}
use Rattle.ws_model.specs.Moment.{time, serial, intent_number, version_number}
use Rattle.ws_model.specs.Intents.{pending, notices, is_unheard, is_noticed}
use Rattle.ws_model.specs.Leases.{live}
use Rattle.ws_model.specs.Versions.{Ping, latest, fetches, missed_fetches}
use Rattle.ws_model.specs.Fate.{Pair, misses, next}
use Rattle.ws_model.specs.Pairs.{owed}
use Rattle.ws_model.specs.Account.{account}

-- a pending intent, with the number of its verifications that had no reply
pub record Waiting : Type 0 where
  pub intent : Intent
  pub unheard : ℕ

-- an intent whose notice is owed, with the reason and the number of notices that had no reply
pub record OwedNotice : Type 0 where
  pub intent : Intent
  pub reason : List ℕ
  pub unheard : ℕ

-- the latest ping of a topic whose fetch is owed, with the number of missed fetches since
pub record OwedFetch : Type 0 where
  pub topic : List ℕ
  pub serial : ℕ
  pub missed : ℕ

-- a pair that is owed, with its misses and its next try
pub record OwedPush : Type 0 where
  pub version : Version
  pub lease : Lease
  pub tries : ℕ
  pub next : ℕ

pub record View : Type 0 where
  pub pending : List Waiting
  pub notices : List OwedNotice
  pub live : List Lease
  pub latest : List Version
  pub fetches : List OwedFetch
  pub owed : List OwedPush
  pub time : ℕ
  pub serial : ℕ
  pub intent : ℕ
  pub version : ℕ
  pub account : Account

abbrev pub waiting : List Event → Intent → Waiting
waiting h i = record { intent = i; unheard = times (is_unheard i.n) h }

abbrev pub reason_in : ℕ → What → List ℕ → List ℕ
reason_in n (Barred m reason) rest = cond (m == n) reason rest
reason_in n (Revoked m reason) rest = cond (m == n) reason rest
reason_in n _ rest = rest

-- the reason of the Barred or Revoked of this number
abbrev pub reason_of : ℕ → List Event → List ℕ
reason_of n [] = []
reason_of n (e ∷ h) = reason_in n e.what (reason_of n h)

abbrev pub owed_notice : List Event → Intent → OwedNotice
owed_notice h i = record { intent = i; reason = reason_of i.n h; unheard = times (is_noticed i.n false) h }

abbrev pub owed_fetch : List Event → Ping → OwedFetch
owed_fetch h p = record { topic = p.topic; serial = p.serial; missed = missed_fetches p.topic h }

abbrev pub owed_push : List Event → Pair → OwedPush
owed_push h p = record { version = p.version; lease = p.lease; tries = misses h p; next = next h p }

-- the view of a history at t
abbrev pub view : List Event → ℕ → View
view h t =
    record {
      pending = map (waiting h) (pending h);
      notices = map (owed_notice h) (notices h);
      live = live h t;
      latest = latest h;
      fetches = map (owed_fetch h) (fetches h);
      owed = map (owed_push h) (owed h t);
      time = time h;
      serial = serial h;
      intent = intent_number h;
      version = version_number h;
      account = account h t;
    }
