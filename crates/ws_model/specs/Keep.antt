-- What a compaction keeps of a history (own).
use Rattle.std.specs.Prelude.{ℕ, ◌+◌, min, Bool, false, cond, not, ◌&&◌, ◌||◌, List, [], ◌∷◌, ◌++◌, map, length, filter, nat_lt, ◌==◌, bytes_eq}
use Rattle.std.specs.List.{list_any}
use Rattle.ws_model.specs.declared.event.Event.{Event}
use Rattle.ws_model.specs.declared.event.What.{What}
use Rattle.ws_model.specs.declared.event.What.TheVariants.{Asked, Confirmed, Declined, Unheard, Barred, Noticed, Pinged, Fetched, Same, Unfetched, Pushed, Tally, Revoked}
use Rattle.ws_model.specs.declared.event.Tally.{Tally as TallyFields}
use Rattle.ws_model.specs.declared.event.Intent.{Intent}
use Rattle.ws_model.specs.declared.fate.Fate.{Fate}
use Rattle.ws_model.specs.declared.fate.Cause.TheVariants.{Expired, Unsubscribed, Replaced, Gone, Spent, Revoked as LeaseRevoked}
use Rattle.ws_model.specs.declared.lease.Lease.{Lease}
use Rattle.ws_model.specs.Moment.{serial, intent_number, version_number}
use Rattle.ws_model.specs.Intents.{pending, notices, same_pair}
use Rattle.ws_model.specs.Leases.{leases, lease_of, confirmed_intent, live}
use Rattle.ws_model.specs.Versions.{fetches}
use Rattle.ws_model.specs.Fate.{Pair, fate}
use Rattle.ws_model.specs.Pairs.{pairs, owed}
use Rattle.ws_model.specs.Verdict.{is_kept_version}
use Rattle.ws_model.specs.Account.{tallied, is_answered, is_ended, most}

abbrev pub member : ℕ → List ℕ → Bool
member n ns = list_any (λ m. m == n) ns

abbrev pub numbers : List Lease → List ℕ
numbers ls = map (λ l. l.intent.n) ls

-- ---- which leases are kept

-- the live leases, and those with an owed notice
abbrev pub first_kept : List Event → ℕ → List ℕ
first_kept h t = numbers (live h t) ++ numbers (filter (λ l. list_any (λ i. i.n == l.intent.n) (notices h)) (leases h))

-- the leases whose owed pairs of kept versions went over to the new lease, where that is kept
abbrev pub replaced_by : (ℕ → Bool) → List ℕ → List Pair → List Lease → List ℕ
replaced_by versions kept owed [] = []
replaced_by versions kept owed (l ∷ ls) =
    cond (member l.intent.n kept)
    (map (λ p. p.lease.intent.n) (filter (λ p. versions p.version.ver && same_pair l.intent p.lease.intent) owed)) []

-- The numbers `kept`, and with each number that of the lease that it replaced, where a pair of a kept
-- version went over. A replaced lease is older than its successor, so one pass from the newest event
-- to the oldest finds all.
abbrev pub with_replaced : (ℕ → Bool) → List ℕ → List Event → List ℕ
with_replaced versions kept [] = kept
with_replaced versions kept (e ∷ h) =
    with_replaced versions (replaced_by versions kept (owed h e.t) (lease_of e.what (confirmed_intent e.what h)) ++ kept) h

-- the numbers of the leases that are kept at t
abbrev pub kept_leases : List Event → ℕ → List ℕ
kept_leases h t = with_replaced (is_kept_version h t) (first_kept h t) h

-- ---- which events are kept

abbrev pub is_among : List Intent → ℕ → Bool
is_among is n = list_any (λ i. i.n == n) is

-- the latest ping of a topic whose fetch is owed
abbrev pub is_kept_ping : List Event → Event → List ℕ → Bool
is_kept_ping h e topic = list_any (λ p. bytes_eq p.topic topic && (p.serial == e.serial)) (fetches h)

-- a missed fetch after that ping
abbrev pub is_kept_miss : List Event → Event → List ℕ → Bool
is_kept_miss h e topic = list_any (λ p. bytes_eq p.topic topic && nat_lt p.serial e.serial) (fetches h)

-- By its kind: a request of a pending intent, of an owed notice or of a kept lease; an Unheard of a
-- pending intent; a Barred or Noticed of an owed notice; a Confirmed or Revoked of a kept lease; a
-- kept version; a push of a kept version to a kept lease; what an owed fetch goes back to.
abbrev pub keeps : List Event → ℕ → Event → What → Bool
keeps h t e (Asked i) = is_among (pending h) i.n || is_among (notices h) i.n || member i.n (kept_leases h t)
keeps h t e (Confirmed n sent) = member n (kept_leases h t)
keeps h t e (Declined n code) = false
keeps h t e (Unheard n) = is_among (pending h) n
keeps h t e (Barred n reason) = is_among (notices h) n
keeps h t e (Noticed n heard) = is_among (notices h) n
keeps h t e (Pinged topic) = is_kept_ping h e topic
keeps h t e (Fetched v) = is_kept_version h t v.ver
keeps h t e (Same topic upto) = false
keeps h t e (Unfetched topic upto why) = is_kept_miss h e topic
keeps h t e (Pushed v n how) = is_kept_version h t v && member n (kept_leases h t)
keeps h t e (Tally c) = false
keeps h t e (Revoked n reason) = member n (kept_leases h t)

-- ---- the Tally

-- the version and the lease of the pair are kept
abbrev pub is_kept_pair : List Event → ℕ → Pair → Bool
is_kept_pair h t p = is_kept_version h t p.version.ver && member p.lease.intent.n (kept_leases h t)

-- how many pairs of such a fate are forgotten, with those that were forgotten before
abbrev pub forgotten : (Fate → Bool) → (TallyFields → ℕ) → List Event → ℕ → ℕ
forgotten test field h t = min (tallied field h + length (filter (λ p. test (fate h p t) && not (is_kept_pair h t p)) (pairs h))) most

abbrev pub tally : List Event → ℕ → Event
tally h t =
    record {
      serial = 0;
      t = 0;
      what = Tally (record {
        now = t;
        serial = serial h;
        intent = intent_number h;
        version = version_number h;
        answered = forgotten is_answered (λ c. c.answered) h t;
        expired = forgotten (is_ended Expired) (λ c. c.expired) h t;
        unsubscribed = forgotten (is_ended Unsubscribed) (λ c. c.unsubscribed) h t;
        replaced = forgotten (is_ended Replaced) (λ c. c.replaced) h t;
        gone = forgotten (is_ended Gone) (λ c. c.gone) h t;
        spent = forgotten (is_ended Spent) (λ c. c.spent) h t;
        revoked = forgotten (is_ended LeaseRevoked) (λ c. c.revoked) h t;
      });
    }

-- what a compaction at t keeps, the newest first: the kept events in their order, and before them all
-- a Tally
abbrev pub keep : List Event → ℕ → List Event
keep h t = filter (λ e. keeps h t e e.what) h ++ tally h t ∷ []
