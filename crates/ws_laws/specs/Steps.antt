-- How the view of a history goes on: to a later moment, and by one more event (own).
use Rattle.std.specs.Prelude.{◌≡◌, ℕ, suc, ◌+◌, ◌≤◌, ◌<◌, min, max, Bool, true, false, cond, not, ◌&&◌, List, [], ◌∷◌, ◌++◌, map, length, nat_lt, nat_le, ◌==◌, bytes_eq, is_none, Option, Some, None, find, filter}
use Rattle.std.specs.List.{list_any}
use Rattle.ws_model.specs.declared.event.Event.{Event}
use Rattle.ws_model.specs.declared.event.What.{What}
use Rattle.ws_model.specs.declared.event.What.TheVariants.{Asked, Confirmed, Declined, Unheard, Barred, Noticed, Pinged, Fetched, Same, Unfetched, Pushed, Tally, Revoked}
use Rattle.ws_model.specs.declared.event.Intent.{Intent}
use Rattle.ws_model.specs.declared.event.Version.{Version}
use Rattle.ws_model.specs.declared.lease.Lease.{Lease}
use Rattle.ws_model.specs.declared.account.Account.{Account}
use Rattle.ws_model.specs.declared.fate.Fate.{Fate}
use Rattle.ws_model.specs.declared.fate.Cause.TheVariants.{Expired, Unsubscribed, Replaced, Gone, Spent, Revoked as LeaseRevoked}
use Rattle.ws_model.specs.Moment.{time, serial, intent_number, version_number, intent_number_in, version_number_in}
use Rattle.ws_model.specs.Intents.{intents_of, is_settled, is_unheard, is_noticed, same_pair}
use Rattle.ws_model.specs.Leases.{expiry, lease_by, lease_of, end_by}
use Rattle.ws_model.specs.Fate.{is_push, is_miss, is_done, delay, fate_by}
use Rattle.ws_model.specs.Due.{place}
use Rattle.ws_model.specs.Account.{is_answered, is_ended, most}
use Rattle.ws_model.specs.Legal.{is_on_one, is_sound, is_confirmed_in_time, number_limit, time_limit, Legal, accepts}
use Rattle.ws_model.specs.View.{View, Waiting, OwedNotice, OwedFetch, OwedPush, view}

-- ---- to a later moment

-- a count and what comes to it, no greater than a count can say
abbrev pub more : ℕ → ℕ → ℕ
more count k = min (count + k) most

-- how many owed pairs expire by u
abbrev pub expiring : View → ℕ → ℕ
expiring v u = length (filter (λ w. not (nat_lt u (expiry w.lease))) v.owed)

abbrev pub account_later : View → ℕ → Account
account_later v u =
    record {
      pending = v.account.pending;
      notices = v.account.notices;
      leases = length (filter (λ l. nat_lt u (expiry l)) v.live);
      topics = v.account.topics;
      fetches = v.account.fetches;
      owed = length (filter (λ w. nat_lt u (expiry w.lease)) v.owed);
      answered = v.account.answered;
      expired = more v.account.expired (expiring v u);
      unsubscribed = v.account.unsubscribed;
      replaced = v.account.replaced;
      gone = v.account.gone;
      spent = v.account.spent;
      revoked = v.account.revoked;
    }

-- the view at the later moment u: what has expired by then is neither live nor owed, and is counted
abbrev pub advance : View → ℕ → View
advance v u =
    record {
      pending = v.pending;
      notices = v.notices;
      live = filter (λ l. nat_lt u (expiry l)) v.live;
      latest = v.latest;
      fetches = v.fetches;
      owed = filter (λ w. nat_lt u (expiry w.lease)) v.owed;
      time = v.time;
      serial = v.serial;
      intent = v.intent;
      version = v.version;
      account = account_later v u;
    }

-- ---- one event, at the moment of the event

abbrev pub found : {X : Type 0} → (X → Intent) → Option X → Option Intent
found f None = None
found f (Some x) = Some (f x)

abbrev pub waiting_of : View → ℕ → Option Intent
waiting_of v n = found (λ w. w.intent) (find (λ w. w.intent.n == n) v.pending)

abbrev pub live_of : View → ℕ → Option Intent
live_of v n = found (λ l. l.intent) (find (λ l. l.intent.n == n) v.live)

-- the pending intent that a confirmation is of
abbrev pub confirmed_in : What → View → Option Intent
confirmed_in (Confirmed n sent) v = waiting_of v n
confirmed_in _ v = None

-- whether a pending intent stays pending
abbrev pub stays_pending : What → Waiting → Bool
stays_pending e w = not (is_settled w.intent.n e) && not (is_unheard w.intent.n e && nat_le 3 (suc w.unheard))

abbrev pub unheard_more : What → Waiting → Waiting
unheard_more e w = record { intent = w.intent; unheard = cond (is_unheard w.intent.n e) (suc w.unheard) w.unheard }

abbrev pub new_waiting : What → List Waiting
new_waiting e = map (λ i. record { intent = i; unheard = 0 }) (intents_of e)

abbrev pub pending_after : What → View → List Waiting
pending_after e v = new_waiting e ++ map (unheard_more e) (filter (stays_pending e) v.pending)

-- whether an owed notice stays owed
abbrev pub stays_noticed : What → OwedNotice → Bool
stays_noticed e w = not (is_noticed w.intent.n true e) && not (is_noticed w.intent.n false e && nat_le 3 (suc w.unheard))

abbrev pub notice_unheard_more : What → OwedNotice → OwedNotice
notice_unheard_more e w = record { intent = w.intent; reason = w.reason; unheard = cond (is_noticed w.intent.n false e) (suc w.unheard) w.unheard }

abbrev pub notice_by : List ℕ → Option Intent → List OwedNotice
notice_by reason None = []
notice_by reason (Some i) = record { intent = i; reason = reason; unheard = 0 } ∷ []

-- the notice that an event makes owed
abbrev pub new_notice : What → View → List OwedNotice
new_notice (Barred n reason) v = notice_by reason (waiting_of v n)
new_notice (Revoked n reason) v = notice_by reason (live_of v n)
new_notice _ v = []

-- notices stand in the order in which their intents were asked, the newest first
abbrev pub is_newer : OwedNotice → OwedNotice → Bool
is_newer w x = nat_lt x.intent.n w.intent.n

abbrev pub with_notice : List OwedNotice → List OwedNotice → List OwedNotice
with_notice [] ws = ws
with_notice (w ∷ rest) ws = place is_newer w ws

abbrev pub notices_after : What → View → List OwedNotice
notices_after e v = with_notice (new_notice e v) (map (notice_unheard_more e) (filter (stays_noticed e) v.notices))

-- whether a live lease stays live
abbrev pub lives_on : What → Option Intent → Lease → Bool
lives_on e intent l = is_none (end_by e intent l)

abbrev pub live_after : What → Option Intent → View → List Lease
live_after e intent v = lease_of e intent ++ filter (lives_on e intent) v.live

-- a Fetched is the latest version of its topic, in place of the one before
abbrev pub latest_after : What → List Version → List Version
latest_after (Fetched x) vs = x ∷ filter (λ v. not (bytes_eq x.topic v.topic)) vs
latest_after _ vs = vs

abbrev pub missed_more : List ℕ → OwedFetch → OwedFetch
missed_more topic f = record { topic = f.topic; serial = f.serial; missed = cond (bytes_eq topic f.topic) (suc f.missed) f.missed }

-- a fetch of the topic that began at `upto` doesn't answer a later ping
abbrev pub unanswered : List ℕ → ℕ → OwedFetch → Bool
unanswered topic upto f = not (bytes_eq topic f.topic && nat_le f.serial upto)

abbrev pub fetches_after : ℕ → What → List OwedFetch → List OwedFetch
fetches_after s (Pinged topic) fs = record { topic = topic; serial = s; missed = 0 } ∷ filter (λ f. not (bytes_eq topic f.topic)) fs
fetches_after s (Fetched x) fs = filter (unanswered x.topic x.upto) fs
fetches_after s (Same topic upto) fs = filter (unanswered topic upto) fs
fetches_after s (Unfetched topic upto why) fs = filter (λ f. nat_lt f.missed 3) (map (missed_more topic) fs)
fetches_after s _ fs = fs

abbrev pub is_missed : What → OwedPush → Bool
is_missed e w = is_push is_miss w.version.ver w.lease.intent.n e

-- whether an owed pair stays owed
abbrev pub stays_owed : What → Option Intent → OwedPush → Bool
stays_owed e intent w =
    not (is_push is_done w.version.ver w.lease.intent.n e)
    && not (is_missed e w && nat_le 8 (suc w.tries))
    && lives_on e intent w.lease

abbrev pub after_miss : ℕ → What → OwedPush → OwedPush
after_miss t e w =
    record {
      version = w.version;
      lease = w.lease;
      tries = cond (is_missed e w) (suc w.tries) w.tries;
      next = cond (is_missed e w) (t + delay (suc w.tries)) w.next;
    }

abbrev pub new_push : ℕ → Version → Lease → OwedPush
new_push t v l = record { version = v; lease = l; tries = 0; next = t }

abbrev pub owed_afresh : ℕ → List OwedPush → List Lease → List OwedPush
owed_afresh t ws [] = []
owed_afresh t ws (l ∷ ls) = map (λ w. new_push t w.version l) (filter (λ w. same_pair l.intent w.lease.intent) ws)

-- the pairs that an event makes owed
abbrev pub new_pushes : ℕ → What → Option Intent → View → List OwedPush
new_pushes t (Fetched x) intent v = map (λ l. new_push t x l) (filter (λ l. bytes_eq l.intent.topic x.topic) v.live)
new_pushes t (Confirmed n sent) intent v = owed_afresh t v.owed (lease_by sent intent)
new_pushes t _ intent v = []

abbrev pub owed_after : ℕ → What → Option Intent → View → List OwedPush
owed_after t e intent v = new_pushes t e intent v ++ map (after_miss t e) (filter (stays_owed e intent) v.owed)

-- the fate of an owed pair right after an event
abbrev pub turn : ℕ → What → Option Intent → OwedPush → Fate
turn t e intent w =
    fate_by (is_push is_done w.version.ver w.lease.intent.n e) (cond (is_missed e w) (suc w.tries) w.tries)
    (end_by e intent w.lease) (cond (is_missed e w) (t + delay (suc w.tries)) w.next)

-- how many owed pairs an event ends so
abbrev pub turned : (Fate → Bool) → ℕ → What → Option Intent → View → ℕ
turned test t e intent v = length (filter (λ w. test (turn t e intent w)) v.owed)

abbrev pub account_after : ℕ → ℕ → What → Option Intent → View → Account
account_after s t e intent v =
    record {
      pending = length (pending_after e v);
      notices = length (notices_after e v);
      leases = length (live_after e intent v);
      topics = length (latest_after e v.latest);
      fetches = length (fetches_after s e v.fetches);
      owed = length (owed_after t e intent v);
      answered = more v.account.answered (turned is_answered t e intent v);
      expired = more v.account.expired (turned (is_ended Expired) t e intent v);
      unsubscribed = more v.account.unsubscribed (turned (is_ended Unsubscribed) t e intent v);
      replaced = more v.account.replaced (turned (is_ended Replaced) t e intent v);
      gone = more v.account.gone (turned (is_ended Gone) t e intent v);
      spent = more v.account.spent (turned (is_ended Spent) t e intent v);
      revoked = more v.account.revoked (turned (is_ended LeaseRevoked) t e intent v);
    }

abbrev pub after : ℕ → ℕ → What → Option Intent → View → View
after s t e intent v =
    record {
      pending = pending_after e v;
      notices = notices_after e v;
      live = live_after e intent v;
      latest = latest_after e v.latest;
      fetches = fetches_after s e v.fetches;
      owed = owed_after t e intent v;
      time = max t v.time;
      serial = max s v.serial;
      intent = max (intent_number_in e) v.intent;
      version = max (version_number_in e) v.version;
      account = account_after s t e intent v;
    }

-- the view right after an event, from the view at its time before it
abbrev pub step : View → Event → View
step v e = after e.serial e.t e.what (confirmed_in e.what v) v

-- ---- whether an event may follow

-- no pending intent of the same topic and callback has a lower number
abbrev pub is_first_in : View → Intent → Bool
is_first_in v i = not (list_any (λ w. nat_lt w.intent.n i.n && same_pair i w.intent) v.pending)

abbrev pub is_first_one_in : View → Option Intent → Bool
is_first_one_in v None = false
is_first_one_in v (Some i) = is_first_in v i

abbrev pub is_confirmable_in : View → ℕ → ℕ → Option Intent → Bool
is_confirmable_in v sent t None = false
is_confirmable_in v sent t (Some i) = is_first_in v i && nat_le sent t && is_confirmed_in_time sent t i

-- what an event asks of the view at its time
abbrev pub is_allowed_in : What → ℕ → View → Bool
is_allowed_in (Asked i) t v = true
is_allowed_in (Confirmed n sent) t v = is_confirmable_in v sent t (waiting_of v n)
is_allowed_in (Declined n code) t v = is_first_one_in v (waiting_of v n)
is_allowed_in (Unheard n) t v = is_first_one_in v (waiting_of v n)
is_allowed_in (Barred n reason) t v = is_on_one (waiting_of v n)
is_allowed_in (Noticed n heard) t v = list_any (λ w. w.intent.n == n) v.notices
is_allowed_in (Pinged topic) t v = true
is_allowed_in (Fetched x) t v = true
is_allowed_in (Same topic upto) t v = list_any (λ w. bytes_eq w.topic topic) v.latest
is_allowed_in (Unfetched topic upto why) t v = true
is_allowed_in (Pushed x n how) t v = list_any (λ w. (w.version.ver == x) && (w.lease.intent.n == n)) v.owed
is_allowed_in (Tally c) t v = false
is_allowed_in (Revoked n reason) t v = list_any (λ l. l.intent.n == n) v.live

-- whether an event whose time, serial and numbers are new may follow
abbrev pub may_follow : View → Event → Bool
may_follow v e = nat_lt e.serial number_limit && nat_lt e.t time_limit && is_sound e.serial e.what && is_allowed_in e.what e.t v

-- ---- the laws

-- its number, where it has a new one, is above those of the history
abbrev pub IsNewlyNumbered : What → List Event → Type 0
IsNewlyNumbered (Asked i) h = intent_number h < i.n
IsNewlyNumbered (Fetched x) h = version_number h < x.ver
IsNewlyNumbered (Tally c) h = ⊥
IsNewlyNumbered _ h = Unit {0}

-- an event that is no Tally, at or after the time of the history, with a new serial and new numbers
pub record IsNewest (e : Event) (h : List Event) : Type 0 where
  pub in_time : time h ≤ e.t
  pub serial_new : serial h < e.serial
  pub number_new : IsNewlyNumbered e.what h

-- the view at a later moment is a function of the view and the moment
abbrev pub Advances : Type 0
Advances = (h : List Event) (t u : ℕ) → t ≤ u → view h u ≡ advance (view h t) u

-- whether a new event may follow is a function of the event and the view at its time
abbrev pub Follows : Type 0
Follows = (h : List Event) (e : Event) → Legal h → IsNewest e h → accepts h e ≡ may_follow (view h e.t) e

-- the view after a new event is a function of the event and the view before it at its time
abbrev pub Steps : Type 0
Steps = (h : List Event) (e : Event) → Legal (e ∷ h) → IsNewest e h → view (e ∷ h) e.t ≡ step (view h e.t) e
