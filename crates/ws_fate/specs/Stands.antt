-- For which history the pairs of a table stand, and how they go on (own).
use Rattle.std.specs.Prelude.{◌≡◌, ℕ, ◌≤◌, Bool, true, false, cond, List, [], ◌∷◌, ◌==◌, ◌&&◌, Option, Some, None, find}
use Rattle.std.specs.List.{list_any}
use Rattle.std.specs.Option.{option_map}
use Rattle.ws_model.specs.declared.event.Event.{Event}
use Rattle.ws_model.specs.declared.event.Intent.{Intent}
use Rattle.ws_model.specs.declared.event.What.{What}
use Rattle.ws_model.specs.declared.event.What.TheVariants.{Confirmed, Fetched, Pushed, Revoked, Tally}
use Rattle.ws_model.specs.declared.fate.Cause.TheVariants as cause
use Rattle.ws_model.specs.Account.{account, is_answered, is_ended, tallies_of}
use Rattle.ws_model.specs.Leases.{confirmed_intent}
use Rattle.ws_model.specs.Legal.{Legal}
use Rattle.ws_model.specs.Moment.{last_time}
use Rattle.ws_model.specs.Pairs.{owed}
use Rattle.ws_model.specs.Verdict.{fate_of}
use Rattle.ws_model.specs.View.{View, OwedPush, view}
use Rattle.ws_laws.specs.Steps.{expiring, more, new_pushes, turn, turned}
use Rattle.ws_fate.specs.declared.totals.Standing.{Standing}
use Rattle.ws_fate.specs.declared.totals.Standing.TheVariants.{Open, Answered, Ended}
use Rattle.ws_fate.specs.declared.totals.Totals.{Totals}
use Rattle.ws_fate.specs.Totals.{standing, of_account}
use Rattle.ws_fate.specs.Rows.{Rows, standing_at}

-- At this moment, which isn't before the last event of the history, the table has each pair of the history with what
-- became of it, no other, and the numbers of the account.
pub record StandsFor (h : List Event) (t : ℕ) (rows : Rows) : Type 0 where
  pub begun : last_time h ≤ t
  pub shows : (v n : ℕ) → standing_at v n rows ≡ option_map standing (fate_of h v n t)
  pub totals : rows.totals ≡ of_account (account h t)

-- ---- to a later moment

-- whether the pair of this version and this lease is owed at t
abbrev pub is_owed_at : List Event → ℕ → ℕ → ℕ → Bool
is_owed_at h t v n = list_any (λ p. (p.version.ver == v) && (p.lease.intent.n == n)) (owed h t)

-- an open pair that isn't owed any more has expired
abbrev pub later : Bool → Standing → Standing
later owed Open = cond owed Open (Ended cause.Expired)
later owed Answered = Answered
later owed (Ended c) = Ended c

abbrev pub with_expired : ℕ → Totals → Totals
with_expired k c =
    record {
      answered = c.answered;
      expired = more c.expired k;
      unsubscribed = c.unsubscribed;
      replaced = c.replaced;
      gone = c.gone;
      spent = c.spent;
      revoked = c.revoked;
    }

-- the table at the later moment u: what isn't owed then has expired, and is counted
pub record GoesLater (h : List Event) (t u : ℕ) (old new : Rows) : Type 0 where
  pub pairs : (v n : ℕ) → standing_at v n new ≡ option_map (later (is_owed_at h u v n)) (standing_at v n old)
  pub totals : new.totals ≡ with_expired (expiring (view h t) u) old.totals

-- such a table stands for the history at the later moment
abbrev pub StandsLater : Type 0
StandsLater = (h : List Event) (t u : ℕ) (old new : Rows) → Legal h → t ≤ u → StandsFor h t old → GoesLater h t u old new → StandsFor h u new

-- ---- by one event, at its moment

abbrev pub is_pair : ℕ → ℕ → OwedPush → Bool
is_pair v n w = (w.version.ver == v) && (w.lease.intent.n == n)

-- what becomes of an owed pair by the event
abbrev pub turned_to : ℕ → What → Option Intent → Option OwedPush → Standing
turned_to t e intent None = Open
turned_to t e intent (Some w) = standing (turn t e intent w)

abbrev pub by_event : ℕ → What → Option Intent → Option OwedPush → Standing → Standing
by_event t e intent owed Open = turned_to t e intent owed
by_event t e intent owed Answered = Answered
by_event t e intent owed (Ended c) = Ended c

-- a pair after an event: open, where the event makes it; else as the event turns it
abbrev pub standing_after : ℕ → What → Option Intent → View → ℕ → ℕ → Option Standing → Option Standing
standing_after t e intent v x n old =
    cond (list_any (is_pair x n) (new_pushes t e intent v)) (Some Open) (option_map (by_event t e intent (find (is_pair x n) v.owed)) old)

abbrev pub totals_after : ℕ → What → Option Intent → View → Totals → Totals
totals_after t e intent v c =
    record {
      answered = more c.answered (turned is_answered t e intent v);
      expired = more c.expired (turned (is_ended cause.Expired) t e intent v);
      unsubscribed = more c.unsubscribed (turned (is_ended cause.Unsubscribed) t e intent v);
      replaced = more c.replaced (turned (is_ended cause.Replaced) t e intent v);
      gone = more c.gone (turned (is_ended cause.Gone) t e intent v);
      spent = more c.spent (turned (is_ended cause.Spent) t e intent v);
      revoked = more c.revoked (turned (is_ended cause.Revoked) t e intent v);
    }

-- the table after an event: pairs that it makes are open, owed ones are as it turns them and counted, others stay
pub record FollowsStep (e : Event) (h : List Event) (old new : Rows) : Type 0 where
  pub pairs : (v n : ℕ) → standing_at v n new ≡ standing_after e.t e.what (confirmed_intent e.what h) (view h e.t) v n (standing_at v n old)
  pub totals : new.totals ≡ totals_after e.t e.what (confirmed_intent e.what h) (view h e.t) old.totals

-- such a table stands for the history with the event, which is no Tally
abbrev pub StandsAfter : Type 0
StandsAfter = (h : List Event) (e : Event) (old new : Rows) → Legal (e ∷ h) → tallies_of e.what ≡ [] → StandsFor h e.t old → FollowsStep e h old new → StandsFor (e ∷ h) e.t new

-- the event makes and ends no pair, no push of one was missed, and it is no Tally
abbrev pub is_quiet : What → Bool
is_quiet (Confirmed n sent) = false
is_quiet (Fetched v) = false
is_quiet (Pushed v n how) = false
is_quiet (Revoked n reason) = false
is_quiet (Tally c) = false
is_quiet _ = true

-- a table that stands at the moment of any other event stands, as it is, for the history with the event
abbrev pub StandsOn : Type 0
StandsOn = (h : List Event) (e : Event) (rows : Rows) → Legal (e ∷ h) → is_quiet e.what ≡ true → StandsFor h e.t rows → StandsFor (e ∷ h) e.t rows

-- ---- a table in which nothing expires

-- what is kept of a pair where no event says that it has expired: it stays open
abbrev pub without_expiry : Standing → Standing
without_expiry (Ended cause.Expired) = Open
without_expiry s = s

-- From the moment `since` on the table has each pair of the history with what became of it, and no other; an expired one stays open.
abbrev pub AreShown : List Event → ℕ → Rows → Type 0
AreShown h since rows = (t v n : ℕ) → since ≤ t → standing_at v n rows ≡ option_map without_expiry (option_map standing (fate_of h v n t))
