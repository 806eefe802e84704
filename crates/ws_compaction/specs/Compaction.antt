-- The law of compaction (own): what a compaction keeps of a history stands for the whole of it, now and
-- whatever comes after.
use Rattle.std.specs.Prelude.{◌≡◌, ℕ, ◌+◌, ◌≤◌, ◌<◌, ◌↔◌, min, Bool, List, [], ◌∷◌, ◌++◌, filter}
use Rattle.std.specs.List.{AllByRecursion}
use Rattle.ws_model.specs.declared.event.Event.{Event}
use Rattle.ws_model.specs.declared.event.What.{What}
use Rattle.ws_model.specs.declared.event.What.TheVariants.{Asked, Fetched}
use Rattle.ws_model.specs.declared.event.Tally.{Tally as TallyFields}
use Rattle.ws_model.specs.declared.fate.Cause.TheVariants.{Expired, Unsubscribed, Replaced, Gone, Spent, Revoked}
use Rattle.ws_model.specs.declared.fate.Fate.{Fate}
use Rattle.ws_model.specs.Account.{fated, is_answered, is_ended, most, total}
use Rattle.ws_model.specs.Fate.{fate}
use Rattle.ws_model.specs.Keep.{forgotten, is_kept_pair, keep}
use Rattle.ws_model.specs.Legal.{Legal, time_limit}
use Rattle.ws_model.specs.Moment.{time, serial, intent_number, version_number}
use Rattle.ws_model.specs.Pairs.{pairs}
use Rattle.ws_model.specs.View.{View, view}

-- the view with another time of the history
abbrev pub with_time : ℕ → View → View
with_time s v =
    record {
      pending = v.pending;
      notices = v.notices;
      live = v.live;
      latest = v.latest;
      fetches = v.fetches;
      owed = v.owed;
      time = s;
      serial = v.serial;
      intent = v.intent;
      version = v.version;
      account = v.account;
    }

-- What a compaction at t keeps has at t the view of the whole history, its account included. Only the
-- time of the history is then t, where it was t or earlier.
abbrev pub KeepsView : Type 0
KeepsView = (h : List Event) (t : ℕ) → Legal h → time h ≤ t → view (keep h t) t ≡ with_time t (view h t)

-- What a compaction at t keeps of a legal history is a legal history.
abbrev pub KeepIsLegal : Type 0
KeepIsLegal = (h : List Event) (t : ℕ) → Legal h → time h ≤ t → t < time_limit → Legal (keep h t)

-- The pairs of what is kept are the kept pairs of the history, in their order, each with its fate at
-- every moment u.
abbrev pub KeepsPairs : Type 0
KeepsPairs =
    (h : List Event) (t u : ℕ) → Legal h → time h ≤ t
    → (pairs (keep h t) ≡ filter (is_kept_pair h t) (pairs h)) × AllByRecursion (λ p. fate (keep h t) p u ≡ fate h p u) (pairs (keep h t))

-- Of a fate, the pairs that are kept and the number that the new Tally says are together the number of
-- the account, stopped at the greatest that it can say.
abbrev pub IsCounted : (Fate → Bool) → (TallyFields → ℕ) → List Event → ℕ → Type 0
IsCounted test field h t = total test field h t ≡ min (fated test (keep h t) t + forgotten test field h t) most

-- Each number of answered or ended pairs in the account is counted so.
pub record AreCounted (h : List Event) (t : ℕ) : Type 0 where
  pub answered : IsCounted is_answered (λ c. c.answered) h t
  pub expired : IsCounted (is_ended Expired) (λ c. c.expired) h t
  pub unsubscribed : IsCounted (is_ended Unsubscribed) (λ c. c.unsubscribed) h t
  pub replaced : IsCounted (is_ended Replaced) (λ c. c.replaced) h t
  pub gone : IsCounted (is_ended Gone) (λ c. c.gone) h t
  pub spent : IsCounted (is_ended Spent) (λ c. c.spent) h t
  pub revoked : IsCounted (is_ended Revoked) (λ c. c.revoked) h t

abbrev pub KeepsCounts : Type 0
KeepsCounts = (h : List Event) (t : ℕ) → Legal h → time h ≤ t → AreCounted h t

-- What a later compaction keeps of what one has kept is legal too, and has the view of what it would
-- have kept of the whole history.
abbrev pub KeepsAgain : Type 0
KeepsAgain =
    (h : List Event) (t u : ℕ) → Legal h → time h ≤ t → t ≤ u → u < time_limit
    → Legal (keep (keep h t) u) × (view (keep (keep h t) u) u ≡ view (keep h u) u)

-- ---- whatever comes after

-- the number of an event that has a new one is above those of the history
abbrev pub IsNumberedAbove : What → List Event → Type 0
IsNumberedAbove (Asked i) h = intent_number h < i.n
IsNumberedAbove (Fetched v) h = version_number h < v.ver
IsNumberedAbove _ h = Unit {0}

-- an event from t on, whose serial, and whose number where it has a new one, are above those of the
-- history
pub record IsLater (h : List Event) (t : ℕ) (e : Event) : Type 0 where
  pub in_time : t ≤ e.t
  pub serial_new : serial h < e.serial
  pub number_new : IsNumberedAbove e.what h

-- The view at u of the history with the events c after it is that of what a compaction at t keeps with
-- the same events after it. Where there are none, the time of the history is t.
abbrev pub IsSameView : List Event → List Event → ℕ → ℕ → Type 0
IsSameView [] h t u = view (keep h t) u ≡ with_time t (view h u)
IsSameView (e ∷ c) h t u = view (e ∷ c ++ keep h t) u ≡ view (e ∷ c ++ h) u

-- The law of compaction. Take a legal history, a compaction at t, and any later events c, the newest
-- first, in whatever order of their times, serials and numbers. They make a legal history after the
-- whole exactly where they do after what the compaction keeps, and where they do, both have the same
-- view at each moment that is not before t or an event of c.
abbrev pub CompactionLaw : Type 0
CompactionLaw =
    (h c : List Event) (t : ℕ) → Legal h → time h ≤ t → t < time_limit → AllByRecursion (IsLater h t) c
    → (Legal (c ++ h) ↔ Legal (c ++ keep h t))
    × (Legal (c ++ h) → (u : ℕ) → t ≤ u → AllByRecursion (λ e. e.t ≤ u) c → IsSameView c h t u)
