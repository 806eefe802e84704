-- What fates, leases and due work keep to (own).
use Rattle.std.specs.Prelude.{◌≡◌, ℕ, ◌≤◌, true, false, List, [], ◌∷◌, ◌++◌, ◌==◌, Some, None, find}
use Rattle.std.specs.List.{AllByRecursion, list_any}
use Rattle.ws_model.specs.declared.event.Event.{Event}
use Rattle.ws_model.specs.declared.lease.Lease.{Lease}
use Rattle.ws_model.specs.declared.work.Work.{Work}
use Rattle.ws_model.specs.declared.work.Work.TheVariants.{Push}
use Rattle.ws_model.specs.Moment.{last_time}
use Rattle.ws_model.specs.Intents.{same_pair}
use Rattle.ws_model.specs.Leases.{live}
use Rattle.ws_model.specs.Fate.{Pair, fate, is_owed}
use Rattle.ws_model.specs.Pairs.{pairs}
use Rattle.ws_model.specs.Due.{due, same_work}
use Rattle.ws_model.specs.Legal.{Legal}
use Rattle.ws_model.specs.Verdict.{pair_of, fate_of}

-- A fate at t that is not owed stays, at u, through every legal continuation c whose events come from
-- t on and not after u.
abbrev pub EndedStays : Type 0
EndedStays =
    (h c : List Event) (t u : ℕ) → Legal (c ++ h)
    → AllByRecursion (λ e. t ≤ e.t) c → AllByRecursion (λ e. e.t ≤ u) c → t ≤ u
    → AllByRecursion (λ p. is_owed (fate h p t) ≡ false → fate (c ++ h) p u ≡ fate h p t) (pairs h)

-- The numbers of a pair tell it from all others, so that it has one fate at t.
abbrev pub OneFate : Type 0
OneFate =
    (h : List Event) (t : ℕ) → Legal h
    → AllByRecursion (λ p. fate_of h p.version.ver p.lease.intent.n t ≡ Some (fate h p t)) (pairs h)

-- A pair that the history doesn't have is never due.
abbrev pub OnlyPairsDue : Type 0
OnlyPairsDue =
    (h : List Event) (t : ℕ) (out : List Work) (v n : ℕ) → pair_of h v n ≡ None
    → list_any (same_work (Push v n)) (due h t out) ≡ false

-- no two of them are of one topic and callback
abbrev pub AreApart : List Lease → Type 0
AreApart [] = Unit {0}
AreApart (l ∷ ls) = AllByRecursion (λ (m : Lease). same_pair l.intent m.intent ≡ false) ls × AreApart ls

-- Of one topic and callback at most one lease is live at a moment.
abbrev pub OneLive : Type 0
OneLive = (h : List Event) (t : ℕ) → Legal h → last_time h ≤ t → AreApart (live h t)

-- a pair of these numbers that is owed at t, whose lease is live at t
pub record IsLicensed (h : List Event) (t v n : ℕ) : Type 0 where
  pub licensed : Pair
  pub paired : pair_of h v n ≡ Some licensed
  pub still_owed : is_owed (fate h licensed t) ≡ true
  pub lease_lives : find (λ l. l.intent.n == n) (live h t) ≡ Some licensed.lease

-- A push that is due is licensed: its pair is owed, and its lease is live, at that moment.
abbrev pub DueIsLicensed : Type 0
DueIsLicensed =
    (h : List Event) (t : ℕ) (out : List Work) (v n : ℕ) → Legal h
    → list_any (same_work (Push v n)) (due h t out) ≡ true → IsLicensed h t v n
