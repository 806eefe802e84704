-- The open pairs: versions that are owed to leases (WebSub section 7; the retries are own).
use Rattle.std.specs.Prelude.{◌≡◌, ℕ, ◌<◌, ◌+◌, IsSome, Bool, cond, List, length, filter, nat_lt, nat_le, ◌==◌, ◌&&◌, Option, Some, None}
use Rattle.std.specs.Ordering.{nat_cmp, ordering_then}
use Rattle.std.specs.declared.cmp.Ordering.{Ordering}
use Rattle.std.specs.Map.{lookup, values_of}
use Rattle.std.specs.BTreeMap.{is_at}
use Rattle.ws_model.specs.declared.fate.Fate.{Fate}
use Rattle.ws_model.specs.declared.fate.Fate.TheVariants.{Owed, Ended}
use Rattle.ws_model.specs.declared.fate.Cause.TheVariants.{Expired, Spent}
use Rattle.ws_model.specs.Fate.{delay}
use Rattle.ws_delivery.specs.declared.open_pair.OpenPair.{OpenPair}

-- by lease, then by version
abbrev pub pair_order : ℕ × ℕ → ℕ × ℕ → Ordering
pair_order x y = ordering_then (nat_cmp x.0 y.0) (nat_cmp x.1 y.1)

-- the open pairs by lease and version
abbrev pub Rows : Type 0
Rows = List ((ℕ × ℕ) × OpenPair)

-- the open pair of this version and this lease
abbrev pub pair_at : ℕ → ℕ → Rows → Option OpenPair
pair_at v n rows = lookup (is_at (pair_order (n, v))) rows

-- it is this version and this lease
abbrev pub is_here : ℕ → ℕ → ℕ → ℕ → Bool
is_here ver lease v n = (lease == n) && (ver == v)

abbrev pub unexpired : ℕ → Option OpenPair → Option OpenPair
unexpired t None = None
unexpired t (Some p) = cond (nat_lt t p.exp) (Some p) None

-- the pair of this version and this lease, where it is owed at t: it is open, and its lease hasn't ended
abbrev pub owed_at : ℕ → ℕ → ℕ → Rows → Option OpenPair
owed_at t v n rows = unexpired t (pair_at v n rows)

-- a pair that is born at t: its first try is due at once
abbrev pub fresh : ℕ → ℕ → OpenPair
fresh exp t = record { tries = 0; next = t; exp = exp }

-- a pair after one more miss, at t
abbrev pub missed : ℕ → OpenPair → OpenPair
missed t p = record { tries = p.tries + 1; next = t + delay (p.tries + 1); exp = p.exp }

-- the eighth miss of a pair ends it
abbrev pub is_spent : OpenPair → Bool
is_spent p = nat_le 7 p.tries

abbrev pub after_miss : ℕ → OpenPair → Option OpenPair
after_miss t p = cond (is_spent p) None (Some (missed t p))

abbrev pub fate_after_miss : ℕ → OpenPair → Fate
fate_after_miss t p = cond (is_spent p) (Ended Spent) (Owed (p.tries + 1) (t + delay (p.tries + 1)))

-- how an open pair stands at t
abbrev pub fate_at : ℕ → OpenPair → Fate
fate_at t p = cond (nat_lt t p.exp) (Owed p.tries p.next) (Ended Expired)

abbrev pub is_of_lease : ℕ → (ℕ × ℕ) × OpenPair → Bool
is_of_lease n e = e.0.0 == n

-- how many pairs of a lease are open
abbrev pub number_of : ℕ → Rows → ℕ
number_of n rows = length (filter (is_of_lease n) rows)

-- how many pairs are owed at t
abbrev pub number_owed : ℕ → Rows → ℕ
number_owed t rows = length (filter (λ p. nat_lt t p.exp) (values_of rows))

-- the pair that takes over from one: it is born at t, with the end of the new lease
abbrev pub carried : ℕ → ℕ → Option OpenPair → Option OpenPair
carried exp t None = None
carried exp t (Some p) = Some (fresh exp t)

-- the lowest open version of a lease above a given one
abbrev pub IsNextOpen : ℕ → ℕ → Rows → Option ℕ → Type 0
IsNextOpen v n rows None = (w : ℕ) → v < w → pair_at w n rows ≡ None
IsNextOpen v n rows (Some u) = (v < u) × IsSome (pair_at u n rows) × ((w : ℕ) → v < w → w < u → pair_at w n rows ≡ None)
