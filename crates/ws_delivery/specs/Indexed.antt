-- What holds of the open pairs and the order of their next tries together (own).
use Rattle.std.specs.Prelude.{◌≡◌, ℕ, ◌<◌, Bool, false, cond, List, [], ◌∷◌, ◌+◌, length, filter, Option, Some, None, IfSome}
use Rattle.std.specs.Map.{keys_of, lookup}
use Rattle.std.specs.BTreeMap.{is_at}
use Rattle.std.specs.List.Sorted.{IsStrictlySortedBy}
use Rattle.ws_order.specs.declared.next_try.NextTry.{NextTry}
use Rattle.ws_order.specs.NextTries.{same, has}
use Rattle.ws_delivery.specs.declared.open_pair.OpenPair.{OpenPair}
use Rattle.ws_delivery.specs.Table.{Rows, pair_order, pair_at, is_of_lease}

-- the next try of an open pair
abbrev pub try_of : (ℕ × ℕ) × OpenPair → NextTry
try_of e = record { at = e.1.next; ver = e.0.1; lease = e.0.0; exp = e.1.exp }

-- the next try of the first open pair of a lease, which has its lowest version
abbrev pub head_try : ℕ → Rows → Option NextTry
head_try n [] = None
head_try n (e ∷ rows) = cond (is_of_lease n e) (Some (try_of e)) (head_try n rows)

abbrev pub is_it : NextTry → Option NextTry → Bool
is_it x None = false
is_it x (Some y) = same x y

-- The pairs of one lease have one end, none was missed eight times, and what is in the order of next
-- tries is the first open pair of each lease.
pub record IsIndexed (rows : Rows) (heads : List NextTry) : Type 0 where
  pub ordered : IsStrictlySortedBy pair_order (keys_of rows)
  pub one_end : (n v w : ℕ) → IfSome (pair_at v n rows) (λ p. IfSome (pair_at w n rows) (λ q. p.exp ≡ q.exp))
  pub few : (n v : ℕ) → IfSome (pair_at v n rows) (λ p. p.tries < 8)
  pub headed : (x : NextTry) → has x heads ≡ is_it x (head_try x.lease rows)

-- ---- how many open pairs each lease has, by the lease's end

-- the numbers of open pairs, each at the end and the number of a lease
abbrev pub Ends : Type 0
Ends = List ((ℕ × ℕ) × ℕ)

-- it is this end and this lease
abbrev pub is_end : ℕ → ℕ → ℕ × ℕ → Bool
is_end x n = is_at (pair_order (x, n))

-- the sum of the numbers at the ends and leases of one kind
abbrev pub total : (ℕ × ℕ → Bool) → Ends → ℕ
total g [] = 0
total g (e ∷ ends) = cond (g e.0) e.1 0 + total g ends

-- how many open pairs are of the ends and leases of one kind
abbrev pub number_ending : (ℕ × ℕ → Bool) → Rows → ℕ
number_ending g rows = length (filter (λ e. g (e.1.exp, e.0.0)) rows)

-- each end and lease stands once, with a number that isn't 0
pub record AreCounts (ends : Ends) : Type 0 where
  pub ordered : IsStrictlySortedBy pair_order (keys_of ends)
  pub some : (q : ℕ × ℕ) → IfSome (lookup (is_at (pair_order q)) ends) (λ k. 0 < k)

-- The numbers by end are those of the open pairs.
pub record IsCounted (rows : Rows) (ends : Ends) : Type 0 where
  pub are_counts : AreCounts ends
  pub counts : (g : ℕ × ℕ → Bool) → total g ends ≡ number_ending g rows
