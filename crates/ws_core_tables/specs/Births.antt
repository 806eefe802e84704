-- The pairs of a new version (WebSub section 7).
use Rattle.std.specs.Prelude.{◌≡◌, ℕ, ◌≤◌, Bool, true, false, not, cond, ◌&&◌, List, [], ◌∷◌, ◌==◌, Option, Some, None, IfSome}
use Rattle.std.specs.List.{list_any}
use Rattle.ws_model.specs.declared.lease.Lease.{Lease}
use Rattle.ws_model.specs.Leases.{expiry}
use Rattle.ws_lease.specs.Table.{Rows as LeaseRows, live_at}
use Rattle.ws_delivery.specs.declared.open_pair.OpenPair.{OpenPair}
use Rattle.ws_delivery.specs.Table.{Rows as DeliveryRows, fresh, pair_at}

abbrev pub member : ℕ → List ℕ → Bool
member n ns = list_any (λ m. m == n) ns

-- each number stands there once
abbrev pub AreDistinct : List ℕ → Type 0
AreDistinct [] = Unit {0}
AreDistinct (n ∷ ns) = (member n ns ≡ false) × AreDistinct ns

-- the pair that is born at t for a lease
abbrev pub born_for : ℕ → Option Lease → Option OpenPair
born_for t None = None
born_for t (Some l) = Some (fresh (expiry l) t)

-- it is of the version, and of one of these leases
abbrev pub is_among : ℕ → List ℕ → ℕ → ℕ → Bool
is_among ver numbers v n = (ver == v) && member n numbers

-- a lease that is live at t was sent by then, and its open pairs have its end
abbrev pub IsBearer : ℕ → ℕ → LeaseRows → DeliveryRows → Type 0
IsBearer t n leases rows = IfSome (live_at n t leases) (λ l. (l.sent ≤ t) × ((v : ℕ) → IfSome (pair_at v n rows) (λ p. p.exp ≡ expiry l)))

-- the version's pairs are changed for those of the leases that aren't left, and no others
pub record IsDone (ver : ℕ) (numbers left : List ℕ) (change : ℕ → Option OpenPair) (old now : DeliveryRows) : Type 0 where
  pub changed : (v n : ℕ) → pair_at v n now ≡ cond (is_among ver numbers v n && not (member n left)) (change n) (pair_at v n old)
  pub within : (n : ℕ) → member n left ≡ true → member n numbers ≡ true
  pub distinct : AreDistinct left
