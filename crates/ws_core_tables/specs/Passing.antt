-- Leases that have expired leave the tables (own).
use Rattle.std.specs.Prelude.{◌≡◌, ℕ, ◌≤◌, ◌<◌, false, IfSome, Some, nat_le, ◌==◌}
use Rattle.std.specs.List.{list_any}
use Rattle.ws_model.specs.declared.lease.Lease.{Lease}
use Rattle.ws_model.specs.Leases.{expiry}
use Rattle.ws_lease.specs.Table.{Rows as LeaseRows, lease_at, without}
use Rattle.ws_delivery.specs.Table.{Rows as DeliveryRows, owed_at, pair_at}
use Rattle.ws_core_tables.specs.Rows.{Rows}

-- no held lease has expired by t
abbrev pub AreUnexpired : ℕ → LeaseRows → Type 0
AreUnexpired t rows = list_any (λ e. nat_le (expiry e.1) t) rows ≡ false

-- Of the pairs of the lease those that are left end after t. From t on what is owed is what was, and a pair that is open was, as it is;
-- those of other leases are as they were.
pub record ClosesExpired (t lease : ℕ) (old new : DeliveryRows) : Type 0 where
  pub owed : (u v n : ℕ) → t ≤ u → owed_at u v n new ≡ owed_at u v n old
  pub rest : (v n : ℕ) → IfSome (pair_at v n new) (λ p. pair_at v n old ≡ Some p)
  pub left : (v : ℕ) → IfSome (pair_at v lease new) (λ p. t < p.exp)
  pub others : (v n : ℕ) → (lease == n) ≡ false → pair_at v n new ≡ pair_at v n old

-- the lease of this number, which had expired by t, is taken out, and of its pairs those that had
pub record TakesLease (t n : ℕ) (old new : Rows) : Type 0 where
  pub lease : Lease
  pub held : lease_at n old.leases ≡ Some lease
  pub expired : expiry lease ≤ t
  pub leases : new.leases ≡ without n old.leases
  pub pairs : ClosesExpired t n old.deliveries new.deliveries
