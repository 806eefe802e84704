-- The event that revokes a live lease, by the lease's number.
use Rattle.std.proofs.Common.{◌≡◌, ℕ, ap, Option, Some, None}
use Rattle.std.specs.Prelude.{codes, option_map}
use Rattle.ws_model.specs.declared.event.What.TheVariants.{Revoked}
use Rattle.ws_model.specs.declared.lease.Lease.{Lease}

pub revoked_by : (o : Option Lease) (r : Option ℕ) → r ≡ option_map (λ l. l.intent.n) o
    → option_map (λ n. Revoked n (codes "subscription revoked")) r ≡ option_map (λ l. Revoked l.intent.n (codes "subscription revoked")) o
revoked_by None r e = ap (option_map (λ n. Revoked n (codes "subscription revoked"))) e
revoked_by (Some l) r e = ap (option_map (λ n. Revoked n (codes "subscription revoked"))) e
