use Rattle.std.proofs.Common.{◌≡◌, ◌≤◌, ◌||◌, ℕ, List, drop}
use Rattle.std.specs.BTreeSet.{contains}
use Rattle.std.specs.List.{list_any}
use Rattle.std.specs.Ordering.{nat_cmp}
use Rattle.ws_model.specs.declared.event.Event.{Event}
use Rattle.ws_model.specs.Legal.{Legal}
use Rattle.ws_core_tables.specs.Stands.{StandsFor}
use Rattle.ws_kept.specs.Finding.{gives_lease}
use Rattle.ws_kept.proofs.leases.add_given.Given as goal

abbrev pub invariant-loop-event : goal.invariant-loop-event
invariant-loop-event l =
    record {
      so_far : (h : List Event) (since : ℕ) → StandsFor h since l.tables → Legal h → since ≤ l.t
          → (n : ℕ) → (contains nat_cmp l.leases n || list_any (λ e. gives_lease h l.t n e.what) (drop l.event-index l.events))
          ≡ (contains nat_cmp l.fn.leases n || list_any (λ e. gives_lease h l.t n e.what) l.events);
    }
