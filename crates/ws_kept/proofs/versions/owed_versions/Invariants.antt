use Rattle.std.proofs.Common.{◌≡◌, ◌≤◌, ◌||◌, ℕ, List}
use Rattle.std.specs.BTreeSet.{contains}
use Rattle.std.specs.List.{list_any}
use Rattle.std.specs.Ordering.{nat_cmp}
use Rattle.ws_model.specs.declared.event.Event.{Event}
use Rattle.ws_core_tables.specs.Stands.{StandsFor}
use Rattle.ws_kept.specs.Finding.{owes}
use Rattle.ws_kept.proofs.versions.owed_versions.Given as goal

abbrev pub invariant-loop-pair : goal.invariant-loop-pair
invariant-loop-pair l =
    record {
      next : (goal.iterator-loop-pair).can_next l.pair-iterator;
      finite : (goal.iterator-loop-pair).is_finite l.pair-iterator;
      so_far : (h : List Event) (since : ℕ) → StandsFor h since l.tables → since ≤ l.t
          → (v : ℕ) → (contains nat_cmp l.versions v || list_any (λ e. owes h l.t v e.0) l.pair-iterator) ≡ list_any (λ e. owes h l.t v e.0) l.tries;
    }
