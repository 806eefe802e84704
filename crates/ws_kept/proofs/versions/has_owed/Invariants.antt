use Rattle.std.proofs.Common.{◌≡◌, ◌≤◌, ℕ, List}
use Rattle.std.specs.List.{list_any}
use Rattle.ws_model.specs.declared.event.Event.{Event}
use Rattle.ws_fate.specs.Stands.{is_owed_at}
use Rattle.ws_core_tables.specs.Stands.{StandsFor}
use Rattle.ws_kept.specs.Finding.{owes}
use Rattle.ws_kept.proofs.versions.has_owed.Given as goal

abbrev pub invariant-loop-pair : goal.invariant-loop-pair
invariant-loop-pair l =
    record {
      next : (goal.iterator-loop-pair).can_next l.pair-iterator;
      finite : (goal.iterator-loop-pair).is_finite l.pair-iterator;
      so_far : (h : List Event) (since : ℕ) → StandsFor h since l.tables → since ≤ l.t → list_any (λ e. is_owed_at h l.t e.0.0 e.0.1) l.pair-iterator ≡ list_any (λ e. owes h l.t l.ver e.0) l.tries;
    }
