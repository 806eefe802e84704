use Rattle.std.proofs.Common.{◌≡◌, ◌≤◌, ℕ, List}
use Rattle.std.specs.List.Sorted.{IsStrictlySortedBy}
use Rattle.std.specs.Map.{keys_of}
use Rattle.ws_model.specs.declared.event.Event.{Event}
use Rattle.ws_model.specs.Legal.{Legal}
use Rattle.ws_core_tables.specs.Stands.{StandsFor as TablesStand}
use Rattle.ws_fate.specs.Stands.{AreShown}
use Rattle.ws_fate.specs.Totals.{none}
use Rattle.ws_tries.specs.Rows.{pair_order}
use Rattle.ws_forgotten.specs.Forgotten.{kept_ends, with_ends}
use Rattle.ws_forgotten.proofs.OneByOne.{AreWithin}
use Rattle.ws_forgotten.proofs.kept_pairs.kept_totals.Given as goal

abbrev pub invariant-loop-pair : goal.invariant-loop-pair
invariant-loop-pair l =
    record {
      next : (goal.iterator-loop-pair).can_next l.pair-iterator;
      finite : (goal.iterator-loop-pair).is_finite l.pair-iterator;
      ordered : IsStrictlySortedBy pair_order (keys_of l.tries);
      within : AreWithin l.totals;
      so_far : (h : List Event) (since : ℕ) → TablesStand h since l.tables → AreShown h since l.fates → Legal h → since ≤ l.t
          → with_ends l.totals (kept_ends h l.t l.kept (keys_of l.pair-iterator)) ≡ with_ends none (kept_ends h l.t l.kept (keys_of l.tries));
    }
