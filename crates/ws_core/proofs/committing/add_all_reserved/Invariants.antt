use Rattle.std.proofs.Common.{◌≡◌, ◌≤◌, ◌++◌, length}
use Rattle.std.specs.Prelude.{map}
use Rattle.std.specs.Vec.Iter.{into_iter_items}
use Rattle.ws_sweep.specs.Rows.{members}
use Rattle.ws_kept.specs.Stands.{light_event}
use Rattle.ws_core.proofs.committing.add_all_reserved.Given as goal

abbrev pub invariant-loop-event : goal.invariant-loop-event
invariant-loop-event l =
    record {
      next : (goal.iterator-loop-event).can_next l.event-iterator;
      finite : (goal.iterator-loop-event).is_finite l.event-iterator;
      room : length (into_iter_items l.event-iterator) ≤ l.log.room;
      so_far : members l.log ++ map light_event (into_iter_items l.event-iterator) ≡ members l.fn.log ++ map light_event l.fn.events.items;
    }
