use Rattle.std.proofs.Common.{◌≡◌, List}
use Rattle.ws_model.specs.declared.event.Event.{Event}
use Rattle.ws_core_tables.specs.Committing.{committed, numbered}
use Rattle.ws_core_tables.specs.Numbers.{numbers_of}
use Rattle.ws_core_tables.proofs.tables.Tables.numbered.Given as goal

abbrev pub invariant-loop-what : goal.invariant-loop-what
invariant-loop-what l =
    record {
      next : (goal.iterator-loop-what).can_next l.what-iterator;
      finite : (goal.iterator-loop-what).is_finite l.what-iterator;
      far : (h : List Event) → l.initial.numbers ≡ numbers_of h → (l.numbers ≡ numbers_of (committed l.t l.yielded h)) × (l.events.items ≡ numbered l.t l.yielded h);
    }
