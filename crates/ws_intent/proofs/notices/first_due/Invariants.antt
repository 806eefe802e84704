use Rattle.std.proofs.Common.{◌≡◌, find, not}
use Rattle.std.specs.Map.{keys_of}
use Rattle.ws_model.specs.Due.{is_out}
use Rattle.ws_model.specs.declared.work.Work.TheVariants.{Notice}
use Rattle.ws_intent.proofs.notices.first_due.Given as goal

abbrev pub invariant-loop-n : goal.invariant-loop-n
invariant-loop-n l =
    record {
      next : goal.iterator-loop-n.can_next l.n-iterator;
      finite : goal.iterator-loop-n.is_finite l.n-iterator;
      rest : find (λ n. not (is_out l.held (Notice n))) (keys_of l.n-iterator) ≡ find (λ n. not (is_out l.held (Notice n))) (keys_of l.notices.entries);
    }
