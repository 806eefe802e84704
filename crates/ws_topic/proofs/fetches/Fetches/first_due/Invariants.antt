use Rattle.std.proofs.Common.{◌≡◌, ℕ, List, find, not}
use Rattle.std.specs.List.{AllByRecursion}
use Rattle.std.specs.Map.{keys_of}
use Rattle.ws_model.specs.Due.{is_out}
use Rattle.ws_model.specs.declared.work.Work.TheVariants.{Fetch}
use Rattle.ws_topic.specs.declared.rows.OwedFetch.{OwedFetch}
use Rattle.ws_topic.specs.ByTopic.{by_bytes}
use Rattle.ws_topic.proofs.fetches.Fetches.first_due.Given as goal

abbrev pub invariant-loop-topic : goal.invariant-loop-topic
invariant-loop-topic l =
    record {
      next : goal.iterator-loop-topic.can_next l.topic-iterator;
      finite : goal.iterator-loop-topic.is_finite l.topic-iterator;
      rest : find (λ t. not (is_out l.held (Fetch t 0))) (keys_of (by_bytes l.topic-iterator)) ≡ find (λ t. not (is_out l.held (Fetch t 0))) (keys_of l.self);
      keyed : AllByRecursion (λ (e : List ℕ × OwedFetch). e.1.topic ≡ e.0) (by_bytes l.topic-iterator);
    }
