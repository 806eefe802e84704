use Rattle.std.proofs.Common.{◌≡◌, ◌+◌}
use Rattle.ws_topic.specs.Besides.{bodies_besides}
use Rattle.ws_topic.specs.ByTopic.{by_bytes}
use Rattle.ws_topic.proofs.besides.bodies_besides.Given as goal

abbrev pub invariant-loop-ver : goal.invariant-loop-ver
invariant-loop-ver l =
    record {
      next : (goal.iterator-loop-ver).can_next l.ver-iterator;
      finite : (goal.iterator-loop-ver).is_finite l.ver-iterator;
      so_far : l.bytes + bodies_besides l.topic l.among (by_bytes l.latest.entries) l.ver-iterator ≡ bodies_besides l.topic l.among (by_bytes l.latest.entries) l.by_number.entries;
    }
