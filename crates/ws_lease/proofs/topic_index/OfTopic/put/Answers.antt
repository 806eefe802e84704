use Rattle.std.proofs.Common.{Some}
use Rattle.ws_lease.proofs.ByteKeys.{updates_at}
use Rattle.ws_lease.proofs.topic_index.OfTopic.put.Goals as goal
use Rattle.ws_lease.proofs.topic_index.OfTopic.put.Goals.{in-Err, in-Ok-Some, in-Ok-None}

pub returns-clause-callbacks : goal.returns-clause-callbacks
returns-clause-callbacks c =
    elim c.match-insert.branch [
      | in-Err w ↦ rw w.result-is tt
      | in-Ok-Some w ↦ rw (w.result-is, w.self-is) (updates_at c.args.callback.items c.args.self.now.by_callback c.insert-2.new.self (Some c.args.n) w.in-Ok-Some.ensures.updates)
      | in-Ok-None w ↦ rw (w.result-is, w.self-is) (updates_at c.args.callback.items c.args.self.now.by_callback c.insert-2.new.self (Some c.args.n) w.in-Ok-None.ensures.updates)
    ]
