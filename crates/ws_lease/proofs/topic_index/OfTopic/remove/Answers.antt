use Rattle.std.proofs.Common.{None}
use Rattle.ws_lease.proofs.ByteKeys.{updates_at}
use Rattle.ws_lease.proofs.topic_index.OfTopic.remove.Goals as goal

pub returns-clause-callbacks : goal.returns-clause-callbacks
returns-clause-callbacks c = updates_at c.args.callback.now c.args.self.now.by_callback c.remove.new.self None c.remove.ensures.updates
