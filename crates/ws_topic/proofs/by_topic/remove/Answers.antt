use Rattle.std.proofs.Common.{ap, ◌∙◌, None}
use Rattle.ws_topic.specs.ByTopic.{by_bytes}
use Rattle.ws_topic.proofs.Keyed.{ascending, bytes_remove, rows_change}
use Rattle.ws_topic.proofs.by_topic.remove.Goals as goal

pub returns-clause-entries : goal.returns-clause-entries
returns-clause-entries g c = ap by_bytes c.remove.ensures.entries ∙ bytes_remove c.args.topic.now c.args.map.now.entries

pub returns-clause-rows : goal.returns-clause-rows
returns-clause-rows g c = rows_change c.args.topic.now c.args.map.now c.remove.new.self None c.remove.ensures.updates

pub returns-clause-ordered : goal.returns-clause-ordered
returns-clause-ordered g c = ascending c.remove.new.self.entries c.remove.ensures.ordered
