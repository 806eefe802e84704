use Rattle.std.proofs.Common.{ap, ◌∙◌, Some}
use Rattle.ws_topic.specs.ByTopic.{by_bytes}
use Rattle.ws_topic.proofs.Keyed.{ascending, bytes_insert, rows_change}
use Rattle.ws_topic.proofs.by_topic.put.Goals as goal

pub returns-in_err-insert-clause-ordered : goal.returns-in_err-insert-clause-ordered
returns-in_err-insert-clause-ordered g c = ascending c.insert.new.self.entries c.in_err-insert.ensures.ordered

pub returns-clause-entries : goal.returns-clause-entries
returns-clause-entries g c = ap by_bytes c.in_ok-insert.ensures.entries ∙ bytes_insert c.args.map.now.entries c.args.topic c.args.value

pub returns-clause-rows : goal.returns-clause-rows
returns-clause-rows g c = rows_change c.args.topic.items c.args.map.now c.insert.new.self (Some c.args.value) c.in_ok-insert.ensures.updates

pub returns-clause-ordered : goal.returns-clause-ordered
returns-clause-ordered g c = ascending c.insert.new.self.entries c.in_ok-insert.ensures.ordered
