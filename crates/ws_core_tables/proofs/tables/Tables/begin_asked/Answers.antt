use Rattle.std.proofs.Common.{ap}
use Rattle.ws_core_tables.specs.Rows.{Rows}
use Rattle.ws_core_tables.proofs.Together.{asked_taken_back}
use Rattle.ws_core_tables.proofs.tables.Tables.begin_asked.Goals as goal

pub returns-clause-undone : goal.returns-clause-undone
returns-clause-undone c =
    asked_taken_back c.args.event.now c.args.intent.now c.args.self.now c.asked.new.self c.self.inside.numbers c.requires.kind c.requires.follows c.in_ok-asked.ensures.rows (ap (λ (r : Rows). r.numbers) c.self.view_is)
