use Rattle.std.proofs.Common.{ap, ◌∙◌, subst}
use Rattle.ws_topic.specs.Stored.{IsListed}
use Rattle.ws_topic.specs.Restored.{last_ping}
use Rattle.ws_core_tables.specs.Rows.{Rows}
use Rattle.ws_core_tables.proofs.Together.{pinged_taken_back}
use Rattle.ws_core_tables.proofs.tables.Tables.begin_pinged.Goals as goal

pub returns-clause-undone : goal.returns-clause-undone
returns-clause-undone c =
    pinged_taken_back c.args.event.now c.args.topic.now c.args.self.now c.pinged.new.self c.last_ping.result c.self.inside.numbers
    (subst (λ (r : Rows). IsListed r.topics.fetches) c.self.view_is c.last_ping.ensures.listed)
    (c.last_ping.ensures.ping ∙ ap (λ topic. last_ping topic c.self.inside.topics) c.as_slice.ensures ∙ ap (λ (r : Rows). last_ping c.args.topic.now r.topics) c.self.view_is)
    c.in_ok-pinged.ensures.rows
    (ap (λ (r : Rows). r.numbers) c.self.view_is)
