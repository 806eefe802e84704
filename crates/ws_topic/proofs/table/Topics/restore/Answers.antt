use Rattle.std.proofs.Common.{ap, ◌∙◌}
use Rattle.ws_topic.specs.Restored.{with_fetches}
use Rattle.ws_topic.proofs.Restoring.{ping_undone}
use Rattle.ws_topic.proofs.table.Topics.restore.Goals as goal

pub returns-clause-undoes : goal.returns-clause-undoes
returns-clause-undoes c = λ rows serial listed before was.
    ap (λ es. with_fetches es (record { versions = c.self.inside.versions.versions; latest = c.self.inside.versions.latest; fetches = c.self.inside.fetches })) c.restore.ensures.rows
    ∙ ping_undone c.args.topic.now serial rows (record { versions = c.self.inside.versions.versions; latest = c.self.inside.versions.latest; fetches = c.self.inside.fetches }) c.args.before listed before (c.self.view_is ∙ was)
