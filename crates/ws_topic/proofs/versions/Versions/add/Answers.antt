use Rattle.std.proofs.Common.{ap, ◌∙◌}
use Rattle.ws_topic.specs.Rows.{Kept, number_at}
use Rattle.ws_topic.specs.ByTopic.{by_bytes}
use Rattle.ws_topic.proofs.Stores.{stored_more}
use Rattle.ws_topic.proofs.versions.Versions.add.Goals as goal

pub invariant_of-self-2 : goal.invariant_of-self-2
invariant_of-self-2 c =
    stored_more c.self.inside.by_number.entries c.put_both.new.by_number.entries (by_bytes c.self.inside.latest.entries) (by_bytes c.put_both.new.latest.entries) c.self.inside.bodies c.in_ok-bodies.bodies c.args.version
    c.self.invariant (ap (λ (k : Kept). number_at c.args.version.ver k.versions) c.self.view_is ∙ c.requires.new) c.in_ok-put_both.ensures.entries c.in_ok-put_both.ensures.ordered c.in_ok-put_both.ensures.ordered_latest c.in_ok-bodies.ensures
