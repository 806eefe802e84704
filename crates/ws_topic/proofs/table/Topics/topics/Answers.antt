use Rattle.std.proofs.Common.{◌≡◌, ap, cond, refl, subst, sym, ◌∙◌}
use Rattle.std.proofs.lemmas.Result.{on_ok_weaker}
use Rattle.ws_topic.specs.Rows.{Rows}
use Rattle.ws_topic.specs.Stands.{StandsFor}
use Rattle.ws_topic.proofs.Asking.{topic_count}
use Rattle.ws_topic.proofs.table.Topics.topics.Goals as goal

pub returns-clause-stands : goal.returns-clause-stands
returns-clause-stands c = λ h s l. c.topics.ensures.count ∙ topic_count (record { versions = c.self.inside.versions.versions; latest = c.self.inside.versions.latest; fetches = c.self.inside.fetches }) h (subst (λ (r : Rows). StandsFor r h) (sym c.self.view_is) s) l c.topics.ensures.ordered
