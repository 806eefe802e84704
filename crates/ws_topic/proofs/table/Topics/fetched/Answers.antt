use Rattle.std.proofs.Common.{◌≡◌, ap, cond, refl, subst, sym, ◌∙◌}
use Rattle.std.proofs.lemmas.Result.{on_ok_weaker}
use Rattle.ws_topic.specs.Rows.{Rows}
use Rattle.ws_topic.specs.Stands.{StandsFor}
use Rattle.std.specs.Prelude.{bytes_eq}
use Rattle.ws_topic.specs.ByTopic.{at_topic}
use Rattle.ws_topic.specs.Rows.{answered}
use Rattle.ws_topic.proofs.Changes.{fetched_stands}
use Rattle.ws_topic.proofs.table.Topics.fetched.Goals as goal

pub returns-clause-stands : goal.returns-clause-stands
returns-clause-stands c = λ h e s l is.
    fetched_stands (record { versions = c.self.inside.versions.versions; latest = c.self.inside.versions.latest; fetches = c.self.inside.fetches }) (record { versions = c.add.new.self.versions; latest = c.add.new.self.latest; fetches = c.answer.new.self }) c.args.version
    c.in_ok-add.ensures.look c.in_ok-add.ensures.look_latest
    (subst (λ t. (q : _) → at_topic q c.answer.new.self ≡ cond (bytes_eq q t) (answered c.args.version.upto (at_topic t c.self.inside.fetches)) (at_topic q c.self.inside.fetches))
    (c.as_slice-2.ensures ∙ c.in_ok-topic.ensures ∙ c.as_slice.ensures) c.answer.ensures.look)
    h e (subst (λ (r : Rows). StandsFor r h) (sym c.self.view_is) s) l is
