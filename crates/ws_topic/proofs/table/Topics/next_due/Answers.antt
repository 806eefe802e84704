use Rattle.std.proofs.Common.{◌≡◌, ℕ, List, Option, Some, None, refl, subst, sym, ◌∙◌, Bor}
use Rattle.std.specs.Prelude.{option_map}
use Rattle.ws_model.specs.declared.work.Work.{Work}
use Rattle.ws_model.specs.declared.work.Work.TheVariants.{Fetch}
use Rattle.ws_model.specs.Moment.{serial}
use Rattle.ws_topic.specs.Rows.{Rows}
use Rattle.ws_topic.specs.Stands.{StandsFor}
use Rattle.ws_topic.proofs.Asking.{next_is_due}
use Rattle.ws_topic.proofs.table.Topics.next_due.Goals as goal

as_fetch : (s : ℕ) (o : Option (Bor (List ℕ))) → option_map (λ k. Fetch k.now s) o ≡ option_map (λ t. Fetch t s) (option_map (λ k. k.now) o)
as_fetch s None = refl
as_fetch s (Some k) = refl

pub returns-clause-stands : goal.returns-clause-stands
returns-clause-stands c = λ h s l.
    as_fetch (serial h) c.first_due.result
    ∙ next_is_due (record { versions = c.self.inside.versions.versions; latest = c.self.inside.versions.latest; fetches = c.self.inside.fetches }) h (subst (λ (r : Rows). StandsFor r h) (sym c.self.view_is) s) l c.first_due.ensures.listed c.args.held.now (option_map (λ k. k.now) c.first_due.result) c.first_due.ensures.first
