use Rattle.std.proofs.Common.{subst, sym, ◌∙◌}
use Rattle.ws_intent.specs.Rows.{Rows}
use Rattle.ws_intent.specs.Stands.{StandsFor}
use Rattle.ws_intent.proofs.Asking.{first_is_first}
use Rattle.ws_intent.proofs.table.Intents.is_first.Goals as goal

pub returns-clause-stands : goal.returns-clause-stands
returns-clause-stands c = λ h s l.
    c.is_first.ensures.first
    ∙ first_is_first (record { pending = c.self.inside.pending; notices = c.self.inside.notices.entries }) h (subst (λ (r : Rows). StandsFor r h) (sym c.self.view_is) s) l c.is_first.ensures.keyed c.args.n
