use Rattle.std.proofs.Common.{subst, sym, ◌∙◌}
use Rattle.ws_intent.specs.Rows.{Rows}
use Rattle.ws_intent.specs.Stands.{StandsFor}
use Rattle.ws_intent.proofs.Asking.{notice_count}
use Rattle.ws_intent.proofs.table.Intents.notices.Goals as goal

pub returns-clause-stands : goal.returns-clause-stands
returns-clause-stands c = λ h s l.
    c.len.ensures.len
    ∙ notice_count (record { pending = c.self.inside.pending; notices = c.self.inside.notices.entries }) h (subst (λ (r : Rows). StandsFor r h) (sym c.self.view_is) s) l c.self.invariant
