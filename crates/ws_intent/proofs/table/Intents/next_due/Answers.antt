use Rattle.std.proofs.Common.{Some, None, ap, sym, subst, ◌∙◌}
use Rattle.ws_intent.specs.Rows.{Rows, next_of}
use Rattle.ws_intent.specs.Stands.{StandsFor}
use Rattle.ws_intent.proofs.Asking.{next_first, next_is_due, next_second}
use Rattle.ws_intent.proofs.Rises.{nothing}
use Rattle.ws_intent.proofs.table.Intents.next_due.Goals as goal

pub returns-in-Some-clause-first : goal.returns-in-Some-clause-first
returns-in-Some-clause-first c = next_first c.args.held.now (record { pending = c.self.inside.pending; notices = c.self.inside.notices.entries }) c.in-Some.n c.in-Some.ensures.first ∙ ap (next_of c.args.held.now) c.self.view_is

pub returns-in-Some-clause-stands : goal.returns-in-Some-clause-stands
returns-in-Some-clause-stands c = λ h s l.
    next_first c.args.held.now (record { pending = c.self.inside.pending; notices = c.self.inside.notices.entries }) c.in-Some.n c.in-Some.ensures.first
    ∙ next_is_due (record { pending = c.self.inside.pending; notices = c.self.inside.notices.entries }) h (subst (λ (r : Rows). StandsFor r h) (sym c.self.view_is) s) l c.args.held.now c.first_due.ensures.keyed c.self.invariant

pub returns-in-Some-first_due-clause-first : goal.returns-in-Some-first_due-clause-first
returns-in-Some-first_due-clause-first c = next_second c.args.held.now (record { pending = c.self.inside.pending; notices = c.self.inside.notices.entries }) (Some c.in-Some-first_due.n) (sym c.first_due.ensures.first ∙ nothing c.first_due.result c.in_default.not-Some) c.in-Some-first_due.ensures ∙ ap (next_of c.args.held.now) c.self.view_is

pub returns-in-Some-first_due-clause-stands : goal.returns-in-Some-first_due-clause-stands
returns-in-Some-first_due-clause-stands c = λ h s l.
    next_second c.args.held.now (record { pending = c.self.inside.pending; notices = c.self.inside.notices.entries }) (Some c.in-Some-first_due.n) (sym c.first_due.ensures.first ∙ nothing c.first_due.result c.in_default.not-Some) c.in-Some-first_due.ensures
    ∙ next_is_due (record { pending = c.self.inside.pending; notices = c.self.inside.notices.entries }) h (subst (λ (r : Rows). StandsFor r h) (sym c.self.view_is) s) l c.args.held.now c.first_due.ensures.keyed c.self.invariant

pub returns-in-None-clause-first : goal.returns-in-None-clause-first
returns-in-None-clause-first c = next_second c.args.held.now (record { pending = c.self.inside.pending; notices = c.self.inside.notices.entries }) None (sym c.first_due.ensures.first ∙ nothing c.first_due.result c.in_default.not-Some) c.in-None.ensures ∙ ap (next_of c.args.held.now) c.self.view_is

pub returns-in-None-clause-stands : goal.returns-in-None-clause-stands
returns-in-None-clause-stands c = λ h s l.
    next_second c.args.held.now (record { pending = c.self.inside.pending; notices = c.self.inside.notices.entries }) None (sym c.first_due.ensures.first ∙ nothing c.first_due.result c.in_default.not-Some) c.in-None.ensures
    ∙ next_is_due (record { pending = c.self.inside.pending; notices = c.self.inside.notices.entries }) h (subst (λ (r : Rows). StandsFor r h) (sym c.self.view_is) s) l c.args.held.now c.first_due.ensures.keyed c.self.invariant
