use Rattle.std.proofs.Common.{◌≡◌, ◌∷◌, cond, subst, sym, ap, ◌∙◌, Some}
use Rattle.std.specs.Prelude.{◌==◌}
use Rattle.ws_intent.specs.declared.rows.Waiting.{Waiting}
use Rattle.ws_intent.specs.Rows.{Rows, denied_by, denied_rows, number_at, without}
use Rattle.ws_intent.specs.Stands.{StandsFor}
use Rattle.ws_intent.proofs.Changes.{barred_stands, keyed_put, same_at, without_none}
use Rattle.ws_intent.proofs.Firsts.{if_some}
use Rattle.ws_intent.proofs.table.Intents.barred.Goals as goal

pub returns-in-None-clause-ok : goal.returns-in-None-clause-ok
returns-in-None-clause-ok c =
    subst (λ (r : Rows). r ≡ record { pending = without c.args.n r.pending; notices = denied_rows c.args.n c.args.reason (number_at c.args.n r.pending) r.notices }) c.self.view_is
    (ap (λ es. record { pending = es; notices = c.self.inside.notices.entries }) (sym (without_none c.args.n c.self.inside.pending (sym c.in-None.ensures.row)))
    ∙ ap (λ o. record { pending = without c.args.n c.self.inside.pending; notices = denied_rows c.args.n c.args.reason o c.self.inside.notices.entries }) c.in-None.ensures.row)

pub returns-in-None-clause-stands : goal.returns-in-None-clause-stands
returns-in-None-clause-stands c = λ h e s l is.
    subst (λ (r : Rows). StandsFor r (e ∷ h)) c.self.view_is
    (barred_stands (record { pending = c.self.inside.pending; notices = c.self.inside.notices.entries }) (record { pending = c.self.inside.pending; notices = c.self.inside.notices.entries }) c.args.n c.args.reason
    (λ q. same_at (λ p. number_at p c.self.inside.pending) c.args.n q ∙ ap (λ o. cond (q == c.args.n) o (number_at q c.self.inside.pending)) (sym c.in-None.ensures.row))
    (λ q. same_at (λ p. number_at p c.self.inside.notices.entries) c.args.n q ∙ ap (λ o. cond (q == c.args.n) (denied_by c.args.reason o (number_at c.args.n c.self.inside.notices.entries)) (number_at q c.self.inside.notices.entries)) c.in-None.ensures.row)
    h e (subst (λ (r : Rows). StandsFor r h) (sym c.self.view_is) s) l is)

pub invariant_of-self-2 : goal.invariant_of-self-2
invariant_of-self-2 c =
    keyed_put c.self.inside.notices.entries c.put.new.notices.entries c.args.n (record { intent = c.in_ok-intent-in-Some.intent; reason = c.args.reason; unheard = 0 }) c.self.invariant c.put.ensures.ordered c.in_ok-put.ensures.rows
    (ap (λ i. i.n) c.in_ok-intent-in-Some.ensures ∙ if_some (λ (w : Waiting). w.intent.n ≡ c.args.n) (number_at c.args.n c.self.inside.pending) c.in-Some.waiting.now (sym c.in-Some.ensures.row) (c.get.ensures.keyed.keyed c.args.n))

pub returns-clause-stands : goal.returns-clause-stands
returns-clause-stands c = λ h e s l is.
    barred_stands (record { pending = c.self.inside.pending; notices = c.self.inside.notices.entries }) (record { pending = c.take.new.self; notices = c.put.new.notices.entries }) c.args.n c.args.reason
    c.take.ensures.look
    (λ q. c.in_ok-put.ensures.rows q ∙ ap (λ o. cond (q == c.args.n) o (number_at q c.self.inside.notices.entries))
    (ap (λ j. Some (record { intent = j; reason = c.args.reason; unheard = 0 })) c.in_ok-intent-in-Some.ensures ∙ ap (λ o. denied_by c.args.reason o (number_at c.args.n c.self.inside.notices.entries)) c.in-Some.ensures.row))
    h e (subst (λ (r : Rows). StandsFor r h) (sym c.self.view_is) s) l is
