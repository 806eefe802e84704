use Rattle.std.proofs.Common.{subst, sym}
use Rattle.ws_intent.specs.Stands.{LooksSettled}
use Rattle.ws_intent.proofs.Changes.{settle_stands}
use Rattle.ws_intent.proofs.table.Intents.settle.Goals as goal

pub returns-in-Confirmed-clause-stands : goal.returns-in-Confirmed-clause-stands
returns-in-Confirmed-clause-stands c = λ h e s l is.
    settle_stands c.args.n c.args.how c.args.self.now c.answered.new.self
    (subst (λ w. LooksSettled c.args.n w c.args.self.now c.answered.new.self) (sym c.in-Confirmed.is) (c.answered.ensures.look, c.answered.ensures.notices)) h e s is

pub returns-in-Declined-clause-stands : goal.returns-in-Declined-clause-stands
returns-in-Declined-clause-stands c = λ h e s l is.
    settle_stands c.args.n c.args.how c.args.self.now c.answered-in-Declined.new.self
    (subst (λ w. LooksSettled c.args.n w c.args.self.now c.answered-in-Declined.new.self) (sym c.in-Declined.is) (c.answered-in-Declined.ensures.look, c.answered-in-Declined.ensures.notices)) h e s is

pub returns-in-Unheard-clause-stands : goal.returns-in-Unheard-clause-stands
returns-in-Unheard-clause-stands c = λ h e s l is.
    settle_stands c.args.n c.args.how c.args.self.now c.unheard.new.self
    (subst (λ w. LooksSettled c.args.n w c.args.self.now c.unheard.new.self) (sym c.in-Unheard.is) (c.unheard.ensures.look, c.unheard.ensures.notices)) h e s is

pub returns-in-Noticed-clause-stands : goal.returns-in-Noticed-clause-stands
returns-in-Noticed-clause-stands c = λ h e s l is.
    settle_stands c.args.n c.args.how c.args.self.now c.noticed.new.self
    (subst (λ w. LooksSettled c.args.n w c.args.self.now c.noticed.new.self) (sym c.in-Noticed.is) c.noticed.ensures.look) h e s is
