use Rattle.std.proofs.Common.{sym, subst}
use Rattle.ws_model.specs.declared.event.Event.{Event}
use Rattle.ws_core.specs.GivenBack.{RoomsAreGone}
use Rattle.ws_core.specs.Stands.{GoesOn}
use Rattle.ws_core.proofs.whole.Core.apply_kind.Goals as goal

pub returns-in-Pushed-clause-ok : goal.returns-in-Pushed-clause-ok
returns-in-Pushed-clause-ok c = subst (λ (e : Event). GoesOn e c.args.self.now c.apply_pushed.new.self) (λ j. record { serial = c.args.event.now.serial; t = c.args.event.now.t; what = sym c.in-Pushed.is j }) c.apply_pushed.ensures.stands

pub returns-in-Pushed-clause-gone : goal.returns-in-Pushed-clause-gone
returns-in-Pushed-clause-gone c = subst (λ (e : Event). RoomsAreGone e c.args.self.now c.apply_pushed.new.self) (λ j. record { serial = c.args.event.now.serial; t = c.args.event.now.t; what = sym c.in-Pushed.is j }) c.apply_pushed.ensures.gone
