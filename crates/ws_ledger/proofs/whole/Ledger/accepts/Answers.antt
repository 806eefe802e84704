use Rattle.std.proofs.Common.{sym, subst, ◌∙◌}
use Rattle.std.proofs.lemmas.Bool.{false≢true}
use Rattle.ws_ledger.specs.Stands.{StandsFor}
use Rattle.ws_ledger.proofs.Acceptance.{accepted_where, refused_where}
use Rattle.ws_ledger.proofs.Following.{follows_where, in_order}
use Rattle.ws_ledger.proofs.whole.Ledger.accepts.Goals as goal

pub returns-in_ok-is_sound-clause-stands : goal.returns-in_ok-is_sound-clause-stands
returns-in_ok-is_sound-clause-stands c h since s l k =
    accepted_where c.args.event.now h c.in_ok-is_sound.field-0
    (sym (c.allows.ensures.stands h since (subst (StandsFor h since) (sym c.self.view_is) s).tables l k) ∙ c.if-allows.true)
    c.in_ok-is_sound.ensures

pub returns-in_ok-is_sound-clause-follows : goal.returns-in_ok-is_sound-clause-follows
returns-in_ok-is_sound-clause-follows c history told =
    follows_where c.args.self.now c.args.event.now history
    (sym (accepted_where c.args.event.now history.past c.in_ok-is_sound.field-0
    (sym (c.allows.ensures.stands history.past history.since (subst (StandsFor history.past history.since) (sym c.self.view_is) history.stands).tables history.legal (in_order c.args.self.now c.args.event.now history)) ∙ c.if-allows.true)
    c.in_ok-is_sound.ensures) ∙ told)

pub returns-else-allows-clause-stands : goal.returns-else-allows-clause-stands
returns-else-allows-clause-stands c h since s l k =
    c.if-allows.false
    ∙ refused_where c.args.event.now h (sym (c.allows.ensures.stands h since (subst (StandsFor h since) (sym c.self.view_is) s).tables l k) ∙ c.if-allows.false)

pub returns-else-allows-clause-follows : goal.returns-else-allows-clause-follows
returns-else-allows-clause-follows c history told = absurd (false≢true (sym c.if-allows.false ∙ told))
