use Rattle.std.proofs.Common.{ap, subst, sym, ◌∙◌}
use Rattle.ws_model.specs.Leases.{confirmed_intent, lease_of}
use Rattle.ws_core_tables.specs.Stands.{StandsFor as TablesStand}
use Rattle.ws_core.specs.Renewed.{FindsOld, listed}
use Rattle.ws_core.proofs.Expiring.{in_time}
use Rattle.ws_core.proofs.Replacing.{found_old, if_ok, none_old}
use Rattle.ws_core.proofs.renewing.renewal_by.Goals as goal

pub renewal_of-requires : goal.renewal_of-requires
renewal_of-requires c = let f = c.requires.follows in record { in_time = in_time c.args.event.now f.past f.legal }

pub returns-in-Some : goal.returns-in-Some
returns-in-Some c =
    if_ok _ (FindsOld c.args.event.now c.args.ledger.now)
    (λ r told h since s l k.
    ap listed (told h since (subst (TablesStand h since) (sym c.tables.ensures) s.tables) k)
    ∙ found_old h c.args.event.now.t l.0 (lease_of c.args.event.now.what (confirmed_intent c.args.event.now.what h)) c.in-Some.lease c.in-Some.old (c.in-Some.ensures h since s l k))
    c.renewal_of.result c.renewal_of.ensures

pub returns-in-None : goal.returns-in-None
returns-in-None c h since s l k = none_old h c.args.event.now.t l.0 (lease_of c.args.event.now.what (confirmed_intent c.args.event.now.what h)) (c.in-None.ensures h since s l k)
