use Rattle.std.proofs.Common.{sym, subst}
use Rattle.ws_core_tables.specs.Stands.{StandsFor as TablesStand}
use Rattle.ws_core.proofs.Past.{is_past_by, not_past_by, open_is_counted}
use Rattle.ws_core.proofs.giving_back.is_past.Goals as goal

pub returns-then-open_of-gt0-clause-kept : goal.returns-then-open_of-gt0-clause-kept
returns-then-open_of-gt0-clause-kept c refused h since s l past =
    open_is_counted h c.args.ver c.open_of.result c.args.ledger.now.fates c.fates-fates.result.now (c.fates-fates.ensures) c.count.ensures.ordered c.open_of.ensures c.if-open_of-gt0.true past

pub returns-clause-past : goal.returns-clause-past
returns-clause-past c passed h since s l =
    is_past_by h c.args.ver c.open_of.result c.args.ledger.now.fates c.fates-fates.result.now (c.fates-fates.ensures) c.open_of.ensures c.if-ver-ge-NUMBER_LIMIT.false c.if-open_of-gt0.false
    (c.is_latest.ensures.stands h since (subst (TablesStand h since) (sym c.tables.ensures) s.tables) l) passed

pub returns-clause-kept : goal.returns-clause-kept
returns-clause-kept c refused h since s l past =
    not_past_by h c.args.ver c.args.ledger.now.fates (c.is_latest.ensures.stands h since (subst (TablesStand h since) (sym c.tables.ensures) s.tables) l) refused past
