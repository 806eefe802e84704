use Rattle.std.proofs.Common.{sym, subst}
use Rattle.std.specs.Prelude.{IsSome}
use Rattle.ws_intent.specs.Rows.{number_at}
use Rattle.ws_core_tables.proofs.Lookups.{confirmed_waits, waiting_is}
use Rattle.ws_ledger.specs.Rows.{Rows}
use Rattle.ws_ledger.proofs.NewPairs.{asks_off, ends_only}
use Rattle.ws_ledger.proofs.whole.Ledger.renewal_by_confirmation.Goals as goal

pub mode_of_pending-requires : goal.mode_of_pending-requires
mode_of_pending-requires c =
    let f = c.requires.follows in
    subst (λ (r : Rows). IsSome (number_at c.args.n r.tables.intents.pending)) (sym c.self.view_is)
    (confirmed_waits c.args.event.now f.past c.args.self.now.tables.intents c.args.n c.args.sent f.legal c.requires.kind f.stands.tables.intents)

pub returns-in-Off : goal.returns-in-Off
returns-in-Off c =
    let w = asks_off c.args.n _ c.args.self.now c.mode_of_pending.result c.self.view_is c.in-Off.is c.mode_of_pending.ensures in
    ends_only c.args.event.now c.args.n c.args.sent w.it.intent c.args.self.now c.requires.kind w.has (λ h since s. waiting_is h c.args.self.now.tables.intents c.args.n w.it s.tables.intents w.is)
