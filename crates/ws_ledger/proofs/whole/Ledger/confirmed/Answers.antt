use Rattle.std.proofs.Common.{sym, subst}
use Rattle.std.specs.Prelude.{IsSome}
use Rattle.ws_intent.specs.Rows.{number_at}
use Rattle.ws_core_tables.proofs.Lookups.{confirmed_waits}
use Rattle.ws_ledger.specs.Rows.{Rows}
use Rattle.ws_ledger.proofs.whole.Ledger.confirmed.Goals as goal

pub mode_of_pending-requires : goal.mode_of_pending-requires
mode_of_pending-requires c =
    let f = c.requires.follows in
    subst (λ (r : Rows). IsSome (number_at c.args.n r.tables.intents.pending)) (sym c.self.view_is)
    (confirmed_waits c.args.event.now f.past c.args.self.now.tables.intents c.args.n c.args.sent f.legal c.requires.kind f.stands.tables.intents)
