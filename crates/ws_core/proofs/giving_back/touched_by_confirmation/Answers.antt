use Rattle.std.proofs.Common.{sym, ◌∙◌, subst}
use Rattle.ws_core_tables.proofs.Lookups.{confirmed_waits}
use Rattle.ws_core_tables.specs.Stands.{StandsFor as TablesStand}
use Rattle.ws_core.proofs.GivingBack.{by_waiting}
use Rattle.ws_core.proofs.giving_back.touched_by_confirmation.Goals as goal

pub returns : goal.returns
returns c =
    let f = c.requires.follows in
    let waits = confirmed_waits c.args.event.now f.past c.args.ledger.now.tables.intents c.args.n c.args._sent f.legal c.requires.kind f.stands.tables.intents in
    record {
      stands = λ h since s l le.
          c.of_lease.ensures
          ∙ by_waiting h c.args.event.now.t c.args.n c.args.ledger.now.tables.intents c.lease_of_pending.result s.tables.intents waits
          (λ i is. c.lease_of_pending.ensures.stands h since i (subst (TablesStand h since) (sym c.tables.ensures) s.tables) l le is);
    }
