use Rattle.std.proofs.Common.{◌≡◌, List}
use Rattle.ws_model.specs.declared.event.Event.{Event}
use Rattle.ws_model.specs.Legal.{Legal}
use Rattle.ws_sweep.specs.Rows.{members}
use Rattle.ws_core.specs.Passing.{StayGone}
use Rattle.ws_core.specs.Stands.{StandsFor}
use Rattle.ws_core.proofs.whole.Core.sweep.Given as goal

abbrev pub invariant-loop : goal.invariant-loop
invariant-loop l =
    record {
      stands : (h : List Event) → StandsFor h l.t l.fn.self → Legal h
          → StandsFor h l.t (record { ledger = l.self-inside.ledger; log = members l.self-inside.log; renewals = members l.self-inside.renewals; tries = l.self-inside.tries });
      ledger : l.self-inside.ledger ≡ l.fn.self.ledger;
      none : StayGone l.fn.self.tries l.self-inside.tries;
    }
