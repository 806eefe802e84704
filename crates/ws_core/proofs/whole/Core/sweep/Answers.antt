use Rattle.ws_sweep.specs.Rows.{members}
use Rattle.ws_core.specs.Rows.{Rows}
use Rattle.ws_core.proofs.Freed.{after_log, after_renewals, without_versions}
use Rattle.ws_core.proofs.whole.Core.sweep.Goals as goal

pub loop-preserved : goal.loop-preserved
loop-preserved c =
    let inside = c.loop.self-inside in
    let t = c.args.t in
    let begun : Rows = record { ledger = inside.ledger; log = members inside.log; renewals = members inside.renewals; tries = inside.tries } in
    let one_event : Rows = record { ledger = inside.ledger; log = members c.look_at_log.new.log; renewals = members inside.renewals; tries = inside.tries } in
    let events : Rows = record { ledger = inside.ledger; log = members c.look_at_log-in-loop.new.log; renewals = members inside.renewals; tries = inside.tries } in
    let one_renewal : Rows = record { ledger = inside.ledger; log = members c.look_at_log-in-loop.new.log; renewals = members c.look_at_renewals.new.renewals; tries = c.look_at_renewals.new.tries } in
    let renewals : Rows = record { ledger = inside.ledger; log = members c.look_at_log-in-loop.new.log; renewals = members c.look_at_renewals-in-loop.new.renewals; tries = c.look_at_renewals-in-loop.new.tries } in
    let one_room : Rows = record { ledger = inside.ledger; log = members c.look_at_log-in-loop.new.log; renewals = members c.look_at_renewals-in-loop.new.renewals; tries = c.look_at_rooms.new.tries } in
    record {
      stands = λ h s l.
          without_versions h t one_room c.look_at_rooms-in-loop.new.tries l
          (without_versions h t renewals c.look_at_rooms.new.tries l
          (after_renewals h t one_renewal c.look_at_renewals-in-loop.new.tries l
          (after_renewals h t events c.look_at_renewals.new.tries l
          (after_log h t one_event inside.tries l
          (after_log h t begun inside.tries l (c.loop.invariant.stands h s l) (members c.look_at_log.new.log) c.look_at_log.ensures)
          (members c.look_at_log-in-loop.new.log) c.look_at_log-in-loop.ensures)
          (members c.look_at_renewals.new.renewals) c.look_at_renewals.ensures.renewals c.look_at_renewals.ensures.leaves)
          (members c.look_at_renewals-in-loop.new.renewals) c.look_at_renewals-in-loop.ensures.renewals c.look_at_renewals-in-loop.ensures.leaves)
          c.look_at_rooms.ensures.leaves)
          c.look_at_rooms-in-loop.ensures.leaves;
      ledger = c.loop.invariant.ledger;
      none = λ v n k.
          c.look_at_rooms-in-loop.ensures.none v n
          (c.look_at_rooms.ensures.none v n (c.look_at_renewals-in-loop.ensures.none v n (c.look_at_renewals.ensures.none v n (c.loop.invariant.none v n k))));
    }
