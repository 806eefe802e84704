use Rattle.ws_core.proofs.Walking.{all_back, all_back_below, one_back}
use Rattle.ws_core.proofs.giving_back.give_back_each.Goals as goal

pub returns-then-ver-ge-NUMBER_LIMIT : goal.returns-then-ver-ge-NUMBER_LIMIT
returns-then-ver-ge-NUMBER_LIMIT c =
    all_back_below c.args.lease c.loop-ver.from c.args.ledger.now c.args.tries.now c.loop-ver.tries c.loop-ver.invariant c.in-Some.ver c.in-Some.ensures.found.0 c.in-Some.ensures.passed c.if-ver-ge-NUMBER_LIMIT.true

pub loop-ver-preserved : goal.loop-ver-preserved
loop-ver-preserved c =
    one_back c.args.lease c.loop-ver.from c.args.ledger.now c.args.tries.now c.loop-ver.tries c.loop-ver.invariant c.in-Some.ver c.in-Some.ensures.found.0 c.in-Some.ensures.passed c.give_back_version.new.tries c.if-ver-ge-NUMBER_LIMIT.false
    c.give_back_version.ensures.gives c.give_back_version.ensures.others

pub returns : goal.returns
returns c = all_back c.args.lease c.loop-ver.from c.args.ledger.now c.args.tries.now c.loop-ver.tries c.loop-ver.invariant c.in_default.ensures.none
