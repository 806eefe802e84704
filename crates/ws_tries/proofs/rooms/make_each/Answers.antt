use Rattle.std.proofs.Common.{[], ap, ◌∙◌}
use Rattle.std.specs.Prelude.{Some}
use Rattle.ws_tries.specs.Rows.{tries_at}
use Rattle.ws_tries.proofs.Listed.{others_same}
use Rattle.ws_tries.proofs.rooms.make_each.Goals as goal

pub returns-in_err-make-clause-others : goal.returns-in_err-make-clause-others
returns-in_err-make-clause-others c v n e =
    ap (tries_at v n) c.in_err-make.ensures.err
    ∙ others_same (Some []) c.loop-pair.pair-index c.args.pairs.now c.args.held.now c.loop-pair.held c.loop-pair.invariant v n e
