use Rattle.std.proofs.Common.{ap, ◌∙◌}
use Rattle.ws_plain.specs.Past.{past}
use Rattle.ws_plain.proofs.Keeping.{keep_is}
use Rattle.ws_plain.proofs.compaction.keep.Goals as goal

pub returns : goal.returns
returns c =
    ap past c.in_ok-all.ensures
    ∙ keep_is c.args.events.now _ c.args.t _ _ c.in_ok-findings.ensures c.in_ok-tally.ensures c.in_ok-kept.ensures
