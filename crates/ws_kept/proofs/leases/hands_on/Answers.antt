use Rattle.std.proofs.Common.{ap, ◌∙◌}
use Rattle.std.specs.BTreeSet.{contains}
use Rattle.std.specs.Ordering.{nat_cmp}
use Rattle.ws_kept.specs.Finding.{is_handed_on}
use Rattle.ws_kept.proofs.Rooms.{none_below, none_left, one_found}
use Rattle.ws_kept.proofs.leases.hands_on.Goals as goal

pub returns-then-ver-ge-NUMBER_LIMIT : goal.returns-then-ver-ge-NUMBER_LIMIT
returns-then-ver-ge-NUMBER_LIMIT c =
    none_below (contains nat_cmp c.args.versions.now) c.args.lease c.loop-ver.from c.args.fates.now c.args.tries.now c.loop-ver.invariant c.in-Some.ver c.in-Some.ensures.passed c.if-ver-ge-NUMBER_LIMIT.true

pub returns-then-is_handed_on : goal.returns-then-is_handed_on
returns-then-is_handed_on c =
    one_found (contains nat_cmp c.args.versions.now) c.args.lease c.in-Some.ver c.args.fates.now c.args.tries.now c.if-ver-ge-NUMBER_LIMIT.false c.in-Some.ensures.found.1 c.if-contains.ensures
    (c.if-is_handed_on.ensures ∙ ap is_handed_on c.get.ensures)

pub returns : goal.returns
returns c = none_left (contains nat_cmp c.args.versions.now) c.args.lease c.loop-ver.from c.args.fates.now c.args.tries.now c.loop-ver.invariant c.in_default.ensures.none
