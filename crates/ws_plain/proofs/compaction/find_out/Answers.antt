use Rattle.ws_plain.specs.Past.{past}
use Rattle.ws_plain.proofs.Keeping.{found_is, leases_are}
use Rattle.ws_plain.proofs.compaction.find_out.Goals as goal

pub returns : goal.returns
returns c =
    let h = past c.args.events.now in
    let t = c.args.t in
    found_is h t _ _ _ _ _ _ c.in_ok-pending.ensures c.in_ok-notices.ensures c.in_ok-fetches.ensures c.in_ok-latest.ensures c.in_ok-owed.ensures
    (leases_are h t _ _ _ _ c.in_ok-latest.ensures c.in_ok-owed.ensures c.in_ok-first.ensures c.in_ok-leases.ensures)
