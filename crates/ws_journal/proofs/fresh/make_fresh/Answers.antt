use Rattle.std.proofs.Common.{[], inl, inr, ⊎_elim}
use Rattle.ws_journal.specs.Image.{IsBelow}
use Rattle.ws_journal.specs.Made.{IsMade, IsBelowOrMade, IsUnusedOrMade}
use Rattle.ws_journal.proofs.Moments.{weaker}
use Rattle.ws_journal.proofs.Spare.{unused-below}
use Rattle.ws_journal.proofs.fresh.make_fresh.Goals as goal

pub returns-in-Ok-clause-any_moment : goal.returns-in-Ok-clause-any_moment
returns-in-Ok-clause-any_moment g c = λ honest spare.
    let D = g.D.Disk in
    weaker D.moment D.images c.args.disk.now c.make_device.new.disk (IsBelowOrMade 0 1 []) (IsUnusedOrMade 1 [])
    (λ image. ⊎_elim (λ (below : IsBelow 0 image). inl (unused-below image below)) (λ (made : IsMade 1 [] image). inr made))
    (c.make_device.ensures.any_moment 0 honest spare)

pub returns-in-Err-clause-any_moment : goal.returns-in-Err-clause-any_moment
returns-in-Err-clause-any_moment g c = λ honest spare.
    let D = g.D.Disk in
    weaker D.moment D.images c.args.disk.now c.make_device.new.disk (IsBelowOrMade 0 1 []) (IsUnusedOrMade 1 [])
    (λ image. ⊎_elim (λ (below : IsBelow 0 image). inl (unused-below image below)) (λ (made : IsMade 1 [] image). inr made))
    (c.make_device.ensures.any_moment 0 honest spare)
