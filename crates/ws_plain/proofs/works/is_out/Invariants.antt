use Rattle.std.proofs.Common.{◌≡◌, drop}
use Rattle.ws_model.specs.Due.{is_out}
use Rattle.ws_plain.proofs.works.is_out.Given as goal

-- none of those that were seen is one
abbrev pub invariant-loop-other : goal.invariant-loop-other
invariant-loop-other l = is_out (drop l.other-index l.out) l.work ≡ is_out l.out l.work
