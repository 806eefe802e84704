use Rattle.std.proofs.Common.{◌≡◌, [], take}
use Rattle.form_urlencoded.specs.Form.{extend_pairs}
use Rattle.ws_target.specs.Requests.{form_pairs}
use Rattle.ws_target.proofs.form.form_of.Given as goal

abbrev pub invariant-loop-pair : goal.invariant-loop-pair
invariant-loop-pair l = l.form.items ≡ extend_pairs [] (form_pairs (take l.pair-index l.pairs))
