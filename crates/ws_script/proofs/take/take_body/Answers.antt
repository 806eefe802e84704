use Rattle.std.proofs.Common.{◌++◌, ◌∷◌, [], arith}
use Rattle.std.proofs.lemmas.Bool.Decides.{nat_tests}
use Rattle.ws_script.specs.Reading.{HasSize, with_line_feed}
use Rattle.ws_script.proofs.Known.{Consumes-then}
use Rattle.ws_script.proofs.Lines.{body_end, body_other}
use Rattle.ws_script.proofs.Reading.{ended, whatever_follows}
use Rattle.ws_script.proofs.take.take_body.Goals as goal

pub returns-in_default-2-clause-body : goal.returns-in_default-2-clause-body
returns-in_default-2-clause-body g c =
    let bytes = rw c.in-Some.is at c.in_ok-bytes.ensures.bytes in
    let took = rw c.in_default-2.is at c.in_ok-end.ensures.byte in
    ended with_line_feed (HasSize c.args.size) _ _ _ c.in-Some.bytes.items bytes.0 took.0 took.1 (body_end c.args.size c.in-Some.bytes.items bytes.1)

pub returns-then-end-ne10-clause-body : goal.returns-then-end-ne10-clause-body
returns-then-end-ne10-clause-body g c =
    let bytes = rw c.in-Some.is at c.in_ok-bytes.ensures.bytes in
    let took = rw c.in-Some-2.is at c.in_ok-end.ensures.byte in
    whatever_follows with_line_feed (HasSize c.args.size) _ _ (c.in-Some.bytes.items ++ c.in-Some-2.end ∷ []) (Consumes-then _ _ _ _ _ bytes.0 took)
    (λ others. body_other c.args.size c.in-Some-2.end c.in-Some.bytes.items others bytes.1 (grind (arith, nat_tests)))
