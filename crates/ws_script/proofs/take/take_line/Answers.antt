use Rattle.std.proofs.Common.{◌++◌, ◌∷◌, [], arith}
use Rattle.std.proofs.lemmas.Grind.{common_steps}
use Rattle.std.proofs.lemmas.Bool.Decides.{nat_tests}
use Rattle.ws_script.specs.Reading.{IsShortLine, with_line_feed}
use Rattle.ws_script.proofs.Known.{Consumes-then}
use Rattle.ws_script.proofs.Lines.{IsOneLine-push, line_cut, line_long}
use Rattle.ws_script.proofs.Reading.{ended, whatever_follows, stopped, stopped_at}
use Rattle.ws_script.proofs.take.take_line.Goals as goal

pub returns-in_err-b-clause-line : goal.returns-in_err-b-clause-line
returns-in_err-b-clause-line g c =
    let at = c.bytes.invariant in
    stopped_at _ with_line_feed IsShortLine (λ line. line.items) _ _ _ c.bytes.line.items c.from_residual.result c.from_residual.ensures.1 at.taken c.in_err-b.ensures.byte (line_cut c.bytes.line.items at.line)

pub returns-in_default-clause-line : goal.returns-in_default-clause-line
returns-in_default-clause-line g c =
    let at = c.bytes.invariant in
    let took = rw c.in_default.is at c.in_ok-b.ensures.byte in
    ended with_line_feed IsShortLine _ _ _ c.bytes.line.items at.taken took.0 took.1 (line_cut c.bytes.line.items at.line)

pub returns-then-b-eq10-clause-line : goal.returns-then-b-eq10-clause-line
returns-then-b-eq10-clause-line g c =
    let at = c.bytes.invariant in
    let took = rw c.in-Some.is at c.in_ok-b.ensures.byte in
    let fed = rw c.if-b-eq10.true at took in
    (Consumes-then _ _ _ _ _ at.taken fed, (at.line, omega arith))

pub returns-in_err-push-clause-line : goal.returns-in_err-push-clause-line
returns-in_err-push-clause-line g c =
    let at = c.bytes.invariant in
    let took = rw c.in-Some.is at c.in_ok-b.ensures.byte in
    let line = IsOneLine-push c.bytes.line.items c.in-Some.b at.line (grind (arith, nat_tests)) in
    stopped _ with_line_feed IsShortLine (λ line. line.items) _ _ (c.bytes.line.items ++ c.in-Some.b ∷ []) c.from_residual-in_err-push.result c.from_residual-in_err-push.ensures.1 (Consumes-then _ _ _ _ _ at.taken took) (line_cut _ line)

pub bytes-preserved : goal.bytes-preserved
bytes-preserved g c =
    let at = c.bytes.invariant in
    let took = rw c.in-Some.is at c.in_ok-b.ensures.byte in
    record {
      count = grind (arith, common_steps);
      line = rw c.in_ok-push.ensures.items (IsOneLine-push c.bytes.line.items c.in-Some.b at.line (grind (arith, nat_tests)));
      taken = rw c.in_ok-push.ensures.items (Consumes-then _ _ _ _ _ at.taken took);
      later = omega (arith, at.later, c.take_byte.ensures.cause.later);
    }

pub returns-clause-line : goal.returns-clause-line
returns-clause-line g c =
    let at = c.bytes.invariant in
    whatever_follows with_line_feed IsShortLine _ _ c.bytes.line.items at.taken (λ others. line_long c.bytes.line.items others at.line (omega arith))
