use Rattle.std.proofs.Common.{sym, arith, subst, take, drop}
use Rattle.std.specs.Io.KnownBytes.{Appends}
use Rattle.std.proofs.lemmas.List.{take-append-drop}
use Rattle.std.proofs.lemmas.Grind.{common_steps}
use Rattle.ws_front.proofs.Known.{always_err}
use Rattle.ws_front.proofs.Known.{given_more}
use Rattle.ws_front.proofs.give.give_all.Goals as goal

pub returns-in_err-at-clause-err : goal.returns-in_err-at-clause-err
returns-in_err-at-clause-err g c =
    always_err c.from_residual.result (
      take c.loop-at.at c.args.bytes.now,
      subst (λ w. Appends (g.K.Sink.written c.args.sink.now) w (take c.loop-at.at c.args.bytes.now)) (sym c.in_err-at.ensures.err) c.loop-at.invariant.given,
      (drop c.loop-at.at c.args.bytes.now, take-append-drop c.loop-at.at c.args.bytes.now),
    )

pub loop-at-preserved : goal.loop-at-preserved
loop-at-preserved g c = record {
  room = grind (arith, common_steps);
  given = given_more _ _ _ _ _ _ (omega (arith, c.in_ok-at.ensures.count)) c.loop-at.invariant.given c.in_ok-at.ensures.given;
  later = omega (arith, c.loop-at.invariant.later, c.give.ensures.cause.later);
}
