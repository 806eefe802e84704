use Rattle.std.proofs.Common.{ℕ, Vec, Global}
use Rattle.std.proofs.lemmas.Option.{IfSome_then}
use Rattle.ws_script.specs.Script.{IsHappening, text}
use Rattle.ws_script.specs.Reading.{IsShortLine, with_line_feed}
use Rattle.ws_script.proofs.Reading.{part_failed, wanting, whatever_follows}
use Rattle.ws_script.proofs.Happenings.{line_last, with_line, none_with_line, no_short_line, short_line_last}
use Rattle.ws_script.proofs.take.take_happening.Goals as goal

pub returns-in_err-line-clause-happening : goal.returns-in_err-line-clause-happening
returns-in_err-line-clause-happening g c =
    part_failed with_line_feed IsShortLine (λ (line : Vec ℕ Global). line.items) text (IsHappening c.args.gateway) (λ h. h) _ _ _ c.from_residual.result c.from_residual.ensures.1
    (no_short_line c.args.gateway) (short_line_last c.args.gateway) c.in_err-line.ensures.line

pub returns-in_default-clause-happening : goal.returns-in_default-clause-happening
returns-in_default-clause-happening g c =
    let none = rw c.in_default.is at c.in_ok-line.ensures.line in
    (none.0, IfSome_then (g.S.Source.left c.args.source.now) none.1 (λ all missing. no_short_line c.args.gateway all missing))

pub returns-in_err-line-2-clause-happening : goal.returns-in_err-line-2-clause-happening
returns-in_err-line-2-clause-happening g c =
    let line = rw c.in-Some.is at c.in_ok-line.ensures.line in
    wanting text (IsHappening c.args.gateway) (λ h. h) _ _ (with_line_feed c.in-Some.line.items) c.from_residual-in_err-line-2.result c.from_residual-in_err-line-2.ensures.1
    line.0 (line_last c.args.gateway c.in-Some.line.items line.1.0)

pub returns-in_default-2-clause-happening : goal.returns-in_default-2-clause-happening
returns-in_default-2-clause-happening g c =
    let line = rw c.in-Some.is at c.in_ok-line.ensures.line in
    let none = rw c.deref.ensures.value at (rw c.in_default-2.is at c.in_ok-line-2.ensures) in
    whatever_follows text (IsHappening c.args.gateway) _ _ (with_line_feed c.in-Some.line.items) line.0 (λ others. none_with_line c.args.gateway c.in-Some.line.items others line.1.0 none)

pub returns-clause-happening : goal.returns-clause-happening
returns-clause-happening g c =
    let line = rw c.in-Some.is at c.in_ok-line.ensures.line in
    let some = rw c.deref.ensures.value at (rw c.in-Some-2.is at c.in_ok-line-2.ensures) in
    with_line c.args.gateway c.in-Some.line.items c.in-Some-2.line _ _ _ c.take_behind.result some.0 line.1.1 some.1 line.0 c.take_behind.ensures.behind
