use Rattle.std.proofs.Common.{◌≡◌, ℕ, min, length, take, drop, sym, ◌∙◌, ap, arith, length-drop}
use Rattle.std.proofs.lemmas.List.{take_min}
use Rattle.ws_journal.proofs.scan.read_start.Goals as goal

pub returns-clause-start : goal.returns-clause-start
returns-clause-start g c = λ honest within.
    let D = g.D.Disk in
    let file = D.seen c.args.disk.now in
    let left = drop c.args.at file in
    let read = c.in_ok-count.ensures in
    let long = length-drop c.args.at file in
    let count : min 37 (length left) ≡ c.in_ok-count.count = omega (arith, read.count honest, long) in
    c.judge_start.ensures left (omega (arith, long, within)) (sym (take_min 37 left) ∙ ap (λ (n : ℕ). take n left) count ∙ sym (read.bytes honest))
