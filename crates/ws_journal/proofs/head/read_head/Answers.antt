use Rattle.std.proofs.Common.{◌≡◌, ℕ, min, length, take, sym, ◌∙◌, ap, arith}
use Rattle.std.proofs.lemmas.List.{take_min}
use Rattle.ws_journal.proofs.head.read_head.Goals as goal

pub returns-clause-head : goal.returns-clause-head
returns-clause-head g c = λ honest.
    let D = g.D.Disk in
    let file = D.seen c.args.disk.now in
    let read = c.in_ok-count.ensures in
    let count : min 18 (length file) ≡ c.in_ok-count.count = omega (arith, read.count honest) in
    c.judge_head.ensures file (sym (take_min 18 file) ∙ ap (λ (n : ℕ). take n file) count ∙ sym (read.bytes honest))
