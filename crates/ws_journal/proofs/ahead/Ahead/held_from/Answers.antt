use Rattle.std.proofs.Common.{◌≡◌, ◌+◌, ◌-◌, ℕ, List, length, take, drop, sym, subst, arith}
use Rattle.ws_journal.proofs.Blocks.{held_there}
use Rattle.ws_journal.proofs.ahead.Ahead.held_from.Goals as goal

pub returns-clause-bytes : goal.returns-clause-bytes
returns-clause-bytes c = λ file is.
    let ahead = c.args.self.now in
    let skipped = c.in-Some.skipped in
    let there = held_there ahead.block.items file ahead.place ahead.held skipped is ahead.fits (omega (arith, c.if-skipped-self.false)) in
    let place : ahead.place + skipped ≡ c.args.at = omega (arith, c.in-Some.ensures) in
    let from = λ (block : List ℕ). take (ahead.held - skipped) (drop skipped block) in
    subst (λ (block : List ℕ). from block ≡ take (length (from block)) (drop c.args.at file)) (sym c.deref.ensures.value)
    (subst (λ (n : ℕ). from ahead.block.items ≡ take (length (from ahead.block.items)) (drop n file)) place there)
