use Rattle.std.proofs.Common.{◌+◌, inl, inr, ℕ, List, sym, subst, arith}
use Rattle.ws_journal.specs.declared.choose.Counting.{Counting}
use Rattle.ws_journal.specs.Recovered.{CountsOn}
use Rattle.ws_journal.proofs.choose.beside.Goals as goal

pub returns-in-Foreign-clause-chooses : goal.returns-in-Foreign-clause-chooses
returns-in-Foreign-clause-chooses c = λ first second rest device head.
    let foreign = rw c.in-Foreign.is at head in
    inr (inl (c.args.generation + 1, inr (c.args.edition, c.args.generation, rest, device, omega arith), foreign))

pub returns-in-Unused-clause-chooses : goal.returns-in-Unused-clause-chooses
returns-in-Unused-clause-chooses c = λ first second rest device head.
    let unused = rw c.in-Unused.is at head in
    subst (λ (k : Counting). (x : List ℕ) × CountsOn k.side k.edition k.generation x first second) (sym c.counts.ensures) (rest, (device, inl unused))

pub returns-then-generation-number-2-clause-chooses : goal.returns-then-generation-number-2-clause-chooses
returns-then-generation-number-2-clause-chooses c = λ first second rest device head.
    let used = rw c.in-Used.is at head in
    subst (λ (k : Counting). (x : List ℕ) × CountsOn k.side k.edition k.generation x first second) (sym c.counts-then-generation-number-2.ensures)
    (rest, (device, inr (c.in-Used.other, c.in-Used.number, used.0, used.1, c.if-generation-number-2.true)))
