use Rattle.std.proofs.Common.{inl, inr}
use Rattle.ws_journal.proofs.choose.choose.Goals as goal

pub returns-in-Foreign-b-clause-chooses : goal.returns-in-Foreign-b-clause-chooses
returns-in-Foreign-b-clause-chooses c = λ first second one two.
    let unused = rw c.in-Unused.is at one in
    let foreign = rw c.in-Foreign-b.is at two in
    inr (inl (0, inl unused, foreign))

pub returns-in-Used-clause-chooses : goal.returns-in-Used-clause-chooses
returns-in-Used-clause-chooses c = λ first second one two.
    let used = rw c.in-Used.is at one in
    c.beside.ensures.chooses first second used.0 used.1 two
