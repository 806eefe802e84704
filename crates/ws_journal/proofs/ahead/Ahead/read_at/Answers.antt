use Rattle.std.proofs.Common.{◌≡◌, ◌+◌, ◌-◌, ℕ, length, take, drop, ◌∙◌, ap, arith}
use Rattle.ws_journal.proofs.Blocks.{joined, put_there}
use Rattle.ws_journal.proofs.ahead.Ahead.read_at.Goals as goal

pub returns-clause-bytes : goal.returns-clause-bytes
returns-clause-bytes g c = λ honest.
    let file = g.D.Disk.seen c.args.disk.now in
    let given = c.give-given.result in
    let more = c.in_ok-more.more in
    let front = c.give-given.new.into in
    let behind = c.read_on.new.into in
    let rest : c.in-Some.rest ≡ c.args.at + given = omega (arith, c.in-Some.ensures) in
    let second = c.in_ok-more.ensures.bytes honest ∙ ap (λ (n : ℕ). take more (drop n file)) rest in
    put_there front behind given (length front - given) more (omega (arith, c.give-given.ensures.room, c.give-given.auto.into)) (omega (arith, c.in_ok-more.ensures.room, c.read_on.auto.into))
    ∙ joined file (take given front) (take more behind) c.args.at given more (c.give-given.ensures.bytes file (c.requires honest)) second
