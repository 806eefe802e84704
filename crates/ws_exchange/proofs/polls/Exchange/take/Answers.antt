use Rattle.std.proofs.Common.{◌≤◌, length, take, sym, subst, rules}
use Rattle.ws_link.specs.declared.links.Step.TheVariants as step
use Rattle.ws_exchange.specs.Polls.{Talk, Comes, Reads, IsFit}
use Rattle.ws_exchange.proofs.Turns.{took_at, took_comes, took_fit, end_at, end_comes, end_fit, comes_by_take}
use Rattle.ws_exchange.proofs.polls.Exchange.take.Goals as goal

pub settle-requires : goal.settle-requires
settle-requires g c =
    let told = g.L.Link.content in
    let reads : Reads c.self.inside.need (told c.self.inside.link) c.args.reader = rw (← c.self.view_is) at c.requires.reads in
    took_at c.self.inside.need c.args.reader (take c.in-Took.n c.poll_take.new.into) c.hear.result
    (told c.self.inside.link) (told c.poll_take.new.self) reads c.in-Took.ensures.takes c.hear.ensures

pub settle-requires-in-End : goal.settle-requires-in-End
settle-requires-in-End g c =
    let told = g.L.Link.content in
    let reads : Reads c.self.inside.need (told c.self.inside.link) c.args.reader = rw (← c.self.view_is) at c.requires.reads in
    end_at c.self.inside.need c.args.reader c.hear-in-End.result
    (told c.self.inside.link) (told c.poll_take.new.self) reads c.in-End.ensures.takes c.hear-in-End.ensures

pub returns-in-Took-clause-comes : goal.returns-in-Took-clause-comes
returns-in-Took-clause-comes g c =
    let told = g.L.Link.content in
    let counts = g.L.Link.counts in
    let send = g.L.Link.send_gives in
    let give = g.L.Link.take_gives in
    let reads : Reads c.self.inside.need (told c.self.inside.link) c.args.reader = rw (← c.self.view_is) at c.requires.reads in
    let all : length c.self.inside.bytes ≤ c.self.inside.sent = rw (← c.self.view_is) at c.requires.all in
    let room : 8192 ≤ length c.poll_take.new.into = search rules in
    let before : Talk g.row.L.Denot =
    record { link = c.self.inside.link; bytes = c.self.inside.bytes; sent = c.self.inside.sent; need = c.self.inside.need; until = c.self.inside.until; time = c.self.inside.time; stage = c.self.inside.stage } in
    subst (λ (o : Talk g.row.L.Denot). Comes told counts send give o c.settle.new.self c.settle.result) c.self.view_is
    (comes_by_take told counts send give before c.settle.new.self c.poll_take.new.self c.hear.result (step.Took c.in-Took.n) c.poll_take.new.into c.settle.result
    c.settle.ensures.kept c.settle.ensures.polled all c.in-Took.ensures.cause room c.in-Took.ensures.takes c.in-Took.ensures.gives
    (took_comes c.self.inside.need c.args.reader (take c.in-Took.n c.poll_take.new.into) c.hear.result
    (told c.self.inside.link) (told c.poll_take.new.self) reads c.in-Took.ensures.takes c.hear.ensures c.in-Took.n))

pub returns-in-Took-clause-fit : goal.returns-in-Took-clause-fit
returns-in-Took-clause-fit g c =
    let told = g.L.Link.content in
    let reads : Reads c.self.inside.need (told c.self.inside.link) c.args.reader = rw (← c.self.view_is) at c.requires.reads in
    subst IsFit (sym c.settle.ensures.polled)
    (took_fit c.self.inside.need c.args.reader (take c.in-Took.n c.poll_take.new.into) c.hear.result
    (told c.self.inside.link) (told c.poll_take.new.self) reads c.in-Took.ensures.takes c.hear.ensures)

pub returns-in-End-clause-comes : goal.returns-in-End-clause-comes
returns-in-End-clause-comes g c =
    let told = g.L.Link.content in
    let counts = g.L.Link.counts in
    let send = g.L.Link.send_gives in
    let give = g.L.Link.take_gives in
    let reads : Reads c.self.inside.need (told c.self.inside.link) c.args.reader = rw (← c.self.view_is) at c.requires.reads in
    let all : length c.self.inside.bytes ≤ c.self.inside.sent = rw (← c.self.view_is) at c.requires.all in
    let room : 8192 ≤ length c.poll_take.new.into = search rules in
    let before : Talk g.row.L.Denot =
    record { link = c.self.inside.link; bytes = c.self.inside.bytes; sent = c.self.inside.sent; need = c.self.inside.need; until = c.self.inside.until; time = c.self.inside.time; stage = c.self.inside.stage } in
    subst (λ (o : Talk g.row.L.Denot). Comes told counts send give o c.settle-in-End.new.self c.settle-in-End.result) c.self.view_is
    (comes_by_take told counts send give before c.settle-in-End.new.self c.poll_take.new.self c.hear-in-End.result (step.End) c.poll_take.new.into c.settle-in-End.result
    c.settle-in-End.ensures.kept c.settle-in-End.ensures.polled all c.in-End.ensures.cause room c.in-End.ensures.takes c.in-End.ensures.gives
    (end_comes c.self.inside.need c.args.reader c.hear-in-End.result
    (told c.self.inside.link) (told c.poll_take.new.self) reads c.in-End.ensures.takes c.hear-in-End.ensures))

pub returns-in-End-clause-fit : goal.returns-in-End-clause-fit
returns-in-End-clause-fit g c =
    let told = g.L.Link.content in
    let reads : Reads c.self.inside.need (told c.self.inside.link) c.args.reader = rw (← c.self.view_is) at c.requires.reads in
    subst IsFit (sym c.settle-in-End.ensures.polled)
    (end_fit c.self.inside.need c.args.reader c.hear-in-End.result
    (told c.self.inside.link) (told c.poll_take.new.self) reads c.in-End.ensures.takes c.hear-in-End.ensures)
