use Rattle.std.proofs.Common.{◌≡◌, ◌+◌, ◌≤◌, true, length, take, drop, ap, sym, subst, ◌∙◌}
use Rattle.ws_link.specs.Links.{after_send}
use Rattle.ws_exchange.specs.Polls.{Talk, IsSent, is_over}
use Rattle.ws_exchange.proofs.Told.{sent_more}
use Rattle.ws_exchange.proofs.Turns.{over_sent}
use Rattle.ws_exchange.proofs.polls.Exchange.send.Goals as goal

pub invariant_of-self : goal.invariant_of-self
invariant_of-self g c =
    let told = g.L.Link.content in
    let bytes = c.self.inside.bytes in
    let sent = c.self.inside.sent in
    let rest = c.split_at.ensures.back ∙ ap (drop sent) c.as_slice.ensures in
    let over : is_over c.self.inside.stage ≡ true = rw (← c.self.view_is) at c.requires.over in
    let sends : told c.poll_send.new.self ≡ after_send (take c.in-Took.n (drop sent bytes)) (told c.self.inside.link) = rw rest at c.in-Took.ensures.sends in
    let fits : c.in-Took.n ≤ length (drop sent bytes) = rw rest at c.in-Took.ensures.count.1 in
    over_sent bytes sent c.in-Took.n c.self.inside.need c.self.inside.stage (told c.self.inside.link) (told c.poll_send.new.self)
    over c.self.invariant.within fits sends c.self.invariant.front

pub returns-in-Took-clause-sent : goal.returns-in-Took-clause-sent
returns-in-Took-clause-sent g c =
    let told = g.L.Link.content in
    let bytes = c.self.inside.bytes in
    let sent = c.self.inside.sent in
    let rest = c.split_at.ensures.back ∙ ap (drop sent) c.as_slice.ensures in
    let sends : told c.poll_send.new.self ≡ after_send (take c.in-Took.n (drop sent bytes)) (told c.self.inside.link) = rw rest at c.in-Took.ensures.sends in
    let now : IsSent (told c.poll_send.new.self) bytes (sent + c.in-Took.n) =
    sent_more bytes sent c.in-Took.n (told c.self.inside.link) (told c.poll_send.new.self) sends c.self.invariant.front in
    subst (λ (e : Talk g.row.L.Denot). IsSent (told e.link) e.bytes e.sent) (sym c.settle.ensures.kept) now
