use Rattle.ws_link.proofs.Given.{given_more}
use Rattle.ws_link.proofs.memory_links.MemLinkLink.poll_take.Goals as goal

pub returns-clause-takes : goal.returns-clause-takes
returns-clause-takes c =
    let given = rw c.deref-2.ensures.value at c.fill-n.ensures.bytes in
    rw (given_more c.args.self.now.at c.fill-n.result c.args.self.now.content.items c.fill-n.new.into given)
