use Rattle.std.proofs.Common.{sym, ◌∙◌}
use Rattle.std.proofs.lemmas.List.{map-id}
use Rattle.std.proofs.lemmas.Iterator.Consumers.{YieldsList-end}
use Rattle.std.proofs.lemmas.Iterator.Adapters.{YieldsList-from_vec}
use Rattle.ws_journal.proofs.scan.listed.Goals as goal

pub returns : goal.returns
returns c =
    let made = c.into_iter-event-iterator.ensures.into_iter_gives in
    let all = YieldsList-end (YieldsList-from_vec {s = c.into_iter-event-iterator.result} c.args.list.items made.0 (made.1 ∙ c.args.list.ok.0)) c.loop-event.yielded c.loop-event.event-iterator c.loop-event.yielded_by c.next.result c.next.new.self c.in-None.is c.next.ensures.steps in
    c.loop-event.invariant ∙ sym (map-id c.loop-event.yielded) ∙ all.0
