use Rattle.std.proofs.Common.{refl, true}
use Rattle.std.proofs.lemmas.Result.{err_from_is_err_and}
use Rattle.ws_intent.proofs.Keyed.{at_adds, at_same, at_updates}
use Rattle.ws_intent.proofs.index.put_at.Goals as goal

pub returns-in_err-insert-in-Some-clause-err : goal.returns-in_err-insert-in-Some-clause-err
returns-in_err-insert-in-Some-clause-err c =
    let p = err_from_is_err_and c.from_residual.result c.from_residual.ensures.1 in
    rw p.1 (at_same c.args.callback.items c.args.of_topic.now (c.get_mut.follows.lender c.insert.new.self) c.in-Some.numbers.now c.insert.new.self
    c.in-Some.ensures.value ((c.get_mut.follows.holds c.insert.new.self).3 (rw (← c.in-Some.ensures.value) refl)) c.in_err-insert-in-Some.ensures.err)

pub returns-in_ok-insert-in-Some-clause-ok : goal.returns-in_ok-insert-in-Some-clause-ok
returns-in_ok-insert-in-Some-clause-ok c =
    at_updates c.args.callback.items c.args.of_topic.now (c.get_mut.follows.lender c.insert.new.self) c.in-Some.numbers.now c.insert.new.self c.args.n true
    c.in-Some.ensures.value ((c.get_mut.follows.holds c.insert.new.self).3 (rw (← c.in-Some.ensures.value) refl)) c.in_ok-insert-in-Some.ensures.updates.0

pub returns-in_ok-insert-in-None-2-clause-ok : goal.returns-in_ok-insert-in-None-2-clause-ok
returns-in_ok-insert-in-None-2-clause-ok c =
    at_adds c.args.callback.items c.args.of_topic.now c.get_mut.follows.lender-at-none c.insert-in-None-2.new.self c.new-numbers.result c.insert-in-None.new.self c.args.n
    c.get_mut.follows.holds-at-none c.in-None.ensures.value c.new-numbers.ensures.empty c.in_ok-insert-in-None-2.ensures.updates c.in_ok-insert-in-None.ensures.updates.0
