use Rattle.std.proofs.Common.{refl, true}
use Rattle.std.proofs.lemmas.Result.{on_err_weaker, on_ok_weaker}
use Rattle.ws_intent.proofs.Keyed.{in_adds, in_same, in_updates}
use Rattle.ws_intent.proofs.index.put.Goals as goal

pub returns-in-Some-clause-ok : goal.returns-in-Some-clause-ok
returns-in-Some-clause-ok c =
    on_ok_weaker c.put_at.result
    (λ f. in_updates c.args.topic.items c.args.callback.items c.args.index.now (c.get_mut.follows.lender c.put_at.new.of_topic) c.in-Some.of_topic.now c.put_at.new.of_topic c.args.n true
    c.in-Some.ensures.value ((c.get_mut.follows.holds c.put_at.new.of_topic).3 (rw (← c.in-Some.ensures.value) refl)) f)
    c.put_at.ensures.ok

pub returns-in-Some-clause-err : goal.returns-in-Some-clause-err
returns-in-Some-clause-err c =
    on_err_weaker c.put_at.result
    (λ f. in_same c.args.topic.items c.args.index.now (c.get_mut.follows.lender c.put_at.new.of_topic) c.in-Some.of_topic.now c.put_at.new.of_topic
    c.in-Some.ensures.value ((c.get_mut.follows.holds c.put_at.new.of_topic).3 (rw (← c.in-Some.ensures.value) refl)) f)
    c.put_at.ensures.err

pub returns-in_ok-insert-in-None-clause-ok : goal.returns-in_ok-insert-in-None-clause-ok
returns-in_ok-insert-in-None-clause-ok c =
    in_adds c.args.topic.items c.args.callback.items c.args.index.now c.get_mut.follows.lender-at-none c.insert.new.self c.new-of_topic.result c.put_at-in-None.new.of_topic c.args.n
    c.get_mut.follows.holds-at-none c.in-None.ensures.value c.new-of_topic.ensures.empty c.in_ok-insert-in-None.ensures.updates c.in_ok-put_at-in-None.ensures.ok
