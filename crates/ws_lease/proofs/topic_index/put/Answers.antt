use Rattle.std.proofs.Common.{ap, sym, ◌∙◌, refl, cond, ◌&&◌, Some, None}
use Rattle.std.specs.Prelude.{bytes_eq, ◌==◌}
use Rattle.std.specs.Option.{option_and_then}
use Rattle.std.specs.BTreeMap.{get_by}
use Rattle.std.proofs.lemmas.Result.{on_ok_weaker, on_err_weaker, IfOk-weaker}
use Rattle.ws_lease.specs.Index.{callback_at, end_at, is_it, pair_at, topic_end_at}
use Rattle.ws_lease.proofs.ByteKeys.{at_bytes, changed_through, changed_where, same_through}
use Rattle.ws_lease.proofs.topic_index.put.Goals as goal

pub returns-in-Some-clause-pairs : goal.returns-in-Some-clause-pairs
returns-in-Some-clause-pairs c =
    on_ok_weaker c.put.result
    (λ k a b.
    changed_where (callback_at b) c.args.topic.items c.args.index.now (c.get_mut.follows.lender c.put.new.self) (Some c.put.new.self) (bytes_eq b c.args.callback.items) (Some c.args.n)
    ((c.get_mut.follows.holds c.put.new.self).3 (rw (← c.in-Some.ensures.value) refl))
    (k b ∙ ap (λ o. cond (bytes_eq b c.args.callback.items) (Some c.args.n) (option_and_then (callback_at b) o)) c.in-Some.ensures.value) a)
    c.put.ensures.callbacks

pub returns-in-Some-clause-topics : goal.returns-in-Some-clause-topics
returns-in-Some-clause-topics c =
    IfOk-weaker c.put.result _ _
    (λ o k a q.
    changed_through (end_at q) c.args.topic.items c.args.index.now (c.get_mut.follows.lender c.put.new.self) (Some c.put.new.self) (λ z. cond (is_it o q) None (cond (c.args.n == q) (Some c.args.end) z))
    ((c.get_mut.follows.holds c.put.new.self).3 (rw (← c.in-Some.ensures.value) refl))
    (k q ∙ ap (λ z. cond (is_it o q) None (cond (c.args.n == q) (Some c.args.end) (option_and_then (end_at q) z))) c.in-Some.ensures.value) a)
    c.put.ensures.ends

pub returns-in-Some-clause-same_pairs : goal.returns-in-Some-clause-same_pairs
returns-in-Some-clause-same_pairs c =
    on_err_weaker c.put.result
    (λ k a b.
    same_through (callback_at b) c.args.topic.items c.args.index.now (c.get_mut.follows.lender c.put.new.self) (Some c.put.new.self)
    ((c.get_mut.follows.holds c.put.new.self).3 (rw (← c.in-Some.ensures.value) refl))
    (k b ∙ ap (option_and_then (callback_at b)) c.in-Some.ensures.value) a)
    c.put.ensures.same_callbacks

pub returns-in-Some-clause-same_topics : goal.returns-in-Some-clause-same_topics
returns-in-Some-clause-same_topics c =
    on_err_weaker c.put.result
    (λ k a q.
    same_through (end_at q) c.args.topic.items c.args.index.now (c.get_mut.follows.lender c.put.new.self) (Some c.put.new.self)
    ((c.get_mut.follows.holds c.put.new.self).3 (rw (← c.in-Some.ensures.value) refl))
    (k q ∙ ap (option_and_then (end_at q)) c.in-Some.ensures.value) a)
    c.put.ensures.same_ends

pub returns-in_ok-insert-in-None-clause-pairs : goal.returns-in_ok-insert-in-None-clause-pairs
returns-in_ok-insert-in-None-clause-pairs c =
    λ a b.
    changed_where (callback_at b) c.args.topic.items c.get_mut.follows.lender-at-none c.insert.new.self (Some c.put-in-None.new.self) (bytes_eq b c.args.callback.items) (Some c.args.n)
    c.in_ok-insert-in-None.ensures.updates
    (c.in_ok-put-in-None.ensures.callbacks b
    ∙ ap (cond (bytes_eq b c.args.callback.items) (Some c.args.n))
    (c.empty-of_topic.ensures.callbacks b
    ∙ ap (option_and_then (callback_at b)) c.in-None.ensures.value
    ∙ sym (ap (λ m. option_and_then (callback_at b) (get_by (at_bytes c.args.topic.items) m)) c.get_mut.follows.holds-at-none))) a
    ∙ ap (λ m. cond (bytes_eq a c.args.topic.items && bytes_eq b c.args.callback.items) (Some c.args.n) (pair_at m a b)) c.get_mut.follows.holds-at-none

pub returns-in_ok-insert-in-None-clause-topics : goal.returns-in_ok-insert-in-None-clause-topics
returns-in_ok-insert-in-None-clause-topics c =
    λ a q.
    changed_through (end_at q) c.args.topic.items c.get_mut.follows.lender-at-none c.insert.new.self (Some c.put-in-None.new.self) (λ z. cond (c.args.n == q) (Some c.args.end) z)
    c.in_ok-insert-in-None.ensures.updates
    (c.in_ok-put-in-None.ensures.ends q
    ∙ ap (λ o. cond (is_it o q) None (cond (c.args.n == q) (Some c.args.end) (end_at q c.empty-of_topic.result))) (c.in_ok-put-in-None.ensures.replaced ∙ c.empty-of_topic.ensures.callbacks c.args.callback.items)
    ∙ ap (cond (c.args.n == q) (Some c.args.end))
    (c.empty-of_topic.ensures.ends q
    ∙ ap (option_and_then (end_at q)) c.in-None.ensures.value
    ∙ sym (ap (λ m. option_and_then (end_at q) (get_by (at_bytes c.args.topic.items) m)) c.get_mut.follows.holds-at-none))) a
    ∙ ap (λ m. cond (bytes_eq a c.args.topic.items) (cond (c.args.n == q) (Some c.args.end) (topic_end_at m a q)) (topic_end_at m a q)) c.get_mut.follows.holds-at-none
