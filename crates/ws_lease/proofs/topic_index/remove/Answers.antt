use Rattle.std.proofs.Common.{ap, sym, ◌∙◌, refl, cond, Some, None}
use Rattle.std.specs.Prelude.{bytes_eq, ◌==◌}
use Rattle.std.specs.Option.{option_and_then}
use Rattle.ws_lease.specs.Index.{callback_at, end_at}
use Rattle.ws_lease.proofs.ByteKeys.{changed_where, same_through}
use Rattle.ws_lease.proofs.topic_index.remove.Goals as goal

pub returns-else-is_empty-clause-pairs : goal.returns-else-is_empty-clause-pairs
returns-else-is_empty-clause-pairs c =
    λ a b.
    changed_where (callback_at b) c.args.topic.now c.args.index.now (c.get_mut.follows.lender c.remove.new.self) (Some c.remove.new.self) (bytes_eq b c.args.callback.now) None
    ((c.get_mut.follows.holds c.remove.new.self).3 (rw (← c.in-Some.ensures.value) refl))
    (c.remove.ensures.callbacks b ∙ ap (λ o. cond (bytes_eq b c.args.callback.now) None (option_and_then (callback_at b) o)) c.in-Some.ensures.value) a

pub returns-else-is_empty-clause-topics : goal.returns-else-is_empty-clause-topics
returns-else-is_empty-clause-topics c =
    λ a q.
    changed_where (end_at q) c.args.topic.now c.args.index.now (c.get_mut.follows.lender c.remove.new.self) (Some c.remove.new.self) (c.args.n == q) None
    ((c.get_mut.follows.holds c.remove.new.self).3 (rw (← c.in-Some.ensures.value) refl))
    (c.remove.ensures.ends q ∙ ap (λ o. cond (c.args.n == q) None (option_and_then (end_at q) o)) c.in-Some.ensures.value) a

pub returns-then-is_empty-clause-pairs : goal.returns-then-is_empty-clause-pairs
returns-then-is_empty-clause-pairs c =
    λ a b.
    same_through (callback_at b) c.args.topic.now (c.get_mut.follows.lender c.remove.new.self) c.remove-then-is_empty.new.self None
    c.remove-then-is_empty.ensures.updates
    (sym (ap (option_and_then (callback_at b)) ((c.get_mut.follows.holds c.remove.new.self).3 (rw (← c.in-Some.ensures.value) refl)).1 ∙ c.if-is_empty.ensures.0 b)) a
    ∙ changed_where (callback_at b) c.args.topic.now c.args.index.now (c.get_mut.follows.lender c.remove.new.self) (Some c.remove.new.self) (bytes_eq b c.args.callback.now) None
    ((c.get_mut.follows.holds c.remove.new.self).3 (rw (← c.in-Some.ensures.value) refl))
    (c.remove.ensures.callbacks b ∙ ap (λ o. cond (bytes_eq b c.args.callback.now) None (option_and_then (callback_at b) o)) c.in-Some.ensures.value) a

pub returns-then-is_empty-clause-topics : goal.returns-then-is_empty-clause-topics
returns-then-is_empty-clause-topics c =
    λ a q.
    same_through (end_at q) c.args.topic.now (c.get_mut.follows.lender c.remove.new.self) c.remove-then-is_empty.new.self None
    c.remove-then-is_empty.ensures.updates
    (sym (ap (option_and_then (end_at q)) ((c.get_mut.follows.holds c.remove.new.self).3 (rw (← c.in-Some.ensures.value) refl)).1 ∙ c.if-is_empty.ensures.1 q)) a
    ∙ changed_where (end_at q) c.args.topic.now c.args.index.now (c.get_mut.follows.lender c.remove.new.self) (Some c.remove.new.self) (c.args.n == q) None
    ((c.get_mut.follows.holds c.remove.new.self).3 (rw (← c.in-Some.ensures.value) refl))
    (c.remove.ensures.ends q ∙ ap (λ o. cond (c.args.n == q) None (option_and_then (end_at q) o)) c.in-Some.ensures.value) a
