use Rattle.std.proofs.Common.{ap, ◌∙◌, subst, cond}
use Rattle.std.specs.Prelude.{IsSome, nat_lt}
use Rattle.ws_model.specs.Due.{place}
use Rattle.ws_intent.specs.Index.{has_in, IsLeast}
use Rattle.ws_intent.specs.Rows.{number_at}
use Rattle.ws_intent.proofs.Indexing.{indexed_added}
use Rattle.ws_intent.proofs.pending.Pending.add.Goals as goal

pub invariant_of-self-2 : goal.invariant_of-self-2
invariant_of-self-2 c =
    let topic_is = c.in_ok-topic.ensures ∙ c.as_slice.ensures in
    let callback_is = c.in_ok-callback.ensures ∙ c.as_slice-2.ensures in
    indexed_added c.self.inside.by_number.entries c.put_both.new.by_number.entries (has_in c.self.inside.by_pair) (has_in c.put_both.new.by_pair) c.self.inside.firsts c.enter.new.numbers
    c.self.inside.subscriptions c.in_ok-subscriptions.subscriptions c.args.intent c.first_of-earlier.result
    c.self.invariant (λ q k. c.requires.above q (subst (λ es. IsSome (number_at q es)) c.self.view_is k))
    c.in_ok-put_both.ensures.entries c.in_ok-put_both.ensures.rows c.in_ok-put_both.ensures.ordered
    (rw (topic_is, callback_is) at c.in_ok-put_both.ensures.pairs)
    (subst (λ a. IsLeast (has_in c.self.inside.by_pair a c.args.intent.callback) c.first_of-earlier.result) (c.deref.ensures.value ∙ topic_is)
    (subst (λ b. IsLeast (has_in c.self.inside.by_pair c.deref.result.now b) c.first_of-earlier.result) (c.deref-2.ensures.value ∙ callback_is) c.first_of-earlier.ensures))
    (c.enter.ensures ∙ ap (λ b. cond b (place nat_lt c.args.intent.n c.self.inside.firsts) c.self.inside.firsts) c.in_ok-room.ensures)
    c.in_ok-subscriptions.ensures
