use Rattle.ws_intent.specs.Index.{has_in}
use Rattle.std.proofs.Common.{ap, ◌∙◌}
use Rattle.ws_intent.specs.Rows.{is_last, number_at}
use Rattle.ws_intent.proofs.Indexing.{indexed_missed}
use Rattle.ws_intent.proofs.pending.Pending.count_miss.Goals as goal

pub invariant_of-self : goal.invariant_of-self
invariant_of-self c =
    indexed_missed c.self.inside.by_number.entries c.unheard_more.new.by_number.entries (has_in c.self.inside.by_pair) c.self.inside.firsts c.self.inside.subscriptions c.args.n
    c.self.invariant (ap (λ es. is_last (number_at c.args.n es)) c.self.view_is ∙ c.requires.more) c.unheard_more.ensures.entries c.unheard_more.ensures.rows c.unheard_more.ensures.ordered
