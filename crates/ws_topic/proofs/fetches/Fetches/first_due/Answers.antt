use Rattle.std.proofs.Common.{◌≡◌, ℕ, List, sym, subst, rules}
use Rattle.std.specs.List.{AllByRecursion}
use Rattle.ws_topic.specs.declared.rows.OwedFetch.{OwedFetch}
use Rattle.ws_topic.specs.ByTopic.{by_bytes}
use Rattle.ws_topic.proofs.Keyed.{all_listed}
use Rattle.ws_topic.proofs.fetches.Fetches.first_due.Goals as goal

pub loop-topic-init : goal.loop-topic-init
loop-topic-init c =
    record {
      next = search rules;
      finite = search rules;
      rest = search rules;
      keyed = subst (λ es. AllByRecursion (λ (e : List ℕ × OwedFetch). e.1.topic ≡ e.0) (by_bytes es)) (sym c.into_iter-topic-iterator.ensures.into_iter_gives.0) (all_listed (by_bytes c.self.inside.by_topic.entries) c.self.invariant);
    }
