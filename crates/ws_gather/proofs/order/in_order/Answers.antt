use Rattle.std.proofs.Common.{rules}
use Rattle.std.proofs.lemmas.List.Sorted.{IsNonDecreasingBy-from_sort_by_key}
use Rattle.ws_gather.proofs.Members.{exchanges, ordered}
use Rattle.ws_gather.proofs.order.in_order.Goals as goal

pub returns-clause-rising : goal.returns-clause-rising
returns-clause-rising c = IsNonDecreasingBy-from_sort_by_key (λ e. e.serial) _ c.sort_unstable_by_key.ensures.sorted (λ a r q k. search rules)

pub returns-clause-gathered : goal.returns-clause-gathered
returns-clause-gathered c = λ h test l g. ordered h test _ _ l c.sort_unstable_by_key.ensures.permutation (returns-clause-rising c) g

pub returns-clause-exchanged : goal.returns-clause-exchanged
returns-clause-exchanged c = λ h test l p. ordered h test _ _ l c.sort_unstable_by_key.ensures.permutation (returns-clause-rising c) (exchanges h test _ l p)
