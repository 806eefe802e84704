use Rattle.std.proofs.Common.{◌≡◌, ◌++◌, drop}
use Rattle.std.specs.Prelude.{◌&&◌, filter, nat_lt, not}
use Rattle.std.specs.List.{list_any}
use Rattle.ws_model.specs.Intents.{same_pair}
use Rattle.ws_plain.proofs.works.firsts.Given as goal

-- the intents so far and the first of those left are the first of all
abbrev pub invariant-loop-intent : goal.invariant-loop-intent
invariant-loop-intent l =
    l.firsts.items ++ filter (λ i. not (list_any (λ j. nat_lt j.n i.n && same_pair i j) l.pending)) (drop l.intent-index l.pending)
    ≡ filter (λ i. not (list_any (λ j. nat_lt j.n i.n && same_pair i j) l.pending)) l.pending
