use Rattle.std.proofs.Common.{◌≡◌, drop}
use Rattle.std.specs.Prelude.{◌==◌}
use Rattle.std.specs.List.{list_any}
use Rattle.ws_plain.proofs.found.is_among.Given as goal

-- none of those that were seen is one
abbrev pub invariant-loop-intent : goal.invariant-loop-intent
invariant-loop-intent l = list_any (λ i. i.n == l.n) (drop l.intent-index l.intents) ≡ list_any (λ i. i.n == l.n) l.intents
