use Rattle.std.proofs.Common.{◌≡◌, drop}
use Rattle.std.specs.Prelude.{◌==◌}
use Rattle.std.specs.List.{list_any}
use Rattle.ws_plain.proofs.found.is_owed_number.Given as goal

-- none of those that were seen is one
abbrev pub invariant-loop-pair : goal.invariant-loop-pair
invariant-loop-pair l = list_any (λ p. p.version.ver == l.ver) (drop l.pair-index l.owed) ≡ list_any (λ p. p.version.ver == l.ver) l.owed
