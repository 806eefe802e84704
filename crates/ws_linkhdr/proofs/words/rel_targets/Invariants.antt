use Rattle.std.proofs.Common.{◌≡◌, ◌++◌, drop}
use Rattle.ws_linkhdr.specs.Words.{targets_of}
use Rattle.ws_linkhdr.proofs.words.rel_targets.Given as goal

-- the targets so far and those of what is left are those of all
abbrev pub invariant-loop-item : goal.invariant-loop-item
invariant-loop-item l = l.targets.items ++ targets_of l.rel (drop l.item-index l.items) ≡ targets_of l.rel l.items
