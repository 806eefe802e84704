use Rattle.std.proofs.Common.{◌≡◌, ◌++◌, drop}
use Rattle.std.specs.Prelude.{filter}
use Rattle.ws_model.specs.Intents.{is_owed_notice}
use Rattle.ws_plain.specs.Past.{past}
use Rattle.ws_plain.proofs.intents.notices.Given as goal

-- the intents so far and those that are owed a notice of those left are those of all
abbrev pub invariant-loop-intent : goal.invariant-loop-intent
invariant-loop-intent l =
    l.owed.items ++ filter (is_owed_notice (past l.events)) (drop l.intent-index l.intent-items)
    ≡ filter (is_owed_notice (past l.events)) l.intent-items
