-- The fate of a pair under its numbers (own).
use Rattle.std.specs.Prelude.{ℕ, List}
use Rattle.ws_model.specs.declared.event.Event.{Event}
use Rattle.ws_model.specs.Fate.{Pair, fate}
use Rattle.ws_plain.specs.declared.pair_fates.PairFate.{PairFate}
use Rattle.ws_plain.specs.Capped.{capped}

abbrev pub pair_fate : List Event → ℕ → Pair → PairFate
pair_fate h t p = record { ver = p.version.ver; lease = p.lease.intent.n; fate = capped (fate h p t) }
