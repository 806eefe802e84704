use Rattle.std.proofs.Common.{◌≡◌, ◌<◌, arith}
use Rattle.ws_intent.proofs.Literal.{more_below, none_below}
use Rattle.ws_intent.proofs.tests.three_unheard_then_next_intent.Goals as goal

pub asked-requires-2 : goal.asked-requires-2
asked-requires-2 g c =
    let a : c.in_ok-intent.field-0.n ≡ 1 = c.in_ok-intent.ensures in
    let b : c.in_ok-intent-2.field-0.n ≡ 2 = c.in_ok-intent-2.ensures in
    let l : c.in_ok-intent.field-0.n < c.in_ok-intent-2.field-0.n = omega arith in
    record { above = more_below c.empty-intents.result.pending c.asked.new.self.pending c.in_ok-intent.field-0 c.in_ok-intent-2.field-0.n c.in_ok-asked.ensures.look l (none_below c.empty-intents.result c.in_ok-intent-2.field-0.n c.empty-intents.ensures.empty) }
