use Rattle.std.proofs.Common.{◌<◌, ◌^◌, sym, subst, length, arith}
use Rattle.ws_core_tables.proofs.Holding.{subscriptions_le}
use Rattle.ws_core_tables.proofs.tables.Tables.held_leases.Goals as goal

pub overflow_add-result : goal.overflow_add-result
overflow_add-result c =
    let few : length c.self.inside.intents.pending < 2 ^ 32 = subst (λ rows. length rows.intents.pending < 2 ^ 32) (sym c.self.view_is) c.requires.few in
    let among = subscriptions_le c.self.inside.intents.pending in
    let subscriptions = c.subscriptions.ensures.count in
    let small = c.count.ensures.small in
    grind arith
