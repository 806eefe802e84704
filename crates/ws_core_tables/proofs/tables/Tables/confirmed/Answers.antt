use Rattle.ws_core_tables.proofs.Lookups.{confirmed_waits}
use Rattle.ws_core_tables.proofs.tables.Tables.confirmed.Goals as goal

pub waiting_mode-requires : goal.waiting_mode-requires
waiting_mode-requires c = confirmed_waits c.args.event.now c.requires.follows.past c.args.self.now.intents c.args.n c.args.sent c.requires.follows.legal c.requires.kind c.requires.follows.stands.intents
