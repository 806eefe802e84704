use Rattle.std.proofs.Common.{◌≡◌, true, ap, sym, ◌∙◌, subst}
use Rattle.std.specs.Option.{option_map}
use Rattle.ws_model.specs.Leases.{is_on}
use Rattle.ws_intent.specs.declared.rows.Waiting.{Waiting}
use Rattle.ws_intent.specs.Rows.{number_at}
use Rattle.ws_core_tables.proofs.Confirmation.{there}
use Rattle.ws_core_tables.proofs.Lookups.{waiting_is}
use Rattle.ws_core_tables.specs.Stands.{StandsFor as TablesStand}
use Rattle.ws_ledger.specs.Rows.{Rows}
use Rattle.ws_ledger.proofs.ByKind.{pending_number}
use Rattle.ws_ledger.proofs.NewPairs.{renews}
use Rattle.ws_ledger.proofs.whole.Ledger.renewal_of_lease.Goals as goal

pub returns-in_err-old : goal.returns-in_err-old
returns-in_err-old c h since s l le =
    let f = c.requires.follows in
    let w = there (λ (w : Waiting). is_on w.intent.mode ≡ true) (number_at c.args.n c.args.self.now.tables.intents.pending) c.requires.mode in
    c.from_residual.ensures
    ∙ sym (ap (option_map (λ m. (c.args.n, m))) c.in_err-old.was)
    ∙ renews c.args.event.now c.args.n c.args._sent w.it.intent c.lease_of_pending.result c.args.self.now c.requires.kind w.has
    (pending_number f.past c.args.n w.it.intent (waiting_is f.past c.args.self.now.tables.intents c.args.n w.it f.stands.tables.intents w.is))
    (λ h since s. waiting_is h c.args.self.now.tables.intents c.args.n w.it s.tables.intents w.is)
    (λ h since s l le. c.lease_of_pending.ensures.stands h since w.it.intent (subst (λ (r : Rows). TablesStand h since r.tables) (sym c.self.view_is) s.tables) l le (waiting_is h c.args.self.now.tables.intents c.args.n w.it s.tables.intents w.is))
    h since s l le

pub returns : goal.returns
returns c h since s l le =
    let f = c.requires.follows in
    let w = there (λ (w : Waiting). is_on w.intent.mode ≡ true) (number_at c.args.n c.args.self.now.tables.intents.pending) c.requires.mode in
    sym (ap (option_map (λ m. (c.args.n, m))) c.in_ok-old.was)
    ∙ renews c.args.event.now c.args.n c.args._sent w.it.intent c.lease_of_pending.result c.args.self.now c.requires.kind w.has
    (pending_number f.past c.args.n w.it.intent (waiting_is f.past c.args.self.now.tables.intents c.args.n w.it f.stands.tables.intents w.is))
    (λ h since s. waiting_is h c.args.self.now.tables.intents c.args.n w.it s.tables.intents w.is)
    (λ h since s l le. c.lease_of_pending.ensures.stands h since w.it.intent (subst (λ (r : Rows). TablesStand h since r.tables) (sym c.self.view_is) s.tables) l le (waiting_is h c.args.self.now.tables.intents c.args.n w.it s.tables.intents w.is))
    h since s l le
