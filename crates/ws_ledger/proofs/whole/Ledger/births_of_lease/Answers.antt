use Rattle.std.proofs.Common.{◌≡◌, true, ap, sym, ◌∙◌, subst}
use Rattle.std.proofs.lemmas.Result.{IfOk-weaker}
use Rattle.ws_model.specs.Leases.{is_on}
use Rattle.ws_intent.specs.declared.rows.Waiting.{Waiting}
use Rattle.ws_intent.specs.Rows.{number_at}
use Rattle.ws_core_tables.proofs.Confirmation.{there}
use Rattle.ws_core_tables.proofs.Lookups.{waiting_is}
use Rattle.ws_core_tables.specs.Stands.{StandsFor as TablesStand}
use Rattle.ws_ledger.specs.Births.{FindsBirths}
use Rattle.ws_ledger.specs.Pairs.{moved_to}
use Rattle.ws_ledger.specs.Rows.{Rows}
use Rattle.ws_ledger.proofs.ByKind.{pending_number}
use Rattle.ws_ledger.proofs.NewPairs.{by_lease}
use Rattle.ws_ledger.proofs.whole.Ledger.births_of_lease.Goals as goal

pub returns : goal.returns
returns c =
    let f = c.requires.follows in
    let w = there (λ (w : Waiting). is_on w.intent.mode ≡ true) (number_at c.args.n c.args.self.now.tables.intents.pending) c.requires.mode in
    IfOk-weaker c.moved_to.result (λ births. births.items ≡ moved_to c.args.n c.deref.result.now) (λ births. FindsBirths c.args.event.now c.args.self.now births.items)
    (λ births k.
    subst (FindsBirths c.args.event.now c.args.self.now) (sym (k ∙ ap (moved_to c.args.n) (c.deref.ensures.value ∙ c.in_ok-ends.ensures.value)))
    (by_lease c.args.event.now c.args.n c.args._sent w.it.intent c.lease_of_pending-old.result c.args.self.now c.requires.kind w.has
    (pending_number f.past c.args.n w.it.intent (waiting_is f.past c.args.self.now.tables.intents c.args.n w.it f.stands.tables.intents w.is))
    (λ h since s. waiting_is h c.args.self.now.tables.intents c.args.n w.it s.tables.intents w.is)
    (λ h since s l le. c.lease_of_pending-old.ensures.stands h since w.it.intent (subst (λ (r : Rows). TablesStand h since r.tables) (sym c.self.view_is) s.tables) l le (waiting_is h c.args.self.now.tables.intents c.args.n w.it s.tables.intents w.is))))
    c.moved_to.ensures
