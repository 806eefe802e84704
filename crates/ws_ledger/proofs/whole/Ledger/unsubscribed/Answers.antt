use Rattle.std.proofs.Common.{◌≡◌, ◌≤◌, ℕ, ◌+◌, true, false, sym, ◌∙◌, subst, length, arith}
use Rattle.ws_model.specs.Leases.{is_on}
use Rattle.ws_intent.specs.declared.rows.Waiting.{Waiting}
use Rattle.ws_intent.specs.Rows.{number_at}
use Rattle.ws_core_tables.proofs.Confirmation.{there}
use Rattle.ws_core_tables.proofs.Lookups.{waiting_is}
use Rattle.ws_core_tables.specs.Stands.{StandsFor as TablesStand}
use Rattle.ws_ledger.specs.Rows.{Rows}
use Rattle.ws_ledger.specs.Pairs.{AreApart, is_listed, open_pairs_of}
use Rattle.ws_model.specs.declared.fate.Cause.TheVariants.{Unsubscribed}
use Rattle.ws_fate.specs.declared.totals.Standing.TheVariants.{Ended}
use Rattle.ws_ledger.proofs.ByKind.{lease_enough, lease_open, meant_listed, unsubscribed_stands}
use Rattle.ws_ledger.proofs.Closing.{AreClosed}
use Rattle.ws_ledger.proofs.whole.Ledger.unsubscribed.Goals as goal

pub apply_step-requires-clause-are_open : goal.apply_step-requires-clause-are_open
apply_step-requires-clause-are_open c v m k =
    let f = c.requires.follows in
    let w = there (λ (w : Waiting). is_on w.intent.mode ≡ false) (number_at c.args.n c.args.self.now.tables.intents.pending) c.requires.mode in
    let waits = waiting_is f.past c.args.self.now.tables.intents c.args.n w.it f.stands.tables.intents w.is in
    let meant = c.lease_of_pending-lease.ensures.stands f.past f.since w.it.intent (subst (λ (r : Rows). TablesStand f.past f.since r.tables) (sym c.self.view_is) f.stands.tables) f.legal.0 f.in_time waits in
    lease_open f.past f.since c.args.event.now.t c.lease_of_pending-lease.result (open_pairs_of c.lease_of_pending-lease.result c.args.self.now.tables.deliveries) c.args.self.now f.stands f.legal.0 f.in_time
    (meant_listed c.args.self.now w.it.intent c.lease_of_pending-lease.result f.past f.since c.args.event.now.t f.stands f.legal.0 f.in_time meant) v m
    (subst (λ ps. is_listed v m ps ≡ true) (c.deref.ensures.value ∙ c.in_ok-ends.ensures.value) k)

pub apply_step-requires-clause-enough : goal.apply_step-requires-clause-enough
apply_step-requires-clause-enough c =
    let f = c.requires.follows in
    let w = there (λ (w : Waiting). is_on w.intent.mode ≡ false) (number_at c.args.n c.args.self.now.tables.intents.pending) c.requires.mode in
    let waits = waiting_is f.past c.args.self.now.tables.intents c.args.n w.it f.stands.tables.intents w.is in
    let meant = c.lease_of_pending-lease.ensures.stands f.past f.since w.it.intent (subst (λ (r : Rows). TablesStand f.past f.since r.tables) (sym c.self.view_is) f.stands.tables) f.legal.0 f.in_time waits in
    subst (λ ps. length ps ≤ c.args.self.now.open_pairs) (sym (c.deref.ensures.value ∙ c.in_ok-ends.ensures.value))
    (lease_enough f.past f.since c.args.event.now.t c.lease_of_pending-lease.result (open_pairs_of c.lease_of_pending-lease.result c.args.self.now.tables.deliveries) c.args.self.now f.stands f.legal.0 f.in_time (subst AreApart c.in_ok-ends.ensures.value c.in_ok-ends.ensures.apart)
    (meant_listed c.args.self.now w.it.intent c.lease_of_pending-lease.result f.past f.since c.args.event.now.t f.stands f.legal.0 f.in_time meant))

plus_none : (a b c : ℕ) → a + b ≡ c + 0 → a + b ≡ c
plus_none a b c k = omega arith

pub returns-clause-ok : goal.returns-clause-ok
returns-clause-ok c =
    let w = there (λ (w : Waiting). is_on w.intent.mode ≡ false) (number_at c.args.n c.args.self.now.tables.intents.pending) c.requires.mode in
    unsubscribed_stands c.args.event.now c.args.n c.args._sent w.it.intent c.lease_of_pending-lease.result c.args.self.now c.apply_step.new.self c.requires.kind w.has
    (λ h since s. waiting_is h c.args.self.now.tables.intents c.args.n w.it s.tables.intents w.is)
    (λ h since s l k. c.lease_of_pending-lease.ensures.stands h since w.it.intent (subst (λ (r : Rows). TablesStand h since r.tables) (sym c.self.view_is) s.tables) l k (waiting_is h c.args.self.now.tables.intents c.args.n w.it s.tables.intents w.is))
    (subst AreApart c.in_ok-ends.ensures.value c.in_ok-ends.ensures.apart)
    c.in_ok-apply_step.ensures.tables
    (subst (λ ps. AreClosed (Ended Unsubscribed) ps c.args.self.now c.apply_step.new.self) (c.deref.ensures.value ∙ c.in_ok-ends.ensures.value)
    (record { look = c.in_ok-apply_step.ensures.look; totals = c.in_ok-apply_step.ensures.totals; number = plus_none _ _ _ c.in_ok-apply_step.ensures.number }))
