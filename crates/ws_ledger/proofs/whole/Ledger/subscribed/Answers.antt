use Rattle.std.proofs.Common.{◌≡◌, ◌≤◌, true, sym, ap, ◌∙◌, subst, length}
use Rattle.ws_model.specs.Leases.{is_on}
use Rattle.ws_intent.specs.declared.rows.Waiting.{Waiting}
use Rattle.ws_intent.specs.Rows.{number_at}
use Rattle.ws_core_tables.proofs.Confirmation.{there}
use Rattle.ws_core_tables.proofs.Lookups.{waiting_is}
use Rattle.ws_core_tables.specs.Stands.{StandsFor as TablesStand}
use Rattle.ws_ledger.specs.Rows.{Rows}
use Rattle.ws_ledger.specs.Pairs.{AreApart, is_listed, moved_to, open_pairs_of}
use Rattle.ws_model.specs.declared.fate.Cause.TheVariants.{Replaced}
use Rattle.ws_fate.specs.declared.totals.Standing.TheVariants.{Ended}
use Rattle.ws_core_tables.proofs.NewLease.{makes_lease}
use Rattle.ws_ledger.proofs.Bearing.{AreMoved, apart_moved, new_lease}
use Rattle.ws_ledger.proofs.ByKind.{lease_enough, lease_open, meant_listed, pending_number, subscribed_stands}
use Rattle.ws_ledger.proofs.whole.Ledger.subscribed.Goals as goal

pub apply_step-requires-clause-births_apart : goal.apply_step-requires-clause-births_apart
apply_step-requires-clause-births_apart c =
    subst AreApart (sym (c.deref-2.ensures.value ∙ c.in_ok-births.ensures ∙ ap (moved_to c.args.n) (c.deref.ensures.value ∙ c.in_ok-ends.ensures.value)))
    (apart_moved c.args.n c.lease_of_pending-old.result c.args.self.now.tables.deliveries (subst AreApart c.in_ok-ends.ensures.value c.in_ok-ends.ensures.apart))

pub apply_step-requires-clause-new : goal.apply_step-requires-clause-new
apply_step-requires-clause-new c v m k =
    let f = c.requires.follows in
    let w = there (λ (w : Waiting). is_on w.intent.mode ≡ true) (number_at c.args.n c.args.self.now.tables.intents.pending) c.requires.mode in
    let waits = waiting_is f.past c.args.self.now.tables.intents c.args.n w.it f.stands.tables.intents w.is in
    new_lease c.args.event.now f.past f.since (record { intent = w.it.intent; sent = c.args._sent }) c.in_ok-ends.ends.items c.args.self.now f.stands f.legal (makes_lease c.args.event.now f.past c.args.n c.args._sent w.it.intent c.requires.kind waits) w.has v m
    (subst (λ ps. is_listed v m ps ≡ true) (c.deref-2.ensures.value ∙ c.in_ok-births.ensures ∙ ap (moved_to c.args.n) c.deref.ensures.value ∙ ap (λ z. moved_to z c.in_ok-ends.ends.items) (sym (pending_number f.past c.args.n w.it.intent waits))) k)

pub apply_step-requires-clause-are_open : goal.apply_step-requires-clause-are_open
apply_step-requires-clause-are_open c v m k =
    let f = c.requires.follows in
    let w = there (λ (w : Waiting). is_on w.intent.mode ≡ true) (number_at c.args.n c.args.self.now.tables.intents.pending) c.requires.mode in
    let waits = waiting_is f.past c.args.self.now.tables.intents c.args.n w.it f.stands.tables.intents w.is in
    let meant = c.lease_of_pending-old.ensures.stands f.past f.since w.it.intent (subst (λ (r : Rows). TablesStand f.past f.since r.tables) (sym c.self.view_is) f.stands.tables) f.legal.0 f.in_time waits in
    lease_open f.past f.since c.args.event.now.t c.lease_of_pending-old.result (open_pairs_of c.lease_of_pending-old.result c.args.self.now.tables.deliveries) c.args.self.now f.stands f.legal.0 f.in_time
    (meant_listed c.args.self.now w.it.intent c.lease_of_pending-old.result f.past f.since c.args.event.now.t f.stands f.legal.0 f.in_time meant) v m
    (subst (λ ps. is_listed v m ps ≡ true) (c.deref-3.ensures.value ∙ c.in_ok-ends.ensures.value) k)

pub apply_step-requires-clause-enough : goal.apply_step-requires-clause-enough
apply_step-requires-clause-enough c =
    let f = c.requires.follows in
    let w = there (λ (w : Waiting). is_on w.intent.mode ≡ true) (number_at c.args.n c.args.self.now.tables.intents.pending) c.requires.mode in
    let waits = waiting_is f.past c.args.self.now.tables.intents c.args.n w.it f.stands.tables.intents w.is in
    let meant = c.lease_of_pending-old.ensures.stands f.past f.since w.it.intent (subst (λ (r : Rows). TablesStand f.past f.since r.tables) (sym c.self.view_is) f.stands.tables) f.legal.0 f.in_time waits in
    subst (λ ps. length ps ≤ c.args.self.now.open_pairs) (sym (c.deref-3.ensures.value ∙ c.in_ok-ends.ensures.value))
    (lease_enough f.past f.since c.args.event.now.t c.lease_of_pending-old.result (open_pairs_of c.lease_of_pending-old.result c.args.self.now.tables.deliveries) c.args.self.now f.stands f.legal.0 f.in_time (subst AreApart c.in_ok-ends.ensures.value c.in_ok-ends.ensures.apart)
    (meant_listed c.args.self.now w.it.intent c.lease_of_pending-old.result f.past f.since c.args.event.now.t f.stands f.legal.0 f.in_time meant))

pub returns-clause-ok : goal.returns-clause-ok
returns-clause-ok c =
    let f = c.requires.follows in
    let w = there (λ (w : Waiting). is_on w.intent.mode ≡ true) (number_at c.args.n c.args.self.now.tables.intents.pending) c.requires.mode in
    let waits = waiting_is f.past c.args.self.now.tables.intents c.args.n w.it f.stands.tables.intents w.is in
    subscribed_stands c.args.event.now c.args.n c.args._sent w.it.intent c.lease_of_pending-old.result c.args.self.now c.apply_step.new.self c.requires.kind w.has
    (pending_number f.past c.args.n w.it.intent waits)
    (λ h since s. waiting_is h c.args.self.now.tables.intents c.args.n w.it s.tables.intents w.is)
    (λ h since s l k. c.lease_of_pending-old.ensures.stands h since w.it.intent (subst (λ (r : Rows). TablesStand h since r.tables) (sym c.self.view_is) s.tables) l k (waiting_is h c.args.self.now.tables.intents c.args.n w.it s.tables.intents w.is))
    (subst AreApart c.in_ok-ends.ensures.value c.in_ok-ends.ensures.apart)
    c.in_ok-apply_step.ensures.tables
    (subst (λ ps. AreMoved (Ended Replaced) (moved_to c.args.n (open_pairs_of c.lease_of_pending-old.result c.args.self.now.tables.deliveries)) ps c.args.self.now c.apply_step.new.self) (c.deref-3.ensures.value ∙ c.in_ok-ends.ensures.value)
    (subst (λ ps. AreMoved (Ended Replaced) ps c.deref-3.result.now c.args.self.now c.apply_step.new.self) (c.deref-2.ensures.value ∙ c.in_ok-births.ensures ∙ ap (moved_to c.args.n) (c.deref.ensures.value ∙ c.in_ok-ends.ensures.value))
    (record { look = c.in_ok-apply_step.ensures.look; totals = c.in_ok-apply_step.ensures.totals; number = c.in_ok-apply_step.ensures.number })))
