use Rattle.std.proofs.Common.{◌≡◌, true, ap, sym, ◌∙◌, subst, Some}
use Rattle.std.specs.Prelude.{Option}
use Rattle.std.specs.Option.{option_map}
use Rattle.ws_model.specs.declared.event.Intent.{Intent}
use Rattle.ws_model.specs.declared.lease.Lease.{Lease}
use Rattle.ws_model.specs.Leases.{is_on}
use Rattle.ws_intent.specs.declared.rows.Waiting.{Waiting}
use Rattle.ws_intent.specs.Rows.{Rows as IntentRows, number_at}
use Rattle.ws_intent.specs.Stands.{StandsFor as IntentsStand}
use Rattle.ws_lease.proofs.WhichEvents.{new_is_not_held}
use Rattle.ws_core_tables.specs.Numbers.{with_event}
use Rattle.ws_core_tables.specs.Rows.{Rows}
use Rattle.ws_core_tables.specs.Stands.{GoesOn}
use Rattle.ws_core_tables.proofs.Confirmation.{there}
use Rattle.ws_core_tables.proofs.Lookups.{pending_is}
use Rattle.ws_core_tables.proofs.NewLease.{lasts, makes_lease, no_pairs, renewed_kept, renewed_pairs, replaced_whole}
use Rattle.ws_core_tables.proofs.Onward.{by_confirmation}
use Rattle.ws_core_tables.proofs.Renewal.{subscription_stands}
use Rattle.ws_core_tables.proofs.tables.Tables.subscribed.Goals as goal

-- it is on as the pending one is
on_there : (i : Intent) (w : Waiting) (o : Option Waiting) → Some w ≡ o → Some i ≡ option_map (λ w. w.intent) o → is_on w.intent.mode ≡ true → is_on i.mode ≡ true
on_there i w o a b k =
    let same : Some i ≡ Some w.intent = b ∙ ap (option_map (λ (w : Waiting). w.intent)) (sym a) in
    let is : i ≡ w.intent = cc in
    ap (λ (i : Intent). is_on i.mode) is ∙ k

pub renew_lease-requires-clause-new : goal.renew_lease-requires-clause-new
renew_lease-requires-clause-new c =
    let f = c.requires.follows in
    let w = there (λ (w : Waiting). is_on w.intent.mode ≡ true) (number_at c.args.n c.args.self.now.intents.pending) c.requires.mode in
    let waits = c.in_ok-intent.ensures ∙ pending_is f.past c.args.self.now.intents c.args.n f.stands.intents in
    (new_is_not_held c.args.self.now.leases f.past c.args.event.now f.since (record { intent = c.in_ok-intent.intent; sent = c.args.sent }) f.stands.leases f.legal
    (makes_lease c.args.event.now f.past c.args.n c.args.sent c.in_ok-intent.intent c.requires.kind waits) (on_there c.in_ok-intent.intent w.it (number_at c.args.n c.args.self.now.intents.pending) w.is c.in_ok-intent.ensures w.has)).0

pub renew_lease-requires-clause-sent : goal.renew_lease-requires-clause-sent
renew_lease-requires-clause-sent c =
    let f = c.requires.follows in
    let w = there (λ (w : Waiting). is_on w.intent.mode ≡ true) (number_at c.args.n c.args.self.now.intents.pending) c.requires.mode in
    let waits = c.in_ok-intent.ensures ∙ pending_is f.past c.args.self.now.intents c.args.n f.stands.intents in
    (new_is_not_held c.args.self.now.leases f.past c.args.event.now f.since (record { intent = c.in_ok-intent.intent; sent = c.args.sent }) f.stands.leases f.legal
    (makes_lease c.args.event.now f.past c.args.n c.args.sent c.in_ok-intent.intent c.requires.kind waits) (on_there c.in_ok-intent.intent w.it (number_at c.args.n c.args.self.now.intents.pending) w.is c.in_ok-intent.ensures w.has)).1

pub renew_lease-requires-clause-none : goal.renew_lease-requires-clause-none
renew_lease-requires-clause-none c =
    let f = c.requires.follows in
    let w = there (λ (w : Waiting). is_on w.intent.mode ≡ true) (number_at c.args.n c.args.self.now.intents.pending) c.requires.mode in
    let waits = c.in_ok-intent.ensures ∙ pending_is f.past c.args.self.now.intents c.args.n f.stands.intents in
    no_pairs c.args.event.now f.past (record { intent = c.in_ok-intent.intent; sent = c.args.sent }) c.args.self.now.deliveries f.legal
    (makes_lease c.args.event.now f.past c.args.n c.args.sent c.in_ok-intent.intent c.requires.kind waits) (on_there c.in_ok-intent.intent w.it (number_at c.args.n c.args.self.now.intents.pending) w.is c.in_ok-intent.ensures w.has) f.stands.pairs

pub returns-clause-ok : goal.returns-clause-ok
returns-clause-ok c =
    let w = there (λ (w : Waiting). is_on w.intent.mode ≡ true) (number_at c.args.n c.args.self.now.intents.pending) c.requires.mode in
    let on = on_there c.in_ok-intent.intent w.it (number_at c.args.n c.args.self.now.intents.pending) w.is c.in_ok-intent.ensures w.has in
    let e = c.args.event.now in
    let old = c.args.self.now in
    let new = c.renew_lease.new.self in
    let i = c.in_ok-intent.intent in
    let lease : Lease = record { intent = i; sent = c.args.sent } in
    subst (λ (r : Rows). GoesOn e old (record { intents = c.settle.new.self; leases = r.leases; topics = r.topics; deliveries = r.deliveries; numbers = c.after-self-inside.result })) (sym c.self.view_is)
    (by_confirmation e old c.settle.new.self new.leases new.topics new.deliveries c.after-self-inside.result c.args.n c.args.sent c.requires.kind
    (c.after-self-inside.ensures ∙ ap (with_event e) (ap (λ (r : Rows). r.numbers) c.self.view_is ∙ c.in_ok-renew_lease.ensures.numbers))
    c.in_ok-renew_lease.ensures.topics
    (λ h s l. c.settle.ensures.stands h e (subst (λ (r : IntentRows). IntentsStand r h) (sym (ap (λ (r : Rows). r.intents) c.self.view_is ∙ c.in_ok-renew_lease.ensures.intents)) s) l (c.args.sent, c.requires.kind))
    (λ h since s l k.
    let waits = c.in_ok-intent.ensures ∙ pending_is h old.intents c.args.n s.intents in
    c.in_ok-renew_lease.ensures.leases h e since s.leases k l (makes_lease e h c.args.n c.args.sent i c.requires.kind waits))
    (λ h since s l k.
    let waits = c.in_ok-intent.ensures ∙ pending_is h old.intents c.args.n s.intents in
    let m = makes_lease e h c.args.n c.args.sent i c.requires.kind waits in
    let is = c.lease_of-old.ensures.stands h since i s l.0 k waits in
    subscription_stands e h since old.deliveries new.deliveries lease c.lease_of-old.result m on (lasts e h lease l m on) is l s.deliveries k
    (no_pairs e h lease old.deliveries l m on s.pairs)
    (λ v. replaced_whole h e.t v i c.lease_of-old.result old.deliveries l.0 is s.pairs)
    c.in_ok-renew_lease.ensures.pairs)
    (λ h since s l k.
    let waits = c.in_ok-intent.ensures ∙ pending_is h old.intents c.args.n s.intents in
    renewed_pairs e h lease e.t c.lease_of-old.result old.deliveries new.deliveries l (makes_lease e h c.args.n c.args.sent i c.requires.kind waits) on s.pairs c.in_ok-renew_lease.ensures.pairs)
    (renewed_kept lease e.t c.lease_of-old.result old.deliveries new.deliveries c.in_ok-renew_lease.ensures.pairs))
