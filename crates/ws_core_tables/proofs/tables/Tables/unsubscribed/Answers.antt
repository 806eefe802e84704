use Rattle.std.proofs.Common.{◌≡◌, true, false, ap, sym, ◌∙◌, subst, None, cond}
use Rattle.std.specs.Prelude.{IfSome, MatchOption, is_some}
use Rattle.ws_model.specs.declared.fate.Cause.TheVariants.{Unsubscribed}
use Rattle.ws_model.specs.Leases.{is_on}
use Rattle.ws_intent.specs.declared.rows.Waiting.{Waiting}
use Rattle.ws_intent.specs.Rows.{Rows as IntentRows, number_at}
use Rattle.ws_intent.specs.Stands.{StandsFor as IntentsStand}
use Rattle.ws_lease.specs.Stands.{EndsLease, LeavesLeases}
use Rattle.ws_lease.specs.Table.{live_at}
use Rattle.ws_delivery.specs.Table.{pair_at}
use Rattle.ws_core_tables.specs.Numbers.{with_event}
use Rattle.ws_core_tables.specs.Rows.{Rows}
use Rattle.ws_core_tables.specs.Stands.{GoesOn, IsOfHistory, is_number}
use Rattle.ws_core_tables.proofs.Confirmation.{confirmed_is, found_lives, there, unsubscription_does, unsubscription_stands}
use Rattle.ws_core_tables.proofs.Lookups.{waiting_is}
use Rattle.ws_core_tables.proofs.Onward.{by_confirmation, pairs_on}
use Rattle.ws_core_tables.proofs.Stepped.{closed_kept, closed_pairs}
use Rattle.ws_core_tables.proofs.tables.Tables.unsubscribed.Goals as goal

pub end_lease-requires-clause-live : goal.end_lease-requires-clause-live
end_lease-requires-clause-live c =
    let w = there (λ (w : Waiting). is_on w.intent.mode ≡ false) (number_at c.args.n c.args.self.now.intents.pending) c.requires.mode in
    let f = c.requires.follows in
    subst (λ o. IfSome o (λ m. is_some (live_at m c.args.event.now.t c.args.self.now.leases) ≡ true))
    (sym (c.lease_of-lease.ensures.stands f.past f.since w.it.intent f.stands f.legal.0 f.in_time (waiting_is f.past c.args.self.now.intents c.args.n w.it f.stands.intents w.is)))
    (found_lives f.past f.since c.args.event.now.t w.it.intent c.args.self.now.leases f.legal.0 f.stands.leases f.in_time)

pub returns : goal.returns
returns c =
    let w = there (λ (w : Waiting). is_on w.intent.mode ≡ false) (number_at c.args.n c.args.self.now.intents.pending) c.requires.mode in
    let e = c.args.event.now in
    let old = c.args.self.now in
    let new = c.end_lease.new.self in
    record {
      stands =
          subst (λ (r : Rows). GoesOn e old (record { intents = c.settle.new.self; leases = r.leases; topics = r.topics; deliveries = r.deliveries; numbers = c.after-self-inside.result })) (sym c.self.view_is)
          (by_confirmation e old c.settle.new.self new.leases new.topics new.deliveries c.after-self-inside.result c.args.n c.args._sent c.requires.kind
          (c.after-self-inside.ensures ∙ ap (with_event e) (ap (λ (r : Rows). r.numbers) c.self.view_is ∙ c.end_lease.ensures.numbers))
          c.end_lease.ensures.topics
          (λ h s l. c.settle.ensures.stands h e (subst (λ (r : IntentRows). IntentsStand r h) (sym (ap (λ (r : Rows). r.intents) c.self.view_is ∙ c.end_lease.ensures.intents)) s) l (c.args._sent, c.requires.kind))
          (λ h since s l k.
          let waits = waiting_is h old.intents c.args.n w.it s.intents w.is in
          c.end_lease.ensures.leases h e since s.leases k l
          (subst (λ o. MatchOption o (LeavesLeases e h) (λ m. EndsLease e h m Unsubscribed)) (sym (c.lease_of-lease.ensures.stands h since w.it.intent s l.0 k waits))
          (unsubscription_does h e c.args.n c.args._sent w.it.intent l c.requires.kind (confirmed_is e h c.args.n c.args._sent w.it.intent c.requires.kind waits) w.has)))
          (λ h since s l k.
          let waits = waiting_is h old.intents c.args.n w.it s.intents w.is in
          unsubscription_stands e h since old.deliveries new.deliveries c.args.n c.args._sent w.it.intent c.requires.kind (confirmed_is e h c.args.n c.args._sent w.it.intent c.requires.kind waits) w.has l s.deliveries k
          (λ v m. c.end_lease.ensures.pairs v m ∙ ap (λ o. cond (is_number o m) None (pair_at v m old.deliveries)) (c.lease_of-lease.ensures.stands h since w.it.intent s l.0 k waits)))
          (λ h since s l k. pairs_on e h new.deliveries l (closed_pairs (IsOfHistory h) old.deliveries new.deliveries (λ v m. is_number c.lease_of-lease.result m) c.end_lease.ensures.pairs s.pairs))
          (closed_kept old.deliveries new.deliveries (λ v m. is_number c.lease_of-lease.result m) c.end_lease.ensures.pairs));
    }
