use Rattle.std.proofs.Common.{◌≡◌, ap, sym, ◌∙◌, subst, Some, None}
use Rattle.ws_core_tables.specs.Stands.{StandsFor, IsOfHistory}
use Rattle.std.specs.Prelude.{Option, find, ◌==◌}
use Rattle.std.specs.Option.{option_map}
use Rattle.ws_model.specs.declared.lease.Lease.{Lease}
use Rattle.ws_model.specs.declared.event.What.TheVariants.{Revoked}
use Rattle.ws_model.specs.declared.fate.Cause.TheVariants.{Revoked as LeaseRevoked}
use Rattle.ws_model.specs.Leases.{live}
use Rattle.ws_lease.specs.Table.{live_at}
use Rattle.ws_lease.proofs.WhichEvents.{ended_is_live, revoked_ends}
use Rattle.ws_core_tables.proofs.Lookups.{live_number}
use Rattle.ws_core_tables.proofs.Onward.{by_revocation, from_shown}
use Rattle.ws_core_tables.proofs.Stepped.{closed_kept, closed_pairs, revoked_stands}
use Rattle.ws_core_tables.proofs.tables.Tables.revoked.Goals as goal

none_live : (o : Option Lease) (l : Lease) → None ≡ o → o ≡ Some l → ⊥
none_live o l a b = absurd (cc)

pub unreachable-requires : goal.unreachable-requires
unreachable-requires c =
    let inside = subst (StandsFor c.requires.follows.past c.requires.follows.since) (sym c.self.view_is) c.requires.follows.stands in
    let some = ended_is_live c.self.inside.leases c.requires.follows.past c.args.event.now c.requires.follows.since c.args.n LeaseRevoked inside.leases c.requires.follows.in_time (revoked_ends c.requires.follows.past c.args.event.now c.args.n c.args.reason.now c.requires.follows.legal c.requires.kind) in
    none_live (live_at c.args.n c.args.event.now.t c.self.inside.leases) some.0 c.in_default.ensures.value some.1

pub returns-clause-ok : goal.returns-clause-ok
returns-clause-ok c =
    from_shown c.args.event.now _ _ _ c.self.view_is
    (by_revocation c.args.event.now _ c.revoked.new.self c.end.new.self c.close_lease.new.self c.after-self-inside.result c.args.n c.args.reason.now c.requires.kind c.after-self-inside.ensures
    (λ h since s t l k.
    let found = c.in-Some.ensures.stands h since t k in
    let number = live_number h c.args.event.now.t c.args.n c.in-Some.lease.now found in
    let same = c.in_ok-intent.ensures in
    c.in_ok-revoked.ensures.stands h c.args.event.now s l
    (c.requires.kind ∙ ap (λ m. Revoked m c.args.reason.now) (sym number ∙ ap (λ i. i.n) (sym same)) ∙ ap (Revoked c.in_ok-intent.intent.n) (sym (c.in_ok-reason.ensures ∙ c.as_slice.ensures)))
    (ap (λ m. option_map (λ l. l.intent) (find (λ l. l.intent.n == m) (live h c.args.event.now.t))) (ap (λ i. i.n) same ∙ number) ∙ ap (option_map (λ (l : Lease). l.intent)) (sym found) ∙ ap Some (sym same)))
    (λ h since s l k. c.end.ensures.stands h c.args.event.now since s k l (revoked_ends h c.args.event.now c.args.n c.args.reason.now l c.requires.kind))
    (λ h since s l k. revoked_stands c.args.event.now h since c.self.inside.deliveries c.close_lease.new.self c.args.n c.args.reason.now c.requires.kind l s k c.close_lease.ensures.look)
    (λ h p. closed_pairs (IsOfHistory h) c.self.inside.deliveries c.close_lease.new.self (λ v n. c.args.n == n) c.close_lease.ensures.look p)
    (closed_kept c.self.inside.deliveries c.close_lease.new.self (λ v n. c.args.n == n) c.close_lease.ensures.look))
