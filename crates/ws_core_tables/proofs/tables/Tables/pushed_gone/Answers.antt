use Rattle.std.proofs.Common.{ap, sym, subst}
use Rattle.ws_core_tables.specs.Stands.{StandsFor, IsOfHistory}
use Rattle.std.specs.Prelude.{is_some, ◌==◌}
use Rattle.ws_model.specs.declared.event.How.TheVariants.{Gone}
use Rattle.ws_model.specs.declared.fate.Cause.TheVariants.{Gone as LeaseGone}
use Rattle.ws_lease.proofs.WhichEvents.{ended_is_live, gone_ends}
use Rattle.ws_core_tables.proofs.Onward.{by_pushes, from_shown}
use Rattle.ws_core_tables.proofs.Stepped.{closed_kept, closed_pairs, gone_stands}
use Rattle.ws_core_tables.proofs.tables.Tables.pushed_gone.Goals as goal

pub end-requires-clause-live : goal.end-requires-clause-live
end-requires-clause-live c =
    let inside = subst (StandsFor c.requires.follows.past c.requires.follows.since) (sym c.self.view_is) c.requires.follows.stands in
    ap is_some (ended_is_live c.self.inside.leases c.requires.follows.past c.args.event.now c.requires.follows.since c.args.lease LeaseGone inside.leases c.requires.follows.in_time (gone_ends c.requires.follows.past c.args.event.now c.args.ver c.args.lease c.requires.follows.legal c.requires.kind)).1

pub returns : goal.returns
returns c =
    record {
      stands =
          from_shown c.args.event.now _ _ _ c.self.view_is
          (by_pushes c.args.event.now _ c.end.new.self c.close_lease.new.self c.after-self-inside.result c.args.ver c.args.lease Gone c.requires.kind c.after-self-inside.ensures
          (λ h since s l k. c.end.ensures.stands h c.args.event.now since s k l (gone_ends h c.args.event.now c.args.ver c.args.lease l c.requires.kind))
          (λ h since s l k. gone_stands c.args.event.now h since c.self.inside.deliveries c.close_lease.new.self c.args.ver c.args.lease c.requires.kind l s k c.close_lease.ensures.look)
          (λ h p. closed_pairs (IsOfHistory h) c.self.inside.deliveries c.close_lease.new.self (λ v n. c.args.lease == n) c.close_lease.ensures.look p)
          (closed_kept c.self.inside.deliveries c.close_lease.new.self (λ v n. c.args.lease == n) c.close_lease.ensures.look));
    }
