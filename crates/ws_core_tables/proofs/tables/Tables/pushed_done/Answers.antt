use Rattle.std.proofs.Common.{◌≡◌, false, sym, subst, refl}
use Rattle.ws_core_tables.specs.Stands.{StandsFor, IsOfHistory}
use Rattle.ws_model.specs.declared.event.How.TheVariants.{Done}
use Rattle.ws_model.specs.declared.event.What.{What}
use Rattle.ws_lease.specs.Stands.{touches_leases}
use Rattle.ws_delivery.specs.Table.{is_here}
use Rattle.ws_core_tables.proofs.Onward.{by_pushes, from_shown, leases_on}
use Rattle.ws_core_tables.proofs.Stepped.{closed_kept, closed_pairs, done_stands, pushed_open}
use Rattle.ws_core_tables.proofs.tables.Tables.pushed_done.Goals as goal

pub close-requires : goal.close-requires
close-requires c =
    let inside = subst (StandsFor c.requires.follows.past c.requires.follows.since) (sym c.self.view_is) c.requires.follows.stands in
    record {
      is_open = pushed_open c.args.event.now c.requires.follows.past c.requires.follows.since c.self.inside.deliveries c.args.ver c.args.lease Done c.requires.kind c.requires.follows.legal inside.deliveries c.requires.follows.in_time;
    }

pub returns : goal.returns
returns c =
    record {
      stands =
          from_shown c.args.event.now _ _ _ c.self.view_is
          (by_pushes c.args.event.now _ c.self.inside.leases c.close.new.self c.after-self-inside.result c.args.ver c.args.lease Done c.requires.kind c.after-self-inside.ensures
          (λ h since s l k. leases_on c.args.event.now h since c.self.inside.leases (subst (λ (w : What). touches_leases w ≡ false) (sym c.requires.kind) refl) s l k)
          (λ h since s l k. done_stands c.args.event.now h since c.self.inside.deliveries c.close.new.self c.args.ver c.args.lease c.requires.kind l s k c.close.ensures.look)
          (λ h p. closed_pairs (IsOfHistory h) c.self.inside.deliveries c.close.new.self (is_here c.args.ver c.args.lease) c.close.ensures.look p)
          (closed_kept c.self.inside.deliveries c.close.new.self (is_here c.args.ver c.args.lease) c.close.ensures.look));
    }
