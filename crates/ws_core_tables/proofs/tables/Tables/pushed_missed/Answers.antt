use Rattle.std.proofs.Common.{◌≡◌, false, sym, subst, refl}
use Rattle.ws_core_tables.specs.Stands.{StandsFor, IsOfHistory}
use Rattle.ws_model.specs.declared.event.How.TheVariants.{Missed}
use Rattle.ws_model.specs.declared.event.What.{What}
use Rattle.ws_lease.specs.Stands.{touches_leases}
use Rattle.ws_core_tables.proofs.Onward.{by_pushes, from_shown, leases_on}
use Rattle.ws_core_tables.proofs.Stepped.{missed_kept, missed_pairs, missed_stands, pushed_open}
use Rattle.ws_core_tables.proofs.tables.Tables.pushed_missed.Goals as goal

pub miss-requires-clause-is_open : goal.miss-requires-clause-is_open
miss-requires-clause-is_open c =
    let inside = subst (StandsFor c.requires.follows.past c.requires.follows.since) (sym c.self.view_is) c.requires.follows.stands in
    pushed_open c.args.event.now c.requires.follows.past c.requires.follows.since c.self.inside.deliveries c.args.ver c.args.lease (Missed c.args._code) c.requires.kind c.requires.follows.legal inside.deliveries c.requires.follows.in_time

pub returns : goal.returns
returns c =
    record {
      stands =
          from_shown c.args.event.now _ _ _ c.self.view_is
          (by_pushes c.args.event.now _ c.self.inside.leases c.miss.new.self c.after-self-inside.result c.args.ver c.args.lease (Missed c.args._code) c.requires.kind c.after-self-inside.ensures
          (λ h since s l k. leases_on c.args.event.now h since c.self.inside.leases (subst (λ (w : What). touches_leases w ≡ false) (sym c.requires.kind) refl) s l k)
          (λ h since s l k. missed_stands c.args.event.now h since c.self.inside.deliveries c.miss.new.self c.args.ver c.args.lease c.args._code c.requires.kind l s k c.miss.ensures.look)
          (λ h p. missed_pairs (IsOfHistory h) c.args.event.now.t c.args.ver c.args.lease c.self.inside.deliveries c.miss.new.self (λ w m tries next p o. record { fetched = o.fetched; lease = o.lease; leased = o.leased; end = o.end }) c.miss.ensures.look p)
          (missed_kept c.args.event.now.t c.args.ver c.args.lease c.self.inside.deliveries c.miss.new.self c.miss.ensures.look));
    }
