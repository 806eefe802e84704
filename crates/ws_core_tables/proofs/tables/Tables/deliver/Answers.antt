use Rattle.std.proofs.Common.{ap, sym, ◌∙◌, subst, filter}
use Rattle.std.specs.Prelude.{bytes_eq, Result, Ok, Err, OnOk}
use Rattle.ws_core_tables.specs.Rows.{Rows}
use Rattle.ws_lease.specs.Table.{live_numbers}
use Rattle.ws_model.specs.Leases.{live}
use Rattle.ws_lease.specs.Stands.{StandsFor as LeasesStand, AreNumbersOf}
use Rattle.ws_topic.specs.Rows.{number_at}
use Rattle.ws_core_tables.specs.Stands.{StandsFor}
use Rattle.ws_core_tables.proofs.NewVersion.{bearers, distinct_numbers, numbers_live, unkept, unpaired}
use Rattle.ws_core_tables.proofs.tables.Tables.deliver.Goals as goal

pub open_all-requires-clause-distinct : goal.open_all-requires-clause-distinct
open_all-requires-clause-distinct c =
    let f = c.requires.follows in
    let inside = subst (StandsFor f.past f.since) (sym c.self.view_is) f.stands in
    distinct_numbers c.live_of_topic-numbers.result (c.live_of_topic-numbers.ensures.stands f.past f.since f.legal.0 inside.leases f.in_time).rising

pub open_all-requires-clause-live : goal.open_all-requires-clause-live
open_all-requires-clause-live c =
    let f = c.requires.follows in
    let inside = subst (StandsFor f.past f.since) (sym c.self.view_is) f.stands in
    numbers_live f.past f.since c.args.event.now.t c.args.version.now c.self.inside.leases c.live_of_topic-numbers.result f.legal.0 inside.leases f.in_time
    (subst (λ z. AreNumbersOf c.live_of_topic-numbers.result (filter (λ l. bytes_eq l.intent.topic z) (live f.past c.args.event.now.t))) c.as_slice.ensures (c.live_of_topic-numbers.ensures.stands f.past f.since f.legal.0 inside.leases f.in_time))

pub open_all-requires-clause-new : goal.open_all-requires-clause-new
open_all-requires-clause-new c =
    let f = c.requires.follows in
    let inside = subst (StandsFor f.past f.since) (sym c.self.view_is) f.stands in
    unpaired c.args.event.now f.past c.args.version.now c.self.inside.deliveries f.legal c.requires.kind inside.pairs

pub open_all-requires-clause-bearers : goal.open_all-requires-clause-bearers
open_all-requires-clause-bearers c n =
    let f = c.requires.follows in
    let inside = subst (StandsFor f.past f.since) (sym c.self.view_is) f.stands in
    bearers f.past f.since c.args.event.now.t n c.self.inside.leases c.self.inside.deliveries f.legal.0 inside.leases f.in_time inside.pairs

pub fetched-requires : goal.fetched-requires
fetched-requires c =
    let f = c.requires.follows in
    let inside = subst (StandsFor f.past f.since) (sym c.self.view_is) f.stands in
    record { new = ap (λ v. number_at v.ver c.self.inside.topics.versions) c.in_ok-copy.ensures ∙ unkept c.args.event.now f.past c.args.version.now c.self.inside.topics f.legal c.requires.kind inside.topics }

-- what holds anyway holds where a call went well
anyway : {T E P : Type 0} (r : Result T E) → P → OnOk r P
anyway (Ok x) p = p
anyway (Err e) p = tt

pub returns-clause-numbered : goal.returns-clause-numbered
returns-clause-numbered c =
    anyway c.fetched.result
    (λ h since l s k.
    subst (λ ns. AreNumbersOf ns (filter (λ l. bytes_eq l.intent.topic c.args.version.now.topic) (live h c.args.event.now.t)))
    (c.live_of_topic-numbers.ensures.value ∙ ap (λ z. live_numbers z c.args.event.now.t c.self.inside.leases) c.as_slice.ensures ∙ ap (λ (r : Rows). live_numbers c.args.version.now.topic c.args.event.now.t r.leases) c.self.view_is)
    (subst (λ z. AreNumbersOf c.live_of_topic-numbers.result (filter (λ l. bytes_eq l.intent.topic z) (live h c.args.event.now.t))) c.as_slice.ensures
    (c.live_of_topic-numbers.ensures.stands h since l (subst (λ (r : Rows). LeasesStand h since r.leases) (sym c.self.view_is) s) k)))
