use Rattle.std.proofs.Common.{◌≡◌, ◌∙◌, true, sym, subst, []}
use Rattle.ws_fate.specs.declared.totals.Standing.TheVariants.{Answered}
use Rattle.ws_lease.specs.Table.{live_numbers}
use Rattle.ws_core_tables.proofs.NewVersion.{distinct_numbers}
use Rattle.ws_ledger.specs.Pairs.{AreApart, is_listed}
use Rattle.ws_ledger.proofs.Bearing.{AreMoved, apart_version, new_version}
use Rattle.ws_ledger.proofs.ByKind.{fetched_stands}
use Rattle.ws_ledger.proofs.whole.Ledger.fetched.Goals as goal

pub apply_step-requires-clause-births_apart : goal.apply_step-requires-clause-births_apart
apply_step-requires-clause-births_apart c =
    let f = c.requires.follows in
    subst AreApart (sym (c.deref.ensures.value ∙ c.in_ok-births.ensures.value))
    (apart_version c.args.version.now.ver (live_numbers c.args.version.now.topic c.args.event.now.t c.args.self.now.tables.leases)
    (distinct_numbers (live_numbers c.args.version.now.topic c.args.event.now.t c.args.self.now.tables.leases) (c.in_ok-births.ensures.numbers f.past f.since f.stands.tables f.legal.0 f.in_time).rising))

pub apply_step-requires-clause-new : goal.apply_step-requires-clause-new
apply_step-requires-clause-new c v n k =
    let f = c.requires.follows in
    new_version c.args.event.now f.past f.since c.args.version.now (live_numbers c.args.version.now.topic c.args.event.now.t c.args.self.now.tables.leases) c.args.self.now f.stands f.legal c.requires.kind v n
    (subst (λ ps. is_listed v n ps ≡ true) (c.deref.ensures.value ∙ c.in_ok-births.ensures.value) k)

pub returns-clause-ok : goal.returns-clause-ok
returns-clause-ok c =
    fetched_stands c.args.event.now c.args.version.now (live_numbers c.args.version.now.topic c.args.event.now.t c.args.self.now.tables.leases) c.args.self.now c.apply_step.new.self c.requires.kind
    (λ h since s l k. c.in_ok-births.ensures.numbers h since s.tables l k)
    c.in_ok-apply_step.ensures.tables
    (subst (λ ps. AreMoved Answered ps [] c.args.self.now c.apply_step.new.self) (c.deref.ensures.value ∙ c.in_ok-births.ensures.value) (record { look = c.in_ok-apply_step.ensures.look; totals = c.in_ok-apply_step.ensures.totals; number = c.in_ok-apply_step.ensures.number }))
