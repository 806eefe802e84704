use Rattle.std.proofs.Common.{◌≡◌, ap, sym, ◌∙◌, subst, None, cond}
use Rattle.ws_lease.specs.Stands.{StandsFor as LeasesStand}
use Rattle.ws_core_tables.specs.Rows.{Rows}
use Rattle.std.specs.Map.{keys_of}
use Rattle.std.specs.List.Sorted.{IsStrictlySortedBy}
use Rattle.ws_lease.specs.Table.{Rows as LeaseRows, live_numbers}
use Rattle.ws_delivery.specs.Table.{pair_at, pair_order}
use Rattle.ws_delivery.proofs.RowsByKey.{ascends, same_rows}
use Rattle.ws_core_tables.specs.Births.{is_among}
use Rattle.ws_core_tables.specs.Numbers.{with_event}
use Rattle.ws_core_tables.specs.Stands.{GoesOn}
use Rattle.ws_core_tables.proofs.NewVersion.{by_version, distinct_numbers, reopened, unpaired}
use Rattle.ws_core_tables.proofs.tables.Tables.fetched.Goals as goal

pub close_all-requires : goal.close_all-requires
close_all-requires c =
    let f = c.requires.follows in
    let leased = subst (LeasesStand f.past f.since) (sym (ap (λ (r : Rows). r.leases) c.self-2.view_is ∙ c.in-Err.ensures.leases)) f.stands.leases in
    record { distinct = distinct_numbers c.live_of_topic-numbers.result (c.live_of_topic-numbers.ensures.stands f.past f.since f.legal.0 leased f.in_time).rising }

pub returns-in-Ok-clause-ok : goal.returns-in-Ok-clause-ok
returns-in-Ok-clause-ok c =
    subst (λ (r : Rows). GoesOn c.args.event.now c.args.self.now (record { intents = r.intents; leases = r.leases; topics = r.topics; deliveries = r.deliveries; numbers = c.after-self-inside.result })) (sym c.self-2.view_is)
    (by_version c.args.event.now c.args.self.now c.deliver.new.self c.after-self-inside.result c.args.version.now c.requires.kind
    (c.after-self-inside.ensures ∙ ap (λ (r : Rows). with_event c.args.event.now r.numbers) c.self-2.view_is)
    c.in-Ok.ensures.intents c.in-Ok.ensures.leases c.in-Ok.ensures.numbers c.in-Ok.ensures.topics c.in-Ok.ensures.versions c.in-Ok.ensures.numbered c.in-Ok.ensures.pairs)

same_tables : (a b : Rows) → a.intents ≡ b.intents → a.leases ≡ b.leases → a.topics ≡ b.topics → a.deliveries ≡ b.deliveries → a.numbers ≡ b.numbers → a ≡ b
same_tables a b p q r s t = λ j. record { intents = p j; leases = q j; topics = r j; deliveries = s j; numbers = t j }

pub returns-in-Err-clause-err : goal.returns-in-Err-clause-err
returns-in-Err-clause-err c =
    let f = c.requires.follows in
    let x = c.args.version.now in
    let e = c.args.event.now in
    let old = c.args.self.now in
    let leased = ap (λ (r : Rows). r.leases) c.self-2.view_is ∙ c.in-Err.ensures.leases in
    let numbered = c.live_of_topic-numbers.ensures.value ∙ ap (λ z. live_numbers z e.t c.self-2.inside.leases) c.as_slice.ensures ∙ ap (λ (ls : LeaseRows). live_numbers x.topic e.t ls) leased in
    same_tables _ old (ap (λ (r : Rows). r.intents) c.self-2.view_is ∙ c.in-Err.ensures.intents) leased (ap (λ (r : Rows). r.topics) c.self-2.view_is ∙ c.in-Err.ensures.kept)
    (same_rows c.close_all.new.deliveries old.deliveries (ascends c.close_all.new.deliveries c.count-in-Err.ensures.ordered)
    (ascends old.deliveries (subst (λ (r : Rows). IsStrictlySortedBy pair_order (keys_of r.deliveries)) c.self.view_is c.count.ensures.ordered))
    (λ v n.
    c.close_all.ensures v n
    ∙ ap (λ ns. cond (is_among x.ver ns v n) None (pair_at v n c.self-2.inside.deliveries)) numbered
    ∙ ap (λ (r : Rows). cond (is_among x.ver (live_numbers x.topic e.t old.leases) v n) None (pair_at v n r.deliveries)) c.self-2.view_is
    ∙ reopened x.ver (live_numbers x.topic e.t old.leases) old.deliveries c.deliver.new.self.deliveries (unpaired e f.past x old.deliveries f.legal c.requires.kind f.stands.pairs) c.in-Err.ensures.others v n))
    (ap (λ (r : Rows). r.numbers) c.self-2.view_is ∙ c.in-Err.ensures.numbers)
