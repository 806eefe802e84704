use Rattle.std.proofs.Common.{◌-◌, ◌^◌, ◌<◌, None, inl, inr, sym, ◌∙◌, ap, subst, arith}
use Rattle.ws_journal.specs.declared.store.Side.{Side}
use Rattle.ws_journal.specs.declared.store.Store.{Store}
use Rattle.ws_journal.specs.declared.journal.Journal.{Journal}
use Rattle.ws_journal.specs.Stands.{counting, other, Stands, SameJournal}
use Rattle.ws_journal.specs.Replaced.{StandsBeside, BesideCrash, CountingCrash, ReadsOlderOrNewer, ReadsLeft}
use Rattle.ws_journal.proofs.Reaching.{tail_stays}
use Rattle.ws_journal.proofs.Replacing.{not_device, not_batch, not_done}
use Rattle.ws_journal.proofs.journal.Journal.switch.Goals as goal

pub close_batch-requires : goal.close_batch-requires
close_batch-requires g c = record {
  place = λ honest.
      let D = g.D.Disk in
      let disk = counting c.args.self.now.side c.args.store.now in
      c.requires.place honest (D.seen disk) (g.met.D.Disk.seen_is_image disk honest);
}

pub returns-in_err-close_beside-clause-replaces_beside : goal.returns-in_err-close_beside-clause-replaces_beside
returns-in_err-close_beside-clause-replaces_beside g c = λ payloads doubted honest beside stands.
    let D = g.D.Disk in
    let journal = c.args.self.now in
    let old = c.args.store.now in
    let last = c.close_beside.new.store in
    let same = c.close_batch.ensures.nothing (not_batch journal stands.known) in
    let first = c.close_batch.new.self in
    let mid = c.close_batch.new.store in
    let there = subst D.honest (sym (ap (λ (s : Side). other s mid) c.close_batch.ensures.same.side ∙ c.close_batch.ensures.untouched)) beside in
    let stands1 = subst (λ (j : Journal). StandsBeside D.moment D.images j mid payloads doubted) (sym same.0)
    (subst (λ (s : Store g.row.D.Denot). StandsBeside D.moment D.images journal s payloads doubted) (sym same.1) stands) in
    let closing = subst (λ (j : Journal). BesideCrash D.moment D.images j.side old last (ReadsOlderOrNewer j payloads doubted)) same.0
    (subst (λ (s : Store g.row.D.Denot). BesideCrash D.moment D.images first.side s last (ReadsOlderOrNewer first payloads doubted)) same.1
    (c.close_beside.ensures.any_moment payloads doubted there stands1)) in
    inr (not_done _ c.from_residual-in_err-close_beside.result c.from_residual-in_err-close_beside.ensures.1, closing, c.in_err-close_beside.ensures.closes payloads doubted there stands1)

pub returns-clause-replaces : goal.returns-clause-replaces
returns-clause-replaces g c = λ payloads doubt small edition honest beside stands.
    let D = g.D.Disk in
    let journal = c.args.self.now in
    let old = c.args.store.now in
    let first = c.close_batch.new.self in
    let mid = c.close_batch.new.store in
    let second = c.close_beside.new.self in
    let last = c.close_beside.new.store in
    let stands1 = c.in_ok-close_batch.ensures.closes payloads doubt honest stands in
    let same = c.close_beside.ensures.nothing (not_device first None stands1.device.known) in
    let stands2 = subst (λ (j : Journal). Stands D.moment D.images j last payloads None) (sym same.0)
    (subst (λ (s : Store g.row.D.Denot). Stands D.moment D.images first s payloads None) (sym same.1) stands1) in
    let there = subst D.honest (sym (ap (λ (s : Side). other s mid) c.close_batch.ensures.same.side ∙ c.close_batch.ensures.untouched)) beside in
    let there2 = subst D.honest (sym (ap (λ (s : Side). other s last) c.close_beside.ensures.same.side)) (c.close_beside.ensures.honesty.1 there) in
    let small2 : second.generation < 2 ^ 63 - 1 = omega (arith, small, c.close_batch.ensures.same.generation, c.close_beside.ensures.same.generation) in
    inl (record {
      closed = second;
      between = last;
      same = subst (λ (j : Journal). SameJournal journal j) (sym same.0) c.close_batch.ensures.same;
      closing = subst (λ (s : Store g.row.D.Denot). CountingCrash D.moment D.images journal.side old s (ReadsLeft journal payloads doubt)) (sym same.1)
          (c.close_batch.ensures.any_moment payloads doubt edition honest stands);
      stands = stands2;
      making = c.make_next.ensures.any_moment payloads small2 there2 stands2;
      replaced = c.make_next.ensures.replaced payloads small2 there2 stands2;
    })

pub returns-clause-replaces_beside : goal.returns-clause-replaces_beside
returns-clause-replaces_beside g c = λ payloads doubted honest beside stands.
    let D = g.D.Disk in
    let journal = c.args.self.now in
    let old = c.args.store.now in
    let first = c.close_batch.new.self in
    let mid = c.close_batch.new.store in
    let second = c.close_beside.new.self in
    let last = c.close_beside.new.store in
    let same = c.close_batch.ensures.nothing (not_batch journal stands.known) in
    let there = subst D.honest (sym (ap (λ (s : Side). other s mid) c.close_batch.ensures.same.side ∙ c.close_batch.ensures.untouched)) beside in
    let there2 = subst D.honest (sym (ap (λ (s : Side). other s last) c.close_beside.ensures.same.side)) (c.close_beside.ensures.honesty.1 there) in
    let stands1 = subst (λ (j : Journal). StandsBeside D.moment D.images j mid payloads doubted) (sym same.0)
    (subst (λ (s : Store g.row.D.Denot). StandsBeside D.moment D.images journal s payloads doubted) (sym same.1) stands) in
    let stands2 = c.in_ok-close_beside.ensures.closes payloads doubted there stands1 in
    let small2 : second.generation < 2 ^ 63 - 1 = omega (arith, stands.next, c.close_batch.ensures.same.generation, c.close_beside.ensures.same.generation) in
    inl (record {
      closed = second;
      between = last;
      same = subst (λ (j : Journal). SameJournal j second) same.0 c.close_beside.ensures.same;
      closing = subst (λ (j : Journal). BesideCrash D.moment D.images j.side old last (ReadsOlderOrNewer j payloads doubted)) same.0
          (subst (λ (s : Store g.row.D.Denot). BesideCrash D.moment D.images first.side s last (ReadsOlderOrNewer first payloads doubted)) same.1
          (c.close_beside.ensures.any_moment payloads doubted there stands1));
      stands = stands2;
      making = c.make_next.ensures.any_moment payloads small2 there2 stands2;
      replaced = c.make_next.ensures.replaced payloads small2 there2 stands2;
    })

pub returns-in_err-close_beside-clause-place : goal.returns-in_err-close_beside-clause-place
returns-in_err-close_beside-clause-place g c =
    let D = g.D.Disk in
    let closed = c.close_beside.ensures in
    tail_stays D.honest D.moment D.images c.close_batch.new.self c.close_beside.new.self c.close_batch.new.store c.close_beside.new.store (c.close_batch.ensures.reaches c.requires.place) closed.same.side closed.tail closed.untouched

pub returns-clause-place : goal.returns-clause-place
returns-clause-place g c =
    let D = g.D.Disk in
    let closed = c.close_beside.ensures in
    c.make_next.ensures.reaches
    (tail_stays D.honest D.moment D.images c.close_batch.new.self c.close_beside.new.self c.close_batch.new.store c.close_beside.new.store (c.close_batch.ensures.reaches c.requires.place) closed.same.side closed.tail closed.untouched)
