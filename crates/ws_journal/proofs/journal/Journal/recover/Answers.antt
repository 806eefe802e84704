use Rattle.std.proofs.Common.{◌⊎◌, inl, inr, ℕ, List, Err, sym, ◌∙◌, subst}
use Rattle.ws_disk.specs.Crash.{LeavesOnly}
use Rattle.ws_journal.specs.Image.{fresh, Reads, IsUnused}
use Rattle.ws_journal.specs.Recovered.{CountsOn, Chooses, StillReads, Recovers, opened, IsMaking}
use Rattle.ws_journal.proofs.Moments.{then_run, weaker}
use Rattle.ws_journal.proofs.Looking.{then_calls}
use Rattle.ws_journal.proofs.Results.{err_as}
use Rattle.ws_journal.proofs.Opening.{chosen_fault, fault_recovers, given_recovers, new_recovers, new_reads, confirmed_on, confirmed_still}
use Rattle.ws_journal.proofs.journal.Journal.recover.Goals as goal

pub returns-in_err-counting-clause-reads : goal.returns-in_err-counting-clause-reads
returns-in_err-counting-clause-reads g c = λ honest_a honest_b.
    let D = g.D.Disk in
    let old = c.args.store.now in
    let both = c.in_ok-sync_both.ensures in
    let same_a = (both.reads_a.unwritten honest_a).same in
    let same_b = (both.reads_b.unwritten honest_b).same in
    let fault = c.in_err-counting.field-0.0 in
    let chosen = c.in_err-counting.ensures.chooses (both.reads_a.honesty.1 honest_a) (both.reads_b.honesty.1 honest_b) in
    let here = subst (λ (b : List ℕ). Chooses (D.seen old.a) b (Err fault)) same_b (subst (λ (a : List ℕ). Chooses a (D.seen c.sync_both.new.store.b) (Err fault)) same_a chosen) in
    err_as (λ (r : _). Recovers (D.seen old.a) (D.seen old.b) (opened r)) c.from_residual-in_err-counting.result fault c.from_residual-in_err-counting.ensures.1
    (fault_recovers (D.seen old.a) (D.seen old.b) fault (chosen_fault (D.seen old.a) (D.seen old.b) fault here))

pub returns-in_err-counting-clause-every_image : goal.returns-in_err-counting-clause-every_image
returns-in_err-counting-clause-every_image g c = λ honest_a honest_b file second here there.
    let D = g.D.Disk in
    let mid = c.sync_both.new.store in
    let both = c.in_ok-sync_both.ensures in
    let a = both.reads_a.honesty.1 honest_a in
    let b = both.reads_b.honesty.1 honest_b in
    let fault = c.in_err-counting.field-0.0 in
    let only_a = confirmed_on D.honest D.seen D.moment D.images D.faults mid.a c.read_heads.new.store.a a (both.confirmed_a honest_a) c.in_err-counting.ensures.reads_a file here in
    let only_b = confirmed_on D.honest D.seen D.moment D.images D.faults mid.b c.read_heads.new.store.b b (both.confirmed_b honest_b) c.in_err-counting.ensures.reads_b second there in
    let reads = chosen_fault (D.seen mid.a) (D.seen mid.b) fault (c.in_err-counting.ensures.chooses a b) in
    let moved = subst (λ (s : List ℕ). StillReads file s (Err fault)) (sym only_b) (subst (λ (f : List ℕ). StillReads f (D.seen mid.b) (Err fault)) (sym only_a) reads) in
    err_as (λ (r : _). StillReads file second (opened r)) c.from_residual-in_err-counting.result fault c.from_residual-in_err-counting.ensures.1 moved

pub returns-in-None-clause-reads : goal.returns-in-None-clause-reads
returns-in-None-clause-reads g c = λ honest_a honest_b.
    let D = g.D.Disk in
    let old = c.args.store.now in
    let both = c.in_ok-sync_both.ensures in
    let same_a = (both.reads_a.unwritten honest_a).same in
    let same_b = (both.reads_b.unwritten honest_b).same in
    let chosen = rw c.in-None.is at (c.in_ok-counting.ensures.chooses (both.reads_a.honesty.1 honest_a) (both.reads_b.honesty.1 honest_b)) in
    new_recovers (D.seen old.a) (D.seen old.b) c.recover_new.result (subst IsUnused same_a chosen.0, subst IsUnused same_b chosen.1) c.recover_new.ensures.new c.recover_new.ensures.only_disk

pub returns-in-None-clause-stands : goal.returns-in-None-clause-stands
returns-in-None-clause-stands g c = λ honest_a honest_b.
    let D = g.D.Disk in
    let mid = c.sync_both.new.store in
    let after = c.read_heads.new.store in
    let both = c.in_ok-sync_both.ensures in
    let heads = c.in_ok-counting.ensures in
    let a = both.reads_a.honesty.1 honest_a in
    let b = both.reads_b.honesty.1 honest_b in
    let same_a = (heads.reads_a.unwritten a).same in
    let same_b = (heads.reads_b.unwritten b).same in
    let chosen = rw c.in-None.is at (heads.chooses a b) in
    let only_a = confirmed_on D.honest D.seen D.moment D.images D.faults mid.a after.a a (both.confirmed_a honest_a) heads.reads_a in
    let only_b = confirmed_on D.honest D.seen D.moment D.images D.faults mid.b after.b b (both.confirmed_b honest_b) heads.reads_b in
    c.recover_new.ensures.stands (heads.reads_a.honesty.1 a) (subst IsUnused (sym same_a) chosen.0) (subst IsUnused (sym same_b) chosen.1)
    (λ image now. only_a image now ∙ sym same_a) (λ image now. only_b image now ∙ sym same_b)

pub returns-in-None-clause-every_image : goal.returns-in-None-clause-every_image
returns-in-None-clause-every_image g c = λ honest_a honest_b file second here there.
    let D = g.D.Disk in
    new_reads D.moment D.images c.recover_new.new.store file second c.recover_new.result here there (returns-in-None-clause-stands g c honest_a honest_b) c.recover_new.ensures.only_disk

pub returns-in-None-clause-any_moment : goal.returns-in-None-clause-any_moment
returns-in-None-clause-any_moment g c = λ honest_a honest_b.
    let D = g.D.Disk in
    let old = c.args.store.now in
    let mid = c.sync_both.new.store in
    let after = c.read_heads.new.store in
    let new = c.recover_new.new.store in
    let both = c.in_ok-sync_both.ensures in
    let heads = c.in_ok-counting.ensures in
    let a = both.reads_a.honesty.1 honest_a in
    let b = both.reads_b.honesty.1 honest_b in
    let chosen = rw c.in-None.is at (heads.chooses a b) in
    let none : Reads (D.seen old.a) (D.seen old.b) fresh = (subst IsUnused (both.reads_a.unwritten honest_a).same chosen.0, subst IsUnused (both.reads_b.unwritten honest_b).same chosen.1) in
    let only_a = confirmed_on D.honest D.seen D.moment D.images D.faults mid.a after.a a (both.confirmed_a honest_a) heads.reads_a in
    let same_a = (heads.reads_a.unwritten a).same in
    let P = λ (image : List ℕ). D.images old.a (D.moment old.a) image ⊎ (Reads (D.seen old.a) (D.seen old.b) fresh × IsMaking image) in
    let so_far_a = then_calls D.honest D.seen D.moment D.images D.faults old.a mid.a after.a both.reads_a heads.reads_a in
    let so_far_b = then_calls D.honest D.seen D.moment D.images D.faults old.b mid.b after.b both.reads_b heads.reads_b in
    let making = c.recover_new.ensures.any_moment (heads.reads_a.honesty.1 a) (subst IsUnused (sym same_a) chosen.0) (λ image now. only_a image now ∙ sym same_a) in
    let read_a = weaker D.moment D.images old.a after.a (D.images old.a (D.moment old.a)) P (λ image now. inl now) (so_far_a.unwritten honest_a).crash in
    let made_a = weaker D.moment D.images after.a new.a IsMaking P (λ image made. inr (none, made)) making in
    record {
      first = then_run D.moment D.images old.a after.a new.a P read_a made_a;
      second = subst (λ (d : _). LeavesOnly D.moment D.images old.b d (D.images old.b (D.moment old.b))) (sym c.recover_new.ensures.untouched) (so_far_b.unwritten honest_b).crash;
    }

pub returns-in-Some-clause-place : goal.returns-in-Some-clause-place
returns-in-Some-clause-place g c =
    let D = g.D.Disk in
    let mid = c.sync_both.new.store in
    let after = c.read_heads.new.store in
    let both = c.in_ok-sync_both.ensures in
    let heads = c.in_ok-counting.ensures in
    c.recover_used.ensures.place
    (λ now. let was = heads.reads_a.honesty.0 now in confirmed_still D.honest D.seen D.moment D.images D.faults mid.a after.a was (both.confirmed_a (both.reads_a.honesty.0 was)) heads.reads_a)
    (λ now. let was = heads.reads_b.honesty.0 now in confirmed_still D.honest D.seen D.moment D.images D.faults mid.b after.b was (both.confirmed_b (both.reads_b.honesty.0 was)) heads.reads_b)

pub returns-in-Some-clause-reads : goal.returns-in-Some-clause-reads
returns-in-Some-clause-reads g c = λ honest_a honest_b.
    let D = g.D.Disk in
    let old = c.args.store.now in
    let mid = c.sync_both.new.store in
    let after = c.read_heads.new.store in
    let chosen = c.in-Some.counting in
    let both = c.in_ok-sync_both.ensures in
    let heads = c.in_ok-counting.ensures in
    let a = both.reads_a.honesty.1 honest_a in
    let b = both.reads_b.honesty.1 honest_b in
    let same_a = (heads.reads_a.unwritten a).same in
    let same_b = (heads.reads_b.unwritten b).same in
    let counts = rw c.in-Some.is at (heads.chooses a b) in
    let result = opened c.recover_used.result in
    let there : CountsOn chosen.side chosen.edition chosen.generation counts.0 (D.seen after.a) (D.seen after.b) =
    subst (λ (s : List ℕ). CountsOn chosen.side chosen.edition chosen.generation counts.0 (D.seen after.a) s) (sym same_b)
    (subst (λ (f : List ℕ). CountsOn chosen.side chosen.edition chosen.generation counts.0 f (D.seen mid.b)) (sym same_a) counts.1) in
    let given = c.recover_used.ensures.given (heads.reads_a.honesty.1 a) (heads.reads_b.honesty.1 b) counts.0 there in
    let first = same_a ∙ (both.reads_a.unwritten honest_a).same in
    let second = same_b ∙ (both.reads_b.unwritten honest_b).same in
    given_recovers (D.seen old.a) (D.seen old.b) result
    (subst (λ (s : List ℕ). StillReads (D.seen old.a) s result) second (subst (λ (f : List ℕ). StillReads f (D.seen after.b) result) first given))
