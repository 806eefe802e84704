use Rattle.std.proofs.Common.{inl, [], sym, subst, arith}
use Rattle.std.specs.Prelude.{All}
use Rattle.std.proofs.lemmas.List.Elements.{All-nil}
use Rattle.ws_journal.specs.declared.store.Store.{Store}
use Rattle.ws_journal.specs.declared.store.Edition.TheVariants.{Second}
use Rattle.ws_journal.specs.Text.{IsRecorded, front}
use Rattle.ws_journal.proofs.Files.{shut_within}
use Rattle.ws_journal.proofs.Opening.{length-front, given_new}
use Rattle.ws_journal.proofs.Spare.{spare_only}
use Rattle.ws_journal.proofs.recover.recover_new.Goals as goal

pub returns-in_err-make_fresh-clause-any_moment : goal.returns-in_err-make_fresh-clause-any_moment
returns-in_err-make_fresh-clause-any_moment g c = λ honest unused confirmed.
    let D = g.D.Disk in
    let old = c.args.store.now.a in
    c.make_fresh.ensures.any_moment honest (spare_only 0 (D.images old (D.moment old)) (D.seen old) confirmed (inl unused))

pub returns-clause-any_moment : goal.returns-clause-any_moment
returns-clause-any_moment g c = λ honest unused confirmed.
    let D = g.D.Disk in
    let old = c.args.store.now.a in
    c.make_fresh.ensures.any_moment honest (spare_only 0 (D.images old (D.moment old)) (D.seen old) confirmed (inl unused))

pub returns-clause-stands : goal.returns-clause-stands
returns-clause-stands g c = λ honest first second confirmed settled.
    let D = g.D.Disk in
    let old = c.args.store.now.a in
    let made = c.in_ok-make_fresh.ensures.made honest in
    let store : Store g.row.D.Denot = record { a = c.make_fresh.new.disk; b = c.args.store.now.b } in
    let beside = c.args.store.now.b in
    given_new D.moment D.images c.args.limit _ _ store c.new.result.items c.new.ensures.items made (spare_only 1 (D.images beside (D.moment beside)) (D.seen beside) settled (inl second))

pub returns-clause-recorded : goal.returns-clause-recorded
returns-clause-recorded g c = subst (All IsRecorded) (sym c.new.ensures.items) (All-nil IsRecorded)

pub returns-clause-place : goal.returns-clause-place
returns-clause-place g c = λ honest1 image now.
    omega (arith, shut_within (front Second 1 []) image (c.in_ok-make_fresh.ensures.made (c.make_fresh.ensures.honesty.0 honest1) image now), length-front Second 1 [])
