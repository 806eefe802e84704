use Rattle.ws_disk.specs.Crash.{Cut}
use Rattle.ws_journal.specs.Kept.{After, Each}
use Rattle.ws_journal.proofs.Spare.{Cut-refl}
use Rattle.ws_journal.proofs.Moments.{one_call, then_run}
use Rattle.ws_journal.proofs.clear.cut_to.Goals as goal

pub returns-clause-any_moment : goal.returns-clause-any_moment
returns-clause-any_moment g c = λ honest.
    let D = g.D.Disk in
    let old = c.args.disk.now in
    let mid = c.size.new.self in
    let new = c.cut.new.self in
    let P = After (Cut c.args.size) (D.images old (D.moment old)) in
    let honest1 = c.size.ensures.honesty.1 honest in
    let calm = c.size.ensures.crash honest in
    let cut = c.cut.ensures.crash honest1 in
    let here : Each (D.images mid (D.moment mid)) P = λ image now. (image, calm image now, Cut-refl c.args.size image) in
    then_run D.moment D.images old mid new P
    (one_call D.moment D.images old mid P (λ image now. (image, now, Cut-refl c.args.size image)) (c.size.ensures.time honest) here)
    (one_call D.moment D.images mid new P here (c.cut.ensures.time honest1) (λ image now. let from = cut image now in (from.0, calm from.0 from.1, from.2)))
