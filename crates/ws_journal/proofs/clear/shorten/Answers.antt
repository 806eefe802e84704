use Rattle.ws_disk.specs.Crash.{Cut}
use Rattle.ws_journal.specs.Kept.{After}
use Rattle.ws_journal.proofs.Moments.{at_end, then_sync}
use Rattle.ws_journal.proofs.clear.shorten.Goals as goal

pub returns-clause-any_moment : goal.returns-clause-any_moment
returns-clause-any_moment g c = λ honest.
    let D = g.D.Disk in
    let old = c.args.disk.now in
    let mid = c.cut_to.new.disk in
    let P = After (Cut c.args.size) (D.images old (D.moment old)) in
    let honest1 = c.cut_to.ensures.honesty.1 honest in
    let run = c.cut_to.ensures.any_moment honest in
    then_sync D.moment D.images old mid c.sync.new.self P run
    (at_end D.moment D.images old mid P (λ t later image le left. g.met.D.Disk.images_grow mid t later image honest1 le left) run)
    (c.sync.ensures.time honest1) (c.sync.ensures.crash honest1)
