use Rattle.std.proofs.Common.{ℕ, List, sym, subst}
use Rattle.ws_disk.specs.Crash.{Cut}
use Rattle.ws_journal.specs.Made.{IsZeroed}
use Rattle.ws_journal.proofs.Spare.{stays_on, stays_behind, zeroed-cut}
use Rattle.ws_journal.proofs.clear.clear_device.Goals as goal

pub returns-clause-any_moment : goal.returns-clause-any_moment
returns-clause-any_moment g c = λ generation honest spare.
    let D = g.D.Disk in
    let old = c.args.disk.now in
    let mid = c.shut_device.new.disk in
    let new = c.shorten.new.disk in
    let honest1 = c.shut_device.ensures.honesty.1 honest in
    let honest2 = c.shorten.ensures.honesty.1 honest1 in
    let zero = λ (image : List ℕ) (now : D.images mid (D.moment mid) image).
    subst IsZeroed (sym (c.in_ok-shut_device.ensures.confirmed honest image now)) (c.in_ok-shut_device.ensures.shut honest) in
    stays_on D.moment D.images generation old mid new (c.shut_device.ensures.any_moment generation honest spare)
    (stays_behind D.moment D.images generation (Cut 1) zeroed-cut mid new (λ t later image le left. g.met.D.Disk.images_grow new t later image honest2 le left) zero (c.shorten.ensures.any_moment honest1))
