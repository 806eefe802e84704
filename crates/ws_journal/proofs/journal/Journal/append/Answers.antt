use Rattle.std.proofs.Common.{None, inl, inr, length, sym, ◌∙◌, ap, subst, arith}
use Rattle.ws_journal.specs.declared.store.Side.{Side}
use Rattle.ws_journal.specs.declared.store.Store.{Store}
use Rattle.ws_journal.specs.declared.journal.Journal.{Journal}
use Rattle.ws_journal.specs.Stands.{counting, Stands, DoubtClosed}
use Rattle.ws_journal.proofs.Appending.{crash_none}
use Rattle.ws_journal.proofs.Reaching.{tail_stays}
use Rattle.ws_journal.proofs.Replacing.{not_device, failed_is}
use Rattle.ws_journal.proofs.journal.Journal.append.Goals as goal

pub returns-then-asked-self-clause-any_moment : goal.returns-then-asked-self-clause-any_moment
returns-then-asked-self-clause-any_moment g c = λ payloads doubt honest stands.
    let D = g.D.Disk in
    crash_none D.moment D.images c.args.self.now c.args.store.now payloads doubt c.args.payload.now c.requires.edition c.requires.batch stands

pub returns-in_err-close_beside-clause-device_closed : goal.returns-in_err-close_beside-clause-device_closed
returns-in_err-close_beside-clause-device_closed g c = λ payloads newer honest beside stands within.
    inr (
      failed_is _ c.from_residual.result c.from_residual.ensures.1,
      c.close_beside.ensures.any_moment payloads newer beside stands,
      c.in_err-close_beside.ensures.closes payloads newer beside stands,
    )

pub append_counting-requires-clause-place : goal.append_counting-requires-clause-place
append_counting-requires-clause-place g c = λ honest1.
    let D = g.D.Disk in
    let journal = c.args.self.now in
    let store = c.args.store.now in
    let disk = ap (λ (s : Side). counting s c.close_beside.new.store) c.close_beside.ensures.same.side ∙ c.close_beside.ensures.untouched in
    let honest = subst D.honest disk honest1 in
    let file = D.seen (counting journal.side store) in
    omega (
      arith,
      c.requires.place honest file (g.met.D.Disk.seen_is_image (counting journal.side store) honest),
      c.close_beside.ensures.tail,
      ap (λ (d : g.row.D.Denot). length (D.seen d)) disk,
    )

pub returns-clause-doubt_closed : goal.returns-clause-doubt_closed
returns-clause-doubt_closed g c = λ payloads doubt honest stands within.
    let D = g.D.Disk in
    let journal = c.args.self.now in
    let store = c.args.store.now in
    let payload = c.args.payload.now in
    let mid = c.close_beside.new.store in
    let after = c.append_counting.new.self in
    let last = c.append_counting.new.store in
    let same = c.close_beside.ensures.nothing (not_device journal doubt stands.device.known) in
    let disk = ap (λ (s : Side). counting s mid) c.close_beside.ensures.same.side ∙ c.close_beside.ensures.untouched in
    let honest1 = subst D.honest (sym disk) honest in
    let stands1 = subst (λ (j : Journal). Stands D.moment D.images j mid payloads doubt) (sym same.0)
    (subst (λ (s : Store g.row.D.Denot). Stands D.moment D.images journal s payloads doubt) (sym same.1) stands) in
    subst (λ (j : Journal). DoubtClosed D.moment D.images j after store last payloads doubt payload c.append_counting.result) same.0
    (subst (λ (s : Store g.row.D.Denot). DoubtClosed D.moment D.images c.close_beside.new.self after s last payloads doubt payload c.append_counting.result) same.1
    (c.append_counting.ensures.doubt_closed payloads doubt honest1 stands1))

pub returns-clause-device_closed : goal.returns-clause-device_closed
returns-clause-device_closed g c = λ payloads newer honest beside stands within.
    let D = g.D.Disk in
    let disk = ap (λ (s : Side). counting s c.close_beside.new.store) c.close_beside.ensures.same.side ∙ c.close_beside.ensures.untouched in
    let honest1 = subst D.honest (sym disk) honest in
    let settled = c.in_ok-close_beside.ensures.closes payloads newer beside stands in
    inl (record {
      closed = c.close_beside.new.self;
      between = c.close_beside.new.store;
      same = c.close_beside.ensures.same;
      closing = c.close_beside.ensures.any_moment payloads newer beside stands;
      stands = settled;
      appending = c.append_counting.ensures.any_moment payloads None honest1 settled;
      appended = c.append_counting.ensures.appended payloads None honest1 settled;
    })

pub returns-in_err-close_beside-clause-place : goal.returns-in_err-close_beside-clause-place
returns-in_err-close_beside-clause-place g c =
    let D = g.D.Disk in
    let closed = c.close_beside.ensures in
    tail_stays D.honest D.moment D.images c.args.self.now c.close_beside.new.self c.args.store.now c.close_beside.new.store c.requires.place closed.same.side closed.tail closed.untouched

pub returns-clause-place : goal.returns-clause-place
returns-clause-place g c =
    let D = g.D.Disk in
    let closed = c.close_beside.ensures in
    c.append_counting.ensures.reaches
    (tail_stays D.honest D.moment D.images c.args.self.now c.close_beside.new.self c.args.store.now c.close_beside.new.store c.requires.place closed.same.side closed.tail closed.untouched)
