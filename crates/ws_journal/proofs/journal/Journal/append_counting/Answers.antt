use Rattle.std.proofs.Common.{refl, subst}
use Rattle.ws_journal.specs.declared.store.Side.{Side}
use Rattle.ws_journal.specs.declared.store.Side.TheVariants.{A, B}
use Rattle.ws_journal.specs.Text.{front}
use Rattle.ws_journal.specs.Stands.{counting}
use Rattle.ws_journal.proofs.Appending.{with_a, with_b, counts_at, crash_at, closes_at, appended_at}
use Rattle.ws_journal.proofs.Reaching.{tail_moved}
use Rattle.ws_journal.proofs.journal.Journal.append_counting.Goals as goal

pub returns-in-A-clause-any_moment : goal.returns-in-A-clause-any_moment
returns-in-A-clause-any_moment g c = λ payloads doubt honest stands.
    let D = g.D.Disk in
    let store = c.args.store.now in
    let journal = c.args.self.now in
    let there = subst (λ (s : Side). D.honest (counting s store)) c.in-A.is honest in
    let counts = counts_at D.moment D.images journal A c.in-A.is store payloads doubt stands in
    crash_at D.moment D.images journal A c.in-A.is store payloads doubt stands c.append_to.new.self (with_a store c.append_to.new.disk) c.args.payload.now c.requires.edition c.requires.batch refl
    (c.append_to.ensures.any_moment (front journal.edition journal.generation payloads) doubt there counts)

pub returns-in-A-clause-doubt_closed : goal.returns-in-A-clause-doubt_closed
returns-in-A-clause-doubt_closed g c = λ payloads doubt honest stands.
    let D = g.D.Disk in
    let store = c.args.store.now in
    let journal = c.args.self.now in
    let there = subst (λ (s : Side). D.honest (counting s store)) c.in-A.is honest in
    let counts = counts_at D.moment D.images journal A c.in-A.is store payloads doubt stands in
    closes_at D.moment D.images journal A c.in-A.is store payloads doubt stands c.append_to.new.self (with_a store c.append_to.new.disk) c.args.payload.now c.requires.edition c.requires.batch refl
    c.append_to.result c.append_to.ensures.same (c.append_to.ensures.closes_first (front journal.edition journal.generation payloads) doubt there counts)

pub returns-in-A-clause-appended : goal.returns-in-A-clause-appended
returns-in-A-clause-appended g c = λ payloads doubt honest stands.
    let D = g.D.Disk in
    let store = c.args.store.now in
    let journal = c.args.self.now in
    let there = subst (λ (s : Side). D.honest (counting s store)) c.in-A.is honest in
    let counts = counts_at D.moment D.images journal A c.in-A.is store payloads doubt stands in
    appended_at D.moment D.images journal A c.in-A.is store payloads doubt stands c.append_to.new.self (with_a store c.append_to.new.disk) c.args.payload.now c.requires.edition c.requires.batch refl
    c.append_to.result c.append_to.ensures.same (c.append_to.ensures.appends (front journal.edition journal.generation payloads) doubt there counts)

pub returns-in-B-clause-any_moment : goal.returns-in-B-clause-any_moment
returns-in-B-clause-any_moment g c = λ payloads doubt honest stands.
    let D = g.D.Disk in
    let store = c.args.store.now in
    let journal = c.args.self.now in
    let there = subst (λ (s : Side). D.honest (counting s store)) c.in-B.is honest in
    let counts = counts_at D.moment D.images journal B c.in-B.is store payloads doubt stands in
    crash_at D.moment D.images journal B c.in-B.is store payloads doubt stands c.append_to-in-B.new.self (with_b store c.append_to-in-B.new.disk) c.args.payload.now c.requires.edition c.requires.batch refl
    (c.append_to-in-B.ensures.any_moment (front journal.edition journal.generation payloads) doubt there counts)

pub returns-in-B-clause-doubt_closed : goal.returns-in-B-clause-doubt_closed
returns-in-B-clause-doubt_closed g c = λ payloads doubt honest stands.
    let D = g.D.Disk in
    let store = c.args.store.now in
    let journal = c.args.self.now in
    let there = subst (λ (s : Side). D.honest (counting s store)) c.in-B.is honest in
    let counts = counts_at D.moment D.images journal B c.in-B.is store payloads doubt stands in
    closes_at D.moment D.images journal B c.in-B.is store payloads doubt stands c.append_to-in-B.new.self (with_b store c.append_to-in-B.new.disk) c.args.payload.now c.requires.edition c.requires.batch refl
    c.append_to-in-B.result c.append_to-in-B.ensures.same (c.append_to-in-B.ensures.closes_first (front journal.edition journal.generation payloads) doubt there counts)

pub returns-in-B-clause-appended : goal.returns-in-B-clause-appended
returns-in-B-clause-appended g c = λ payloads doubt honest stands.
    let D = g.D.Disk in
    let store = c.args.store.now in
    let journal = c.args.self.now in
    let there = subst (λ (s : Side). D.honest (counting s store)) c.in-B.is honest in
    let counts = counts_at D.moment D.images journal B c.in-B.is store payloads doubt stands in
    appended_at D.moment D.images journal B c.in-B.is store payloads doubt stands c.append_to-in-B.new.self (with_b store c.append_to-in-B.new.disk) c.args.payload.now c.requires.edition c.requires.batch refl
    c.append_to-in-B.result c.append_to-in-B.ensures.same (c.append_to-in-B.ensures.appends (front journal.edition journal.generation payloads) doubt there counts)

pub returns-in-A-clause-reaches : goal.returns-in-A-clause-reaches
returns-in-A-clause-reaches g c = λ there.
    let D = g.D.Disk in
    let store = c.args.store.now in
    tail_moved D.honest D.moment D.images c.args.self.now c.append_to.new.self store (with_a store c.append_to.new.disk) there A c.in-A.is c.append_to.ensures.same.side c.append_to.ensures.honesty c.append_to.ensures.reaches

pub returns-in-B-clause-reaches : goal.returns-in-B-clause-reaches
returns-in-B-clause-reaches g c = λ there.
    let D = g.D.Disk in
    let store = c.args.store.now in
    tail_moved D.honest D.moment D.images c.args.self.now c.append_to-in-B.new.self store (with_b store c.append_to-in-B.new.disk) there B c.in-B.is c.append_to-in-B.ensures.same.side c.append_to-in-B.ensures.honesty c.append_to-in-B.ensures.reaches
