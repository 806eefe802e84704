use Rattle.std.proofs.Common.{◌≡◌, ◌-◌, length, refl, arith, subst}
use Rattle.ws_journal.specs.declared.store.Side.{Side}
use Rattle.ws_journal.specs.declared.store.Side.TheVariants.{A, B}
use Rattle.ws_journal.specs.Text.{front}
use Rattle.ws_journal.specs.Stands.{counting}
use Rattle.ws_journal.proofs.Appending.{with_a, with_b, counts_at}
use Rattle.ws_journal.proofs.Between.{left_up_to}
use Rattle.ws_journal.proofs.Reaching.{tail_moved}
use Rattle.ws_journal.proofs.journal.Journal.read_back.Goals as goal

pub returns-in-A-clause-texts : goal.returns-in-A-clause-texts
returns-in-A-clause-texts g c = λ payloads doubt honest stands within.
    let D = g.D.Disk in
    let store = c.args.store.now in
    let journal = c.args.self.now in
    let here = subst (λ (s : Side). D.honest (counting s store)) c.in-A.is honest in
    let counts = counts_at D.moment D.images journal A c.in-A.is store payloads doubt stands in
    let file = D.seen store.a in
    let last : journal.tail - 1 ≡ length (front journal.edition journal.generation payloads) = omega (arith, counts.tail) in
    let up = left_up_to journal.edition journal.generation (journal.tail - 1) payloads doubt file stands.batches (counts.each file (g.met.D.Disk.seen_is_image store.a here)) last in
    c.read_device_texts.ensures.texts here payloads up.0 within up.1

pub returns-in-B-clause-texts : goal.returns-in-B-clause-texts
returns-in-B-clause-texts g c = λ payloads doubt honest stands within.
    let D = g.D.Disk in
    let store = c.args.store.now in
    let journal = c.args.self.now in
    let here = subst (λ (s : Side). D.honest (counting s store)) c.in-B.is honest in
    let counts = counts_at D.moment D.images journal B c.in-B.is store payloads doubt stands in
    let file = D.seen store.b in
    let last : journal.tail - 1 ≡ length (front journal.edition journal.generation payloads) = omega (arith, counts.tail) in
    let up = left_up_to journal.edition journal.generation (journal.tail - 1) payloads doubt file stands.batches (counts.each file (g.met.D.Disk.seen_is_image store.b here)) last in
    c.read_device_texts-in-B.ensures.texts here payloads up.0 within up.1

pub returns-in-A-clause-place : goal.returns-in-A-clause-place
returns-in-A-clause-place g c = λ there.
    let D = g.D.Disk in
    let journal = c.args.self.now in
    let store = c.args.store.now in
    let reads = c.read_device_texts.ensures.reads in
    tail_moved D.honest D.moment D.images journal journal store (with_a store c.read_device_texts.new.disk) there A c.in-A.is refl reads.honesty (λ honest each image now. each image ((reads.unwritten honest).calm image now))

pub returns-in-B-clause-place : goal.returns-in-B-clause-place
returns-in-B-clause-place g c = λ there.
    let D = g.D.Disk in
    let journal = c.args.self.now in
    let store = c.args.store.now in
    let reads = c.read_device_texts-in-B.ensures.reads in
    tail_moved D.honest D.moment D.images journal journal store (with_b store c.read_device_texts-in-B.new.disk) there B c.in-B.is refl reads.honesty (λ honest each image now. each image ((reads.unwritten honest).calm image now))
