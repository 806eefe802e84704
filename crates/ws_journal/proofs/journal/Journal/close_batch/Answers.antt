use Rattle.std.proofs.Common.{refl, subst, arith}
use Rattle.ws_journal.specs.declared.store.Side.{Side}
use Rattle.ws_journal.specs.declared.store.Side.TheVariants.{A, B}
use Rattle.ws_journal.specs.Text.{front}
use Rattle.ws_journal.specs.Stands.{counting}
use Rattle.ws_journal.proofs.Appending.{with_a, with_b, counts_at}
use Rattle.ws_journal.proofs.Reaching.{tail_moved}
use Rattle.ws_journal.proofs.Replacing.{closing_batch, closed_batch}
use Rattle.ws_journal.proofs.journal.Journal.close_batch.Goals as goal

pub returns-in-A-clause-any_moment : goal.returns-in-A-clause-any_moment
returns-in-A-clause-any_moment g c = λ payloads doubt edition honest stands.
    let D = g.D.Disk in
    let journal = c.args.self.now in
    let old = c.args.store.now in
    let there = subst (λ (s : Side). D.honest (counting s old)) c.in-A.is honest in
    let counts = counts_at D.moment D.images journal A c.in-A.is old payloads doubt stands in
    closing_batch D.moment D.images journal A c.in-A.is old (with_a old c.close_doubt.new.disk) payloads doubt edition stands refl
    (c.close_doubt.ensures.any_moment (front journal.edition journal.generation payloads) doubt there counts)

pub returns-in-A-clause-closes : goal.returns-in-A-clause-closes
returns-in-A-clause-closes g c = λ payloads doubt honest stands.
    let D = g.D.Disk in
    let journal = c.args.self.now in
    let old = c.args.store.now in
    let there = subst (λ (s : Side). D.honest (counting s old)) c.in-A.is honest in
    let counts = counts_at D.moment D.images journal A c.in-A.is old payloads doubt stands in
    closed_batch D.moment D.images journal c.close_doubt.new.self A c.in-A.is old (with_a old c.close_doubt.new.disk) payloads doubt stands refl c.close_doubt.ensures.same c.close_doubt.result
    (c.close_doubt.ensures.closes (front journal.edition journal.generation payloads) doubt there counts)

pub returns-in-B-clause-any_moment : goal.returns-in-B-clause-any_moment
returns-in-B-clause-any_moment g c = λ payloads doubt edition honest stands.
    let D = g.D.Disk in
    let journal = c.args.self.now in
    let old = c.args.store.now in
    let there = subst (λ (s : Side). D.honest (counting s old)) c.in-B.is honest in
    let counts = counts_at D.moment D.images journal B c.in-B.is old payloads doubt stands in
    closing_batch D.moment D.images journal B c.in-B.is old (with_b old c.close_doubt-in-B.new.disk) payloads doubt edition stands refl
    (c.close_doubt-in-B.ensures.any_moment (front journal.edition journal.generation payloads) doubt there counts)

pub returns-in-B-clause-closes : goal.returns-in-B-clause-closes
returns-in-B-clause-closes g c = λ payloads doubt honest stands.
    let D = g.D.Disk in
    let journal = c.args.self.now in
    let old = c.args.store.now in
    let there = subst (λ (s : Side). D.honest (counting s old)) c.in-B.is honest in
    let counts = counts_at D.moment D.images journal B c.in-B.is old payloads doubt stands in
    closed_batch D.moment D.images journal c.close_doubt-in-B.new.self B c.in-B.is old (with_b old c.close_doubt-in-B.new.disk) payloads doubt stands refl c.close_doubt-in-B.ensures.same c.close_doubt-in-B.result
    (c.close_doubt-in-B.ensures.closes (front journal.edition journal.generation payloads) doubt there counts)

pub returns-in-A-clause-reaches : goal.returns-in-A-clause-reaches
returns-in-A-clause-reaches g c = λ there.
    let D = g.D.Disk in
    let old = c.args.store.now in
    tail_moved D.honest D.moment D.images c.args.self.now c.close_doubt.new.self old (with_a old c.close_doubt.new.disk) there A c.in-A.is c.close_doubt.ensures.same.side c.close_doubt.ensures.honesty
    (λ honest each image now. omega (arith, c.close_doubt.ensures.keeps honest each image now, c.close_doubt.ensures.tail))

pub returns-in-B-clause-reaches : goal.returns-in-B-clause-reaches
returns-in-B-clause-reaches g c = λ there.
    let D = g.D.Disk in
    let old = c.args.store.now in
    tail_moved D.honest D.moment D.images c.args.self.now c.close_doubt-in-B.new.self old (with_b old c.close_doubt-in-B.new.disk) there B c.in-B.is c.close_doubt-in-B.ensures.same.side c.close_doubt-in-B.ensures.honesty
    (λ honest each image now. omega (arith, c.close_doubt-in-B.ensures.keeps honest each image now, c.close_doubt-in-B.ensures.tail))
