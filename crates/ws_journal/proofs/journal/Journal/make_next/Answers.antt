use Rattle.std.proofs.Common.{◌≡◌, ◌⊎◌, ℕ, OnOk, refl, subst}
use Rattle.ws_journal.specs.declared.store.Side.{Side}
use Rattle.ws_journal.specs.declared.store.Side.TheVariants.{A, B}
use Rattle.ws_journal.specs.Made.{IsSpare, IsMade, IsHalfMade, IsBelowOrMade}
use Rattle.ws_journal.specs.Stands.{other}
use Rattle.ws_disk.specs.Crash.{LeavesOnly}
use Rattle.ws_journal.specs.Kept.{Each}
use Rattle.ws_journal.specs.Replaced.{IsNext, KnowsDevice}
use Rattle.ws_journal.proofs.Appending.{with_a, with_b}
use Rattle.ws_journal.proofs.Reaching.{tail_next}
use Rattle.ws_journal.proofs.Replacing.{making_next, replaced}
use Rattle.ws_journal.proofs.journal.Journal.make_next.Goals as goal

pub returns-in-A-clause-any_moment : goal.returns-in-A-clause-any_moment
returns-in-A-clause-any_moment g c = λ payloads small honest stands.
    let D = g.D.Disk in
    let journal = c.args.self.now in
    let old = c.args.store.now in
    let batches = c.args.batches.now in
    let up = c.next_generation-generation.ensures small in
    let disk = other A old in
    let there = subst (λ (s : Side). D.honest (other s old)) c.in-A.is honest in
    let spare = subst (λ (s : Side). IsSpare journal.generation (D.images (other s old) (D.moment (other s old)))) c.in-A.is stands.rest in
    making_next D.moment D.images journal c.make_other.new.self A B c.in-A.is old (with_b old c.make_other.new.disk) payloads c.args.batches.now stands refl small c.requires.batches
    (subst (λ (n : ℕ). LeavesOnly D.moment D.images disk c.make_other.new.disk (IsBelowOrMade journal.generation n batches)) up (c.make_other.ensures.any_moment journal.generation there spare))

pub returns-in-A-clause-replaced : goal.returns-in-A-clause-replaced
returns-in-A-clause-replaced g c = λ payloads small honest stands.
    let D = g.D.Disk in
    let journal = c.args.self.now in
    let old = c.args.store.now in
    let batches = c.args.batches.now in
    let up = c.next_generation-generation.ensures small in
    let disk = other A old in
    let there = subst (λ (s : Side). D.honest (other s old)) c.in-A.is honest in
    let spare = subst (λ (s : Side). IsSpare journal.generation (D.images (other s old) (D.moment (other s old)))) c.in-A.is stands.rest in
    replaced D.moment D.images journal c.make_other.new.self A B c.in-A.is old (with_b old c.make_other.new.disk) payloads c.args.batches.now stands refl small c.requires.batches
    c.args.tail c.requires.tail refl refl c.make_other.result
    (subst (λ (n : ℕ). OnOk c.make_other.result (IsNext B n c.args.tail journal c.make_other.new.self)) up c.make_other.ensures.switched)
    (subst (λ (n : ℕ). OnOk c.make_other.result (Each (D.images c.make_other.new.disk (D.moment c.make_other.new.disk)) (IsMade n batches))) up (c.make_other.ensures.made there))
    (λ e. subst (λ (n : ℕ). ((c.make_other.new.self ≡ journal) × IsSpare journal.generation (D.images c.make_other.new.disk (D.moment c.make_other.new.disk)))
    ⊎ (KnowsDevice journal c.make_other.new.self × Each (D.images c.make_other.new.disk (D.moment c.make_other.new.disk)) (IsHalfMade n batches))) up (c.make_other.ensures.failed journal.generation there spare e))

pub returns-in-B-clause-any_moment : goal.returns-in-B-clause-any_moment
returns-in-B-clause-any_moment g c = λ payloads small honest stands.
    let D = g.D.Disk in
    let journal = c.args.self.now in
    let old = c.args.store.now in
    let batches = c.args.batches.now in
    let up = c.next_generation-generation.ensures small in
    let disk = other B old in
    let there = subst (λ (s : Side). D.honest (other s old)) c.in-B.is honest in
    let spare = subst (λ (s : Side). IsSpare journal.generation (D.images (other s old) (D.moment (other s old)))) c.in-B.is stands.rest in
    making_next D.moment D.images journal c.make_other-in-B.new.self B A c.in-B.is old (with_a old c.make_other-in-B.new.disk) payloads c.args.batches.now stands refl small c.requires.batches
    (subst (λ (n : ℕ). LeavesOnly D.moment D.images disk c.make_other-in-B.new.disk (IsBelowOrMade journal.generation n batches)) up (c.make_other-in-B.ensures.any_moment journal.generation there spare))

pub returns-in-B-clause-replaced : goal.returns-in-B-clause-replaced
returns-in-B-clause-replaced g c = λ payloads small honest stands.
    let D = g.D.Disk in
    let journal = c.args.self.now in
    let old = c.args.store.now in
    let batches = c.args.batches.now in
    let up = c.next_generation-generation.ensures small in
    let disk = other B old in
    let there = subst (λ (s : Side). D.honest (other s old)) c.in-B.is honest in
    let spare = subst (λ (s : Side). IsSpare journal.generation (D.images (other s old) (D.moment (other s old)))) c.in-B.is stands.rest in
    replaced D.moment D.images journal c.make_other-in-B.new.self B A c.in-B.is old (with_a old c.make_other-in-B.new.disk) payloads c.args.batches.now stands refl small c.requires.batches
    c.args.tail c.requires.tail refl refl c.make_other-in-B.result
    (subst (λ (n : ℕ). OnOk c.make_other-in-B.result (IsNext A n c.args.tail journal c.make_other-in-B.new.self)) up c.make_other-in-B.ensures.switched)
    (subst (λ (n : ℕ). OnOk c.make_other-in-B.result (Each (D.images c.make_other-in-B.new.disk (D.moment c.make_other-in-B.new.disk)) (IsMade n batches))) up (c.make_other-in-B.ensures.made there))
    (λ e. subst (λ (n : ℕ). ((c.make_other-in-B.new.self ≡ journal) × IsSpare journal.generation (D.images c.make_other-in-B.new.disk (D.moment c.make_other-in-B.new.disk)))
    ⊎ (KnowsDevice journal c.make_other-in-B.new.self × Each (D.images c.make_other-in-B.new.disk (D.moment c.make_other-in-B.new.disk)) (IsHalfMade n batches))) up (c.make_other-in-B.ensures.failed journal.generation there spare e))

pub returns-in-A-clause-reaches : goal.returns-in-A-clause-reaches
returns-in-A-clause-reaches g c = λ there.
    let D = g.D.Disk in
    let old = c.args.store.now in
    tail_next D.honest D.moment D.images c.args.self.now c.make_other.new.self old (with_b old c.make_other.new.disk) there A B c.next_generation-generation.result c.args.tail c.args.batches.now c.in-A.is c.requires.tail refl refl
    c.make_other.ensures.honesty c.make_other.result c.make_other.ensures.switched c.make_other.ensures.not_done c.make_other.ensures.made

pub returns-in-B-clause-reaches : goal.returns-in-B-clause-reaches
returns-in-B-clause-reaches g c = λ there.
    let D = g.D.Disk in
    let old = c.args.store.now in
    tail_next D.honest D.moment D.images c.args.self.now c.make_other-in-B.new.self old (with_a old c.make_other-in-B.new.disk) there B A c.next_generation-generation.result c.args.tail c.args.batches.now c.in-B.is c.requires.tail refl refl
    c.make_other-in-B.ensures.honesty c.make_other-in-B.result c.make_other-in-B.ensures.switched c.make_other-in-B.ensures.not_done c.make_other-in-B.ensures.made
