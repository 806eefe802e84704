use Rattle.std.proofs.Common.{◌+◌, refl, subst}
use Rattle.ws_journal.specs.declared.store.Side.{Side}
use Rattle.ws_journal.specs.declared.store.Side.TheVariants.{A, B}
use Rattle.ws_journal.specs.Kept.{Each}
use Rattle.ws_journal.specs.Made.{IsHalfMade}
use Rattle.ws_journal.specs.Stands.{other}
use Rattle.ws_journal.proofs.Moments.{at_end}
use Rattle.ws_journal.proofs.Appending.{with_a, with_b}
use Rattle.ws_journal.proofs.Replacing.{closing_beside, closed_beside}
use Rattle.ws_journal.proofs.journal.Journal.close_beside.Goals as goal

pub returns-in-A-clause-any_moment : goal.returns-in-A-clause-any_moment
returns-in-A-clause-any_moment g c = λ payloads newer honest stands.
    let D = g.D.Disk in
    let journal = c.args.self.now in
    let old = c.args.store.now in
    let there = subst (λ (s : Side). D.honest (other s old)) c.in-A.is honest in
    let half = subst (λ (s : Side). Each (D.images (other s old) (D.moment (other s old))) (IsHalfMade (journal.generation + 1) newer)) c.in-A.is stands.beside in
    closing_beside D.moment D.images journal A c.in-A.is old (with_b old c.close_device.new.disk) payloads newer stands refl
    (c.close_device.ensures.any_moment (journal.generation + 1) newer stands.known there half)

pub returns-in-A-clause-closes : goal.returns-in-A-clause-closes
returns-in-A-clause-closes g c = λ payloads newer honest stands.
    let D = g.D.Disk in
    let journal = c.args.self.now in
    let old = c.args.store.now in
    let disk = other A old in
    let new = c.close_device.new.disk in
    let there = subst (λ (s : Side). D.honest (other s old)) c.in-A.is honest in
    let after = c.close_device.ensures.honesty.1 there in
    let half = subst (λ (s : Side). Each (D.images (other s old) (D.moment (other s old))) (IsHalfMade (journal.generation + 1) newer)) c.in-A.is stands.beside in
    closed_beside D.moment D.images journal c.close_device.new.self A c.in-A.is old (with_b old new) payloads newer stands refl
    c.close_device.result (c.close_device.ensures.settled stands.known) (c.close_device.ensures.closed journal.generation stands.known there) c.close_device.ensures.failed
    (at_end D.moment D.images disk new (IsHalfMade (journal.generation + 1) newer) (λ t later image le left. g.met.D.Disk.images_grow new t later image after le left)
    (c.close_device.ensures.any_moment (journal.generation + 1) newer stands.known there half))

pub returns-in-B-clause-any_moment : goal.returns-in-B-clause-any_moment
returns-in-B-clause-any_moment g c = λ payloads newer honest stands.
    let D = g.D.Disk in
    let journal = c.args.self.now in
    let old = c.args.store.now in
    let there = subst (λ (s : Side). D.honest (other s old)) c.in-B.is honest in
    let half = subst (λ (s : Side). Each (D.images (other s old) (D.moment (other s old))) (IsHalfMade (journal.generation + 1) newer)) c.in-B.is stands.beside in
    closing_beside D.moment D.images journal B c.in-B.is old (with_a old c.close_device-in-B.new.disk) payloads newer stands refl
    (c.close_device-in-B.ensures.any_moment (journal.generation + 1) newer stands.known there half)

pub returns-in-B-clause-closes : goal.returns-in-B-clause-closes
returns-in-B-clause-closes g c = λ payloads newer honest stands.
    let D = g.D.Disk in
    let journal = c.args.self.now in
    let old = c.args.store.now in
    let disk = other B old in
    let new = c.close_device-in-B.new.disk in
    let there = subst (λ (s : Side). D.honest (other s old)) c.in-B.is honest in
    let after = c.close_device-in-B.ensures.honesty.1 there in
    let half = subst (λ (s : Side). Each (D.images (other s old) (D.moment (other s old))) (IsHalfMade (journal.generation + 1) newer)) c.in-B.is stands.beside in
    closed_beside D.moment D.images journal c.close_device-in-B.new.self B c.in-B.is old (with_a old new) payloads newer stands refl
    c.close_device-in-B.result (c.close_device-in-B.ensures.settled stands.known) (c.close_device-in-B.ensures.closed journal.generation stands.known there) c.close_device-in-B.ensures.failed
    (at_end D.moment D.images disk new (IsHalfMade (journal.generation + 1) newer) (λ t later image le left. g.met.D.Disk.images_grow new t later image after le left)
    (c.close_device-in-B.ensures.any_moment (journal.generation + 1) newer stands.known there half))
