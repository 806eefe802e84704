use Rattle.std.proofs.Common.{◌≡◌, ◌-◌, ◌∷◌, [], length, refl, sym, ap, subst, arith, rules}
use Rattle.ws_journal.specs.declared.journal.Doubt.TheVariants.{Batch}
use Rattle.ws_journal.specs.Kept.{IsShut}
use Rattle.ws_journal.specs.Stands.{IsLeft}
use Rattle.ws_journal.proofs.Moments.{at_end}
use Rattle.ws_journal.proofs.Records.{reaches}
use Rattle.ws_journal.proofs.Reaching.{torn_reach}
use Rattle.ws_journal.proofs.Standing.{closing, closed_gate, closes_err}
use Rattle.ws_journal.proofs.journal.Journal.close_doubt.Goals as goal

pub returns-in_err-set_gate-clause-any_moment : goal.returns-in_err-set_gate-clause-any_moment
returns-in_err-set_gate-clause-any_moment g c = λ front doubt honest counts.
    let D = g.D.Disk in
    let is : c.args.self.now.doubt ≡ Batch = search rules in
    closing D.moment D.images c.args.self.now front doubt c.args.disk.now c.set_gate.new.disk counts is (c.set_gate.ensures.any_moment honest)

pub returns-in_err-set_gate-clause-closes : goal.returns-in_err-set_gate-clause-closes
returns-in_err-set_gate-clause-closes g c = λ front doubt honest counts.
    let D = g.D.Disk in
    let old = c.args.disk.now in
    let new = c.set_gate.new.disk in
    let is : c.args.self.now.doubt ≡ Batch = search rules in
    let honest1 = c.set_gate.ensures.honesty.1 honest in
    closes_err _ c.args.self.now front doubt (D.images new (D.moment new)) c.from_residual.result c.from_residual.ensures.1
    (record {
      tail = counts.tail;
      each = at_end D.moment D.images old new (IsLeft front doubt) (λ t later image le left. g.met.D.Disk.images_grow new t later image honest1 le left)
          (closing D.moment D.images c.args.self.now front doubt old new counts is (c.set_gate.ensures.any_moment honest));
      known = counts.known;
    })

pub returns-in_ok-set_gate-clause-any_moment : goal.returns-in_ok-set_gate-clause-any_moment
returns-in_ok-set_gate-clause-any_moment g c = λ front doubt honest counts.
    let D = g.D.Disk in
    let is : c.args.self.now.doubt ≡ Batch = search rules in
    closing D.moment D.images c.args.self.now front doubt c.args.disk.now c.set_gate.new.disk counts is (c.set_gate.ensures.any_moment honest)

pub returns-in_ok-set_gate-clause-closes : goal.returns-in_ok-set_gate-clause-closes
returns-in_ok-set_gate-clause-closes g c = λ front doubt honest counts.
    let D = g.D.Disk in
    let old = c.args.disk.now in
    let new = c.set_gate.new.disk in
    let is : c.args.self.now.doubt ≡ Batch = search rules in
    let shut = closed_gate c.args.self.now front doubt (D.images old (D.moment old)) (D.seen old) (D.seen new) counts is (g.met.D.Disk.seen_is_image old honest) (c.in_ok-set_gate.ensures.written honest) in
    record {
      tail = counts.tail;
      each = λ image now. subst (IsShut front) (sym (c.in_ok-set_gate.ensures.confirmed honest image now)) shut;
      known = refl;
    }

pub returns-in_ok-set_gate-clause-place : goal.returns-in_ok-set_gate-clause-place
returns-in_ok-set_gate-clause-place g c = λ honest1.
    let D = g.D.Disk in
    let honest = c.set_gate.ensures.honesty.0 honest1 in
    let place = c.args.self.now.tail - 1 in
    let old = D.seen c.args.disk.now in
    omega (arith, reaches place (0 ∷ []) old (omega (arith, c.requires.place honest)), ap length (c.in_ok-set_gate.ensures.written honest), c.args.self.now.begun)

pub returns-in_err-set_gate-clause-keeps : goal.returns-in_err-set_gate-clause-keeps
returns-in_err-set_gate-clause-keeps g c = λ honest each.
    let D = g.D.Disk in
    let new = c.set_gate.new.disk in
    let honest1 = c.set_gate.ensures.honesty.1 honest in
    torn_reach D.moment D.images c.args.self.now.tail c.args.disk.now new (λ t later image le left. g.met.D.Disk.images_grow new t later image honest1 le left) each (c.args.self.now.tail - 1) 1 (c.set_gate.ensures.any_moment honest)

pub returns-in_ok-set_gate-clause-keeps : goal.returns-in_ok-set_gate-clause-keeps
returns-in_ok-set_gate-clause-keeps g c = λ honest each.
    let D = g.D.Disk in
    let new = c.set_gate.new.disk in
    let honest1 = c.set_gate.ensures.honesty.1 honest in
    torn_reach D.moment D.images c.args.self.now.tail c.args.disk.now new (λ t later image le left. g.met.D.Disk.images_grow new t later image honest1 le left) each (c.args.self.now.tail - 1) 1 (c.set_gate.ensures.any_moment honest)
