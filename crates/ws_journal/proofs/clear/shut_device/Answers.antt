use Rattle.std.proofs.Common.{◌≡◌, ℕ, List, sym, ◌∙◌, subst}
use Rattle.std.specs.Prelude.{None, slice_get}
use Rattle.ws_journal.specs.Made.{IsShort}
use Rattle.ws_journal.proofs.Spare.{stays_on, stays_calm, stays_cut, stays_written, no_gate, cut_short}
use Rattle.ws_journal.proofs.clear.shut_device.Goals as goal

pub returns-in_err-shorten-in-Some-clause-any_moment : goal.returns-in_err-shorten-in-Some-clause-any_moment
returns-in_err-shorten-in-Some-clause-any_moment g c = λ generation honest spare.
    let D = g.D.Disk in
    let old = c.args.disk.now in
    let looked = c.gate_of.new.disk in
    let new = c.shorten.new.disk in
    let honest1 = c.gate_of.ensures.honesty.1 honest in
    let honest2 = c.shorten.ensures.honesty.1 honest1 in
    let first = stays_calm D.moment D.images generation old looked spare (c.gate_of.ensures.time honest) (c.gate_of.ensures.crash honest) in
    stays_on D.moment D.images generation old looked new first
    (stays_cut D.moment D.images generation looked new (λ t later image le left. g.met.D.Disk.images_grow new t later image honest2 le left) first.spare (c.shorten.ensures.any_moment honest1))

pub returns-in_ok-shorten-in-Some-clause-any_moment : goal.returns-in_ok-shorten-in-Some-clause-any_moment
returns-in_ok-shorten-in-Some-clause-any_moment g c = λ generation honest spare.
    let D = g.D.Disk in
    let old = c.args.disk.now in
    let looked = c.gate_of.new.disk in
    let mid = c.shorten.new.disk in
    let new = c.set_gate.new.disk in
    let honest1 = c.gate_of.ensures.honesty.1 honest in
    let honest2 = c.shorten.ensures.honesty.1 honest1 in
    let honest3 = c.set_gate.ensures.honesty.1 honest2 in
    let first = stays_calm D.moment D.images generation old looked spare (c.gate_of.ensures.time honest) (c.gate_of.ensures.crash honest) in
    let second = stays_cut D.moment D.images generation looked mid (λ t later image le left. g.met.D.Disk.images_grow mid t later image honest2 le left) first.spare (c.shorten.ensures.any_moment honest1) in
    let short = λ (image : List ℕ) (now : D.images mid (D.moment mid) image).
    subst IsShort (sym (c.in_ok-shorten-in-Some.ensures.confirmed honest1 image now ∙ c.in_ok-shorten-in-Some.ensures.shortened honest1)) (cut_short (D.seen looked)) in
    stays_on D.moment D.images generation old mid new (stays_on D.moment D.images generation old looked mid first second)
    (stays_written D.moment D.images generation mid new (λ t later image le left. g.met.D.Disk.images_grow new t later image honest3 le left) short (c.set_gate.ensures.any_moment honest2))

pub returns-in-None-clause-any_moment : goal.returns-in-None-clause-any_moment
returns-in-None-clause-any_moment g c = λ generation honest spare.
    let D = g.D.Disk in
    let old = c.args.disk.now in
    let looked = c.gate_of.new.disk in
    let new = c.set_gate-in-None.new.disk in
    let honest1 = c.gate_of.ensures.honesty.1 honest in
    let honest2 = c.set_gate-in-None.ensures.honesty.1 honest1 in
    let first = stays_calm D.moment D.images generation old looked spare (c.gate_of.ensures.time honest) (c.gate_of.ensures.crash honest) in
    let value = c.in_ok-gate_of.ensures.value honest in
    let none : slice_get (D.seen looked) 0 ≡ None = cc in
    let short = no_gate generation (D.images looked (D.moment looked)) (D.seen looked) first.spare (g.met.D.Disk.seen_is_image looked honest1) none in
    stays_on D.moment D.images generation old looked new first
    (stays_written D.moment D.images generation looked new (λ t later image le left. g.met.D.Disk.images_grow new t later image honest2 le left) short (c.set_gate-in-None.ensures.any_moment honest1))
