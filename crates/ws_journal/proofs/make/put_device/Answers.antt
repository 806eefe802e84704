use Rattle.std.proofs.Common.{◌≡◌, ◌+◌, ◌≤◌, ◌∷◌, [], ℕ, List, Result, Ok, Err, OnOk, length, ◌∙◌, ap, arith}
use Rattle.ws_disk.specs.Crash.{overwritten}
use Rattle.ws_journal.specs.declared.store.Edition.TheVariants.{Second}
use Rattle.ws_journal.specs.Text.{records}
use Rattle.ws_journal.specs.Kept.{Keeps, After}
use Rattle.ws_journal.proofs.Files.{Keeps-refl, Keeps-trans, Torn-keeps}
use Rattle.ws_journal.proofs.Moments.{wrote, then_wrote, then_sync, at_end, Follows-map}
use Rattle.ws_journal.proofs.Records.{reaches}
use Rattle.ws_journal.proofs.Writing.{then_steps, behind}
use Rattle.ws_journal.proofs.Making.{reaches_first, body_written, body_closed}
use Rattle.ws_journal.proofs.make.put_device.Goals as goal

pub returns-in_err-write_at-clause-any_moment : goal.returns-in_err-write_at-clause-any_moment
returns-in_err-write_at-clause-any_moment g c = λ honest.
    let D = g.D.Disk in
    wrote D.moment D.images (Keeps 1) (Keeps-refl 1) c.args.disk.now c.write_at.new.self (c.write_at.ensures.time honest)
    (Follows-map _ (Keeps 1) _ _ (λ x y torn. Torn-keeps 1 1 _ x y (omega arith) torn) (c.write_at.ensures.crash honest))

pub write_records-requires-clause-place : goal.write_records-requires-clause-place
write_records-requires-clause-place g c = λ honest1.
    let D = g.D.Disk in
    let honest = c.write_at.ensures.honesty.0 honest1 in
    let file = D.seen c.args.disk.now in
    omega (arith, reaches_first c.args.generation c.args.batches.now file (c.requires.place honest), ap length (c.in_ok-write_at.ensures.written honest ∙ ap (λ (l : List ℕ). overwritten 1 l file) c.device_head.ensures))

pub returns-in_err-end-clause-any_moment : goal.returns-in_err-end-clause-any_moment
returns-in_err-end-clause-any_moment g c = λ honest.
    let D = g.D.Disk in
    let old = c.args.disk.now in
    let mid = c.write_at.new.self in
    let new = c.write_records.new.disk in
    let honest1 = c.write_at.ensures.honesty.1 honest in
    let here = Follows-map _ (Keeps 1) _ _ (λ x y torn. Torn-keeps 1 1 _ x y (omega arith) torn) (c.write_at.ensures.crash honest) in
    then_steps D.moment D.images (Keeps 1) (Keeps-trans 1) old mid new
    (wrote D.moment D.images (Keeps 1) (Keeps-refl 1) old mid (c.write_at.ensures.time honest) here) here
    (behind D.moment D.images 1 17 (omega arith) mid new (c.write_records.ensures.any_moment honest1))

pub write_at-requires-2 : goal.write_at-requires-2
write_at-requires-2 g c = λ honest2.
    let D = g.D.Disk in
    let honest1 = c.write_records.ensures.honesty.0 honest2 in
    let honest = c.write_at.ensures.honesty.0 honest1 in
    let batches = c.args.batches.now in
    let file = D.seen c.args.disk.now in
    let head = c.in_ok-write_at.ensures.written honest ∙ ap (λ (l : List ℕ). overwritten 1 l file) c.device_head.ensures in
    let there : 17 ≤ length (D.seen c.write_at.new.self) = omega (arith, reaches_first c.args.generation batches file (c.requires.place honest), ap length head) in
    let end : c.in_ok-end.end ≡ 17 + length (records Second batches) = c.in_ok-end.ensures.end in
    omega (arith, end, reaches 17 (records Second batches) (D.seen c.write_at.new.self) there, ap length (c.in_ok-end.ensures.written honest1))

pub returns-in_err-write_at-2-clause-any_moment : goal.returns-in_err-write_at-2-clause-any_moment
returns-in_err-write_at-2-clause-any_moment g c = λ honest.
    let D = g.D.Disk in
    let old = c.args.disk.now in
    let first = c.write_at.new.self in
    let mid = c.write_records.new.disk in
    let new = c.write_at-2.new.self in
    let P = After (Keeps 1) (D.images old (D.moment old)) in
    let honest1 = c.write_at.ensures.honesty.1 honest in
    let honest2 = c.write_records.ensures.honesty.1 honest1 in
    let here = Follows-map _ (Keeps 1) _ _ (λ x y torn. Torn-keeps 1 1 _ x y (omega arith) torn) (c.write_at.ensures.crash honest) in
    let run = then_steps D.moment D.images (Keeps 1) (Keeps-trans 1) old first mid
    (wrote D.moment D.images (Keeps 1) (Keeps-refl 1) old first (c.write_at.ensures.time honest) here) here
    (behind D.moment D.images 1 17 (omega arith) first mid (c.write_records.ensures.any_moment honest1)) in
    let there = at_end D.moment D.images old mid P (λ t later image le left. g.met.D.Disk.images_grow mid t later image honest2 le left) run in
    let end : c.in_ok-end.end ≡ 17 + length (records Second c.args.batches.now) = c.in_ok-end.ensures.end in
    then_wrote D.moment D.images (Keeps 1) (Keeps-trans 1) old mid new run there (c.write_at-2.ensures.time honest2)
    (Follows-map _ (Keeps 1) _ _ (λ x y torn. Torn-keeps 1 c.in_ok-end.end _ x y (omega (arith, end)) torn) (c.write_at-2.ensures.crash honest2))

pub returns-clause-any_moment : goal.returns-clause-any_moment
returns-clause-any_moment g c = λ honest.
    let D = g.D.Disk in
    let old = c.args.disk.now in
    let first = c.write_at.new.self in
    let mid = c.write_records.new.disk in
    let last = c.write_at-2.new.self in
    let P = After (Keeps 1) (D.images old (D.moment old)) in
    let honest1 = c.write_at.ensures.honesty.1 honest in
    let honest2 = c.write_records.ensures.honesty.1 honest1 in
    let honest3 = c.write_at-2.ensures.honesty.1 honest2 in
    let here = Follows-map _ (Keeps 1) _ _ (λ x y torn. Torn-keeps 1 1 _ x y (omega arith) torn) (c.write_at.ensures.crash honest) in
    let run = then_steps D.moment D.images (Keeps 1) (Keeps-trans 1) old first mid
    (wrote D.moment D.images (Keeps 1) (Keeps-refl 1) old first (c.write_at.ensures.time honest) here) here
    (behind D.moment D.images 1 17 (omega arith) first mid (c.write_records.ensures.any_moment honest1)) in
    let there = at_end D.moment D.images old mid P (λ t later image le left. g.met.D.Disk.images_grow mid t later image honest2 le left) run in
    let end : c.in_ok-end.end ≡ 17 + length (records Second c.args.batches.now) = c.in_ok-end.ensures.end in
    let closed = then_wrote D.moment D.images (Keeps 1) (Keeps-trans 1) old mid last run there (c.write_at-2.ensures.time honest2)
    (Follows-map _ (Keeps 1) _ _ (λ x y torn. Torn-keeps 1 c.in_ok-end.end _ x y (omega (arith, end)) torn) (c.write_at-2.ensures.crash honest2)) in
    let at_last = at_end D.moment D.images old last P (λ t later image le left. g.met.D.Disk.images_grow last t later image honest3 le left) closed in
    then_sync D.moment D.images old last c.sync.new.self P closed at_last (c.sync.ensures.time honest3) (c.sync.ensures.crash honest3)

if_ok : {T E P : Type 0} (r : Result T E) → P → OnOk r P
if_ok (Ok x) holds = holds
if_ok (Err e) holds = tt

pub returns-clause-written : goal.returns-clause-written
returns-clause-written g c =
    let D = g.D.Disk in
    let batches = c.args.batches.now in
    let recs = records Second batches in
    let file = D.seen c.args.disk.now in
    let end : c.in_ok-end.end ≡ 17 + length recs = c.in_ok-end.ensures.end in
    let there = λ (honest : D.honest c.args.disk.now).
    let honest1 = c.write_at.ensures.honesty.1 honest in
    let honest2 = c.write_records.ensures.honesty.1 honest1 in
    let head = c.in_ok-write_at.ensures.written honest ∙ ap (λ (l : List ℕ). overwritten 1 l file) c.device_head.ensures in
    let body = c.in_ok-end.ensures.written honest1 ∙ ap (overwritten 17 recs) head ∙ body_written c.args.generation batches file (c.requires.place honest) in
    c.sync.ensures.seen
    ∙ c.in_ok-write_at-2.ensures.written honest2
    ∙ ap (overwritten c.in_ok-end.end (0 ∷ [])) body
    ∙ body_closed c.args.generation batches c.in_ok-end.end file (c.requires.place honest) end in
    if_ok c.sync.result there
