use Rattle.std.proofs.Common.{◌+◌, ◌∷◌, [], ℕ, List, Result, Ok, Err, OnOk, length, ◌∙◌, ap, arith}
use Rattle.ws_disk.specs.Crash.{overwritten}
use Rattle.ws_journal.specs.Kept.{After, Keeps}
use Rattle.ws_journal.proofs.Files.{Keeps-trans, Torn-keeps}
use Rattle.ws_journal.proofs.Records.{record_closed, reaches_record}
use Rattle.ws_journal.proofs.Moments.{then_wrote, then_sync, Follows-map, at_end}
use Rattle.ws_journal.proofs.record.put_record.Goals as goal

pub write_at-requires : goal.write_at-requires
write_at-requires g c = λ honest1.
    let D = g.D.Disk in
    let honest = c.write_payload.ensures.honesty.0 honest1 in
    omega (arith, reaches_record c.args.at c.args.payload.now (D.seen c.args.disk.now) (c.requires.place honest), ap length (c.in_ok-write_payload.ensures.written honest))

pub returns-in_err-write_at-clause-any_moment : goal.returns-in_err-write_at-clause-any_moment
returns-in_err-write_at-clause-any_moment g c = λ honest.
    let D = g.D.Disk in
    let at = c.args.at in
    let old = c.args.disk.now in
    let mid = c.write_payload.new.disk in
    let honest1 = c.write_payload.ensures.honesty.1 honest in
    let run = c.write_payload.ensures.any_moment honest in
    let here = at_end D.moment D.images old mid (After (Keeps at) (D.images old (D.moment old))) (λ t later image le left. g.met.D.Disk.images_grow mid t later image honest1 le left) run in
    then_wrote D.moment D.images (Keeps at) (Keeps-trans at) old mid c.write_at.new.self run here (c.write_at.ensures.time honest1)
    (Follows-map _ (Keeps at) _ _ (λ x y torn. Torn-keeps at _ _ x y (omega arith) torn) (c.write_at.ensures.crash honest1))

pub returns-clause-any_moment : goal.returns-clause-any_moment
returns-clause-any_moment g c = λ honest.
    let D = g.D.Disk in
    let at = c.args.at in
    let old = c.args.disk.now in
    let mid = c.write_payload.new.disk in
    let last = c.write_at.new.self in
    let P = After (Keeps at) (D.images old (D.moment old)) in
    let honest1 = c.write_payload.ensures.honesty.1 honest in
    let honest2 = c.write_at.ensures.honesty.1 honest1 in
    let run = c.write_payload.ensures.any_moment honest in
    let here = at_end D.moment D.images old mid P (λ t later image le left. g.met.D.Disk.images_grow mid t later image honest1 le left) run in
    let second = then_wrote D.moment D.images (Keeps at) (Keeps-trans at) old mid last run here (c.write_at.ensures.time honest1)
    (Follows-map _ (Keeps at) _ _ (λ x y torn. Torn-keeps at _ _ x y (omega arith) torn) (c.write_at.ensures.crash honest1)) in
    let there = at_end D.moment D.images old last P (λ t later image le left. g.met.D.Disk.images_grow last t later image honest2 le left) second in
    then_sync D.moment D.images old last c.sync.new.self P second there (c.sync.ensures.time honest2) (c.sync.ensures.crash honest2)

if_ok : {T E P : Type 0} (r : Result T E) → P → OnOk r P
if_ok (Ok x) holds = holds
if_ok (Err e) holds = tt

pub returns-clause-written : goal.returns-clause-written
returns-clause-written g c =
    let D = g.D.Disk in
    let at = c.args.at in
    let payload = c.args.payload.now in
    let old = c.args.disk.now in
    let there = λ (honest : D.honest old).
    c.sync.ensures.seen
    ∙ c.in_ok-write_at.ensures.written (c.write_payload.ensures.honesty.1 honest)
    ∙ ap (λ (f : List ℕ). overwritten (at + 36 + length payload) (0 ∷ []) f) (c.in_ok-write_payload.ensures.written honest)
    ∙ record_closed at payload (D.seen old) (c.requires.place honest) in
    if_ok c.sync.result there
