use Rattle.std.proofs.Common.{◌≡◌, ◌+◌, ℕ, List, length, ◌∙◌, ap, arith}
use Rattle.ws_disk.specs.Crash.{overwritten}
use Rattle.ws_journal.specs.Kept.{Keeps}
use Rattle.ws_journal.proofs.Files.{Keeps-refl, Keeps-trans, Torn-keeps}
use Rattle.ws_journal.proofs.Records.{record_written, reaches_head}
use Rattle.ws_journal.proofs.Moments.{wrote, then_wrote, Follows-map, OnOk-map}
use Rattle.ws_journal.proofs.record.write_payload.Goals as goal

pub write_at-requires-2 : goal.write_at-requires-2
write_at-requires-2 g c = λ honest1.
    let D = g.D.Disk in
    let honest = c.write_at.ensures.honesty.0 honest1 in
    omega (arith, reaches_head c.args.at c.args.payload.now c.record_head.result (D.seen c.args.disk.now) c.record_head.ensures (c.requires.place honest), ap length (c.in_ok-write_at.ensures.written honest))

pub returns-in_err-write_at-clause-any_moment : goal.returns-in_err-write_at-clause-any_moment
returns-in_err-write_at-clause-any_moment g c = λ honest.
    let D = g.D.Disk in
    let at = c.args.at in
    wrote D.moment D.images (Keeps at) (Keeps-refl at) c.args.disk.now c.write_at.new.self (c.write_at.ensures.time honest)
    (Follows-map _ (Keeps at) _ _ (λ x y torn. Torn-keeps at at _ x y (omega arith) torn) (c.write_at.ensures.crash honest))

pub returns-clause-any_moment : goal.returns-clause-any_moment
returns-clause-any_moment g c = λ honest.
    let D = g.D.Disk in
    let at = c.args.at in
    let old = c.args.disk.now in
    let mid = c.write_at.new.self in
    let honest1 = c.write_at.ensures.honesty.1 honest in
    let here = Follows-map _ (Keeps at) _ _ (λ x y torn. Torn-keeps at at _ x y (omega arith) torn) (c.write_at.ensures.crash honest) in
    then_wrote D.moment D.images (Keeps at) (Keeps-trans at) old mid c.write_at-2.new.self
    (wrote D.moment D.images (Keeps at) (Keeps-refl at) old mid (c.write_at.ensures.time honest) here)
    here (c.write_at-2.ensures.time honest1)
    (Follows-map _ (Keeps at) _ _ (λ x y torn. Torn-keeps at (at + 36) _ x y (omega arith) torn) (c.write_at-2.ensures.crash honest1))

pub returns-clause-written : goal.returns-clause-written
returns-clause-written g c =
    let D = g.D.Disk in
    let at = c.args.at in
    let payload = c.args.payload.now in
    let old = c.args.disk.now in
    let mid = c.write_at.new.self in
    let new = c.write_at-2.new.self in
    let head = c.record_head.result in
    let whole = λ (written : D.honest mid → D.seen new ≡ overwritten (at + 36) payload (D.seen mid)) (honest : D.honest old).
    written (c.write_at.ensures.honesty.1 honest)
    ∙ ap (λ (f : List ℕ). overwritten (at + 36) payload f) (c.in_ok-write_at.ensures.written honest)
    ∙ record_written at payload head (D.seen old) c.record_head.ensures (c.requires.place honest) in
    OnOk-map c.write_at-2.result whole c.write_at-2.ensures.written
