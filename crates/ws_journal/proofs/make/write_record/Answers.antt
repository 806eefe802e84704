use Rattle.std.proofs.Common.{◌≡◌, ◌+◌, ℕ, List, ◌∙◌, ap, arith}
use Rattle.ws_disk.specs.Crash.{overwritten}
use Rattle.ws_journal.specs.declared.store.Edition.TheVariants.{Second}
use Rattle.ws_journal.specs.Text.{record_text}
use Rattle.ws_journal.specs.Kept.{Keeps}
use Rattle.ws_journal.proofs.Files.{Keeps-refl, Keeps-trans, Torn-keeps}
use Rattle.ws_journal.proofs.Moments.{wrote, Follows-map, OnOk-map}
use Rattle.ws_journal.proofs.Writing.{then_steps, behind, record_opened}
use Rattle.ws_journal.proofs.make.write_record.Goals as goal

pub returns-in_err-write_at-clause-any_moment : goal.returns-in_err-write_at-clause-any_moment
returns-in_err-write_at-clause-any_moment g c = λ honest.
    let D = g.D.Disk in
    let at = c.args.at in
    wrote D.moment D.images (Keeps at) (Keeps-refl at) c.args.disk.now c.write_at.new.self (c.write_at.ensures.time honest)
    (Follows-map _ (Keeps at) _ _ (λ x y torn. Torn-keeps at at _ x y (omega arith) torn) (c.write_at.ensures.crash honest))

pub returns-clause-any_moment : goal.returns-clause-any_moment
returns-clause-any_moment g c = λ honest.
    let D = g.D.Disk in
    let at = c.args.at in
    let old = c.args.disk.now in
    let mid = c.write_at.new.self in
    let new = c.write_payload.new.disk in
    let honest1 = c.write_at.ensures.honesty.1 honest in
    let here = Follows-map _ (Keeps at) _ _ (λ x y torn. Torn-keeps at at _ x y (omega arith) torn) (c.write_at.ensures.crash honest) in
    then_steps D.moment D.images (Keeps at) (Keeps-trans at) old mid new
    (wrote D.moment D.images (Keeps at) (Keeps-refl at) old mid (c.write_at.ensures.time honest) here) here
    (behind D.moment D.images at (at + 1) (omega arith) mid new (c.write_payload.ensures.any_moment honest1))

pub returns-clause-written : goal.returns-clause-written
returns-clause-written g c =
    let D = g.D.Disk in
    let at = c.args.at in
    let text = record_text Second c.args.payload.now in
    let old = c.args.disk.now in
    let mid = c.write_at.new.self in
    let whole = λ (written : D.honest mid → D.seen c.write_payload.new.disk ≡ overwritten (at + 1) text (D.seen mid)) (honest : D.honest old).
    written (c.write_at.ensures.honesty.1 honest)
    ∙ ap (λ (f : List ℕ). overwritten (at + 1) text f) (c.in_ok-write_at.ensures.written honest)
    ∙ record_opened at c.args.payload.now (D.seen old) (c.requires.place honest) in
    OnOk-map c.write_payload.result whole c.write_payload.ensures.written
