use Rattle.std.proofs.Common.{◌⊎◌, ◌∷◌, ℕ, List, Some, None, inl, inr, refl, sym, arith, length-append}
use Rattle.ws_journal.specs.declared.store.Edition.TheVariants.{Second}
use Rattle.ws_journal.specs.Text.{record_text}
use Rattle.ws_journal.specs.Kept.{IsWithOrWithout, Each, Reaches}
use Rattle.ws_journal.specs.Stands.{IsLeft}
use Rattle.ws_journal.proofs.Moments.{weaker, then_run}
use Rattle.ws_journal.proofs.Records.{length-record}
use Rattle.ws_journal.proofs.journal.Journal.append_to.Goals as goal

pub returns-in_err-close_doubt-clause-any_moment : goal.returns-in_err-close_doubt-clause-any_moment
returns-in_err-close_doubt-clause-any_moment g c = λ front doubt honest counts.
    let D = g.D.Disk in
    weaker D.moment D.images c.args.disk.now c.close_doubt.new.disk (IsLeft front doubt) _ (λ image left. inr left) (c.close_doubt.ensures.any_moment front doubt honest counts)

pub append_record-requires-clause-place : goal.append_record-requires-clause-place
append_record-requires-clause-place g c = c.in_ok-close_doubt.ensures.place

pub returns-in-Ok-clause-any_moment : goal.returns-in-Ok-clause-any_moment
returns-in-Ok-clause-any_moment g c = λ front doubt honest counts.
    let D = g.D.Disk in
    let text = record_text Second c.args.payload.now in
    let old = c.args.disk.now in
    let mid = c.close_doubt.new.disk in
    let new = c.append_record.new.disk in
    let shut = c.in_ok-close_doubt.ensures.closes front doubt honest counts in
    let honest1 = c.close_doubt.ensures.honesty.1 honest in
    let P = λ (image : List ℕ). IsWithOrWithout front text image ⊎ IsLeft front doubt image in
    then_run D.moment D.images old mid new P
    (weaker D.moment D.images old mid (IsLeft front doubt) P (λ image left. inr left) (c.close_doubt.ensures.any_moment front doubt honest counts))
    (weaker D.moment D.images mid new (IsWithOrWithout front text) P (λ image either. inl either) (c.append_record.ensures.any_moment front honest1 (sym shut.tail) shut.each))

pub returns-in-Ok-clause-closes_first : goal.returns-in-Ok-clause-closes_first
returns-in-Ok-clause-closes_first g c = λ front doubt honest counts.
    let D = g.D.Disk in
    let shut = c.in_ok-close_doubt.ensures.closes front doubt honest counts in
    let first = c.close_doubt.ensures.any_moment front doubt honest counts in
    let second = c.append_record.ensures.any_moment front (c.close_doubt.ensures.honesty.1 honest) (sym shut.tail) shut.each in
    inl (record { settled = D.moment c.close_doubt.new.disk; begun = first.later; within = second.later; each = second.each })

pub returns-in-Ok-clause-appends : goal.returns-in-Ok-clause-appends
returns-in-Ok-clause-appends g c = λ front doubt honest counts.
    let payload = c.args.payload.now in
    let shut = c.in_ok-close_doubt.ensures.closes front doubt honest counts in
    let honest1 = c.close_doubt.ensures.honesty.1 honest in
    let long = length-append front (1 ∷ record_text Second payload) in
    record {
      tail = omega (arith, long, length-record payload, shut.tail);
      each = c.in-Ok.ensures.acknowledged front honest1 (sym shut.tail) shut.each;
      known = shut.known;
    }

pub returns-in-Err-Before-clause-any_moment : goal.returns-in-Err-Before-clause-any_moment
returns-in-Err-Before-clause-any_moment g c = λ front doubt honest counts.
    let D = g.D.Disk in
    let text = record_text Second c.args.payload.now in
    let old = c.args.disk.now in
    let mid = c.close_doubt.new.disk in
    let new = c.append_record.new.disk in
    let shut = c.in_ok-close_doubt.ensures.closes front doubt honest counts in
    let honest1 = c.close_doubt.ensures.honesty.1 honest in
    let P = λ (image : List ℕ). IsWithOrWithout front text image ⊎ IsLeft front doubt image in
    then_run D.moment D.images old mid new P
    (weaker D.moment D.images old mid (IsLeft front doubt) P (λ image left. inr left) (c.close_doubt.ensures.any_moment front doubt honest counts))
    (weaker D.moment D.images mid new (IsWithOrWithout front text) P (λ image either. inl either) (c.append_record.ensures.any_moment front honest1 (sym shut.tail) shut.each))

pub returns-in-Err-Before-clause-closes_first : goal.returns-in-Err-Before-clause-closes_first
returns-in-Err-Before-clause-closes_first g c = λ front doubt honest counts.
    let D = g.D.Disk in
    let shut = c.in_ok-close_doubt.ensures.closes front doubt honest counts in
    let first = c.close_doubt.ensures.any_moment front doubt honest counts in
    let second = c.append_record.ensures.any_moment front (c.close_doubt.ensures.honesty.1 honest) (sym shut.tail) shut.each in
    inl (record { settled = D.moment c.close_doubt.new.disk; begun = first.later; within = second.later; each = second.each })

pub returns-in-Err-Before-clause-appends : goal.returns-in-Err-Before-clause-appends
returns-in-Err-Before-clause-appends g c = λ front doubt honest counts.
    let shut = c.in_ok-close_doubt.ensures.closes front doubt honest counts in
    let honest1 = c.close_doubt.ensures.honesty.1 honest in (
      None,
      inr (inl refl),
      record {
        tail = shut.tail;
        each = c.in-Err-Before.ensures.before front honest1 (sym shut.tail) shut.each (cc c.in-Err-Before.field-0-is);
        known = shut.known;
      },
    )

pub returns-in-Err-InDoubt-clause-any_moment : goal.returns-in-Err-InDoubt-clause-any_moment
returns-in-Err-InDoubt-clause-any_moment g c = λ front doubt honest counts.
    let D = g.D.Disk in
    let text = record_text Second c.args.payload.now in
    let old = c.args.disk.now in
    let mid = c.close_doubt.new.disk in
    let new = c.append_record.new.disk in
    let shut = c.in_ok-close_doubt.ensures.closes front doubt honest counts in
    let honest1 = c.close_doubt.ensures.honesty.1 honest in
    let P = λ (image : List ℕ). IsWithOrWithout front text image ⊎ IsLeft front doubt image in
    then_run D.moment D.images old mid new P
    (weaker D.moment D.images old mid (IsLeft front doubt) P (λ image left. inr left) (c.close_doubt.ensures.any_moment front doubt honest counts))
    (weaker D.moment D.images mid new (IsWithOrWithout front text) P (λ image either. inl either) (c.append_record.ensures.any_moment front honest1 (sym shut.tail) shut.each))

pub returns-in-Err-InDoubt-clause-closes_first : goal.returns-in-Err-InDoubt-clause-closes_first
returns-in-Err-InDoubt-clause-closes_first g c = λ front doubt honest counts.
    let D = g.D.Disk in
    let shut = c.in_ok-close_doubt.ensures.closes front doubt honest counts in
    let first = c.close_doubt.ensures.any_moment front doubt honest counts in
    let second = c.append_record.ensures.any_moment front (c.close_doubt.ensures.honesty.1 honest) (sym shut.tail) shut.each in
    inl (record { settled = D.moment c.close_doubt.new.disk; begun = first.later; within = second.later; each = second.each })

pub returns-in-Err-InDoubt-clause-appends : goal.returns-in-Err-InDoubt-clause-appends
returns-in-Err-InDoubt-clause-appends g c = λ front doubt honest counts.
    let shut = c.in_ok-close_doubt.ensures.closes front doubt honest counts in
    let honest1 = c.close_doubt.ensures.honesty.1 honest in (
      Some c.args.payload.now,
      inr (inr refl),
      record {
        tail = shut.tail;
        each = c.in-Err-InDoubt.ensures.in_doubt front honest1 (sym shut.tail) shut.each (cc c.in-Err-InDoubt.field-0-is);
        known = refl;
      },
    )

pub returns-in_err-close_doubt-clause-reaches : goal.returns-in_err-close_doubt-clause-reaches
returns-in_err-close_doubt-clause-reaches g c = λ honest each image now. omega (arith, c.close_doubt.ensures.keeps honest each image now, c.close_doubt.ensures.tail)

pub returns-in-Ok-clause-reaches : goal.returns-in-Ok-clause-reaches
returns-in-Ok-clause-reaches g c = λ honest each image now. omega (arith, c.in-Ok.ensures.reaches (c.close_doubt.ensures.honesty.1 honest) image now)

pub returns-in-Err-Before-clause-reaches : goal.returns-in-Err-Before-clause-reaches
returns-in-Err-Before-clause-reaches g c = λ honest each.
    let D = g.D.Disk in
    let there : Each (D.images c.close_doubt.new.disk (D.moment c.close_doubt.new.disk)) (Reaches c.close_doubt.new.self.tail) =
    λ image now. omega (arith, c.close_doubt.ensures.keeps honest each image now, c.close_doubt.ensures.tail) in
    c.append_record.ensures.keeps (c.close_doubt.ensures.honesty.1 honest) there

pub returns-in-Err-InDoubt-clause-reaches : goal.returns-in-Err-InDoubt-clause-reaches
returns-in-Err-InDoubt-clause-reaches g c = λ honest each.
    let D = g.D.Disk in
    let there : Each (D.images c.close_doubt.new.disk (D.moment c.close_doubt.new.disk)) (Reaches c.close_doubt.new.self.tail) =
    λ image now. omega (arith, c.close_doubt.ensures.keeps honest each image now, c.close_doubt.ensures.tail) in
    c.append_record.ensures.keeps (c.close_doubt.ensures.honesty.1 honest) there
