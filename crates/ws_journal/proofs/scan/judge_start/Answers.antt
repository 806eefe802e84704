use Rattle.std.proofs.Common.{◌≡◌, ℕ, ◌++◌, length, refl, sym, ◌∙◌, ap, subst, Some, None, arith, length-take, take-append-drop}
use Rattle.std.specs.Int.{w32}
use Rattle.ws_record.specs.Text.{number_text, NumberFits}
use Rattle.ws_record.specs.Reading.{Begins}
use Rattle.ws_record.specs.NumberLaws.{AreBytes}
use Rattle.ws_journal.specs.declared.store.Edition.{Edition}
use Rattle.ws_journal.specs.Device.{KeepsOne, StandsShort}
use Rattle.ws_journal.proofs.Starts.{number_there, short_digest, open_there}
use Rattle.ws_journal.proofs.scan.judge_start.Goals as goal

pub returns-in-First : goal.returns-in-First
returns-in-First c = λ left some is.
    let rest = c.in-Some.rest.now in
    let number = c.in-Some-split_first_chunk in
    let split = number.ensures.cases in
    let bytes : AreBytes c.args.bytes.now = λ i. omega (arith, c.type_inv.bytes i) in
    let begins = subst (λ (len : ℕ). Begins (number_text w32) (NumberFits w32) rest len number.rest.now) (sym c.from_be_bytes-len.ensures)
    (number_there c.in-Some.gate.now c.args.bytes.now rest number.number.now number.rest.now bytes c.in-Some.ensures.cases.0 split.0 split.1 split.2) in (
      _,
      open_there c.in-Some.gate.now rest c.args.bytes.now left is c.in-Some.ensures.cases.0 c.from_be_bytes-len.result number.rest.now begins c.args.edition None number.rest.now
          (omega arith) refl (subst (λ (e : Edition). KeepsOne e None) (sym c.in-First.is) tt),
    )

pub returns-in-Some-split_first_chunk-2 : goal.returns-in-Some-split_first_chunk-2
returns-in-Some-split_first_chunk-2 c = λ left some is.
    let rest = c.in-Some.rest.now in
    let number = c.in-Some-split_first_chunk in
    let split = number.ensures.cases in
    let bytes : AreBytes c.args.bytes.now = λ i. omega (arith, c.type_inv.bytes i) in
    let begins = subst (λ (len : ℕ). Begins (number_text w32) (NumberFits w32) rest len number.rest.now) (sym c.from_be_bytes-len.ensures)
    (number_there c.in-Some.gate.now c.args.bytes.now rest number.number.now number.rest.now bytes c.in-Some.ensures.cases.0 split.0 split.1 split.2) in
    let kept = c.in-Some-split_first_chunk-2.kept.now in
    let after = c.in-Some-split_first_chunk-2.field-0-1.now in
    let digest = c.in-Some-split_first_chunk-2.ensures.cases in
    let parts : number.rest.now ≡ kept ++ after = sym (take-append-drop 32 number.rest.now) ∙ (λ i. sym digest.0 i ++ sym digest.1 i) in
    let long : length kept ≡ 32 = omega (arith, ap length digest.0, length-take 32 number.rest.now, digest.2) in (
      _,
      open_there c.in-Some.gate.now rest c.args.bytes.now left is c.in-Some.ensures.cases.0 c.from_be_bytes-len.result number.rest.now begins c.args.edition (Some kept) after
          (omega arith) parts (subst (λ (e : Edition). KeepsOne e (Some kept)) (sym c.in-Second.is) long),
    )

pub returns-in-None : goal.returns-in-None
returns-in-None c = λ left some is.
    let rest = c.in-Some.rest.now in
    let number = c.in-Some-split_first_chunk in
    let split = number.ensures.cases in
    let bytes : AreBytes c.args.bytes.now = λ i. omega (arith, c.type_inv.bytes i) in
    let begins = subst (λ (len : ℕ). Begins (number_text w32) (NumberFits w32) rest len number.rest.now) (sym c.from_be_bytes-len.ensures)
    (number_there c.in-Some.gate.now c.args.bytes.now rest number.number.now number.rest.now bytes c.in-Some.ensures.cases.0 split.0 split.1 split.2) in
    subst (λ (e : Edition). StandsShort e left) (sym c.in-Second.is)
    (short_digest c.in-Some.gate.now rest c.args.bytes.now left is c.in-Some.ensures.cases.0 c.from_be_bytes-len.result number.rest.now begins (omega arith) c.in-None.ensures.cases)
