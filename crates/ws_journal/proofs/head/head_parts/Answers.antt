use Rattle.std.proofs.Common.{◌≡◌, ◌<◌, ℕ, List, ◌∷◌, ◌++◌, length, ap, sym, subst, ◌∙◌, arith, length-take}
use Rattle.std.specs.Int.{w64}
use Rattle.std.proofs.lemmas.List.{take-append-drop}
use Rattle.std.proofs.lemmas.Bool.Decides.{nat_tests}
use Rattle.ws_record.specs.Text.{number_text, NumberFits}
use Rattle.ws_record.specs.Reading.{Begins}
use Rattle.ws_record.specs.NumberLaws.{AreBytes, wide64, number-begins}
use Rattle.ws_journal.proofs.HeadParts.{AreBytes-behind}
use Rattle.ws_journal.proofs.head.head_parts.Goals as goal

pub returns-clause-some : goal.returns-clause-some
returns-clause-some c =
    let whole = c.in_ok-gate.ensures.cases in
    let first = c.in_ok-name.ensures.cases in
    let second = c.in_ok-generation.ensures.cases in
    let bytes : AreBytes c.args.bytes.now = λ i. omega (arith, c.type_inv.bytes i) in
    let parts : c.args.bytes.now ≡ c.in_ok-gate.gate.now ∷ c.in_ok-gate.rest.now = whole.0 in
    let numbers : AreBytes c.in_ok-name.rest.now = subst AreBytes (sym first.1) (AreBytes-behind 8 c.in_ok-gate.gate.now c.in_ok-gate.rest.now (subst AreBytes parts bytes)) in
    let begins : Begins (number_text w64) (NumberFits w64) c.in_ok-name.rest.now c.from_be_bytes.result c.in_ok-generation.rest.now = rw c.from_be_bytes.ensures (number-begins w64 wide64 c.in_ok-name.rest.now c.in_ok-generation.generation.now c.in_ok-generation.rest.now numbers (omega (arith, second.2)) second.0 second.1) in
    let named : c.in_ok-gate.rest.now ≡ c.in_ok-name.name.now ++ c.in_ok-name.rest.now = sym (take-append-drop 8 c.in_ok-gate.rest.now) ∙ (λ i. sym first.0 i ++ sym first.1 i) in
    let some : 0 < length c.in_ok-generation.rest.now = grind (arith, nat_tests) in
    record {
      rest = c.in_ok-generation.rest.now;
      some = some;
      is = parts ∙ ap (λ (l : List ℕ). c.in_ok-gate.gate.now ∷ l) named ∙ ap (λ (l : List ℕ). c.in_ok-gate.gate.now ∷ (c.in_ok-name.name.now ++ l)) begins.parts;
      eight = omega (arith, ap length first.0, length-take 8 c.in_ok-gate.rest.now, first.2);
      fits = begins.fit;
    }
