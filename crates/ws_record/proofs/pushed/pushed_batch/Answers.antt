use Rattle.std.proofs.Common.{◌≡◌, ℕ, ◌+◌, List, [], ◌∷◌, ◌++◌, length, take, refl, ap, ◌∙◌, append_assoc, arith}
use Rattle.std.specs.Int.{w16, w32, w64}
use Rattle.std.proofs.lemmas.List.{append-nil}
use Rattle.ws_model.specs.declared.event.How.{How}
use Rattle.ws_model.specs.declared.event.How.TheVariants.{Done, Gone, Missed}
use Rattle.ws_record.specs.Text.{number_text, how_text}
use Rattle.ws_record.specs.Batch.{batch_text, pushed_len}
use Rattle.ws_record.specs.NumberLaws.{wide16, length-number_text}
use Rattle.ws_record.proofs.pushed.pushed_batch.Goals as goal

regrouped : (n s t v l h : List ℕ) → (((((n ++ s) ++ t) ++ 11 ∷ []) ++ v) ++ l) ++ h ≡ n ++ ((s ++ (t ++ (11 ∷ (v ++ (l ++ (h ++ [])))))) ++ [])
regrouped n s t v l h = simp (append_assoc, append-nil)

length-how : (h : How) → 37 + length (how_text h) ≡ pushed_len h
length-how Done = refl
length-how Gone = refl
length-how (Missed code) = omega (arith, length-number_text w16 wide16 code)

pub returns-clause-text : goal.returns-clause-text
unfolding number_text batch_text
returns-clause-text c =
    let a = c.args in
    let n = number_text w32 1 in
    let s = number_text w64 a.serial in
    let t = number_text w64 a.t in
    let v = number_text w64 a.ver in
    let l = number_text w64 a.lease in
    let h = how_text a.how in
    let t1 : take c.put-at.result c.put-at.new.text ≡ n = c.put-at.ensures.text ∙ c.to_be_bytes.ensures in
    let t2 : take c.put-at-2.result c.put-at-2.new.text ≡ n ++ s = c.put-at-2.ensures.text ∙ (λ i. t1 i ++ c.to_be_bytes-2.ensures i) in
    let t3 : take c.put-at-3.result c.put-at-3.new.text ≡ (n ++ s) ++ t = c.put-at-3.ensures.text ∙ (λ i. t2 i ++ c.to_be_bytes-3.ensures i) in
    let t4 : take c.put-at-4.result c.put-at-4.new.text ≡ ((n ++ s) ++ t) ++ 11 ∷ [] = c.put-at-4.ensures.text ∙ (λ i. t3 i ++ 11 ∷ []) in
    let t5 : take c.put-at-5.result c.put-at-5.new.text ≡ (((n ++ s) ++ t) ++ 11 ∷ []) ++ v = c.put-at-5.ensures.text ∙ (λ i. t4 i ++ c.to_be_bytes-4.ensures i) in
    let t6 : take c.put-at-6.result c.put-at-6.new.text ≡ ((((n ++ s) ++ t) ++ 11 ∷ []) ++ v) ++ l = c.put-at-6.ensures.text ∙ (λ i. t5 i ++ c.to_be_bytes-5.ensures i) in
    c.put_how-at.ensures.text ∙ (λ i. t6 i ++ h) ∙ regrouped n s t v l h

pub returns-clause-len : goal.returns-clause-len
returns-clause-len c =
    omega (
      arith,
      c.put_how-at.ensures.place,
      c.put-at-6.ensures.place,
      c.put-at-5.ensures.place,
      c.put-at-4.ensures.place,
      c.put-at-3.ensures.place,
      c.put-at-2.ensures.place,
      c.put-at.ensures.place,
      ap length c.to_be_bytes.ensures,
      ap length c.to_be_bytes-2.ensures,
      ap length c.to_be_bytes-3.ensures,
      ap length c.to_be_bytes-4.ensures,
      ap length c.to_be_bytes-5.ensures,
      length-how c.args.how,
    )
