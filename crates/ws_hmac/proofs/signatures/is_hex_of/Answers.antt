use Rattle.std.proofs.Common.{arith, ◌≡◌, ◌≤◌, ◌&&◌, ℕ, List, length, bytes_eq, take, replicate, sym, ap, ◌∙◌}
use Rattle.std.proofs.lemmas.List.{length-replicate, length-take-le}
use Rattle.ws_hmac.proofs.Digits.{decoded_is}
use Rattle.ws_hmac.proofs.signatures.is_hex_of.Goals as goal

-- the part of the buffer that is written has the value's length
room : (value : List ℕ) → length value ≤ 64 → length {A = ℕ} (take (length value) (replicate 64 0)) ≡ length value
room value fits = length-take-le (length value) (replicate 64 0) (omega (arith, length-replicate {A = ℕ} 64 0))

pub returns-then-is_ok : goal.returns-then-is_ok
returns-then-is_ok c =
    let found = c.decode_to_slice.new.out in
    let value = c.args.value.now in
    c.is_same.ensures
    ∙ ap (λ ok. ok && bytes_eq found value) (sym c.if-is_ok.true ∙ c.is_ok.ensures.value)
    ∙ decoded_is c.args.text.now value found _ c.decode_to_slice.result (room value c.requires)
    (λ i. omega (arith, c.type_inv.value i)) c.decode_to_slice.ensures.value

pub returns-else-is_ok : goal.returns-else-is_ok
returns-else-is_ok c =
    let found = c.decode_to_slice.new.out in
    let value = c.args.value.now in
    c.if-is_ok.false
    ∙ ap (λ ok. ok && bytes_eq found value) (sym c.if-is_ok.false ∙ c.is_ok.ensures.value)
    ∙ decoded_is c.args.text.now value found _ c.decode_to_slice.result (room value c.requires)
    (λ i. omega (arith, c.type_inv.value i)) c.decode_to_slice.ensures.value
