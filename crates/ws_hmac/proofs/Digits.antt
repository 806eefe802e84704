-- Hexadecimal digits in either case: a text decodes to a value exactly where it is, in lower case, the value's digits.
use Rattle.std.proofs.Common.{arith, ◌≡◌, ◌<◌, ◌+◌, ◌*◌, ◌/◌, ◌%◌, ◌==◌, ◌&&◌, inl, inr, ℕ, suc, Bool, true, false, nat_lt, List, [], ◌∷◌, length, map, slice_index, bytes_eq, Option, Some, None, Result, Ok, Err, MatchResult, is_ok, refl, sym, ap, ◌∙◌}
use Rattle.std.proofs.lemmas.Bool.{agree_below_at, and_parts, cases_lt, eqb-true, false_from_ne_true, ltb-true}
use Rattle.std.proofs.lemmas.Bool.Decides.{nat_tests, same_from_decides, Decides-like}
use Rattle.std.proofs.lemmas.List.{get_or_past, length-map}
use Rattle.std.proofs.lemmas.Slice.Eq.{bytes_eq-Decides}
use Rattle.std.specs.Bool.{Decides}
use Rattle.std.specs.Char.{to_ascii_lowercase}
use Rattle.std.specs.Option.{option_map_or}
use Rattle.hex.specs.Hex.{IsBytes, decode_pairs, decode_sized, digit_or_error, encode_lower, encode_with, hex_digit_value, lower_digits, pair_value, value_at, ◌>>=◌}
use Rattle.hex.specs.declared.error.FromHexError.{FromHexError}
use Rattle.hex.proofs.HexLemmas.{IsDigits-lower_digits, decode_of-even, decode_sized-ok, decode_sized-twice, length-encode_with}
use Rattle.hex.proofs.Pairs.{cons_byte, decode_pairs-ok_pair}

-- a letter has the value of its lower case
value_in_lower_case : (c : ℕ) → hex_digit_value (to_ascii_lowercase c) ≡ hex_digit_value c
value_in_lower_case c = grind (arith, nat_tests)

-- what a digit of the table says of the letter whose lower case it is
digit_reads : (c v : ℕ) → v < 16 → to_ascii_lowercase c ≡ slice_index lower_digits v → hex_digit_value c ≡ Some v
digit_reads c v small is = sym (value_in_lower_case c) ∙ ap hex_digit_value is ∙ IsDigits-lower_digits v small

-- a text that is in lower case the digits of a value decodes to it
pub encoded_reads : (i : ℕ) (text value : List ℕ) → IsBytes value
    → map to_ascii_lowercase text ≡ encode_lower value → decode_pairs i text ≡ Ok value
unfolding encode_with decode_pairs
encoded_reads i [] [] bytes same = refl
encoded_reads i [] (x ∷ xs) bytes same = cc same
encoded_reads i (a ∷ []) [] bytes same = cc same
encoded_reads i (a ∷ []) (x ∷ xs) bytes same = cc same
encoded_reads i (a ∷ b ∷ text) [] bytes same = cc same
encoded_reads i (a ∷ b ∷ text) (x ∷ xs) bytes same =
    let fits : x < 256 = bytes 0 in
    let first : to_ascii_lowercase a ≡ slice_index lower_digits (x / 16) = cc same in
    let second : to_ascii_lowercase b ≡ slice_index lower_digits (x % 16) = cc same in
    let rest : map to_ascii_lowercase text ≡ encode_lower xs = cc same in
    let high = ap (digit_or_error a i) (digit_reads a (x / 16) (omega arith) first) in
    let low = ap (digit_or_error b (i + 1)) (digit_reads b (x % 16) (omega arith) second) in
    let pair : pair_value a b i ≡ Ok (x / 16 * 16 + x % 16) = rw (high, low) refl in
    let whole : x / 16 * 16 + x % 16 ≡ x = omega arith in
    decode_pairs-ok_pair i a b _ text pair
    ∙ ap (cons_byte (x / 16 * 16 + x % 16)) (encoded_reads (i + 2) text xs (λ k. bytes (suc k)) rest)
    ∙ ap (λ (v : ℕ). Ok (v ∷ xs)) whole

-- what an `Ok` of two steps says of each
bind_ok : {A B : Type 0} (r : Result A FromHexError) (f : A → Result B FromHexError) (y : B)
    → (r >>= f) ≡ Ok y → (x : A) × (r ≡ Ok x) × (f x ≡ Ok y)
bind_ok (Ok x) f y h = (x, refl, h)
bind_ok (Err e) f y h = cc h

digit_ok : (c i : ℕ) (o : Option ℕ) (v : ℕ) → digit_or_error c i o ≡ Ok v → o ≡ Some v
digit_ok c i (Some w) v h = cc h
digit_ok c i None v h = cc h

-- the table's digit at the value of a letter is the letter's lower case
abbrev is_read : ℕ → Bool
is_read c = option_map_or (λ v. nat_lt v 16 && (slice_index lower_digits v == to_ascii_lowercase c)) (hex_digit_value c) true

digit_in_lower_case : (c v : ℕ) → hex_digit_value c ≡ Some v → (v < 16) × (slice_index lower_digits v ≡ to_ascii_lowercase c)
digit_in_lower_case c v is =
    elim (cases_lt c 103) [
      | inl below ↦
          let test : (nat_lt v 16 && (slice_index lower_digits v == to_ascii_lowercase c)) ≡ true =
          rw is at (agree_below_at is_read (λ _. true) 103 c refl below) in
          let parts = and_parts _ _ test in
          (ltb-true v 16 parts.0, eqb-true _ _ parts.1)
      | inr above ↦
          let none : hex_digit_value c ≡ None = grind (arith, nat_tests) in
          cc none
    ]

-- a text that decodes is in lower case the digits of its value
pub reads_encoded : (i : ℕ) (text value : List ℕ) → decode_pairs i text ≡ Ok value
    → map to_ascii_lowercase text ≡ encode_lower value
unfolding encode_with decode_pairs
reads_encoded i [] value reads = let none : value ≡ [] = cc reads in rw none refl
reads_encoded i (a ∷ []) value reads = cc reads
reads_encoded i (a ∷ b ∷ text) value reads =
    let byte = bind_ok (pair_value a b i) _ value reads in
    let high = bind_ok (value_at a i) _ byte.0 byte.1 in
    let low = bind_ok (value_at b (i + 1)) _ byte.0 high.2 in
    let rest = bind_ok (decode_pairs (i + 2) text) _ value byte.2 in
    let first = digit_in_lower_case a high.0 (digit_ok a i _ high.0 high.1) in
    let second = digit_in_lower_case b low.0 (digit_ok b (i + 1) _ low.0 low.1) in
    let is_byte : high.0 * 16 + low.0 ≡ byte.0 = cc low.2 in
    let over : byte.0 / 16 ≡ high.0 = omega arith in
    let under : byte.0 % 16 ≡ low.0 = omega arith in
    let is_value : byte.0 ∷ rest.0 ≡ value = cc rest.2 in
    let ih = reads_encoded (i + 2) text rest.0 rest.1 in
    rw (← is_value, over, under, first.1, second.1, ih) refl

abbrev lowered_is : List ℕ → List ℕ → Bool
lowered_is text value = bytes_eq (map to_ascii_lowercase text) (encode_lower value)

lowered_decides : (text value : List ℕ) → Decides (lowered_is text value) (map to_ascii_lowercase text ≡ encode_lower value)
lowered_decides text value = bytes_eq-Decides (map to_ascii_lowercase text) (encode_lower value)

-- a text that is the value's digits decodes to it, with room for as many bytes
sized_reads : (text value : List ℕ) (n : ℕ) → n ≡ length value → IsBytes value
    → map to_ascii_lowercase text ≡ encode_lower value → decode_sized text n ≡ Ok value
sized_reads text value n room bytes same =
    let long : length text ≡ 2 * n = omega (arith, simp length-map at (ap length same), length-encode_with lower_digits value) in
    decode_sized-twice text n long ∙ decode_of-even text (omega arith) ∙ encoded_reads 0 text value bytes same

reads_pairs : (text found : List ℕ) (n : ℕ) → decode_sized text n ≡ Ok found → decode_pairs 0 text ≡ Ok found
reads_pairs text found n reads =
    let long = decode_sized-ok text n found reads in
    sym (decode_sized-twice text n long ∙ decode_of-even text (omega arith)) ∙ reads

-- decoding with room for the value's bytes and then comparing tells whether the text is the value's digits
pub decoded_is : (text value found : List ℕ) (n : ℕ) (r : Result Unit FromHexError) → n ≡ length value → IsBytes value
    → MatchResult (decode_sized text n) (λ bytes. (r ≡ Ok tt) × (found ≡ bytes)) (λ e. r ≡ Err e)
    → (is_ok r && bytes_eq found value) ≡ lowered_is text value
decoded_is text value found n r room bytes decoded = by (decode_sized text n) refl decoded
  where
    by : (d : Result (List ℕ) FromHexError) → decode_sized text n ≡ d
        → MatchResult d (λ bytes. (r ≡ Ok tt) × (found ≡ bytes)) (λ e. r ≡ Err e)
        → (is_ok r && bytes_eq found value) ≡ lowered_is text value
    by (Ok read) is h =
        let same : (is_ok r && bytes_eq found value) ≡ bytes_eq read value = rw (h.0, h.1) refl in
        same ∙ same_from_decides (bytes_eq read value) (lowered_is text value)
        (Decides-like (bytes_eq read value)
        (λ e. reads_encoded 0 text value (reads_pairs text value n (is ∙ ap Ok e)))
        (λ e. let reads = sized_reads text value n room bytes e in cc)
        (bytes_eq-Decides read value))
        (lowered_decides text value)
    by (Err e) is h =
        let refused : (is_ok r && bytes_eq found value) ≡ false = rw h refl in
        refused ∙ sym (false_from_ne_true (lowered_is text value) (λ t.
        let reads = sized_reads text value n room bytes ((lowered_decides text value).0 t) in
        cc))

-- ---- a signature's own digits

digit_is_lower : (d : ℕ) → to_ascii_lowercase (slice_index lower_digits d) ≡ slice_index lower_digits d
digit_is_lower d =
    elim (cases_lt d 16) [
      | inl below ↦
          eqb-true _ _ (agree_below_at (λ k. to_ascii_lowercase (slice_index lower_digits k) == slice_index lower_digits k)
          (λ _. true) 16 d refl below)
      | inr above ↦
          let none : slice_index lower_digits d ≡ 0 = get_or_past lower_digits d 0 above in
          rw none refl
    ]

encoded_is_lower : (value : List ℕ) → map to_ascii_lowercase (encode_lower value) ≡ encode_lower value
unfolding encode_with
encoded_is_lower [] = refl
encoded_is_lower (x ∷ xs) = rw (digit_is_lower (x / 16), digit_is_lower (x % 16), encoded_is_lower xs) refl

-- the digits of a value are its digits in lower case
pub lowered_is_encoded : (value : List ℕ) → lowered_is (encode_lower value) value ≡ true
lowered_is_encoded value = (lowered_decides (encode_lower value) value).1 (encoded_is_lower value)
