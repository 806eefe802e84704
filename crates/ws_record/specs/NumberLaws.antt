-- Numbers as bytes: read where there are enough of them, and never two numbers of one text.
use Rattle.std.proofs.Common.{◌≡◌, ℕ, ◌<◌, ◌≤◌, List, length, get_or, take, drop, refl, sym, ap, ◌∙◌, arith, inl, inr}
use Rattle.std.specs.Int.{Width, w16, w32, w64, byte_len, from_be_bytes, to_be_bytes}
use Rattle.std.proofs.lemmas.Bool.{cases_lt}
use Rattle.std.proofs.lemmas.List.{take_at, drop_at, take-append-drop, length-append, length-take, get_or-take, get_or_past}
use Rattle.std.proofs.lemmas.Nat.{be_bytes_2, be_bytes_4, be_bytes_8, from_be_bytes-to_be_bytes_2, from_be_bytes-to_be_bytes_4, from_be_bytes-to_be_bytes_8}
use Rattle.ws_record.specs.Text.{number_text, NumberFits}
use Rattle.ws_record.specs.Reading.{Begins, Lacks, Apart}

-- each element is a byte
abbrev pub AreBytes : List ℕ → Type 0
AreBytes bytes = (i : ℕ) → get_or bytes i 0 < 256

AreBytes-take : (n : ℕ) (bytes : List ℕ) → AreBytes bytes → AreBytes (take n bytes)
AreBytes-take n bytes h i =
    elim (cases_lt i n) [
      | inl lt ↦ rw (get_or-take n bytes i 0 lt) (h i)
      | inr le ↦ rw (get_or_past (take n bytes) i 0 (omega (arith, length-take n bytes))) (omega arith)
    ]

-- what holds of a width's bytes
pub record IsWide (w : Width) : Type 0 where
  pub len : (n : ℕ) → length (to_be_bytes w n) ≡ byte_len w
  pub back : (bytes : List ℕ) → length bytes ≡ byte_len w → AreBytes bytes → to_be_bytes w (from_be_bytes w bytes) ≡ bytes
  pub again : (n : ℕ) → NumberFits w n → from_be_bytes w (to_be_bytes w n) ≡ n
  pub below : (bytes : List ℕ) → AreBytes bytes → NumberFits w (from_be_bytes w bytes)

pub wide16 : IsWide w16
wide16 = record {
  len = λ n. refl;
  back = λ bytes len fits. be_bytes_2 bytes _ len fits refl;
  again = λ n lt. from_be_bytes-to_be_bytes_2 n lt;
  below = λ bytes fits. omega (arith, fits 0, fits 1);
}

pub wide32 : IsWide w32
wide32 = record {
  len = λ n. refl;
  back = λ bytes len fits. be_bytes_4 bytes _ len fits refl;
  again = λ n lt. from_be_bytes-to_be_bytes_4 n lt;
  below = λ bytes fits. omega (arith, fits 0, fits 1, fits 2, fits 3);
}

pub wide64 : IsWide w64
wide64 = record {
  len = λ n. refl;
  back = λ bytes len fits. be_bytes_8 bytes _ len fits refl;
  again = λ n lt. from_be_bytes-to_be_bytes_8 n lt;
  below = λ bytes fits. omega (arith, fits 0, fits 1, fits 2, fits 3, fits 4, fits 5, fits 6, fits 7);
}

pub length-number_text : (w : Width) → IsWide w → (n : ℕ) → length (number_text w n) ≡ byte_len w
unfolding number_text
length-number_text w wide n = wide.len n

pub number-apart : (w : Width) → IsWide w → Apart (number_text w) (NumberFits w)
unfolding number_text
number-apart w wide m n r s m_fits n_fits e =
    let heads : to_be_bytes w m ≡ to_be_bytes w n =
    sym (take_at (to_be_bytes w m) r (byte_len w) (wide.len m)) ∙ ap (take (byte_len w)) e ∙ take_at (to_be_bytes w n) s (byte_len w) (wide.len n) in
    let tails : r ≡ s =
    sym (drop_at (to_be_bytes w m) r (byte_len w) (wide.len m)) ∙ ap (drop (byte_len w)) e ∙ drop_at (to_be_bytes w n) s (byte_len w) (wide.len n) in
    (sym (wide.again m m_fits) ∙ ap (from_be_bytes w) heads ∙ wide.again n n_fits, tails)

-- where there are too few bytes
pub number-lacks : (w : Width) → IsWide w → (bytes : List ℕ) → length bytes < byte_len w → Lacks (number_text w) (NumberFits w) bytes
unfolding number_text
number-lacks w wide bytes short n rest fits e =
    omega (arith, short, ap length e, length-append (to_be_bytes w n) rest, wide.len n)

-- where there are enough
pub number-begins : (w : Width) → IsWide w → (bytes front rest : List ℕ) → AreBytes bytes → byte_len w ≤ length bytes
    → front ≡ take (byte_len w) bytes → rest ≡ drop (byte_len w) bytes → Begins (number_text w) (NumberFits w) bytes (from_be_bytes w front) rest
unfolding number_text
number-begins w wide bytes front rest fits long front_is rest_is =
    let len : length (take (byte_len w) bytes) ≡ byte_len w = omega (arith, length-take (byte_len w) bytes) in
    let bytes_fit = AreBytes-take (byte_len w) bytes fits in
    rw (front_is, rest_is) (record {
      fit = wide.below (take (byte_len w) bytes) bytes_fit;
      parts = rw (wide.back (take (byte_len w) bytes) len bytes_fit) (sym (take-append-drop (byte_len w) bytes));
    })
