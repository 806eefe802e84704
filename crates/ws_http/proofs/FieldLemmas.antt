-- One field more, in the walks over the fields of a head.
use Rattle.std.proofs.Common.{◌≡◌, ℕ, ◌+◌, ◌*◌, ◌^◌, ◌<◌, ◌≤◌, Bool, false, cond, List, length, get_or, drop, map, ap, ◌∙◌, arith, pow-add, Some}
use Rattle.std.proofs.Math.Nat.{pow-le-pow_right}
use Rattle.std.proofs.lemmas.List.{at_drop_more}
use Rattle.httparse.specs.declared.spans.HeaderSpan.{HeaderSpan}
use Rattle.httparse.specs.Spans.{header_bytes, span_bytes}
use Rattle.ws_http.specs.Fields.{is_named, is_other_value, how_many, first_value, all_are}

module _ (buf name : List ℕ) (hs : List HeaderSpan) (i : ℕ) (d : HeaderSpan) (inside : i < length hs) where
  pub one_more : (b : Bool) → is_named name (header_bytes buf (get_or hs i d)) ≡ b
      → how_many name (map (header_bytes buf) (drop i hs))
      ≡ cond b (how_many name (map (header_bytes buf) (drop (i + 1) hs)) + 1) (how_many name (map (header_bytes buf) (drop (i + 1) hs)))
  one_more b e =
      at_drop_more (λ xs. how_many name (map (header_bytes buf) xs)) hs i d inside
      ∙ ap (λ t. cond t (how_many name (map (header_bytes buf) (drop (i + 1) hs)) + 1) (how_many name (map (header_bytes buf) (drop (i + 1) hs)))) e

  pub first_here : (b : Bool) → is_named name (header_bytes buf (get_or hs i d)) ≡ b
      → first_value name (map (header_bytes buf) (drop i hs))
      ≡ cond b (Some (span_bytes buf (get_or hs i d).value)) (first_value name (map (header_bytes buf) (drop (i + 1) hs)))
  first_here b e =
      at_drop_more (λ xs. first_value name (map (header_bytes buf) xs)) hs i d inside
      ∙ ap (λ t. cond t (Some (span_bytes buf (get_or hs i d).value)) (first_value name (map (header_bytes buf) (drop (i + 1) hs)))) e

  pub all_here : (value : List ℕ) (b : Bool) → is_other_value name value (header_bytes buf (get_or hs i d)) ≡ b
      → all_are name value (map (header_bytes buf) (drop i hs))
      ≡ cond b false (all_are name value (map (header_bytes buf) (drop (i + 1) hs)))
  all_here value b e =
      at_drop_more (λ xs. all_are name value (map (header_bytes buf) xs)) hs i d inside
      ∙ ap (λ t. cond t false (all_are name value (map (header_bytes buf) (drop (i + 1) hs)))) e

-- one more digit stays below the next power
pub digit_more : (number digit at : ℕ) → number < 10 ^ at → digit < 10 → number * 10 + digit < 10 ^ (at + 1)
digit_more number digit at below small = omega (arith, pow-add 10 at 1)

pub below_top : (at : ℕ) → at < 18 → 10 ^ (at + 1) ≤ 10 ^ 18
below_top at h = pow-le-pow_right {n = 10} (omega arith) {j = 18} (omega arith)
