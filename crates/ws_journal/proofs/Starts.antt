-- What the bytes at a record's gate say.
use Rattle.std.proofs.Common.{◌≡◌, ◌≢◌, inl, inr, ℕ, ◌+◌, ◌<◌, ◌≤◌, List, ◌∷◌, ◌++◌, length, take, drop, refl, sym, ◌∙◌, ap, subst, arith, append_assoc, length-append, length-take, take-append-drop, Option, Some, None}
use Rattle.std.specs.Int.{w32, from_be_bytes}
use Rattle.std.proofs.lemmas.List.{take_all, take_at, drop_at, drop-drop}
use Rattle.ws_record.specs.Text.{number_text, NumberFits}
use Rattle.ws_record.specs.Reading.{Begins}
use Rattle.ws_journal.specs.declared.store.Edition.{Edition}
use Rattle.ws_journal.specs.declared.store.Edition.TheVariants.{First, Second}
use Rattle.ws_journal.specs.Image.{digest_len}
use Rattle.ws_journal.specs.Device.{kept_text, KeepsOne, StandsShort, StandsShut, StandsOpen}
use Rattle.ws_record.specs.NumberLaws.{AreBytes, wide32, number-begins}
use Rattle.ws_journal.proofs.Texts.{length-number}
use Rattle.ws_journal.proofs.HeadParts.{AreBytes-behind}

-- fewer bytes than were asked for are all
pub all_there : (n : ℕ) (left bytes : List ℕ) → take n left ≡ bytes → length bytes < n → left ≡ bytes
all_there n left bytes is short = sym (take_all n left (omega (arith, ap length is, length-take n left))) ∙ is

pub length-kept : (edition : Edition) (kept : Option (List ℕ)) → KeepsOne edition kept → length (kept_text kept) ≡ digest_len edition
length-kept First None keeps = refl
length-kept First (Some digest) keeps = absurd keeps
length-kept Second None keeps = absurd keeps
length-kept Second (Some digest) keeps = keeps

-- the number behind a gate
pub number_there : (gate : ℕ) (bytes rest number behind : List ℕ) → AreBytes bytes → bytes ≡ gate ∷ rest → number ≡ take 4 rest → behind ≡ drop 4 rest → length behind + 4 ≡ length rest
    → Begins (number_text w32) (NumberFits w32) rest (from_be_bytes w32 number) behind
number_there gate bytes rest number behind are parts front back long =
    number-begins w32 wide32 rest number behind (AreBytes-behind 0 gate rest (subst AreBytes parts are)) (omega (arith, long)) front back

module _ (gate : ℕ) (rest bytes left : List ℕ) (is : take 37 left ≡ bytes) (parts : bytes ≡ gate ∷ rest) where
  abbrev more : List ℕ
  more = drop 37 left

  whole : left ≡ gate ∷ (rest ++ more)
  whole = sym (take-append-drop 37 left) ∙ ap (λ (l : List ℕ). l ++ more) (is ∙ parts)

  pub shut_there : gate ≢ 1 → StandsShut left
  shut_there shut = (gate, rest ++ more, whole, shut)

  -- the device ends within the length
  pub short_number : (edition : Edition) → gate ≡ 1 → length rest < 4 → StandsShort edition left
  short_number edition is_open short =
      let all : left ≡ bytes = all_there 37 left bytes is (omega (arith, ap length parts, short)) in
      (rest, all ∙ parts ∙ ap (λ (g : ℕ). g ∷ rest) is_open, inl short)

  module _ (len : ℕ) (behind : List ℕ) (begins : Begins (number_text w32) (NumberFits w32) rest len behind) where
    -- the device ends within the digest
    pub short_digest : gate ≡ 1 → length behind < 32 → StandsShort Second left
    short_digest is_open short =
        let number = number_text w32 len in
        let four = length-number len in
        let long : length rest ≡ 4 + length behind = omega (arith, ap length begins.parts, length-append number behind, four) in
        let all : left ≡ bytes = all_there 37 left bytes is (omega (arith, ap length parts, long, short)) in
        let front : take 4 rest ≡ number = ap (take 4) begins.parts ∙ take_at number behind 4 four in
        (rest, all ∙ parts ∙ ap (λ (g : ℕ). g ∷ rest) is_open, inr (len, begins.fit, front, omega (arith, long, short)))

    -- an open record's gate, length and digest
    pub open_there : (edition : Edition) (kept : Option (List ℕ)) (after : List ℕ) → gate ≡ 1 → behind ≡ kept_text kept ++ after → KeepsOne edition kept
        → StandsOpen edition len kept (after ++ more) left
    open_there edition kept after is_open digest long =
        let number = number_text w32 len in
        let text = kept_text kept in record {
          is = whole ∙ (λ i. is_open i ∷ (begins.parts i ++ more))
              ∙ ap (λ (l : List ℕ). 1 ∷ ((number ++ l) ++ more)) digest
              ∙ ap (λ (l : List ℕ). 1 ∷ l) (append_assoc number (text ++ after) more ∙ ap (λ (l : List ℕ). number ++ l) (append_assoc text after more));
          short = begins.fit;
          digest = long;
        }

module _ (edition : Edition) (len : ℕ) (kept : Option (List ℕ)) (after left : List ℕ) (stands : StandsOpen edition len kept after left) where
  abbrev before : List ℕ
  before = 1 ∷ (number_text w32 len ++ kept_text kept)

  split : left ≡ before ++ after
  split = stands.is ∙ ap (λ (l : List ℕ). 1 ∷ l) (sym (append_assoc (number_text w32 len) (kept_text kept) after))

  length-before : length before ≡ 5 + digest_len edition
  length-before = omega (arith, length-append (number_text w32 len) (kept_text kept), length-number len, length-kept edition kept stands.digest)

  long : length left ≡ 5 + digest_len edition + length after
  long = omega (arith, ap length split, length-append before after, length-before)

  -- the device ends within the payload or before the next gate
  pub short_payload : length left ≤ 5 + digest_len edition + len → StandsShort edition left
  short_payload short =
      let number = number_text w32 len in
      let behind = number ++ (kept_text kept ++ after) in
      let same : length left ≡ 1 + length behind = omega (arith, ap length stands.is) in
      (behind, stands.is, inr (len, stands.short, take_at number (kept_text kept ++ after) 4 (length-number len), omega (arith, same, short)))

  -- a whole payload, and what stands behind it
  pub whole_payload : (at : ℕ) (file payload : List ℕ) → left ≡ drop at file → payload ≡ take len (drop (at + (5 + digest_len edition)) file) → 5 + digest_len edition + len < length left
      → (length payload ≡ len) × StandsOpen edition (length payload) kept (payload ++ drop (at + (5 + digest_len edition) + len) file) left
  whole_payload at file payload is read within =
      let place = at + (5 + digest_len edition) in
      let there : drop place file ≡ after =
      sym (drop-drop (5 + digest_len edition) at file) ∙ ap (drop (5 + digest_len edition)) (sym is ∙ split) ∙ drop_at before after (5 + digest_len edition) length-before in
      let count : length payload ≡ len = omega (arith, ap length read, ap length there, length-take len (drop place file), long, within) in
      let parts : after ≡ payload ++ drop (place + len) file =
      sym there ∙ sym (take-append-drop len (drop place file)) ∙ (λ i. sym read i ++ drop-drop len place file i) in (
        count,
        record {
          is = stands.is ∙ (λ i. 1 ∷ (number_text w32 (sym count i) ++ (kept_text kept ++ parts i)));
          short = let few = stands.short in omega (arith, count);
          digest = stands.digest;
        },
      )
