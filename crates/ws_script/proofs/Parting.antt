-- Bytes that a text lacks, and where its words part.
use Rattle.std.proofs.Common.{◌≡◌, ◌≢◌, ℕ, zero, suc, ◌+◌, ◌<◌, ◌≤◌, Bool, true, false, not, ◌&&◌, ◌||◌, ◌==◌, cond, List, [], ◌∷◌, ◌++◌, length, take, drop, get_or, refl, sym, ap, ◌∙◌, subst, Some, None, Result, IsErr, position, take_all, ◌-◌, arith}
use Rattle.std.specs.List.{position_or_len}
use Rattle.std.proofs.lemmas.Bool.Decides.{nat_tests}
use Rattle.std.proofs.lemmas.List.{take-append-drop, drop_more, length-drop}
use Rattle.std.proofs.lemmas.List.Quantifiers.{position-Some}
use Rattle.ws_target.specs.declared.fault.TargetFault.{TargetFault}
use Rattle.ws_target.specs.Keys.{key_or_fault}
use Rattle.ws_script.specs.declared.words.Word.{Word}
use Rattle.ws_script.specs.Bytes.{Lacks, has_byte, is_word}
use Rattle.ws_script.specs.Script.{IsWord}

neither : (a b : Bool) → (a || b) ≡ false → (a ≡ false) × (b ≡ false)
neither false b e = (refl, e)
neither true b e = absurd (cc)

none_of : (a b c : Bool) → (not a && not b && not c) ≡ true → (a ≡ false) × (b ≡ false) × (c ≡ false)
none_of false false false e = (refl, refl, refl)
none_of false false true e = absurd (cc)
none_of false true c e = absurd (cc)
none_of true b c e = absurd (cc)

lacks_by_test : (byte : ℕ) (text : List ℕ) → has_byte byte text ≡ false → Lacks byte text
lacks_by_test byte [] e = tt
lacks_by_test byte (b ∷ text) e =
    let both = neither (b == byte) (has_byte byte text) e in
    (both.0, lacks_by_test byte text both.1)

pub word_lacks_space : (text : List ℕ) → is_word text ≡ true → Lacks 32 text
word_lacks_space text e = lacks_by_test 32 text (none_of (length text == 0) (has_byte 32 text) (has_byte 10 text) e).1

pub word_one_line : (text : List ℕ) → is_word text ≡ true → Lacks 10 text
word_one_line text e = lacks_by_test 10 text (none_of (length text == 0) (has_byte 32 text) (has_byte 10 text) e).2

pub Lacks-append : (byte : ℕ) (xs ys : List ℕ) → Lacks byte xs → Lacks byte ys → Lacks byte (xs ++ ys)
Lacks-append byte [] ys p q = q
Lacks-append byte (x ∷ xs) ys p q = (p.0, Lacks-append byte xs ys p.1 q)

pub tail_is : (x y : ℕ) (xs ys : List ℕ) → (x ∷ xs) ≡ (y ∷ ys) → xs ≡ ys
tail_is x y xs ys e = cc

pub no_head : (byte b : ℕ) (xs ys : List ℕ) → (b == byte) ≡ false → (b ∷ xs) ≡ (byte ∷ ys) → ⊥
no_head byte b xs ys p e =
    let is : b ≡ byte = cc in
    absurd (grind (arith, nat_tests))

-- two texts in front of a byte that both lack are one
pub same_before : (byte : ℕ) (a b rest others : List ℕ) → Lacks byte a → Lacks byte b → a ++ byte ∷ rest ≡ b ++ byte ∷ others → (a ≡ b) × (rest ≡ others)
same_before byte [] [] rest others p q e = (refl, tail_is byte byte rest others e)
same_before byte [] (d ∷ b) rest others p q e = absurd (no_head byte d (b ++ byte ∷ others) rest q.0 (sym e))
same_before byte (c ∷ a) [] rest others p q e = absurd (no_head byte c (a ++ byte ∷ rest) others p.0 e)
same_before byte (c ∷ a) (d ∷ b) rest others p q e =
    let more = same_before byte a b rest others p.1 q.1 (tail_is c d (a ++ byte ∷ rest) (b ++ byte ∷ others) e) in
    let head : c ≡ d = cc in
    (ap (λ x. x ∷ a) head ∙ ap (λ xs. d ∷ xs) more.0, more.1)

lacks_front : (text : List ℕ) (i : ℕ) → ((k : ℕ) → k < i → (get_or text k 0 == 32) ≡ false) → i ≤ length text → Lacks 32 (take i text)
lacks_front text zero before short = tt
lacks_front [] (suc i) before short = absurd (omega arith)
lacks_front (b ∷ text) (suc i) before short =
    (before 0 (omega arith), lacks_front text i (λ k below. before (suc k) (omega arith)) (omega arith))

-- a space that comes first parts a text
pub space_parts : (text : List ℕ) (i : ℕ) → position (λ b. b == 32) text ≡ Some i → (i < length text) × (text ≡ take i text ++ 32 ∷ drop (i + 1) text) × Lacks 32 (take i text)
space_parts text i found =
    let at = position-Some (λ b. b == 32) text i 0 found in
    let is : get_or text i 0 ≡ 32 = grind (arith, nat_tests, at.1) in
    let behind : drop i text ≡ 32 ∷ drop (i + 1) text = drop_more text i 0 at.0 ∙ ap (λ b. b ∷ drop (i + 1) text) is in
    (at.0, sym (take-append-drop i text) ∙ ap (λ rest. take i text ++ rest) behind, lacks_front text i at.2 (omega (arith, at.0)))

space_within : (first second : List ℕ) → position_or_len (λ b. b == 32) (first ++ 32 ∷ second) < length (first ++ 32 ∷ second)
space_within [] second = omega arith
space_within (b ∷ first) second = step (b == 32) (space_within first second)
  where
    step : (is : Bool) → position_or_len (λ c. c == 32) (first ++ 32 ∷ second) < length (first ++ 32 ∷ second) → cond (not is) (1 + position_or_len (λ c. c == 32) (first ++ 32 ∷ second)) 0 < suc (length (first ++ 32 ∷ second))
    step true more = omega arith
    step false more = omega (arith, more)

-- a text without a space isn't two words
pub no_space : (text first second : List ℕ) → position (λ b. b == 32) text ≡ None → text ≢ first ++ 32 ∷ second
no_space text first second none e =
    let found = space_within first second in
    absurd (grind (arith, nat_tests, found, e, none))

-- the two words of a text are those that its first space parts
pub same_words : (text : List ℕ) (i : ℕ) (first second : List ℕ) → position (λ b. b == 32) text ≡ Some i → is_word first ≡ true → text ≡ first ++ 32 ∷ second → (take i text ≡ first) × (drop (i + 1) text ≡ second)
same_words text i first second found word e =
    let parts = space_parts text i found in
    same_before 32 (take i text) first (drop (i + 1) text) second parts.2 (word_lacks_space first word) (sym parts.1 ∙ e)

-- what stands behind a place, as a slice
pub slice_behind : (text : List ℕ) (i : ℕ) → i < length text → take (length text - (i + 1)) (drop (i + 1) text) ≡ drop (i + 1) text
slice_behind text i within = take_all (length text - (i + 1)) (drop (i + 1) text) (omega (arith, length-drop (i + 1) text))

-- two words of which one has no key
pub topic_refused : (gateway : Bool) (text first second : List ℕ) → is_word first ≡ true → text ≡ first ++ 32 ∷ second → IsErr (key_or_fault gateway first) → (topic callback : Word) → IsWord gateway topic → IsWord gateway callback → text ≢ topic.text ++ 32 ∷ callback.text
topic_refused gateway text first second word is refused topic callback p q e =
    let same = same_before 32 first topic.text second callback.text (word_lacks_space first word) (word_lacks_space topic.text p.0) (sym is ∙ e) in
    let told : false ≡ true = subst (λ (answer : Result (List ℕ) TargetFault). IsErr answer) (ap (key_or_fault gateway) same.0 ∙ p.1) refused in
    absurd (cc)

pub callback_refused : (gateway : Bool) (text first second : List ℕ) → is_word first ≡ true → text ≡ first ++ 32 ∷ second → IsErr (key_or_fault gateway second) → (topic callback : Word) → IsWord gateway topic → IsWord gateway callback → text ≢ topic.text ++ 32 ∷ callback.text
callback_refused gateway text first second word is refused topic callback p q e =
    let same = same_before 32 first topic.text second callback.text (word_lacks_space first word) (word_lacks_space topic.text p.0) (sym is ∙ e) in
    let told : false ≡ true = subst (λ (answer : Result (List ℕ) TargetFault). IsErr answer) (ap (key_or_fault gateway) same.1 ∙ q.1) refused in
    absurd (cc)
