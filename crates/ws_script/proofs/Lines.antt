-- Lines and their line feeds.
use Rattle.std.proofs.Common.{◌≡◌, ◌≢◌, ℕ, ◌+◌, ◌<◌, ◌^◌, ◌%◌, Bool, false, ◌==◌, Ok, List, [], ◌∷◌, ◌++◌, length, refl, sym, ap, ◌∙◌, append_assoc, length-append, decimal, arith}
use Rattle.std.proofs.lemmas.Bool.Decides.{nat_tests}
use Rattle.std.proofs.lemmas.Fmt.{decimal_by_steps, decimal_injective}
use Rattle.ws_script.specs.declared.script.Line.{Line}
use Rattle.ws_script.specs.declared.script.Line.TheVariants as line
use Rattle.ws_script.specs.Moves.{NoneOf}
use Rattle.ws_script.specs.Reading.{IsShortLine, HasSize, with_line_feed}
use Rattle.ws_script.specs.Script.{IsLine, IsWord, line_text}
use Rattle.ws_script.specs.declared.words.Word.{Word}
use Rattle.ws_target.specs.Keys.{key_or_fault}
use Rattle.ws_script.specs.Bytes.{IsOneLine}
use Rattle.ws_script.proofs.Parting.{Lacks-append, no_head, same_before, tail_is, word_lacks_space, word_one_line}

pub IsOneLine-push : (bytes : List ℕ) (b : ℕ) → IsOneLine bytes → (b == 10) ≡ false → IsOneLine (bytes ++ b ∷ [])
IsOneLine-push [] b one p = (p, tt)
IsOneLine-push (c ∷ bytes) b one p = (one.0, IsOneLine-push bytes b one.1 p)

-- a line has no line feed within
line_within : (text others found rest : List ℕ) → IsOneLine text → length found < length text → text ++ others ≢ found ++ 10 ∷ rest
line_within [] others found rest one short e = absurd (omega arith)
line_within (b ∷ text) others [] rest one short e = no_head 10 b (text ++ others) rest one.0 e
line_within (b ∷ text) others (c ∷ found) rest one short e =
    line_within text others found rest one.1 (omega arith) (tail_is b c (text ++ others) (found ++ 10 ∷ rest) e)

no_line : (text found rest : List ℕ) → IsOneLine text → text ≢ found ++ 10 ∷ rest
no_line [] [] rest one e = absurd (cc)
no_line [] (c ∷ found) rest one e = absurd (cc)
no_line (b ∷ text) [] rest one e = no_head 10 b text rest one.0 e
no_line (b ∷ text) (c ∷ found) rest one e = no_line text found rest one.1 (tail_is b c text (found ++ 10 ∷ rest) e)

-- no line feed came
pub line_cut : (text : List ℕ) → IsOneLine text → NoneOf with_line_feed IsShortLine text
line_cut text one found rest short e = no_line text found rest one (e ∙ append_assoc found (10 ∷ []) rest)

-- the line is too long
pub line_long : (text others : List ℕ) → IsOneLine text → 4096 < length text → NoneOf with_line_feed IsShortLine (text ++ others)
line_long text others one long found rest short e =
    line_within text others found rest one (omega (arith, short.1)) (e ∙ append_assoc found (10 ∷ []) rest)

-- too few bytes came
pub bytes_cut : (size : ℕ) (bytes : List ℕ) → length bytes < size → NoneOf (λ (b : List ℕ). b) (HasSize size) bytes
bytes_cut size bytes short found rest has e = absurd (omega (arith, has, length-append found rest, ap length e))

-- no bytes of that size, and so none with a line feed behind
pub body_cut : (size : ℕ) (bytes : List ℕ) → NoneOf (λ (b : List ℕ). b) (HasSize size) bytes → NoneOf with_line_feed (HasSize size) bytes
body_cut size bytes none found rest has e = none found (10 ∷ rest) has (e ∙ append_assoc found (10 ∷ []) rest)

-- two of one length in front of others are one
pub same_front : (a b rest others : List ℕ) → length a ≡ length b → a ++ rest ≡ b ++ others → (a ≡ b) × (rest ≡ others)
same_front [] [] rest others h e = (refl, e)
same_front [] (d ∷ b) rest others h e = absurd (omega arith)
same_front (c ∷ a) [] rest others h e = absurd (omega arith)
same_front (c ∷ a) (d ∷ b) rest others h e =
    let more = same_front a b rest others (omega arith) (tail_is c d (a ++ rest) (b ++ others) e) in
    let head : c ≡ d = cc in
    (ap (λ x. x ∷ a) head ∙ ap (λ xs. d ∷ xs) more.0, more.1)

-- another byte stands behind the bytes
pub body_other : (size b : ℕ) (body others : List ℕ) → length body ≡ size → (b == 10) ≡ false → NoneOf with_line_feed (HasSize size) ((body ++ b ∷ []) ++ others)
body_other size b body others is other found rest has e =
    let split : body ++ b ∷ others ≡ found ++ 10 ∷ rest = cc (append_assoc body (b ∷ []) others, append_assoc found (10 ∷ []) rest) in
    no_head 10 b others rest other (same_front body found (b ∷ others) (10 ∷ rest) (omega arith) split).1

-- nothing stands behind the bytes
pub body_end : (size : ℕ) (body : List ℕ) → length body ≡ size → NoneOf with_line_feed (HasSize size) body
body_end size body is found rest has e =
    absurd (omega (arith, has, length-append (found ++ 10 ∷ []) rest, length-append found (10 ∷ []), ap length e))

digits_one_line : (n : ℕ) → n < 2 ^ 64 → IsOneLine (decimal n)
digits_one_line n small =
    decimal_by_steps (λ m ds. IsOneLine ds) (λ m h. (grind (arith, nat_tests), tt))
    (λ m ds h one. IsOneLine-push ds (48 + m % 10) one (grind (arith, nat_tests))) n small

word_line : (word : Word) (gateway : Bool) → IsWord gateway word → IsOneLine word.text
word_line word gateway is = word_one_line word.text is.0

-- the lines of a script are lines
pub line_text_one : (gateway : Bool) (l : Line) → IsLine gateway l → IsOneLine (line_text l)
line_text_one gateway (line.At t) h = (refl, (refl, (refl, digits_one_line t (omega arith))))
line_text_one gateway (line.Form size) h = (refl, (refl, (refl, (refl, (refl, digits_one_line size (omega arith))))))
line_text_one gateway (line.In size) h = (refl, (refl, (refl, digits_one_line size (omega arith))))
line_text_one gateway (line.Revoke topic callback) h =
    let words = Lacks-append 10 topic.text (32 ∷ callback.text) (word_line topic gateway h.0) (refl, word_line callback gateway h.1) in
    (refl, (refl, (refl, (refl, (refl, (refl, (refl, words)))))))
line_text_one gateway line.Sum h = (refl, (refl, (refl, tt)))
line_text_one gateway line.End h = (refl, (refl, (refl, tt)))

apart : {P : Type 0} (x y : ℕ) (xs ys : List ℕ) → x ≢ y → (x ∷ xs) ≡ (y ∷ ys) → P
apart x y xs ys differs e = absurd (differs (cc))

-- one text has one key
same_key : (gateway : Bool) (word other : Word) → IsWord gateway word → IsWord gateway other → word.text ≡ other.text → word ≡ other
same_key gateway word other p q e =
    let keys : Ok word.key ≡ Ok other.key = sym p.1 ∙ ap (key_or_fault gateway) e ∙ q.1 in
    let key : word.key ≡ other.key = cc in
    λ i. record { text = e i; key = key i }

same_words_line : (gateway : Bool) (topic callback first second : Word) → IsWord gateway topic → IsWord gateway callback → IsWord gateway first → IsWord gateway second → topic.text ++ 32 ∷ callback.text ≡ first.text ++ 32 ∷ second.text → line.Revoke topic callback ≡ line.Revoke first second
same_words_line gateway topic callback first second p q r s e =
    let texts = same_before 32 topic.text first.text callback.text second.text (word_lacks_space topic.text p.0) (word_lacks_space first.text r.0) e in
    let one = same_key gateway topic first p r texts.0 in
    let two = same_key gateway callback second q s texts.1 in
    λ i. line.Revoke (one i) (two i)

-- and each says one thing
pub line_text_injective : (gateway : Bool) (l k : Line) → IsLine gateway l → IsLine gateway k → line_text l ≡ line_text k → l ≡ k
line_text_injective gateway (line.At t) (line.At u) p q e = ap line.At (decimal_injective t u (omega arith) (omega arith) (cc))
line_text_injective gateway (line.Form t) (line.Form u) p q e = ap line.Form (decimal_injective t u (omega arith) (omega arith) (cc))
line_text_injective gateway (line.In t) (line.In u) p q e = ap line.In (decimal_injective t u (omega arith) (omega arith) (cc))
line_text_injective gateway (line.Revoke topic callback) (line.Revoke first second) p q e = same_words_line gateway topic callback first second p.0 p.1 q.0 q.1 (cc)
line_text_injective gateway line.Sum line.Sum p q e = refl
line_text_injective gateway line.End line.End p q e = refl
line_text_injective gateway (line.At t) (line.Form u) p q e = apart _ _ _ _ (omega arith) e
line_text_injective gateway (line.At t) (line.In u) p q e = apart _ _ _ _ (omega arith) e
line_text_injective gateway (line.At t) (line.Revoke first second) p q e = apart _ _ _ _ (omega arith) e
line_text_injective gateway (line.At t) line.Sum p q e = apart _ _ _ _ (omega arith) e
line_text_injective gateway (line.At t) line.End p q e = apart _ _ _ _ (omega arith) e
line_text_injective gateway (line.Form t) (line.At u) p q e = apart _ _ _ _ (omega arith) e
line_text_injective gateway (line.Form t) (line.In u) p q e = apart _ _ _ _ (omega arith) e
line_text_injective gateway (line.Form t) (line.Revoke first second) p q e = apart _ _ _ _ (omega arith) e
line_text_injective gateway (line.Form t) line.Sum p q e = apart _ _ _ _ (omega arith) e
line_text_injective gateway (line.Form t) line.End p q e = apart _ _ _ _ (omega arith) e
line_text_injective gateway (line.In t) (line.At u) p q e = apart _ _ _ _ (omega arith) e
line_text_injective gateway (line.In t) (line.Form u) p q e = apart _ _ _ _ (omega arith) e
line_text_injective gateway (line.In t) (line.Revoke first second) p q e = apart _ _ _ _ (omega arith) e
line_text_injective gateway (line.In t) line.Sum p q e = apart _ _ _ _ (omega arith) e
line_text_injective gateway (line.In t) line.End p q e = apart _ _ _ _ (omega arith) e
line_text_injective gateway (line.Revoke topic callback) (line.At u) p q e = apart _ _ _ _ (omega arith) e
line_text_injective gateway (line.Revoke topic callback) (line.Form u) p q e = apart _ _ _ _ (omega arith) e
line_text_injective gateway (line.Revoke topic callback) (line.In u) p q e = apart _ _ _ _ (omega arith) e
line_text_injective gateway (line.Revoke topic callback) line.Sum p q e = apart _ _ _ _ (omega arith) e
line_text_injective gateway (line.Revoke topic callback) line.End p q e = apart _ _ _ _ (omega arith) e
line_text_injective gateway line.Sum (line.At u) p q e = apart _ _ _ _ (omega arith) e
line_text_injective gateway line.Sum (line.Form u) p q e = apart _ _ _ _ (omega arith) e
line_text_injective gateway line.Sum (line.In u) p q e = apart _ _ _ _ (omega arith) e
line_text_injective gateway line.Sum (line.Revoke first second) p q e = apart _ _ _ _ (omega arith) e
line_text_injective gateway line.Sum line.End p q e = apart _ _ _ _ (omega arith) e
line_text_injective gateway line.End (line.At u) p q e = apart _ _ _ _ (omega arith) e
line_text_injective gateway line.End (line.Form u) p q e = apart _ _ _ _ (omega arith) e
line_text_injective gateway line.End (line.In u) p q e = apart _ _ _ _ (omega arith) e
line_text_injective gateway line.End (line.Revoke first second) p q e = apart _ _ _ _ (omega arith) e
line_text_injective gateway line.End line.Sum p q e = apart _ _ _ _ (omega arith) e
