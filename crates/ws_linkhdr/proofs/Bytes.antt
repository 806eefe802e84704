-- Which bytes are which, and cases on a test.
use Rattle.std.proofs.Common.{◌≡◌, ℕ, Bool, true, false, ◌||◌, cond, eqb, ◌⊎◌, inl, inr, refl, sym, ap, subst}
use Rattle.std.proofs.lemmas.Bool.{eqb-true}
use Rattle.ws_linkhdr.specs.Characters.{is_blank, is_token_byte, is_word_byte}

-- what holds of a choice is learnt with the test's outcome
pub split : {X P : Type 0} (t : Bool) (F : X → Type 0) (x y : X) → F (cond t x y) → (t ≡ true → F x → P) → (t ≡ false → F y → P) → P
split true F x y h a b = a refl h
split false F x y h a b = b refl h

pub chosen : {X : Type 0} (t : Bool) (x y : X) → t ≡ true → cond t x y ≡ x
chosen t x y h = ap (λ b. cond b x y) h

pub passed : {X : Type 0} (t : Bool) (x y : X) → t ≡ false → cond t x y ≡ y
passed t x y h = ap (λ b. cond b x y) h

-- a fact at the byte that a test names
pub at_byte : (P : ℕ → Type 0) (b c : ℕ) → eqb b c ≡ true → P c → P b
at_byte P b c h p = subst P (sym (eqb-true b c h)) p

or_cases : (s t : Bool) → (s || t) ≡ true → (s ≡ true) ⊎ (t ≡ true)
or_cases true t h = inl refl
or_cases false t h = inr h

blank_cases : (b : ℕ) → is_blank b ≡ true → (eqb b 32 ≡ true) ⊎ (eqb b 9 ≡ true)
unfolding is_blank
blank_cases b h = or_cases (eqb b 32) (eqb b 9) h

-- what holds of a space and of a tab holds of each blank
pub of_blank : (P : ℕ → Type 0) (b : ℕ) → is_blank b ≡ true → P 32 → P 9 → P b
of_blank P b h space tab =
    elim (blank_cases b h) as (λ _. P b) [ inl e ↦ at_byte P b 32 e space | inr e ↦ at_byte P b 9 e tab ]

pub blank_no_token : (b : ℕ) → is_blank b ≡ true → is_token_byte b ≡ false
unfolding is_token_byte
blank_no_token b h = of_blank (λ c. is_token_byte c ≡ false) b h refl refl

pub blank_no_word : (b : ℕ) → is_blank b ≡ true → is_word_byte b ≡ false
unfolding is_token_byte is_word_byte
blank_no_word b h = of_blank (λ c. is_word_byte c ≡ false) b h refl refl

pub blank_no_equals : (b : ℕ) → is_blank b ≡ true → eqb b 61 ≡ false
blank_no_equals b h = of_blank (λ c. eqb c 61 ≡ false) b h refl refl

pub blank_no_quote : (b : ℕ) → is_blank b ≡ true → eqb b 34 ≡ false
blank_no_quote b h = of_blank (λ c. eqb c 34 ≡ false) b h refl refl
