-- What it is to read a value off the front of bytes, where each value has one text.
use Rattle.std.specs.Prelude.{◌≡◌, List, ℕ, ◌++◌, Option, Some, None, Result, Ok, Err}
use Rattle.ws_model.specs.declared.bytes.NoMemory.{NoMemory}

-- the bytes are the text of x, which fits, and then the rest
pub record Begins {A : Type 0} (text : A → List ℕ) (fits : A → Type 0) (bytes : List ℕ) (x : A) (rest : List ℕ) : Type 0 where
  pub fit : fits x
  pub parts : bytes ≡ text x ++ rest

-- the text of no value begins the bytes
abbrev pub Lacks : {A : Type 0} → (A → List ℕ) → (A → Type 0) → List ℕ → Type 0
Lacks {A} text fits bytes = (x : A) (rest : List ℕ) → fits x → bytes ≡ text x ++ rest → ⊥

-- what was read, seen by view as a value and the rest, is the value whose text begins the bytes
abbrev pub Reads : {X A : Type 0} → (X → A × List ℕ) → (A → List ℕ) → (A → Type 0) → List ℕ → Result (Option X) NoMemory → Type 0
Reads view text fits bytes (Ok (Some found)) = Begins text fits bytes (view found).0 (view found).1
Reads view text fits bytes (Ok None) = Lacks text fits bytes
Reads view text fits bytes (Err e) = Unit {0}

-- no text begins another, and no two values have one text
abbrev pub Apart : {A : Type 0} → (A → List ℕ) → (A → Type 0) → Type 0
Apart {A} text fits =
    (x y : A) (r s : List ℕ) → fits x → fits y → text x ++ r ≡ text y ++ s → (x ≡ y) × (r ≡ s)

-- the text of two values, one behind the other
abbrev pub both : {A B : Type 0} → (A → List ℕ) → (B → List ℕ) → A × B → List ℕ
both first second p = first p.0 ++ second p.1

abbrev pub BothFit : {A B : Type 0} → (A → Type 0) → (B → Type 0) → A × B → Type 0
BothFit P Q p = P p.0 × Q p.1
