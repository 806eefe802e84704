-- A list of which some members may be missing.
use Rattle.std.proofs.Common.{◌≡◌, Bool, true, false, cond, ◌||◌, List, [], ◌∷◌, ◌++◌, refl, ap, sym, ◌∙◌, subst}
use Rattle.std.specs.Prelude.{filter}
use Rattle.std.specs.List.{AllByRecursion, list_any}
use Rattle.ws_kept.specs.Part.{IsPart}
use Rattle.ws_kept.specs.Part.IsPart.{IsEnd, Has, Lacks}

module _ {X : Type 0} (Needed : X → Type 0) where
  pub part_itself : (xs : List X) → IsPart Needed xs xs
  part_itself [] = IsEnd
  part_itself (x ∷ xs) = Has x xs xs (part_itself xs)

  pub part_append : {part all : List X} (x : X) → IsPart Needed part all → IsPart Needed (part ++ x ∷ []) (all ++ x ∷ [])
  part_append x IsEnd = Has x [] [] IsEnd
  part_append x (Has y part all p) = Has y (part ++ x ∷ []) (all ++ x ∷ []) (part_append x p)
  part_append x (Lacks y part all free p) = Lacks y (part ++ x ∷ []) (all ++ x ∷ []) free (part_append x p)

  -- where fewer are needed
  pub part_of_fewer : (Fewer : X → Type 0) {part all : List X} → AllByRecursion (λ x. Fewer x → Needed x) all → IsPart Needed part all → IsPart Fewer part all
  part_of_fewer Fewer a IsEnd = IsEnd
  part_of_fewer Fewer a (Has x part all p) = Has x part all (part_of_fewer Fewer a.1 p)
  part_of_fewer Fewer a (Lacks x part all free p) = Lacks x part all (λ k. free (a.0 k)) (part_of_fewer Fewer a.1 p)

  -- what holds for each of all holds for each of the part
  pub part_all : (P : X → Type 0) {part all : List X} → AllByRecursion P all → IsPart Needed part all → AllByRecursion P part
  part_all P a IsEnd = tt
  part_all P a (Has x part all p) = (a.0, part_all P a.1 p)
  part_all P a (Lacks x part all free p) = part_all P a.1 p

  module _ (test : X → Bool) where
    lacking : (x : X) (all : List X) → (Needed x → ⊥) → (test x ≡ true → Needed x) → test x ≡ false
    lacking x all free f = by (test x) refl
      where
        by : (b : Bool) → test x ≡ b → b ≡ false
        by true k = absurd (free (f k))
        by false k = refl

    -- of members that are needed the part has all
    pub part_filter : {part all : List X} → AllByRecursion (λ x. test x ≡ true → Needed x) all → IsPart Needed part all → filter test part ≡ filter test all
    part_filter a IsEnd = refl
    part_filter a (Has x part all p) = ap (λ xs. cond (test x) (x ∷ xs) xs) (part_filter a.1 p)
    part_filter a (Lacks x part all free p) = part_filter a.1 p ∙ sym (ap (λ b. cond b (x ∷ filter test all) (filter test all)) (lacking x all free a.0))

    pub part_any : {part all : List X} → AllByRecursion (λ x. test x ≡ true → Needed x) all → IsPart Needed part all → list_any test part ≡ list_any test all
    part_any a IsEnd = refl
    part_any a (Has x part all p) = ap (λ b. test x || b) (part_any a.1 p)
    part_any a (Lacks x part all free p) = part_any a.1 p ∙ sym (ap (λ b. b || list_any test all) (lacking x all free a.0))

  -- a member that isn't needed may be taken out
  pub part_without : (front : List X) (x : X) (rest : List X) {part all : List X} → (Needed x → ⊥) → part ≡ front ++ x ∷ rest → IsPart Needed part all → IsPart Needed (front ++ rest) all
  part_without front x rest free k IsEnd = by front k
    where
      by : (front : List X) → [] ≡ front ++ x ∷ rest → IsPart Needed (front ++ rest) []
      by [] k = absurd (cc)
      by (y ∷ front) k = absurd (cc)
  part_without front x rest free k (Has y part all p) = by front k (λ ys more. part_without ys x rest free more p)
    where
      by : (front : List X) → y ∷ part ≡ front ++ x ∷ rest → ((ys : List X) → part ≡ ys ++ x ∷ rest → IsPart Needed (ys ++ rest) all) → IsPart Needed (front ++ rest) (y ∷ all)
      by [] k f =
          let same : y ≡ x = cc in
          let more : part ≡ rest = cc in
          Lacks y rest all (λ n. free (subst Needed same n)) (subst (λ xs. IsPart Needed xs all) more p)
      by (z ∷ front) k f =
          let same : y ≡ z = cc in
          let more : part ≡ front ++ x ∷ rest = cc in
          subst (λ w. IsPart Needed (w ∷ front ++ rest) (y ∷ all)) same (Has y (front ++ rest) all (f front more))
  part_without front x rest free k (Lacks y part all none p) = Lacks y (front ++ rest) all none (part_without front x rest free k p)
