-- A filter that a loop makes item by item.
use Rattle.std.proofs.Common.{◌≡◌, ℕ, ◌+◌, ◌<◌, Bool, true, false, cond, List, [], ◌∷◌, ◌++◌, length, get_or, drop, sym, ap, ◌∙◌, append_assoc}
use Rattle.std.specs.Prelude.{filter, map}
use Rattle.std.proofs.lemmas.List.{drop_more}

module _ {X : Type 0} (test : X → Bool) (xs : List X) (i : ℕ) (x : X) (old new : List X) where
  ahead : (b : Bool) (ys : List X) → test x ≡ b → filter test (x ∷ ys) ≡ cond b (x ∷ filter test ys) (filter test ys)
  ahead b ys e = ap (λ c. cond c (x ∷ filter test ys) (filter test ys)) e

  split : i < length xs → x ≡ get_or xs i x → drop i xs ≡ x ∷ drop (i + 1) xs
  split h e = drop_more xs i x h ∙ ap (λ y. y ∷ drop (i + 1) xs) (sym e)

  -- the item passes the test
  pub filter_taken : i < length xs → x ≡ get_or xs i x → test x ≡ true → old ++ filter test (drop i xs) ≡ filter test xs → new ≡ old ++ x ∷ [] → new ++ filter test (drop (i + 1) xs) ≡ filter test xs
  filter_taken h e p inv n =
      ap (λ ys. ys ++ filter test (drop (i + 1) xs)) n ∙ append_assoc old (x ∷ []) (filter test (drop (i + 1) xs))
      ∙ ap (λ ys. old ++ ys) (sym (ap (filter test) (split h e) ∙ ahead true _ p)) ∙ inv

  -- the item doesn't
  pub filter_left : i < length xs → x ≡ get_or xs i x → test x ≡ false → old ++ filter test (drop i xs) ≡ filter test xs → new ≡ old → new ++ filter test (drop (i + 1) xs) ≡ filter test xs
  filter_left h e p inv n =
      ap (λ ys. ys ++ filter test (drop (i + 1) xs)) n ∙ ap (λ ys. old ++ ys) (sym (ap (filter test) (split h e) ∙ ahead false _ p)) ∙ inv

-- the same of what is made of each item that passes
module _ {X Y : Type 0} (f : X → Y) (test : X → Bool) (xs : List X) (i : ℕ) (x : X) (old new : List Y) where
  here : i < length xs → x ≡ get_or xs i x → (b : Bool) → test x ≡ b → map f (filter test (drop i xs)) ≡ map f (cond b (x ∷ filter test (drop (i + 1) xs)) (filter test (drop (i + 1) xs)))
  here h e b p =
      ap (λ ys. map f (filter test ys)) (drop_more xs i x h ∙ ap (λ y. y ∷ drop (i + 1) xs) (sym e))
      ∙ ap (λ c. map f (cond c (x ∷ filter test (drop (i + 1) xs)) (filter test (drop (i + 1) xs)))) p

  pub mapped_taken : i < length xs → x ≡ get_or xs i x → test x ≡ true → old ++ map f (filter test (drop i xs)) ≡ map f (filter test xs) → new ≡ old ++ f x ∷ [] → new ++ map f (filter test (drop (i + 1) xs)) ≡ map f (filter test xs)
  mapped_taken h e p inv n =
      ap (λ ys. ys ++ map f (filter test (drop (i + 1) xs))) n ∙ append_assoc old (f x ∷ []) (map f (filter test (drop (i + 1) xs)))
      ∙ ap (λ ys. old ++ ys) (sym (here h e true p)) ∙ inv

  pub mapped_left : i < length xs → x ≡ get_or xs i x → test x ≡ false → old ++ map f (filter test (drop i xs)) ≡ map f (filter test xs) → new ≡ old → new ++ map f (filter test (drop (i + 1) xs)) ≡ map f (filter test xs)
  mapped_left h e p inv n =
      ap (λ ys. ys ++ map f (filter test (drop (i + 1) xs))) n ∙ ap (λ ys. old ++ ys) (sym (here h e false p)) ∙ inv
