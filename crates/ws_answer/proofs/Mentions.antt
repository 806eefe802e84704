-- The topics that were mentioned so far.
use Rattle.std.proofs.Common.{◌≡◌, ℕ, Bool, true, false, cond, ◌||◌, List, [], ◌∷◌, ◌++◌, refl, ap, ◌∙◌}
use Rattle.std.specs.Prelude.{filter, bytes_eq, not, map}
use Rattle.std.specs.List.{list_any}
use Rattle.ws_model.specs.declared.event.What.{What}
use Rattle.ws_model.specs.Answer.{first_mentions}
use Rattle.ws_answer.specs.Judged.{unless}

filter_append : (p : List ℕ → Bool) (xs ys : List (List ℕ)) → filter p (xs ++ ys) ≡ filter p xs ++ filter p ys
filter_append p [] ys = refl
filter_append p (x ∷ xs) ys = one (p x) (filter_append p xs ys)
  where
    one : (b : Bool) → filter p (xs ++ ys) ≡ filter p xs ++ filter p ys → cond b (x ∷ filter p (xs ++ ys)) (filter p (xs ++ ys)) ≡ cond b (x ∷ filter p xs) (filter p xs) ++ filter p ys
    one true r = ap (λ zs. x ∷ zs) r
    one false r = r

filter_unless : (y x : List ℕ) (b : Bool) → filter (λ z. not (bytes_eq y z)) (unless b x) ≡ unless (bytes_eq y x || b) x
filter_unless y x true = by (bytes_eq y x)
  where
    by : (c : Bool) → [] ≡ unless (c || true) x
    by true = refl
    by false = refl
filter_unless y x false = by (bytes_eq y x)
  where
    by : (c : Bool) → cond (not c) (x ∷ []) [] ≡ unless (c || false) x
    by true = refl
    by false = refl

-- one more topic is mentioned for the first time where it isn't among the earlier ones
pub one_more : (xs : List (List ℕ)) (x : List ℕ) → first_mentions (xs ++ x ∷ []) ≡ first_mentions xs ++ unless (list_any (λ y. bytes_eq y x) xs) x
one_more [] x = refl
one_more (y ∷ ys) x =
    ap (λ zs. y ∷ filter (λ z. not (bytes_eq y z)) zs) (one_more ys x)
    ∙ ap (λ zs. y ∷ zs) (filter_append (λ z. not (bytes_eq y z)) (first_mentions ys) (unless (list_any (λ z. bytes_eq z x) ys) x))
    ∙ ap (λ zs. y ∷ filter (λ z. not (bytes_eq y z)) (first_mentions ys) ++ zs) (filter_unless y x (list_any (λ z. bytes_eq z x) ys))

-- what is kept of one more topic
pub kept_more : (p : List ℕ → Bool) (xs : List (List ℕ)) (x : List ℕ) → filter p (first_mentions (xs ++ x ∷ [])) ≡ filter p (first_mentions xs) ++ filter p (unless (list_any (λ y. bytes_eq y x) xs) x)
kept_more p xs x = ap (filter p) (one_more xs x) ∙ filter_append p (first_mentions xs) (unless (list_any (λ y. bytes_eq y x) xs) x)

map_append : (f : List ℕ → What) (xs ys : List (List ℕ)) → map f (xs ++ ys) ≡ map f xs ++ map f ys
map_append f [] ys = refl
map_append f (x ∷ xs) ys = ap (λ zs. f x ∷ zs) (map_append f xs ys)

-- the pings of one more topic
pub pinged_more : (f : List ℕ → What) (p : List ℕ → Bool) (xs : List (List ℕ)) (x : List ℕ)
    → map f (filter p (first_mentions (xs ++ x ∷ []))) ≡ map f (filter p (first_mentions xs)) ++ map f (filter p (unless (list_any (λ y. bytes_eq y x) xs) x))
pinged_more f p xs x = ap (map f) (kept_more p xs x) ∙ map_append f (filter p (first_mentions xs)) (filter p (unless (list_any (λ y. bytes_eq y x) xs) x))
