-- The first of the due work.
use Rattle.std.proofs.Common.{◌≡◌, ℕ, Bool, true, false, not, cond, List, [], ◌∷◌, ◌++◌, refl, ap, sym, ◌∙◌, append_assoc}
use Rattle.std.specs.Prelude.{Option, Some, None, filter, find}
use Rattle.std.specs.Option.{option_or}
use Rattle.std.proofs.lemmas.List.Folds.{find-append}
use Rattle.ws_model.specs.declared.event.Event.{Event}
use Rattle.ws_model.specs.declared.work.Work.{Work}
use Rattle.ws_model.specs.Due.{due, due_fetches, due_notices, due_pushes, due_verifications, is_out}
use Rattle.ws_core_tables.specs.Stands.{first_of}

first_found : {X : Type 0} (p : X → Bool) (xs : List X) → first_of (filter p xs) ≡ find p xs
first_found p [] = refl
first_found p (x ∷ xs) = one (p x) (first_found p xs)
  where
    one : (b : Bool) → first_of (filter p xs) ≡ find p xs → first_of (cond b (x ∷ filter p xs) (filter p xs)) ≡ cond b (Some x) (find p xs)
    one true f = refl
    one false f = f

-- by its four parts
pub first_due :
    (h : List Event) (t : ℕ) (out : List Work)
    → first_of (due h t out)
    ≡ option_or (find (λ w. not (is_out out w)) (due_verifications h ++ due_notices h))
    (option_or (find (λ w. not (is_out out w)) (due_fetches h)) (find (λ w. not (is_out out w)) (due_pushes h t)))
first_due h t out =
    first_found (λ w. not (is_out out w)) (((due_verifications h ++ due_notices h) ++ due_fetches h) ++ due_pushes h t)
    ∙ ap (find (λ w. not (is_out out w))) (append_assoc (due_verifications h ++ due_notices h) (due_fetches h) (due_pushes h t))
    ∙ find-append (λ w. not (is_out out w)) (due_verifications h ++ due_notices h) (due_fetches h ++ due_pushes h t)
    ∙ ap (option_or (find (λ w. not (is_out out w)) (due_verifications h ++ due_notices h))) (find-append (λ w. not (is_out out w)) (due_fetches h) (due_pushes h t))

-- where a verification or a notice is due
pub by_intent :
    (h : List Event) (t : ℕ) (out : List Work) (w : Work)
    → Some w ≡ find (λ w. not (is_out out w)) (due_verifications h ++ due_notices h)
    → Some w ≡ first_of (due h t out)
by_intent h t out w k =
    ap (λ o. option_or o (option_or (find (λ w. not (is_out out w)) (due_fetches h)) (find (λ w. not (is_out out w)) (due_pushes h t)))) k
    ∙ sym (first_due h t out)

-- where a fetch is
pub by_topic :
    (h : List Event) (t : ℕ) (out : List Work) (w : Work)
    → None ≡ find (λ w. not (is_out out w)) (due_verifications h ++ due_notices h)
    → Some w ≡ find (λ w. not (is_out out w)) (due_fetches h)
    → Some w ≡ first_of (due h t out)
by_topic h t out w k m =
    ap (λ o. option_or o (find (λ w. not (is_out out w)) (due_pushes h t))) m
    ∙ ap (λ o. option_or o (option_or (find (λ w. not (is_out out w)) (due_fetches h)) (find (λ w. not (is_out out w)) (due_pushes h t)))) k
    ∙ sym (first_due h t out)

-- where a push is, or nothing
pub by_push :
    (h : List Event) (t : ℕ) (out : List Work) (o : Option Work)
    → None ≡ find (λ w. not (is_out out w)) (due_verifications h ++ due_notices h)
    → None ≡ find (λ w. not (is_out out w)) (due_fetches h)
    → o ≡ find (λ w. not (is_out out w)) (due_pushes h t)
    → o ≡ first_of (due h t out)
by_push h t out o k m n =
    n
    ∙ ap (λ o. option_or o (find (λ w. not (is_out out w)) (due_pushes h t))) m
    ∙ ap (λ o. option_or o (option_or (find (λ w. not (is_out out w)) (due_fetches h)) (find (λ w. not (is_out out w)) (due_pushes h t)))) k
    ∙ sym (first_due h t out)
