-- The bytes of the bodies that stay kept, version by version.
use Rattle.std.proofs.Common.{◌≡◌, ℕ, ◌+◌, ◌≤◌, Bool, true, false, cond, List, [], ◌∷◌, refl, ap, ◌∙◌, arith}
use Rattle.std.specs.Prelude.{filter}
use Rattle.std.specs.List.{sum_by}
use Rattle.std.specs.Map.{values_of}
use Rattle.std.specs.BTreeSet.{BTreeSet}
use Rattle.std.proofs.lemmas.List.Sums.{sum_by-cons}
use Rattle.ws_model.specs.declared.event.Version.{Version}
use Rattle.ws_topic.specs.Besides.{bodies_besides, is_besides}
use Rattle.ws_topic.specs.Rows.{size}

module _ (topic : List ℕ) (among : BTreeSet ℕ) (latest : List (List ℕ × ℕ)) where
  pub counted : (e : ℕ × Version) (es : List (ℕ × Version)) → is_besides topic among latest e ≡ true → bodies_besides topic among latest (e ∷ es) ≡ size e.1 + bodies_besides topic among latest es
  counted e es k = ap (λ b. sum_by size (values_of (cond b (e ∷ filter (is_besides topic among latest) es) (filter (is_besides topic among latest) es)))) k ∙ sum_by-cons size e.1 (values_of (filter (is_besides topic among latest) es))

  pub passed : (e : ℕ × Version) (es : List (ℕ × Version)) → is_besides topic among latest e ≡ false → bodies_besides topic among latest (e ∷ es) ≡ bodies_besides topic among latest es
  passed e es k = ap (λ b. sum_by size (values_of (cond b (e ∷ filter (is_besides topic among latest) es) (filter (is_besides topic among latest) es)))) k

  -- no more than those of all
  pub few : (es : List (ℕ × Version)) → bodies_besides topic among latest es ≤ sum_by size (values_of es)
  few [] = omega arith
  few (e ∷ es) = one (is_besides topic among latest e) (counted e es) (passed e es) (sum_by-cons size e.1 (values_of es)) (few es)
    where
      one : (b : Bool) → (b ≡ true → bodies_besides topic among latest (e ∷ es) ≡ size e.1 + bodies_besides topic among latest es) → (b ≡ false → bodies_besides topic among latest (e ∷ es) ≡ bodies_besides topic among latest es)
          → sum_by size (values_of (e ∷ es)) ≡ size e.1 + sum_by size (values_of es) → bodies_besides topic among latest es ≤ sum_by size (values_of es) → bodies_besides topic among latest (e ∷ es) ≤ sum_by size (values_of (e ∷ es))
      one true f g s r = let a = f refl in omega arith
      one false f g s r = let a = g refl in omega arith
