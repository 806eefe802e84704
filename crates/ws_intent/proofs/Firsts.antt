-- The list of first numbers is that of the rows.
use Rattle.std.proofs.Common.{◌≡◌, ℕ, ◌≤◌, ◌<◌, Bool, true, false, not, ◌&&◌, List, refl, ap, sym, ◌∙◌, subst, arith}
use Rattle.std.specs.Prelude.{Option, Some, None, IfSome, option_map, nat_lt}
use Rattle.std.specs.Map.{keys_of}
use Rattle.std.proofs.lemmas.Bool.{and_parts, false≢true, false_from_ne_true, ltb-true, not-true}
use Rattle.ws_model.specs.declared.event.Intent.{Intent}
use Rattle.ws_model.specs.Intents.{same_pair}
use Rattle.ws_laws.proofs.ListLaws.{any_then}
use Rattle.ws_intent.specs.declared.rows.Waiting.{Waiting}
use Rattle.ws_intent.specs.Indexed.{IsFirst, IsKeyed, IsTracked, intent_at, is_of}
use Rattle.ws_intent.specs.Rising.{IsRising, has_number}
use Rattle.ws_intent.specs.Rows.{first_numbers, is_first_among, is_first_number, is_first_row, number_at}
use Rattle.ws_intent.proofs.Rises.{not_lt}
use Rattle.ws_intent.proofs.Risen.{filter_has, filter_rising, passes, risen, row_passes, rows_found, same_rising}

pub same_bools : (a b : Bool) → (a ≡ true → b ≡ true) → (b ≡ true → a ≡ true) → a ≡ b
same_bools true b f g = sym (f refl)
same_bools false true f g = g refl
same_bools false false f g = refl

abbrev intent : Waiting → Intent
intent w = w.intent

pub if_some : {X : Type 0} (P : X → Type 0) (o : Option X) (x : X) → o ≡ Some x → IfSome o P → P x
if_some P None x e k = absurd (grind arith)
if_some P (Some y) x e k = subst P (let s : y ≡ x = cc in s) k

module _ (es : List (ℕ × Waiting)) (rows : IsKeyed intent es) where
  rising : IsRising (keys_of es)
  rising = risen (keys_of es) rows.ordered

  test : Intent → ℕ × Waiting → Bool
  test i e = nat_lt e.0 i.n && same_pair i e.1.intent

  to_first : (q : ℕ) (o : Option Waiting) → number_at q es ≡ o → is_first_row es o ≡ true → IsFirst (intent_at intent es) q
  to_first q None e k = absurd (false≢true k)
  to_first q (Some w) e k = record { intent = w.intent; here = ap (option_map intent) e; least = λ p r. by p (number_at p es) refl r (nat_lt p q) refl }
    where
      number : w.intent.n ≡ q
      number = if_some (λ (x : Waiting). x.intent.n ≡ q) (number_at q es) w e (rows.keyed q)

      by : (p : ℕ) (o : Option Waiting) → number_at p es ≡ o → is_of w.intent.topic w.intent.callback (option_map intent o) ≡ true → (b : Bool) → nat_lt p q ≡ b → q ≤ p
      by p None f r b l = absurd (false≢true r)
      by p (Some v) f r true l = absurd (false≢true (sym (not-true _ k) ∙ row_passes p v (λ e. nat_lt e.0 w.intent.n && same_pair w.intent e.1.intent) es f (ap (λ n. nat_lt p n && same_pair w.intent v.intent) number ∙ ap (λ b. b && same_pair w.intent v.intent) l ∙ r)))
      by p (Some v) f r false l = not_lt p q l

  from_first : (q : ℕ) (o : Option Waiting) → number_at q es ≡ o → IsFirst (intent_at intent es) q → is_first_row es o ≡ true
  from_first q None e s = absurd (none (ap (option_map intent) (sym e) ∙ s.here))
    where
      none : None ≡ Some s.intent → ⊥
      none x = grind arith
  from_first q (Some w) e s = ap not (false_from_ne_true _ (λ t. any_then (λ (x : ℕ × Waiting). number_at x.0 es ≡ Some x.1) (λ x. nat_lt x.0 w.intent.n && same_pair w.intent x.1.intent) ⊥ lower es (rows_found es rising) t))
    where
      number : w.intent.n ≡ q
      number = if_some (λ (x : Waiting). x.intent.n ≡ q) (number_at q es) w e (rows.keyed q)

      it : w.intent ≡ s.intent
      it = some_is (ap (option_map intent) (sym e) ∙ s.here)
        where
          some_is : Some w.intent ≡ Some s.intent → w.intent ≡ s.intent
          some_is x = cc

      lower : (x : ℕ × Waiting) → number_at x.0 es ≡ Some x.1 → (nat_lt x.0 w.intent.n && same_pair w.intent x.1.intent) ≡ true → ⊥
      lower x f k =
          let p = and_parts (nat_lt x.0 w.intent.n) (same_pair w.intent x.1.intent) k in
          let a : x.0 < w.intent.n = ltb-true x.0 w.intent.n p.0 in
          let b : q ≤ x.0 = s.least x.0 (subst (λ (i : Intent). is_of i.topic i.callback (intent_at intent es x.0) ≡ true) it (ap (λ o. is_of w.intent.topic w.intent.callback (option_map intent o)) f ∙ p.1)) in
          let c : w.intent.n ≡ q = number in
          absurd (omega arith)

  module _ (f : List ℕ → List ℕ → ℕ → Bool) (xs : List ℕ) (tracked : IsTracked (intent_at intent es) f xs) where
    pub first_is : (q : ℕ) → has_number xs q ≡ is_first_number q es
    first_is q = same_bools _ _ (λ k. from_first q (number_at q es) refl (tracked.least q k)) (λ k. tracked.listed q (to_first q (number_at q es) refl k))

    pub firsts_are : xs ≡ first_numbers es
    firsts_are =
        same_rising xs (first_numbers es) tracked.rising (filter_rising (λ e. is_first_among es e.1.intent) es rising)
        (λ q. first_is q ∙ sym (filter_has (λ e. is_first_among es e.1.intent) q es rising ∙ row_is q (number_at q es)))
      where
        row_is : (q : ℕ) (o : Option Waiting) → passes (λ (e : ℕ × Waiting). is_first_among es e.1.intent) q o ≡ is_first_row es o
        row_is q None = refl
        row_is q (Some w) = refl
