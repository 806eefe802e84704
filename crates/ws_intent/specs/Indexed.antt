-- What holds of the pending intents and their indexes together (own).
use Rattle.std.specs.Prelude.{◌≡◌, ℕ, ◌≤◌, Bool, true, false, ◌&&◌, List, Option, Some, None, IfSome, option_map, bytes_eq}
use Rattle.std.specs.List.{sum_by}
use Rattle.std.specs.List.Sorted.{IsStrictlySortedBy}
use Rattle.std.specs.Map.{keys_of, values_of}
use Rattle.std.specs.Ordering.{nat_cmp}
use Rattle.ws_model.specs.declared.event.Intent.{Intent}
use Rattle.ws_intent.specs.declared.rows.Waiting.{Waiting}
use Rattle.ws_intent.specs.Rising.{IsRising, has_number}
use Rattle.ws_intent.specs.Rows.{number_at, weight}

-- the numbers rise, and each row stands at the number of its intent
pub record IsKeyed {X : Type 0} (intent : X → Intent) (es : List (ℕ × X)) : Type 0 where
  pub ordered : IsStrictlySortedBy nat_cmp (keys_of es)
  pub keyed : (n : ℕ) → IfSome (number_at n es) (λ x. (intent x).n ≡ n)

-- the intent of a number
abbrev pub intent_at : {X : Type 0} → (X → Intent) → List (ℕ × X) → ℕ → Option Intent
intent_at intent es n = option_map intent (number_at n es)

abbrev pub is_of : List ℕ → List ℕ → Option Intent → Bool
is_of topic callback None = false
is_of topic callback (Some i) = bytes_eq topic i.topic && bytes_eq callback i.callback

-- an intent stands at q, and none of the same topic and callback stands lower
pub record IsFirst (row : ℕ → Option Intent) (q : ℕ) : Type 0 where
  pub intent : Intent
  pub here : row q ≡ Some intent
  pub least : (p : ℕ) → is_of intent.topic intent.callback (row p) ≡ true → q ≤ p

-- the index has the numbers of each topic and callback, and the list has the first ones
pub record IsTracked (row : ℕ → Option Intent) (index : List ℕ → List ℕ → ℕ → Bool) (firsts : List ℕ) : Type 0 where
  pub indexed : (topic callback : List ℕ) (q : ℕ) → index topic callback q ≡ is_of topic callback (row q)
  pub rising : IsRising firsts
  pub listed : (q : ℕ) → IsFirst row q → has_number firsts q ≡ true
  pub least : (q : ℕ) → has_number firsts q ≡ true → IsFirst row q

pub record IsIndexed (es : List (ℕ × Waiting)) (index : List ℕ → List ℕ → ℕ → Bool) (firsts : List ℕ) (subscriptions : ℕ) : Type 0 where
  pub rows : IsKeyed (λ (w : Waiting). w.intent) es
  pub tracked : IsTracked (intent_at (λ (w : Waiting). w.intent) es) index firsts
  pub counted : subscriptions ≡ sum_by weight (values_of es)
