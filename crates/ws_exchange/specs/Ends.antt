-- What an exchange comes to by the bytes of the reply (RFC 9112, by the definition of what an exchange got).
use Rattle.std.specs.Prelude.{◌≡◌, ℕ, Bool, true, false, List}
use Rattle.ws_model.specs.Fit.{is_fit}
use Rattle.ws_model.specs.declared.work.Outcome.{Outcome}
use Rattle.ws_model.specs.declared.work.Outcome.TheVariants as outcome
use Rattle.ws_http.specs.declared.fed.Need.{Need}
use Rattle.ws_http.specs.Responses.{Verdict, IsResponse, Got, is_final}

-- the bytes hold no whole message and no fault, as far as they came
abbrev pub GoesOn : Need → List ℕ → Type 0
GoesOn need bytes = (v : Verdict) × IsResponse need bytes v × (is_final v ≡ false)

abbrev pub is_lost : Outcome → Bool
is_lost (outcome.Reply r) = false
is_lost outcome.Lost = true
is_lost outcome.Late = false
is_lost outcome.TooLong = false
is_lost outcome.Garbled = false

abbrev pub is_late : Outcome → Bool
is_late (outcome.Reply r) = false
is_late outcome.Lost = false
is_late outcome.Late = true
is_late outcome.TooLong = false
is_late outcome.Garbled = false

-- The outcome is what was got of the bytes. It is fit, it isn't Late, and it is Lost only where they ended.
pub record Ends (need : Need) (bytes : List ℕ) (ended : Bool) (o : Outcome) : Type 0 where
  pub got : Got need bytes ended o
  pub fit : is_fit o ≡ true
  pub in_time : is_late o ≡ false
  pub lost : ended ≡ false → is_lost o ≡ false
