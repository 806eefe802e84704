-- What an event makes: pairs, and a lease that replaces another one (own).
use Rattle.std.specs.Prelude.{◌≡◌, ℕ, ◌≤◌, Bool, true, false, ◌||◌, List, [], ◌∷◌, find, is_some, Option, None}
use Rattle.std.specs.Option.{option_map}
use Rattle.ws_model.specs.declared.event.Event.{Event}
use Rattle.ws_model.specs.declared.event.What.{What}
use Rattle.ws_model.specs.declared.event.What.TheVariants.{Confirmed, Fetched}
use Rattle.ws_model.specs.declared.lease.Lease.{Lease}
use Rattle.ws_model.specs.Intents.{same_pair}
use Rattle.ws_model.specs.Leases.{confirmed_intent, lease_of, live}
use Rattle.ws_model.specs.Legal.{Legal}
use Rattle.ws_model.specs.Verdict.{pair_of}
use Rattle.ws_ledger.specs.Pairs.{is_listed}
use Rattle.ws_ledger.specs.Rows.{Rows}
use Rattle.ws_ledger.specs.Stands.{StandsFor}

-- These are the pairs that the event makes, each a version and a lease: the history doesn't have them, and with the event it has them
-- beside those that it had.
pub record AreBirths (e : Event) (h : List Event) (births : List (ℕ × ℕ)) : Type 0 where
  pub fresh : (v n : ℕ) → is_listed v n births ≡ true → pair_of h v n ≡ None
  pub all : (v n : ℕ) → is_some (pair_of (e ∷ h) v n) ≡ (is_listed v n births || is_some (pair_of h v n))

-- so it is for each history that the ledger stands for
abbrev pub FindsBirths : Event → Rows → List (ℕ × ℕ) → Type 0
FindsBirths e rows births = (h : List Event) (since : ℕ) → StandsFor h since rows → Legal (e ∷ h) → since ≤ e.t → AreBirths e h births

-- only a new version and a confirmation make pairs
abbrev pub makes_pairs : What → Bool
makes_pairs (Fetched v) = true
makes_pairs (Confirmed n sent) = true
makes_pairs _ = false

-- a new lease, and the live one of its topic and callback, which it replaces, each with its number
abbrev pub renewal_of : List Lease → List Lease → Option (ℕ × ℕ)
renewal_of live [] = None
renewal_of live (l ∷ ls) = option_map (λ m. (l.intent.n, m.intent.n)) (find (λ m. same_pair l.intent m.intent) live)

-- this is what the event so replaces, for each history that the ledger stands for
abbrev pub FindsRenewal : Event → Rows → Option (ℕ × ℕ) → Type 0
FindsRenewal e rows found = (h : List Event) (since : ℕ) → StandsFor h since rows → Legal (e ∷ h) → since ≤ e.t → found ≡ renewal_of (live h e.t) (lease_of e.what (confirmed_intent e.what h))

abbrev pub is_confirmation : What → Bool
is_confirmation (Confirmed n sent) = true
is_confirmation _ = false
