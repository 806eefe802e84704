-- Which versions are owed to which leases (WebSub section 7; that a renewal takes over what is owed is own).
use Rattle.std.specs.Prelude.{ℕ, List, [], ◌∷◌, ◌++◌, map, filter, bytes_eq, Option}
use Rattle.ws_model.specs.declared.event.Event.{Event}
use Rattle.ws_model.specs.declared.event.What.{What}
use Rattle.ws_model.specs.declared.event.What.TheVariants.{Confirmed, Fetched}
use Rattle.ws_model.specs.declared.event.Intent.{Intent}
use Rattle.ws_model.specs.declared.event.Version.{Version}
use Rattle.ws_model.specs.declared.lease.Lease.{Lease}
use Rattle.ws_model.specs.Intents.{same_pair}
use Rattle.ws_model.specs.Leases.{lease_by, confirmed_intent, live}
use Rattle.ws_model.specs.Fate.{Pair, fate, is_owed}

abbrev pub pair : ℕ → Version → Lease → Pair
pair t v l = record { version = v; lease = l; born = t }

-- what is owed to the old lease of the same topic and callback goes over to the new one
abbrev pub carried : ℕ → List Pair → List Lease → List Pair
carried t owed [] = []
carried t owed (l ∷ ls) = map (λ p. pair t p.version l) (filter (λ p. same_pair l.intent p.lease.intent) owed)

-- the pairs that an event adds, from the intent that it confirms, the live leases and what is owed:
-- a Fetched one for each live lease of its topic, a Confirmed one for each version it takes over
abbrev pub births : ℕ → What → Option Intent → List Lease → List Pair → List Pair
births t (Fetched v) intent live owed = map (λ l. pair t v l) (filter (λ l. bytes_eq l.intent.topic v.topic) live)
births t (Confirmed n sent) intent live owed = carried t owed (lease_by sent intent)
births t _ intent live owed = []

-- the pairs of a history, the newest first
abbrev pub pairs : List Event → List Pair
pairs [] = []
pairs (e ∷ h) =
    births e.t e.what (confirmed_intent e.what h) (live h e.t) (filter (λ p. is_owed (fate h p e.t)) (pairs h)) ++ pairs h

-- the pairs that are owed at t
abbrev pub owed : List Event → ℕ → List Pair
owed h t = filter (λ p. is_owed (fate h p t)) (pairs h)
