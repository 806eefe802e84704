-- The end of a lease by an operator (WebSub section 5.2 lets a hub deny a subscription at any point).
use Rattle.std.specs.Prelude.{ℕ, Bool, ◌&&◌, List, bytes_eq, codes, Option, find}
use Rattle.std.specs.Option.{option_map}
use Rattle.ws_model.specs.declared.event.Event.{Event}
use Rattle.ws_model.specs.declared.event.What.{What}
use Rattle.ws_model.specs.declared.event.What.TheVariants.{Revoked}
use Rattle.ws_model.specs.declared.lease.Lease.{Lease}
use Rattle.ws_model.specs.Leases.{live}

-- a lease of this topic and callback
abbrev pub is_lease_of : List ℕ → List ℕ → Lease → Bool
is_lease_of topic callback l = bytes_eq l.intent.topic topic && bytes_eq l.intent.callback callback

-- the live lease of a topic and a callback
abbrev pub live_lease_of : List Event → ℕ → List ℕ → List ℕ → Option Lease
live_lease_of h t topic callback = find (is_lease_of topic callback) (live h t)

-- the event that ends the live lease of a topic and a callback at t, where there is one; pending
-- intents stay
abbrev pub revocation : List Event → ℕ → List ℕ → List ℕ → Option What
revocation h t topic callback = option_map (λ l. Revoked l.intent.n (codes "subscription revoked")) (live_lease_of h t topic callback)
