-- What a sound request makes of a history (WebSub sections 5.1 to 5.3; the publish request and the limits are own).
use Rattle.std.specs.Prelude.{ℕ, suc, ◌+◌, ◌-◌, Bool, cond, not, ◌&&◌, List, [], ◌∷◌, map, filter, length, nat_lt, ◌==◌, bytes_eq, codes}
use Rattle.std.specs.List.{list_any, starts_with}
use Rattle.ws_model.specs.declared.event.Event.{Event}
use Rattle.ws_model.specs.declared.event.What.{What}
use Rattle.ws_model.specs.declared.event.What.TheVariants.{Asked, Barred, Pinged}
use Rattle.ws_model.specs.declared.event.Intent.{Intent}
use Rattle.ws_model.specs.declared.event.Alg.{Alg}
use Rattle.ws_model.specs.declared.event.Mode.TheVariants.{Off, On}
use Rattle.ws_model.specs.declared.answers.Kind.{Kind}
use Rattle.ws_model.specs.declared.answers.Kind.TheVariants.{Pending, Leases, Numbers}
use Rattle.ws_model.specs.Moment.{serial, intent_number}
use Rattle.ws_model.specs.Intents.{pending}
use Rattle.ws_model.specs.Leases.{is_on, live}
use Rattle.ws_model.specs.Legal.{number_limit}

-- Events in their order, oldest first, or what is full: how many are held, how many are asked for
-- besides, and the limit.
pub data Answer : Type 0 where
  Events : List What → Answer
  Full : Kind → ℕ → ℕ → ℕ → Answer

-- the greatest number of pending intents
abbrev pub pending_limit : ℕ
pending_limit = 65536

-- the greatest number of live leases and pending subscriptions together
abbrev pub lease_limit : ℕ
lease_limit = 262144

abbrev pub pending_subscriptions : List Event → List Intent
pending_subscriptions h = filter (λ i. is_on i.mode) (pending h)

-- the live leases and the pending subscriptions
abbrev pub held_leases : List Event → ℕ → ℕ
held_leases h t = length (live h t) + length (pending_subscriptions h)

-- no event past the last serial
abbrev pub within_serials : List Event → List What → Answer
within_serials h events =
    cond (nat_lt (number_limit - 1) (serial h + length events)) (Full Numbers (serial h) (length events) (number_limit - 1)) (Events events)

-- no serial and no intent past the last number
abbrev pub within_numbers : List Event → List What → Answer
within_numbers h events =
    cond (nat_lt (number_limit - 1) (serial h + length events)) (Full Numbers (serial h) (length events) (number_limit - 1))
    (cond (intent_number h == number_limit - 1) (Full Numbers (intent_number h) 1 (number_limit - 1)) (Events events))

abbrev pub within_pending : List Event → Answer → Answer
within_pending h rest = cond (nat_lt pending_limit (length (pending h) + 1)) (Full Pending (length (pending h)) 1 pending_limit) rest

abbrev pub within_leases : List Event → ℕ → Answer → Answer
within_leases h t rest = cond (nat_lt lease_limit (held_leases h t + 1)) (Full Leases (held_leases h t) 1 lease_limit) rest

-- prefixes are allowed by setting, and none of them begins the topic
abbrev pub is_disallowed : List (List ℕ) → List ℕ → Bool
is_disallowed allow topic = not (length allow == 0) && not (list_any (λ prefix. starts_with (◌==◌) topic prefix) allow)

-- the request, and its denial where the topic isn't allowed
abbrev pub subscription_events : List (List ℕ) → Intent → List What
subscription_events allow i =
    cond (is_disallowed allow i.topic) (Asked i ∷ Barred i.n (codes "topic not allowed") ∷ []) (Asked i ∷ [])

-- a request to subscribe at t, under these settings
abbrev pub subscribe_answer : List Event → ℕ → List (List ℕ) → Alg → List ℕ → List ℕ → List ℕ → List ℕ → ℕ → Answer
subscribe_answer h t allow alg topic echo callback secret granted =
    within_pending h (within_leases h t (within_numbers h (subscription_events allow
    (record { n = suc (intent_number h); mode = On; topic = topic; echo = echo; callback = callback; secret = secret; granted = granted; alg = alg }))))

-- a request to unsubscribe
abbrev pub unsubscribe_answer : List Event → Alg → List ℕ → List ℕ → List ℕ → Answer
unsubscribe_answer h alg topic echo callback =
    within_pending h (within_numbers h (Asked
    (record { n = suc (intent_number h); mode = Off; topic = topic; echo = echo; callback = callback; secret = []; granted = 0; alg = alg }) ∷ []))

-- each of them once, in order of first mention
abbrev pub first_mentions : List (List ℕ) → List (List ℕ)
first_mentions [] = []
first_mentions (x ∷ xs) = x ∷ filter (λ y. not (bytes_eq x y)) (first_mentions xs)

abbrev pub has_live_lease : List Event → ℕ → List ℕ → Bool
has_live_lease h t topic = list_any (λ l. bytes_eq l.intent.topic topic) (live h t)

-- a request to publish: a ping of each named topic that has a live lease at t
abbrev pub publish_answer : List Event → ℕ → List (List ℕ) → Answer
publish_answer h t topics = within_serials h (map (λ topic. Pinged topic) (filter (has_live_lease h t) (first_mentions topics)))
