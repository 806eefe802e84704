-- What a request, and an operator's word, make of a history (WebSub sections 5.1 to 5.3; by the definitions of answers and of
-- revocation).
use Rattle.std.specs.Prelude.{ℕ, List, [], ◌∷◌, Option, Some, None}
use Rattle.ws_model.specs.declared.event.Event.{Event}
use Rattle.ws_model.specs.declared.event.What.{What}
use Rattle.ws_model.specs.declared.settings.Policy.{Policy}
use Rattle.ws_model.specs.Answer.{Answer, subscribe_answer, unsubscribe_answer, publish_answer, within_serials}
use Rattle.ws_model.specs.Revocation.{revocation}
use Rattle.ws_form.specs.declared.ask.Ask.{Ask}
use Rattle.ws_form.specs.declared.ask.Ask.TheVariants.{Subscribe, Unsubscribe, Publish}

-- the answer to a request at t, under this policy
abbrev pub answer : List Event → ℕ → Ask → Policy → Answer
answer h t (Subscribe topic echo callback secret granted) policy = subscribe_answer h t policy.allow policy.alg topic echo callback secret granted
answer h t (Unsubscribe topic echo callback) policy = unsubscribe_answer h policy.alg topic echo callback
answer h t (Publish topics) policy = publish_answer h t topics

abbrev pub one_or_none : Option What → List What
one_or_none None = []
one_or_none (Some w) = w ∷ []

-- the answer to an operator who revokes the lease of a topic and a callback at t: its event, where the lease is live, but none past the
-- last serial
abbrev pub revocation_answer : List Event → ℕ → List ℕ → List ℕ → Answer
revocation_answer h t topic callback = within_serials h (one_or_none (revocation h t topic callback))
