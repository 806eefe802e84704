-- The intent of a request, and what the request makes (WebSub sections 5.1 and 5.2).
use Rattle.std.specs.Prelude.{ℕ, Bool, true, false, List, [], ◌∷◌, codes}
use Rattle.ws_model.specs.declared.event.Intent.{Intent}
use Rattle.ws_model.specs.declared.event.What.{What}
use Rattle.ws_model.specs.declared.event.What.TheVariants.{Asked, Barred}
use Rattle.ws_answer.specs.declared.subscription.Wish.{Wish}

-- the wish, under a number
abbrev pub intent_of : ℕ → Wish → Intent
intent_of n w =
    record {
      n = n;
      mode = w.mode;
      topic = w.topic.now;
      echo = w.echo.now;
      callback = w.callback.now;
      secret = w.secret.now;
      granted = w.granted;
      alg = w.alg;
    }

-- the request, with its denial or without
abbrev pub events_of : Bool → Intent → List What
events_of true i = Asked i ∷ Barred i.n (codes "topic not allowed") ∷ []
events_of false i = Asked i ∷ []
