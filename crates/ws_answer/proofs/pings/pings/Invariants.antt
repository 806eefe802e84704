use Rattle.std.proofs.Common.{◌≡◌, ◌≤◌, ℕ, List, take, map, filter}
use Rattle.ws_model.specs.declared.event.Event.{Event}
use Rattle.ws_model.specs.declared.event.What.TheVariants.{Pinged}
use Rattle.ws_model.specs.Answer.{first_mentions, has_live_lease}
use Rattle.ws_model.specs.Legal.{Legal}
use Rattle.ws_core_tables.specs.Stands.{StandsFor}
use Rattle.ws_answer.proofs.pings.pings.Given as goal

abbrev pub invariant-loop-at : goal.invariant-loop-at
invariant-loop-at l =
    record {
      pinged : (h : List Event) (since : ℕ) → StandsFor h since l.tables → Legal h → since ≤ l.t
          → l.events.items ≡ map (λ topic. Pinged topic) (filter (has_live_lease h l.t) (first_mentions (take l.at l.topics)));
    }
