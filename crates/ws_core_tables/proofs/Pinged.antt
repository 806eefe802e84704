-- The latest ping of a topic whose fetch is owed, as the table of topics and as the history has it.
use Rattle.std.proofs.Common.{◌≡◌, ℕ, List, refl, ap, ◌∙◌}
use Rattle.std.specs.Prelude.{Option, Some, None, bytes_eq, find}
use Rattle.std.specs.Option.{option_map}
use Rattle.ws_model.specs.declared.event.Event.{Event}
use Rattle.ws_model.specs.Versions.{Ping, fetches}
use Rattle.ws_model.specs.View.{OwedFetch as FetchView, owed_fetch}
use Rattle.ws_laws.proofs.ListLaws.{find-map}
use Rattle.ws_topic.specs.declared.rows.LastPing.{LastPing}
use Rattle.ws_topic.specs.declared.rows.OwedFetch.{OwedFetch}
use Rattle.ws_topic.specs.ByTopic.{at_topic}
use Rattle.ws_topic.specs.Restored.{last_ping, ping_of}
use Rattle.ws_topic.specs.Rows.{Rows as TopicRows}
use Rattle.ws_topic.specs.Stands.{StandsFor as TopicsStand, as_fetch}

row_serial : (o : Option OwedFetch) → option_map (λ (p : LastPing). p.serial) (option_map ping_of o) ≡ option_map (λ (f : FetchView). f.serial) (option_map as_fetch o)
row_serial None = refl
row_serial (Some f) = refl

ping_serial : (h : List Event) (o : Option Ping) → option_map (λ (f : FetchView). f.serial) (option_map (owed_fetch h) o) ≡ option_map (λ (p : Ping). p.serial) o
ping_serial h None = refl
ping_serial h (Some p) = refl

-- its serial
pub pinged_is :
    (h : List Event) (rows : TopicRows) (topic : List ℕ) → TopicsStand rows h
    → option_map (λ (p : LastPing). p.serial) (last_ping topic rows) ≡ option_map (λ (p : Ping). p.serial) (find (λ p. bytes_eq p.topic topic) (fetches h))
pinged_is h rows topic s =
    row_serial (at_topic topic rows.fetches)
    ∙ ap (option_map (λ (f : FetchView). f.serial)) (s.fetch_at topic ∙ find-map (owed_fetch h) (λ f. bytes_eq f.topic topic) (fetches h))
    ∙ ping_serial h (find (λ p. bytes_eq p.topic topic) (fetches h))
