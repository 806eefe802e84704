-- For which history the rows of the table stand (own).
use Rattle.std.specs.Prelude.{◌≡◌, ℕ, Bool, true, false, List, ◌∷◌, Option, Some, None, IfSome, map, find, option_map, ◌==◌, bytes_eq}
use Rattle.ws_model.specs.declared.event.Event.{Event}
use Rattle.ws_model.specs.declared.event.What.{What}
use Rattle.ws_model.specs.declared.event.What.TheVariants.{Asked, Confirmed, Declined, Unheard, Barred, Noticed, Pushed, Tally, Revoked}
use Rattle.ws_model.specs.declared.event.Version.{Version}
use Rattle.ws_model.specs.Versions.{fetches, latest_of, versions}
use Rattle.ws_model.specs.View.{OwedFetch as FetchView, owed_fetch}
use Rattle.ws_topic.specs.declared.rows.OwedFetch.{OwedFetch}
use Rattle.ws_topic.specs.ByTopic.{at_topic}
use Rattle.ws_topic.specs.Rows.{Rows, number_at}

abbrev pub as_fetch : OwedFetch → FetchView
as_fetch f = record { topic = f.topic; serial = f.serial; missed = f.missed }

abbrev pub version_number : Option Version → Option ℕ
version_number o = option_map (λ v. v.ver) o

-- At each topic stands the number of its latest version, which is kept; each kept version is the
-- fetched one of its number; and at each topic stands the owed fetch that the history has there.
pub record StandsFor (rows : Rows) (h : List Event) : Type 0 where
  pub latest_at : (topic : List ℕ) → at_topic topic rows.latest ≡ version_number (latest_of topic h)
  pub latest_kept : (topic : List ℕ) → IfSome (latest_of topic h) (λ v. number_at v.ver rows.versions ≡ Some v)
  pub kept : (n : ℕ) → IfSome (number_at n rows.versions) (λ v. find (λ w. w.ver == n) (versions h) ≡ Some v)
  pub fetch_at : (topic : List ℕ) → option_map as_fetch (at_topic topic rows.fetches) ≡ find (λ f. bytes_eq f.topic topic) (map (owed_fetch h) (fetches h))

-- an event of a kind that changes no version and no fetch
abbrev pub is_other : What → Bool
is_other (Asked i) = true
is_other (Confirmed n sent) = true
is_other (Declined n code) = true
is_other (Unheard n) = true
is_other (Barred n reason) = true
is_other (Noticed n heard) = true
is_other (Pushed v n how) = true
is_other (Tally c) = true
is_other (Revoked n reason) = true
is_other _ = false

-- what stands for a history stands for it with such an event too
abbrev pub OthersStand : Type 0
OthersStand = (rows : Rows) (h : List Event) (e : Event) → StandsFor rows h → is_other e.what ≡ true → StandsFor rows (e ∷ h)
