-- The bodies that stay kept once another version of a topic is its latest one (own).
use Rattle.std.specs.Prelude.{ℕ, Bool, not, ◌&&◌, ◌||◌, ◌==◌, List, bytes_eq, filter, length, map}
use Rattle.std.specs.List.{list_any, sum}
use Rattle.ws_model.specs.declared.event.Event.{Event}
use Rattle.ws_model.specs.declared.event.Version.{Version}
use Rattle.ws_model.specs.Pairs.{owed}
use Rattle.ws_model.specs.Versions.{is_version, latest_of, versions}

-- the version is owed at t to some lease, or it is the latest one of another topic
abbrev pub stays_kept : List Event → ℕ → List ℕ → Version → Bool
stays_kept h t topic v = list_any (λ p. p.version.ver == v.ver) (owed h t) || (not (bytes_eq topic v.topic) && is_version v.ver (latest_of v.topic h))

-- the bytes of the bodies of such versions
abbrev pub kept_besides : List Event → ℕ → List ℕ → ℕ
kept_besides h t topic = sum (map (λ v. length v.body) (filter (stays_kept h t topic) (versions h)))
