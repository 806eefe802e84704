-- The bodies that stay kept once another version of a topic is its latest one (own).
use Rattle.std.specs.Prelude.{ℕ, Bool, not, ◌&&◌, ◌||◌, List, bytes_eq, filter}
use Rattle.std.specs.List.{sum_by}
use Rattle.std.specs.Map.{values_of}
use Rattle.std.specs.Ordering.{nat_cmp}
use Rattle.std.specs.BTreeSet.{BTreeSet, contains}
use Rattle.ws_model.specs.declared.event.Version.{Version}
use Rattle.ws_topic.specs.ByTopic.{at_topic}
use Rattle.ws_topic.specs.Rows.{is_number, size}

-- its number is among these, or it is the latest version of another topic
abbrev pub is_besides : List ℕ → BTreeSet ℕ → List (List ℕ × ℕ) → ℕ × Version → Bool
is_besides topic among latest e = contains nat_cmp among e.0 || (not (bytes_eq topic e.1.topic) && is_number (at_topic e.1.topic latest) e.0)

-- the bytes of the bodies of such versions
abbrev pub bodies_besides : List ℕ → BTreeSet ℕ → List (List ℕ × ℕ) → List (ℕ × Version) → ℕ
bodies_besides topic among latest versions = sum_by size (values_of (filter (is_besides topic among latest) versions))
