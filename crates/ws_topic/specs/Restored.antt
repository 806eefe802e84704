-- A ping that is taken back (own).
use Rattle.std.specs.Prelude.{ℕ, List, Option, Some, None, option_map}
use Rattle.std.specs.Ordering.{nat_cmp}
use Rattle.std.specs.Cmp.Lexicographic.{slice_cmp}
use Rattle.std.specs.Map.{set_value}
use Rattle.std.specs.BTreeMap.{is_at}
use Rattle.ws_topic.specs.declared.rows.LastPing.{LastPing}
use Rattle.ws_topic.specs.declared.rows.OwedFetch.{OwedFetch}
use Rattle.ws_topic.specs.ByTopic.{at_topic, with_topic, without_topic}
use Rattle.ws_topic.specs.Rows.{Rows}

abbrev pub ping_of : OwedFetch → LastPing
ping_of f = record { serial = f.serial; missed = f.missed }

-- the latest ping of a topic whose fetch is owed
abbrev pub last_ping : List ℕ → Rows → Option LastPing
last_ping topic rows = option_map ping_of (at_topic topic rows.fetches)

-- the fetch, from this ping on
abbrev pub with_ping : LastPing → OwedFetch → OwedFetch
with_ping p f = record { topic = f.topic; serial = p.serial; missed = p.missed }

abbrev pub restored_row : List ℕ → LastPing → List (List ℕ × OwedFetch) → Option OwedFetch → List (List ℕ × OwedFetch)
restored_row topic p es None = es
restored_row topic p es (Some f) = set_value (is_at (slice_cmp nat_cmp topic)) es (with_ping p f)

-- the fetch of the topic is owed from the ping before on, or not owed where there was none
abbrev pub restored : List ℕ → Option LastPing → List (List ℕ × OwedFetch) → List (List ℕ × OwedFetch)
restored topic None es = without_topic topic es
restored topic (Some p) es = restored_row topic p es (at_topic topic es)

abbrev pub with_fetches : List (List ℕ × OwedFetch) → Rows → Rows
with_fetches es rows = record { versions = rows.versions; latest = rows.latest; fetches = es }

-- the rows after a ping of this serial
abbrev pub pinged_rows : List ℕ → ℕ → Rows → Rows
pinged_rows topic serial rows = with_fetches (with_topic topic (record { topic = topic; serial = serial; missed = 0 }) rows.fetches) rows
