-- Versions of topics (WebSub section 6), and the fetches that are owed (own).
use Rattle.std.specs.Prelude.{ℕ, Bool, false, not, ◌&&◌, List, [], ◌∷◌, ◌++◌, nat_lt, nat_le, ◌==◌, bytes_eq, Option, Some, None, find, filter}
use Rattle.ws_model.specs.declared.event.Event.{Event}
use Rattle.ws_model.specs.declared.event.What.{What}
use Rattle.ws_model.specs.declared.event.What.TheVariants.{Pinged, Fetched, Same, Unfetched}
use Rattle.ws_model.specs.declared.event.Version.{Version}
use Rattle.ws_model.specs.History.{has, times, since}

abbrev pub versions_of : What → List Version
versions_of (Fetched v) = v ∷ []
versions_of _ = []

-- the versions, the newest first
abbrev pub versions : List Event → List Version
versions [] = []
versions (e ∷ h) = versions_of e.what ++ versions h

abbrev pub is_fetched : ℕ → What → Bool
is_fetched v (Fetched w) = w.ver == v
is_fetched v _ = false

-- the latest version of a topic: its last Fetched
abbrev pub latest_of : List ℕ → List Event → Option Version
latest_of topic h = find (λ v. bytes_eq v.topic topic) (versions h)

abbrev pub is_version : ℕ → Option Version → Bool
is_version n None = false
is_version n (Some v) = v.ver == n

-- the latest version of each topic, the newest first
abbrev pub latest : List Event → List Version
latest h = filter (λ v. is_version v.ver (latest_of v.topic h)) (versions h)

-- ---- fetches

-- a Pinged event: its topic and its serial
pub record Ping : Type 0 where
  pub topic : List ℕ
  pub serial : ℕ

abbrev pub pings_of : Event → What → List Ping
pings_of e (Pinged topic) = record { topic = topic; serial = e.serial } ∷ []
pings_of e _ = []

-- the pings, the newest first
abbrev pub pings : List Event → List Ping
pings [] = []
pings (e ∷ h) = pings_of e e.what ++ pings h

abbrev pub is_ping : List ℕ → What → Bool
is_ping topic (Pinged of) = bytes_eq of topic
is_ping topic _ = false

-- a Fetched or a Same of the topic, whose fetch began at or after the ping
abbrev pub is_answer : Ping → What → Bool
is_answer p (Fetched v) = bytes_eq v.topic p.topic && nat_le p.serial v.upto
is_answer p (Same topic upto) = bytes_eq topic p.topic && nat_le p.serial upto
is_answer p _ = false

abbrev pub is_unfetched : List ℕ → What → Bool
is_unfetched topic (Unfetched of upto why) = bytes_eq of topic
is_unfetched topic _ = false

-- how many fetches of the topic were missed since its latest ping
abbrev pub missed_fetches : List ℕ → List Event → ℕ
missed_fetches topic h = times (is_unfetched topic) (since (is_ping topic) h)

abbrev pub is_ping_at : ℕ → Option Ping → Bool
is_ping_at s None = false
is_ping_at s (Some p) = p.serial == s

-- it is the latest ping of its topic, no fetch that began after it gave an answer, and fewer than
-- three were missed since
abbrev pub is_owed_fetch : List Event → Ping → Bool
is_owed_fetch h p =
    is_ping_at p.serial (find (λ q. bytes_eq q.topic p.topic) (pings h))
    && not (has (is_answer p) h)
    && nat_lt (missed_fetches p.topic h) 3

-- the latest ping of each topic whose fetch is owed, the newest first
abbrev pub fetches : List Event → List Ping
fetches h = filter (is_owed_fetch h) (pings h)
