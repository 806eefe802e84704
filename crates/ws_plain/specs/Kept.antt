-- What is kept, by what a compaction has found out beforehand (own).
use Rattle.std.specs.Prelude.{ℕ, Bool, false, ◌&&◌, ◌||◌, List, nat_lt, ◌==◌, bytes_eq}
use Rattle.std.specs.List.{list_any}
use Rattle.ws_model.specs.declared.event.Event.{Event}
use Rattle.ws_model.specs.declared.event.Intent.{Intent}
use Rattle.ws_model.specs.declared.event.Version.{Version}
use Rattle.ws_model.specs.declared.event.What.{What}
use Rattle.ws_model.specs.declared.event.What.TheVariants.{Asked, Confirmed, Declined, Unheard, Barred, Noticed, Pinged, Fetched, Same, Unfetched, Pushed, Tally, Revoked}
use Rattle.ws_model.specs.Fate.{Pair}
use Rattle.ws_model.specs.Intents.{pending, notices}
use Rattle.ws_model.specs.Keep.{is_among, kept_leases, member}
use Rattle.ws_model.specs.Pairs.{owed}
use Rattle.ws_model.specs.Versions.{Ping, fetches, latest}

-- a version of this number is among the latest ones, or among those of the owed pairs
abbrev pub is_version_in : List Version → List Pair → ℕ → Bool
is_version_in latest owed v = list_any (λ w. w.ver == v) latest || list_any (λ p. p.version.ver == v) owed

-- one of the pings
abbrev pub is_ping_in : List Ping → Event → List ℕ → Bool
is_ping_in pings e topic = list_any (λ p. bytes_eq p.topic topic && (p.serial == e.serial)) pings

-- after one of the pings
abbrev pub is_miss_in : List Ping → Event → List ℕ → Bool
is_miss_in pings e topic = list_any (λ p. bytes_eq p.topic topic && nat_lt p.serial e.serial) pings

-- what a compaction goes by: pending intents, intents with an owed notice, owed fetches, the latest
-- versions, owed pairs, and the numbers of the kept leases
pub record Found : Type 0 where
  pub pending : List Intent
  pub notices : List Intent
  pub fetches : List Ping
  pub latest : List Version
  pub owed : List Pair
  pub leases : List ℕ

-- what it goes by at a moment of a history
abbrev pub found : List Event → ℕ → Found
found h t =
    record {
      pending = pending h;
      notices = notices h;
      fetches = fetches h;
      latest = latest h;
      owed = owed h t;
      leases = kept_leases h t;
    }

-- whether the event is kept, by its kind
abbrev pub keeps_by : Found → Event → What → Bool
keeps_by f e (Asked i) = is_among f.pending i.n || is_among f.notices i.n || member i.n f.leases
keeps_by f e (Confirmed n sent) = member n f.leases
keeps_by f e (Declined n code) = false
keeps_by f e (Unheard n) = is_among f.pending n
keeps_by f e (Barred n reason) = is_among f.notices n
keeps_by f e (Noticed n heard) = is_among f.notices n
keeps_by f e (Pinged topic) = is_ping_in f.fetches e topic
keeps_by f e (Fetched v) = is_version_in f.latest f.owed v.ver
keeps_by f e (Same topic upto) = false
keeps_by f e (Unfetched topic upto why) = is_miss_in f.fetches e topic
keeps_by f e (Pushed v n how) = is_version_in f.latest f.owed v && member n f.leases
keeps_by f e (Tally c) = false
keeps_by f e (Revoked n reason) = member n f.leases

-- the version and the lease of the pair are kept
abbrev pub keeps_pair : Found → Pair → Bool
keeps_pair f p = is_version_in f.latest f.owed p.version.ver && member p.lease.intent.n f.leases
