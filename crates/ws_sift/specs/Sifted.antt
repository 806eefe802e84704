-- What is kept of a history, but the pushes, and what it is found from (own).
use Rattle.std.specs.Prelude.{◌≡◌, ℕ, ◌≤◌, Bool, true, not, ◌&&◌, ◌||◌, List, ◌++◌, Option, Some, None, filter, find, is_some, map, reverse, ◌==◌}
use Rattle.std.specs.List.{AllByRecursion}
use Rattle.std.specs.Option.{option_map}
use Rattle.ws_model.specs.declared.event.Event.{Event}
use Rattle.ws_model.specs.declared.event.Intent.{Intent}
use Rattle.ws_model.specs.declared.event.Version.{Version}
use Rattle.ws_model.specs.declared.event.What.{What}
use Rattle.ws_model.specs.declared.event.What.TheVariants.{Asked, Fetched}
use Rattle.ws_model.specs.Intents.{asked, notices, pending}
use Rattle.ws_model.specs.Keep.{first_kept, is_among, keeps, kept_leases, member}
use Rattle.ws_model.specs.Legal.{Legal}
use Rattle.ws_model.specs.Versions.{versions}
use Rattle.ws_tries.specs.Stands.{is_any_push}
use Rattle.ws_kept.specs.declared.renewal.Renewal.{Renewal}
use Rattle.ws_kept.specs.Rows.{Rows as KeptRows}
use Rattle.ws_kept.specs.Stands.{AreKept, light_event}
use Rattle.ws_core_tables.specs.Rows.{Rows as TableRows}
use Rattle.ws_core_tables.specs.Stands.{StandsFor}

-- it is no push, and a compaction at t keeps it
abbrev pub is_kept_other : List Event → ℕ → Event → Bool
is_kept_other h t e = not (is_any_push e.what) && keeps h t e e.what

-- the tables stand for the legal history by t, and these are the versions and leases that are kept then
pub record ArePast (h : List Event) (since t : ℕ) (rows : TableRows) (numbers : KeptRows) : Type 0 where
  pub stands : StandsFor h since rows
  pub kept : AreKept h t numbers
  pub legal : Legal h
  pub in_time : since ≤ t

abbrev pub version_in : What → Option Version
version_in (Fetched v) = Some v
version_in _ = None

abbrev pub intent_in : What → Option Intent
intent_in (Asked i) = Some i
intent_in _ = None

-- where a version was fetched, or something was asked for, it is what the history has by its number
pub record IsFoundIn (h : List Event) (e : Event) : Type 0 where
  pub version : (v : Version) → e.what ≡ Fetched v → find (λ w. w.ver == v.ver) (versions h) ≡ Some v
  pub intent : (i : Intent) → e.what ≡ Asked i → find (λ j. j.n == i.n) (asked h) ≡ Some i

-- ---- what was asked for

-- by the number of a kept lease, what was asked for it, where one of these renewals replaced it
abbrev pub replaced_in : List ℕ → List Renewal → ℕ → Option Intent
replaced_in kept rows n = option_map (λ r. r.replaced) (find (λ r. (r.replaced.n == n) && member n kept) rows)

-- By number it is what the history has that was asked for, and it is there for each lease that is kept at t, but for those that are live
-- or whose notices are owed.
pub record AreReplaced (h : List Event) (t : ℕ) (replaced : ℕ → Option Intent) : Type 0 where
  pub found : (n : ℕ) (i : Intent) → replaced n ≡ Some i → find (λ j. j.n == n) (asked h) ≡ Some i
  pub all : (n : ℕ) → member n (kept_leases h t) ≡ true → (member n (first_kept h t) || is_some (replaced n)) ≡ true

-- what was asked for under this number is pending, or its notice is owed, or its lease is kept at t
abbrev pub is_kept_number : List Event → ℕ → ℕ → Bool
is_kept_number h t n = is_among (pending h) n || is_among (notices h) n || member n (kept_leases h t)

-- the events of which the rest of the log is left, and what a compaction at t keeps of those before
pub record Sifts (h : List Event) (t : ℕ) (left events : List Event) : Type 0 where
  pub rest : List Event
  pub logged : left ≡ map light_event rest
  pub found : AllByRecursion (IsFoundIn h) rest
  pub done : events ++ filter (is_kept_other h t) rest ≡ reverse (filter (is_kept_other h t) h)
