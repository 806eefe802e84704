-- For which history and moment such numbers stand, and what a core keeps of a history for them (own).
use Rattle.std.specs.Prelude.{◌≡◌, ℕ, Bool, true, false, ◌||◌, List, [], ◌∷◌, ◌++◌, filter, find, map, not, reverse, Option, Some, None}
use Rattle.ws_model.specs.declared.event.Event.{Event}
use Rattle.ws_model.specs.declared.event.Intent.{Intent}
use Rattle.ws_model.specs.declared.event.Version.{Version}
use Rattle.ws_model.specs.declared.event.What.{What}
use Rattle.ws_model.specs.declared.event.What.TheVariants.{Asked, Fetched, Tally}
use Rattle.ws_model.specs.declared.lease.Lease.{Lease}
use Rattle.ws_model.specs.Intents.{same_pair}
use Rattle.ws_model.specs.Keep.{keeps, kept_leases, member}
use Rattle.ws_model.specs.Leases.{confirmed_intent, lease_of, live}
use Rattle.ws_model.specs.Verdict.{is_kept_version}
use Rattle.ws_tries.specs.Stands.{is_any_push}
use Rattle.ws_kept.specs.declared.renewal.Renewal.{Renewal}
use Rattle.ws_kept.specs.Part.{IsPart}
use Rattle.ws_kept.specs.Rows.{Rows}

-- these are the versions and the leases that a compaction at t keeps of the history, and no others
pub record AreKept (h : List Event) (t : ℕ) (rows : Rows) : Type 0 where
  pub versions : (v : ℕ) → member v rows.versions ≡ is_kept_version h t v
  pub leases : (n : ℕ) → member n rows.leases ≡ member n (kept_leases h t)

-- ---- the log of a history

-- all events but the pushes, the oldest first
abbrev pub other_events : List Event → List Event
other_events h = reverse (filter (λ e. not (is_any_push e.what)) h)

-- a version without its texts and its body, which stand elsewhere
abbrev pub light_version : Version → Version
light_version v = record { ver = v.ver; topic = []; upto = v.upto; media = []; own_link = []; body = [] }

-- an intent without its texts, which stand elsewhere
abbrev pub light_intent : Intent → Intent
light_intent i = record { n = i.n; mode = i.mode; topic = []; echo = []; callback = []; secret = []; granted = i.granted; alg = i.alg }

abbrev pub light : What → What
light (Fetched v) = Fetched (light_version v)
light (Asked i) = Asked (light_intent i)
light w = w

abbrev pub light_event : Event → Event
light_event e = record { serial = e.serial; t = e.t; what = light e.what }

-- all events but the pushes, the oldest first, intents and fetched versions without their texts and bodies
abbrev pub log_of : List Event → List Event
log_of h = map light_event (other_events h)

-- ---- which lease replaced which

-- the new lease n, and the intent of the lease that it replaces, where there is one
abbrev pub with_old : ℕ → Option Lease → List Renewal
with_old n None = []
with_old n (Some m) = record { lease = n; replaced = m.intent } ∷ []

-- a new lease, and which of the live leases has its topic and callback
abbrev pub replaces : List Lease → List Lease → List Renewal
replaces live [] = []
replaces live (l ∷ ls) = with_old l.intent.n (find (λ m. same_pair l.intent m.intent) live)

-- the new leases of a history with those that they replaced, the newest first
abbrev pub renewals : List Event → List Renewal
renewals [] = []
renewals (e ∷ h) = replaces (live h e.t) (lease_of e.what (confirmed_intent e.what h)) ++ renewals h

-- ---- without what no compaction would keep

abbrev pub is_tally : What → Bool
is_tally (Tally c) = true
is_tally _ = false

-- a compaction at t keeps the event, or it is a Tally, which tells what earlier ones forgot
abbrev pub is_needed : List Event → ℕ → Event → Bool
is_needed h t e = is_tally e.what || keeps h t e e.what

-- the log, perhaps without events that no compaction from `since` on keeps: that it is such a part is said, not in which way
abbrev pub IsLogged : List Event → ℕ → List Event → Type 0
IsLogged h since log = ∥ IsPart (λ e. is_needed h since e ≡ true) log (log_of h) ∥₁

-- the renewals, the oldest first, perhaps without those whose old lease no compaction from `since` on keeps
abbrev pub AreRenewed : List Event → ℕ → List Renewal → Type 0
AreRenewed h since rows = ∥ IsPart (λ r. member r.replaced.n (kept_leases h since) ≡ true) rows (reverse (renewals h)) ∥₁
