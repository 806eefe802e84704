-- For which history the tables stand (own).
use Rattle.std.specs.Prelude.{◌≡◌, ℕ, ◌≤◌, Bool, true, false, List, [], ◌∷◌, Option, Some, None, IfSome, IsSome, find, ◌==◌}
use Rattle.ws_model.specs.declared.event.Event.{Event}
use Rattle.ws_model.specs.declared.event.What.{What}
use Rattle.ws_model.specs.declared.event.What.TheVariants.{Asked, Declined, Unheard, Barred, Noticed, Pinged, Same, Unfetched}
use Rattle.ws_model.specs.declared.event.Version.{Version}
use Rattle.ws_model.specs.declared.work.Work.{Work}
use Rattle.ws_model.specs.declared.work.Work.TheVariants.{Verify, Notice, Fetch, Push}
use Rattle.ws_model.specs.declared.lease.Lease.{Lease}
use Rattle.ws_model.specs.History.{has}
use Rattle.ws_model.specs.Leases.{expiry, leases}
use Rattle.ws_model.specs.Legal.{Legal}
use Rattle.ws_model.specs.Versions.{is_fetched}
use Rattle.ws_intent.specs.Stands.{StandsFor as IntentsStand}
use Rattle.ws_lease.specs.Stands.{StandsFor as LeasesStand}
use Rattle.ws_topic.specs.Rows.{number_at}
use Rattle.ws_topic.specs.Stands.{StandsFor as TopicsStand}
use Rattle.ws_delivery.specs.declared.open_pair.OpenPair.{OpenPair}
use Rattle.ws_delivery.specs.Table.{Rows as DeliveryRows, carried, pair_at}
use Rattle.ws_delivery.specs.Stands.{StandsFor as DeliveriesStand}
use Rattle.ws_core_tables.specs.declared.due.DueWork.{DueWork}
use Rattle.ws_core_tables.specs.declared.due.DueWork.TheVariants.{Verify as DueVerify, Notice as DueNotice, Fetch as DueFetch, Push as DuePush}
use Rattle.ws_core_tables.specs.Numbers.{numbers_of}
use Rattle.ws_core_tables.specs.Rows.{Rows}

-- the version of an open pair was fetched, and its end is that of its lease
pub record IsOfHistory (h : List Event) (v n : ℕ) (p : OpenPair) : Type 0 where
  pub fetched : has (is_fetched v) h ≡ true
  pub lease : Lease
  pub leased : find (λ l. l.intent.n == n) (leases h) ≡ Some lease
  pub end : p.exp ≡ expiry lease

-- the version of each open pair is kept
abbrev pub AreKept : DeliveryRows → List (ℕ × Version) → Type 0
AreKept deliveries versions = (v n : ℕ) → IfSome (pair_at v n deliveries) (λ p. IsSome (number_at v versions))

-- From the moment `since` on each table stands for the history, and the numbers are the history's. All
-- open pairs, also those whose leases have expired, are of its versions and leases, and their versions
-- are kept.
pub record StandsFor (h : List Event) (since : ℕ) (rows : Rows) : Type 0 where
  pub intents : IntentsStand rows.intents h
  pub leases : LeasesStand h since rows.leases
  pub topics : TopicsStand rows.topics h
  pub deliveries : DeliveriesStand h since rows.deliveries
  pub pairs : (v n : ℕ) → IfSome (pair_at v n rows.deliveries) (IsOfHistory h v n)
  pub kept : AreKept rows.deliveries rows.topics.versions
  pub numbers : rows.numbers ≡ numbers_of h

-- what stands for a history goes over to what stands for the history with the event
abbrev pub GoesOn : Event → Rows → Rows → Type 0
GoesOn e old new = (h : List Event) (since : ℕ) → StandsFor h since old → Legal (e ∷ h) → since ≤ e.t → StandsFor (e ∷ h) e.t new

-- a history for which the tables stand, and which the event may follow
pub record CanFollow (rows : Rows) (e : Event) : Type 0 where
  pub past : List Event
  pub since : ℕ
  pub stands : StandsFor past since rows
  pub legal : Legal (e ∷ past)
  pub in_time : since ≤ e.t

abbrev pub first_of : {X : Type 0} → List X → Option X
first_of [] = None
first_of (x ∷ xs) = Some x

abbrev pub work_of : DueWork → Work
work_of (DueVerify n) = Verify n
work_of (DueNotice n) = Notice n
work_of (DueFetch topic upto) = Fetch topic.now upto
work_of (DuePush ver lease) = Push ver lease

-- the kinds of event that only the table of intents keeps
abbrev pub is_of_intents : What → Bool
is_of_intents (Asked i) = true
is_of_intents (Declined n code) = true
is_of_intents (Unheard n) = true
is_of_intents (Barred n reason) = true
is_of_intents (Noticed n heard) = true
is_of_intents _ = false

-- the kinds of event that only the table of topics keeps
abbrev pub is_of_topics : What → Bool
is_of_topics (Pinged topic) = true
is_of_topics (Same topic upto) = true
is_of_topics (Unfetched topic upto why) = true
is_of_topics _ = false

-- it is this number
abbrev pub is_number : Option ℕ → ℕ → Bool
is_number None n = false
is_number (Some m) n = m == n

-- the pair of a version that a new lease takes over from an old one, where there is one: it is born at t
abbrev pub renewed : ℕ → ℕ → Option ℕ → ℕ → DeliveryRows → Option OpenPair
renewed exp t None v rows = None
renewed exp t (Some old) v rows = carried exp t (pair_at v old rows)
