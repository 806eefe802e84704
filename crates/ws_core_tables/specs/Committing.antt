-- Events that one request makes, applied together or not at all (own).
use Rattle.std.specs.Prelude.{◌≡◌, ℕ, suc, ◌≤◌, Bool, true, false, ◌&&◌, ◌||◌, List, [], ◌∷◌, length}
use Rattle.ws_model.specs.declared.event.Event.{Event}
use Rattle.ws_model.specs.declared.event.Intent.{Intent}
use Rattle.ws_model.specs.declared.event.What.{What}
use Rattle.ws_model.specs.declared.event.What.TheVariants.{Asked, Pinged}
use Rattle.ws_model.specs.Legal.{Legal}
use Rattle.ws_model.specs.Moment.{serial}
use Rattle.ws_intent.specs.Rows.{settled, with_row}
use Rattle.ws_intent.specs.declared.kinds.Settle.TheVariants.{Declined}
use Rattle.ws_topic.specs.Restored.{pinged_rows, restored, with_fetches}
use Rattle.ws_core_tables.specs.declared.committing.Before.{Before}
use Rattle.ws_core_tables.specs.Numbers.{with_event}
use Rattle.ws_core_tables.specs.Rows.{Rows}
use Rattle.ws_core_tables.specs.Stands.{StandsFor}

-- ---- histories

-- the history, followed by these events, oldest first
abbrev pub followed : List Event → List Event → List Event
followed [] h = h
followed (e ∷ es) h = followed es (e ∷ h)

-- the history, followed by what happens at t, each under the next serial
abbrev pub committed : ℕ → List What → List Event → List Event
committed t [] h = h
committed t (w ∷ ws) h = committed t ws (record { serial = suc (serial h); t = t; what = w } ∷ h)

-- the events by which it is followed, oldest first
abbrev pub numbered : ℕ → List What → List Event → List Event
numbered t [] h = []
numbered t (w ∷ ws) h = record { serial = suc (serial h); t = t; what = w } ∷ numbered t ws (record { serial = suc (serial h); t = t; what = w } ∷ h)

-- the first of them doesn't come before this moment
abbrev pub Begins : ℕ → List Event → Type 0
Begins since [] = Unit {0}
Begins since (e ∷ es) = since ≤ e.t

-- the time of the last of them
abbrev pub moment : ℕ → List Event → ℕ
moment since [] = since
moment since (e ∷ es) = moment e.t es

-- ---- what may be applied together

-- a request and a ping can be taken back without memory
abbrev pub can_be_undone : What → Bool
can_be_undone (Asked i) = true
can_be_undone (Pinged topic) = true
can_be_undone _ = false

abbrev pub is_none_left : List What → Bool
is_none_left [] = true
is_none_left (w ∷ ws) = false

abbrev pub all_but_last : (What → Bool) → List What → Bool
all_but_last test [] = true
all_but_last test (w ∷ ws) = (is_none_left ws || test w) && all_but_last test ws

-- What one request or one revocation makes: one thing of any kind, a request with its denial, or pings. All but
-- the last can be taken back, and they are few.
pub record GoTogether (ws : List What) : Type 0 where
  pub undone : all_but_last can_be_undone ws ≡ true
  pub few : length ws ≤ 16

-- what stands for a history goes over to what stands for the history with the events, from the time of the last on
abbrev pub AllGoOn : List Event → Rows → Rows → Type 0
AllGoOn es old new = (h : List Event) (since : ℕ) → StandsFor h since old → Legal (followed es h) → Begins since es → StandsFor (followed es h) (moment since es) new

-- a history for which the tables stand, and which the events may follow, one after the other
pub record CanAllFollow (rows : Rows) (es : List Event) : Type 0 where
  pub past : List Event
  pub since : ℕ
  pub stands : StandsFor past since rows
  pub legal : Legal (followed es past)
  pub in_time : Begins since es

-- a history for which the tables stand, and after which this may happen at t, one after the other
pub record CanHappen (rows : Rows) (t : ℕ) (ws : List What) : Type 0 where
  pub past : List Event
  pub since : ℕ
  pub stands : StandsFor past since rows
  pub legal : Legal (committed t ws past)
  pub in_time : since ≤ t

-- ---- what is done, and taken back

-- the tables with a request
abbrev pub with_asked : Event → Intent → Rows → Rows
with_asked e i rows =
    record {
      intents = record { pending = with_row i.n (record { intent = i; unheard = 0 }) rows.intents.pending; notices = rows.intents.notices };
      leases = rows.leases;
      topics = rows.topics;
      deliveries = rows.deliveries;
      numbers = with_event e rows.numbers;
    }

-- the tables with a ping
abbrev pub with_pinged : Event → List ℕ → Rows → Rows
with_pinged e topic rows =
    record { intents = rows.intents; leases = rows.leases; topics = pinged_rows topic e.serial rows.topics; deliveries = rows.deliveries; numbers = with_event e rows.numbers }

-- the tables with what stood before a request or a ping
abbrev pub taken_back : What → Before → Rows → Rows
taken_back (Asked i) before rows =
    record { intents = settled i.n Declined rows.intents; leases = rows.leases; topics = rows.topics; deliveries = rows.deliveries; numbers = before.numbers }
taken_back (Pinged topic) before rows =
    record { intents = rows.intents; leases = rows.leases; topics = with_fetches (restored topic before.ping rows.topics.fetches) rows.topics; deliveries = rows.deliveries; numbers = before.numbers }
taken_back _ before rows =
    record { intents = rows.intents; leases = rows.leases; topics = rows.topics; deliveries = rows.deliveries; numbers = before.numbers }
