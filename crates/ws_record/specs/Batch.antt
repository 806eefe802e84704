-- The text of a batch of events (own), and what has one.
use Rattle.std.specs.Prelude.{◌≡◌, ℕ, ◌<◌, ◌^◌, List, [], ◌∷◌, ◌++◌, length}
use Rattle.std.specs.List.{flat_map, AllByRecursion}
use Rattle.std.specs.Int.{w16, w32, w64}
use Rattle.ws_model.specs.declared.event.Event.{Event}
use Rattle.ws_model.specs.declared.event.What.{What}
use Rattle.ws_model.specs.declared.event.What.TheVariants.{Asked, Confirmed, Declined, Unheard, Barred, Noticed, Pinged, Fetched, Same, Unfetched, Pushed, Tally, Revoked}
use Rattle.ws_model.specs.declared.event.How.{How}
use Rattle.ws_model.specs.declared.event.How.TheVariants.{Done, Gone, Missed}
use Rattle.ws_record.specs.Text.{Field, number, bytes, mode, alg, flag, how, number_text, field_text, NumberFits, FieldFits}

-- The kinds of event by their numbers,
abbrev pub kind : What → ℕ
kind (Asked i) = 1
kind (Confirmed n sent) = 2
kind (Declined n code) = 3
kind (Unheard n) = 4
kind (Barred n reason) = 5
kind (Noticed n heard) = 6
kind (Pinged topic) = 7
kind (Fetched v) = 8
kind (Same topic upto) = 9
kind (Unfetched topic upto why) = 10
kind (Pushed ver lease h) = 11
kind (Tally c) = 12
kind (Revoked n reason) = 13

-- and the fields of each kind, in their order.
abbrev pub fields : What → List Field
fields (Asked i) = number w64 i.n ∷ mode i.mode ∷ bytes i.topic ∷ bytes i.echo ∷ bytes i.callback ∷ bytes i.secret ∷ number w32 i.granted ∷ alg i.alg ∷ []
fields (Confirmed n sent) = number w64 n ∷ number w64 sent ∷ []
fields (Declined n code) = number w64 n ∷ number w16 code ∷ []
fields (Unheard n) = number w64 n ∷ []
fields (Barred n reason) = number w64 n ∷ bytes reason ∷ []
fields (Noticed n heard) = number w64 n ∷ flag heard ∷ []
fields (Pinged topic) = bytes topic ∷ []
fields (Fetched v) = number w64 v.ver ∷ bytes v.topic ∷ number w64 v.upto ∷ bytes v.media ∷ bytes v.own_link ∷ bytes v.body ∷ []
fields (Same topic upto) = bytes topic ∷ number w64 upto ∷ []
fields (Unfetched topic upto why) = bytes topic ∷ number w64 upto ∷ number w16 why ∷ []
fields (Pushed ver lease h) = number w64 ver ∷ number w64 lease ∷ how h ∷ []
fields (Tally c) =
    number w64 c.now ∷ number w64 c.serial ∷ number w64 c.intent ∷ number w64 c.version
    ∷ number w64 c.answered ∷ number w64 c.expired ∷ number w64 c.unsubscribed ∷ number w64 c.replaced
    ∷ number w64 c.gone ∷ number w64 c.spent ∷ number w64 c.revoked ∷ []
fields (Revoked n reason) = number w64 n ∷ bytes reason ∷ []

-- the number of the kind in one byte, and the fields
abbrev pub what_text : What → List ℕ
what_text w = kind w ∷ flat_map field_text (fields w)

abbrev pub WhatFits : What → Type 0
WhatFits w = AllByRecursion FieldFits (fields w)

-- the serial, the time, and what happened
abbrev pub event_text : Event → List ℕ
event_text e = number_text w64 e.serial ++ (number_text w64 e.t ++ what_text e.what)

pub record EventFits (e : Event) : Type 0 where
  pub serial : NumberFits w64 e.serial
  pub time : e.t < 2 ^ 48
  pub what : WhatFits e.what

-- this many events, each of which has a text
abbrev pub AreEvents : ℕ → List Event → Type 0
AreEvents count es = (length es ≡ count) × AllByRecursion EventFits es

-- the number of the events, and the events
unfoldable pub batch_text : List Event → List ℕ
batch_text es = number_text w32 (length es) ++ flat_map event_text es

-- Events are a batch where there is at least one, and each one has a text.
pub record IsBatch (es : List Event) : Type 0 where
  pub some : 0 < length es
  pub few : length es < 2 ^ 32
  pub fit : AllByRecursion EventFits es

-- a push of this version to this lease ended so
abbrev pub pushed_event : ℕ → ℕ → ℕ → ℕ → How → Event
pushed_event serial t ver lease h = record { serial = serial; t = t; what = Pushed ver lease h }

-- the length of the text of that one event
abbrev pub pushed_len : How → ℕ
pushed_len Done = 38
pushed_len Gone = 38
pushed_len (Missed code) = 40
