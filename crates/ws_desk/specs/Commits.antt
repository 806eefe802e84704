-- What a call of a desk does to its history (own).
use Rattle.std.specs.Prelude.{◌≡◌, ℕ, suc, ◌+◌, ◌<◌, min, max, Bool, true, false, List, [], ◌∷◌, length, Result, Ok, Err}
use Rattle.std.specs.List.{list_all}
use Rattle.ws_model.specs.declared.answers.Kind.{Kind}
use Rattle.ws_model.specs.declared.event.Event.{Event}
use Rattle.ws_model.specs.declared.event.What.{What}
use Rattle.ws_model.specs.declared.event.What.TheVariants.{Tally}
use Rattle.ws_model.specs.Answer.{Answer, Events, Full}
use Rattle.ws_model.specs.Legal.{number_limit}
use Rattle.ws_model.specs.Moment.{serial}
use Rattle.ws_commit.specs.Laws.{MayCommit}
use Rattle.ws_port.specs.Calls.{committed, last_moment}
use Rattle.ws_port.specs.declared.fault.DeskFault.{DeskFault}
use Rattle.ws_port.specs.declared.fault.DeskFault.TheVariants.{Disk, Full as IsFull, NoMemory}
use Rattle.ws_port.specs.declared.port.Told.{Told}
use Rattle.ws_desk.specs.declared.owner.Desk.{Desk}
use Rattle.ws_desk.specs.Seen.{Seen, moment_of}

-- it is no Tally, which carries times of its own
abbrev pub is_new : What → Bool
is_new (Tally c) = false
is_new _ = true

abbrev pub are_new : List What → Bool
are_new whats = list_all is_new whats

-- the hub time of a call at the clock's value `now`, after the hub time `used`
abbrev pub hub_time : ℕ → ℕ → ℕ
hub_time now used = max (min now last_moment) used

-- what was seen is seen still
abbrev pub Keeps : Desk → Desk → Type 0
Keeps old new = (h : List Event) → Seen old h → Seen new h

-- each history that was seen goes on by all that happens at t, and is seen then
abbrev pub Commits : ℕ → List What → Desk → Desk → Type 0
Commits t whats old new = (h : List Event) → Seen old h → MayCommit h t whats → Seen new (committed t whats h)

-- so many events are told, and how long each history that was seen is with them
pub record Tells (whats : List What) (old : Desk) (told : Told) : Type 0 where
  pub events : told.events ≡ length whats
  pub at : (h : List Event) → Seen old h → told.at ≡ length whats + length h

-- the events of the answer were added at t
pub record Added (answer : List Event → Answer) (t : ℕ) (old new : Desk) (told : Told) : Type 0 where
  pub whats : List What
  pub answers : (h : List Event) → Seen old h → answer h ≡ Events whats
  pub adds : (h : List Event) → Seen old h → Seen new (committed t whats h)
  pub tells : Tells whats old told
  pub time : moment_of new ≡ t

-- the answer is that something is full, and t is used
pub record Refused (answer : List Event → Answer) (t : ℕ) (old new : Desk) (kind : Kind) (held asked limit : ℕ) : Type 0 where
  pub answers : (h : List Event) → Seen old h → answer h ≡ Full kind held asked limit
  pub keeps : Keeps old new
  pub time : moment_of new ≡ t

-- A call at the hub time t, by what it answers: it did what the answer to its request says, or there was no memory, and nothing changed.
abbrev pub Does : (List Event → Answer) → ℕ → Desk → Desk → Result Told DeskFault → Type 0
Does answer t old new (Ok told) = Added answer t old new told
Does answer t old new (Err (IsFull kind held asked limit)) = Refused answer t old new kind held asked limit
Does answer t old new (Err NoMemory) = new ≡ old
Does answer t old new (Err Disk) = ⊥

-- it is no Tally, and may happen at t after each history that was seen and has a serial left for it
pub record MayEnd (t : ℕ) (what : What) (desk : Desk) : Type 0 where
  pub new : is_new what ≡ true
  pub may : (h : List Event) → Seen desk h → suc (serial h) < number_limit → MayCommit h t (what ∷ [])
