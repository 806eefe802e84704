-- What the happenings of a script do to a hub, and what each writes (own).
use Rattle.std.specs.Prelude.{◌≡◌, ◌≢◌, ◌⊎◌, ℕ, ◌+◌, min, max, Bool, true, false, if◌then◌else◌, ◌==◌, List, [], ◌∷◌, ◌++◌, length, Option, Some, Result, Ok, Err, codes}
use Rattle.std.specs.Fmt.{decimal}
use Rattle.ws_model.specs.declared.event.Event.{Event}
use Rattle.ws_model.specs.declared.event.What.{What}
use Rattle.ws_model.specs.declared.settings.Settings.{Settings}
use Rattle.ws_model.specs.Account.{account}
use Rattle.ws_model.specs.Answer.{Answer, Events, Full}
use Rattle.ws_model.specs.Moment.{time}
use Rattle.ws_form.specs.declared.fault.AskFault.{AskFault}
use Rattle.ws_form.specs.declared.fault.AskFault.TheVariants.{NoMemory as Starved}
use Rattle.ws_form.specs.Form.{ask_in}
use Rattle.ws_port.specs.declared.fault.DeskFault.{DeskFault}
use Rattle.ws_port.specs.declared.fault.DeskFault.TheVariants.{Disk, Full as IsFull, NoMemory}
use Rattle.ws_port.specs.declared.port.Told.{Told}
use Rattle.ws_port.specs.Calls.{committed, last_moment}
use Rattle.ws_port.specs.Requests.{answer, revocation_answer}
use Rattle.ws_front.specs.declared.served.Served.{Served}
use Rattle.ws_front.specs.declared.served.Served.TheVariants as how
use Rattle.ws_front.specs.Answers.{Response, Heard, nothing, wanting, request, FormAnswers, desk_response, fault_response, no_memory}
use Rattle.ws_front.specs.Connection.{IsServed}
use Rattle.ws_front.specs.Moves.{IsPrefix}
use Rattle.ws_script.specs.declared.script.Happening.{Happening}
use Rattle.ws_script.specs.declared.script.Happening.TheVariants as happens
use Rattle.ws_drive.specs.AccountText.{account_text}

-- the settings, the clock, the last hub time used, and the history, newest first
pub record World : Type 0 where
  pub settings : Settings
  pub clock : ℕ
  pub used : ℕ
  pub history : List Event

abbrev pub start : Settings → World
start settings = record { settings = settings; clock = 0; used = 0; history = [] }

-- ---- hub time

-- The hub time of a call: the greatest of the clock, the last hub time used and the history's time.
abbrev pub now : World → ℕ
now w = max (min w.clock last_moment) (max w.used (time w.history))

abbrev pub at : ℕ → World → World
at t w = record { settings = w.settings; clock = t; used = w.used; history = w.history }

-- the world after a call that commits these events, in their order
abbrev pub with_events : List What → World → World
with_events made w = record { settings = w.settings; clock = w.clock; used = now w; history = committed (now w) made w.history }

-- ---- what the hub is asked, and what it says

-- It commits the answer's events, and tells their number and the length of the history with them; or it says what is full; or that
-- there is no memory, and then nothing changes. It keeps no journal, so it says nothing of a disk.
abbrev pub Tells : World → Answer → Result Told DeskFault → World → Type 0
Tells w a (Ok told) w' =
    (made : List What) × (a ≡ Events made) × (told.events ≡ length made) × (told.at ≡ length made + length w.history) × (w' ≡ with_events made w)
Tells w a (Err (IsFull kind held asked limit)) w' = (a ≡ Full kind held asked limit) × (w' ≡ with_events [] w)
Tells w a (Err NoMemory) w' = w' ≡ w
Tells w a (Err Disk) w' = ⊥

-- a request that it was asked is all that changes the world
abbrev pub Hears : World → Heard → World → Type 0
Hears w nothing w' = w' ≡ w
Hears w wanting w' = w' ≡ w
Hears w (request ask said) w' = Tells w (answer w.history (now w) ask w.settings.policy) said w'

-- ---- what is written

-- the line of an answer
abbrev pub answer_line : Response → List ℕ
answer_line r = codes "answer " ++ decimal r.code ++ codes " " ++ r.text ++ codes "\n"

-- the line of what the hub said to an operator who revokes
abbrev pub revoke_line : Result Told DeskFault → List ℕ
revoke_line (Ok told) = if told.events == 0 then codes "no lease\n" else codes "revoked\n"
revoke_line (Err fault) = answer_line (desk_response (Err fault))

-- the bytes that were written to a connection, and before them how many
abbrev pub connection_text : List ℕ → List ℕ
connection_text out = codes "out " ++ decimal (length out) ++ codes "\n" ++ out ++ codes "\n"

-- ---- happenings

-- A form: its first fault, or what the hub says of what it asks for. Where memory is wanting before the hub is asked, that is said.
pub record Forms (w : World) (body written : List ℕ) (w' : World) : Type 0 where
  pub heard : Heard
  pub response : Response
  pub answers : FormAnswers heard (ask_in w.settings.policy.gateway body) response
  pub line : written ≡ answer_line response
  pub hears : Hears w heard w'

-- the line of a fault, or that there was no memory for it
abbrev pub Refuses : AskFault → List ℕ → Type 0
Refuses fault written = (written ≡ answer_line no_memory) ⊎ ((fault ≢ Starved) × (written ≡ answer_line (fault_response fault)))

-- it was answered, or ended before
abbrev pub is_over : Served → Bool
is_over (how.Answered code) = true
is_over how.Empty = true
is_over how.Cut = true
is_over _ = false

-- A connection with these bytes and then the end: it was served, and some of the bytes were read.
pub record Connects (w : World) (bytes written : List ℕ) (w' : World) : Type 0 where
  pub heard : Heard
  pub served : Served
  pub taken : List ℕ
  pub out : List ℕ
  pub over : is_over served ≡ true
  pub part : IsPrefix taken bytes
  pub served_is : IsServed w.settings.policy (Some bytes) taken out heard served
  pub text : written ≡ connection_text out
  pub hears : Hears w heard w'

-- An operator's word: the lease of this topic and this callback ends, where there is a live one.
pub record Revokes (w : World) (topic callback written : List ℕ) (w' : World) : Type 0 where
  pub said : Result Told DeskFault
  pub line : written ≡ revoke_line said
  pub tells : Tells w (revocation_answer w.history (now w) topic callback) said w'

-- a happening writes this, and the world is so afterwards
abbrev pub Plays : World → Happening → List ℕ → World → Type 0
Plays w (happens.At t) written w' = (written ≡ []) × (w' ≡ at t w)
Plays w (happens.Form body) written w' = Forms w body written w'
Plays w (happens.In bytes) written w' = Connects w bytes written w'
Plays w (happens.Revoke topic callback) written w' = Revokes w topic.key callback.key written w'
Plays w happens.Sum written w' = (written ≡ account_text (account w.history (now w))) × (w' ≡ with_events [] w)
Plays w happens.End written w' = (written ≡ []) × (w' ≡ w)

-- happenings, one after another: what they write together, and the world afterwards
abbrev pub AllPlay : World → List Happening → List ℕ → World → Type 0
AllPlay w [] written w' = (written ≡ []) × (w' ≡ w)
AllPlay w (h ∷ hs) written w' =
    (first : List ℕ) × (next : World) × Plays w h first next
    × (others : List ℕ) × AllPlay next hs others w' × (written ≡ first ++ others)
