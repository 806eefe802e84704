-- What serving one connection reads, writes and asks for (own).
use Rattle.std.specs.Prelude.{◌≡◌, ℕ, ◌<◌, ◌≤◌, ◌⊎◌, Bool, true, false, List, [], ◌++◌, length, Option, Result}
use Rattle.std.specs.Io.KnownBytes.{Consumes, Appends}
use Rattle.ws_model.specs.declared.event.Event.{Event}
use Rattle.ws_model.specs.declared.settings.Policy.{Policy}
use Rattle.ws_model.specs.declared.settings.Settings.{Settings}
use Rattle.ws_model.specs.Cause.{Rose}
use Rattle.ws_form.specs.declared.ask.Ask.{Ask}
use Rattle.ws_port.specs.declared.fault.DeskFault.{DeskFault}
use Rattle.ws_port.specs.declared.port.Told.{Told}
use Rattle.ws_port.specs.Calls.{Answered, HubTime, IsDiskCause, IsUnstored, Said, uses_time}
use Rattle.ws_port.specs.Requests.{answer}
use Rattle.ws_front.specs.declared.served.Served.{Served}
use Rattle.ws_front.specs.declared.served.Served.TheVariants as how
use Rattle.ws_front.specs.Moves.{IsPrefix, IsAll}
use Rattle.ws_front.specs.Rules.{Says, Rules, Waits}
use Rattle.ws_front.specs.Answers.{Response, Heard, nothing, wanting, request, AnswerBytes, interim_line, response_bytes}

-- ---- bytes

-- Nothing but the interim line was said of the bytes before the last piece that was read, of at most 8,192 bytes.
pub record AtOnce (hub bytes : List ℕ) (interim : Bool) : Type 0 where
  pub before : List ℕ
  pub piece : List ℕ
  pub split : bytes ≡ before ++ piece
  pub some : 0 < length piece
  pub short : length piece ≤ 8192
  pub waits : Waits hub before interim

-- It was answered with this code as soon as there was an answer, and nothing was read from then on.
pub record IsAnswered (policy : Policy) (bytes out : List ℕ) (heard : Heard) (code : ℕ) : Type 0 where
  pub response : Response
  pub code_is : response.code ≡ code
  pub bytes_are : AnswerBytes policy bytes heard response out
  pub interim : Bool
  pub at_once : AtOnce policy.hub bytes interim

-- Reading stopped before there was an answer: what was written is the interim line, where it was due.
pub record IsUnanswered (hub bytes out : List ℕ) (heard : Heard) : Type 0 where
  pub interim : Bool
  pub waits : Waits hub bytes interim
  pub line : out ≡ interim_line interim
  pub unheard : heard ≡ nothing

-- a part of the interim line was written, as soon as it was due, and nothing asked
pub record IsCutInLine (hub bytes out : List ℕ) (heard : Heard) : Type 0 where
  pub says : Says
  pub rules : Rules hub bytes says
  pub due : says.interim ≡ true
  pub part : IsPrefix out (interim_line true)
  pub at_once : AtOnce hub bytes false
  pub unheard : heard ≡ nothing

-- The interim line was written, where it was due, and a part of the final answer, as soon as there was one.
pub record IsCutInAnswer (policy : Policy) (bytes out : List ℕ) (heard : Heard) : Type 0 where
  pub response : Response
  pub due : Bool
  pub bytes_are : AnswerBytes policy bytes heard response (interim_line due ++ response_bytes response)
  pub part : List ℕ
  pub line : out ≡ interim_line due ++ part
  pub is_part : IsPrefix part (response_bytes response)
  pub interim : Bool
  pub at_once : AtOnce policy.hub bytes interim

-- What was read and written, and what was asked of the desk, by how serving ended.
abbrev pub IsServed : Policy → Option (List ℕ) → List ℕ → List ℕ → Heard → Served → Type 0
IsServed policy left bytes out heard (how.Answered code) = IsAnswered policy bytes out heard code
IsServed policy left bytes out heard how.Empty = (bytes ≡ []) × (out ≡ []) × (heard ≡ nothing) × IsAll left bytes
IsServed policy left bytes out heard how.Cut = IsUnanswered policy.hub bytes out heard × (0 < length bytes) × IsAll left bytes
IsServed policy left bytes out heard how.ReadFault = IsUnanswered policy.hub bytes out heard
IsServed policy left bytes out heard how.WriteFault = IsCutInLine policy.hub bytes out heard ⊎ IsCutInAnswer policy bytes out heard
IsServed policy left bytes out heard how.NoMemory = (bytes ≡ []) × (out ≡ []) × (heard ≡ nothing)

-- ---- the port

-- A port was asked at the clock's value `now`, and answered as the calls of ports do.
pub record WasAsked {P : Type 0} (sole stored : Bool) (seen : P → List Event → Type 0) (settings : P → Settings) (moment faults : P → ℕ) (now : ℕ) (old new : P) (ask : Ask) (said : Result Told DeskFault) : Type 0 where
  pub answered : (h : List Event) → seen old h → Answered sole (seen new) (uses_time said) (moment new) (Said (λ g. answer g (moment new) ask (settings old).policy) said) h
  pub time : HubTime sole (uses_time said) now (moment old) (moment new)
  pub cause : IsDiskCause (faults old) (faults new) said
  pub unstored : stored ≡ false → IsUnstored said

-- what was asked of it is all that happened to the port
abbrev pub Hears : {P : Type 0} → Bool → Bool → (P → List Event → Type 0) → (P → Settings) → (P → ℕ) → (P → ℕ) → ℕ → P → P → Heard → Type 0
Hears sole stored seen settings moment faults now old new nothing = new ≡ old
Hears sole stored seen settings moment faults now old new wanting = new ≡ old
Hears sole stored seen settings moment faults now old new (request ask said) = WasAsked sole stored seen settings moment faults now old new ask said

-- ---- both together

-- A connection was served: these bytes were read and these written, and this was asked of the port.
pub record Serves (policy : Policy) (left left' written written' : Option (List ℕ)) (PortHears : Heard → Type 0) (served : Served) : Type 0 where
  pub heard : Heard
  pub bytes : List ℕ
  pub out : List ℕ
  pub read : Consumes left left' bytes
  pub wrote : Appends written written' out
  pub served_is : IsServed policy left bytes out heard served
  pub port : PortHears heard

-- ---- causes

-- The counts don't fall. A read or a write is only said to have failed where its count rose, and 500 is only answered
-- where the count of the port's disk faults did.
pub record HasServedCause (reads reads' writes writes' disks disks' : ℕ) (served : Served) : Type 0 where
  pub reads_later : reads ≤ reads'
  pub writes_later : writes ≤ writes'
  pub disks_later : disks ≤ disks'
  pub read : served ≡ how.ReadFault → Rose reads reads'
  pub write : served ≡ how.WriteFault → Rose writes writes'
  pub disk : served ≡ how.Answered 500 → Rose disks disks'
