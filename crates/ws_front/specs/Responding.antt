-- What answering a message comes to (own).
use Rattle.std.specs.Prelude.{◌≡◌, ◌≢◌, ℕ, ◌≤◌, Bool, List, Option, Result, Ok, Err, ⊤}
use Rattle.std.specs.Io.KnownBytes.{Appends}
use Rattle.ws_model.specs.declared.bytes.NoMemory.{NoMemory}
use Rattle.ws_model.specs.Cause.{Rose}
use Rattle.ws_form.specs.declared.ask.Ask.{Ask}
use Rattle.ws_form.specs.declared.fault.AskFault.{AskFault}
use Rattle.ws_form.specs.declared.fault.AskFault.TheVariants.{NoMemory as Starved}
use Rattle.ws_http.specs.Requests.{Verdict, IsWhole}
use Rattle.ws_front.specs.declared.answer.Answer.{Answer}
use Rattle.ws_front.specs.declared.message.Message.{Message}
use Rattle.ws_front.specs.declared.message.Message.TheVariants.{Refused, Form}
use Rattle.ws_front.specs.declared.served.Served.{Served}
use Rattle.ws_front.specs.declared.served.Served.TheVariants as how
use Rattle.ws_front.specs.Moves.{AppendsSome}
use Rattle.ws_front.specs.Rules.{Ruling}
use Rattle.ws_front.specs.Answers.{Response, Heard, nothing, wanting, request, Answers, Gives, no_memory, desk_response, fault_response, response_bytes, IsAnswer}

-- The answer to a request by what the desk heard: it is asked, but where memory was wanting before.
abbrev pub AskAnswers : Ask → Heard → Response → Type 0
AskAnswers ask nothing r = ⊥
AskAnswers ask wanting r = r ≡ no_memory
AskAnswers ask (request asked said) r = (asked ≡ ask) × (r ≡ desk_response said)

-- What was asked of the port, and the answer that followed.
pub record RespondsToAsk (ask : Ask) (PortHears : Heard → Type 0) (result : Result Answer NoMemory) : Type 0 where
  pub heard : Heard
  pub response : Response
  pub answers : AskAnswers ask heard response
  pub gives : Gives response result
  pub port : PortHears heard

pub record Responds (gateway : Bool) (ruling : Ruling) (PortHears : Heard → Type 0) (result : Result Answer NoMemory) : Type 0 where
  pub heard : Heard
  pub response : Response
  pub answers : Answers gateway ruling heard response
  pub gives : Gives response result
  pub port : PortHears heard

-- A form with a fault is answered with the fault's text, where there is memory for it.
abbrev pub RefusesForm : AskFault → Result Answer NoMemory → Type 0
RefusesForm fault (Ok answer) = (fault ≢ Starved) × IsAnswer (fault_response fault) answer.code answer.bytes
RefusesForm fault (Err e) = ⊤

-- a form stands in a whole message
abbrev pub HasForm : Message → Verdict → Type 0
HasForm (Refused refusal) v = ⊤
HasForm Form v = IsWhole v

-- The final answer was written, or a part of it.
abbrev pub Sends : Response → Option (List ℕ) → Option (List ℕ) → Served → Type 0
Sends r written written' (how.Answered code) = (code ≡ r.code) × Appends written written' (response_bytes r)
Sends r written written' how.WriteFault = AppendsSome written written' (response_bytes r)
Sends r written written' other = ⊥

-- What was asked of the port, and the answer that was written then.
pub record Finishes (gateway : Bool) (ruling : Ruling) (PortHears : Heard → Type 0) (written written' : Option (List ℕ)) (served : Served) : Type 0 where
  pub heard : Heard
  pub response : Response
  pub answers : Answers gateway ruling heard response
  pub port : PortHears heard
  pub sends : Sends response written written' served

-- the count doesn't fall, and a write is only said to have failed where it rose
pub record HasSendCause (writes writes' : ℕ) (served : Served) : Type 0 where
  pub later : writes ≤ writes'
  pub failed : served ≡ how.WriteFault → Rose writes writes'
