-- The bytes that answer a request (RFC 9110, section 15; the texts are own).
use Rattle.std.specs.Prelude.{◌≡◌, ℕ, Bool, ◌==◌, if◌then◌else◌, List, [], ◌++◌, Result, Ok, Err, codes}
use Rattle.std.specs.Fmt.{decimal}
use Rattle.ws_model.specs.declared.answers.Kind.{Kind}
use Rattle.ws_model.specs.declared.answers.Kind.TheVariants.{Pending, Leases, Numbers, Journal}
use Rattle.ws_model.specs.declared.settings.Policy.{Policy}
use Rattle.ws_form.specs.declared.ask.Ask.{Ask}
use Rattle.ws_form.specs.declared.fault.AskFault.{AskFault}
use Rattle.ws_form.specs.FaultText.{fault_text}
use Rattle.ws_form.specs.Form.{ask_in}
use Rattle.ws_http.specs.Texts.{response_text}
use Rattle.ws_port.specs.declared.fault.DeskFault.{DeskFault}
use Rattle.ws_port.specs.declared.fault.DeskFault.TheVariants.{Disk, Full, NoMemory}
use Rattle.ws_port.specs.declared.port.Told.{Told}
use Rattle.ws_model.specs.declared.bytes.NoMemory.{NoMemory as Wanting}
use Rattle.ws_front.specs.declared.answer.Answer.{Answer}
use Rattle.ws_front.specs.declared.refusal.Refusal.{Refusal}
use Rattle.ws_front.specs.declared.refusal.Refusal.TheVariants.{BadRequest, TooLarge, NotFound, PostOnly, FormOnly}
use Rattle.ws_front.specs.Rules.{Ruling, waits, refused, form, Says, Rules}

-- ---- final answers

-- the code and the text of a final answer
pub record Response : Type 0 where
  pub code : ℕ
  pub text : List ℕ

-- its bytes; a 405 says which method is allowed (RFC 9110, section 15.5.6)
abbrev pub response_bytes : Response → List ℕ
response_bytes r = response_text r.code (r.code == 405) r.text

abbrev pub refusal_response : Refusal → Response
refusal_response BadRequest = record { code = 400; text = codes "bad request" }
refusal_response TooLarge = record { code = 413; text = codes "too large" }
refusal_response NotFound = record { code = 404; text = codes "not found" }
refusal_response PostOnly = record { code = 405; text = codes "post only" }
refusal_response FormOnly = record { code = 415; text = codes "form only" }

abbrev pub accepted : Response
accepted = record { code = 202; text = codes "accepted" }

abbrev pub storage_fault : Response
storage_fault = record { code = 500; text = codes "storage fault" }

abbrev pub no_memory : Response
no_memory = record { code = 507; text = codes "no memory" }

abbrev pub fault_response : AskFault → Response
fault_response fault = record { code = 400; text = fault_text fault }

-- what is full
abbrev pub kind_text : Kind → List ℕ
kind_text Pending = codes "pending"
kind_text Leases = codes "leases"
kind_text Numbers = codes "numbers"
kind_text Journal = codes "journal"

abbrev pub full_text : Kind → ℕ → ℕ → List ℕ
full_text kind held limit = codes "full: " ++ kind_text kind ++ codes " " ++ decimal held ++ codes " of " ++ decimal limit

-- the answer to a request, by what the desk said of it
abbrev pub desk_response : Result Told DeskFault → Response
desk_response (Ok told) = accepted
desk_response (Err Disk) = storage_fault
desk_response (Err (Full kind held asked limit)) = record { code = 503; text = full_text kind held limit }
desk_response (Err NoMemory) = no_memory

-- ---- what was asked of the desk

-- Nothing; nothing, since memory was wanting before; or a request, which it answered so.
pub data Heard : Type 0 where
  nothing : Heard
  wanting : Heard
  request : Ask → Result Told DeskFault → Heard

-- ---- the answer to a message

-- The answer to a form: the text of its first fault, or what the desk said of what it asks for (WebSub, section 5.1).
abbrev pub FormAnswers : Heard → Result Ask AskFault → Response → Type 0
FormAnswers nothing (Ok ask) r = ⊥
FormAnswers nothing (Err fault) r = r ≡ fault_response fault
FormAnswers wanting meant r = r ≡ no_memory
FormAnswers (request ask said) meant r = (meant ≡ Ok ask) × (r ≡ desk_response said)

-- The final answer. The desk is asked only for what a form asks for.
abbrev pub Answers : Bool → Ruling → Heard → Response → Type 0
Answers gateway waits heard r = ⊥
Answers gateway (refused refusal) nothing r = r ≡ refusal_response refusal
Answers gateway (refused refusal) wanting r = r ≡ no_memory
Answers gateway (refused refusal) (request ask said) r = ⊥
Answers gateway (form body) heard r = FormAnswers heard (ask_in gateway body) r

-- the line that asks a waiting sender for the body (RFC 9110, section 15.2.1)
abbrev pub interim_line : Bool → List ℕ
interim_line due = if due then codes "HTTP/1.1 100 Continue\r\n\r\n" else []

-- The bytes of the answer to the message that stands in these bytes, by this policy and what was asked of the desk.
pub record AnswerBytes (policy : Policy) (bytes : List ℕ) (heard : Heard) (response : Response) (out : List ℕ) : Type 0 where
  pub says : Says
  pub rules : Rules policy.hub bytes says
  pub answers : Answers policy.gateway says.ruling heard response
  pub text : out ≡ interim_line says.interim ++ response_bytes response

-- an answer that was made has this code and these bytes
pub record IsAnswer (r : Response) (code : ℕ) (bytes : List ℕ) : Type 0 where
  pub code_is : code ≡ r.code
  pub bytes_are : bytes ≡ response_bytes r

-- an answer was made, or there was no memory for it, which is answered so
abbrev pub Gives : Response → Result Answer Wanting → Type 0
Gives r (Ok answer) = IsAnswer r answer.code answer.bytes
Gives r (Err fault) = r ≡ no_memory
