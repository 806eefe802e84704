-- What reading a request comes to (own).
use Rattle.std.specs.Prelude.{◌≡◌, ◌≢◌, ℕ, ◌<◌, ◌≤◌, Bool, true, false, List, [], length, take, Option, None, Result, Ok, Err, IsErrOf}
use Rattle.std.specs.Io.KnownBytes.{Consumes, Appends}
use Rattle.ws_model.specs.Cause.{Rose}
use Rattle.httparse.specs.Grammar.{RequestHead, ReadsRequest}
use Rattle.ws_http.specs.declared.fed.Fed.{Fed}
use Rattle.ws_http.specs.declared.fed.Fed.TheVariants.{More}
use Rattle.ws_http.specs.Requests.{Verdict, whole, is_final, is_headed, Tells, IsRequest}
use Rattle.ws_http.specs.RequestStages.{Reading, verdict}
use Rattle.ws_front.specs.declared.message.Message.{Message}
use Rattle.ws_front.specs.declared.message.Message.TheVariants.{Refused, Form}
use Rattle.ws_front.specs.declared.read.Stop.{Stop}
use Rattle.ws_front.specs.declared.read.Stop.TheVariants as stop
use Rattle.ws_front.specs.Moves.{IsAll, AppendsSome}
use Rattle.ws_front.specs.Rules.{Ruling, refused, form, Says, Rules, head_refusal, awaits}
use Rattle.ws_front.specs.Answers.{nothing, interim_line}
use Rattle.ws_front.specs.Reading.{IsOpen}
use Rattle.ws_front.specs.Connection.{AtOnce, IsUnanswered, IsCutInLine}

-- a message that is refused, or whole with this form
abbrev pub RulingIs : Message → Verdict → Ruling → Type 0
RulingIs (Refused refusal) v r = r ≡ refused refusal
RulingIs Form v r = (n : ℕ) × (body : List ℕ) × (v ≡ whole n body) × (r ≡ form body)

-- The rules say this of the bytes that were read, since the last piece; the interim line was written where it was due.
pub record IsMessage (hub bytes out : List ℕ) (message : Message) (v : Verdict) : Type 0 where
  pub says : Says
  pub rules : Rules hub bytes says
  pub line : out ≡ interim_line says.interim
  pub message_is : RulingIs message v says.ruling
  pub interim : Bool
  pub at_once : AtOnce hub bytes interim

abbrev pub IsRead : List ℕ → Option (List ℕ) → List ℕ → List ℕ → Verdict → Result Message Stop → Type 0
IsRead hub left bytes out v (Ok message) = IsMessage hub bytes out message v
IsRead hub left bytes out v (Err stop.Empty) = (bytes ≡ []) × (out ≡ []) × IsAll left bytes
IsRead hub left bytes out v (Err stop.Cut) = IsUnanswered hub bytes out nothing × (0 < length bytes) × IsAll left bytes
IsRead hub left bytes out v (Err stop.ReadFault) = IsUnanswered hub bytes out nothing
IsRead hub left bytes out v (Err stop.WriteFault) = IsCutInLine hub bytes out nothing

-- These bytes were read and these written, and the reader has come to this verdict.
pub record Requests (hub : List ℕ) (left left' written written' : Option (List ℕ)) (v : Verdict) (result : Result Message Stop) : Type 0 where
  pub bytes : List ℕ
  pub out : List ℕ
  pub read : Consumes left left' bytes
  pub wrote : Appends written written' out
  pub is : IsRead hub left bytes out v result

-- counts don't fall, and a failure comes only where its count rose
pub record HasStopCause {T : Type 0} (reads reads' writes writes' : ℕ) (result : Result T Stop) : Type 0 where
  pub reads_later : reads ≤ reads'
  pub writes_later : writes ≤ writes'
  pub read : IsErrOf result stop.ReadFault → Rose reads reads'
  pub write : IsErrOf result stop.WriteFault → Rose writes writes'

-- ---- the steps of it

-- the interim line was written where it was due, or a part of it
abbrev pub GivesLine : Bool → Option (List ℕ) → Option (List ℕ) → Result (Unit {0}) Stop → Type 0
GivesLine due written written' (Ok u) = Appends written written' (interim_line due)
GivesLine due written written' (Err stop.WriteFault) = (due ≡ true) × AppendsSome written written' (interim_line true)
GivesLine due written written' (Err other) = ⊥

-- a reader that said this
pub record HasSaid (r : Reading) (fed : Fed) : Type 0 where
  pub going_on : is_final (verdict r) ≡ false → (came : List ℕ) × IsOpen r came
  pub tells : Tells fed (verdict r)
  pub says : fed ≢ More

-- These bytes, of which all but the last piece show no head, show one that isn't refused.
pub record Passes (hub bytes : List ℕ) (due : Bool) (r : Reading) : Type 0 where
  pub head : RequestHead
  pub rest : List ℕ
  pub reads : ReadsRequest (take 16384 bytes) head rest
  pub unrefused : head_refusal hub head ≡ None
  pub due_is : due ≡ awaits head
  pub judged : IsRequest 16384 bytes (verdict r)
  pub headed : is_headed (verdict r) ≡ true
  pub going_on : is_final (verdict r) ≡ false → IsOpen r bytes
  pub at_once : AtOnce hub bytes false

-- the count doesn't fall, and a failure comes only where it rose
pub record HasSinkCause {T : Type 0} (writes writes' : ℕ) (result : Result T Stop) : Type 0 where
  pub later : writes ≤ writes'
  pub failed : IsErrOf result stop.WriteFault → Rose writes writes'
