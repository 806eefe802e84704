-- What an answer to a request is, as a call gives it (WebSub sections 5.1 to 5.3, by the definition of answers).
use Rattle.std.specs.Prelude.{◌≡◌, ℕ, Bool, true, false, List, [], ◌∷◌, Result, Ok, Err, Vec}
use Rattle.ws_model.specs.declared.event.What.{What}
use Rattle.ws_model.specs.declared.answers.Kind.{Kind}
use Rattle.ws_model.specs.Answer.{Answer, Events, Full as IsFull}
use Rattle.ws_answer.specs.declared.fault.CoreFault.{CoreFault}
use Rattle.ws_answer.specs.declared.fault.CoreFault.TheVariants.{Full, NoMemory}

-- the call gives this answer, but that there may be no memory
abbrev pub Answers : {A : Type 0} → Answer → Result (Vec What A) CoreFault → Type 0
Answers a (Ok events) = a ≡ Events events.items
Answers a (Err (Full kind held asked limit)) = a ≡ IsFull kind held asked limit
Answers a (Err NoMemory) = Unit {0}

-- it is full exactly where the test says so, with these numbers
abbrev pub IsRoom : {T : Type 0} → Bool → Kind → ℕ → ℕ → ℕ → Result T CoreFault → Type 0
IsRoom full kind held asked limit (Ok x) = full ≡ false
IsRoom full kind held asked limit (Err e) = (full ≡ true) × (e ≡ Full kind held asked limit)

-- a topic, unless it was mentioned before
abbrev pub unless : Bool → List ℕ → List (List ℕ)
unless true topic = []
unless false topic = topic ∷ []
