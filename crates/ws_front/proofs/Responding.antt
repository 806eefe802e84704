-- What follows from an answer that was made.
use Rattle.std.proofs.Common.{◌≡◌, ℕ, ◌<◌, Bool, List, lit<, refl, sym, ap, ◌∙◌, subst, arith, Result, Ok, Err, IfOk}
use Rattle.ws_model.specs.declared.bytes.NoMemory.{NoMemory}
use Rattle.ws_form.specs.declared.ask.Ask.{Ask}
use Rattle.ws_form.specs.declared.fault.AskFault.{AskFault}
use Rattle.ws_form.specs.Answers.{Gives as Means}
use Rattle.ws_form.specs.Form.{ask_in}
use Rattle.ws_port.specs.declared.fault.DeskFault.{DeskFault}
use Rattle.ws_port.specs.declared.fault.DeskFault.TheVariants.{Disk, Full, NoMemory as Starved}
use Rattle.ws_port.specs.declared.port.Told.{Told}
use Rattle.ws_front.specs.declared.answer.Answer.{Answer}
use Rattle.ws_front.specs.declared.refusal.Refusal.{Refusal}
use Rattle.ws_front.specs.declared.refusal.Refusal.TheVariants.{BadRequest, TooLarge, NotFound, PostOnly, FormOnly}
use Rattle.ws_front.specs.Rules.{Ruling, waits, refused, form}
use Rattle.ws_front.specs.Answers.{Response, Heard, nothing, wanting, request, Answers, FormAnswers, Gives, IsAnswer, no_memory, refusal_response, fault_response, desk_response}
use Rattle.ws_front.specs.Responding.{AskAnswers, RespondsToAsk, Responds, RefusesForm}

module _ (gateway : Bool) (PortHears : Heard → Type 0) where
  asked_by : (body : List ℕ) (ask : Ask) (result : Result Answer NoMemory) → ask_in gateway body ≡ Ok ask → (heard : Heard) (r : Response)
      → AskAnswers ask heard r → Gives r result → PortHears heard → Responds gateway (form body) PortHears result
  asked_by body ask result meant nothing r a g p = absurd a
  asked_by body ask result meant wanting r a g p = record { heard = wanting; response = r; answers = a; gives = g; port = p }
  asked_by body ask result meant (request asked said) r a g p =
      record { heard = request asked said; response = r; answers = (meant ∙ ap Ok (sym a.0), a.1); gives = g; port = p }

  -- a form that asks for something
  pub form_asked : (body : List ℕ) (ask : Ask) (result : Result Answer NoMemory) → ask_in gateway body ≡ Ok ask → RespondsToAsk ask PortHears result
      → Responds gateway (form body) PortHears result
  form_asked body ask result meant r = asked_by body ask result meant r.heard r.response r.answers r.gives r.port

  -- a form with a fault
  pub form_refused : (body : List ℕ) (fault : AskFault) (result : Result Answer NoMemory) → Means (ask_in gateway body) (Err fault) → RefusesForm fault result
      → PortHears nothing → PortHears wanting → Responds gateway (form body) PortHears result
  form_refused body fault (Ok a) meant r unasked starved = record {
    heard = nothing;
    response = fault_response fault;
    answers = subst (λ (m : Result Ask AskFault). FormAnswers nothing m (fault_response fault)) (sym (meant r.0)) refl;
    gives = r.1;
    port = unasked;
  }
  form_refused body fault (Err e) meant r unasked starved =
      record { heard = wanting; response = no_memory; answers = refl; gives = refl; port = starved }

  -- a refused message
  pub message_refused : (refusal : Refusal) (ruling : Ruling) (result : Result Answer NoMemory) → ruling ≡ refused refusal
      → IfOk result (λ (a : Answer). IsAnswer (refusal_response refusal) a.code a.bytes) → PortHears nothing → PortHears wanting → Responds gateway ruling PortHears result
  message_refused refusal ruling (Ok a) e is unasked starved = record {
    heard = nothing;
    response = refusal_response refusal;
    answers = subst (λ (k : Ruling). Answers gateway k nothing (refusal_response refusal)) (sym e) refl;
    gives = is;
    port = unasked;
  }
  message_refused refusal ruling (Err x) e is unasked starved = record {
    heard = wanting;
    response = no_memory;
    answers = subst (λ (k : Ruling). Answers gateway k wanting no_memory) (sym e) refl;
    gives = refl;
    port = starved;
  }

-- ---- the port's disk

below_500 : (n : ℕ) → n < 500 → n ≡ 500 → ⊥
below_500 n h e = omega arith

above_500 : (n : ℕ) → 500 < n → n ≡ 500 → ⊥
above_500 n h e = omega arith

refusal_not_500 : (r : Refusal) → (refusal_response r).code ≡ 500 → ⊥
refusal_not_500 BadRequest e = below_500 400 (lit< tt) e
refusal_not_500 TooLarge e = below_500 413 (lit< tt) e
refusal_not_500 NotFound e = below_500 404 (lit< tt) e
refusal_not_500 PostOnly e = below_500 405 (lit< tt) e
refusal_not_500 FormOnly e = below_500 415 (lit< tt) e

by_disk : (said : Result Told DeskFault) → (desk_response said).code ≡ 500 → said ≡ Err Disk
by_disk (Ok told) e = absurd (below_500 202 (lit< tt) e)
by_disk (Err Disk) e = refl
by_disk (Err (Full kind held asked limit)) e = absurd (above_500 503 (lit< tt) e)
by_disk (Err Starved) e = absurd (above_500 507 (lit< tt) e)

-- the code of an answer that is known
code_of : (r s : Response) → r ≡ s → r.code ≡ 500 → s.code ≡ 500
code_of r s a e = sym (ap (λ (x : Response). x.code) a) ∙ e

form_not_500 : (m : Result Ask AskFault) (r : Response) → FormAnswers nothing m r → r.code ≡ 500 → ⊥
form_not_500 (Ok ask) r a e = a
form_not_500 (Err fault) r a e = below_500 400 (lit< tt) (code_of r (fault_response fault) a e)

-- the answer 500 comes only where the disk failed
pub only_disk : (gateway : Bool) (ruling : Ruling) (heard : Heard) (r : Response) → Answers gateway ruling heard r → r.code ≡ 500
    → (ask : Ask) × (heard ≡ request ask (Err Disk))
only_disk gateway waits heard r a e = absurd a
only_disk gateway (refused refusal) nothing r a e = absurd (refusal_not_500 refusal (code_of r (refusal_response refusal) a e))
only_disk gateway (refused refusal) wanting r a e = absurd (above_500 507 (lit< tt) (code_of r no_memory a e))
only_disk gateway (refused refusal) (request ask said) r a e = absurd a
only_disk gateway (form body) nothing r a e = absurd (form_not_500 (ask_in gateway body) r a e)
only_disk gateway (form body) wanting r a e = absurd (above_500 507 (lit< tt) (code_of r no_memory a e))
only_disk gateway (form body) (request ask said) r a e = (ask, ap (request ask) (by_disk said (code_of r (desk_response said) a.1 e)))
