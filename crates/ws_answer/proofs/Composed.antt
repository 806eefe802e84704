-- Answers, room by room.
use Rattle.std.proofs.Common.{◌≡◌, ℕ, ◌+◌, Bool, true, false, cond, List, [], ◌∷◌, refl, ap, sym, ◌∙◌, subst, Result, Ok, Err, length}
use mir.Val.{bool_byte}
use Rattle.ws_model.specs.declared.event.What.TheVariants.{Asked, Barred}
use Rattle.std.specs.Prelude.{codes, Vec, IfErr, IfOk, IsErrAnd}
use Rattle.ws_model.specs.declared.event.What.{What}
use Rattle.ws_model.specs.declared.event.Intent.{Intent}
use Rattle.ws_model.specs.declared.answers.Kind.{Kind}
use Rattle.ws_model.specs.Answer.{Answer, Events, Full as IsFull}
use Rattle.ws_answer.specs.declared.fault.CoreFault.{CoreFault}
use Rattle.ws_answer.specs.declared.fault.CoreFault.TheVariants.{Full, NoMemory}
use Rattle.ws_answer.specs.Judged.{Answers}
use Rattle.ws_answer.specs.Wishes.{events_of}

-- where there is no room, the answer is that
pub room_err : {A : Type 0} (full : Bool) (kind : Kind) (held asked limit : ℕ) (e : CoreFault) (r : Result (Vec What A) CoreFault) (rest : Answer)
    → (full ≡ true) × (e ≡ Full kind held asked limit) → r ≡ Err e → Answers (cond full (IsFull kind held asked limit) rest) r
room_err {A = A} full kind held asked limit e r rest room q =
    subst (λ z. Answers {A = A} (cond full (IsFull kind held asked limit) rest) z) (sym (q ∙ ap (λ x. Err x) room.1)) (ap (λ b. cond b (IsFull kind held asked limit) rest) room.0)

-- where there is, the answer is the rest
pub room_ok : {A : Type 0} (full : Bool) (none rest : Answer) (r : Result (Vec What A) CoreFault) → full ≡ false → Answers rest r → Answers (cond full none rest) r
room_ok {A = A} full none rest r e a = subst (λ b. Answers {A = A} (cond b none rest) r) (sym e) a

pub number_of : (b : Bool) (i : Intent) → 1 + bool_byte b ≡ length (events_of b i)
number_of true i = refl
number_of false i = refl

pub err_is : {T : Type 0} (e : CoreFault) (r : Result T CoreFault) → IsErrAnd r (λ x. x ≡ e) → r ≡ Err e
err_is e (Ok v) k = absurd k
err_is e (Err x) k = ap (λ z. Err z) k

-- what was made, or no memory, passes on through a room that is there
pub made_here : {A : Type 0} (events meant : List What) (r : Result (Vec What A) CoreFault) → events ≡ meant → IfOk r (λ v. v.items ≡ events) → IfErr r (λ e. e ≡ NoMemory) → Answers (Events meant) r
made_here events meant (Ok v) q a b = ap Events (sym (a ∙ q))
made_here {A = A} events meant (Err e) q a b = subst (λ x. Answers {A = A} (Events meant) (Err x)) (sym b) tt

-- the request, with its denial where the topic isn't allowed
pub chosen : (b : Bool) (i : Intent) → events_of b i ≡ cond b (Asked i ∷ Barred i.n (codes "topic not allowed") ∷ []) (Asked i ∷ [])
chosen true i = refl
chosen false i = refl

-- no memory answers everything
pub no_memory : {A : Type 0} (a : Answer) (e : CoreFault) (r : Result (Vec What A) CoreFault) → e ≡ NoMemory → r ≡ Err e → Answers a r
no_memory {A = A} a e r k q = subst (λ x. Answers {A = A} a x) (sym (q ∙ ap (λ x. Err x) k)) tt
