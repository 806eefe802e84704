-- What holds of an answer.
use Rattle.std.proofs.Common.{◌≡◌, Option, Some, None, Result, Ok, Err, sym, subst}
use Rattle.std.specs.Prelude.{IsErrAnd}

-- a fault that was passed on
pub err_as : {T E : Type 0} (Q : Result T E → Type 0) (r : Result T E) (fault : E) → IsErrAnd r (λ e. e ≡ fault) → Q (Err fault) → Q r
err_as Q (Ok x) fault is holds = absurd is
err_as Q (Err e) fault is holds = subst (λ (x : _). Q (Err x)) (sym is) holds

-- an option is one thing
pub no_value : {A : Type 0} (o : Option A) (x : A) → o ≡ None → o ≡ Some x → ⊥
no_value o x none is = cc

pub one_value : {A : Type 0} (o : Option A) (x y : A) → o ≡ Some x → o ≡ Some y → x ≡ y
one_value o x y first second = cc
