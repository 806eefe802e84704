use Rattle.std.proofs.Common.{◌≡◌, ℕ, List, sym, subst}
use Rattle.std.specs.Prelude.{Result, Ok, Err, IfOk}
use Rattle.ws_ledger.specs.Pairs.{AreApart}
use Rattle.ws_ledger.proofs.OwedPairs.{apart_with}
use Rattle.ws_ledger.proofs.whole.Ledger.open_pairs_of.Goals as goal

apart_ok : {T E : Type 0} (f : T → List (ℕ × ℕ)) (pairs : List (ℕ × ℕ)) (r : Result T E) → AreApart pairs → IfOk r (λ x. f x ≡ pairs) → IfOk r (λ x. AreApart (f x))
apart_ok f pairs (Ok x) a k = subst AreApart (sym k) a
apart_ok f pairs (Err e) a k = tt

pub returns-in-Some-clause-apart : goal.returns-in-Some-clause-apart
returns-in-Some-clause-apart c = apart_ok (λ v. v.items) _ c.with_lease.result (apart_with c.in-Some.lease c.open_of.result c.open_of.ensures.distinct) c.with_lease.ensures
