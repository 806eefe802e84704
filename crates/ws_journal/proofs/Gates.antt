-- The moments of the two parts of an append.
use Rattle.std.proofs.Common.{◌≡◌, ◌+◌, ◌∷◌, [], ◌++◌, ℕ, List, length, sym, ◌∙◌, ap, subst}
use Rattle.ws_disk.specs.Crash.{overwritten, Torn, LeavesOnly}
use Rattle.ws_journal.specs.Kept.{IsShut, IsInDoubt, After, Keeps, Each}
use Rattle.ws_journal.proofs.Files.{keeps_shut}
use Rattle.ws_journal.proofs.Records.{staged, stays_in_doubt}
use Rattle.ws_journal.proofs.Moments.{weaker}

module _ {D : Type 0} (seen : D → List ℕ) (moment : D → ℕ) (images : D → ℕ → List ℕ → Type 0) (front text : List ℕ) (tail : ℕ) (is : length front + 1 ≡ tail) (old mid : D) where
  abbrev Now : D → List ℕ → Type 0
  Now disk = images disk (moment disk)

  -- until the gate is written
  pub until_gate : Each (Now old) (IsShut front) → LeavesOnly moment images old mid (After (Keeps tail) (Now old)) → LeavesOnly moment images old mid (IsShut front)
  until_gate each run =
      weaker moment images old mid (After (Keeps tail) (Now old)) (IsShut front)
      (λ image after. keeps_shut front after.0 image (each after.0 after.1) (subst (λ (n : ℕ). Keeps n after.0 image) (sym is) after.2)) run

  pub stands_staged : IsShut front (seen old) → seen mid ≡ overwritten tail (text ++ 0 ∷ []) (seen old) → IsInDoubt front text (seen mid)
  stands_staged shut written =
      let whole : seen mid ≡ overwritten (length front + 1) (text ++ 0 ∷ []) (seen old) = written ∙ ap (λ (n : ℕ). overwritten n (text ++ 0 ∷ []) (seen old)) (sym is) in
      subst (IsInDoubt front text) (sym whole) (staged front text (seen old) shut)

-- while a gate in doubt is written
pub while_gate : {D : Type 0} (moment : D → ℕ) (images : D → ℕ → List ℕ → Type 0) (front text : List ℕ) (place : ℕ) → length front ≡ place → (old new : D)
    → Each (images old (moment old)) (IsInDoubt front text) → LeavesOnly moment images old new (After (Torn place 1) (images old (moment old))) → LeavesOnly moment images old new (IsInDoubt front text)
while_gate moment images front text place is old new each run =
    weaker moment images old new (After (Torn place 1) (images old (moment old))) (IsInDoubt front text)
    (λ image after. stays_in_doubt front text after.0 image (each after.0 after.1) (subst (λ (n : ℕ). Torn n 1 after.0 image) (sym is) after.2)) run
