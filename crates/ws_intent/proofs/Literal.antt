-- Numbers of rows that were added one by one.
use Rattle.std.proofs.Common.{◌≡◌, ℕ, ◌<◌, Bool, true, false, cond, List, [], subst, refl, arith, Some, Option}
use Rattle.std.specs.Prelude.{IsSome, ◌==◌}
use Rattle.std.proofs.lemmas.Bool.{eqb-true, false≢true}
use Rattle.ws_model.specs.declared.event.Intent.{Intent}
use Rattle.ws_intent.specs.declared.rows.Waiting.{Waiting}
use Rattle.ws_intent.specs.Rows.{Rows, number_at}

abbrev pub AllBelow : ℕ → List (ℕ × Waiting) → Type 0
AllBelow m es = (q : ℕ) → IsSome (number_at q es) → q < m

pub none_below : (rows : Rows) (m : ℕ) → rows ≡ record { pending = []; notices = [] } → AllBelow m rows.pending
none_below rows m e q k = absurd (false≢true (subst (λ (r : Rows). IsSome (number_at q r.pending)) e k))

pub more_below : (old new : List (ℕ × Waiting)) (i : Intent) (m : ℕ) → ((q : ℕ) → number_at q new ≡ cond (q == i.n) (Some (record { intent = i; unheard = 0 })) (number_at q old)) → i.n < m → AllBelow m old → AllBelow m new
more_below old new i m look l below q k = by (q == i.n) refl (subst (λ (o : Option Waiting). IsSome o) (look q) k)
  where
    by : (b : Bool) → (q == i.n) ≡ b → IsSome (cond b (Some (record { intent = i; unheard = 0 })) (number_at q old)) → q < m
    by true e s = let a : q ≡ i.n = eqb-true q i.n e in omega arith
    by false e s = below q s
