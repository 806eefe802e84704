-- The pairs that have a room, by lease: kept over a change at one pair.
use Rattle.std.proofs.Common.{◌≡◌, ℕ, ◌≤◌, ◌<◌, Bool, true, false, cond, ◌&&◌, refl, ap, sym, ◌∙◌, subst, List, [], ◌∷◌, arith}
use Rattle.std.specs.Prelude.{◌==◌, is_some, Option, Some, None}
use Rattle.std.specs.Ordering.{is_gt}
use Rattle.std.specs.BTreeMap.{is_at}
use Rattle.std.specs.BTreeSet.{BTreeSet, IsKeyRangeOf, contains}
use Rattle.std.specs.declared.ops.Bound.TheVariants.{Included, Unbounded}
use Rattle.std.proofs.lemmas.Bool.{eqb-true}
use Rattle.std.proofs.lemmas.Bool.Decides.{nat_tests}
use Rattle.ws_tries.specs.declared.room.Try.{Try}
use Rattle.ws_tries.specs.Rows.{Rows, is_here, pair_order, tries_at}
use Rattle.ws_tries.specs.ByLease.{AreRoomed, is_in}
use Rattle.ws_tries.proofs.Keyed.{key_test}
use Rattle.ws_tries.proofs.Tried.{here_is}

turned : (ver lease v n : ℕ) → is_here lease ver n v ≡ is_here ver lease v n
turned ver lease v n = by (lease == n) (ver == v)
  where
    by : (a b : Bool) → (a && b) ≡ (b && a)
    by true true = refl
    by true false = refl
    by false true = refl
    by false false = refl

-- where both are changed at one pair
pub roomed_after : (ver lease : ℕ) (pairs later : BTreeSet (ℕ × ℕ)) (rows new : Rows) (o : Option (List Try)) → AreRoomed pairs rows
    → ((q : ℕ × ℕ) → contains pair_order later q ≡ cond (is_at (pair_order (lease, ver)) q) (is_some o) (contains pair_order pairs q))
    → ((v n : ℕ) → tries_at v n new ≡ cond (is_here ver lease v n) o (tries_at v n rows)) → AreRoomed later new
roomed_after ver lease pairs later rows new o are set look v n =
    set (n, v)
    ∙ ap (λ b. cond b (is_some o) (is_in pairs v n)) (key_test lease ver n v ∙ turned ver lease v n)
    ∙ by (is_here ver lease v n)
    ∙ ap is_some (sym (look v n))
  where
    by : (b : Bool) → cond b (is_some o) (is_in pairs v n) ≡ is_some (cond b o (tries_at v n rows))
    by true = refl
    by false = are v n

-- where a pair stays in the set
pub roomed_as_before : (ver lease : ℕ) (pairs : BTreeSet (ℕ × ℕ)) (rows new : Rows) (was o : Option (List Try)) → AreRoomed pairs rows
    → tries_at ver lease rows ≡ was → is_some was ≡ is_some o
    → ((v n : ℕ) → tries_at v n new ≡ cond (is_here ver lease v n) o (tries_at v n rows)) → AreRoomed pairs new
roomed_as_before ver lease pairs rows new was o are here some look v n = are v n ∙ by (is_here ver lease v n) refl ∙ ap is_some (sym (look v n))
  where
    by : (b : Bool) → is_here ver lease v n ≡ b → is_some (tries_at v n rows) ≡ is_some (cond b o (tries_at v n rows))
    by true k = let same = here_is ver lease v n k in (λ j. is_some (tries_at (sym same.0 j) (sym same.1 j) rows)) ∙ ap is_some here ∙ some
    by false k = refl

-- a pair that is put into the set and taken out again, where it wasn't there
pub roomed_undone : (ver lease : ℕ) (pairs mid later : BTreeSet (ℕ × ℕ)) (rows : Rows) → AreRoomed pairs rows → tries_at ver lease rows ≡ None
    → ((q : ℕ × ℕ) → contains pair_order mid q ≡ cond (is_at (pair_order (lease, ver)) q) true (contains pair_order pairs q))
    → ((q : ℕ × ℕ) → contains pair_order later q ≡ cond (is_at (pair_order (lease, ver)) q) false (contains pair_order mid q)) → AreRoomed later rows
roomed_undone ver lease pairs mid later rows are new put took v n =
    took (n, v)
    ∙ ap (cond (is_at (pair_order (lease, ver)) (n, v)) false) (put (n, v))
    ∙ ap (λ b. cond b false (cond b true (is_in pairs v n))) (key_test lease ver n v ∙ turned ver lease v n)
    ∙ by (is_here ver lease v n) refl
  where
    by : (b : Bool) → is_here ver lease v n ≡ b → cond b false (cond b true (is_in pairs v n)) ≡ is_some (tries_at v n rows)
    by true k = let same = here_is ver lease v n k in sym (ap is_some ((λ j. tries_at (sym same.0 j) (sym same.1 j) rows) ∙ new))
    by false k = are v n

-- ---- the versions of a lease

-- what isn't in the set has no room
no_room : (v n : ℕ) (pairs : BTreeSet (ℕ × ℕ)) (rows : Rows) → AreRoomed pairs rows → is_in pairs v n ≡ false → tries_at v n rows ≡ None
no_room v n pairs rows are k = none_is (tries_at v n rows) (sym (are v n) ∙ k)
  where
    none_is : (o : Option (List Try)) → is_some o ≡ false → o ≡ None
    none_is None k = refl
    none_is (Some x) k = absurd (cc)

module _ (lease from : ℕ) (pairs : BTreeSet (ℕ × ℕ)) (rows : Rows) (are : AreRoomed pairs rows) where
  -- the part of the set from that version of the lease on
  abbrev pub IsPart : List (ℕ × ℕ) → Type 0
  IsPart part = IsKeyRangeOf pair_order (Included (lease, from)) Unbounded pairs part

  from_here : (w : ℕ) → from ≤ w → is_gt (pair_order (lease, from) (lease, w)) ≡ false
  from_here w k = grind (arith, nat_tests)

  pub none_from : (part : List (ℕ × ℕ)) (w : ℕ) → IsPart part → part ≡ [] → from ≤ w → tries_at w lease rows ≡ None
  none_from part w is empty le = no_room w lease pairs rows are (is.5 empty (lease, w) (from_here w le, tt))

  -- what comes before the first of the part isn't there
  not_there : (part rest : List (ℕ × ℕ)) (p : ℕ × ℕ) (w : ℕ) → IsPart part → part ≡ p ∷ rest → from ≤ w
      → (is_gt (pair_order (lease, from) (p.0, p.1)) ≡ false → is_gt (pair_order (p.0, p.1) (lease, w)) ≡ false → ⊥) → tries_at w lease rows ≡ None
  not_there part rest p w is starts le before = no_room w lease pairs rows are (by (is_in pairs w lease) refl)
    where
      these : IsPart (p ∷ rest)
      these = subst IsPart starts is

      by : (b : Bool) → is_in pairs w lease ≡ b → b ≡ false
      by false k = refl
      by true k = absurd (before these.1.0.0 (these.2 (lease, w) (from_here w le, tt) k))

  before : (p q w : ℕ) → w < q → p ≡ lease → is_gt (pair_order (p, q) (lease, w)) ≡ false → ⊥
  before p q w less same first = grind (arith, nat_tests)

  pub none_before : (part rest : List (ℕ × ℕ)) (p : ℕ × ℕ) (w : ℕ) → IsPart part → part ≡ p ∷ rest → p.0 ≡ lease → from ≤ w → w < p.1 → tries_at w lease rows ≡ None
  none_before part rest p w is starts same le less = not_there part rest p w is starts le (λ low first. before p.0 p.1 w less same first)

  beyond : (p q w : ℕ) → (p ≡ lease → ⊥) → is_gt (pair_order (lease, from) (p, q)) ≡ false → is_gt (pair_order (p, q) (lease, w)) ≡ false → ⊥
  beyond p q w other low first = other (grind (arith, nat_tests))

  pub none_of : (part rest : List (ℕ × ℕ)) (p : ℕ × ℕ) (w : ℕ) → IsPart part → part ≡ p ∷ rest → (p.0 ≡ lease → ⊥) → from ≤ w → tries_at w lease rows ≡ None
  none_of part rest p w is starts other le = not_there part rest p w is starts le (λ low first. beyond p.0 p.1 w other low first)

-- where all rooms of a lease are gone and no other room changed
pub lease_gone : (lease v n : ℕ) (new old : Rows) → ((w : ℕ) → 0 ≤ w → tries_at w lease new ≡ None) → ((w m : ℕ) → (lease == m) ≡ false → tries_at w m new ≡ tries_at w m old) → tries_at v n new ≡ cond (lease == n) None (tries_at v n old)
lease_gone lease v n new old gone others = by (lease == n) refl
  where
    by : (b : Bool) → (lease == n) ≡ b → tries_at v n new ≡ cond b None (tries_at v n old)
    by true k = ap (λ m. tries_at v m new) (sym (eqb-true lease n k)) ∙ gone v (omega arith)
    by false k = others v n k
