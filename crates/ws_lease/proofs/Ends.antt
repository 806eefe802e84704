-- The ends of the rows, as pairs of an end and a number.
use Rattle.std.proofs.Common.{◌≡◌, ℕ, Bool, true, false, cond, ◌&&◌, refl, ap, sym, ◌∙◌, subst, Option, Some}
use Rattle.std.specs.Prelude.{◌==◌}
use Rattle.std.specs.BTreeMap.{is_at}
use Rattle.std.specs.Ordering.{nat_cmp, ordering_then, is_eq}
use Rattle.std.specs.declared.cmp.Ordering.{Ordering}
use Rattle.std.specs.declared.cmp.Ordering.TheVariants.{Less, Equal, Greater}
use Rattle.std.proofs.lemmas.Bool.{and_parts, eqb-true}
use Rattle.ws_model.specs.declared.lease.Lease.{Lease}
use Rattle.ws_lease.specs.Index.{is_it}
use Rattle.ws_lease.specs.Indexed.{end_order, end_of, ends_at}
use Rattle.ws_lease.specs.Table.{Rows, lease_at}
use Rattle.ws_lease.proofs.IndexedRows.{is_at_number}

then_equal : (o p : Ordering) → is_eq (ordering_then o p) ≡ (is_eq o && is_eq p)
then_equal Less p = refl
then_equal Equal p = refl
then_equal Greater p = refl

pub at_pair : (x n y m : ℕ) → is_at (end_order (x, n)) (y, m) ≡ ((x == y) && (n == m))
at_pair x n y m = then_equal (nat_cmp x y) (nat_cmp n m) ∙ ap (λ b. b && is_eq (nat_cmp n m)) (is_at_number x y) ∙ ap (λ b. (x == y) && b) (is_at_number n m)

-- an end that is put and taken out again
pub undone : (end n x q : ℕ) (f : ℕ → ℕ → Bool) → f end n ≡ false → cond ((end == x) && (n == q)) false (cond ((end == x) && (n == q)) true (f x q)) ≡ f x q
undone end n x q f new = one _ refl
  where
    one : (p : Bool) → ((end == x) && (n == q)) ≡ p → cond p false (cond p true (f x q)) ≡ f x q
    one true k =
        let parts = and_parts (end == x) (n == q) k in
        sym (subst (λ y. f y q ≡ false) (eqb-true end x parts.0) (subst (λ m. f end m ≡ false) (eqb-true n q parts.1) new))
    one false k = refl

-- the end of the row of a number
pub taken_end : (rows : Rows) (o : Option ℕ) (n : ℕ) (l : Lease) (x q : ℕ) (old : Bool) → o ≡ Some n → lease_at n rows ≡ Some l → cond ((end_of l == x) && (n == q)) false old ≡ cond (is_it o q && ends_at x (lease_at q rows)) false old
taken_end rows o n l x q old is was = one (n == q) refl ∙ ap (λ p. cond (is_it p q && ends_at x (lease_at q rows)) false old) (sym is)
  where
    one : (c : Bool) → (n == q) ≡ c → cond ((end_of l == x) && c) false old ≡ cond (c && ends_at x (lease_at q rows)) false old
    one true k = two (end_of l == x) ∙ ap (λ z. cond (ends_at x z) false old) (sym (subst (λ m. lease_at m rows ≡ Some l) (eqb-true n q k) was))
      where
        two : (v : Bool) → cond (v && true) false old ≡ cond v false old
        two true = refl
        two false = refl
    one false k = two (end_of l == x)
      where
        two : (v : Bool) → cond (v && false) false old ≡ old
        two true = refl
        two false = refl
