-- As many numbers as leases.
use Rattle.std.proofs.Common.{◌≡◌, ℕ, ◌≤◌, Bool, true, false, cond, ◌&&◌, List, [], ◌∷◌, sym, ◌∙◌, length, arith}
use Rattle.std.specs.Prelude.{filter, map, nat_lt, bytes_eq, ◌==◌}
use Rattle.std.specs.List.{AllByRecursion, IsDistinct, list_any}
use Rattle.std.specs.Ordering.{nat_cmp, eq_by_cmp}
use Rattle.std.specs.Cmp.{nat_cmp_total}
use Rattle.std.proofs.lemmas.Bool.Decides.{nat_tests}
use Rattle.std.proofs.lemmas.Cmp.{eq_by_cmp_equiv}
use Rattle.std.proofs.lemmas.List.{length-map}
use Rattle.std.proofs.lemmas.Map.Keys.{IsDistinct-from_sorted}
use Rattle.std.proofs.lemmas.Map.Made.{length-from_same_keys}
use Rattle.ws_model.specs.declared.lease.Lease.{Lease}
use Rattle.ws_model.specs.Leases.{expiry}
use Rattle.ws_laws.proofs.ListLaws.{all_filter}
use Rattle.ws_lease.specs.Stands.{AreNumbersOf}
use Rattle.ws_lease.specs.Table.{Rows, is_live_row_of_topic, live_numbers, live_rows}
use Rattle.ws_lease.proofs.SortedEntries.{any_map, any_same}
use Rattle.ws_lease.proofs.Standing.{AreNumberedApart}

apart_kept : (p : Lease → Bool) (ls : List Lease) → AreNumberedApart ls → AreNumberedApart (filter p ls)
apart_kept p [] a = tt
apart_kept p (l ∷ ls) a = one (p l) (all_filter (λ (x : Lease). (x.intent.n == l.intent.n) ≡ false) p ls a.0) (apart_kept p ls a.1)
  where
    one : (b : Bool) → AllByRecursion (λ (x : Lease). (x.intent.n == l.intent.n) ≡ false) (filter p ls) → AreNumberedApart (filter p ls) → AreNumberedApart (cond b (l ∷ filter p ls) (filter p ls))
    one true f r = (f, r)
    one false f r = r

distinct : (ls : List Lease) → AreNumberedApart ls → IsDistinct (eq_by_cmp nat_cmp) (map (λ l. l.intent.n) ls)
unfolding IsDistinct
distinct [] a = tt
distinct (l ∷ ls) a = (others ls a.0, distinct ls a.1)
  where
    turned : (x y : ℕ) → (y == x) ≡ false → eq_by_cmp nat_cmp x y ≡ false
    turned x y k = grind (arith, nat_tests)

    others : (xs : List Lease) → AllByRecursion (λ (x : Lease). (x.intent.n == l.intent.n) ≡ false) xs → AllByRecursion (λ y. eq_by_cmp nat_cmp l.intent.n y ≡ false) (map (λ l. l.intent.n) xs)
    others [] a = tt
    others (x ∷ xs) a = (turned l.intent.n x.intent.n a.0, others xs a.1)

pub as_many : (p : Lease → Bool) (ns : List ℕ) (ls : List Lease) → AreNumberedApart ls → AreNumbersOf ns (filter p ls) → length ns ≡ length (filter p ls)
as_many p ns ls apart a =
    length-from_same_keys (eq_by_cmp_equiv nat_cmp_total) ns (map (λ l. l.intent.n) (filter p ls))
    (IsDistinct-from_sorted nat_cmp ns a.rising) (distinct (filter p ls) (apart_kept p ls apart)) member
    ∙ length-map {A = Lease} (filter p ls) (λ l. l.intent.n)
  where
    eq_is : (q m : ℕ) → eq_by_cmp nat_cmp q m ≡ (m == q)
    eq_is q m = grind (arith, nat_tests)

    member : (q : ℕ) → list_any (eq_by_cmp nat_cmp q) ns ≡ list_any (eq_by_cmp nat_cmp q) (map (λ l. l.intent.n) (filter p ls))
    member q =
        any_same (eq_by_cmp nat_cmp q) (λ m. m == q) ns (eq_is q)
        ∙ a.same q
        ∙ sym (any_map (λ m. m == q) (λ l. l.intent.n) (filter p ls))
        ∙ sym (any_same (eq_by_cmp nat_cmp q) (λ m. m == q) (map (λ l. l.intent.n) (filter p ls)) (eq_is q))

-- the live leases of a topic are no more than all live leases
pub few_of_topic : (topic : List ℕ) (t : ℕ) (rows : Rows) → length (live_numbers topic t rows) ≤ length (live_rows t rows)
few_of_topic topic t [] = omega arith
few_of_topic topic t (e ∷ rows) = by (bytes_eq e.1.intent.topic topic) (nat_lt t (expiry e.1)) (few_of_topic topic t rows)
  where
    by : (a b : Bool) → length (live_numbers topic t rows) ≤ length (live_rows t rows)
        → length (map (λ d. d.0) (cond (a && b) (e ∷ filter (is_live_row_of_topic topic t) rows) (filter (is_live_row_of_topic topic t) rows))) ≤ length (cond b (e ∷ live_rows t rows) (live_rows t rows))
    by true true r = omega arith
    by true false r = r
    by false true r = omega arith
    by false false r = r
