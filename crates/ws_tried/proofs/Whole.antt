-- The events of the rooms of kept pairs are the kept pushes of the history, each once.
use Rattle.std.proofs.Common.{◌≡◌, ℕ, Bool, true, false, cond, ◌&&◌, ◌||◌, List, [], ◌∷◌, ◌++◌, refl, ap, sym, ◌∙◌, subst, arith}
use Rattle.std.specs.Prelude.{map, filter, reverse, is_some, ◌==◌, Contains, Option, None, Some, IfSome}
use Rattle.std.specs.declared.cmp.Ordering.TheVariants.{Less}
use Rattle.std.specs.List.{AllByRecursion}
use Rattle.std.specs.List.Sorted.{IsPermutation, IsStrictlySortedBy}
use Rattle.std.specs.Map.{keys_of}
use Rattle.std.specs.Cmp.{IsTotalOrder, on_total}
use Rattle.std.proofs.lemmas.Bool.{false≢true, eqb-true}
use Rattle.std.proofs.lemmas.Bool.Decides.{nat_tests}
use Rattle.std.proofs.lemmas.Cmp.{eq_by_cmp_equiv, nat_cmp_total, then_total}
use Rattle.std.proofs.lemmas.List.{reverse-reverse}
use Rattle.std.proofs.lemmas.List.Elements.{All-contains, All-contains_itself, All-from_recursion, recursion_from_All}
use Rattle.std.proofs.lemmas.List.Sorted.{IsPermutation-reverse, IsPermutation-sym}
use Rattle.std.proofs.lemmas.Map.Keys.{IsDistinct-from_sorted}
use Rattle.std.proofs.lemmas.Map.Views.{All-after_first, lookup-from_Contains}
use Rattle.ws_model.specs.declared.event.Event.{Event}
use Rattle.ws_model.specs.declared.event.How.{How}
use Rattle.ws_model.specs.declared.event.What.{What}
use Rattle.ws_model.specs.declared.event.What.TheVariants.{Pushed}
use Rattle.ws_model.specs.Fate.{Pair, is_push}
use Rattle.ws_model.specs.Keep.{keeps, kept_leases, member}
use Rattle.ws_model.specs.Legal.{Legal}
use Rattle.ws_model.specs.Verdict.{is_kept_version, pair_of}
use Rattle.ws_laws.proofs.Ended.{both_true}
use Rattle.ws_laws.proofs.Known.{itself}
use Rattle.ws_laws.proofs.ListLaws.{all_from, all_weaker}
use Rattle.ws_tries.specs.declared.room.Try.{Try}
use Rattle.ws_tries.specs.Rows.{Rows, is_here, pair_order, tries_at}
use Rattle.ws_tries.specs.Stands.{HaveRooms, StandsFor, event_of, is_any_push, tries_of}
use Rattle.ws_tries.proofs.Keyed.{key_test}
use Rattle.ws_tries.proofs.Pushes.{are_pushes}
use Rattle.ws_tries.proofs.Tried.{untried}
use Rattle.ws_gather.specs.Gathered.{AreGathered, has_serial}
use Rattle.ws_gather.proofs.Members.{adds_up, exchanges}
use Rattle.ws_kept.specs.Rows.{Rows as Numbers}
use Rattle.ws_kept.specs.Stands.{AreKept}
use Rattle.ws_tried.specs.Kept.{is_kept_push}
use Rattle.ws_tried.proofs.Made.{events_of, has_both, pushes_of}

total : IsTotalOrder pair_order
total = then_total (on_total (λ (x : ℕ × ℕ). x.0) nat_cmp_total) (on_total (λ (x : ℕ × ℕ). x.1) nat_cmp_total)

-- a push of this pair
abbrev is_of : ℕ → ℕ → What → Bool
is_of v n w = is_push (λ how. true) v n w

-- a push of a kept pair that has a room
abbrev is_of_any : (ℕ → ℕ → Bool) → Rows → What → Bool
is_of_any kept [] w = false
is_of_any kept (r ∷ rows) w = kept r.0.0 r.0.1 && is_of r.0.0 r.0.1 w || is_of_any kept rows w

-- ---- rows in order

-- the later rows are of other pairs
abbrev AreApart : Rows → Type 0
AreApart [] = Unit {0}
AreApart (r ∷ rows) = AllByRecursion (λ (d : (ℕ × ℕ) × List Try). is_here r.0.0 r.0.1 d.0.0 d.0.1 ≡ false) rows × AreApart rows

less_apart : (v n w m : ℕ) → pair_order (v, n) (w, m) ≡ Less → is_here v n w m ≡ false
less_apart v n w m k = grind (arith, nat_tests)

over_keys : (P : ℕ × ℕ → Type 0) (Q : (ℕ × ℕ) × List Try → Type 0) → ((d : (ℕ × ℕ) × List Try) → P d.0 → Q d) → (rows : Rows) → AllByRecursion P (keys_of rows) → AllByRecursion Q rows
over_keys P Q f [] a = tt
over_keys P Q f (r ∷ rows) a = (f r a.0, over_keys P Q f rows a.1)

sorted_rest : (k : ℕ × ℕ) (ks : List (ℕ × ℕ)) → IsStrictlySortedBy pair_order (k ∷ ks) → IsStrictlySortedBy pair_order ks
unfolding IsStrictlySortedBy
sorted_rest k ks s = s.1

apart : (rows : Rows) → IsStrictlySortedBy pair_order (keys_of rows) → AreApart rows
apart [] s = tt
apart (r ∷ rows) s = (
  over_keys (λ q. pair_order r.0 q ≡ Less) (λ d. is_here r.0.0 r.0.1 d.0.0 d.0.1 ≡ false) (λ d k. less_apart r.0.0 r.0.1 d.0.0 d.0.1 k) rows
      (recursion_from_All (λ q. pair_order r.0 q ≡ Less) (keys_of rows) (All-after_first pair_order r.0 (keys_of rows) s)),
  apart rows (sorted_rest r.0 (keys_of rows) s),
)

-- each row has exactly its tries of the history
abbrev IsExact : List Event → (ℕ × ℕ) × List Try → Type 0
IsExact h r = r.1 ≡ tries_of h r.0.0 r.0.1

exact : (h : List Event) (rows : Rows) → IsStrictlySortedBy pair_order (keys_of rows) → StandsFor h rows → AllByRecursion (IsExact h) rows
exact h rows s stands =
    all_weaker (Contains rows) (IsExact h)
    (λ r k. subst (λ o. IfSome o (λ tries. tries ≡ tries_of h r.0.0 r.0.1)) (lookup-from_Contains (eq_by_cmp_equiv total) r.0 r.1 rows (IsDistinct-from_sorted pair_order (keys_of rows) s) k) (stands r.0.0 r.0.1))
    rows (recursion_from_All (Contains rows) rows (All-contains_itself rows))

-- ---- the events of the rooms, room by room

-- the events of one room are the pushes of its pair
room_gathered : (h : List Event) (r : (ℕ × ℕ) × List Try) → Legal h → IsExact h r → AreGathered h (λ e. is_of r.0.0 r.0.1 e.what) (events_of r)
room_gathered h r l k =
    let test : Event → Bool = λ e. is_of r.0.0 r.0.1 e.what in
    exchanges h test (events_of r) l
    (subst (λ es. IsPermutation es (filter test h)) (sym (ap (map (event_of r.0.0 r.0.1)) k ∙ are_pushes h r.0.0 r.0.1))
    (IsPermutation-sym (filter test h) (reverse (filter test h)) (IsPermutation-reverse (filter test h))))

of_other : (v n a b : ℕ) (w : What) → is_of v n w ≡ true → is_here v n a b ≡ false → is_of a b w ≡ false
of_other v n a b (Pushed x y how) k o = grind (arith, nat_tests)
of_other v n a b _ k o = refl

of_none : (kept : ℕ → ℕ → Bool) (v n : ℕ) (rows : Rows) (w : What) → AllByRecursion (λ (d : (ℕ × ℕ) × List Try). is_here v n d.0.0 d.0.1 ≡ false) rows → is_of v n w ≡ true → is_of_any kept rows w ≡ false
of_none kept v n [] w a k = refl
of_none kept v n (r ∷ rows) w a k = rw (of_other v n r.0.0 r.0.1 w k a.0, of_none kept v n rows w a.1 k) (by (kept r.0.0 r.0.1))
  where
    by : (b : Bool) → (b && false || false) ≡ false
    by true = refl
    by false = refl

not_both : (kept : ℕ → ℕ → Bool) (v n : ℕ) (rows : Rows) (w : What) → AllByRecursion (λ (d : (ℕ × ℕ) × List Try). is_here v n d.0.0 d.0.1 ≡ false) rows → (is_of v n w && is_of_any kept rows w) ≡ false
not_both kept v n rows w a = by (is_of v n w) refl
  where
    by : (b : Bool) → is_of v n w ≡ b → (b && is_of_any kept rows w) ≡ false
    by true k = of_none kept v n rows w a k
    by false k = refl

rooms_gathered : (h : List Event) (kept : ℕ → ℕ → Bool) (rows : Rows) → Legal h → AreApart rows → AllByRecursion (IsExact h) rows → AreGathered h (λ e. is_of_any kept rows e.what) (pushes_of kept rows)
rooms_gathered h kept [] l a x =
    record {
      passing = tt;
      whole = all_from (λ e. false ≡ true → has_serial e.serial [] ≡ true) (λ e k. absurd (false≢true k)) h;
      once = λ s. omega arith;
    }
rooms_gathered h kept (r ∷ rows) l a x = one (kept r.0.0 r.0.1) (rooms_gathered h kept rows l a.1 x.1)
  where
    one : (b : Bool) → AreGathered h (λ e. is_of_any kept rows e.what) (pushes_of kept rows)
        → AreGathered h (λ e. b && is_of r.0.0 r.0.1 e.what || is_of_any kept rows e.what) (cond b (events_of r) [] ++ pushes_of kept rows)
    one true g =
        adds_up h (λ e. is_of r.0.0 r.0.1 e.what) (λ e. is_of_any kept rows e.what) (events_of r) (pushes_of kept rows) l
        (all_from (λ e. (is_of r.0.0 r.0.1 e.what && is_of_any kept rows e.what) ≡ false) (λ e. not_both kept r.0.0 r.0.1 rows e.what a.0) h)
        (room_gathered h r l x.0) g
    one false g = g

-- ---- each push is of a pair of the history

none_pass : {X : Type 0} (p : X → Bool) (xs : List X) → filter p xs ≡ [] → AllByRecursion (λ x. p x ≡ false) xs
none_pass p [] k = tt
none_pass p (x ∷ xs) k = one (p x) refl k (none_pass p xs)
  where
    one : (b : Bool) → p x ≡ b → cond b (x ∷ filter p xs) (filter p xs) ≡ [] → (filter p xs ≡ [] → AllByRecursion (λ y. p y ≡ false) xs)
        → (p x ≡ false) × AllByRecursion (λ y. p y ≡ false) xs
    one true e k rest = absurd (grind arith)
    one false e k rest = (e, rest k)

abbrev HasPair : List Event → ℕ → ℕ → Event → Type 0
HasPair h v n e = is_of v n e.what ≡ true → is_some (pair_of h v n) ≡ true

have_pair : (h : List Event) → Legal h → (v n : ℕ) → AllByRecursion (HasPair h v n) h
have_pair h l v n = by (pair_of h v n) refl
  where
    test : Event → Bool
    test e = is_of v n e.what

    by : (o : Option Pair) → pair_of h v n ≡ o → AllByRecursion (λ e. is_of v n e.what ≡ true → is_some o ≡ true) h
    by (Some p) k = all_from (λ e. is_of v n e.what ≡ true → true ≡ true) (λ e x. refl) h
    by None k =
        let none : filter test h ≡ [] = sym (reverse-reverse (filter test h)) ∙ ap reverse (sym (are_pushes h v n) ∙ ap (map (event_of v n)) (untried h v n l k)) in
        all_weaker (λ e. is_of v n e.what ≡ false) (λ e. is_of v n e.what ≡ true → false ≡ true) (λ e x y. sym x ∙ y) h (none_pass test h none)

all_have : (h : List Event) → Legal h → AllByRecursion (λ e. (v n : ℕ) → HasPair h v n e) h
all_have h l = recursion_from_All (λ e. (v n : ℕ) → HasPair h v n e) h (λ k d m v n. All-from_recursion (HasPair h v n) h (have_pair h l v n) k d m)

-- ---- they are the kept pushes

any_other : (kept : ℕ → ℕ → Bool) (rows : Rows) (w : What) → is_any_push w ≡ false → is_of_any kept rows w ≡ false
any_other kept [] w k = refl
any_other kept (r ∷ rows) w k = rw (other w k, any_other kept rows w k) (by (kept r.0.0 r.0.1))
  where
    other : (w : What) → is_any_push w ≡ false → is_of r.0.0 r.0.1 w ≡ false
    other (Pushed v n how) k = absurd (false≢true (sym k))
    other _ k = refl

    by : (b : Bool) → (b && false || false) ≡ false
    by true = refl
    by false = refl

any_push : (kept : ℕ → ℕ → Bool) (rows : Rows) (v n : ℕ) (how : How) → is_of_any kept rows (Pushed v n how) ≡ (kept v n && is_some (tries_at v n rows))
any_push kept [] v n how = by (kept v n)
  where
    by : (b : Bool) → false ≡ (b && false)
    by true = refl
    by false = refl
any_push kept (r ∷ rows) v n how =
    ap (λ b. kept r.0.0 r.0.1 && is_of r.0.0 r.0.1 (Pushed v n how) || b) (any_push kept rows v n how)
    ∙ one (v == r.0.0) (n == r.0.1) refl refl
    ∙ ap (λ b. kept v n && is_some (cond b (Some r.1) (tries_at v n rows))) (sym (key_test v n r.0.0 r.0.1))
  where
    both : (k a b : Bool) → (k && true || (k && a)) ≡ (k && true)
    both true a b = refl
    both false a b = refl

    none : (k x : Bool) → (k && false || x) ≡ x
    none true x = refl
    none false x = refl

    one : (c d : Bool) → (v == r.0.0) ≡ c → (n == r.0.1) ≡ d
        → (kept r.0.0 r.0.1 && (c && d && true) || (kept v n && is_some (tries_at v n rows))) ≡ (kept v n && is_some (cond (c && d) (Some r.1) (tries_at v n rows)))
    one true true e f =
        let same : kept r.0.0 r.0.1 ≡ kept v n = (λ j. kept (sym (eqb-true v r.0.0 e) j) (sym (eqb-true n r.0.1 f) j)) in
        ap (λ k. k && true || (kept v n && is_some (tries_at v n rows))) same ∙ both (kept v n) (is_some (tries_at v n rows)) true
    one true false e f = none (kept r.0.0 r.0.1) _
    one false true e f = none (kept r.0.0 r.0.1) _
    one false false e f = none (kept r.0.0 r.0.1) _

module _ (h : List Event) (t : ℕ) (rows : Rows) (kept : Numbers) (l : Legal h) (rooms : HaveRooms h t rows) (are : AreKept h t kept) where
  same_pairs : (v n : ℕ) → has_both kept v n ≡ (is_kept_version h t v && member n (kept_leases h t))
  same_pairs v n = λ j. are.versions v j && are.leases n j

  same : (e : Event) (w : What) → ((v n : ℕ) → is_of v n w ≡ true → is_some (pair_of h v n) ≡ true) → is_of_any (has_both kept) rows w ≡ (is_any_push w && keeps h t e w)
  same e (Pushed v n how) there =
      any_push (has_both kept) rows v n how ∙ ap (λ b. b && is_some (tries_at v n rows)) (same_pairs v n)
      ∙ by (is_kept_version h t v) (member n (kept_leases h t)) refl refl
    where
      by : (a b : Bool) → is_kept_version h t v ≡ a → member n (kept_leases h t) ≡ b → (a && b && is_some (tries_at v n rows)) ≡ (a && b)
      by true true x y = rooms v n x y (there v n (rw (itself v, itself n) refl))
      by true false x y = refl
      by false b x y = refl
  same e w there = any_other (has_both kept) rows w refl

  all_same : AllByRecursion (λ e. is_of_any (has_both kept) rows e.what ≡ is_kept_push h t e) h
  all_same =
      all_weaker (λ e. (v n : ℕ) → HasPair h v n e) (λ e. is_of_any (has_both kept) rows e.what ≡ is_kept_push h t e)
      (λ e there. same e e.what there) h (all_have h l)

same_test : (h : List Event) (p q : Event → Bool) (xs : List Event) → AllByRecursion (λ e. p e ≡ q e) h → AreGathered h p xs → AreGathered h q xs
same_test h p q xs a g =
    let P : Event → Type 0 = λ e. p e ≡ q e in
    record {
      passing = all_weaker (λ e. (p e ≡ true) × Contains h e) (λ e. (q e ≡ true) × Contains h e) (λ e k. (sym (All-contains P h e (All-from_recursion P h a) k.1) ∙ k.0, k.1)) xs g.passing;
      whole = all_weaker (λ e. P e × (p e ≡ true → has_serial e.serial xs ≡ true)) (λ e. q e ≡ true → has_serial e.serial xs ≡ true) (λ e k x. k.1 (k.0 ∙ x)) h (both_true P (λ e. p e ≡ true → has_serial e.serial xs ≡ true) h a g.whole);
      once = g.once;
    }

pub gathered : (h : List Event) (t : ℕ) (rows : Rows) (kept : Numbers) → IsStrictlySortedBy pair_order (keys_of rows)
    → Legal h → StandsFor h rows → HaveRooms h t rows → AreKept h t kept → AreGathered h (is_kept_push h t) (pushes_of (has_both kept) rows)
gathered h t rows kept s l stands rooms are =
    same_test h (λ e. is_of_any (has_both kept) rows e.what) (is_kept_push h t) (pushes_of (has_both kept) rows) (all_same h t rows kept l rooms are)
    (rooms_gathered h (has_both kept) rows l (apart rows s) (exact h rows s stands))
