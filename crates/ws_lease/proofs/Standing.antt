-- The table and the history.
use Rattle.std.proofs.Common.{◌≡◌, ℕ, ◌≤◌, Bool, true, false, cond, ◌&&◌, List, [], ◌∷◌, ◌++◌, refl, ap, sym, ◌∙◌, subst, arith}
use Rattle.std.specs.Prelude.{nat_lt, is_none, max, Option, Some, None, IfSome, filter, find, ◌==◌, bytes_eq}
use Rattle.std.specs.List.{AllByRecursion}
use Rattle.std.proofs.lemmas.Bool.Decides.{nat_tests}
use Rattle.std.proofs.lemmas.Bool.{false≢true, eqb-true, false_from_ne_true, or_left, or_right}
use Rattle.std.proofs.lemmas.Slice.Eq.{bytes_eq-Decides}
use Rattle.ws_model.specs.declared.event.Event.{Event}
use Rattle.ws_model.specs.declared.event.What.{What}
use Rattle.ws_model.specs.declared.event.What.TheVariants.{Confirmed, Pushed, Revoked}
use Rattle.ws_model.specs.declared.event.How.TheVariants.{Gone}
use Rattle.ws_model.specs.declared.event.Mode.{Mode}
use Rattle.ws_model.specs.declared.event.Mode.TheVariants.{On, Off}
use Rattle.ws_model.specs.declared.event.Intent.{Intent}
use Rattle.ws_model.specs.declared.lease.Lease.{Lease}
use Rattle.ws_model.specs.declared.fate.Cause.{Cause}
use Rattle.ws_model.specs.declared.fate.Cause.TheVariants.{Replaced, Gone as LeaseGone, Revoked as LeaseRevoked}
use Rattle.ws_model.specs.History.{has}
use Rattle.ws_model.specs.Intents.{same_pair}
use Rattle.ws_model.specs.Moment.{last_time}
use Rattle.ws_model.specs.Leases.{live, leases, lease_of, lease_end, confirmed_intent, is_confirmed, is_on, expiry, end_by, end_by_mode}
use Rattle.ws_model.specs.Legal.{Legal}
use Rattle.ws_model.specs.Revocation.{is_lease_of}
use Rattle.ws_laws.specs.Fates.{AreApart}
use Rattle.ws_laws.specs.Steps.{lives_on}
use Rattle.ws_laws.proofs.Advance.{live_later}
use Rattle.ws_laws.proofs.Apart.{one_live, same_pair_via}
use Rattle.ws_laws.proofs.Known.{IsOfConfirmed, leases_confirmed, allowed, in_time}
use Rattle.ws_laws.proofs.ListLaws.{all_weaker, all_filter, all_find, all_from, filter_all}
use Rattle.ws_laws.proofs.Step.{live_step, IsFresh, new_fresh}
use Rattle.ws_lease.specs.Table.{Rows, lease_at, live_at, unexpired, unless_pair, is_end}
use Rattle.ws_lease.specs.Stands.{StandsFor, MakesLease, EndsLease, is_numbered, StandsOn, StandsLater}

-- ---- leases of different numbers

abbrev pub AreNumberedApart : List Lease → Type 0
AreNumberedApart [] = Unit {0}
AreNumberedApart (l ∷ ls) = AllByRecursion (λ (x : Lease). (x.intent.n == l.intent.n) ≡ false) ls × AreNumberedApart ls

abbrev pub when : (Lease → Bool) → Option Lease → Option Lease
when p None = None
when p (Some l) = cond (p l) (Some l) None

pub find_absent : {X : Type 0} (q : X → Bool) (xs : List X) → AllByRecursion (λ x. q x ≡ false) xs → find q xs ≡ None
find_absent q [] a = refl
find_absent q (x ∷ xs) a = rw a.0 (find_absent q xs a.1)

pub find_where : (p : Lease → Bool) (n : ℕ) (ls : List Lease) → AreNumberedApart ls → find (is_numbered n) (filter p ls) ≡ when p (find (is_numbered n) ls)
find_where p n [] a = refl
find_where p n (l ∷ ls) a = one (p l) refl (l.intent.n == n) refl (find_where p n ls a.1)
  where
    one : (b : Bool) → p l ≡ b → (c : Bool) → (l.intent.n == n) ≡ c → find (is_numbered n) (filter p ls) ≡ when p (find (is_numbered n) ls) → find (is_numbered n) (cond b (l ∷ filter p ls) (filter p ls)) ≡ when p (cond c (Some l) (find (is_numbered n) ls))
    one true u true v h = rw (v, u)
    one true u false v h = rw v h
    one false u true v h = rw u (find_absent (is_numbered n) (filter p ls) (all_filter (λ x. (x.intent.n == n) ≡ false) p ls (all_weaker (λ (x : Lease). (x.intent.n == l.intent.n) ≡ false) (λ x. (x.intent.n == n) ≡ false) (λ x k. rw (eqb-true l.intent.n n v) at k) ls a.0)))
    one false u false v h = h

apart_where : (p : Lease → Bool) (ls : List Lease) → AreNumberedApart ls → AreNumberedApart (filter p ls)
apart_where p [] a = tt
apart_where p (l ∷ ls) a = one (p l) (all_filter (λ (x : Lease). (x.intent.n == l.intent.n) ≡ false) p ls a.0) (apart_where p ls a.1)
  where
    one : (b : Bool) → AllByRecursion (λ (x : Lease). (x.intent.n == l.intent.n) ≡ false) (filter p ls) → AreNumberedApart (filter p ls) → AreNumberedApart (cond b (l ∷ filter p ls) (filter p ls))
    one true x y = (x, y)
    one false x y = y

apart_new : (w : What) (o : Option Intent) (xs : List Lease) → AllByRecursion (λ (l : Lease). AllByRecursion (λ (x : Lease). (x.intent.n == l.intent.n) ≡ false) xs) (lease_of w o) → AreNumberedApart xs → AreNumberedApart (lease_of w o ++ xs)
apart_new (Confirmed n sent) None xs a b = b
apart_new (Confirmed n sent) (Some i) xs a b = one (is_on i.mode) a
  where
    one : (c : Bool) → AllByRecursion (λ (l : Lease). AllByRecursion (λ (x : Lease). (x.intent.n == l.intent.n) ≡ false) xs) (cond c (record { intent = i; sent = sent } ∷ []) []) → AreNumberedApart (cond c (record { intent = i; sent = sent } ∷ []) [] ++ xs)
    one true a = (a.0, b)
    one false a = b
apart_new _ o xs a b = b

leases_apart : (h : List Event) → Legal h → AreNumberedApart (leases h)
leases_apart [] l = tt
leases_apart (e ∷ h) l =
    apart_new e.what (confirmed_intent e.what h) (leases h)
    (all_weaker (IsFresh e h) (λ l. AllByRecursion (λ x. (x.intent.n == l.intent.n) ≡ false) (leases h))
    (λ y f. all_weaker (IsOfConfirmed h) (λ x. (x.intent.n == y.intent.n) ≡ false) (λ x c. false_from_ne_true _ (λ r. false≢true (sym f.unconfirmed ∙ ap (λ m. has (is_confirmed m) h) (sym (eqb-true x.intent.n y.intent.n r)) ∙ c))) (leases h) (leases_confirmed h))
    (lease_of e.what (confirmed_intent e.what h)) (new_fresh e.what e.serial e.t h (allowed h e l.1)))
    (leases_apart h l.0)

pub live_apart : (h : List Event) → Legal h → (t : ℕ) → AreNumberedApart (live h t)
live_apart h l t = apart_where (λ x. is_none (lease_end h x t)) (leases h) (leases_apart h l)

-- what is found by a number has it
pub found_number : (n : ℕ) (l : Lease) (ls : List Lease) → find (is_numbered n) ls ≡ Some l → l.intent.n ≡ n
found_number n l ls e = eqb-true l.intent.n n (all_find (λ _. Unit {0}) (is_numbered n) l ls (all_from (λ _. Unit {0}) (λ _. tt) ls) e).1

-- what is found by any test is found by its number
pub found_by_number : (p : Lease → Bool) (l : Lease) (ls : List Lease) → AreNumberedApart ls → find p ls ≡ Some l → find (is_numbered l.intent.n) ls ≡ Some l
found_by_number p l [] a e = absurd (grind arith)
found_by_number p l (x ∷ xs) a e = one (p x) e (found_by_number p l xs a.1)
  where
    itself : (l.intent.n == l.intent.n) ≡ true
    itself = grind (arith, nat_tests)

    turned : (m n : ℕ) → (m == n) ≡ false → (n == m) ≡ false
    turned m n k = grind (arith, nat_tests)

    one : (b : Bool) → cond b (Some x) (find p xs) ≡ Some l → (find p xs ≡ Some l → find (is_numbered l.intent.n) xs ≡ Some l) → cond (x.intent.n == l.intent.n) (Some x) (find (is_numbered l.intent.n) xs) ≡ Some l
    one true k r = let s : x ≡ l = cc in subst (λ y. cond (x.intent.n == y.intent.n) (Some x) (find (is_numbered y.intent.n) xs) ≡ Some y) s (let i : (x.intent.n == x.intent.n) ≡ true = grind (arith, nat_tests) in rw i)
    one false k r = rw (turned l.intent.n x.intent.n (all_find (λ (y : Lease). (y.intent.n == x.intent.n) ≡ false) p l xs a.0 k).0) (r k)

-- where no lease passes, the lease of a number doesn't
pub none_passes : (p : Lease → Bool) (n : ℕ) (l : Lease) (ls : List Lease) → find p ls ≡ None → find (is_numbered n) ls ≡ Some l → p l ≡ true → ⊥
none_passes p n l [] e f k = absurd (grind arith)
none_passes p n l (x ∷ xs) e f k = one (p x) refl e (x.intent.n == n) f (none_passes p n l xs)
  where
    one : (b : Bool) → p x ≡ b → cond b (Some x) (find p xs) ≡ None → (c : Bool) → cond c (Some x) (find (is_numbered n) xs) ≡ Some l → (find p xs ≡ None → find (is_numbered n) xs ≡ Some l → p l ≡ true → ⊥) → ⊥
    one true q u c v r = absurd (grind arith)
    one false q u true v r = let s : x ≡ l = cc in false≢true (sym q ∙ ap p s ∙ k)
    one false q u false v r = r u v k

-- of two live leases of different numbers one isn't of the other's topic and callback
pub not_same_pair : (l x : Lease) (n m : ℕ) (ls : List Lease) → AreApart ls → find (is_numbered n) ls ≡ Some l → find (is_numbered m) ls ≡ Some x → (n == m) ≡ false → (i : Intent) → same_pair i l.intent ≡ true → same_pair i x.intent ≡ false
not_same_pair l x n m [] a f g ne i k = absurd (grind arith)
not_same_pair l x n m (y ∷ ys) a f g ne i k = one (y.intent.n == n) refl f (y.intent.n == m) refl g (λ u v. not_same_pair l x n m ys a.1 u v ne i k)
  where
    -- y is the one, and the other is behind it
    against : (z w : Lease) (q : ℕ) → y ≡ z → find (is_numbered q) ys ≡ Some w → same_pair i z.intent ≡ true → same_pair i w.intent ≡ true → ⊥
    against z w q s r u v =
        let apart = (all_find (λ (o : Lease). same_pair y.intent o.intent ≡ false) (is_numbered q) w ys a.0 r).0 in
        false≢true (sym apart ∙ same_pair_via i y.intent w.intent (ap (λ o. same_pair i o.intent) s ∙ u) v)

    one : (b : Bool) → (y.intent.n == n) ≡ b → cond b (Some y) (find (is_numbered n) ys) ≡ Some l → (c : Bool) → (y.intent.n == m) ≡ c → cond c (Some y) (find (is_numbered m) ys) ≡ Some x
        → (find (is_numbered n) ys ≡ Some l → find (is_numbered m) ys ≡ Some x → same_pair i x.intent ≡ false) → same_pair i x.intent ≡ false
    one true p u true q v again = absurd (false≢true (sym ne ∙ ap (λ z. z == m) (sym (eqb-true y.intent.n n p)) ∙ q))
    one true p u false q v again = false_from_ne_true _ (λ r. against l x m (let s : y ≡ l = cc in s) v k r)
    one false p u true q v again = false_from_ne_true _ (λ r. against x l n (let s : y ≡ x = cc in s) u r k)
    one false p u false q v again = again u v

-- ---- later moments

pub unexpired_later : (s t : ℕ) → s ≤ t → (o : Option Lease) → unexpired t o ≡ when (λ y. nat_lt t (expiry y)) (unexpired s o)
unexpired_later s t le None = refl
unexpired_later s t le (Some x) = by (nat_lt s (expiry x)) refl
  where
    later : (y : ℕ) → nat_lt s y ≡ false → nat_lt t y ≡ false
    later y q = grind (arith, nat_tests)

    by : (d : Bool) → nat_lt s (expiry x) ≡ d → cond (nat_lt t (expiry x)) (Some x) None ≡ when (λ y. nat_lt t (expiry y)) (cond d (Some x) None)
    by true q = refl
    by false q = ap (λ b. cond b (Some x) None) (later (expiry x) q)

pub stands_later : StandsLater
stands_later rows h since later s le = record { begun = let b = s.begun in omega arith; shows = λ t n k. s.shows t n (omega arith); confirmed = s.confirmed }

-- what a table shows at the moment of an event and after it
pub stands_after : (rows : Rows) (e : Event) (h : List Event) → Legal (e ∷ h)
    → ((t n : ℕ) → e.t ≤ t → live_at n t rows ≡ when (λ y. nat_lt t (expiry y)) (find (is_numbered n) (live (e ∷ h) e.t)))
    → ((n : ℕ) → IfSome (lease_at n rows) (λ l. has (is_confirmed n) (e ∷ h) ≡ true))
    → StandsFor (e ∷ h) e.t rows
stands_after rows e h l f told =
    record {
      begun = let b = in_time h e l.1 in omega arith;
      shows = λ t n le.
          f t n le
          ∙ sym (find_where (λ y. nat_lt t (expiry y)) n (live (e ∷ h) e.t) (live_apart (e ∷ h) l e.t))
          ∙ ap (find (is_numbered n)) (sym (live_later (e ∷ h) e.t t le));
      confirmed = told;
    }

told_later : (e : Event) (h : List Event) (n : ℕ) (o : Option Lease) → IfSome o (λ l. has (is_confirmed n) h ≡ true) → IfSome o (λ l. has (is_confirmed n) (e ∷ h) ≡ true)
told_later e h n None k = tt
told_later e h n (Some l) k = or_right (is_confirmed n e.what) (has (is_confirmed n) h) k

-- ---- an event that leaves all leases

pub stands_on : StandsOn
stands_on rows h e since s le l leaves = stands_after rows e h l shown (λ n. told_later e h n (lease_at n rows) (s.confirmed n))
  where
    kept : live (e ∷ h) e.t ≡ live h e.t
    kept =
        live_step e h l.1
        ∙ ap (λ ls. ls ++ filter (lives_on e.what (confirmed_intent e.what h)) (live h e.t)) leaves.makes_none
        ∙ filter_all (lives_on e.what (confirmed_intent e.what h)) (live h e.t)
        (all_weaker (λ x. end_by e.what (confirmed_intent e.what h) x ≡ None) (λ x. lives_on e.what (confirmed_intent e.what h) x ≡ true) (λ x k. ap is_none k) (live h e.t) leaves.ends_none)

    shown : (t n : ℕ) → e.t ≤ t → live_at n t rows ≡ when (λ y. nat_lt t (expiry y)) (find (is_numbered n) (live (e ∷ h) e.t))
    shown t n k =
        unexpired_later e.t t k (lease_at n rows)
        ∙ ap (when (λ y. nat_lt t (expiry y))) (s.shows e.t n le ∙ ap (find (is_numbered n)) (sym kept))

-- ---- an event that ends a lease

-- an event that ends a lease by such a cause makes none
makes_none : (w : What) (o : Option Intent) (l : Lease) (cause : Cause) → is_end cause ≡ true → end_by w o l ≡ Some cause → lease_of w o ≡ []
makes_none (Confirmed n sent) None l cause k e = refl
makes_none (Confirmed n sent) (Some i) l cause k e = let x : Lease = record { intent = i; sent = sent } in by x (same_pair i l.intent) i.mode e
  where
    by : (x : Lease) (b : Bool) (m : Mode) → cond b (Some (end_by_mode m)) None ≡ Some cause → cond (is_on m) (x ∷ []) [] ≡ []
    by x true On r = let s : Replaced ≡ cause = cc in absurd (false≢true (ap is_end s ∙ k))
    by x true Off r = refl
    by x false m r = absurd (grind arith)
makes_none _ o l cause k e = refl

-- it ends no other live lease
others_live : (w : What) (o : Option Intent) (l x : Lease) (n q : ℕ) (cause : Cause) (ls : List Lease) → AreApart ls
    → find (is_numbered n) ls ≡ Some l → find (is_numbered q) ls ≡ Some x → (n == q) ≡ false → end_by w o l ≡ Some cause → lives_on w o x ≡ true
others_live (Confirmed m sent) None l x n q cause ls a f g ne e = refl
others_live (Confirmed m sent) (Some i) l x n q cause ls a f g ne e = by (same_pair i l.intent) refl e
  where
    by : (b : Bool) → same_pair i l.intent ≡ b → cond b (Some (end_by_mode i.mode)) None ≡ Some cause → is_none (cond (same_pair i x.intent) (Some (end_by_mode i.mode)) None) ≡ true
    by true k r = ap (λ b. is_none (cond b (Some (end_by_mode i.mode)) None)) (not_same_pair l x n q ls a f g ne i k)
    by false k r = absurd (grind arith)
others_live (Pushed v m Gone) o l x n q cause ls a f g ne e = by (m == l.intent.n) refl e
  where
    by : (b : Bool) → (m == l.intent.n) ≡ b → cond b (Some LeaseGone) None ≡ Some cause → is_none (cond (m == x.intent.n) (Some LeaseGone) None) ≡ true
    by true k r = ap (λ b. is_none (cond b (Some LeaseGone) None)) (ap (λ z. m == z) (found_number q x ls g) ∙ ap (λ z. z == q) (eqb-true m l.intent.n k ∙ found_number n l ls f) ∙ ne)
    by false k r = absurd (grind arith)
others_live (Pushed v m how) o l x n q cause ls a f g ne e = refl
others_live (Revoked m reason) o l x n q cause ls a f g ne e = by (m == l.intent.n) refl e
  where
    by : (b : Bool) → (m == l.intent.n) ≡ b → cond b (Some LeaseRevoked) None ≡ Some cause → is_none (cond (m == x.intent.n) (Some LeaseRevoked) None) ≡ true
    by true k r = ap (λ b. is_none (cond b (Some LeaseRevoked) None)) (ap (λ z. m == z) (found_number q x ls g) ∙ ap (λ z. z == q) (eqb-true m l.intent.n k ∙ found_number n l ls f) ∙ ne)
    by false k r = absurd (grind arith)
others_live _ o l x n q cause ls a f g ne e = refl

pub end_stands : (old new : Rows) (n : ℕ) (cause : Cause) → is_end cause ≡ true → ((q : ℕ) → lease_at q new ≡ cond (n == q) None (lease_at q old))
    → (h : List Event) (e : Event) (since : ℕ) → StandsFor h since old → since ≤ e.t → Legal (e ∷ h) → EndsLease e h n cause → StandsFor (e ∷ h) e.t new
end_stands old new n cause is look h e since s le l ends = stands_after new e h l shown (λ q. subst (λ o. IfSome o (λ _. has (is_confirmed q) (e ∷ h) ≡ true)) (sym (look q)) (told_less q (n == q)))
  where
    on : Lease → Bool
    on = lives_on e.what (confirmed_intent e.what h)

    told_less : (q : ℕ) (c : Bool) → IfSome (cond c None (lease_at q old)) (λ _. has (is_confirmed q) (e ∷ h) ≡ true)
    told_less q true = tt
    told_less q false = told_later e h q (lease_at q old) (s.confirmed q)

    left : live (e ∷ h) e.t ≡ filter on (live h e.t)
    left = live_step e h l.1 ∙ ap (λ ls. ls ++ filter on (live h e.t)) (makes_none e.what (confirmed_intent e.what h) ends.lease cause is ends.by)

    before : last_time h ≤ e.t
    before = in_time h e l.1

    by : (t q : ℕ) → e.t ≤ t → (c : Bool) → (n == q) ≡ c → (o : Option Lease) → unexpired e.t o ≡ find (is_numbered q) (live h e.t) → unexpired t (cond c None o) ≡ when (λ y. nat_lt t (expiry y)) (when on (find (is_numbered q) (live h e.t)))
    by t q k true r o u =
        sym (ap (λ z. when (λ y. nat_lt t (expiry y)) (when on z)) (subst (λ m. find (is_numbered m) (live h e.t) ≡ Some ends.lease) (eqb-true n q r) ends.lives)
        ∙ ap (λ b. when (λ y. nat_lt t (expiry y)) (cond b (Some ends.lease) None)) (ap is_none ends.by))
    by t q k false r o u = unexpired_later e.t t k o ∙ ap (when (λ y. nat_lt t (expiry y))) (u ∙ lived (find (is_numbered q) (live h e.t)) refl)
      where
        lived : (z : Option Lease) → find (is_numbered q) (live h e.t) ≡ z → z ≡ when on z
        lived None v = refl
        lived (Some x) v = sym (ap (λ b. cond b (Some x) None) (others_live e.what (confirmed_intent e.what h) ends.lease x n q cause (live h e.t) (one_live h e.t l.0 before) ends.lives v r ends.by))

    shown : (t q : ℕ) → e.t ≤ t → live_at q t new ≡ when (λ y. nat_lt t (expiry y)) (find (is_numbered q) (live (e ∷ h) e.t))
    shown t q k =
        ap (unexpired t) (look q)
        ∙ by t q k (n == q) refl (lease_at q old) (s.shows e.t q le)
        ∙ ap (when (λ y. nat_lt t (expiry y))) (sym (find_where on q (live h e.t) (live_apart h l.0 e.t)) ∙ ap (find (is_numbered q)) (sym left))

-- ---- an event that makes a lease

pub bytes_turned : (a b : List ℕ) → bytes_eq a b ≡ bytes_eq b a
bytes_turned a b = by (bytes_eq a b) refl (bytes_eq b a) refl
  where
    by : (x : Bool) → bytes_eq a b ≡ x → (y : Bool) → bytes_eq b a ≡ y → x ≡ y
    by true p true q = refl
    by true p false q = absurd (false≢true (sym q ∙ (bytes_eq-Decides b a).1 (sym ((bytes_eq-Decides a b).0 p))))
    by false p true q = absurd (false≢true (sym p ∙ (bytes_eq-Decides a b).1 (sym ((bytes_eq-Decides b a).0 q))))
    by false p false q = refl

pub pair_turned : (i : Intent) (l : Lease) → is_lease_of i.topic i.callback l ≡ same_pair i l.intent
pair_turned i l = ap (λ b. b && bytes_eq l.intent.callback i.callback) (bytes_turned l.intent.topic i.topic) ∙ ap (λ b. bytes_eq i.topic l.intent.topic && b) (bytes_turned l.intent.callback i.callback)

-- what is left of a held lease
one_left : (l : Lease) (n sent s t : ℕ) → s ≤ t → (o : Option Lease) → unexpired t (unless_pair l o) ≡ when (λ y. nat_lt t (expiry y)) (when (lives_on (Confirmed n sent) (Some l.intent)) (unexpired s o))
one_left l n sent s t le None = refl
one_left l n sent s t le (Some x) = ap (λ b. unexpired t (cond b None (Some x))) (pair_turned l.intent x) ∙ by (same_pair l.intent x.intent) refl (nat_lt s (expiry x)) refl
  where
    later : (y : ℕ) → nat_lt s y ≡ false → nat_lt t y ≡ false
    later y q = grind (arith, nat_tests)

    by : (c : Bool) → same_pair l.intent x.intent ≡ c → (d : Bool) → nat_lt s (expiry x) ≡ d → unexpired t (cond c None (Some x)) ≡ when (λ y. nat_lt t (expiry y)) (when (lives_on (Confirmed n sent) (Some l.intent)) (cond d (Some x) None))
    by true p true q = rw p
    by true p false q = refl
    by false p true q = rw p
    by false p false q = ap (λ b. cond b (Some x) None) (later (expiry x) q)

made : (e : Event) (h : List Event) (x : Lease) → Legal (e ∷ h) → MakesLease e h x → is_on x.intent.mode ≡ true
    → live (e ∷ h) e.t ≡ x ∷ filter (lives_on (Confirmed x.intent.n x.sent) (Some x.intent)) (live h e.t)
made e h x l m on =
    live_step e h l.1
    ∙ (λ j. lease_of (m.confirms j) (m.asked j) ++ filter (lives_on (m.confirms j) (m.asked j)) (live h e.t))
    ∙ ap (λ b. cond b (record { intent = x.intent; sent = x.sent } ∷ []) [] ++ filter (lives_on (Confirmed x.intent.n x.sent) (Some x.intent)) (live h e.t)) on

pub confirm_stands : (old new : Rows) (x : Lease) → is_on x.intent.mode ≡ true → ((q : ℕ) → lease_at q new ≡ cond (x.intent.n == q) (Some x) (unless_pair x (lease_at q old)))
    → (h : List Event) (e : Event) (since : ℕ) → StandsFor h since old → since ≤ e.t → Legal (e ∷ h) → MakesLease e h x → StandsFor (e ∷ h) e.t new
confirm_stands old new x is_on look h e since s le l m = stands_after new e h l shown (λ q. subst (λ o. IfSome o (λ _. has (is_confirmed q) (e ∷ h) ≡ true)) (sym (look q)) (told_more q (x.intent.n == q) refl))
  where
    on : Lease → Bool
    on = lives_on (Confirmed x.intent.n x.sent) (Some x.intent)

    told_left : (q : ℕ) (o : Option Lease) → IfSome o (λ _. has (is_confirmed q) (e ∷ h) ≡ true) → IfSome (unless_pair x o) (λ _. has (is_confirmed q) (e ∷ h) ≡ true)
    told_left q None k = tt
    told_left q (Some y) k = by (is_lease_of x.intent.topic x.intent.callback y)
      where
        by : (b : Bool) → IfSome (cond b None (Some y)) (λ _. has (is_confirmed q) (e ∷ h) ≡ true)
        by true = tt
        by false = k

    told_more : (q : ℕ) (c : Bool) → (x.intent.n == q) ≡ c → IfSome (cond c (Some x) (unless_pair x (lease_at q old))) (λ _. has (is_confirmed q) (e ∷ h) ≡ true)
    told_more q true k = or_left (is_confirmed q e.what) (has (is_confirmed q) h) (ap (is_confirmed q) m.confirms ∙ k)
    told_more q false k = told_left q (lease_at q old) (told_later e h q (lease_at q old) (s.confirmed q))

    by : (t q : ℕ) → e.t ≤ t → (b : Bool) (o : Option Lease) → unexpired e.t o ≡ find (is_numbered q) (live h e.t)
        → unexpired t (cond b (Some x) (unless_pair x o)) ≡ when (λ y. nat_lt t (expiry y)) (cond b (Some x) (find (is_numbered q) (filter on (live h e.t))))
    by t q k true o u = refl
    by t q k false o u =
        one_left x x.intent.n x.sent e.t t k o
        ∙ ap (λ z. when (λ y. nat_lt t (expiry y)) (when on z)) u
        ∙ ap (when (λ y. nat_lt t (expiry y))) (sym (find_where on q (live h e.t) (live_apart h l.0 e.t)))

    shown : (t q : ℕ) → e.t ≤ t → live_at q t new ≡ when (λ y. nat_lt t (expiry y)) (find (is_numbered q) (live (e ∷ h) e.t))
    shown t q k =
        ap (unexpired t) (look q)
        ∙ by t q k (x.intent.n == q) (lease_at q old) (s.shows e.t q le)
        ∙ ap (λ ls. when (λ y. nat_lt t (expiry y)) (find (is_numbered q) ls)) (sym (made e h x l m is_on))

-- ---- an expired lease less

pub taken_stands : (old new : Rows) (l : Lease) (n t : ℕ) → lease_at n old ≡ Some l → expiry l ≤ t → ((q : ℕ) → lease_at q new ≡ cond (n == q) None (lease_at q old))
    → (h : List Event) (since : ℕ) → StandsFor h since old → StandsFor h (max since t) new
taken_stands old new l n t was expired look h since s =
    record {
      begun = let b = s.begun in omega arith;
      shows = λ u q le. ap (unexpired u) (look q) ∙ by u q le (n == q) refl ∙ s.shows u q (omega arith);
      confirmed = λ q. subst (λ o. IfSome o (λ _. has (is_confirmed q) h ≡ true)) (sym (look q)) (told_less q (n == q));
    }
  where
    told_less : (q : ℕ) (c : Bool) → IfSome (cond c None (lease_at q old)) (λ _. has (is_confirmed q) h ≡ true)
    told_less q true = tt
    told_less q false = s.confirmed q

    gone : (u x : ℕ) → x ≤ t → max since t ≤ u → nat_lt u x ≡ false
    gone u x k le = grind (arith, nat_tests)

    by : (u q : ℕ) → max since t ≤ u → (c : Bool) → (n == q) ≡ c → unexpired u (cond c None (lease_at q old)) ≡ unexpired u (lease_at q old)
    by u q le true k = sym (ap (unexpired u) (subst (λ m. lease_at m old ≡ Some l) (eqb-true n q k) was) ∙ ap (λ b. cond b (Some l) None) (gone u (expiry l) expired le))
    by u q le false k = refl
