-- The open pairs after an event, by what it does to each of them.
use Rattle.std.proofs.Common.{◌≡◌, ℕ, ◌≤◌, ◌+◌, suc, Bool, true, false, not, cond, ◌&&◌, List, [], ◌∷◌, ◌++◌, refl, ap, sym, ◌∙◌, subst, arith, add-one}
use Rattle.std.specs.Prelude.{nat_lt, nat_le, is_none, is_some, Option, Some, None, IfSome, IsSome, IsSomeAnd, find, filter, map, ◌==◌}
use Rattle.std.specs.Option.{option_map}
use Rattle.std.proofs.lemmas.Bool.{and_parts, eqb-true, false≢true}
use Rattle.std.proofs.lemmas.Bool.Decides.{nat_tests}
use Rattle.ws_model.specs.declared.event.Event.{Event}
use Rattle.ws_model.specs.declared.event.How.{How}
use Rattle.ws_model.specs.declared.event.How.TheVariants.{Done, Gone, Missed}
use Rattle.ws_model.specs.declared.event.Intent.{Intent}
use Rattle.ws_model.specs.declared.event.Version.{Version}
use Rattle.ws_model.specs.declared.event.What.TheVariants.{Pushed, Revoked}
use Rattle.ws_model.specs.declared.fate.Cause.TheVariants.{Gone as LeaseGone, Revoked as LeaseRevoked}
use Rattle.ws_model.specs.Fate.{delay}
use Rattle.ws_model.specs.Leases.{confirmed_intent, expiry}
use Rattle.ws_model.specs.Legal.{Legal, is_allowed}
use Rattle.ws_model.specs.Pairs.{owed}
use Rattle.ws_model.specs.View.{OwedPush, owed_push, view}
use Rattle.ws_laws.specs.Steps.{after_miss, new_pushes, stays_owed}
use Rattle.ws_laws.proofs.Known.{allowed}
use Rattle.ws_laws.proofs.ListLaws.{all_find, all_from, find-map}
use Rattle.ws_delivery.specs.declared.open_pair.OpenPair.{OpenPair}
use Rattle.ws_delivery.specs.Table.{Rows, is_here, owed_at, pair_at, unexpired, after_miss as row_after_miss}
use Rattle.ws_delivery.specs.Stands.{StandsFor, is_pair, shown, shown_of}
use Rattle.ws_delivery.proofs.Standing.{find_where, owed_apart, stands_after, when}
use Rattle.ws_topic.specs.Rows.{number_at}
use Rattle.ws_core_tables.specs.Stands.{AreKept}
use Rattle.ws_core_tables.proofs.Lookups.{owed_is}

-- the owed pairs of a history as its view has them
abbrev pub pushes : List Event → ℕ → List OwedPush
pushes h t = map (owed_push h) (owed h t)

-- what an event leaves of an owed pair
abbrev pub left_of : Event → List Event → Option OwedPush → Option OpenPair
left_of e h o = option_map shown (option_map (after_miss e.t e.what) (when (stays_owed e.what (confirmed_intent e.what h)) o))

-- what is left of the owed pairs, at each pair
pub left_at :
    (e : Event) (h : List Event) (v n : ℕ) → Legal h
    → shown_of v n (map (after_miss e.t e.what) (filter (stays_owed e.what (confirmed_intent e.what h)) (pushes h e.t)))
    ≡ left_of e h (find (is_pair v n) (pushes h e.t))
left_at e h v n l =
    ap (option_map shown) (find-map (after_miss e.t e.what) (is_pair v n) (filter (stays_owed e.what (confirmed_intent e.what h)) (pushes h e.t)))
    ∙ ap (λ o. option_map shown (option_map (after_miss e.t e.what) o)) (find_where (stays_owed e.what (confirmed_intent e.what h)) v n (pushes h e.t) (owed_apart h e.t l))

-- it is the pair of this version and this lease
pub record IsAt (v n : ℕ) (x : OwedPush) : Type 0 where
  pub version : x.version.ver ≡ v
  pub lease : x.lease.intent.n ≡ n

pub found_at : (v n : ℕ) (ws : List OwedPush) (x : OwedPush) → find (is_pair v n) ws ≡ Some x → IsAt v n x
found_at v n ws x k =
    let q = and_parts (x.version.ver == v) (x.lease.intent.n == n) (all_find (λ _. Unit {0}) (is_pair v n) x ws (all_from (λ _. Unit {0}) (λ _. tt) ws) k).1 in
    record { version = eqb-true x.version.ver v q.0; lease = eqb-true x.lease.intent.n n q.1 }

-- a table that has what an event leaves, where the event makes no pair
pub stands_by :
    (e : Event) (h : List Event) (since : ℕ) (old new : Rows) → Legal (e ∷ h) → StandsFor h since old → since ≤ e.t
    → new_pushes e.t e.what (confirmed_intent e.what h) (view h e.t) ≡ []
    → ((v n : ℕ) → find (is_pair v n) (pushes h e.t) ≡ None → owed_at e.t v n old ≡ None → owed_at e.t v n new ≡ None)
    → ((v n : ℕ) (x : OwedPush) → find (is_pair v n) (pushes h e.t) ≡ Some x → IsAt v n x → owed_at e.t v n old ≡ Some (shown x) → owed_at e.t v n new ≡ left_of e h (Some x))
    → StandsFor (e ∷ h) e.t new
stands_by e h since old new l s k none f g =
    stands_after h e new l (λ v n. by v n (find (is_pair v n) (pushes h e.t)) refl ∙ sym (left_at e h v n l.0) ∙ ap (λ xs. shown_of v n (xs ++ map (after_miss e.t e.what) (filter (stays_owed e.what (confirmed_intent e.what h)) (pushes h e.t)))) (sym none))
  where
    by : (v n : ℕ) (o : Option OwedPush) → find (is_pair v n) (pushes h e.t) ≡ o → owed_at e.t v n new ≡ left_of e h (find (is_pair v n) (pushes h e.t))
    by v n None m = f v n m (s.shows e.t v n k ∙ ap (option_map shown) m) ∙ ap (left_of e h) (sym m)
    by v n (Some x) m = g v n x m (found_at v n (pushes h e.t) x m) (s.shows e.t v n k ∙ ap (option_map shown) m) ∙ ap (left_of e h) (sym m)

-- ---- pairs that are closed

cond_none : (b : Bool) (t : ℕ) (o : Option OpenPair) → unexpired t o ≡ None → unexpired t (cond b None o) ≡ None
cond_none true t o k = refl
cond_none false t o k = k

cond_some : (b : Bool) (t : ℕ) (o : Option OpenPair) (p : OpenPair) → unexpired t o ≡ Some p → unexpired t (cond b None o) ≡ cond b None (Some p)
cond_some true t o p k = refl
cond_some false t o p k = k

-- what is left of a pair that is closed or left as it is
pub closed_at :
    (e : Event) (h : List Event) (c : Bool) (row : Option OpenPair) (z : Option OwedPush) → unexpired e.t row ≡ option_map shown z
    → ((x : OwedPush) → z ≡ Some x → (stays_owed e.what (confirmed_intent e.what h) x ≡ not c) × (shown (after_miss e.t e.what x) ≡ shown x))
    → unexpired e.t (cond c None row) ≡ left_of e h z
closed_at e h c row None u f = cond_none c e.t row u
closed_at e h c row (Some x) u f = cond_some c e.t row (shown x) u ∙ by c (stays_owed e.what (confirmed_intent e.what h) x) (f x refl).0 (f x refl).1
  where
    by : (b d : Bool) → d ≡ not b → shown (after_miss e.t e.what x) ≡ shown x → cond b None (Some (shown x)) ≡ option_map shown (option_map (after_miss e.t e.what) (cond d (Some x) None))
    by true d k m = rw k refl
    by false d k m = rw k (ap Some (sym m))

-- the event closes the pairs that pass, and leaves the others as they are
pub closed_stands :
    (e : Event) (h : List Event) (since : ℕ) (old new : Rows) (c : ℕ → ℕ → Bool) → Legal (e ∷ h) → StandsFor h since old → since ≤ e.t
    → new_pushes e.t e.what (confirmed_intent e.what h) (view h e.t) ≡ []
    → ((v n : ℕ) → pair_at v n new ≡ cond (c v n) None (pair_at v n old))
    → ((v n : ℕ) (x : OwedPush) → find (is_pair v n) (pushes h e.t) ≡ Some x → IsAt v n x → (stays_owed e.what (confirmed_intent e.what h) x ≡ not (c v n)) × (shown (after_miss e.t e.what x) ≡ shown x))
    → StandsFor (e ∷ h) e.t new
closed_stands e h since old new c l s k none look f =
    stands_after h e new l
    (λ v n.
    ap (unexpired e.t) (look v n)
    ∙ closed_at e h (c v n) (pair_at v n old) (find (is_pair v n) (pushes h e.t)) (s.shows e.t v n k) (λ x m. f v n x m (found_at v n (pushes h e.t) x m))
    ∙ sym (left_at e h v n l.0)
    ∙ ap (λ xs. shown_of v n (xs ++ map (after_miss e.t e.what) (filter (stays_owed e.what (confirmed_intent e.what h)) (pushes h e.t)))) (sym none))

-- what is closed was of the history
pub closed_pairs : (P : ℕ → ℕ → OpenPair → Type 0) (old new : Rows) (c : ℕ → ℕ → Bool) → ((v n : ℕ) → pair_at v n new ≡ cond (c v n) None (pair_at v n old)) → ((v n : ℕ) → IfSome (pair_at v n old) (P v n)) → (v n : ℕ) → IfSome (pair_at v n new) (P v n)
closed_pairs P old new c look f v n = subst (λ o. IfSome o (P v n)) (sym (look v n)) (by (c v n) (f v n))
  where
    by : (b : Bool) → IfSome (pair_at v n old) (P v n) → IfSome (cond b None (pair_at v n old)) (P v n)
    by true k = tt
    by false k = k

-- and its version is kept still
pub closed_kept : (old new : Rows) (c : ℕ → ℕ → Bool) → ((v n : ℕ) → pair_at v n new ≡ cond (c v n) None (pair_at v n old)) → (vs : List (ℕ × Version)) → AreKept old vs → AreKept new vs
closed_kept old new c look vs = closed_pairs (λ v n p. IsSome (number_at v vs)) old new c look

-- ---- a push that was answered

done_stays : (t v n : ℕ) (x : OwedPush) (o : Option Intent) → stays_owed (Pushed v n Done) o x ≡ not ((n == x.lease.intent.n) && (v == x.version.ver))
done_stays t v n x o = by (v == x.version.ver) (n == x.lease.intent.n)
  where
    by : (a b : Bool) → (not (a && b && true) && not ((a && b && false) && nat_le 8 (suc x.tries)) && true) ≡ not (b && a)
    by true true = refl
    by true false = refl
    by false true = refl
    by false false = refl

not_missed : (t : ℕ) (b : Bool) (x : OwedPush) → b ≡ false → ◌≡◌ {A = OpenPair} (record { tries = cond b (suc x.tries) x.tries; next = cond b (t + delay (suc x.tries)) x.next; exp = expiry x.lease }) (shown x)
not_missed t b x k = rw k refl

and_false : (a b : Bool) → (a && b && false) ≡ false
and_false true true = refl
and_false true false = refl
and_false false b = refl

pub done_stands :
    (e : Event) (h : List Event) (since : ℕ) (old new : Rows) (v n : ℕ) → e.what ≡ Pushed v n Done → Legal (e ∷ h) → StandsFor h since old → since ≤ e.t
    → ((w m : ℕ) → pair_at w m new ≡ cond (is_here v n w m) None (pair_at w m old)) → StandsFor (e ∷ h) e.t new
done_stands e h since old new v n kind l s k look =
    closed_stands e h since old new (is_here v n) l s k
    (ap (λ w. new_pushes e.t w (confirmed_intent w h) (view h e.t)) kind)
    look
    (λ w m x f a. (
      ap (λ z. stays_owed z (confirmed_intent z h) x) kind ∙ done_stays e.t v n x None ∙ ap (λ y. not ((n == y) && (v == x.version.ver))) a.lease ∙ ap (λ y. not ((n == m) && (v == y))) a.version,
      ap (λ z. shown (after_miss e.t z x)) kind ∙ not_missed e.t ((v == x.version.ver) && (n == x.lease.intent.n) && false) x (and_false (v == x.version.ver) (n == x.lease.intent.n)),
    ))

-- ---- a push that was missed

owed_row : (t : ℕ) (o : Option OpenPair) (p : OpenPair) → unexpired t o ≡ Some p → (o ≡ Some p) × (nat_lt t p.exp ≡ true)
owed_row t None p k = absurd (cc)
owed_row t (Some q) p k = by (nat_lt t q.exp) refl k
  where
    by : (b : Bool) → nat_lt t q.exp ≡ b → cond b (Some q) None ≡ Some p → (Some q ≡ Some p) × (nat_lt t p.exp ≡ true)
    by true m k = let e : q ≡ p = cc in (k, subst (λ (z : OpenPair). nat_lt t z.exp ≡ true) e m)
    by false m k = absurd (cc)

-- the row of a pair after its miss
abbrev pub missed_row : ℕ → OwedPush → OpenPair
missed_row t x = record { tries = suc x.tries; next = t + delay (suc x.tries); exp = expiry x.lease }

inward : (b : Bool) (f : OwedPush → OwedPush) (x : OwedPush) → option_map shown (option_map f (cond b (Some x) None)) ≡ cond b (Some (shown (f x))) None
inward true f x = refl
inward false f x = refl

missed_left :
    (t v n code : ℕ) (i : Option Intent) (x : OwedPush) (a b d : Bool) → (v == x.version.ver) ≡ a → (n == x.lease.intent.n) ≡ b → nat_le 8 (suc x.tries) ≡ d
    → option_map shown (option_map (after_miss t (Pushed v n (Missed code))) (when (stays_owed (Pushed v n (Missed code)) i) (Some x)))
    ≡ cond (a && b) (cond d None (Some (missed_row t x))) (Some (shown x))
missed_left t v n code i x a b d p q r =
    inward (stays_owed (Pushed v n (Missed code)) i x) (after_miss t (Pushed v n (Missed code))) x
    ∙ ap (λ z. left z (n == x.lease.intent.n) (nat_le 8 (suc x.tries))) p ∙ ap (λ z. left a z (nat_le 8 (suc x.tries))) q ∙ ap (left a b) r ∙ by a b d
  where
    left : Bool → Bool → Bool → Option OpenPair
    left a b d =
        cond (not (a && b && false) && not ((a && b && true) && d) && true)
        (Some (record { tries = cond (a && b && true) (suc x.tries) x.tries; next = cond (a && b && true) (t + delay (suc x.tries)) x.next; exp = expiry x.lease })) None

    by : (a b d : Bool) → left a b d ≡ cond (a && b) (cond d None (Some (missed_row t x))) (Some (shown x))
    by true true true = refl
    by true true false = refl
    by true false d = refl
    by false b d = refl

last_try : (k : ℕ) → nat_le 7 k ≡ nat_le 8 (suc k)
last_try k = grind (arith, nat_tests)

one_more : (t : ℕ) (x : OwedPush) → row_after_miss t (shown x) ≡ cond (nat_le 8 (suc x.tries)) None (Some (missed_row t x))
one_more t x = rw (add-one, last_try x.tries) refl

unexpired_miss : (t : ℕ) (d : Bool) (x : OwedPush) → nat_lt t (expiry x.lease) ≡ true → unexpired t (cond d None (Some (missed_row t x))) ≡ cond d None (Some (missed_row t x))
unexpired_miss t true x k = refl
unexpired_miss t false x k = rw k refl

-- the pair of a push is owed, so it is open
pub pushed_owed : (e : Event) (h : List Event) (since : ℕ) (rows : Rows) (v n : ℕ) (how : How) → e.what ≡ Pushed v n how → Legal (e ∷ h) → StandsFor h since rows → since ≤ e.t → is_some (owed_at e.t v n rows) ≡ true
pushed_owed e h since rows v n how kind l s k = owed_is h since e.t v n rows s k ∙ subst (λ w. is_allowed w e.t h ≡ true) kind (allowed h e l.1)

pub owed_open : (t : ℕ) (o : Option OpenPair) → is_some (unexpired t o) ≡ true → IsSome o
owed_open t None k = k
owed_open t (Some p) k = refl

pub pushed_open : (e : Event) (h : List Event) (since : ℕ) (rows : Rows) (v n : ℕ) (how : How) → e.what ≡ Pushed v n how → Legal (e ∷ h) → StandsFor h since rows → since ≤ e.t → IsSome (pair_at v n rows)
pushed_open e h since rows v n how kind l s k = owed_open e.t (pair_at v n rows) (pushed_owed e h since rows v n how kind l s k)

some_same : {X : Type 0} {x y : X} → Some x ≡ Some y → x ≡ y
some_same k = cc

and_turned : (a b : Bool) → (a && b) ≡ (b && a)
and_turned true true = refl
and_turned true false = refl
and_turned false true = refl
and_turned false false = refl

-- the same test at an owed pair
here_at : (v n w m : ℕ) (x : OwedPush) → IsAt w m x → is_here v n w m ≡ ((v == x.version.ver) && (n == x.lease.intent.n))
here_at v n w m x a = and_turned (n == m) (v == w) ∙ ap (λ y. (v == y) && (n == m)) (sym a.version) ∙ ap (λ y. (v == x.version.ver) && (n == y)) (sym a.lease)

here_is : (v n w m : ℕ) → is_here v n w m ≡ true → (v ≡ w) × (n ≡ m)
here_is v n w m k = let q = and_parts (n == m) (v == w) k in (eqb-true v w q.1, eqb-true n m q.0)

pub missed_stands :
    (e : Event) (h : List Event) (since : ℕ) (old new : Rows) (v n code : ℕ) → e.what ≡ Pushed v n (Missed code) → Legal (e ∷ h) → StandsFor h since old → since ≤ e.t
    → IsSomeAnd (pair_at v n old) (λ p. (w m : ℕ) → pair_at w m new ≡ cond (is_here v n w m) (row_after_miss e.t p) (pair_at w m old)) → StandsFor (e ∷ h) e.t new
missed_stands e h since old new v n code kind l s k look = of (pair_at v n old) refl look
  where
    of : (o : Option OpenPair) → pair_at v n old ≡ o → IsSomeAnd o (λ p. (w m : ℕ) → pair_at w m new ≡ cond (is_here v n w m) (row_after_miss e.t p) (pair_at w m old)) → StandsFor (e ∷ h) e.t new
    of None r f = absurd f
    of (Some p) r f =
        stands_by e h since old new l s k
        (ap (λ w. new_pushes e.t w (confirmed_intent w h) (view h e.t)) kind)
        (λ w m q o. ap (unexpired e.t) (f w m) ∙ none_there w m (is_here v n w m) refl o)
        (λ w m x q a o.
        ap (unexpired e.t) (f w m)
        ∙ some_there w m x o (is_here v n w m) refl
        ∙ ap (λ b. cond b (cond (nat_le 8 (suc x.tries)) None (Some (missed_row e.t x))) (Some (shown x))) (here_at v n w m x a)
        ∙ sym (missed_left e.t v n code None x (v == x.version.ver) (n == x.lease.intent.n) (nat_le 8 (suc x.tries)) refl refl refl)
        ∙ ap (λ z. option_map shown (option_map (after_miss e.t z) (when (stays_owed z (confirmed_intent z h)) (Some x)))) (sym kind))
      where
        none_there : (w m : ℕ) (b : Bool) → is_here v n w m ≡ b → owed_at e.t w m old ≡ None → unexpired e.t (cond b (row_after_miss e.t p) (pair_at w m old)) ≡ None
        none_there w m true c o =
            let q = here_is v n w m c in
            absurd (false≢true (ap is_some (sym o) ∙ ap (λ z. is_some (owed_at e.t z m old)) (sym q.0) ∙ ap (λ z. is_some (owed_at e.t v z old)) (sym q.1) ∙ pushed_owed e h since old v n (Missed code) kind l s k))
        none_there w m false c o = o

        some_there : (w m : ℕ) (x : OwedPush) → owed_at e.t w m old ≡ Some (shown x) → (b : Bool) → is_here v n w m ≡ b
            → unexpired e.t (cond b (row_after_miss e.t p) (pair_at w m old)) ≡ cond b (cond (nat_le 8 (suc x.tries)) None (Some (missed_row e.t x))) (Some (shown x))
        some_there w m x o true c =
            let q = here_is v n w m c in
            let u = owed_row e.t (pair_at w m old) (shown x) o in
            let same : p ≡ shown x = some_same (sym r ∙ ap (λ z. pair_at z n old) q.0 ∙ ap (λ z. pair_at w z old) q.1 ∙ u.0) in
            ap (λ z. unexpired e.t (row_after_miss e.t z)) same ∙ ap (unexpired e.t) (one_more e.t x) ∙ unexpired_miss e.t (nat_le 8 (suc x.tries)) x u.1
        some_there w m x o false c = o

-- the row after a miss is of the history still
pub missed_pairs : (P : ℕ → ℕ → OpenPair → Type 0) (t v n : ℕ) (old new : Rows) → ((w m tries next : ℕ) (p : OpenPair) → P w m p → P w m (record { tries = tries; next = next; exp = p.exp }))
    → IsSomeAnd (pair_at v n old) (λ p. (w m : ℕ) → pair_at w m new ≡ cond (is_here v n w m) (row_after_miss t p) (pair_at w m old))
    → ((w m : ℕ) → IfSome (pair_at w m old) (P w m)) → (w m : ℕ) → IfSome (pair_at w m new) (P w m)
missed_pairs P t v n old new g look f w m = of (pair_at v n old) refl look
  where
    of : (o : Option OpenPair) → pair_at v n old ≡ o → IsSomeAnd o (λ p. (w m : ℕ) → pair_at w m new ≡ cond (is_here v n w m) (row_after_miss t p) (pair_at w m old)) → IfSome (pair_at w m new) (P w m)
    of None r k = absurd k
    of (Some p) r k = subst (λ o. IfSome o (P w m)) (sym (k w m)) (by (is_here v n w m) refl)
      where
        after : (b : Bool) → P w m p → IfSome (cond b None (Some (record { tries = p.tries + 1; next = t + delay (p.tries + 1); exp = p.exp }))) (P w m)
        after true q = tt
        after false q = g w m (p.tries + 1) (t + delay (p.tries + 1)) p q

        by : (b : Bool) → is_here v n w m ≡ b → IfSome (cond b (row_after_miss t p) (pair_at w m old)) (P w m)
        by true c = let q = here_is v n w m c in after (nat_le 7 p.tries) (subst (λ o. IfSome o (P w m)) (ap (λ z. pair_at z m old) (sym q.0) ∙ ap (λ z. pair_at v z old) (sym q.1) ∙ r) (f w m))
        by false c = f w m

-- and its version is kept still
pub missed_kept : (t v n : ℕ) (old new : Rows)
    → IsSomeAnd (pair_at v n old) (λ p. (w m : ℕ) → pair_at w m new ≡ cond (is_here v n w m) (row_after_miss t p) (pair_at w m old))
    → (vs : List (ℕ × Version)) → AreKept old vs → AreKept new vs
missed_kept t v n old new look vs = missed_pairs (λ v n p. IsSome (number_at v vs)) t v n old new (λ w m tries next p o. o) look

-- ---- leases that are ended

-- a push that was answered 410
pub gone_stands :
    (e : Event) (h : List Event) (since : ℕ) (old new : Rows) (v n : ℕ) → e.what ≡ Pushed v n Gone → Legal (e ∷ h) → StandsFor h since old → since ≤ e.t
    → ((w m : ℕ) → pair_at w m new ≡ cond (n == m) None (pair_at w m old)) → StandsFor (e ∷ h) e.t new
gone_stands e h since old new v n kind l s k look =
    closed_stands e h since old new (λ w m. n == m) l s k
    (ap (λ w. new_pushes e.t w (confirmed_intent w h) (view h e.t)) kind)
    look
    (λ w m x f a. (
      ap (λ z. stays_owed z (confirmed_intent z h) x) kind ∙ by (v == x.version.ver) (n == x.lease.intent.n) (nat_le 8 (suc x.tries)) ∙ ap (λ y. not (n == y)) a.lease,
      ap (λ z. shown (after_miss e.t z x)) kind ∙ not_missed e.t ((v == x.version.ver) && (n == x.lease.intent.n) && false) x (and_false (v == x.version.ver) (n == x.lease.intent.n)),
    ))
  where
    by : (a b d : Bool) → (not (a && b && false) && not ((a && b && false) && d) && is_none (cond b (Some LeaseGone) None)) ≡ not b
    by true true d = refl
    by true false d = refl
    by false true d = refl
    by false false d = refl

-- a revocation
pub revoked_stands :
    (e : Event) (h : List Event) (since : ℕ) (old new : Rows) (n : ℕ) (reason : List ℕ) → e.what ≡ Revoked n reason → Legal (e ∷ h) → StandsFor h since old → since ≤ e.t
    → ((w m : ℕ) → pair_at w m new ≡ cond (n == m) None (pair_at w m old)) → StandsFor (e ∷ h) e.t new
revoked_stands e h since old new n reason kind l s k look =
    closed_stands e h since old new (λ w m. n == m) l s k
    (ap (λ w. new_pushes e.t w (confirmed_intent w h) (view h e.t)) kind)
    look
    (λ w m x f a. (ap (λ z. stays_owed z (confirmed_intent z h) x) kind ∙ by (n == x.lease.intent.n) ∙ ap (λ y. not (n == y)) a.lease, ap (λ z. shown (after_miss e.t z x)) kind))
  where
    by : (b : Bool) → is_none (cond b (Some LeaseRevoked) None) ≡ not b
    by true = refl
    by false = refl
