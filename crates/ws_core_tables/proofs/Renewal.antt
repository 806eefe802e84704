-- What is owed to a lease goes over to the one that takes its place.
use Rattle.std.proofs.Common.{◌≡◌, ℕ, ◌≤◌, Bool, true, false, not, cond, ◌&&◌, List, [], ◌∷◌, ◌++◌, refl, ap, sym, ◌∙◌, subst, arith}
use Rattle.std.specs.Prelude.{nat_lt, Option, Some, None, IfSome, find, filter, map, ◌==◌}
use Rattle.std.specs.List.{AllByRecursion}
use Rattle.std.specs.Option.{option_map, option_or}
use Rattle.std.proofs.lemmas.List.Folds.{find-append}
use Rattle.std.proofs.lemmas.Bool.{eqb-true}
use Rattle.std.proofs.lemmas.Bool.Decides.{nat_tests}
use Rattle.ws_model.specs.declared.event.Event.{Event}
use Rattle.ws_model.specs.declared.event.Intent.{Intent}
use Rattle.ws_model.specs.declared.lease.Lease.{Lease}
use Rattle.ws_model.specs.Fate.{fate, is_owed}
use Rattle.ws_model.specs.Intents.{same_pair}
use Rattle.ws_model.specs.Leases.{confirmed_intent, expiry, is_on}
use Rattle.ws_model.specs.Legal.{Legal}
use Rattle.ws_model.specs.Moment.{last_time}
use Rattle.ws_model.specs.Pairs.{owed, pairs}
use Rattle.ws_model.specs.Revocation.{live_lease_of}
use Rattle.ws_model.specs.View.{OwedPush, owed_push, view}
use Rattle.ws_laws.specs.Steps.{after_miss, new_push, new_pushes, owed_afresh, stays_owed}
use Rattle.ws_laws.proofs.Ended.{IsToldPair, pairs_told}
use Rattle.ws_laws.proofs.Known.{in_time}
use Rattle.ws_laws.proofs.ListLaws.{all_filter_with, all_from, all_map, all_weaker, find-map}
use Rattle.ws_laws.proofs.Paired.{owed_lives}
use Rattle.ws_lease.specs.Stands.{MakesLease}
use Rattle.ws_delivery.specs.declared.open_pair.OpenPair.{OpenPair}
use Rattle.ws_delivery.specs.Table.{Rows, carried, owed_at, pair_at, unexpired}
use Rattle.ws_delivery.specs.Stands.{StandsFor, is_pair, shown, shown_of}
use Rattle.ws_delivery.proofs.Standing.{stands_after}
use Rattle.ws_core_tables.specs.Stands.{is_number, renewed}
use Rattle.ws_core_tables.proofs.Confirmation.{pair_by_number, push_lives, stays_confirmed}
use Rattle.ws_core_tables.proofs.Stepped.{closed_at, found_at, left_at, left_of, pushes}

-- ---- lists

find-filter : {X : Type 0} (p q : X → Bool) (xs : List X) → find p (filter q xs) ≡ find (λ x. q x && p x) xs
find-filter p q [] = refl
find-filter p q (x ∷ xs) = one (q x) (p x) refl (find-filter p q xs)
  where
    one : (a b : Bool) → p x ≡ b → find p (filter q xs) ≡ find (λ x. q x && p x) xs → find p (cond a (x ∷ filter q xs) (filter q xs)) ≡ cond (a && b) (Some x) (find (λ x. q x && p x) xs)
    one true b e f = ap (λ z. cond z (Some x) (find p (filter q xs))) e ∙ ap (cond b (Some x)) f
    one false b e f = f

pub find_same : {X : Type 0} (p q : X → Bool) (xs : List X) → AllByRecursion (λ x. p x ≡ q x) xs → find p xs ≡ find q xs
find_same p q [] a = refl
find_same p q (x ∷ xs) a = rw (a.0, find_same p q xs a.1)

pub find_never : {X : Type 0} (xs : List X) → find (λ x. false) xs ≡ None
find_never [] = refl
find_never (x ∷ xs) = find_never xs

and_end : (b : Bool) → (b && true) ≡ b
and_end true = refl
and_end false = refl

and_never : (b : Bool) → (b && false) ≡ false
and_never true = refl
and_never false = refl

and_turned : (a b : Bool) → (a && b) ≡ (b && a)
and_turned true b = sym (and_end b)
and_turned false b = sym (and_never b)

same_turned : (m n : ℕ) → (m == n) ≡ (n == m)
same_turned m n = grind (arith, nat_tests)

-- ---- the pairs that are born

-- of each owed pair, whether its lease is of the topic and the callback
pub by_number :
    (h : List Event) (t : ℕ) (i : Intent) → Legal h → last_time h ≤ t
    → AllByRecursion (λ w. same_pair i w.lease.intent ≡ is_number (option_map (λ l. l.intent.n) (live_lease_of h t i.topic i.callback)) w.lease.intent.n) (pushes h t)
by_number h t i l k =
    all_map (λ w. same_pair i w.lease.intent ≡ is_number (option_map (λ l. l.intent.n) (live_lease_of h t i.topic i.callback)) w.lease.intent.n) (owed_push h) (owed h t)
    (all_weaker (λ p. IsToldPair h p × (is_owed (fate h p t) ≡ true)) (λ p. same_pair i p.lease.intent ≡ is_number (option_map (λ l. l.intent.n) (live_lease_of h t i.topic i.callback)) p.lease.intent.n)
    (λ p q. pair_by_number h t i p.lease.intent.n p.lease l k (owed_lives h t p q.0 q.1)) (owed h t)
    (all_filter_with (IsToldPair h) (λ p. is_owed (fate h p t)) (pairs h) (pairs_told h l)))

-- the owed pair of a version, of the lease that is found, where one is
abbrev pub of_found : ℕ → Option ℕ → List OwedPush → Option OwedPush
of_found v None ws = None
of_found v (Some m) ws = find (is_pair v m) ws

pub taken_over : (v : ℕ) (i : Intent) (o : Option ℕ) (ws : List OwedPush) → AllByRecursion (λ w. same_pair i w.lease.intent ≡ is_number o w.lease.intent.n) ws
    → find (λ w. w.version.ver == v) (filter (λ w. same_pair i w.lease.intent) ws) ≡ of_found v o ws
taken_over v i None ws a =
    find-filter (λ w. w.version.ver == v) (λ w. same_pair i w.lease.intent) ws
    ∙ find_same (λ w. same_pair i w.lease.intent && (w.version.ver == v)) (λ w. false) ws (all_weaker (λ w. same_pair i w.lease.intent ≡ false) (λ w. (same_pair i w.lease.intent && (w.version.ver == v)) ≡ false) (λ w k. ap (λ b. b && (w.version.ver == v)) k) ws a)
    ∙ find_never ws
taken_over v i (Some m) ws a =
    find-filter (λ w. w.version.ver == v) (λ w. same_pair i w.lease.intent) ws
    ∙ find_same (λ w. same_pair i w.lease.intent && (w.version.ver == v)) (is_pair v m) ws
    (all_weaker (λ w. same_pair i w.lease.intent ≡ (m == w.lease.intent.n)) (λ w. (same_pair i w.lease.intent && (w.version.ver == v)) ≡ is_pair v m w)
    (λ w k. ap (λ b. b && (w.version.ver == v)) (k ∙ same_turned m w.lease.intent.n) ∙ and_turned (w.lease.intent.n == m) (w.version.ver == v)) ws a)

-- what the new lease is owed
pub born_at :
    (h : List Event) (t v n : ℕ) (l : Lease) → Legal h → last_time h ≤ t
    → find (is_pair v n) (owed_afresh t (pushes h t) (l ∷ []))
    ≡ cond (l.intent.n == n) (option_map (λ w. new_push t w.version l) (of_found v (option_map (λ l. l.intent.n) (live_lease_of h t l.intent.topic l.intent.callback)) (pushes h t))) None
born_at h t v n l g k = find-map (λ w. new_push t w.version l) (is_pair v n) (filter (λ w. same_pair l.intent w.lease.intent) (pushes h t)) ∙ by (l.intent.n == n)
  where
    by : (b : Bool) → option_map (λ w. new_push t w.version l) (find (λ (w : OwedPush). (w.version.ver == v) && b) (filter (λ w. same_pair l.intent w.lease.intent) (pushes h t)))
        ≡ cond b (option_map (λ w. new_push t w.version l) (of_found v (option_map (λ l. l.intent.n) (live_lease_of h t l.intent.topic l.intent.callback)) (pushes h t))) None
    by true =
        ap (option_map (λ w. new_push t w.version l))
        (find_same (λ w. (w.version.ver == v) && true) (λ w. w.version.ver == v) (filter (λ w. same_pair l.intent w.lease.intent) (pushes h t)) (all_from (λ w. ((w.version.ver == v) && true) ≡ (w.version.ver == v)) (λ w. and_end (w.version.ver == v)) (filter (λ w. same_pair l.intent w.lease.intent) (pushes h t)))
        ∙ taken_over v l.intent (option_map (λ l. l.intent.n) (live_lease_of h t l.intent.topic l.intent.callback)) (pushes h t) (by_number h t l.intent g k))
    by false =
        ap (option_map (λ w. new_push t w.version l))
        (find_same (λ w. (w.version.ver == v) && false) (λ w. false) (filter (λ w. same_pair l.intent w.lease.intent) (pushes h t)) (all_from (λ w. ((w.version.ver == v) && false) ≡ false) (λ w. and_never (w.version.ver == v)) (filter (λ w. same_pair l.intent w.lease.intent) (pushes h t)))
        ∙ find_never (filter (λ w. same_pair l.intent w.lease.intent) (pushes h t)))

-- ---- the table after it

shown_fresh : (t : ℕ) (l : Lease) (o : Option OwedPush) → option_map shown (option_map (λ w. new_push t w.version l) o) ≡ carried (expiry l) t (option_map shown o)
shown_fresh t l None = refl
shown_fresh t l (Some w) = refl

unexpired_fresh : (t : ℕ) (l : Lease) (o : Option OpenPair) → nat_lt t (expiry l) ≡ true → unexpired t (carried (expiry l) t o) ≡ carried (expiry l) t o
unexpired_fresh t l None k = refl
unexpired_fresh t l (Some p) k = rw k refl

or_none : {X : Type 0} (o : Option X) → option_or o None ≡ o
or_none None = refl
or_none (Some x) = refl

pub map_or : {X Y : Type 0} (f : X → Y) (a b : Option X) → option_map f (option_or a b) ≡ option_or (option_map f a) (option_map f b)
map_or f None b = refl
map_or f (Some x) b = refl

pub nothing_shown : (o : Option OwedPush) → None ≡ option_map shown o → o ≡ None
nothing_shown None k = refl
nothing_shown (Some w) k = absurd (cc)

-- the new lease isn't the old one, which had pairs
not_renewed : (exp t n v q : ℕ) (o : Option ℕ) (rows : Rows) → pair_at v n rows ≡ None → (n == q) ≡ true → cond (is_number o q) None (renewed exp t o v rows) ≡ renewed exp t o v rows
not_renewed exp t n v q None rows k e = refl
not_renewed exp t n v q (Some m) rows k e = by (m == q) refl
  where
    by : (b : Bool) → (m == q) ≡ b → cond b None (carried exp t (pair_at v m rows)) ≡ carried exp t (pair_at v m rows)
    by true f = sym (ap (λ z. carried exp t (pair_at v z rows)) (eqb-true m q f ∙ sym (eqb-true n q e)) ∙ ap (carried exp t) k)
    by false f = refl

pub makes : (e : Event) (h : List Event) (l : Lease) → MakesLease e h l → is_on l.intent.mode ≡ true → new_pushes e.t e.what (confirmed_intent e.what h) (view h e.t) ≡ owed_afresh e.t (pushes h e.t) (l ∷ [])
makes e h l m on =
    (λ j. new_pushes e.t (m.confirms j) (m.asked j) (view h e.t))
    ∙ ap (λ b. owed_afresh e.t (pushes h e.t) (cond b (l ∷ []) [])) on

-- the table has at each pair what the history has
pub subscription_stands :
    (e : Event) (h : List Event) (since : ℕ) (old new : Rows) (l : Lease) (o : Option ℕ) → MakesLease e h l → is_on l.intent.mode ≡ true → nat_lt e.t (expiry l) ≡ true
    → o ≡ option_map (λ l. l.intent.n) (live_lease_of h e.t l.intent.topic l.intent.callback)
    → Legal (e ∷ h) → StandsFor h since old → since ≤ e.t
    → ((v : ℕ) → pair_at v l.intent.n old ≡ None)
    → ((v : ℕ) → IfSome o (λ q. owed_at e.t v q old ≡ pair_at v q old))
    → ((v q : ℕ) → pair_at v q new ≡ cond (is_number o q) None (cond (l.intent.n == q) (renewed (expiry l) e.t o v old) (pair_at v q old)))
    → StandsFor (e ∷ h) e.t new
subscription_stands e h since old new l o m on lasts is g s k none whole look =
    stands_after h e new g (λ v n. at v n (l.intent.n == n) refl ∙ sym (after v n))
  where
    ws : List OwedPush
    ws = pushes h e.t

    old_lease : Option ℕ
    old_lease = option_map (λ l. l.intent.n) (live_lease_of h e.t l.intent.topic l.intent.callback)

    -- the pairs after the event, in two parts
    after : (v n : ℕ) → shown_of v n (new_pushes e.t e.what (confirmed_intent e.what h) (view h e.t) ++ map (after_miss e.t e.what) (filter (stays_owed e.what (confirmed_intent e.what h)) ws))
        ≡ option_or (option_map shown (cond (l.intent.n == n) (option_map (λ w. new_push e.t w.version l) (of_found v old_lease ws)) None)) (left_of e h (find (is_pair v n) ws))
    after v n =
        ap (λ xs. shown_of v n (xs ++ map (after_miss e.t e.what) (filter (stays_owed e.what (confirmed_intent e.what h)) ws))) (makes e h l m on)
        ∙ ap (option_map shown) (find-append (is_pair v n) (owed_afresh e.t ws (l ∷ [])) (map (after_miss e.t e.what) (filter (stays_owed e.what (confirmed_intent e.what h)) ws)))
        ∙ map_or shown (find (is_pair v n) (owed_afresh e.t ws (l ∷ []))) (find (is_pair v n) (map (after_miss e.t e.what) (filter (stays_owed e.what (confirmed_intent e.what h)) ws)))
        ∙ ap (λ x. option_or x (shown_of v n (map (after_miss e.t e.what) (filter (stays_owed e.what (confirmed_intent e.what h)) ws)))) (ap (option_map shown) (born_at h e.t v n l g.0 (in_time h e g.1)))
        ∙ ap (option_or (option_map shown (cond (l.intent.n == n) (option_map (λ w. new_push e.t w.version l) (of_found v old_lease ws)) None))) (left_at e h v n g.0)

    -- what the old lease was owed
    owed_before : (v : ℕ) (z : Option ℕ) → IfSome z (λ q. owed_at e.t v q old ≡ pair_at v q old) → carried (expiry l) e.t (option_map shown (of_found v z ws)) ≡ renewed (expiry l) e.t z v old
    owed_before v None u = refl
    owed_before v (Some q) u = ap (carried (expiry l) e.t) (sym (s.shows e.t v q k) ∙ u)

    at : (v n : ℕ) (b : Bool) → (l.intent.n == n) ≡ b
        → owed_at e.t v n new ≡ option_or (option_map shown (cond (l.intent.n == n) (option_map (λ w. new_push e.t w.version l) (of_found v old_lease ws)) None)) (left_of e h (find (is_pair v n) ws))
    at v n true c =
        ap (unexpired e.t) (look v n ∙ ap (λ b. cond (is_number o n) None (cond b (renewed (expiry l) e.t o v old) (pair_at v n old))) c ∙ not_renewed (expiry l) e.t l.intent.n v n o old (none v) c)
        ∙ ap (λ z. unexpired e.t (renewed (expiry l) e.t z v old)) is
        ∙ ap (unexpired e.t) (sym (owed_before v old_lease (subst (λ z. IfSome z (λ q. owed_at e.t v q old ≡ pair_at v q old)) is (whole v))))
        ∙ unexpired_fresh e.t l (option_map shown (of_found v old_lease ws)) lasts
        ∙ sym (shown_fresh e.t l (of_found v old_lease ws))
        ∙ sym (or_none (option_map shown (option_map (λ w. new_push e.t w.version l) (of_found v old_lease ws))))
        ∙ ap (option_or (option_map shown (option_map (λ w. new_push e.t w.version l) (of_found v old_lease ws)))) (ap (left_of e h) (sym (nothing_shown (find (is_pair v n) ws) (sym (ap (unexpired e.t) (subst (λ q. pair_at v q old ≡ None) (eqb-true l.intent.n n c) (none v))) ∙ s.shows e.t v n k))))
        ∙ ap (λ b. option_or (option_map shown (cond b (option_map (λ w. new_push e.t w.version l) (of_found v old_lease ws)) None)) (left_of e h (find (is_pair v n) ws))) (sym c)
    at v n false c =
        ap (unexpired e.t) (look v n ∙ ap (λ b. cond (is_number o n) None (cond b (renewed (expiry l) e.t o v old) (pair_at v n old))) c)
        ∙ closed_at e h (is_number o n) (pair_at v n old) (find (is_pair v n) ws) (s.shows e.t v n k)
        (λ x f. (
          stays_confirmed e h l.intent.n l.sent l.intent x m.confirms m.asked
              ∙ ap not (pair_by_number h e.t l.intent x.lease.intent.n x.lease g.0 (in_time h e g.1) (push_lives h e.t v n x g.0 f)
              ∙ ap (is_number old_lease) (found_at v n ws x f).lease ∙ ap (λ z. is_number z n) (sym is)),
          ap (λ z. shown (after_miss e.t z x)) m.confirms,
        ))
        ∙ ap (λ b. option_or (option_map shown (cond b (option_map (λ w. new_push e.t w.version l) (of_found v old_lease ws)) None)) (left_of e h (find (is_pair v n) ws))) (sym c)
