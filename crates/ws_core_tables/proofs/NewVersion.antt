-- A new version is owed to the live leases of its topic.
use Rattle.std.proofs.Common.{◌≡◌, ℕ, ◌≤◌, ◌<◌, Bool, true, false, cond, ◌&&◌, List, [], ◌∷◌, ◌++◌, refl, ap, sym, ◌∙◌, subst, arith}
use Rattle.std.specs.Prelude.{nat_le, is_none, is_some, bytes_eq, Option, Some, None, IfSome, IsSome, find, filter, map, ◌==◌}
use Rattle.std.specs.List.{AllByRecursion}
use Rattle.std.specs.List.Sorted.{IsStrictlySortedBy}
use Rattle.std.specs.Ordering.{nat_cmp}
use Rattle.std.specs.Option.{option_map, option_or}
use Rattle.std.proofs.lemmas.List.Folds.{find-append}
use Rattle.std.proofs.lemmas.Bool.{and_parts, or_left, eqb-true, false≢true, leb-true, ltb-true}
use Rattle.std.proofs.lemmas.Bool.Decides.{nat_tests}
use Rattle.std.proofs.lemmas.Option.{IfSome_then}
use Rattle.std.proofs.lemmas.Map.Views.{All-after_first}
use Rattle.std.proofs.lemmas.List.Elements.{recursion_from_All}
use Rattle.std.specs.declared.cmp.Ordering.TheVariants.{Less}
use Rattle.ws_model.specs.declared.event.Event.{Event}
use Rattle.ws_model.specs.declared.event.Intent.{Intent}
use Rattle.ws_model.specs.declared.event.Version.{Version}
use Rattle.ws_model.specs.declared.event.What.{What}
use Rattle.ws_model.specs.declared.event.What.TheVariants.{Confirmed, Fetched}
use Rattle.ws_model.specs.declared.lease.Lease.{Lease}
use Rattle.ws_model.specs.History.{has}
use Rattle.ws_model.specs.Intents.{is_first}
use Rattle.ws_model.specs.Leases.{confirmed_intent, expiry, is_on, lease_by, lease_end, lease_of, leases, live}
use Rattle.ws_model.specs.Legal.{Legal, is_allowed, is_confirmable, is_confirmed_in_time, pending_of}
use Rattle.ws_model.specs.Moment.{last_time, last_version}
use Rattle.ws_model.specs.Versions.{is_fetched, versions}
use Rattle.ws_model.specs.View.{OwedPush, view}
use Rattle.ws_laws.specs.Steps.{after_miss, new_push, new_pushes, stays_owed}
use Rattle.ws_laws.proofs.Follow.{some_found}
use Rattle.ws_laws.proofs.Known.{allowed, fetched_le}
use Rattle.ws_laws.proofs.ListLaws.{all_append, all_filter, all_find, all_weaker, find-map}
use Rattle.ws_laws.proofs.Topics.{versions_le}
use Rattle.ws_lease.specs.Table.{Rows as LeaseRows, live_at, live_numbers}
use Rattle.ws_lease.specs.Stands.{StandsFor as LeasesStand, AreNumbersOf, is_numbered, touches_leases}
use Rattle.ws_lease.proofs.Standing.{find_where, found_number, live_apart, when}
use Rattle.ws_intent.specs.Stands.{StandsFor as IntentsStand, is_other as leaves_intents}
use Rattle.ws_intent.proofs.Standing.{others_stand as intents_stand_on}
use Rattle.ws_topic.specs.Rows.{Rows as TopicRows, number_at}
use Rattle.ws_topic.specs.Stands.{StandsFor as TopicsStand}
use Rattle.ws_delivery.specs.declared.open_pair.OpenPair.{OpenPair}
use Rattle.ws_delivery.specs.Table.{Rows, fresh, owed_at, pair_at, unexpired}
use Rattle.ws_delivery.specs.Stands.{StandsFor, is_pair, shown, shown_of}
use Rattle.ws_delivery.proofs.Standing.{stands_after}
use Rattle.ws_core_tables.specs.Births.{AreDistinct, IsBearer, born_for, is_among, member}
use Rattle.ws_core_tables.specs.declared.numbers.Numbers.{Numbers}
use Rattle.ws_core_tables.specs.Numbers.{with_event}
use Rattle.ws_core_tables.specs.Rows.{Rows as Tables}
use Rattle.ws_core_tables.specs.Stands.{AreKept, GoesOn, IsOfHistory}
use Rattle.ws_core_tables.proofs.NewLease.{live_told}
use Rattle.ws_core_tables.proofs.Onward.{leases_on, numbers_on, of_history_on}
use Rattle.ws_core_tables.proofs.Renewal.{find_never, map_or, nothing_shown}
use Rattle.ws_core_tables.proofs.Stepped.{closed_at, left_at, left_of, pushes}

-- ---- it is new

pub new_above : (e : Event) (h : List Event) (x : Version) → Legal (e ∷ h) → e.what ≡ Fetched x → last_version h < x.ver
new_above e h x l k = ltb-true (last_version h) x.ver (subst (λ (w : What). is_allowed w e.t h ≡ true) k (allowed h e l.1))

no_number : (a b : ℕ) → a ≤ b → b < a → ⊥
no_number a b k l = absurd (omega arith)

-- so it has no pair
pub unpaired : (e : Event) (h : List Event) (x : Version) (rows : Rows) → Legal (e ∷ h) → e.what ≡ Fetched x → ((v n : ℕ) → IfSome (pair_at v n rows) (IsOfHistory h v n)) → (n : ℕ) → pair_at x.ver n rows ≡ None
unpaired e h x rows l k f n = by (pair_at x.ver n rows) (f x.ver n)
  where
    by : (o : Option OpenPair) → IfSome o (IsOfHistory h x.ver n) → ◌≡◌ {A = Option OpenPair} o None
    by None q = refl
    by (Some p) q = absurd (no_number x.ver (last_version h) (fetched_le h x.ver q.fetched) (new_above e h x l k))

-- and isn't kept yet
pub unkept : (e : Event) (h : List Event) (x : Version) (rows : TopicRows) → Legal (e ∷ h) → e.what ≡ Fetched x → TopicsStand rows h → number_at x.ver rows.versions ≡ None
unkept e h x rows l k s = by (number_at x.ver rows.versions) (s.kept x.ver)
  where
    by : (o : Option Version) → IfSome o (λ v. find (λ w. w.ver == x.ver) (versions h) ≡ Some v) → ◌≡◌ {A = Option Version} o None
    by None q = refl
    by (Some v) q =
        let a = all_find (λ (w : Version). w.ver ≤ last_version h) (λ w. w.ver == x.ver) v (versions h) (versions_le h) q in
        absurd (no_number x.ver (last_version h) (subst (λ m. m ≤ last_version h) (eqb-true v.ver x.ver a.1) a.0) (new_above e h x l k))

-- ---- the leases

-- each was sent before the last event
sent_one : (e : Event) (h : List Event) (w : What) → is_allowed w e.t h ≡ true → AllByRecursion (λ l. l.sent ≤ e.t) (lease_of w (confirmed_intent w h))
sent_one e h (Confirmed n sent) k = made (find (λ i. i.n == n) _)
  where
    before : (o : Option Intent) → is_confirmable h sent e.t o ≡ true → sent ≤ e.t
    before None q = absurd (false≢true q)
    before (Some i) q = leb-true sent e.t (and_parts (is_first h i) (nat_le sent e.t) (and_parts (is_first h i && nat_le sent e.t) (is_confirmed_in_time sent e.t i) q).0).1

    made : (o : Option Intent) → AllByRecursion (λ (l : Lease). l.sent ≤ e.t) (lease_by sent o)
    made None = tt
    made (Some i) = by (is_on i.mode)
      where
        by : (b : Bool) → AllByRecursion (λ (l : Lease). l.sent ≤ e.t) (cond b (record { intent = i; sent = sent } ∷ []) [])
        by true = (before (pending_of h n) k, tt)
        by false = tt
sent_one e h w k = tt

pub leases_sent : (h : List Event) → Legal h → AllByRecursion (λ l. l.sent ≤ last_time h) (leases h)
leases_sent [] l = tt
leases_sent (e ∷ h) l =
    all_append (λ x. x.sent ≤ last_time (e ∷ h)) (lease_of e.what (confirmed_intent e.what h)) (leases h)
    (all_weaker (λ (x : Lease). x.sent ≤ e.t) (λ (x : Lease). x.sent ≤ last_time (e ∷ h)) (λ x k. omega arith) (lease_of e.what (confirmed_intent e.what h)) (sent_one e h e.what (allowed h e l.1)))
    (all_weaker (λ (x : Lease). x.sent ≤ last_time h) (λ (x : Lease). x.sent ≤ last_time (e ∷ h)) (λ x k. omega arith) (leases h) (leases_sent h l.0))

before_since : (a b c d : ℕ) → a ≤ b → b ≤ c → c ≤ d → a ≤ d
before_since a b c d k l m = omega arith

-- a live lease bears pairs with its end
pub bearers : (h : List Event) (since t n : ℕ) (ls : LeaseRows) (rows : Rows) → Legal h → LeasesStand h since ls → since ≤ t → ((v n : ℕ) → IfSome (pair_at v n rows) (IsOfHistory h v n)) → IsBearer t n ls rows
bearers h since t n ls rows l s k f = subst (λ o. IfSome o (λ l. (l.sent ≤ t) × ((v : ℕ) → IfSome (pair_at v n rows) (λ p. p.exp ≡ expiry l)))) (sym (s.shows t n k)) (by (find (is_numbered n) (live h t)) refl)
  where
    one : (y : Lease) → find (is_numbered n) (live h t) ≡ Some y → (v : ℕ) (o : Option OpenPair) → IfSome o (IsOfHistory h v n) → IfSome o (λ p. p.exp ≡ expiry y)
    one y m v None q = tt
    one y m v (Some p) q =
        let number : y.intent.n ≡ n = eqb-true y.intent.n n (all_find (λ (x : Lease). x.sent ≤ last_time h) (is_numbered n) y (live h t) (all_filter (λ x. x.sent ≤ last_time h) (λ x. is_none (lease_end h x t)) (leases h) (leases_sent h l)) m).1 in
        let same : Some q.lease ≡ Some y = sym q.leased ∙ ap (λ z. find (λ x. x.intent.n == z) (leases h)) (sym number) ∙ (live_told h t (is_numbered n) y l m).0 in
        let is : q.lease ≡ y = cc in
        q.end ∙ ap expiry is

    by : (o : Option Lease) → find (is_numbered n) (live h t) ≡ o → IfSome o (λ l. (l.sent ≤ t) × ((v : ℕ) → IfSome (pair_at v n rows) (λ p. p.exp ≡ expiry l)))
    by None m = tt
    by (Some y) m = (before_since y.sent (last_time h) since t (all_find (λ (x : Lease). x.sent ≤ last_time h) (is_numbered n) y (live h t) (all_filter (λ x. x.sent ≤ last_time h) (λ x. is_none (lease_end h x t)) (leases h) (leases_sent h l)) m).0 s.begun k, λ v. one y m v (pair_at v n rows) (f v n))

-- ---- their numbers

there_is : {X : Type 0} (o : Option X) → is_some o ≡ true → IsSome o
there_is None k = k
there_is (Some x) k = refl

kept_some : (p : Lease → Bool) (o : Option Lease) → is_some (when p o) ≡ true → is_some o ≡ true
kept_some p None k = k
kept_some p (Some l) k = refl

pub numbers_live : (h : List Event) (since t : ℕ) (x : Version) (ls : LeaseRows) (numbers : List ℕ) → Legal h → LeasesStand h since ls → since ≤ t → AreNumbersOf numbers (filter (λ l. bytes_eq l.intent.topic x.topic) (live h t)) → (n : ℕ) → member n numbers ≡ true → IsSome (live_at n t ls)
numbers_live h since t x ls numbers l s k a n m =
    there_is (live_at n t ls)
    (ap is_some (s.shows t n k)
    ∙ kept_some (λ l. bytes_eq l.intent.topic x.topic) (find (is_numbered n) (live h t))
    (ap is_some (sym (find_where (λ l. bytes_eq l.intent.topic x.topic) n (live h t) (live_apart h l t))) ∙ some_found (is_numbered n) (filter (λ l. bytes_eq l.intent.topic x.topic) (live h t)) ∙ sym (a.same n) ∙ m))

-- ---- the pairs after it

born_numbered : (t v n : ℕ) (x : Version) (ls : List Lease) → find (is_pair v n) (map (λ l. new_push t x l) ls) ≡ cond (x.ver == v) (option_map (λ l. new_push t x l) (find (is_numbered n) ls)) None
born_numbered t v n x ls = find-map (λ l. new_push t x l) (is_pair v n) ls ∙ by (x.ver == v)
  where
    by : (b : Bool) → option_map (λ l. new_push t x l) (find (λ (l : Lease). b && (l.intent.n == n)) ls) ≡ cond b (option_map (λ l. new_push t x l) (find (is_numbered n) ls)) None
    by true = refl
    by false = ap (option_map (λ l. new_push t x l)) (find_never ls)

when_some : (p : Lease → Bool) (o : Option Lease) (l : Lease) → when p o ≡ Some l → o ≡ Some l
when_some p None l k = absurd (cc)
when_some p (Some y) l k = by (p y) k
  where
    by : (b : Bool) → cond b (Some y) None ≡ Some l → Some y ≡ Some l
    by true k = k
    by false k = absurd (cc)

pub fetched_stands :
    (e : Event) (h : List Event) (since : ℕ) (old new : Rows) (ls : LeaseRows) (x : Version) (numbers : List ℕ) → e.what ≡ Fetched x → Legal (e ∷ h) → StandsFor h since old → LeasesStand h since ls → since ≤ e.t
    → AreNumbersOf numbers (filter (λ l. bytes_eq l.intent.topic x.topic) (live h e.t))
    → ((n : ℕ) → pair_at x.ver n old ≡ None)
    → ((v n : ℕ) → pair_at v n new ≡ cond (is_among x.ver numbers v n) (born_for e.t (live_at n e.t ls)) (pair_at v n old))
    → StandsFor (e ∷ h) e.t new
fetched_stands e h since old new ls x numbers kind g s leased k among none look = stands_after h e new g (λ v n. at v n (x.ver == v) refl ∙ sym (after v n))
  where
    t : ℕ
    t = e.t

    ws : List OwedPush
    ws = pushes h e.t

    bearing : List Lease
    bearing = filter (λ l. bytes_eq l.intent.topic x.topic) (live h e.t)

    after : (v n : ℕ) → shown_of v n (new_pushes e.t e.what (confirmed_intent e.what h) (view h e.t) ++ map (after_miss e.t e.what) (filter (stays_owed e.what (confirmed_intent e.what h)) ws))
        ≡ option_or (option_map shown (cond (x.ver == v) (option_map (λ l. new_push e.t x l) (find (is_numbered n) bearing)) None)) (left_of e h (find (is_pair v n) ws))
    after v n =
        ap (λ xs. shown_of v n (xs ++ map (after_miss e.t e.what) (filter (stays_owed e.what (confirmed_intent e.what h)) ws))) (ap (λ w. new_pushes e.t w (confirmed_intent w h) (view h e.t)) kind)
        ∙ ap (option_map shown) (find-append (is_pair v n) (map (λ l. new_push e.t x l) bearing) (map (after_miss e.t e.what) (filter (stays_owed e.what (confirmed_intent e.what h)) ws)))
        ∙ map_or shown (find (is_pair v n) (map (λ l. new_push e.t x l) bearing)) (find (is_pair v n) (map (after_miss e.t e.what) (filter (stays_owed e.what (confirmed_intent e.what h)) ws)))
        ∙ ap (λ z. option_or z (shown_of v n (map (after_miss e.t e.what) (filter (stays_owed e.what (confirmed_intent e.what h)) ws)))) (ap (option_map shown) (born_numbered e.t v n x bearing))
        ∙ ap (option_or (option_map shown (cond (x.ver == v) (option_map (λ l. new_push e.t x l) (find (is_numbered n) bearing)) None))) (left_at e h v n g.0)

    -- the pair of the new version and a lease
    new_pair : (v n : ℕ) → (x.ver == v) ≡ true → (z : Option Lease) → find (is_numbered n) bearing ≡ z
        → unexpired e.t (cond (is_some z) (born_for e.t (live_at n e.t ls)) (pair_at v n old)) ≡ option_or (option_map shown (option_map (λ l. new_push e.t x l) z)) (left_of e h (find (is_pair v n) ws))
    new_pair v n c None m =
        let unpaired_there : pair_at v n old ≡ None = subst (λ w. pair_at w n old ≡ None) (eqb-true x.ver v c) (none n) in
        ap (unexpired e.t) unpaired_there
        ∙ ap (left_of e h) (sym (nothing_shown (find (is_pair v n) ws) (sym (ap (unexpired e.t) unpaired_there) ∙ s.shows e.t v n k)))
    new_pair v n c (Some l) m =
        let found = when_some (λ l. bytes_eq l.intent.topic x.topic) (find (is_numbered n) (live h e.t)) l (sym (find_where (λ l. bytes_eq l.intent.topic x.topic) n (live h e.t) (live_apart h g.0 e.t)) ∙ m) in
        ap (λ o. unexpired e.t (born_for e.t o)) (leased.shows e.t n k ∙ found)
        ∙ ap (λ b. cond b (Some (fresh (expiry l) e.t)) None) (live_told h e.t (is_numbered n) l g.0 found).1

    at : (v n : ℕ) (b : Bool) → (x.ver == v) ≡ b
        → owed_at e.t v n new ≡ option_or (option_map shown (cond (x.ver == v) (option_map (λ l. new_push e.t x l) (find (is_numbered n) bearing)) None)) (left_of e h (find (is_pair v n) ws))
    at v n true c =
        ap (unexpired e.t) (look v n ∙ ap (λ b. cond (b && member n numbers) (born_for e.t (live_at n e.t ls)) (pair_at v n old)) c
        ∙ ap (λ b. cond b (born_for e.t (live_at n e.t ls)) (pair_at v n old)) (among.same n ∙ sym (some_found (is_numbered n) bearing)))
        ∙ new_pair v n c (find (is_numbered n) bearing) refl
        ∙ ap (λ b. option_or (option_map shown (cond b (option_map (λ l. new_push e.t x l) (find (is_numbered n) bearing)) None)) (left_of e h (find (is_pair v n) ws))) (sym c)
    at v n false c =
        ap (unexpired e.t) (look v n ∙ ap (λ b. cond (b && member n numbers) (born_for e.t (live_at n e.t ls)) (pair_at v n old)) c)
        ∙ closed_at e h false (pair_at v n old) (find (is_pair v n) ws) (s.shows e.t v n k)
        (λ y f. (ap (λ w. stays_owed w (confirmed_intent w h) y) kind, ap (λ w. shown (after_miss e.t w y)) kind))
        ∙ ap (λ b. option_or (option_map shown (cond b (option_map (λ l. new_push e.t x l) (find (is_numbered n) bearing)) None)) (left_of e h (find (is_pair v n) ws))) (sym c)

-- ---- the whole

below_not : (n q : ℕ) → nat_cmp n q ≡ Less → (q == n) ≡ false
below_not n q k = grind (arith, nat_tests)

not_member : (n : ℕ) (ns : List ℕ) → AllByRecursion (λ q. nat_cmp n q ≡ Less) ns → member n ns ≡ false
not_member n [] a = refl
not_member n (q ∷ ns) a = rw (below_not n q a.0) (not_member n ns a.1)

rest_sorted : (n : ℕ) (ns : List ℕ) → IsStrictlySortedBy nat_cmp (n ∷ ns) → IsStrictlySortedBy nat_cmp ns
unfolding IsStrictlySortedBy
rest_sorted n ns s = s.1

-- numbers that rise stand there once
pub distinct_numbers : (ns : List ℕ) → IsStrictlySortedBy nat_cmp ns → AreDistinct ns
distinct_numbers [] s = tt
distinct_numbers (n ∷ ns) s = (not_member n ns (recursion_from_All (λ q. nat_cmp n q ≡ Less) ns (All-after_first nat_cmp n ns s)), distinct_numbers ns (rest_sorted n ns s))

-- the new pairs are of the history
born_pairs :
    (e : Event) (h : List Event) (since : ℕ) (old new : Rows) (ls : LeaseRows) (x : Version) (numbers : List ℕ) → e.what ≡ Fetched x → Legal (e ∷ h) → LeasesStand h since ls → since ≤ e.t
    → ((v n : ℕ) → IfSome (pair_at v n old) (IsOfHistory h v n))
    → ((v n : ℕ) → pair_at v n new ≡ cond (is_among x.ver numbers v n) (born_for e.t (live_at n e.t ls)) (pair_at v n old))
    → (v n : ℕ) → IfSome (pair_at v n new) (IsOfHistory (e ∷ h) v n)
born_pairs e h since old new ls x numbers kind g leased k f look v n = subst (λ o. IfSome o (IsOfHistory (e ∷ h) v n)) (sym (look v n)) (by (is_among x.ver numbers v n) refl)
  where
    is_new : (x.ver == v) ≡ true → has (is_fetched v) (e ∷ h) ≡ true
    is_new c = or_left (is_fetched v e.what) (has (is_fetched v) h) (ap (is_fetched v) kind ∙ c)

    born : (x.ver == v) ≡ true → (o : Option Lease) → find (is_numbered n) (live h e.t) ≡ o → IfSome (born_for e.t o) (IsOfHistory (e ∷ h) v n)
    born c None m = tt
    born c (Some y) m =
        record {
          fetched = is_new c;
          lease = y;
          leased = ap (λ w. find (λ (z : Lease). z.intent.n == n) (lease_of w (confirmed_intent w h) ++ leases h)) kind
              ∙ ap (λ q. find (λ (z : Lease). z.intent.n == q) (leases h)) (sym (found_number n y (live h e.t) m))
              ∙ (live_told h e.t (is_numbered n) y g.0 m).0;
          end = refl;
        }

    by : (b : Bool) → is_among x.ver numbers v n ≡ b → IfSome (cond b (born_for e.t (live_at n e.t ls)) (pair_at v n old)) (IsOfHistory (e ∷ h) v n)
    by true c = subst (λ o. IfSome (born_for e.t o) (IsOfHistory (e ∷ h) v n)) (sym (leased.shows e.t n k)) (born (and_parts (x.ver == v) (member n numbers) c).0 (find (is_numbered n) (live h e.t)) refl)
    by false c = IfSome_then (pair_at v n old) (f v n) (λ p q. of_history_on e h v n p g q)

-- and their version is kept, as those of the others are
born_kept :
    (t : ℕ) (old new : Rows) (ls : LeaseRows) (x : Version) (numbers : List ℕ) (vs ws : List (ℕ × Version))
    → ((v n : ℕ) → pair_at v n new ≡ cond (is_among x.ver numbers v n) (born_for t (live_at n t ls)) (pair_at v n old))
    → ((q : ℕ) → number_at q ws ≡ cond (q == x.ver) (Some x) (number_at q vs))
    → AreKept old vs → AreKept new ws
born_kept t old new ls x numbers vs ws look has k v n = subst (λ o. IfSome o (λ p. IsSome (number_at v ws))) (sym (look v n)) (by (is_among x.ver numbers v n) refl)
  where
    turned : (a b : ℕ) → (a == b) ≡ true → (b == a) ≡ true
    turned a b m = grind (arith, nat_tests)

    stays : IsSome (number_at v vs) → IsSome (number_at v ws)
    stays f = subst (λ o. IsSome o) (sym (has v)) (one (v == x.ver))
      where
        one : (b : Bool) → IsSome (cond b (Some x) (number_at v vs))
        one true = refl
        one false = f

    born : IsSome (number_at v ws) → (o : Option Lease) → IfSome (born_for t o) (λ p. IsSome (number_at v ws))
    born f None = tt
    born f (Some l) = f

    by : (b : Bool) → is_among x.ver numbers v n ≡ b → IfSome (cond b (born_for t (live_at n t ls)) (pair_at v n old)) (λ p. IsSome (number_at v ws))
    by true c = born (subst (λ o. IsSome o) (sym (has v ∙ ap (λ b. cond b (Some x) (number_at v vs)) (turned x.ver v (and_parts (x.ver == v) (member n numbers) c).0))) refl) (live_at n t ls)
    by false c = IfSome_then (pair_at v n old) (k v n) (λ p f. stays f)

pub by_version :
    (e : Event) (old mid : Tables) (numbers : Numbers) (x : Version) → e.what ≡ Fetched x → numbers ≡ with_event e mid.numbers
    → mid.intents ≡ old.intents → mid.leases ≡ old.leases → mid.numbers ≡ old.numbers
    → ((h : List Event) (e : Event) → TopicsStand old.topics h → Legal (e ∷ h) → e.what ≡ Fetched x → TopicsStand mid.topics (e ∷ h))
    → ((q : ℕ) → number_at q mid.topics.versions ≡ cond (q == x.ver) (Some x) (number_at q old.topics.versions))
    → ((h : List Event) (since : ℕ) → Legal h → LeasesStand h since old.leases → since ≤ e.t → AreNumbersOf (live_numbers x.topic e.t old.leases) (filter (λ l. bytes_eq l.intent.topic x.topic) (live h e.t)))
    → ((v n : ℕ) → pair_at v n mid.deliveries ≡ cond (is_among x.ver (live_numbers x.topic e.t old.leases) v n) (born_for e.t (live_at n e.t old.leases)) (pair_at v n old.deliveries))
    → GoesOn e old (record { intents = mid.intents; leases = mid.leases; topics = mid.topics; deliveries = mid.deliveries; numbers = numbers })
by_version e old mid numbers x kind m i j n f has among look h since s l k =
    record {
      intents = subst (λ r. IntentsStand r (e ∷ h)) (sym i) (intents_stand_on old.intents h e s.intents (subst (λ (w : What). leaves_intents w ≡ true) (sym kind) refl));
      leases = subst (λ r. LeasesStand (e ∷ h) e.t r) (sym j) (leases_on e h since old.leases (subst (λ (w : What). touches_leases w ≡ false) (sym kind) refl) s.leases l k);
      topics = f h e s.topics l kind;
      deliveries = fetched_stands e h since old.deliveries mid.deliveries old.leases x (live_numbers x.topic e.t old.leases) kind l s.deliveries s.leases k (among h since l.0 s.leases k) (unpaired e h x old.deliveries l kind s.pairs) look;
      pairs = born_pairs e h since old.deliveries mid.deliveries old.leases x (live_numbers x.topic e.t old.leases) kind l s.leases k s.pairs look;
      kept = born_kept e.t old.deliveries mid.deliveries old.leases x (live_numbers x.topic e.t old.leases) old.topics.versions mid.topics.versions look has s.kept;
      numbers = numbers_on e h old.numbers numbers s.numbers (m ∙ ap (with_event e) n);
    }

-- what was opened in part and is closed again is as it was
pub reopened : (ver : ℕ) (numbers : List ℕ) (old part : Rows) → ((n : ℕ) → pair_at ver n old ≡ None) → ((v n : ℕ) → is_among ver numbers v n ≡ false → pair_at v n part ≡ pair_at v n old)
    → (v n : ℕ) → cond (is_among ver numbers v n) None (pair_at v n part) ≡ pair_at v n old
reopened ver numbers old part none f v n = by (is_among ver numbers v n) refl
  where
    by : (b : Bool) → is_among ver numbers v n ≡ b → cond b None (pair_at v n part) ≡ pair_at v n old
    by true c = sym (subst (λ w. pair_at w n old ≡ None) (eqb-true ver v (and_parts (ver == v) (member n numbers) c).0) (none n))
    by false c = f v n c
