-- The bodies that the tables hold, and those of the history's versions that stay kept.
use Rattle.std.proofs.Common.{◌≡◌, ℕ, zero, suc, ◌+◌, ◌≤◌, ◌<◌, Bool, true, false, not, cond, ◌&&◌, ◌||◌, List, [], ◌∷◌, ◌++◌, refl, ap, sym, ◌∙◌, subst, arith, length}
use Rattle.std.specs.Prelude.{Option, Some, None, IfSome, IsSome, is_some, filter, find, map, bytes_eq, ◌==◌}
use Rattle.std.specs.List.{AllByRecursion, list_any, sum, sum_by}
use Rattle.std.specs.List.Sorted.{IsStrictlySortedBy}
use Rattle.std.specs.Map.{keys_of, values_of}
use Rattle.std.specs.BTreeMap.{is_at}
use Rattle.std.specs.BTreeSet.{BTreeSet, contains}
use Rattle.std.specs.Option.{option_map}
use Rattle.std.specs.Ordering.{nat_cmp}
use Rattle.std.proofs.lemmas.Bool.{and_parts, eqb-true, false≢true, ltb-true}
use Rattle.std.proofs.lemmas.Bool.Decides.{nat_tests}
use Rattle.std.proofs.lemmas.List.Sums.{sum_by-cons}
use Rattle.ws_model.specs.declared.event.Event.{Event}
use Rattle.ws_model.specs.declared.event.Version.{Version}
use Rattle.ws_model.specs.declared.event.What.{What}
use Rattle.ws_model.specs.declared.event.What.TheVariants.{Fetched}
use Rattle.ws_model.specs.Fate.{Pair}
use Rattle.ws_model.specs.Legal.{Legal, is_allowed}
use Rattle.ws_model.specs.Moment.{last_version}
use Rattle.ws_model.specs.Pairs.{owed}
use Rattle.ws_model.specs.Versions.{is_version, latest, latest_of, versions, versions_of}
use Rattle.ws_model.specs.View.{owed_push}
use Rattle.ws_laws.proofs.Known.{allowed, itself}
use Rattle.ws_laws.proofs.ListLaws.{all_filter_with, all_find, all_from, all_weaker, any_then}
use Rattle.ws_laws.proofs.Topics.{versions_le}
use Rattle.ws_topic.specs.Besides.{is_besides, bodies_besides}
use Rattle.ws_topic.specs.ByTopic.{at_topic}
use Rattle.ws_topic.specs.Rows.{Rows as TopicRows, number_at, size, is_number}
use Rattle.ws_topic.specs.Stands.{StandsFor as TopicsStand, version_number}
use Rattle.ws_delivery.specs.declared.open_pair.OpenPair.{OpenPair}
use Rattle.ws_delivery.specs.Stands.{shown, shown_of, is_pair}
use Rattle.ws_delivery.specs.Table.{pair_at}
use Rattle.ws_core_tables.specs.Besides.{kept_besides, stays_kept}
use Rattle.ws_core_tables.specs.Births.{AreDistinct, member}
use Rattle.ws_core_tables.specs.Rows.{Rows}
use Rattle.ws_core_tables.specs.Stands.{StandsFor}
use Rattle.ws_core_tables.proofs.NewVersion.{distinct_numbers}
use Rattle.ws_core_tables.proofs.Stepped.{owed_open}

abbrev Entries : Type 0
Entries = List (ℕ × Version)

-- ---- sums by number

abbrev upto : (ℕ → ℕ) → ℕ → ℕ
upto f zero = 0
upto f (suc n) = f n + upto f n

upto_same : (f g : ℕ → ℕ) → ((k : ℕ) → f k ≡ g k) → (n : ℕ) → upto f n ≡ upto g n
upto_same f g e zero = refl
upto_same f g e (suc n) = let a : f n ≡ g n = e n in let b : upto f n ≡ upto g n = upto_same f g e n in omega arith

upto_plus : (f g : ℕ → ℕ) (n : ℕ) → upto (λ k. f k + g k) n ≡ upto f n + upto g n
upto_plus f g zero = refl
upto_plus f g (suc n) = let r : upto (λ k. f k + g k) n ≡ upto f n + upto g n = upto_plus f g n in omega arith

upto_nothing : (n : ℕ) → upto (λ k. 0) n ≡ 0
upto_nothing zero = refl
upto_nothing (suc n) = let r : upto (λ k. 0) n ≡ 0 = upto_nothing n in omega arith

-- a at m, and else nothing
abbrev only_at : ℕ → ℕ → ℕ → ℕ
only_at m a k = cond (m == k) a 0

not_equal : (m n : ℕ) → n < m → (m == n) ≡ false
not_equal m n k = grind (arith, nat_tests)

upto_before : (m a n : ℕ) → n ≤ m → upto (only_at m a) n ≡ 0
upto_before m a zero k = refl
upto_before m a (suc n) k =
    let here : only_at m a n ≡ 0 = ap (λ b. cond b a 0) (not_equal m n (omega arith)) in
    let r : upto (only_at m a) n ≡ 0 = upto_before m a n (omega arith) in
    omega arith

upto_only : (m a n : ℕ) → m < n → upto (only_at m a) n ≡ a
upto_only m a zero k = absurd (omega arith)
upto_only m a (suc n) k = by (m == n) refl (upto_only m a n)
  where
    above : m ≤ n → (m == n) ≡ false → m < n
    above l f = grind (arith, nat_tests)

    by : (b : Bool) → (m == n) ≡ b → (m < n → upto (only_at m a) n ≡ a) → upto (only_at m a) (suc n) ≡ a
    by true c f =
        let here : only_at m a n ≡ a = ap (λ b. cond b a 0) c in
        let r : upto (only_at m a) n ≡ 0 = upto_before m a n (let e : m ≡ n = eqb-true m n c in omega arith) in
        omega arith
    by false c f =
        let here : only_at m a n ≡ 0 = ap (λ b. cond b a 0) c in
        let r : upto (only_at m a) n ≡ a = f (above (omega arith) c) in
        omega arith

-- ---- entries by number

at_number : (n m : ℕ) → is_at (nat_cmp n) m ≡ (m == n)
at_number n m = grind (arith, nat_tests)

look_at : (n : ℕ) (e : ℕ × Version) (es : Entries) → number_at n (e ∷ es) ≡ cond (e.0 == n) (Some e.1) (number_at n es)
look_at n e es = ap (λ b. cond b (Some e.1) (number_at n es)) (at_number n e.0)

not_there : (n : ℕ) (es : Entries) → member n (keys_of es) ≡ false → number_at n es ≡ None
not_there n [] k = refl
not_there n (e ∷ es) k = look_at n e es ∙ by (e.0 == n) k (not_there n es)
  where
    by : (b : Bool) → (b || member n (keys_of es)) ≡ false → (member n (keys_of es) ≡ false → number_at n es ≡ None) → cond b (Some e.1) (number_at n es) ≡ None
    by true m f = absurd (false≢true (sym m))
    by false m f = f m

-- the bytes at a number, where what stands there passes
abbrev passing : (ℕ × Version → Bool) → ℕ → Option Version → ℕ
passing p n None = 0
passing p n (Some v) = cond (p (n, v)) (size v) 0

one_total : (p : ℕ × Version → Bool) (e : ℕ × Version) (es : Entries) → sum_by size (values_of (filter p (e ∷ es))) ≡ cond (p e) (size e.1) 0 + sum_by size (values_of (filter p es))
one_total p e es = by (p e)
  where
    by : (b : Bool) → sum_by size (values_of (cond b (e ∷ filter p es) (filter p es))) ≡ cond b (size e.1) 0 + sum_by size (values_of (filter p es))
    by true = sum_by-cons size e.1 (values_of (filter p es))
    by false = omega arith

one_passing : (p : ℕ × Version → Bool) (e : ℕ × Version) (es : Entries) → member e.0 (keys_of es) ≡ false
    → (n : ℕ) → passing p n (number_at n (e ∷ es)) ≡ only_at e.0 (cond (p e) (size e.1) 0) n + passing p n (number_at n es)
one_passing p e es k n = ap (passing p n) (look_at n e es) ∙ by (e.0 == n) refl
  where
    by : (b : Bool) → (e.0 == n) ≡ b → passing p n (cond b (Some e.1) (number_at n es)) ≡ cond b (cond (p e) (size e.1) 0) 0 + passing p n (number_at n es)
    by true c =
        let m : e.0 ≡ n = eqb-true e.0 n c in
        let here : cond (p (n, e.1)) (size e.1) 0 ≡ cond (p e) (size e.1) 0 = ap (λ z. cond (p (z, e.1)) (size e.1) 0) (sym m) in
        let none : passing p n (number_at n es) ≡ 0 = ap (passing p n) (subst (λ z. number_at z es ≡ None) m (not_there e.0 es k)) in
        omega arith
    by false c = omega arith

by_number : (p : ℕ × Version → Bool) (es : Entries) (most : ℕ) → AreDistinct (keys_of es) → AllByRecursion (λ e. e.0 < most) es
    → sum_by size (values_of (filter p es)) ≡ upto (λ n. passing p n (number_at n es)) most
by_number p [] most d a = sym (upto_nothing most)
by_number p (e ∷ es) most d a =
    let own : ℕ = cond (p e) (size e.1) 0 in
    let rest : ℕ → ℕ = λ n. passing p n (number_at n es) in
    let x : sum_by size (values_of (filter p (e ∷ es))) ≡ own + sum_by size (values_of (filter p es)) = one_total p e es in
    let y : sum_by size (values_of (filter p es)) ≡ upto rest most = by_number p es most d.1 a.1 in
    let z : upto (λ n. passing p n (number_at n (e ∷ es))) most ≡ upto (λ n. only_at e.0 own n + rest n) most = upto_same _ _ (one_passing p e es d.0) most in
    let w : upto (λ n. only_at e.0 own n + rest n) most ≡ upto (only_at e.0 own) most + upto rest most = upto_plus (only_at e.0 own) rest most in
    let u : upto (only_at e.0 own) most ≡ own = upto_only e.0 own most a.0 in
    omega arith

abbrev above : Entries → ℕ
above [] = 0
above (e ∷ es) = suc (e.0 + above es)

all_below : (more : ℕ) (es : Entries) → AllByRecursion (λ (e : ℕ × Version). e.0 < more + above es) es
all_below more [] = tt
all_below more (e ∷ es) = (omega arith, all_weaker (λ (d : ℕ × Version). d.0 < more + above es) (λ (d : ℕ × Version). d.0 < more + above (e ∷ es)) (λ d k. omega arith) es (all_below more es))

-- two lists of entries with the same bytes at each number have the same bytes
same_total : (p q : ℕ × Version → Bool) (es fs : Entries) → AreDistinct (keys_of es) → AreDistinct (keys_of fs)
    → ((n : ℕ) → passing p n (number_at n es) ≡ passing q n (number_at n fs))
    → sum_by size (values_of (filter p es)) ≡ sum_by size (values_of (filter q fs))
same_total p q es fs d f same =
    let most : ℕ = above es + above fs in
    by_number p es most d (all_weaker (λ (e : ℕ × Version). e.0 < above fs + above es) (λ (e : ℕ × Version). e.0 < most) (λ e k. omega arith) es (all_below (above fs) es))
    ∙ upto_same _ _ same most
    ∙ sym (by_number q fs most f (all_below (above es) fs))

-- ---- the history's versions as entries

abbrev pub numbered : Version → ℕ × Version
numbered v = (v.ver, v)

look_up : (n : ℕ) (vs : List Version) → number_at n (map numbered vs) ≡ find (λ w. w.ver == n) vs
look_up n [] = refl
look_up n (v ∷ vs) = look_at n (numbered v) (map numbered vs) ∙ ap (λ o. cond (v.ver == n) (Some v) o) (look_up n vs)

totals : (p : Version → Bool) (vs : List Version) → sum_by size (values_of (filter (λ e. p e.1) (map numbered vs))) ≡ sum (map (λ v. length v.body) (filter p vs))
totals p [] = refl
totals p (v ∷ vs) = one_total (λ e. p e.1) (numbered v) (map numbered vs) ∙ by (p v) (totals p vs)
  where
    by : (b : Bool) → sum_by size (values_of (filter (λ e. p e.1) (map numbered vs))) ≡ sum (map (λ v. length v.body) (filter p vs))
        → cond b (size v) 0 + sum_by size (values_of (filter (λ e. p e.1) (map numbered vs))) ≡ sum (map (λ v. length v.body) (cond b (v ∷ filter p vs) (filter p vs)))
    by true r = let s : sum (length v.body ∷ map (λ v. length v.body) (filter p vs)) ≡ length v.body + sum (map (λ v. length v.body) (filter p vs)) = sum_by-cons (λ x. x) (length v.body) (map (λ v. length v.body) (filter p vs)) in omega arith
    by false r = omega arith

above_all : (n : ℕ) (vs : List Version) → AllByRecursion (λ (v : Version). v.ver < n) vs → member n (keys_of (map numbered vs)) ≡ false
above_all n [] a = refl
above_all n (v ∷ vs) a = ap (λ b. b || member n (keys_of (map numbered vs))) (lower v.ver n a.0) ∙ above_all n vs a.1
  where
    lower : (m n : ℕ) → m < n → (m == n) ≡ false
    lower m n k = grind (arith, nat_tests)

one_distinct : (w : What) (t : ℕ) (h : List Event) → is_allowed w t h ≡ true → AreDistinct (keys_of (map numbered (versions h))) → AreDistinct (keys_of (map numbered (versions_of w ++ versions h)))
one_distinct (Fetched v) t h k d =
    let new : last_version h < v.ver = ltb-true _ _ k in
    (above_all v.ver (versions h) (all_weaker (λ (w : Version). w.ver ≤ last_version h) (λ (w : Version). w.ver < v.ver) (λ w l. omega arith) (versions h) (versions_le h)), d)
one_distinct w t h k d = d

pub versions_distinct : (h : List Event) → Legal h → AreDistinct (keys_of (map numbered (versions h)))
versions_distinct [] l = tt
versions_distinct (e ∷ h) l = one_distinct e.what e.t h (allowed h e l.1) (versions_distinct h l.0)

-- ---- what stays kept is held

-- a version that is owed is owed to some lease
owed_lease : (h : List Event) (v : ℕ) (ps : List Pair) → list_any (λ p. p.version.ver == v) ps ≡ true → (n : ℕ) × (is_some (shown_of v n (map (owed_push h) ps)) ≡ true)
owed_lease h v [] k = absurd (false≢true k)
owed_lease h v (p ∷ ps) k = by (p.version.ver == v) refl k (owed_lease h v ps)
  where
    by : (b : Bool) → (p.version.ver == v) ≡ b → (b || list_any (λ p. p.version.ver == v) ps) ≡ true → (list_any (λ p. p.version.ver == v) ps ≡ true → (n : ℕ) × (is_some (shown_of v n (map (owed_push h) ps)) ≡ true)) → (n : ℕ) × (is_some (shown_of v n (map (owed_push h) (p ∷ ps))) ≡ true)
    by true c m f = (p.lease.intent.n, ap (λ b. is_some (option_map shown (cond (b && (p.lease.intent.n == p.lease.intent.n)) (Some (owed_push h p)) (find (is_pair v p.lease.intent.n) (map (owed_push h) ps))))) c ∙ ap (λ b. is_some (option_map shown (cond b (Some (owed_push h p)) (find (is_pair v p.lease.intent.n) (map (owed_push h) ps))))) (itself p.lease.intent.n))
    by false c m f =
        let r = f m in
        (r.0, ap (λ b. is_some (option_map shown (cond (b && (p.lease.intent.n == r.0)) (Some (owed_push h p)) (find (is_pair v r.0) (map (owed_push h) ps))))) c ∙ r.1)

open_kept : (o : Option OpenPair) (r : Option Version) → IfSome o (λ p. IsSome r) → IsSome o → is_some r ≡ true
open_kept None r k s = absurd (false≢true s)
open_kept (Some p) None k s = k
open_kept (Some p) (Some v) k s = refl

pub owed_held : (h : List Event) (since t : ℕ) (rows : Rows) → StandsFor h since rows → since ≤ t → (v : ℕ) → list_any (λ p. p.version.ver == v) (owed h t) ≡ true → is_some (number_at v rows.topics.versions) ≡ true
owed_held h since t rows s later v k =
    let r = owed_lease h v (owed h t) k in
    open_kept (pair_at v r.0 rows.deliveries) (number_at v rows.topics.versions) (s.kept v r.0)
    (owed_open t (pair_at v r.0 rows.deliveries) (ap is_some (s.deliveries.shows t v r.0 later) ∙ r.1))

latest_held : (h : List Event) (since : ℕ) (rows : Rows) → StandsFor h since rows → (topic : List ℕ) (v : ℕ) → is_version v (latest_of topic h) ≡ true → is_some (number_at v rows.topics.versions) ≡ true
latest_held h since rows s topic v k = by (latest_of topic h) (s.topics.latest_kept topic) k
  where
    by : (o : Option Version) → IfSome o (λ w. number_at w.ver rows.topics.versions ≡ Some w) → is_version v o ≡ true → is_some (number_at v rows.topics.versions) ≡ true
    by None f m = absurd (false≢true m)
    by (Some w) f m = ap (λ z. is_some (number_at z rows.topics.versions)) (sym (eqb-true w.ver v m)) ∙ ap is_some f

pub latest_one_held : (h : List Event) (since : ℕ) (rows : Rows) → StandsFor h since rows → (v : ℕ) → list_any (λ w. w.ver == v) (latest h) ≡ true → is_some (number_at v rows.topics.versions) ≡ true
latest_one_held h since rows s v k =
    any_then (λ (w : Version). Unit {0} × (is_version w.ver (latest_of w.topic h) ≡ true)) (λ w. w.ver == v) (is_some (number_at v rows.topics.versions) ≡ true)
    (λ w a e. subst (λ n. is_some (number_at n rows.topics.versions) ≡ true) (eqb-true w.ver v e) (latest_held h since rows s w.topic w.ver a.1))
    (latest h) (all_filter_with (λ (w : Version). Unit {0}) (λ w. is_version w.ver (latest_of w.topic h)) (versions h) (all_from (λ (w : Version). Unit {0}) (λ w. tt) (versions h))) k

kept_held : (h : List Event) (since t : ℕ) (rows : Rows) (topic : List ℕ) → StandsFor h since rows → since ≤ t → (v : Version) → stays_kept h t topic v ≡ true → is_some (number_at v.ver rows.topics.versions) ≡ true
kept_held h since t rows topic s later v k = by (list_any (λ p. p.version.ver == v.ver) (owed h t)) refl k
  where
    by : (b : Bool) → list_any (λ p. p.version.ver == v.ver) (owed h t) ≡ b → (b || (not (bytes_eq topic v.topic) && is_version v.ver (latest_of v.topic h))) ≡ true → is_some (number_at v.ver rows.topics.versions) ≡ true
    by true c m = owed_held h since t rows s later v.ver c
    by false c m = latest_held h since rows s v.topic v.ver (and_parts (not (bytes_eq topic v.topic)) (is_version v.ver (latest_of v.topic h)) m).1

-- ---- the bytes of held bodies

numbered_so : (h : List Event) (n : ℕ) (v : Version) → find (λ w. w.ver == n) (versions h) ≡ Some v → v.ver ≡ n
numbered_so h n v k = eqb-true v.ver n (all_find (λ _. Unit {0}) (λ w. w.ver == n) v (versions h) (all_from (λ _. Unit {0}) (λ _. tt) (versions h)) k).1

-- those that a test passes which is that of staying kept
pub held_bodies :
    (h : List Event) (since t : ℕ) (rows : Rows) (topic : List ℕ) (test : ℕ × Version → Bool) → StandsFor h since rows → Legal h → since ≤ t → IsStrictlySortedBy nat_cmp (keys_of rows.topics.versions)
    → ((v : Version) → test (v.ver, v) ≡ stays_kept h t topic v)
    → sum_by size (values_of (filter test rows.topics.versions)) ≡ kept_besides h t topic
held_bodies h since t rows topic test s l later sorted same =
    same_total test (λ e. stays_kept h t topic e.1) rows.topics.versions (map numbered (versions h)) (distinct_numbers (keys_of rows.topics.versions) sorted) (versions_distinct h l)
    (λ n. by n (number_at n rows.topics.versions) refl (s.topics.kept n) ∙ ap (passing (λ e. stays_kept h t topic e.1) n) (sym (look_up n (versions h))))
    ∙ totals (stays_kept h t topic) (versions h)
  where
    unheld : (n : ℕ) → number_at n rows.topics.versions ≡ None → (o : Option Version) → find (λ w. w.ver == n) (versions h) ≡ o → 0 ≡ passing (λ e. stays_kept h t topic e.1) n o
    unheld n k None f = refl
    unheld n k (Some v) f = one (stays_kept h t topic v) refl
      where
        one : (b : Bool) → stays_kept h t topic v ≡ b → 0 ≡ cond b (size v) 0
        one true c = absurd (false≢true (ap is_some (sym k) ∙ ap (λ z. is_some (number_at z rows.topics.versions)) (sym (numbered_so h n v f)) ∙ kept_held h since t rows topic s later v c))
        one false c = refl

    by : (n : ℕ) (o : Option Version) → number_at n rows.topics.versions ≡ o → IfSome o (λ v. find (λ w. w.ver == n) (versions h) ≡ Some v) → passing test n o ≡ passing (λ e. stays_kept h t topic e.1) n (find (λ w. w.ver == n) (versions h))
    by n None k f = unheld n k (find (λ w. w.ver == n) (versions h)) refl
    by n (Some v) k f =
        ap (λ z. cond (test (z, v)) (size v) 0) (sym (numbered_so h n v f))
        ∙ ap (λ b. cond b (size v) 0) (same v)
        ∙ ap (passing (λ e. stays_kept h t topic e.1) n) (sym f)

-- those of the versions that a set has of the owed ones, or that are the latest of another topic
pub held_besides :
    (h : List Event) (since t : ℕ) (rows : Rows) (topic : List ℕ) (among : BTreeSet ℕ) → StandsFor h since rows → Legal h → since ≤ t → IsStrictlySortedBy nat_cmp (keys_of rows.topics.versions)
    → ((v : ℕ) → contains nat_cmp among v ≡ list_any (λ p. p.version.ver == v) (owed h t))
    → bodies_besides topic among rows.topics.latest rows.topics.versions ≡ kept_besides h t topic
held_besides h since t rows topic among s l later sorted has =
    held_bodies h since t rows topic (is_besides topic among rows.topics.latest) s l later sorted
    (λ v.
    ap (λ b. b || (not (bytes_eq topic v.topic) && is_number (at_topic v.topic rows.topics.latest) v.ver)) (has v.ver)
    ∙ ap (λ b. list_any (λ p. p.version.ver == v.ver) (owed h t) || (not (bytes_eq topic v.topic) && b)) (ap (λ o. is_number o v.ver) (s.topics.latest_at v.topic) ∙ one v.ver (latest_of v.topic h)))
  where
    one : (n : ℕ) (o : Option Version) → is_number (version_number o) n ≡ is_version n o
    one n None = refl
    one n (Some v) = refl

passing_few : (p : ℕ × Version → Bool) (es : Entries) → sum_by size (values_of (filter p es)) ≤ sum_by size (values_of es)
passing_few p [] = omega arith
passing_few p (e ∷ es) = by (p e) (one_total p e es) (sum_by-cons size e.1 (values_of es)) (passing_few p es)
  where
    by : (b : Bool) → sum_by size (values_of (filter p (e ∷ es))) ≡ cond b (size e.1) 0 + sum_by size (values_of (filter p es)) → sum_by size (values_of (e ∷ es)) ≡ size e.1 + sum_by size (values_of es)
        → sum_by size (values_of (filter p es)) ≤ sum_by size (values_of es) → sum_by size (values_of (filter p (e ∷ es))) ≤ sum_by size (values_of (e ∷ es))
    by true a b r = omega arith
    by false a b r = omega arith

-- all held bodies are no fewer
pub held_enough :
    (h : List Event) (since t : ℕ) (rows : Rows) (topic : List ℕ) → StandsFor h since rows → Legal h → since ≤ t → IsStrictlySortedBy nat_cmp (keys_of rows.topics.versions)
    → kept_besides h t topic ≤ sum_by size (values_of rows.topics.versions)
held_enough h since t rows topic s l later sorted =
    let few = passing_few (λ e. stays_kept h t topic e.1) rows.topics.versions in
    let same = held_bodies h since t rows topic (λ e. stays_kept h t topic e.1) s l later sorted (λ v. refl) in
    omega arith

-- ---- the latest version of a topic

pub latest_there : (h : List Event) (rows : TopicRows) (topic : List ℕ) (ver : ℕ) → TopicsStand rows h → Some ver ≡ version_number (latest_of topic h) → number_at ver rows.versions ≡ latest_of topic h
latest_there h rows topic ver s k = by (latest_of topic h) (s.latest_kept topic) k
  where
    by : (o : Option Version) → IfSome o (λ v. number_at v.ver rows.versions ≡ Some v) → Some ver ≡ version_number o → number_at ver rows.versions ≡ o
    by None f m = absurd (cc)
    by (Some v) f m = ap (λ z. number_at z rows.versions) (let e : ver ≡ v.ver = cc in e) ∙ f

pub no_latest : (h : List Event) (topic : List ℕ) → ◌≡◌ {A = Option ℕ} None (version_number (latest_of topic h)) → ◌≡◌ {A = Option Version} None (latest_of topic h)
no_latest h topic k = by (latest_of topic h) k
  where
    by : (o : Option Version) → ◌≡◌ {A = Option ℕ} None (version_number o) → ◌≡◌ {A = Option Version} None o
    by None m = refl
    by (Some v) m = absurd (cc)
