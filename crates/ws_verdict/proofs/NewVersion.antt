-- The limits of a history with a new version.
use Rattle.std.proofs.Common.{◌≡◌, ℕ, suc, ◌+◌, ◌≤◌, ◌<◌, Bool, true, false, cond, not, ◌&&◌, ◌||◌, List, [], ◌∷◌, ◌++◌, refl, ap, sym, ◌∙◌, arith, length, Option, Some, None}
use Rattle.std.specs.Prelude.{filter, map, bytes_eq, nat_lt, ◌==◌}
use Rattle.std.specs.List.{AllByRecursion, list_any, sum}
use Rattle.std.specs.Map.{keys_of}
use Rattle.std.proofs.lemmas.Bool.{false≢true}
use Rattle.std.proofs.lemmas.Bool.Decides.{nat_tests}
use Rattle.std.proofs.lemmas.List.{length-map, length-append}
use Rattle.std.proofs.lemmas.List.Elements.{filter-append}
use Rattle.std.proofs.lemmas.List.Folds.{list_any-append}
use Rattle.std.proofs.lemmas.List.Sums.{sum_by-cons}
use Rattle.ws_model.specs.declared.event.Event.{Event}
use Rattle.ws_model.specs.declared.event.Version.{Version}
use Rattle.ws_model.specs.declared.event.What.TheVariants.{Fetched}
use Rattle.ws_model.specs.declared.fate.Cause.{Cause}
use Rattle.ws_model.specs.declared.lease.Lease.{Lease}
use Rattle.ws_model.specs.Fate.{Pair, fate, fate_by, is_done, is_owed, is_push_of, misses, next}
use Rattle.ws_model.specs.History.{has}
use Rattle.ws_model.specs.Leases.{cause_of, expiry, first_end, is_confirmed, live, or_else, stamped}
use Rattle.ws_model.specs.Legal.{Legal, is_allowed}
use Rattle.ws_model.specs.Moment.{last_time, last_version, serial, version_number}
use Rattle.ws_model.specs.Pairs.{births, owed, pair, pairs}
use Rattle.ws_model.specs.Verdict.{fetched, is_kept_version, kept_bytes, kept_limit, owed_limit, passes_limits}
use Rattle.ws_model.specs.Versions.{is_version, latest, latest_of, versions}
use Rattle.ws_laws.proofs.Ended.{both_true}
use Rattle.ws_laws.proofs.Known.{itself}
use Rattle.ws_laws.proofs.ListLaws.{all_from, all_weaker, filter_all, filter_same}
use Rattle.ws_laws.proofs.Moments.{last_version_le}
use Rattle.ws_laws.proofs.Step.{IsUntried, births_untried}
use Rattle.ws_laws.proofs.Topics.{bytes_same, versions_le}
use Rattle.ws_core_tables.specs.Besides.{kept_besides, stays_kept}
use Rattle.ws_core_tables.specs.Births.{AreDistinct, member}
use Rattle.ws_core_tables.proofs.HeldBodies.{numbered, versions_distinct}

abbrev with_version : List Event → ℕ → Version → List Event
with_version h t v = fetched h t (Fetched v) ∷ h

abbrev bearers : List Event → ℕ → Version → List Lease
bearers h t v = filter (λ l. bytes_eq l.intent.topic v.topic) (live h t)

-- ---- the pairs that are owed

-- a new version ends no lease
no_end : (b : Bool) (t : ℕ) (o : Option (ℕ × Cause)) → or_else o (stamped t (cond b None None)) ≡ o
no_end true t None = refl
no_end false t None = refl
no_end b t (Some x) = refl

same_fate : (h : List Event) (t : ℕ) (v : Version) (p : Pair) → fate (with_version h t v) p t ≡ fate h p t
same_fate h t v p =
    ap (λ o. fate_by (has (is_push_of is_done p) h) (misses h p) (cause_of o (expiry p.lease) t) (next h p))
    (no_end (has (is_confirmed p.lease.intent.n) h) t (first_end h p.lease))

newer : (h : List Event) (t : ℕ) (v : Version) → last_version h < v.ver → is_allowed (Fetched v) t h ≡ true
newer h t v k = by (last_version h) v.ver k
  where
    by : (m n : ℕ) → m < n → nat_lt m n ≡ true
    by m n k = grind (arith, nat_tests)

pub owed_with : (h : List Event) (t : ℕ) (v : Version) → Legal h → last_time h ≤ t → last_version h < v.ver → owed (with_version h t v) t ≡ map (pair t v) (bearers h t v) ++ owed h t
owed_with h t v l le new =
    let e : Event = fetched h t (Fetched v) in
    let test : Pair → Bool = λ p. is_owed (fate (with_version h t v) p t) in
    let born : List Pair = births t (Fetched v) None (live h t) (owed h t) in
    filter-append test born (pairs h)
    ∙ ap (λ ps. ps ++ filter test (pairs h)) (filter_all test born (all_weaker (IsUntried e h) (λ p. test p ≡ true) (λ p u. u.owed) born (births_untried (Fetched v) (suc (serial h)) t h l le (newer h t v new))))
    ∙ ap (λ ps. born ++ ps) (filter_same test (λ p. is_owed (fate h p t)) (pairs h) (all_from (λ p. test p ≡ is_owed (fate h p t)) (λ p. ap is_owed (same_fate h t v p)) (pairs h)))

number_with : (h : List Event) (t : ℕ) (v : Version) → Legal h → last_time h ≤ t → last_version h < v.ver → length (owed (with_version h t v) t) ≡ length (bearers h t v) + length (owed h t)
number_with h t v l le new =
    ap length (owed_with h t v l le new)
    ∙ length-append (map (pair t v) (bearers h t v)) (owed h t)
    ∙ ap (λ k. k + length (owed h t)) (length-map {A = Lease} (bearers h t v) (pair t v))

-- ---- which versions are kept

-- no number of these versions
none_of : (q : Version → Bool) (n : ℕ) (vs : List Version) → member n (keys_of (map numbered vs)) ≡ false → list_any (λ w. w.ver == n) (filter q vs) ≡ false
none_of q n [] k = refl
none_of q n (v ∷ vs) k = by (v.ver == n) refl k (none_of q n vs)
  where
    one : (v.ver == n) ≡ false → list_any (λ w. w.ver == n) (filter q vs) ≡ false → (b : Bool) → list_any (λ w. w.ver == n) (cond b (v ∷ filter q vs) (filter q vs)) ≡ false
    one c r true = ap (λ b. b || list_any (λ w. w.ver == n) (filter q vs)) c ∙ r
    one c r false = r

    by : (b : Bool) → (v.ver == n) ≡ b → (b || member n (keys_of (map numbered vs))) ≡ false → (member n (keys_of (map numbered vs)) ≡ false → list_any (λ w. w.ver == n) (filter q vs) ≡ false) → list_any (λ w. w.ver == n) (filter q (v ∷ vs)) ≡ false
    by true c m f = absurd (false≢true (sym m))
    by false c m f = one c (f m) (q v)

others : (n : ℕ) (vs : List Version) → member n (keys_of (map numbered vs)) ≡ false → AllByRecursion (λ (w : Version). (n == w.ver) ≡ false) vs
others n [] k = tt
others n (v ∷ vs) k = by (v.ver == n) refl k (others n vs)
  where
    turned : (a b : ℕ) → (a == b) ≡ false → (b == a) ≡ false
    turned a b m = grind (arith, nat_tests)

    by : (b : Bool) → (v.ver == n) ≡ b → (b || member n (keys_of (map numbered vs))) ≡ false → (member n (keys_of (map numbered vs)) ≡ false → AllByRecursion (λ (w : Version). (n == w.ver) ≡ false) vs) → AllByRecursion (λ (w : Version). (n == w.ver) ≡ false) (v ∷ vs)
    by true c m f = absurd (false≢true (sym m))
    by false c m f = (turned v.ver n c, f m)

-- the number of a version is among those that pass exactly where it passes
among_passing : (q : Version → Bool) (vs : List Version) → AreDistinct (keys_of (map numbered vs)) → AllByRecursion (λ (x : Version). list_any (λ w. w.ver == x.ver) (filter q vs) ≡ q x) vs
among_passing q [] d = tt
among_passing q (v ∷ vs) d = (
  here (q v) refl,
  all_weaker (λ (x : Version). ((v.ver == x.ver) ≡ false) × (list_any (λ w. w.ver == x.ver) (filter q vs) ≡ q x)) (λ (x : Version). list_any (λ w. w.ver == x.ver) (filter q (v ∷ vs)) ≡ q x)
      (λ x k. there x k.0 k.1 (q v)) vs
      (both_true (λ (x : Version). (v.ver == x.ver) ≡ false) (λ (x : Version). list_any (λ w. w.ver == x.ver) (filter q vs) ≡ q x) vs (others v.ver vs d.0) (among_passing q vs d.1)),
)
  where
    here : (b : Bool) → q v ≡ b → list_any (λ w. w.ver == v.ver) (cond b (v ∷ filter q vs) (filter q vs)) ≡ b
    here true c = ap (λ b. b || list_any (λ w. w.ver == v.ver) (filter q vs)) (itself v.ver)
    here false c = none_of q v.ver vs d.0

    there : (x : Version) → (v.ver == x.ver) ≡ false → list_any (λ w. w.ver == x.ver) (filter q vs) ≡ q x → (b : Bool) → list_any (λ w. w.ver == x.ver) (cond b (v ∷ filter q vs) (filter q vs)) ≡ q x
    there x k r true = ap (λ b. b || list_any (λ w. w.ver == x.ver) (filter q vs)) k ∙ r
    there x k r false = r

not_born : (t : ℕ) (v : Version) (n : ℕ) → (v.ver == n) ≡ false → (ls : List Lease) → list_any (λ p. p.version.ver == n) (map (pair t v) ls) ≡ false
not_born t v n k [] = refl
not_born t v n k (l ∷ ls) = ap (λ b. b || list_any (λ p. p.version.ver == n) (map (pair t v) ls)) k ∙ not_born t v n k ls

owed_still : (h : List Event) (t : ℕ) (v : Version) → Legal h → last_time h ≤ t → last_version h < v.ver → (n : ℕ) → (v.ver == n) ≡ false
    → list_any (λ p. p.version.ver == n) (owed (with_version h t v) t) ≡ list_any (λ p. p.version.ver == n) (owed h t)
owed_still h t v l le new n k =
    ap (list_any (λ p. p.version.ver == n)) (owed_with h t v l le new)
    ∙ list_any-append (λ (p : Pair). p.version.ver == n) (map (pair t v) (bearers h t v)) (owed h t)
    ∙ ap (λ b. b || list_any (λ p. p.version.ver == n) (owed h t)) (not_born t v n k (bearers h t v))

-- the test of being the latest of its topic, in the history with the new version
abbrev is_latest_with : List Event → Version → Version → Bool
is_latest_with h v x = is_version x.ver (cond (bytes_eq v.topic x.topic) (Some v) (latest_of x.topic h))

own_latest : (h : List Event) (v : Version) → is_latest_with h v v ≡ true
own_latest h v = ap (λ b. is_version v.ver (cond b (Some v) (latest_of v.topic h))) (bytes_same v.topic) ∙ itself v.ver

latest_with : (h : List Event) (t : ℕ) (v : Version) → latest (with_version h t v) ≡ v ∷ filter (is_latest_with h v) (versions h)
latest_with h t v = ap (λ b. cond b (v ∷ filter (is_latest_with h v) (versions h)) (filter (is_latest_with h v) (versions h))) (own_latest h v)

latest_still : (h : List Event) (v x : Version) → (v.ver == x.ver) ≡ false → is_latest_with h v x ≡ (not (bytes_eq v.topic x.topic) && is_version x.ver (latest_of x.topic h))
latest_still h v x k = by (bytes_eq v.topic x.topic)
  where
    by : (b : Bool) → is_version x.ver (cond b (Some v) (latest_of x.topic h)) ≡ (not b && is_version x.ver (latest_of x.topic h))
    by true = k
    by false = refl

either_way : (a b : Bool) → (a || b) ≡ (b || a)
either_way true true = refl
either_way true false = refl
either_way false true = refl
either_way false false = refl

different : (m n k : ℕ) → m ≤ k → k < n → (n == m) ≡ false
different m n k a b = grind (arith, nat_tests)

kept_still : (h : List Event) (t : ℕ) (v : Version) → Legal h → last_time h ≤ t → last_version h < v.ver
    → AllByRecursion (λ (x : Version). is_kept_version (with_version h t v) t x.ver ≡ stays_kept h t v.topic x) (versions h)
kept_still h t v l le new =
    all_weaker (λ (x : Version). (x.ver ≤ last_version h) × (list_any (λ w. w.ver == x.ver) (filter (is_latest_with h v) (versions h)) ≡ is_latest_with h v x)) (λ (x : Version). is_kept_version (with_version h t v) t x.ver ≡ stays_kept h t v.topic x)
    (λ x k. one x (different x.ver v.ver (last_version h) k.0 new) k.1)
    (versions h)
    (both_true (λ (x : Version). x.ver ≤ last_version h) (λ (x : Version). list_any (λ w. w.ver == x.ver) (filter (is_latest_with h v) (versions h)) ≡ is_latest_with h v x) (versions h) (versions_le h)
    (among_passing (is_latest_with h v) (versions h) (versions_distinct h l)))
  where
    one : (x : Version) → (v.ver == x.ver) ≡ false → list_any (λ w. w.ver == x.ver) (filter (is_latest_with h v) (versions h)) ≡ is_latest_with h v x → is_kept_version (with_version h t v) t x.ver ≡ stays_kept h t v.topic x
    one x k r =
        ap (λ ws. list_any (λ w. w.ver == x.ver) ws || list_any (λ p. p.version.ver == x.ver) (owed (with_version h t v) t)) (latest_with h t v)
        ∙ ap (λ b. (b || list_any (λ w. w.ver == x.ver) (filter (is_latest_with h v) (versions h))) || list_any (λ p. p.version.ver == x.ver) (owed (with_version h t v) t)) k
        ∙ ap (λ b. b || list_any (λ p. p.version.ver == x.ver) (owed (with_version h t v) t)) (r ∙ latest_still h v x k)
        ∙ ap (λ b. (not (bytes_eq v.topic x.topic) && is_version x.ver (latest_of x.topic h)) || b) (owed_still h t v l le new x.ver k)
        ∙ either_way (not (bytes_eq v.topic x.topic) && is_version x.ver (latest_of x.topic h)) (list_any (λ p. p.version.ver == x.ver) (owed h t))

own_kept : (h : List Event) (t : ℕ) (v : Version) → is_kept_version (with_version h t v) t v.ver ≡ true
own_kept h t v =
    ap (λ ws. list_any (λ w. w.ver == v.ver) ws || list_any (λ p. p.version.ver == v.ver) (owed (with_version h t v) t)) (latest_with h t v)
    ∙ ap (λ b. (b || list_any (λ w. w.ver == v.ver) (filter (is_latest_with h v) (versions h))) || list_any (λ p. p.version.ver == v.ver) (owed (with_version h t v) t)) (itself v.ver)

bytes_with : (h : List Event) (t : ℕ) (v : Version) → Legal h → last_time h ≤ t → last_version h < v.ver → kept_bytes (with_version h t v) t ≡ length v.body + kept_besides h t v.topic
bytes_with h t v l le new =
    ap (λ b. sum (map (λ w. length w.body) (cond b (v ∷ filter (λ x. is_kept_version (with_version h t v) t x.ver) (versions h)) (filter (λ x. is_kept_version (with_version h t v) t x.ver) (versions h))))) (own_kept h t v)
    ∙ ap (λ ws. sum (length v.body ∷ map (λ w. length w.body) ws)) (filter_same (λ x. is_kept_version (with_version h t v) t x.ver) (stays_kept h t v.topic) (versions h) (kept_still h t v l le new))
    ∙ sum_by-cons (λ x. x) (length v.body) (map (λ w. length w.body) (filter (stays_kept h t v.topic) (versions h)))

-- ---- both limits

pub limits_with : (h : List Event) (t : ℕ) (v : Version) → Legal h → last_time h ≤ t → version_number h < v.ver
    → passes_limits (with_version h t v) t ≡ (nat_lt kept_limit (length v.body + kept_besides h t v.topic) || nat_lt owed_limit (length (bearers h t v) + length (owed h t)))
limits_with h t v l le new =
    let above : last_version h < v.ver = let a = last_version_le h in omega arith in
    ap (λ k. nat_lt kept_limit k || nat_lt owed_limit (length (owed (with_version h t v) t))) (bytes_with h t v l le above)
    ∙ ap (λ k. nat_lt kept_limit (length v.body + kept_besides h t v.topic) || nat_lt owed_limit k) (number_with h t v l le above)

-- the same, by the topic and the number of bytes
pub limits_by : (h : List Event) (t : ℕ) (v : Version) (topic : List ℕ) (bytes : ℕ) → Legal h → last_time h ≤ t → version_number h < v.ver → v.topic ≡ topic → length v.body ≡ bytes
    → passes_limits (with_version h t v) t ≡ (nat_lt kept_limit (bytes + kept_besides h t topic) || nat_lt owed_limit (length (filter (λ l. bytes_eq l.intent.topic topic) (live h t)) + length (owed h t)))
limits_by h t v topic bytes l le new of many =
    limits_with h t v l le new
    ∙ (λ i. nat_lt kept_limit (many i + kept_besides h t (of i)) || nat_lt owed_limit (length (filter (λ l. bytes_eq l.intent.topic (of i)) (live h t)) + length (owed h t)))
