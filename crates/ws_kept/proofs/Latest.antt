-- The latest versions are those of the events that fetched them.
use Rattle.std.proofs.Common.{◌≡◌, ℕ, Bool, true, false, ◌&&◌, ◌||◌, List, [], ◌∷◌, ◌++◌, ◌≤◌, ◌<◌, refl, ap, sym, ◌∙◌, subst, arith, inl, inr}
use Rattle.std.specs.Prelude.{Some, find, ◌==◌}
use Rattle.std.specs.List.{AllByRecursion, list_any}
use Rattle.std.proofs.lemmas.Bool.{and_from, and_parts, eqb-true, false≢true, ltb-true, or_cases, or_left, or_right}
use Rattle.std.proofs.lemmas.Bool.Decides.{nat_tests}
use Rattle.ws_model.specs.declared.event.Event.{Event}
use Rattle.ws_model.specs.declared.event.Version.{Version}
use Rattle.ws_model.specs.declared.event.What.{What}
use Rattle.ws_model.specs.declared.event.What.TheVariants.{Asked, Fetched, Pushed}
use Rattle.ws_model.specs.History.{has}
use Rattle.ws_model.specs.Legal.{Legal, is_allowed}
use Rattle.ws_model.specs.Moment.{last_version}
use Rattle.ws_model.specs.Versions.{is_fetched, is_version, latest, latest_of, versions, versions_of}
use Rattle.ws_laws.proofs.Ended.{both_true}
use Rattle.ws_laws.proofs.Follow.{any_of_filter}
use Rattle.ws_laws.proofs.Known.{allowed, itself}
use Rattle.ws_laws.proofs.ListLaws.{all_filter_with, all_find, all_weaker, any_then}
use Rattle.ws_laws.proofs.Topics.{versions_le}
use Rattle.ws_lease.proofs.SortedEntries.{any_filter}
use Rattle.ws_compaction.proofs.Fetches.{any_more}
use Rattle.ws_tries.specs.Stands.{is_any_push}
use Rattle.ws_kept.specs.Finding.{gives_latest, is_latest}
use Rattle.ws_kept.specs.Stands.{light, log_of}
use Rattle.ws_kept.proofs.Lists.{any_log, any_one, both_ways, each_any}

-- ---- the events

has_version : (h : List Event) (v : ℕ) → list_any (λ w. w.ver == v) (versions h) ≡ true → has (is_fetched v) h ≡ true
has_version [] v k = k
has_version (e ∷ h) v k = one e.what k (has_version h v)
  where
    one : (w : What) → list_any (λ x. x.ver == v) (versions_of w ++ versions h) ≡ true → (list_any (λ x. x.ver == v) (versions h) ≡ true → has (is_fetched v) h ≡ true) → (is_fetched v w || has (is_fetched v) h) ≡ true
    one (Fetched x) k f = elim (or_cases (x.ver == v) (list_any (λ y. y.ver == v) (versions h)) k) [ inl a ↦ or_left _ _ a | inr a ↦ or_right (x.ver == v) _ (f a) ]
    one w k f = or_right (is_fetched v w) _ (f k)

module _ (h : List Event) (v : ℕ) where
  given : (w : What) → gives_latest h v w ≡ true → is_latest h v ≡ true
  given (Fetched x) k = let a = and_parts (x.ver == v) (is_latest h x.ver) k in subst (λ n. is_latest h n ≡ true) (eqb-true x.ver v a.0) a.1
  given _ k = absurd (false≢true k)

  gives : is_latest h v ≡ true → (w : What) → is_fetched v w ≡ true → gives_latest h v w ≡ true
  gives k (Fetched x) a = and_from _ _ a (subst (λ n. is_latest h n ≡ true) (sym (eqb-true x.ver v a)) k)
  gives k _ a = absurd (false≢true a)

  latest_had : has (gives_latest h v) h ≡ is_latest h v
  latest_had =
      both_ways (has (gives_latest h v) h) (is_latest h v)
      (any_one (λ e. gives_latest h v e.what) (is_latest h v ≡ true) (λ e. given e.what) h)
      (λ k. any_more (λ e. is_fetched v e.what) (λ e. gives_latest h v e.what) (λ e. gives k e.what) h
      (has_version h v (any_of_filter (λ w. w.ver == v) (λ w. is_version w.ver (latest_of w.topic h)) (versions h) k)))

  as_light : (w : What) → gives_latest h v (light w) ≡ gives_latest h v w
  as_light (Fetched x) = refl
  as_light (Asked i) = refl
  as_light w = refl

  no_push : (w : What) → is_any_push w ≡ true → gives_latest h v w ≡ false
  no_push (Pushed x n how) k = refl
  no_push _ k = absurd (false≢true k)

  pub latest_logged : list_any (λ e. gives_latest h v e.what) (log_of h) ≡ is_latest h v
  latest_logged = any_log (gives_latest h v) as_light no_push h ∙ latest_had

-- ---- by the tables

-- a version is told by its number
abbrev IsTold : List Version → Version → Type 0
IsTold vs v = find (λ w. w.ver == v.ver) vs ≡ Some v

told_new : (w : What) (t : ℕ) (h : List Event) → is_allowed w t h ≡ true → AllByRecursion (IsTold (versions h)) (versions h) → AllByRecursion (IsTold (versions_of w ++ versions h)) (versions_of w ++ versions h)
told_new (Fetched v) t h k a =
    let new : last_version h < v.ver = ltb-true _ _ k in (
      rw (itself v.ver),
      all_weaker (λ w. (w.ver ≤ last_version h) × IsTold (versions h) w) (IsTold (v ∷ versions h)) (λ w b. let c : (v.ver == w.ver) ≡ false = higher v.ver w.ver (last_version h) new b.0 in rw c b.1) (versions h)
          (both_true (λ w. w.ver ≤ last_version h) (IsTold (versions h)) (versions h) (versions_le h) a),
    )
  where
    higher : (m n k : ℕ) → k < m → n ≤ k → (m == n) ≡ false
    higher m n k a b = grind (arith, nat_tests)
told_new w t h k a = a

versions_told : (h : List Event) → Legal h → AllByRecursion (IsTold (versions h)) (versions h)
versions_told [] l = tt
versions_told (e ∷ h) l = told_new e.what e.t h (allowed h e l.1) (versions_told h l.0)

-- a version that is found is the latest of its topic exactly where its number is that of a latest one
pub latest_found : (h : List Event) (n : ℕ) (v : Version) → Legal h → find (λ w. w.ver == n) (versions h) ≡ Some v → is_version n (latest_of v.topic h) ≡ is_latest h n
latest_found h n v l found =
    both_ways (is_version n (latest_of v.topic h)) (is_latest h n)
    (λ k.
    let q = all_find (λ (x : Version). (p : Version → Bool) → p x ≡ true → list_any p (versions h) ≡ true) (λ w. w.ver == n) v (versions h) (each_any (versions h)) found in
    let number : v.ver ≡ n = eqb-true v.ver n q.1 in
    any_filter (λ w. w.ver == n) (λ w. is_version w.ver (latest_of w.topic h)) (versions h)
    ∙ q.0 (λ w. is_version w.ver (latest_of w.topic h) && (w.ver == n)) (and_from _ _ (ap (λ m. is_version m (latest_of v.topic h)) number ∙ k) q.1))
    (any_then (λ w. IsTold (versions h) w × (is_version w.ver (latest_of w.topic h) ≡ true)) (λ w. w.ver == n) (is_version n (latest_of v.topic h) ≡ true)
    (λ w a k.
    let number : w.ver ≡ n = eqb-true w.ver n k in
    let same : Some w ≡ Some v = sym a.0 ∙ ap (λ m. find (λ x. x.ver == m) (versions h)) number ∙ found in
    let is : w ≡ v = cc in
    sym (λ i. is_version (number i) (latest_of (is i).topic h)) ∙ a.1)
    (latest h) (all_filter_with (IsTold (versions h)) (λ w. is_version w.ver (latest_of w.topic h)) (versions h) (versions_told h l)))
