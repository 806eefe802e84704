-- The versions of the pairs that have rooms and are owed are those of the owed pairs.
use Rattle.std.proofs.Common.{◌≡◌, ℕ, Bool, true, false, cond, ◌&&◌, List, [], ◌∷◌, refl, ap, sym, ◌∙◌, arith}
use Rattle.std.specs.Prelude.{IsSome, Some, is_some, ◌==◌}
use Rattle.std.specs.List.{AllByRecursion, list_any}
use Rattle.std.specs.BTreeMap.{is_at}
use Rattle.std.specs.Map.{lookup}
use Rattle.std.proofs.lemmas.Bool.{and_from, and_parts, eqb-true, or_left, or_right}
use Rattle.std.proofs.lemmas.Bool.Decides.{nat_tests}
use Rattle.ws_model.specs.declared.event.Event.{Event}
use Rattle.ws_model.specs.Fate.{Pair, fate, is_owed}
use Rattle.ws_model.specs.Keep.{is_kept_pair, kept_leases, member}
use Rattle.ws_model.specs.Legal.{Legal}
use Rattle.ws_model.specs.Pairs.{owed, pairs}
use Rattle.ws_model.specs.Verdict.{is_kept_version, pair_of}
use Rattle.ws_model.specs.Versions.{latest}
use Rattle.ws_laws.proofs.Ended.{both_true}
use Rattle.ws_laws.proofs.Known.{itself}
use Rattle.ws_laws.proofs.ListLaws.{all_filter, all_weaker, any_then}
use Rattle.ws_laws.proofs.Paired.{pairs_only}
use Rattle.ws_compaction.proofs.Choice.{owed_numbers}
use Rattle.ws_compaction.proofs.Fetches.{any_more}
use Rattle.ws_fate.specs.declared.totals.Standing.{Standing}
use Rattle.ws_fate.specs.Rows.{pair_order}
use Rattle.ws_fate.specs.Stands.{is_owed_at}
use Rattle.ws_tries.specs.Rows.{Rows, tries_at}
use Rattle.ws_tries.specs.Stands.{HaveRooms}
use Rattle.ws_kept.specs.Finding.{Pairs, owes}
use Rattle.ws_kept.proofs.Lists.{any_one, both_ways, each_any}
use Rattle.ws_kept.proofs.Rooms.{room_among}

-- ---- what stands at a pair

at_pair : (n v m w : ℕ) → is_at (pair_order (n, v)) (m, w) ≡ ((m == n) && (w == v))
at_pair n v m w = grind (arith, nat_tests)

-- what stands at a pair passes a test that it passes
pub shown_any : (n v : ℕ) (test : Standing → Bool) (s : Standing) (rows : Pairs) → lookup (is_at (pair_order (n, v))) rows ≡ Some s → test s ≡ true
    → list_any (λ e. ((e.0.0 == n) && (e.0.1 == v)) && test e.1) rows ≡ true
shown_any n v test s [] k q = absurd (grind arith)
shown_any n v test s (e ∷ rows) k q = one (is_at (pair_order (n, v)) e.0) refl k (shown_any n v test s rows)
  where
    one : (b : Bool) → is_at (pair_order (n, v)) e.0 ≡ b → cond b (Some e.1) (lookup (is_at (pair_order (n, v))) rows) ≡ Some s
        → (lookup (is_at (pair_order (n, v))) rows ≡ Some s → test s ≡ true → list_any (λ d. ((d.0.0 == n) && (d.0.1 == v)) && test d.1) rows ≡ true)
        → list_any (λ d. ((d.0.0 == n) && (d.0.1 == v)) && test d.1) (e ∷ rows) ≡ true
    one true c k f = let same : e.1 ≡ s = cc in or_left _ _ (and_from _ _ (sym (at_pair n v e.0.0 e.0.1) ∙ c) (ap test same ∙ q))
    one false c k f = or_right (((e.0.0 == n) && (e.0.1 == v)) && test e.1) _ (f k q)

-- ---- owed pairs are kept, and have rooms

pub owed_versions : (h : List Event) (t : ℕ) → AllByRecursion (λ (p : Pair). is_kept_version h t p.version.ver ≡ true) (owed h t)
owed_versions h t =
    all_weaker (λ (p : Pair). (q : Pair → Bool) → q p ≡ true → list_any q (owed h t) ≡ true) (λ p. is_kept_version h t p.version.ver ≡ true)
    (λ p f. or_right (list_any (λ w. w.ver == p.version.ver) (latest h)) _ (f (λ q. q.version.ver == p.version.ver) (itself p.version.ver))) (owed h t) (each_any (owed h t))

pub owed_kept : (h : List Event) (t : ℕ) → Legal h → AllByRecursion (λ p. is_kept_pair h t p ≡ true) (owed h t)
owed_kept h t l = owed_numbers (is_kept_version h t) h t l (owed_versions h t)

module _ (h : List Event) (t v : ℕ) (l : Legal h) (rows : Rows) (rooms : HaveRooms h t rows) where
  from_pair : (p : Pair) → ((q : Pair → Bool) → q p ≡ true → list_any q (owed h t) ≡ true) → IsSome (tries_at p.version.ver p.lease.intent.n rows) → (p.version.ver == v) ≡ true → list_any (λ e. owes h t v e.0) rows ≡ true
  from_pair p there room k =
      any_more (λ e. (e.0.0 == p.version.ver) && (e.0.1 == p.lease.intent.n)) (λ e. owes h t v e.0)
      (λ e a.
      let c = and_parts (e.0.0 == p.version.ver) (e.0.1 == p.lease.intent.n) a in
      let ver : e.0.0 ≡ p.version.ver = eqb-true _ _ c.0 in
      let lease : e.0.1 ≡ p.lease.intent.n = eqb-true _ _ c.1 in
      and_from _ _ (ap (λ w. w == v) ver ∙ k)
      ((λ i. is_owed_at h t (ver i) (lease i)) ∙ there (λ q. (q.version.ver == p.version.ver) && (q.lease.intent.n == p.lease.intent.n)) (and_from _ _ (itself p.version.ver) (itself p.lease.intent.n))))
      rows (room_among p.version.ver p.lease.intent.n rows room)

  has_room : (p : Pair) → pair_of h p.version.ver p.lease.intent.n ≡ Some p → is_kept_pair h t p ≡ true → IsSome (tries_at p.version.ver p.lease.intent.n rows)
  has_room p only k =
      let a = and_parts (is_kept_version h t p.version.ver) (member p.lease.intent.n (kept_leases h t)) k in
      rooms p.version.ver p.lease.intent.n a.0 a.1 (ap is_some only)

  pub owed_found : list_any (λ e. owes h t v e.0) rows ≡ list_any (λ p. p.version.ver == v) (owed h t)
  owed_found =
      both_ways (list_any (λ e. owes h t v e.0) rows) (list_any (λ p. p.version.ver == v) (owed h t))
      (any_one (λ e. owes h t v e.0) (list_any (λ p. p.version.ver == v) (owed h t) ≡ true)
      (λ e a.
      let b = and_parts (e.0.0 == v) (is_owed_at h t e.0.0 e.0.1) a in
      any_more (λ p. (p.version.ver == e.0.0) && (p.lease.intent.n == e.0.1)) (λ p. p.version.ver == v)
      (λ p d. ap (λ w. p.version.ver == w) (sym (eqb-true e.0.0 v b.0)) ∙ (and_parts (p.version.ver == e.0.0) (p.lease.intent.n == e.0.1) d).0) (owed h t) b.1)
      rows)
      (any_then (λ p. ((pair_of h p.version.ver p.lease.intent.n ≡ Some p) × (is_kept_pair h t p ≡ true)) × ((q : Pair → Bool) → q p ≡ true → list_any q (owed h t) ≡ true)) (λ p. p.version.ver == v) (list_any (λ e. owes h t v e.0) rows ≡ true)
      (λ p a k. from_pair p a.1 (has_room p a.0.0 a.0.1) k)
      (owed h t)
      (both_true (λ p. (pair_of h p.version.ver p.lease.intent.n ≡ Some p) × (is_kept_pair h t p ≡ true)) (λ p. (q : Pair → Bool) → q p ≡ true → list_any q (owed h t) ≡ true) (owed h t)
      (both_true (λ p. pair_of h p.version.ver p.lease.intent.n ≡ Some p) (λ p. is_kept_pair h t p ≡ true) (owed h t)
      (all_filter (λ p. pair_of h p.version.ver p.lease.intent.n ≡ Some p) (λ p. is_owed (fate h p t)) (pairs h) (pairs_only h l)) (owed_kept h t l))
      (each_any (owed h t))))
