-- The pairs of a history that a compaction forgets, counted in the table that shows them.
use Rattle.std.proofs.Common.{◌≡◌, ℕ, ◌≤◌, Bool, true, false, cond, not, ◌&&◌, List, [], ◌∷◌, refl, ap, sym, ◌∙◌, subst, length, Option, Some, None, arith}
use Rattle.std.specs.Prelude.{find, filter, map, unwrap_or, ◌==◌}
use Rattle.std.specs.List.{AllByRecursion, IsDistinct, list_any}
use Rattle.std.specs.List.Sorted.{IsStrictlySortedBy}
use Rattle.std.specs.Map.{keys_of, lookup}
use Rattle.std.specs.Option.{option_map}
use Rattle.std.proofs.lemmas.Bool.{false≢true, or_right}
use Rattle.std.proofs.lemmas.Bool.Decides.{nat_tests}
use Rattle.std.proofs.lemmas.List.{length-map}
use Rattle.std.proofs.lemmas.Map.Keys.{IsDistinct-from_sorted}
use Rattle.ws_model.specs.declared.event.Event.{Event}
use Rattle.ws_model.specs.declared.fate.Cause.{Cause}
use Rattle.ws_model.specs.declared.fate.Cause.TheVariants.{Expired, Unsubscribed, Replaced, Gone, Spent, Revoked}
use Rattle.ws_model.specs.declared.fate.Fate.{Fate}
use Rattle.ws_model.specs.declared.fate.Fate.TheVariants.{Owed, Answered as IsAnswered, Ended as HasEnded}
use Rattle.ws_model.specs.Account.{is_answered, is_ended}
use Rattle.ws_model.specs.Fate.{Pair, fate, is_owed}
use Rattle.ws_model.specs.Keep.{is_kept_pair}
use Rattle.ws_model.specs.Legal.{Legal}
use Rattle.ws_model.specs.Pairs.{owed, pairs}
use Rattle.ws_model.specs.Verdict.{fate_of, is_kept_version, pair_of}
use Rattle.ws_model.specs.Versions.{latest}
use Rattle.ws_laws.proofs.Known.{itself}
use Rattle.ws_laws.proofs.ListLaws.{all_filter_with, all_weaker, filter-map, filter_same, map-map}
use Rattle.ws_laws.proofs.Paired.{AreUnlike, pairs_apart, same_numbers}
use Rattle.ws_compaction.proofs.Choice.{owed_numbers}
use Rattle.ws_compaction.proofs.Fetches.{found_in}
use Rattle.ws_fate.specs.declared.totals.Standing.{Standing}
use Rattle.ws_fate.specs.declared.totals.Standing.TheVariants.{Open, Answered, Ended}
use Rattle.ws_fate.specs.Rows.{Rows, is_here, pair_order}
use Rattle.ws_fate.specs.Stands.{AreShown, is_owed_at, later, without_expiry}
use Rattle.ws_fate.specs.Totals.{standing}
use Rattle.ws_fate.proofs.Passing.{any_found, is_it}
use Rattle.ws_kept.specs.Rows.{Rows as KeptRows}
use Rattle.ws_kept.specs.Stands.{AreKept}
use Rattle.ws_forgotten.specs.Forgotten.{end_of, forgotten_ends, is_kept_key, is_so, number_so, standing_of}
use Rattle.ws_forgotten.proofs.OneByOne.{number_picked}
use Rattle.ws_forgotten.proofs.Rows.{Entry, key_test, same_key, same_number}

-- ---- the pairs of a history as such a table

abbrev key_of : Pair → ℕ × ℕ
key_of p = (p.lease.intent.n, p.version.ver)

abbrev entry_of : List Event → ℕ → Pair → Entry
entry_of h t p = (key_of p, without_expiry (standing (fate h p t)))

apart_keys : (p q : Pair) → same_numbers p q ≡ false → same_key (key_of p) (key_of q) ≡ false
apart_keys p q k = key_test p.lease.intent.n p.version.ver q.lease.intent.n q.version.ver ∙ turned p.version.ver p.lease.intent.n q.version.ver q.lease.intent.n k
  where
    turned : (v n w m : ℕ) → ((v == w) && (n == m)) ≡ false → is_here v n w m ≡ false
    turned v n w m k = grind (arith, nat_tests)

module _ (key : Pair → ℕ × ℕ) (apart : (p q : Pair) → same_numbers p q ≡ false → same_key (key p) (key q) ≡ false) where
  pub keys_apart : (ps : List Pair) → AreUnlike same_numbers ps → IsDistinct same_key (map key ps)
  unfolding IsDistinct
  keys_apart [] a = tt
  keys_apart (p ∷ ps) a = (others ps a.0, keys_apart ps a.1)
    where
      others : (qs : List Pair) → AllByRecursion (λ q. same_numbers p q ≡ false) qs → AllByRecursion (λ k. same_key (key p) k ≡ false) (map key qs)
      others [] b = tt
      others (q ∷ qs) b = (apart p q b.0, others qs b.1)

at_pair : (n v m w : ℕ) → same_key (n, v) (m, w) ≡ ((w == v) && (m == n))
at_pair n v m w = key_test n v m w ∙ turned n v m w
  where
    turned : (n v m w : ℕ) → is_here v n w m ≡ ((w == v) && (m == n))
    turned n v m w = grind (arith, nat_tests)

looked_up : (h : List Event) (t v n : ℕ) (ps : List Pair) → lookup (same_key (n, v)) (map (entry_of h t) ps) ≡ option_map without_expiry (option_map standing (option_map (λ p. fate h p t) (find (is_it v n) ps)))
looked_up h t v n [] = refl
looked_up h t v n (p ∷ ps) =
    ap (λ b. cond b (Some (without_expiry (standing (fate h p t)))) (lookup (same_key (n, v)) (map (entry_of h t) ps))) (at_pair n v p.lease.intent.n p.version.ver) ∙ by (is_it v n p) (looked_up h t v n ps)
  where
    by : (b : Bool) → lookup (same_key (n, v)) (map (entry_of h t) ps) ≡ option_map without_expiry (option_map standing (option_map (λ p. fate h p t) (find (is_it v n) ps)))
        → cond b (Some (without_expiry (standing (fate h p t)))) (lookup (same_key (n, v)) (map (entry_of h t) ps)) ≡ option_map without_expiry (option_map standing (option_map (λ p. fate h p t) (cond b (Some p) (find (is_it v n) ps))))
    by true r = refl
    by false r = r

-- ---- owed pairs are kept

unfiltered : {X : Type 0} (P : X → Type 0) (q : X → Bool) (xs : List X) → AllByRecursion P (filter q xs) → AllByRecursion (λ x. q x ≡ true → P x) xs
unfiltered P q [] a = tt
unfiltered P q (x ∷ xs) a = one (q x) refl a (unfiltered P q xs)
  where
    one : (b : Bool) → q x ≡ b → AllByRecursion P (cond b (x ∷ filter q xs) (filter q xs)) → (AllByRecursion P (filter q xs) → AllByRecursion (λ y. q y ≡ true → P y) xs) → AllByRecursion (λ y. q y ≡ true → P y) (x ∷ xs)
    one true e a f = ((λ k. a.0), f a.1)
    one false e a f = ((λ k. absurd (false≢true (sym e ∙ k))), f a)

owed_versions : (h : List Event) (t : ℕ) → AllByRecursion (λ (p : Pair). is_kept_version h t p.version.ver ≡ true) (owed h t)
owed_versions h t =
    all_weaker (λ (p : Pair). (is_owed (fate h p t) ≡ true → list_any (λ q. q.version.ver == p.version.ver) (owed h t) ≡ true) × (is_owed (fate h p t) ≡ true)) (λ (p : Pair). is_kept_version h t p.version.ver ≡ true)
    (λ p k. or_right (list_any (λ w. w.ver == p.version.ver) (latest h)) _ (k.0 k.1)) (owed h t)
    (all_filter_with (λ (p : Pair). is_owed (fate h p t) ≡ true → list_any (λ q. q.version.ver == p.version.ver) (owed h t) ≡ true) (λ p. is_owed (fate h p t)) (pairs h)
    (found_in (λ (q p : Pair). q.version.ver == p.version.ver) (λ p. is_owed (fate h p t)) (λ p. itself p.version.ver) (pairs h)))

owed_kept : (h : List Event) (t : ℕ) → Legal h → AllByRecursion (λ p. is_owed (fate h p t) ≡ true → is_kept_pair h t p ≡ true) (pairs h)
owed_kept h t l = unfiltered (λ p. is_kept_pair h t p ≡ true) (λ p. is_owed (fate h p t)) (pairs h) (owed_numbers (is_kept_version h t) h t l (owed_versions h t))

-- ---- what became of a pair, and its fate

-- the fates that pass the test are those that end so
abbrev pub IsTestOf : (Fate → Bool) → Standing → Type 0
IsTestOf test how = (f : Fate) → is_so how (standing f) ≡ test f

pub tests_answered : IsTestOf is_answered Answered
tests_answered IsAnswered = refl
tests_answered (Owed m n) = refl
tests_answered (HasEnded c) = refl

pub tests_ended : (c : Cause) → IsTestOf (is_ended c) (Ended c)
tests_ended c IsAnswered = refl
tests_ended c (Owed m n) = refl
tests_ended c (HasEnded d) = refl

-- what isn't owed and is said to be open has expired
ended_so : (f : Fate) → is_owed f ≡ false → end_of (without_expiry (standing f)) ≡ standing f
ended_so IsAnswered k = refl
ended_so (Owed m n) k = absurd (false≢true (sym k))
ended_so (HasEnded Expired) k = refl
ended_so (HasEnded Unsubscribed) k = refl
ended_so (HasEnded Replaced) k = refl
ended_so (HasEnded Gone) k = refl
ended_so (HasEnded Spent) k = refl
ended_so (HasEnded Revoked) k = refl

later_so : (f : Fate) → later (is_owed f) (without_expiry (standing f)) ≡ standing f
later_so IsAnswered = refl
later_so (Owed m n) = refl
later_so (HasEnded Expired) = refl
later_so (HasEnded Unsubscribed) = refl
later_so (HasEnded Replaced) = refl
later_so (HasEnded Gone) = refl
later_so (HasEnded Spent) = refl
later_so (HasEnded Revoked) = refl

-- what became of a pair of which the table says s
pub shown_later : (h : List Event) (t v n : ℕ) (s : Standing) → Legal h → Some s ≡ option_map without_expiry (option_map standing (fate_of h v n t)) → later (is_owed_at h t v n) s ≡ standing_of h t v n
shown_later h t v n s l shown = by (pair_of h v n) refl shown
  where
    by : (o : Option Pair) → pair_of h v n ≡ o → Some s ≡ option_map without_expiry (option_map standing (option_map (λ p. fate h p t) o))
        → later (is_owed_at h t v n) s ≡ unwrap_or (option_map standing (option_map (λ p. fate h p t) o)) Open
    by None e k = absurd (cc)
    by (Some p) e k =
        let same : s ≡ without_expiry (standing (fate h p t)) = cc in
        (λ j. later (any_found v n (λ q. is_owed (fate h q t)) p (pairs h) (pairs_apart h l) e j) (same j)) ∙ later_so (fate h p t)

-- the pair isn't kept, and so it ended
abbrev is_forgotten : Standing → KeptRows → Entry → Bool
is_forgotten how kept e = is_so how (end_of e.1) && not (is_kept_key kept e.0)

module _ (h : List Event) (t : ℕ) (kept : KeptRows) (keeps : AreKept h t kept) (test : Fate → Bool) (how : Standing) (same : IsTestOf test how) where
  kept_both : (p : Pair) → is_kept_key kept (key_of p) ≡ is_kept_pair h t p
  kept_both p = λ j. keeps.versions p.version.ver j && keeps.leases p.lease.intent.n j

  forgotten_so : (p : Pair) → (is_owed (fate h p t) ≡ true → is_kept_pair h t p ≡ true) → is_forgotten how kept (entry_of h t p) ≡ (test (fate h p t) && not (is_kept_pair h t p))
  forgotten_so p k = ap (λ b. is_so how (end_of (without_expiry (standing (fate h p t)))) && not b) (kept_both p) ∙ by (is_owed (fate h p t)) refl
    where
      not_kept : (a b c : Bool) → c ≡ true → (a && not c) ≡ (b && not c)
      not_kept true true c e = refl
      not_kept true false c e = ap not e
      not_kept false true c e = sym (ap not e)
      not_kept false false c e = refl

      by : (b : Bool) → is_owed (fate h p t) ≡ b → (is_so how (end_of (without_expiry (standing (fate h p t)))) && not (is_kept_pair h t p)) ≡ (test (fate h p t) && not (is_kept_pair h t p))
      by true e = not_kept (is_so how (end_of (without_expiry (standing (fate h p t))))) (test (fate h p t)) (is_kept_pair h t p) (k e)
      by false e = ap (λ b. b && not (is_kept_pair h t p)) (ap (is_so how) (ended_so (fate h p t) e) ∙ same (fate h p t))

  pub number_is :
      (since : ℕ) (rows : Rows) → AreShown h since rows → IsStrictlySortedBy pair_order (keys_of rows.pairs) → Legal h → since ≤ t
      → number_so how (forgotten_ends kept rows.pairs) ≡ length (filter (λ p. test (fate h p t) && not (is_kept_pair h t p)) (pairs h))
  number_is since rows shown sorted l le =
      number_picked (λ e. not (is_kept_key kept e.0)) (λ e. end_of e.1) how rows.pairs
      ∙ same_number (is_forgotten how kept) rows.pairs (map (entry_of h t) (pairs h)) (IsDistinct-from_sorted pair_order (keys_of rows.pairs) sorted)
      (subst (IsDistinct same_key) (sym (map-map (entry_of h t) (λ e. e.0) (pairs h))) (keys_apart key_of apart_keys (pairs h) (pairs_apart h l)))
      (λ k. shown t k.1 k.0 le ∙ sym (looked_up h t k.1 k.0 (pairs h)))
      ∙ ap length (filter-map (entry_of h t) (is_forgotten how kept) (pairs h))
      ∙ length-map (filter (λ p. is_forgotten how kept (entry_of h t p)) (pairs h)) (entry_of h t)
      ∙ ap length
      (filter_same (λ p. is_forgotten how kept (entry_of h t p)) (λ p. test (fate h p t) && not (is_kept_pair h t p)) (pairs h)
      (all_weaker (λ p. is_owed (fate h p t) ≡ true → is_kept_pair h t p ≡ true) (λ p. is_forgotten how kept (entry_of h t p) ≡ (test (fate h p t) && not (is_kept_pair h t p))) forgotten_so (pairs h) (owed_kept h t l)))
