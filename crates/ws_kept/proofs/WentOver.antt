-- Which leases' pairs went over, by the table and by the history.
use Rattle.std.proofs.Common.{◌≡◌, ℕ, Bool, true, false, cond, ◌&&◌, List, [], ◌∷◌, refl, ap, sym, ◌∙◌, arith}
use Rattle.std.specs.Prelude.{Option, Some, None, ◌==◌}
use Rattle.std.specs.List.{AllByRecursion, list_any}
use Rattle.std.specs.List.Sorted.{IsStrictlySortedBy}
use Rattle.std.specs.BTreeMap.{is_at}
use Rattle.std.specs.Map.{keys_of, lookup}
use Rattle.std.specs.Option.{option_map}
use Rattle.std.specs.declared.cmp.Ordering.TheVariants.{Less}
use Rattle.std.proofs.lemmas.Bool.{and_from, and_parts, eqb-true, false≢true}
use Rattle.std.proofs.lemmas.Bool.Decides.{nat_tests}
use Rattle.std.proofs.lemmas.List.Elements.{recursion_from_All}
use Rattle.std.proofs.lemmas.Map.Views.{All-after_first}
use Rattle.ws_model.specs.declared.event.Event.{Event}
use Rattle.ws_model.specs.declared.fate.Cause.{Cause}
use Rattle.ws_model.specs.declared.fate.Cause.TheVariants.{Expired, Unsubscribed, Replaced, Gone, Spent, Revoked}
use Rattle.ws_model.specs.declared.fate.Fate.{Fate}
use Rattle.ws_model.specs.declared.fate.Fate.TheVariants.{Answered as IsAnswered, Owed, Ended as HasEnded}
use Rattle.ws_model.specs.Fate.{Pair, fate}
use Rattle.ws_model.specs.Legal.{Legal}
use Rattle.ws_model.specs.Pairs.{pairs}
use Rattle.ws_model.specs.Verdict.{pair_of}
use Rattle.ws_laws.proofs.ListLaws.{all_find, all_weaker, any_then}
use Rattle.ws_laws.proofs.Paired.{pairs_only}
use Rattle.ws_laws.proofs.Ended.{both_true}
use Rattle.ws_compaction.proofs.Fetches.{any_more}
use Rattle.ws_fate.specs.declared.totals.Standing.{Standing}
use Rattle.ws_fate.specs.declared.totals.Standing.TheVariants.{Open, Answered, Ended}
use Rattle.ws_fate.specs.Rows.{Rows, pair_order, standing_at}
use Rattle.ws_fate.specs.Stands.{without_expiry}
use Rattle.ws_fate.specs.Totals.{standing}
use Rattle.ws_lease.proofs.SortedEntries.{any_filter}
use Rattle.ws_kept.specs.Finding.{Pairs, is_replaced, went_over}
use Rattle.ws_kept.proofs.Lists.{both_ways, each_any}
use Rattle.ws_kept.proofs.Owed.{shown_any}

-- ---- the table's pairs are those that it shows

not_below : (n v m w : ℕ) → pair_order (n, v) (m, w) ≡ Less → is_at (pair_order (m, w)) (n, v) ≡ false
not_below n v m w k = grind (arith, nat_tests)

at_itself : (n v : ℕ) → is_at (pair_order (n, v)) (n, v) ≡ true
at_itself n v = grind (arith, nat_tests)

of_keys : (P : ℕ × ℕ → Type 0) (rows : Pairs) → AllByRecursion P (keys_of rows) → AllByRecursion (λ e. P e.0) rows
of_keys P [] a = tt
of_keys P (e ∷ rows) a = (a.0, of_keys P rows a.1)

sorted_rest : (k : ℕ × ℕ) (ks : List (ℕ × ℕ)) → IsStrictlySortedBy pair_order (k ∷ ks) → IsStrictlySortedBy pair_order ks
unfolding IsStrictlySortedBy
sorted_rest k ks s = s.1

pub entries_shown : (rows : Pairs) → IsStrictlySortedBy pair_order (keys_of rows) → AllByRecursion (λ e. lookup (is_at (pair_order e.0)) rows ≡ Some e.1) rows
entries_shown [] s = tt
entries_shown (e ∷ rows) s = (
  ap (λ b. cond b (Some e.1) (lookup (is_at (pair_order e.0)) rows)) (at_itself e.0.0 e.0.1),
  all_weaker (λ d. (pair_order e.0 d.0 ≡ Less) × (lookup (is_at (pair_order d.0)) rows ≡ Some d.1)) (λ d. lookup (is_at (pair_order d.0)) (e ∷ rows) ≡ Some d.1)
      (λ d a. ap (λ b. cond b (Some e.1) (lookup (is_at (pair_order d.0)) rows)) (not_below e.0.0 e.0.1 d.0.0 d.0.1 a.0) ∙ a.1) rows
      (both_true (λ d. pair_order e.0 d.0 ≡ Less) (λ d. lookup (is_at (pair_order d.0)) rows ≡ Some d.1) rows
      (of_keys (λ q. pair_order e.0 q ≡ Less) rows (recursion_from_All (λ q. pair_order e.0 q ≡ Less) (keys_of rows) (All-after_first pair_order e.0 (keys_of rows) s)))
      (entries_shown rows (sorted_rest e.0 (keys_of rows) s))),
)

-- ---- of a lease

replaced_shown : (s : Standing) → is_replaced (without_expiry s) ≡ is_replaced s
replaced_shown Open = refl
replaced_shown Answered = refl
replaced_shown (Ended Expired) = refl
replaced_shown (Ended Unsubscribed) = refl
replaced_shown (Ended Replaced) = refl
replaced_shown (Ended Gone) = refl
replaced_shown (Ended Spent) = refl
replaced_shown (Ended Revoked) = refl

ended_replaced : (c : Cause) → is_replaced (Ended c) ≡ true → HasEnded c ≡ HasEnded Replaced
ended_replaced Replaced k = refl
ended_replaced Expired k = absurd (false≢true k)
ended_replaced Unsubscribed k = absurd (false≢true k)
ended_replaced Gone k = absurd (false≢true k)
ended_replaced Spent k = absurd (false≢true k)
ended_replaced Revoked k = absurd (false≢true k)

pub replaced_fate : (f : Fate) → is_replaced (standing f) ≡ true → f ≡ HasEnded Replaced
replaced_fate IsAnswered k = absurd (false≢true k)
replaced_fate (Owed tries next) k = absurd (false≢true k)
replaced_fate (HasEnded c) k = ended_replaced c k

-- a pair of lease n and such a version went over
abbrev pub went : List Event → ℕ → (ℕ → Bool) → ℕ → Bool
went h t versions n = list_any (λ p. (p.lease.intent.n == n) && (versions p.version.ver && is_replaced (standing (fate h p t)))) (pairs h)

module _ (h : List Event) (t : ℕ) (versions : ℕ → Bool) (n : ℕ) (l : Legal h) (rows : Rows) (sorted : IsStrictlySortedBy pair_order (keys_of rows.pairs))
    (shows : (w m : ℕ) → standing_at w m rows ≡ option_map without_expiry (option_map standing (option_map (λ p. fate h p t) (pair_of h w m)))) where
  from_entry : (e : (ℕ × ℕ) × Standing) → standing_at e.0.1 e.0.0 rows ≡ Some e.1 → (e.0.0 == n) ≡ true → is_replaced e.1 ≡ true → versions e.0.1 ≡ true → went h t versions n ≡ true
  from_entry e stands k r v = by (pair_of h e.0.1 e.0.0) refl (sym (shows e.0.1 e.0.0) ∙ stands)
    where
      by : (o : Option Pair) → pair_of h e.0.1 e.0.0 ≡ o → option_map without_expiry (option_map standing (option_map (λ p. fate h p t) o)) ≡ Some e.1 → went h t versions n ≡ true
      by None f s = absurd (grind arith)
      by (Some p) f s =
          let found = all_find (λ (x : Pair). (q : Pair → Bool) → q x ≡ true → list_any q (pairs h) ≡ true) (λ x. (x.version.ver == e.0.1) && (x.lease.intent.n == e.0.0)) p (pairs h) (each_any (pairs h)) f in
          let numbers = and_parts (p.version.ver == e.0.1) (p.lease.intent.n == e.0.0) found.1 in
          let same : without_expiry (standing (fate h p t)) ≡ e.1 = cc in
          found.0 (λ x. (x.lease.intent.n == n) && (versions x.version.ver && is_replaced (standing (fate h x t))))
          (and_from _ _ (ap (λ m. m == n) (eqb-true p.lease.intent.n e.0.0 numbers.1) ∙ k)
          (and_from _ _ (ap versions (eqb-true p.version.ver e.0.1 numbers.0) ∙ v) (sym (replaced_shown (standing (fate h p t))) ∙ ap is_replaced same ∙ r)))

  from_pair : (p : Pair) → pair_of h p.version.ver p.lease.intent.n ≡ Some p → (p.lease.intent.n == n) ≡ true → versions p.version.ver ≡ true → is_replaced (standing (fate h p t)) ≡ true → went_over versions n rows.pairs ≡ true
  from_pair p only k v r =
      any_filter (λ e. is_replaced e.1 && versions e.0.1) (λ e. e.0.0 == n) rows.pairs
      ∙ any_more (λ e. ((e.0.0 == p.lease.intent.n) && (e.0.1 == p.version.ver)) && is_replaced e.1) (λ e. (e.0.0 == n) && (is_replaced e.1 && versions e.0.1))
      (λ e a.
      let b = and_parts ((e.0.0 == p.lease.intent.n) && (e.0.1 == p.version.ver)) (is_replaced e.1) a in
      let c = and_parts (e.0.0 == p.lease.intent.n) (e.0.1 == p.version.ver) b.0 in
      and_from _ _ (ap (λ m. m == n) (eqb-true e.0.0 p.lease.intent.n c.0) ∙ k) (and_from _ _ b.1 (ap versions (eqb-true e.0.1 p.version.ver c.1) ∙ v)))
      rows.pairs
      (shown_any p.lease.intent.n p.version.ver is_replaced (without_expiry (standing (fate h p t))) rows.pairs
      (shows p.version.ver p.lease.intent.n ∙ ap (λ o. option_map without_expiry (option_map standing (option_map (λ x. fate h x t) o))) only)
      (replaced_shown (standing (fate h p t)) ∙ r))

  pub went_is : went_over versions n rows.pairs ≡ went h t versions n
  went_is =
      both_ways (went_over versions n rows.pairs) (went h t versions n)
      (λ k. any_then (λ e. lookup (is_at (pair_order e.0)) rows.pairs ≡ Some e.1) (λ e. (e.0.0 == n) && (is_replaced e.1 && versions e.0.1)) (went h t versions n ≡ true)
      (λ e stands a.
      let b = and_parts (e.0.0 == n) (is_replaced e.1 && versions e.0.1) a in
      let c = and_parts (is_replaced e.1) (versions e.0.1) b.1 in
      from_entry e stands b.0 c.0 c.1)
      rows.pairs (entries_shown rows.pairs sorted) (sym (any_filter (λ e. is_replaced e.1 && versions e.0.1) (λ e. e.0.0 == n) rows.pairs) ∙ k))
      (any_then (λ p. pair_of h p.version.ver p.lease.intent.n ≡ Some p) (λ p. (p.lease.intent.n == n) && (versions p.version.ver && is_replaced (standing (fate h p t)))) (went_over versions n rows.pairs ≡ true)
      (λ p only a.
      let b = and_parts (p.lease.intent.n == n) (versions p.version.ver && is_replaced (standing (fate h p t))) a in
      let c = and_parts (versions p.version.ver) (is_replaced (standing (fate h p t))) b.1 in
      from_pair p only b.0 c.0 c.1)
      (pairs h) (pairs_only h l))
