-- The kept pairs of a history, counted by the rooms that they have.
use Rattle.std.proofs.Common.{◌≡◌, ℕ, Bool, true, false, ◌&&◌, ◌||◌, List, [], ◌∷◌, refl, ap, sym, ◌∙◌, length, Option, Some, None, arith}
use Rattle.std.specs.Prelude.{cond, find, filter, map, is_some, unwrap_or, ◌==◌}
use Rattle.std.specs.List.{list_any}
use Rattle.std.specs.List.Sorted.{IsStrictlySortedBy}
use Rattle.std.specs.Map.{keys_of}
use Rattle.std.specs.Option.{option_map}
use Rattle.std.proofs.lemmas.Bool.{and_parts}
use Rattle.std.proofs.lemmas.Bool.Decides.{nat_tests}
use Rattle.std.proofs.lemmas.Cmp.{eq_by_cmp_equiv}
use Rattle.std.proofs.lemmas.List.{length-map}
use Rattle.std.proofs.lemmas.Map.Keys.{IsDistinct-from_sorted}
use Rattle.std.proofs.lemmas.Map.Made.{IsDistinct-keys_filter, is_some-lookup, length-from_same_keys}
use Rattle.std.proofs.lemmas.Map.Views.{any-filter_same}
use Rattle.ws_model.specs.declared.event.Event.{Event}
use Rattle.ws_model.specs.declared.fate.Fate.{Fate}
use Rattle.ws_model.specs.Fate.{Pair, fate}
use Rattle.ws_model.specs.Keep.{is_kept_pair, kept_leases, member}
use Rattle.ws_model.specs.Legal.{Legal}
use Rattle.ws_model.specs.Pairs.{pairs}
use Rattle.ws_model.specs.Verdict.{is_kept_version, pair_of}
use Rattle.ws_laws.proofs.ListLaws.{all_weaker, filter-map, filter_same}
use Rattle.ws_laws.proofs.Paired.{pairs_apart, pairs_only, same_numbers, unlike_filter}
use Rattle.ws_fate.specs.declared.totals.Standing.{Standing}
use Rattle.ws_fate.specs.declared.totals.Standing.TheVariants.{Open}
use Rattle.ws_fate.specs.Totals.{standing}
use Rattle.ws_fate.proofs.Passing.{is_it}
use Rattle.ws_tries.specs.Rows.{Rows, pair_order, tries_at}
use Rattle.ws_tries.specs.Stands.{HaveRooms}
use Rattle.ws_kept.specs.Rows.{Rows as KeptRows}
use Rattle.ws_kept.specs.Stands.{AreKept}
use Rattle.ws_forgotten.specs.Forgotten.{has_both, is_so, kept_ends, number_so, standing_of}
use Rattle.ws_forgotten.proofs.OneByOne.{number_picked}
use Rattle.ws_forgotten.proofs.Rows.{key_test, same_is, same_key, total_order}
use Rattle.ws_forgotten.proofs.Shown.{IsTestOf, keys_apart}

-- ---- the numbers of pairs

abbrev numbers_of : Pair → ℕ × ℕ
numbers_of p = (p.version.ver, p.lease.intent.n)

apart_numbers : (p q : Pair) → same_numbers p q ≡ false → same_key (numbers_of p) (numbers_of q) ≡ false
apart_numbers p q k = key_test p.version.ver p.lease.intent.n q.version.ver q.lease.intent.n ∙ k

at_numbers : (v n w m : ℕ) → same_key (v, n) (w, m) ≡ ((w == v) && (m == n))
at_numbers v n w m = key_test v n w m ∙ turned v n w m
  where
    turned : (v n w m : ℕ) → ((v == w) && (n == m)) ≡ ((w == v) && (m == n))
    turned v n w m = grind (arith, nat_tests)

there : (v n : ℕ) (ps : List Pair) → list_any (same_key (v, n)) (map numbers_of ps) ≡ is_some (find (is_it v n) ps)
there v n [] = refl
there v n (p ∷ ps) = ap (λ b. b || list_any (same_key (v, n)) (map numbers_of ps)) (at_numbers v n p.version.ver p.lease.intent.n) ∙ by (is_it v n p) (there v n ps)
  where
    by : (b : Bool) → list_any (same_key (v, n)) (map numbers_of ps) ≡ is_some (find (is_it v n) ps) → (b || list_any (same_key (v, n)) (map numbers_of ps)) ≡ is_some (cond b (Some p) (find (is_it v n) ps))
    by true r = refl
    by false r = r

-- ---- rooms of kept pairs

module _ (h : List Event) (t : ℕ) (kept : KeptRows) (rooms : Rows) (l : Legal h) (keeps : AreKept h t kept) (have : HaveRooms h t rooms) (others : (v n : ℕ) → pair_of h v n ≡ None → tries_at v n rooms ≡ None) (sorted : IsStrictlySortedBy pair_order (keys_of rooms)) where
  kept_both : (v n : ℕ) → has_both kept (v, n) ≡ (is_kept_version h t v && member n (kept_leases h t))
  kept_both v n = λ j. keeps.versions v j && keeps.leases n j

  -- the history has a kept pair exactly where it has a room
  roomed : (v n : ℕ) → has_both kept (v, n) ≡ true → is_some (tries_at v n rooms) ≡ is_some (pair_of h v n)
  roomed v n k = by (pair_of h v n) refl
    where
      by : (o : Option Pair) → pair_of h v n ≡ o → is_some (tries_at v n rooms) ≡ is_some o
      by None e = ap is_some (others v n e)
      by (Some p) e = let both = and_parts (is_kept_version h t v) (member n (kept_leases h t)) (sym (kept_both v n) ∙ k) in have v n both.0 both.1 (ap is_some e)

  module _ (how : Standing) where
    -- a kept pair that ended so
    abbrev counted : ℕ × ℕ → Bool
    counted k = is_so how (standing_of h t k.0 k.1) && has_both kept k

    counted_same : (k m : ℕ × ℕ) → same_key k m ≡ true → counted m ≡ counted k
    counted_same k m e = ap counted (sym (same_is k m e))

    same_members : (k : ℕ × ℕ) → list_any (same_key k) (keys_of (filter (λ r. counted r.0) rooms)) ≡ list_any (same_key k) (map numbers_of (filter (λ p. counted (numbers_of p)) (pairs h)))
    same_members k =
        ap (list_any (same_key k)) (sym (filter-map (λ r. r.0) counted rooms))
        ∙ any-filter_same (same_key k) counted (counted k) (counted_same k) (keys_of rooms)
        ∙ by (counted k) refl
        ∙ sym (any-filter_same (same_key k) counted (counted k) (counted_same k) (map numbers_of (pairs h)))
        ∙ ap (list_any (same_key k)) (filter-map numbers_of counted (pairs h))
      where
        by : (b : Bool) → counted k ≡ b → (b && list_any (same_key k) (keys_of rooms)) ≡ (b && list_any (same_key k) (map numbers_of (pairs h)))
        by true e = sym (is_some-lookup (same_key k) rooms) ∙ roomed k.0 k.1 (and_parts (is_so how (standing_of h t k.0 k.1)) (has_both kept k) e).1 ∙ sym (there k.0 k.1 (pairs h))
        by false e = refl

    number_kept : number_so how (kept_ends h t kept (keys_of rooms)) ≡ length (filter (λ p. counted (numbers_of p)) (pairs h))
    number_kept =
        number_picked (has_both kept) (λ k. standing_of h t k.0 k.1) how (keys_of rooms)
        ∙ ap length (filter-map (λ r. r.0) counted rooms)
        ∙ length-from_same_keys (eq_by_cmp_equiv total_order) (keys_of (filter (λ r. counted r.0) rooms)) (map numbers_of (filter (λ p. counted (numbers_of p)) (pairs h)))
        (IsDistinct-keys_filter same_key (λ r. counted r.0) rooms (IsDistinct-from_sorted pair_order (keys_of rooms) sorted))
        (keys_apart numbers_of apart_numbers (filter (λ p. counted (numbers_of p)) (pairs h)) (unlike_filter same_numbers (λ p. counted (numbers_of p)) (pairs h) (pairs_apart h l)))
        same_members
        ∙ length-map (filter (λ p. counted (numbers_of p)) (pairs h)) numbers_of

    pub kept_number : (test : Fate → Bool) → IsTestOf test how → number_so how (kept_ends h t kept (keys_of rooms)) ≡ length (filter (λ p. test (fate h p t) && is_kept_pair h t p) (pairs h))
    kept_number test same =
        number_kept
        ∙ ap length
        (filter_same (λ p. counted (numbers_of p)) (λ p. test (fate h p t) && is_kept_pair h t p) (pairs h)
        (all_weaker (λ p. pair_of h p.version.ver p.lease.intent.n ≡ Some p) (λ p. counted (numbers_of p) ≡ (test (fate h p t) && is_kept_pair h t p)) one (pairs h) (pairs_only h l)))
      where
        one : (p : Pair) → pair_of h p.version.ver p.lease.intent.n ≡ Some p → counted (numbers_of p) ≡ (test (fate h p t) && is_kept_pair h t p)
        one p e =
            let so : is_so how (standing_of h t p.version.ver p.lease.intent.n) ≡ test (fate h p t) = ap (λ o. is_so how (unwrap_or (option_map standing (option_map (λ q. fate h q t) o)) Open)) e ∙ same (fate h p t) in
            λ j. so j && kept_both p.version.ver p.lease.intent.n j
