-- The counts of what is kept, with those of what is forgotten.
use Rattle.std.proofs.Common.{◌≡◌, ℕ, ◌+◌, Bool, true, false, cond, not, ◌&&◌, ◌||◌, List, [], ◌∷◌, length, refl, ap, sym, ◌∙◌, arith}
use Rattle.std.specs.Prelude.{map, filter, min}
use Rattle.std.proofs.lemmas.Bool.{false≢true}
use Rattle.ws_model.specs.declared.event.Event.{Event}
use Rattle.ws_model.specs.declared.event.Tally.{Tally as TallyFields}
use Rattle.ws_model.specs.declared.fate.Fate.{Fate}
use Rattle.ws_compaction.proofs.Shrunk.{AreRight, fate_kept, filter_swap, is_held_pair, pairs_kept, shrunk}
use Rattle.ws_laws.proofs.Counts.{count_either}
use Rattle.ws_laws.proofs.Ended.{IsToldPair, pairs_told}
use Rattle.ws_laws.proofs.ListLaws.{all_from, all_weaker, filter-filter}
use Rattle.ws_model.specs.Account.{fated, first_or_zero, most, tallied, tallies, tallies_of, total}
use Rattle.ws_model.specs.Fate.{Pair, fate}
use Rattle.ws_model.specs.Legal.{Legal}
use Rattle.ws_model.specs.Pairs.{pairs}

halved : (a b : Bool) → (a ≡ ((a && b) || (a && not b))) × ((a && b) ≡ true → (a && not b) ≡ false)
halved true true = (refl, λ k. refl)
halved true false = (refl, λ k. absurd (false≢true k))
halved false b = (refl, λ k. refl)

-- what passes a test is kept or not
parted : {X : Type 0} (test held : X → Bool) (xs : List X) → length (filter test xs) ≡ length (filter (λ x. test x && held x) xs) + length (filter (λ x. test x && not (held x)) xs)
parted test held xs =
    count_either test (λ x. test x && held x) (λ x. test x && not (held x)) xs
    (all_from (λ x. (test x ≡ ((test x && held x) || (test x && not (held x)))) × ((test x && held x) ≡ true → (test x && not (held x)) ≡ false)) (λ x. halved (test x) (held x)) xs)

stopped : (a b c m : ℕ) → min (a + min (c + b) m) m ≡ min ((a + b) + c) m
stopped a b c m = omega arith

module _ (head : TallyFields) (passes : Event → Bool) (lease_in version_in : ℕ → Bool) where
  abbrev kept : List Event → List Event
  kept g = shrunk head passes lease_in version_in g

  abbrev held : Pair → Bool
  held p = is_held_pair head passes lease_in version_in p

  pub tallies_kept : (g : List Event) → ((e : Event) → passes e ≡ true → tallies_of e.what ≡ []) → tallies (kept g) ≡ head ∷ []
  tallies_kept [] f = refl
  tallies_kept (e ∷ g) f = one (passes e) refl (tallies_kept g f)
    where
      one : (b : Bool) → passes e ≡ b → tallies (kept g) ≡ head ∷ [] → tallies (cond b (e ∷ kept g) (kept g)) ≡ head ∷ []
      one true k r = rw (f e k) r
      one false k r = r

  fated_kept : (h : List Event) → Legal h → AreRight head passes lease_in version_in h → (test : Fate → Bool) (t : ℕ) → fated test (kept h) t ≡ length (filter (λ p. test (fate h p t) && held p) (pairs h))
  fated_kept h l right test t =
      ap length
      (ap (filter (λ p. test (fate (kept h) p t))) (pairs_kept head passes lease_in version_in h l right)
      ∙ filter_swap (λ p. test (fate (kept h) p t)) held (λ p. test (fate h p t)) (pairs h)
      (all_weaker (IsToldPair h) (λ p. held p ≡ true → test (fate (kept h) p t) ≡ test (fate h p t)) (λ p told k. ap test (fate_kept head passes lease_in version_in h l right p t told k)) (pairs h) (pairs_told h l))
      ∙ sym (filter-filter (λ p. test (fate h p t) && held p) (λ p. test (fate h p t)) held (λ p. refl) (pairs h)))

  -- where the Tally says how many of the fate are forgotten
  pub total_kept : (h : List Event) → Legal h → AreRight head passes lease_in version_in h → ((e : Event) → passes e ≡ true → tallies_of e.what ≡ []) → (test : Fate → Bool) (field : TallyFields → ℕ) (t : ℕ)
      → field head ≡ min (tallied field h + length (filter (λ p. test (fate h p t) && not (held p)) (pairs h))) most → total test field (kept h) t ≡ total test field h t
  total_kept h l right f test field t said =
      (λ i. min (fated_kept h l right test t i + first_or_zero (map field (tallies_kept h f i))) most)
      ∙ ap (λ n. min (length (filter (λ p. test (fate h p t) && held p) (pairs h)) + n) most) said
      ∙ stopped (length (filter (λ p. test (fate h p t) && held p) (pairs h))) (length (filter (λ p. test (fate h p t) && not (held p)) (pairs h))) (tallied field h) most
      ∙ ap (λ n. min (n + tallied field h) most) (sym (parted (λ p. test (fate h p t)) held (pairs h)))
