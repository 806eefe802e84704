-- The numbers of the Tally.
use Rattle.std.proofs.Common.{◌≡◌, ℕ, ◌+◌, ◌-◌, ◌≤◌, Bool, false, ◌&&◌, not, refl, ap, ◌∙◌, arith, length, List, None}
use Rattle.std.specs.Prelude.{filter, min, ◌==◌}
use Rattle.std.specs.List.Sorted.{IsStrictlySortedBy}
use Rattle.std.specs.Map.{keys_of}
use Rattle.std.proofs.lemmas.Bool.{eqb-false, or_parts}
use Rattle.std.proofs.lemmas.List.Filters.{length-filter_both}
use Rattle.ws_model.specs.declared.event.Event.{Event}
use Rattle.ws_model.specs.declared.event.Tally.{Tally as TallyFields}
use Rattle.ws_model.specs.declared.fate.Cause.TheVariants.{Expired, Unsubscribed, Replaced, Gone, Spent, Revoked}
use Rattle.ws_model.specs.declared.fate.Fate.{Fate}
use Rattle.ws_model.specs.Account.{account, fated, is_answered, is_ended, most, tallied, total}
use Rattle.ws_model.specs.Fate.{fate}
use Rattle.ws_model.specs.Keep.{forgotten, is_kept_pair}
use Rattle.ws_model.specs.Legal.{Legal}
use Rattle.ws_model.specs.Pairs.{pairs}
use Rattle.ws_model.specs.Verdict.{pair_of}
use Rattle.ws_laws.specs.Steps.{more}
use Rattle.ws_laws.proofs.ListLaws.{filter-filter}
use Rattle.ws_fate.specs.declared.totals.Standing.{Standing}
use Rattle.ws_fate.specs.declared.totals.Standing.TheVariants.{Answered, Ended}
use Rattle.ws_fate.specs.Rows.{Rows, pair_order}
use Rattle.ws_fate.specs.Stands.{AreShown}
use Rattle.ws_fate.specs.Totals.{none, of_account}
use Rattle.ws_tries.specs.Rows.{Rows as Rooms, pair_order as room_order, tries_at}
use Rattle.ws_tries.specs.Stands.{HaveRooms}
use Rattle.ws_kept.specs.Rows.{Rows as KeptRows}
use Rattle.ws_kept.specs.Stands.{AreKept, IsLogged}
use Rattle.ws_forgotten.specs.Forgotten.{all_forgotten, forgotten_ends, has_stopped, kept_ends, less, number_so, sums, told_first, with_ends}
use Rattle.ws_forgotten.proofs.Roomed.{kept_number}
use Rattle.ws_forgotten.proofs.Shown.{IsTestOf, number_is, tests_answered, tests_ended}
use Rattle.ws_forgotten.proofs.Told.{logged_told}

-- ---- all pairs that aren't kept

capped_twice : (a k m : ℕ) → min (a + min (0 + k) m) m ≡ min (a + k) m
capped_twice a k m = omega arith

module _ (h : List Event) (since t : ℕ) (rows : Rows) (kept : KeptRows) (shown : AreShown h since rows) (sorted : IsStrictlySortedBy pair_order (keys_of rows.pairs)) (keeps : AreKept h t kept) (l : Legal h) (le : since ≤ t) where
  one_is : (test : Fate → Bool) (how : Standing) → IsTestOf test how → (field : TallyFields → ℕ) → more (tallied field h) (more 0 (number_so how (forgotten_ends kept rows.pairs))) ≡ forgotten test field h t
  one_is test how same field = capped_twice (tallied field h) (number_so how (forgotten_ends kept rows.pairs)) most ∙ ap (more (tallied field h)) (number_is h t kept keeps test how same since rows shown sorted l le)

  pub all_are : (log : List Event) → IsLogged h since log → sums (told_first log) (with_ends none (forgotten_ends kept rows.pairs)) ≡ all_forgotten h t
  all_are log logged =
      ap (λ c. sums c (with_ends none (forgotten_ends kept rows.pairs))) (logged_told h since log l logged)
      ∙ (λ j.
      record {
        answered = one_is is_answered Answered tests_answered (λ c. c.answered) j;
        expired = one_is (is_ended Expired) (Ended Expired) (tests_ended Expired) (λ c. c.expired) j;
        unsubscribed = one_is (is_ended Unsubscribed) (Ended Unsubscribed) (tests_ended Unsubscribed) (λ c. c.unsubscribed) j;
        replaced = one_is (is_ended Replaced) (Ended Replaced) (tests_ended Replaced) (λ c. c.replaced) j;
        gone = one_is (is_ended Gone) (Ended Gone) (tests_ended Gone) (λ c. c.gone) j;
        spent = one_is (is_ended Spent) (Ended Spent) (tests_ended Spent) (λ c. c.spent) j;
        revoked = one_is (is_ended Revoked) (Ended Revoked) (tests_ended Revoked) (λ c. c.revoked) j;
      })

-- ---- the account's pairs that aren't kept

-- of the whole f + a, which is less than m, k are kept
left_over : (a f k n m : ℕ) → k + n ≡ f → (min (f + a) m ≡ m → ⊥) → min (f + a) m - min (0 + k) m ≡ min (a + n) m
left_over a f k n m e less = omega arith

-- a pair of such a fate is kept or not
parted : (test : Fate → Bool) (h : List Event) (t : ℕ)
    → length (filter (λ p. test (fate h p t) && is_kept_pair h t p) (pairs h)) + length (filter (λ p. test (fate h p t) && not (is_kept_pair h t p)) (pairs h)) ≡ fated test h t
parted test h t =
    (λ j.
    length (filter-filter (λ p. test (fate h p t) && is_kept_pair h t p) (λ p. test (fate h p t)) (is_kept_pair h t) (λ p. refl) (pairs h) j)
    + length (filter-filter (λ p. test (fate h p t) && not (is_kept_pair h t p)) (λ p. test (fate h p t)) (λ p. not (is_kept_pair h t p)) (λ p. refl) (pairs h) j))
    ∙ length-filter_both (is_kept_pair h t) (λ p. not (is_kept_pair h t p)) (λ p. refl) (filter (λ p. test (fate h p t)) (pairs h))

module _ (h : List Event) (t : ℕ) (rooms : Rooms) (kept : KeptRows) (l : Legal h) (keeps : AreKept h t kept) (have : HaveRooms h t rooms) (others : (v n : ℕ) → pair_of h v n ≡ None → tries_at v n rooms ≡ None) (sorted : IsStrictlySortedBy room_order (keys_of rooms)) where
  one_left : (test : Fate → Bool) (how : Standing) → IsTestOf test how → (field : TallyFields → ℕ) → (total test field h t == most) ≡ false
      → total test field h t - more 0 (number_so how (kept_ends h t kept (keys_of rooms))) ≡ forgotten test field h t
  one_left test how same field k =
      ap (λ n. total test field h t - more 0 n) (kept_number h t kept rooms l keeps have others sorted how test same)
      ∙ left_over (tallied field h) (fated test h t) (length (filter (λ p. test (fate h p t) && is_kept_pair h t p) (pairs h))) (length (filter (λ p. test (fate h p t) && not (is_kept_pair h t p)) (pairs h))) most
      (parted test h t) (eqb-false (total test field h t) most k)

  pub all_left : has_stopped (of_account (account h t)) ≡ false → less (of_account (account h t)) (with_ends none (kept_ends h t kept (keys_of rooms))) ≡ all_forgotten h t
  all_left k =
      let revoked = or_parts _ _ k in
      let spent = or_parts _ _ revoked.0 in
      let gone = or_parts _ _ spent.0 in
      let replaced = or_parts _ _ gone.0 in
      let unsubscribed = or_parts _ _ replaced.0 in
      let expired = or_parts _ _ unsubscribed.0 in
      λ j.
      record {
        answered = one_left is_answered Answered tests_answered (λ c. c.answered) expired.0 j;
        expired = one_left (is_ended Expired) (Ended Expired) (tests_ended Expired) (λ c. c.expired) expired.1 j;
        unsubscribed = one_left (is_ended Unsubscribed) (Ended Unsubscribed) (tests_ended Unsubscribed) (λ c. c.unsubscribed) unsubscribed.1 j;
        replaced = one_left (is_ended Replaced) (Ended Replaced) (tests_ended Replaced) (λ c. c.replaced) replaced.1 j;
        gone = one_left (is_ended Gone) (Ended Gone) (tests_ended Gone) (λ c. c.gone) gone.1 j;
        spent = one_left (is_ended Spent) (Ended Spent) (tests_ended Spent) (λ c. c.spent) spent.1 j;
        revoked = one_left (is_ended Revoked) (Ended Revoked) (tests_ended Revoked) (λ c. c.revoked) revoked.1 j;
      }
