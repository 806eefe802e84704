-- The pairs of what is kept, and their counts.
use Rattle.std.proofs.Common.{◌≡◌, ℕ, ◌+◌, ◌≤◌, Bool, true, List, refl, ap, sym, ◌∙◌, subst, arith}
use Rattle.std.specs.Prelude.{map, filter, min}
use Rattle.std.specs.List.{AllByRecursion}
use Rattle.ws_model.specs.declared.event.Event.{Event}
use Rattle.ws_model.specs.declared.event.Tally.{Tally as TallyFields}
use Rattle.ws_model.specs.declared.fate.Cause.TheVariants.{Expired, Unsubscribed, Replaced, Gone, Spent, Revoked as LeaseRevoked}
use Rattle.ws_model.specs.declared.fate.Fate.{Fate}
use Rattle.ws_compaction.proofs.Shrunk.{fate_kept, pairs_kept}
use Rattle.ws_compaction.proofs.Totals.{tallies_kept}
use Rattle.ws_compaction.proofs.Whole.{head, keep_is, kept, leases_in, no_tally_chosen, passes, right, same_total, version_in}
use Rattle.ws_compaction.specs.Compaction.{IsCounted, KeepsCounts, KeepsPairs}
use Rattle.ws_laws.proofs.Ended.{IsToldPair, pairs_told}
use Rattle.ws_laws.proofs.ListLaws.{all_filter_with, all_weaker}
use Rattle.ws_laws.proofs.Moments.{last_time_le}
use Rattle.ws_model.specs.Account.{fated, first_or_zero, is_answered, is_ended, most}
use Rattle.ws_model.specs.Fate.{Pair, fate}
use Rattle.ws_model.specs.Keep.{forgotten, is_kept_pair, keep}
use Rattle.ws_model.specs.Legal.{Legal}
use Rattle.ws_model.specs.Moment.{last_time, time}
use Rattle.ws_model.specs.Pairs.{pairs}

module _ (h : List Event) (t : ℕ) (l : Legal h) (le : time h ≤ t) where
  late : last_time h ≤ t
  late = let before : last_time h ≤ time h = last_time_le h in omega arith

  kept_pairs : pairs (kept h t h) ≡ filter (is_kept_pair h t) (pairs h)
  kept_pairs = pairs_kept (head h t) (passes h t) (leases_in h t) (version_in h t) h l (right h t l late)

  kept_fates : (u : ℕ) → AllByRecursion (λ (p : Pair). fate (kept h t h) p u ≡ fate h p u) (filter (is_kept_pair h t) (pairs h))
  kept_fates u =
      all_weaker (λ (p : Pair). IsToldPair h p × (is_kept_pair h t p ≡ true)) (λ (p : Pair). fate (kept h t h) p u ≡ fate h p u)
      (λ p k. fate_kept (head h t) (passes h t) (leases_in h t) (version_in h t) h l (right h t l late) p u k.0 k.1) (filter (is_kept_pair h t) (pairs h))
      (all_filter_with (IsToldPair h) (is_kept_pair h t) (pairs h) (pairs_told h l))

  counted : (test : Fate → Bool) (field : TallyFields → ℕ) → field (head h t) ≡ forgotten test field h t → IsCounted test field h t
  counted test field said =
      sym (same_total h t l late test field said)
      ∙ ap (λ cs. min (fated test (kept h t h) t + first_or_zero (map field cs)) most) (tallies_kept (head h t) (passes h t) (leases_in h t) (version_in h t) h (λ e k. no_tally_chosen h t e e.what k))
      ∙ ap (λ n. min (fated test (kept h t h) t + n) most) said
      ∙ ap (λ g. min (fated test g t + forgotten test field h t) most) (sym (keep_is h t))

pub keeps_pairs : KeepsPairs
keeps_pairs h t u l le =
    let same : keep h t ≡ kept h t h = keep_is h t in (
      ap pairs same ∙ kept_pairs h t l le,
      subst (λ g. AllByRecursion (λ (p : Pair). fate g p u ≡ fate h p u) (pairs g)) (sym same)
          (subst (AllByRecursion (λ (p : Pair). fate (kept h t h) p u ≡ fate h p u)) (sym (kept_pairs h t l le)) (kept_fates h t l le u)),
    )

pub keeps_counts : KeepsCounts
keeps_counts h t l le =
    record {
      answered = counted h t l le is_answered (λ c. c.answered) refl;
      expired = counted h t l le (is_ended Expired) (λ c. c.expired) refl;
      unsubscribed = counted h t l le (is_ended Unsubscribed) (λ c. c.unsubscribed) refl;
      replaced = counted h t l le (is_ended Replaced) (λ c. c.replaced) refl;
      gone = counted h t l le (is_ended Gone) (λ c. c.gone) refl;
      spent = counted h t l le (is_ended Spent) (λ c. c.spent) refl;
      revoked = counted h t l le (is_ended LeaseRevoked) (λ c. c.revoked) refl;
    }
