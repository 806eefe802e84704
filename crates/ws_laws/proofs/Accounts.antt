-- The account at a later moment, and after one more event.
use Rattle.std.proofs.Common.{◌≡◌, ℕ, suc, ◌+◌, ◌≤◌, Bool, true, false, cond, not, ◌&&◌, ◌||◌, List, [], ◌∷◌, ◌++◌, length, refl, ap, sym, ◌∙◌, arith}
use Rattle.std.specs.Prelude.{nat_lt, nat_le, is_none, Option, Some, None, map, filter, min}
use Rattle.std.proofs.lemmas.Bool.Decides.{nat_tests}
use Rattle.std.proofs.lemmas.Bool.{and_parts, false≢true, not-true}
use Rattle.std.proofs.lemmas.List.{length-map}
use Rattle.ws_model.specs.declared.event.Tally.{Tally as TallyFields}
use Rattle.ws_model.specs.declared.fate.Fate.TheVariants.{Owed, Ended}
use Rattle.ws_model.specs.declared.fate.Cause.TheVariants.{Expired}
use Rattle.ws_model.specs.declared.event.Event.{Event}
use Rattle.ws_model.specs.declared.fate.Cause.{Cause}
use Rattle.ws_model.specs.declared.fate.Fate.{Fate}
use Rattle.ws_model.specs.declared.lease.Lease.{Lease}
use Rattle.ws_laws.proofs.Advance.{is_owed_parts, owed_later_at}
use Rattle.ws_laws.proofs.Counts.{count_either, counted, or_false, untested}
use Rattle.ws_laws.proofs.Ended.{end_later, fate_stays}
use Rattle.ws_laws.proofs.ListLaws.{all_from, filter-filter, filter-map}
use Rattle.ws_laws.specs.Steps.{expiring, more, turned}
use Rattle.ws_model.specs.Account.{fated, first_or_zero, is_ended, most, tallied, tallies, tallies_of, total}
use Rattle.ws_model.specs.Fate.{Pair, fate, is_done, is_owed, is_push_of, misses, next}
use Rattle.ws_model.specs.History.{has}
use Rattle.ws_model.specs.Leases.{cause_of, confirmed_intent, expiry, first_end, lease_end}
use Rattle.ws_model.specs.Legal.{Legal}
use Rattle.ws_model.specs.Pairs.{owed, pairs}
use Rattle.ws_model.specs.View.{owed_push, view}

-- ---- a count that stops at the greatest that it can say

more_twice : (a c k m : ℕ) → min ((a + k) + c) m ≡ min (min (a + c) m + k) m
more_twice a c k m = omega arith

more_none : (a m : ℕ) → min (min a m + 0) m ≡ min a m
more_none a m = omega arith

-- ---- at a later moment

expired_by : (x u : ℕ) → nat_lt u x ≡ false → cond (nat_le x u) (Some Expired) None ≡ Some Expired
expired_by x u k = grind (arith, nat_tests)

cause_expired : (o : Option (ℕ × Cause)) (x t u : ℕ) → is_none (cause_of o x t) ≡ true → nat_lt u x ≡ false → cause_of o x u ≡ Some Expired
cause_expired None x t u n k = expired_by x u k
cause_expired (Some e) x t u n k = one (nat_lt e.0 x) n
  where
    one : (b : Bool) → is_none (cond b (Some e.1) (cond (nat_le x t) (Some Expired) None)) ≡ true → cond b (Some e.1) (cond (nat_le x u) (Some Expired) None) ≡ Some Expired
    one true n = absurd (false≢true n)
    one false n = expired_by x u k

pub fate_expired : (h : List Event) (p : Pair) (t u : ℕ) → is_owed (fate h p t) ≡ true → nat_lt u (expiry p.lease) ≡ false → fate h p u ≡ Ended Expired
fate_expired h p t u owed k =
    let parts = and_parts (not (has (is_push_of is_done p) h) && not (nat_le 8 (misses h p))) (is_none (lease_end h p.lease t)) (sym (is_owed_parts _ _ (lease_end h p.lease t) _) ∙ owed) in
    let first = and_parts (not (has (is_push_of is_done p) h)) (not (nat_le 8 (misses h p))) parts.0 in
    rw (not-true _ first.0, cause_expired (first_end h p.lease) (expiry p.lease) t u parts.1 k, not-true _ first.1)

pub fate_kept : (h : List Event) (p : Pair) (t u : ℕ) → t ≤ u → is_owed (fate h p t) ≡ false → fate h p u ≡ fate h p t
fate_kept h p t u le un =
    fate_stays (has (is_push_of is_done p) h) (misses h p) (lease_end h p.lease t) (lease_end h p.lease u) (next h p) (next h p)
    (λ k. end_later (first_end h p.lease) (expiry p.lease) t u le k) un

module _ (test : Fate → Bool) (un : (m n : ℕ) → test (Owed m n) ≡ false) where
  abbrev expires_so : ℕ → Lease → Bool
  expires_so u l = not (nat_lt u (expiry l)) && test (Ended Expired)

  abbrev IsCounted : List Event → ℕ → ℕ → Pair → Type 0
  IsCounted h t u p =
      (test (fate h p u) ≡ (test (fate h p t) || (is_owed (fate h p t) && expires_so u p.lease)))
      × (test (fate h p t) ≡ true → (is_owed (fate h p t) && expires_so u p.lease) ≡ false)

  counted_at : (h : List Event) (t u : ℕ) → t ≤ u → (p : Pair) → IsCounted h t u p
  counted_at h t u le p = by (is_owed (fate h p t)) refl
    where
      expires : (b : Bool) → nat_lt u (expiry p.lease) ≡ b → is_owed (fate h p t) ≡ true → test (fate h p u) ≡ (not b && test (Ended Expired))
      expires true e k = untested test un (fate h p u) (owed_later_at h p t u le ∙ ap (λ b. b && nat_lt u (expiry p.lease)) k ∙ e)
      expires false e k = ap test (fate_expired h p t u k e)

      by : (b : Bool) → is_owed (fate h p t) ≡ b → (test (fate h p u) ≡ (test (fate h p t) || (b && expires_so u p.lease))) × (test (fate h p t) ≡ true → (b && expires_so u p.lease) ≡ false)
      by true k = (
        expires (nat_lt u (expiry p.lease)) refl k ∙ ap (λ b. b || expires_so u p.lease) (sym (untested test un (fate h p t) k)),
        λ y. absurd (false≢true (sym (untested test un (fate h p t) k) ∙ y)),
      )
      by false k = (ap test (fate_kept h p t u le k) ∙ sym (or_false (test (fate h p t)) false refl), λ y. refl)

  fated_later : (h : List Event) (t u : ℕ) → t ≤ u → fated test h u ≡ fated test h t + length (filter (λ w. expires_so u w.lease) (map (owed_push h) (owed h t)))
  fated_later h t u le =
      count_either (λ p. test (fate h p u)) (λ p. test (fate h p t)) (λ p. is_owed (fate h p t) && expires_so u p.lease) (pairs h) (all_from (IsCounted h t u) (counted_at h t u le) (pairs h))
      ∙ ap (λ n. fated test h t + n)
      (ap length (filter-filter (λ p. is_owed (fate h p t) && expires_so u p.lease) (λ p. is_owed (fate h p t)) (λ p. expires_so u p.lease) (λ p. refl) (pairs h))
      ∙ sym (length-map (filter (λ p. expires_so u p.lease) (owed h t)) (owed_push h))
      ∙ ap length (sym (filter-map (owed_push h) (λ w. expires_so u w.lease) (owed h t))))

  pub total_later : (field : TallyFields → ℕ) (h : List Event) (t u : ℕ) → t ≤ u → total test field h u ≡ more (total test field h t) (length (filter (λ w. expires_so u w.lease) (map (owed_push h) (owed h t))))
  total_later field h t u le =
      ap (λ n. min (n + tallied field h) most) (fated_later h t u le)
      ∙ more_twice (fated test h t) (tallied field h) (length (filter (λ w. expires_so u w.lease) (map (owed_push h) (owed h t)))) most

  pub total_after : (field : TallyFields → ℕ) (h : List Event) (e : Event) → Legal (e ∷ h) → tallies_of e.what ≡ [] → total test field (e ∷ h) e.t ≡ more (total test field h e.t) (turned test e.t e.what (confirmed_intent e.what h) (view h e.t))
  total_after field h e l none =
      (λ i. min (counted test un h e l i + first_or_zero (map field (none i ++ tallies h))) most)
      ∙ more_twice (fated test h e.t) (tallied field h) (turned test e.t e.what (confirmed_intent e.what h) (view h e.t)) most

-- none passes a test that is never true
none_passes : {X : Type 0} (p : X → Bool) (xs : List X) → length (filter (λ x. p x && false) xs) ≡ 0
none_passes p [] = refl
none_passes p (x ∷ xs) = one (p x) (none_passes p xs)
  where
    one : (b : Bool) → length (filter (λ y. p y && false) xs) ≡ 0 → length (cond (b && false) (x ∷ filter (λ y. p y && false) xs) (filter (λ y. p y && false) xs)) ≡ 0
    one true r = r
    one false r = r

all_pass : {X : Type 0} (p : X → Bool) (xs : List X) → length (filter (λ x. p x && true) xs) ≡ length (filter p xs)
all_pass p [] = refl
all_pass p (x ∷ xs) = one (p x) (all_pass p xs)
  where
    one : (b : Bool) → length (filter (λ y. p y && true) xs) ≡ length (filter p xs) → length (cond (b && true) (x ∷ filter (λ y. p y && true) xs) (filter (λ y. p y && true) xs)) ≡ length (cond b (x ∷ filter p xs) (filter p xs))
    one true r = ap suc r
    one false r = r

-- a fate that no expiry makes is as often as before
pub unexpired_later : (test : Fate → Bool) → ((m n : ℕ) → test (Owed m n) ≡ false) → test (Ended Expired) ≡ false → (field : TallyFields → ℕ) (h : List Event) (t u : ℕ) → t ≤ u → total test field h u ≡ total test field h t
unexpired_later test un not_so field h t u le =
    total_later test un field h t u le
    ∙ ap (λ b. more (total test field h t) (length (filter (λ w. not (nat_lt u (expiry w.lease)) && b) (map (owed_push h) (owed h t))))) not_so
    ∙ ap (more (total test field h t)) (none_passes (λ w. not (nat_lt u (expiry w.lease))) (map (owed_push h) (owed h t)))
    ∙ more_none (fated test h t + tallied field h) most

pub expired_later_count : (h : List Event) (t u : ℕ) → t ≤ u → total (is_ended Expired) (λ c. c.expired) h u ≡ more (total (is_ended Expired) (λ c. c.expired) h t) (expiring (view h t) u)
expired_later_count h t u le =
    total_later (is_ended Expired) (λ m n. refl) (λ c. c.expired) h t u le
    ∙ ap (more (total (is_ended Expired) (λ c. c.expired) h t)) (all_pass (λ w. not (nat_lt u (expiry w.lease))) (map (owed_push h) (owed h t)))
