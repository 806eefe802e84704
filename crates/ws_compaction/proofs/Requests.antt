-- The pending intents and the owed notices of what is kept.
use Rattle.std.proofs.Common.{◌≡◌, ℕ, suc, ◌≤◌, Bool, true, false, cond, not, ◌||◌, List, [], ◌∷◌, refl, ap, sym, ◌∙◌, subst, arith, inl, inr, ◌⊎◌}
use Rattle.std.specs.Prelude.{map, filter, nat_lt, ◌==◌}
use Rattle.std.specs.List.{AllByRecursion}
use Rattle.std.proofs.lemmas.Bool.Decides.{nat_tests}
use Rattle.std.proofs.lemmas.Bool.{and_from, and_parts, eqb-true, false_from_ne_true, false≢true, not-true, or_cases, or_left, or_parts, or_right}
use Rattle.ws_model.specs.declared.event.Event.{Event}
use Rattle.ws_model.specs.declared.event.Intent.{Intent}
use Rattle.ws_model.specs.declared.event.Tally.{Tally as TallyFields}
use Rattle.ws_model.specs.declared.event.What.{What}
use Rattle.ws_model.specs.declared.event.What.TheVariants.{Confirmed, Unheard, Barred, Noticed, Revoked}
use Rattle.ws_compaction.proofs.Choice.{asked_kept, choice, kept_of, lease_in, request_in}
use Rattle.ws_compaction.proofs.Looks.{Unlost, has_less, has_more, has_none, has_same, none_in, times_le, times_same}
use Rattle.ws_compaction.proofs.Shrunk.{filter_swap}
use Rattle.ws_laws.proofs.Denied.{is_barred, is_revoked, pending_named}
use Rattle.ws_laws.proofs.Known.{allowed}
use Rattle.ws_laws.proofs.ListLaws.{all_filter_with, all_from, all_weaker, filter_all, map_same}
use Rattle.ws_model.specs.History.{has, times}
use Rattle.ws_model.specs.Intents.{asked, is_denied, is_noticed, is_owed_notice, is_owed_notice_number, is_pending, is_pending_number, is_settled, is_unheard, notices, pending}
use Rattle.ws_model.specs.Leases.{is_confirmed}
use Rattle.ws_model.specs.Legal.{accepts, is_allowed, is_confirmable, is_on_one}
use Rattle.ws_model.specs.View.{owed_notice, reason_in, reason_of, waiting}

-- ---- what is pending was pending before

fewer : (b : Bool) (m : ℕ) → nat_lt (cond b (suc m) m) 3 ≡ true → nat_lt m 3 ≡ true
fewer true m k = grind (arith, nat_tests)
fewer false m k = k

pub pending_before : (e : Event) (g : List Event) (n : ℕ) → is_pending_number (e ∷ g) n ≡ true → is_pending_number g n ≡ true
pending_before e g n k =
    let parts = and_parts (not (is_settled n e.what || has (is_settled n) g)) (nat_lt (cond (is_unheard n e.what) (suc (times (is_unheard n) g)) (times (is_unheard n) g)) 3) k in
    let none = or_parts (is_settled n e.what) (has (is_settled n) g) (not-true _ parts.0) in
    rw none.1 (fewer (is_unheard n e.what) (times (is_unheard n) g) parts.1)

-- what is confirmed or barred was pending
confirms_at : (w : What) (t : ℕ) (g : List Event) (n : ℕ) → is_allowed w t g ≡ true → is_confirmed n w ≡ true → is_pending_number g n ≡ true
confirms_at (Confirmed m sent) t g n ok k = subst (λ x. is_pending_number g x ≡ true) (eqb-true m n k) (pending_named (is_confirmable g sent t) refl g m ok)
confirms_at _ t g n ok k = absurd (false≢true k)

bars_at : (w : What) (t : ℕ) (g : List Event) (n : ℕ) → is_allowed w t g ≡ true → is_barred n w ≡ true → is_pending_number g n ≡ true
bars_at (Barred m reason) t g n ok k = subst (λ x. is_pending_number g x ≡ true) (eqb-true m n k) (pending_named is_on_one refl g m ok)
bars_at _ t g n ok k = absurd (false≢true k)

confirmed_settled : (n : ℕ) (w : What) → is_confirmed n w ≡ true → is_settled n w ≡ true
confirmed_settled n (Confirmed m sent) k = k
confirmed_settled n _ k = absurd (false≢true k)

barred_settled : (n : ℕ) (w : What) → is_barred n w ≡ true → is_settled n w ≡ true
barred_settled n (Barred m reason) k = k
barred_settled n _ k = absurd (false≢true k)

module _ (tallied : TallyFields) (pending_in noticed_in version_in : ℕ → Bool) (kept_numbers : List ℕ) (ping_in miss_in : Event → List ℕ → Bool) where
  abbrev leases_in : ℕ → Bool
  leases_in n = lease_in tallied pending_in noticed_in version_in kept_numbers ping_in miss_in n

  abbrev requests_in : ℕ → Bool
  requests_in n = request_in tallied pending_in noticed_in version_in kept_numbers ping_in miss_in n

  abbrev choose : Event → What → Bool
  choose e w = choice tallied pending_in noticed_in version_in kept_numbers ping_in miss_in e w

  abbrev passes : Event → Bool
  passes e = choose e e.what

  abbrev kept : List Event → List Event
  kept g = kept_of tallied pending_in noticed_in version_in kept_numbers ping_in miss_in g

  -- ---- the standing of a kept request at a point of the history

  abbrev pub WasPending : List Event → ℕ → Type 0
  WasPending g n = (pending_in n ≡ true) × (has (is_settled n) g ≡ false)

  abbrev pub WasConfirmed : List Event → ℕ → Type 0
  WasConfirmed g n = (leases_in n ≡ true) × ((has (is_confirmed n) g ≡ true) ⊎ (is_pending_number g n ≡ true))

  abbrev pub WasBarred : List Event → ℕ → Type 0
  WasBarred g n = (noticed_in n ≡ true) × ((has (is_barred n) g ≡ true) ⊎ (is_pending_number g n ≡ true))

  abbrev pub IsStanding : List Event → ℕ → Type 0
  IsStanding g n = WasPending g n ⊎ (WasConfirmed g n ⊎ WasBarred g n)

  abbrev pub AreStanding : List Event → Type 0
  AreStanding g = (n : ℕ) → requests_in n ≡ true → IsStanding g n

  confirmed_before : (e : Event) (g : List Event) (n : ℕ) → accepts g e ≡ true → (has (is_confirmed n) (e ∷ g) ≡ true) ⊎ (is_pending_number (e ∷ g) n ≡ true) → (has (is_confirmed n) g ≡ true) ⊎ (is_pending_number g n ≡ true)
  confirmed_before e g n k (inl c) = elim (or_cases (is_confirmed n e.what) (has (is_confirmed n) g) c) [
    | inl now ↦ inr (confirms_at e.what e.t g n (allowed g e k) now)
    | inr old ↦ inl old
  ]
  confirmed_before e g n k (inr p) = inr (pending_before e g n p)

  barred_before : (e : Event) (g : List Event) (n : ℕ) → accepts g e ≡ true → (has (is_barred n) (e ∷ g) ≡ true) ⊎ (is_pending_number (e ∷ g) n ≡ true) → (has (is_barred n) g ≡ true) ⊎ (is_pending_number g n ≡ true)
  barred_before e g n k (inl c) = elim (or_cases (is_barred n e.what) (has (is_barred n) g) c) [
    | inl now ↦ inr (bars_at e.what e.t g n (allowed g e k) now)
    | inr old ↦ inl old
  ]
  barred_before e g n k (inr p) = inr (pending_before e g n p)

  standing_at : (e : Event) (g : List Event) (n : ℕ) → accepts g e ≡ true → IsStanding (e ∷ g) n → IsStanding g n
  standing_at e g n k (inl p) = inl (p.0, (or_parts (is_settled n e.what) (has (is_settled n) g) p.1).1)
  standing_at e g n k (inr (inl c)) = inr (inl (c.0, confirmed_before e g n k c.1))
  standing_at e g n k (inr (inr b)) = inr (inr (b.0, barred_before e g n k b.1))

  pub standing_before : (e : Event) (g : List Event) → accepts g e ≡ true → AreStanding (e ∷ g) → AreStanding g
  standing_before e g k s n r = standing_at e g n k (s n r)

  -- ---- pending intents

  unheard_chosen : (n : ℕ) → pending_in n ≡ true → (e : Event) (w : What) → choose e w ≡ false → is_unheard n w ≡ false
  unheard_chosen n p e (Unheard m) k = false_from_ne_true _ (λ y. false≢true (sym k ∙ ap pending_in (eqb-true m n y) ∙ p))
  unheard_chosen n p e _ k = refl

  confirmed_chosen : (n : ℕ) → leases_in n ≡ true → (e : Event) (w : What) → choose e w ≡ false → is_confirmed n w ≡ false
  confirmed_chosen n p e (Confirmed m sent) k = false_from_ne_true _ (λ y. false≢true (sym k ∙ ap leases_in (eqb-true m n y) ∙ p))
  confirmed_chosen n p e _ k = refl

  barred_chosen : (n : ℕ) → noticed_in n ≡ true → (e : Event) (w : What) → choose e w ≡ false → is_barred n w ≡ false
  barred_chosen n p e (Barred m reason) k = false_from_ne_true _ (λ y. false≢true (sym k ∙ ap noticed_in (eqb-true m n y) ∙ p))
  barred_chosen n p e _ k = refl

  -- a test that no event fails to pass where it isn't chosen
  unlost : (q : What → Bool) → ((e : Event) (w : What) → choose e w ≡ false → q w ≡ false) → (g : List Event) → Unlost tallied passes leases_in version_in q g
  unlost q f g = all_from (λ (e : Event). passes e ≡ false → q e.what ≡ false) (λ e k. f e e.what k) g

  times_unheard : (g : List Event) (n : ℕ) → pending_in n ≡ true → times (is_unheard n) (kept g) ≡ times (is_unheard n) g
  times_unheard g n p = times_same tallied passes leases_in version_in (is_unheard n) refl g (unlost (is_unheard n) (unheard_chosen n p) g)

  settled_pending : (g : List Event) (n : ℕ) → has (is_settled n) g ≡ true → is_pending_number g n ≡ false
  settled_pending g n k = rw k

  few : (a b : ℕ) → a ≤ b → nat_lt b 3 ≡ true → nat_lt a 3 ≡ true
  few a b le k = grind (arith, nat_tests)

  -- pending still, where it was pending
  still_pending : (g : List Event) (n : ℕ) → is_pending_number g n ≡ true → is_pending_number (kept g) n ≡ true
  still_pending g n p =
      let parts = and_parts (not (has (is_settled n) g)) (nat_lt (times (is_unheard n) g) 3) p in
      and_from _ _
      (ap not (has_less tallied passes leases_in version_in (is_settled n) refl g (not-true _ parts.0)))
      (few (times (is_unheard n) (kept g)) (times (is_unheard n) g) (times_le tallied passes leases_in version_in (is_unheard n) refl g) parts.1)

  pending_number_at : (g : List Event) (n : ℕ) → IsStanding g n → is_pending_number (kept g) n ≡ is_pending_number g n
  pending_number_at g n (inl p) = rw (p.1, has_less tallied passes leases_in version_in (is_settled n) refl g p.1, times_unheard g n p.0)
  pending_number_at g n (inr (inl c)) = elim c.1 [
    | inl k ↦
        settled_pending (kept g) n (has_more (is_confirmed n) (is_settled n) (confirmed_settled n) (kept g) (has_same tallied passes leases_in version_in (is_confirmed n) refl g (unlost (is_confirmed n) (confirmed_chosen n c.0) g) ∙ k))
        ∙ sym (settled_pending g n (has_more (is_confirmed n) (is_settled n) (confirmed_settled n) g k))
    | inr p ↦ still_pending g n p ∙ sym p
  ]
  pending_number_at g n (inr (inr b)) = elim b.1 [
    | inl k ↦
        settled_pending (kept g) n (has_more (is_barred n) (is_settled n) (barred_settled n) (kept g) (has_same tallied passes leases_in version_in (is_barred n) refl g (unlost (is_barred n) (barred_chosen n b.0) g) ∙ k))
        ∙ sym (settled_pending g n (has_more (is_barred n) (is_settled n) (barred_settled n) g k))
    | inr p ↦ still_pending g n p ∙ sym p
  ]

  pub pending_number_kept : (g : List Event) → AreStanding g → (n : ℕ) → requests_in n ≡ true → is_pending_number (kept g) n ≡ is_pending_number g n
  pending_number_kept g s n r = pending_number_at g n (s n r)

  pub pending_kept : (g : List Event) → AreStanding g → pending (kept g) ≡ filter (λ i. requests_in i.n) (pending g)
  pending_kept g s =
      ap (filter (is_pending (kept g))) (asked_kept tallied pending_in noticed_in version_in kept_numbers ping_in miss_in g)
      ∙ filter_swap (is_pending (kept g)) (λ i. requests_in i.n) (is_pending g) (asked g)
      (all_from (λ (i : Intent). requests_in i.n ≡ true → is_pending (kept g) i ≡ is_pending g i) (λ i r. pending_number_kept g s i.n r) (asked g))

  -- where all that is pending is kept
  pub waiting_same : (h : List Event) → AreStanding h → AllByRecursion (λ (i : Intent). pending_in i.n ≡ true) (pending h) → map (waiting (kept h)) (pending (kept h)) ≡ map (waiting h) (pending h)
  waiting_same h s a =
      ap (map (waiting (kept h))) (pending_kept h s ∙ filter_all (λ i. requests_in i.n) (pending h) (all_weaker (λ (i : Intent). pending_in i.n ≡ true) (λ i. requests_in i.n ≡ true) (λ i p. or_left _ (leases_in i.n) (or_left _ (noticed_in i.n) p)) (pending h) a))
      ∙ map_same (waiting (kept h)) (waiting h) (pending h) (all_weaker (λ (i : Intent). pending_in i.n ≡ true) (λ i. waiting (kept h) i ≡ waiting h i) (λ i p j. record { intent = i; unheard = times_unheard h i.n p j }) (pending h) a)

  -- ---- owed notices

  -- a request with an owed notice is a kept lease, or wasn't revoked
  abbrev pub AreNoticed : List Event → Type 0
  AreNoticed g = (n : ℕ) → noticed_in n ≡ true → (leases_in n ≡ true) ⊎ (has (is_revoked n) g ≡ false)

  pub noticed_before : (e : Event) (g : List Event) → AreNoticed (e ∷ g) → AreNoticed g
  noticed_before e g s n k = elim (s n k) [ inl l ↦ inl l | inr r ↦ inr (or_parts (is_revoked n e.what) (has (is_revoked n) g) r).1 ]

  denied_chosen : (n : ℕ) → noticed_in n ≡ true → (e : Event) (w : What) → (leases_in n ≡ true) ⊎ (is_revoked n w ≡ false) → choose e w ≡ false → is_denied n w ≡ false
  denied_chosen n p e (Barred m reason) r k = false_from_ne_true _ (λ y. false≢true (sym k ∙ ap noticed_in (eqb-true m n y) ∙ p))
  denied_chosen n p e (Revoked m reason) (inl l) k = false_from_ne_true _ (λ y. false≢true (sym k ∙ ap leases_in (eqb-true m n y) ∙ l))
  denied_chosen n p e (Revoked m reason) (inr r) k = r
  denied_chosen n p e _ r k = refl

  noticed_chosen : (n : ℕ) (b : Bool) → noticed_in n ≡ true → (e : Event) (w : What) → choose e w ≡ false → is_noticed n b w ≡ false
  noticed_chosen n b p e (Noticed m heard) k = false_from_ne_true _ (λ y. false≢true (sym k ∙ ap noticed_in (eqb-true m n (and_parts (m == n) (cond b heard (not heard)) y).0) ∙ p))
  noticed_chosen n b p e _ k = refl

  denied_unlost : (g : List Event) (n : ℕ) → noticed_in n ≡ true → (leases_in n ≡ true) ⊎ (has (is_revoked n) g ≡ false) → Unlost tallied passes leases_in version_in (is_denied n) g
  denied_unlost g n p (inl l) = unlost (is_denied n) (λ e w k. denied_chosen n p e w (inl l) k) g
  denied_unlost g n p (inr r) = all_weaker (λ (e : Event). is_revoked n e.what ≡ false) (λ (e : Event). passes e ≡ false → is_denied n e.what ≡ false) (λ e u k. denied_chosen n p e e.what (inr u) k) g (none_in (is_revoked n) g r)

  times_noticed : (g : List Event) (n : ℕ) (b : Bool) → noticed_in n ≡ true → times (is_noticed n b) (kept g) ≡ times (is_noticed n b) g
  times_noticed g n b p = times_same tallied passes leases_in version_in (is_noticed n b) refl g (unlost (is_noticed n b) (noticed_chosen n b p) g)

  pub notice_number_kept : (g : List Event) → AreNoticed g → (n : ℕ) → noticed_in n ≡ true → is_owed_notice_number (kept g) n ≡ is_owed_notice_number g n
  notice_number_kept g s n p =
      rw (
        has_same tallied passes leases_in version_in (is_denied n) refl g (denied_unlost g n p (s n p)),
        has_same tallied passes leases_in version_in (is_noticed n true) refl g (unlost (is_noticed n true) (noticed_chosen n true p) g),
        times_noticed g n false p,
      )

  undenied_says : (n : ℕ) (w : What) (rest : List ℕ) → is_denied n w ≡ false → reason_in n w rest ≡ rest
  undenied_says n (Barred m reason) rest k = rw k
  undenied_says n (Revoked m reason) rest k = rw k
  undenied_says n _ rest k = refl

  reason_kept : (n : ℕ) (g : List Event) → Unlost tallied passes leases_in version_in (is_denied n) g → reason_of n (kept g) ≡ reason_of n g
  reason_kept n [] u = refl
  reason_kept n (e ∷ g) u = one (passes e) refl (reason_kept n g u.1)
    where
      one : (b : Bool) → passes e ≡ b → reason_of n (kept g) ≡ reason_of n g → reason_of n (cond b (e ∷ kept g) (kept g)) ≡ reason_in n e.what (reason_of n g)
      one true k r = ap (reason_in n e.what) r
      one false k r = r ∙ sym (undenied_says n e.what (reason_of n g) (u.0 k))

  notice_same : (g : List Event) → AreNoticed g → (i : Intent) → noticed_in i.n ≡ true → owed_notice (kept g) i ≡ owed_notice g i
  notice_same g s i p j = record { intent = i; reason = reason_kept i.n g (denied_unlost g i.n p (s i.n p)) j; unheard = times_noticed g i.n false p j }

  barred_left : (n : ℕ) → noticed_in n ≡ false → (e : Event) (w : What) → is_barred n w ≡ true → choose e w ≡ false
  barred_left n p e (Barred m reason) k = ap noticed_in (eqb-true m n k) ∙ p
  barred_left n p e _ k = absurd (false≢true k)

  revoked_left : (n : ℕ) → leases_in n ≡ false → (e : Event) (w : What) → is_revoked n w ≡ true → choose e w ≡ false
  revoked_left n p e (Revoked m reason) k = ap leases_in (eqb-true m n k) ∙ p
  revoked_left n p e _ k = absurd (false≢true k)

  denied_parts : (n : ℕ) (w : What) → is_denied n w ≡ true → (is_barred n w ≡ true) ⊎ (is_revoked n w ≡ true)
  denied_parts n (Barred m reason) k = inl k
  denied_parts n (Revoked m reason) k = inr k
  denied_parts n _ k = absurd (false≢true k)

  undenied : (g : List Event) (n : ℕ) → has (is_barred n) g ≡ false → has (is_revoked n) g ≡ false → has (is_denied n) g ≡ false
  undenied [] n b r = refl
  undenied (e ∷ g) n b r =
      let x = or_parts (is_barred n e.what) (has (is_barred n) g) b in
      let y = or_parts (is_revoked n e.what) (has (is_revoked n) g) r in
      false_from_ne_true _ (λ d. elim (or_cases (is_denied n e.what) (has (is_denied n) g) d) [
        | inl now ↦ elim (denied_parts n e.what now) [ inl z ↦ false≢true (sym x.0 ∙ z) | inr z ↦ false≢true (sym y.0 ∙ z) ]
        | inr old ↦ false≢true (sym (undenied g n x.1 y.1) ∙ old)
      ])

  -- a kept lease without an owed notice wasn't revoked
  abbrev pub AreUnrevoked : List Event → Type 0
  AreUnrevoked g = (n : ℕ) → leases_in n ≡ true → noticed_in n ≡ false → has (is_revoked n) g ≡ false

  undenied_kept : (g : List Event) → AreUnrevoked g → (n : ℕ) → noticed_in n ≡ false → has (is_denied n) (kept g) ≡ false
  undenied_kept g u n p = undenied (kept g) n (has_none tallied passes leases_in version_in (is_barred n) refl g (λ e k. barred_left n p e e.what k)) (by (leases_in n) refl)
    where
      by : (b : Bool) → leases_in n ≡ b → has (is_revoked n) (kept g) ≡ false
      by true k = has_less tallied passes leases_in version_in (is_revoked n) refl g (u n k p)
      by false k = has_none tallied passes leases_in version_in (is_revoked n) refl g (λ e r. revoked_left n k e e.what r)

  -- where all owed notices are kept
  pub notices_same : (h : List Event) → AreNoticed h → AreUnrevoked h → AllByRecursion (λ (i : Intent). is_owed_notice h i ≡ true → noticed_in i.n ≡ true) (asked h) → map (owed_notice (kept h)) (notices (kept h)) ≡ map (owed_notice h) (notices h)
  notices_same h s u a =
      ap (map (owed_notice (kept h)))
      (ap (filter (is_owed_notice (kept h))) (asked_kept tallied pending_in noticed_in version_in kept_numbers ping_in miss_in h)
      ∙ filter_swap (is_owed_notice (kept h)) (λ i. requests_in i.n) (is_owed_notice h) (asked h)
      (all_weaker (λ (i : Intent). is_owed_notice h i ≡ true → noticed_in i.n ≡ true) (λ (i : Intent). requests_in i.n ≡ true → is_owed_notice (kept h) i ≡ is_owed_notice h i) (λ i f r. same i f (noticed_in i.n) refl) (asked h) a)
      ∙ filter_all (λ i. requests_in i.n) (notices h) (all_weaker (λ (i : Intent). noticed_in i.n ≡ true) (λ i. requests_in i.n ≡ true) (λ i p. or_left _ (leases_in i.n) (or_right (pending_in i.n) _ p)) (notices h) owed_in))
      ∙ map_same (owed_notice (kept h)) (owed_notice h) (notices h) (all_weaker (λ (i : Intent). noticed_in i.n ≡ true) (λ i. owed_notice (kept h) i ≡ owed_notice h i) (λ i p. notice_same h s i p) (notices h) owed_in)
    where
      same : (i : Intent) → (is_owed_notice h i ≡ true → noticed_in i.n ≡ true) → (b : Bool) → noticed_in i.n ≡ b → is_owed_notice (kept h) i ≡ is_owed_notice h i
      same i f true p = notice_number_kept h s i.n p
      same i f false p = rw (undenied_kept h u i.n p) (sym (false_from_ne_true _ (λ y. false≢true (sym p ∙ f y))))

      owed_in : AllByRecursion (λ (i : Intent). noticed_in i.n ≡ true) (notices h)
      owed_in =
          all_weaker (λ (i : Intent). (is_owed_notice h i ≡ true → noticed_in i.n ≡ true) × (is_owed_notice h i ≡ true)) (λ (i : Intent). noticed_in i.n ≡ true) (λ i k. k.0 k.1) (notices h)
          (all_filter_with (λ (i : Intent). is_owed_notice h i ≡ true → noticed_in i.n ≡ true) (is_owed_notice h) (asked h) a)
