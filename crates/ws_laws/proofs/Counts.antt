-- The numbers of pairs by their fates.
use Rattle.std.proofs.Common.{◌≡◌, ℕ, ◌+◌, ◌≤◌, Bool, true, false, cond, not, ◌&&◌, ◌||◌, List, [], ◌∷◌, ◌++◌, refl, ap, sym, ◌∙◌, arith, length}
use Rattle.std.specs.Prelude.{nat_lt, nat_le, is_none, Option, Some, None, map, filter}
use Rattle.std.specs.List.{AllByRecursion}
use Rattle.std.proofs.lemmas.Bool.{false≢true, and_parts, not-true}
use Rattle.std.proofs.lemmas.Bool.Decides.{nat_tests}
use Rattle.std.proofs.lemmas.List.{length-map}
use Rattle.ws_model.specs.declared.event.Event.{Event}
use Rattle.ws_model.specs.declared.fate.Cause.{Cause}
use Rattle.ws_model.specs.declared.fate.Cause.TheVariants.{Expired}
use Rattle.ws_model.specs.declared.fate.Fate.{Fate}
use Rattle.ws_model.specs.declared.fate.Fate.TheVariants.{Owed, Ended, Answered}
use Rattle.ws_laws.proofs.Advance.{is_owed_parts}
use Rattle.ws_laws.proofs.Ended.{IsToldPair, both_true, one_more, pairs_told}
use Rattle.ws_laws.proofs.Known.{IsKnown, allowed, in_time, pairs_known}
use Rattle.ws_laws.proofs.ListLaws.{all_weaker, filter-filter, filter-map}
use Rattle.ws_laws.proofs.Step.{EndsBy, IsUntried, births_untried, ended_before, ends_later, first_end_le, owing_step}
use Rattle.ws_laws.specs.Steps.{turn}
use Rattle.ws_model.specs.Account.{fated}
use Rattle.ws_model.specs.Fate.{Pair, fate, fate_by, is_done, is_owed, is_push, misses}
use Rattle.ws_model.specs.History.{has}
use Rattle.ws_model.specs.Leases.{cause_of, confirmed_intent, end_by, expiry, first_end, lease_end, live, or_else, stamped}
use Rattle.ws_model.specs.Legal.{Legal}
use Rattle.ws_model.specs.Moment.{last_time}
use Rattle.ws_model.specs.Pairs.{births, owed, pairs}
use Rattle.ws_model.specs.View.{owed_push}

pub either : {X : Type 0} (b c : Bool) (x : X) (ps qs rs : List X) → (b ≡ true → c ≡ false) → length ps ≡ length qs + length rs → length (cond (b || c) (x ∷ ps) ps) ≡ length (cond b (x ∷ qs) qs) + length (cond c (x ∷ rs) rs)
either true true x ps qs rs f e = absurd (false≢true (sym (f refl)))
either true false x ps qs rs f e = omega arith
either false true x ps qs rs f e = omega arith
either false false x ps qs rs f e = e

-- counting what passes one of two tests that never pass together
pub count_either : {X : Type 0} (p q r : X → Bool) (xs : List X) → AllByRecursion (λ x. (p x ≡ (q x || r x)) × (q x ≡ true → r x ≡ false)) xs → length (filter p xs) ≡ length (filter q xs) + length (filter r xs)
count_either p q r [] a = omega arith
count_either p q r (x ∷ xs) a = rw a.0.0 (either (q x) (r x) x (filter p xs) (filter q xs) (filter r xs) a.0.1 (count_either p q r xs a.1))

pub none_is : {X : Type 0} (o : Option X) → is_none o ≡ true → o ≡ None
none_is None e = refl
none_is (Some x) e = absurd (false≢true e)

ends_it : (x t : ℕ) (c : Cause) → is_none (cond (nat_le x t) (Some Expired) None) ≡ true → cond (nat_lt t x) (Some c) (cond (nat_le x t) (Some Expired) None) ≡ Some c
ends_it x t c n = grind (arith, nat_tests)

pub cause_now : (o : Option (ℕ × Cause)) (x t : ℕ) (c : Option Cause) → EndsBy t o → is_none (cause_of o x t) ≡ true → cause_of (or_else o (stamped t c)) x t ≡ c
cause_now None x t None k n = none_is _ n
cause_now None x t (Some c) k n = ends_it x t c n
cause_now (Some a) x t c k n = absurd (false≢true (sym (ended_before a.0 x t a.1 k) ∙ n))

pub or_false : (b c : Bool) → c ≡ false → (b || c) ≡ b
or_false true c e = refl
or_false false c e = e

-- an owed pair after the event
pub turned_at : (e : Event) (h : List Event) (p : Pair) → last_time h ≤ e.t → IsKnown h p → is_owed (fate h p e.t) ≡ true → fate (e ∷ h) p e.t ≡ turn e.t e.what (confirmed_intent e.what h) (owed_push h p)
turned_at e h p le known k =
    let parts = and_parts (not (has (is_push is_done p.version.ver p.lease.intent.n) h) && not (nat_le 8 (misses h p))) (is_none (lease_end h p.lease e.t)) (sym (is_owed_parts _ _ (lease_end h p.lease e.t) _) ∙ k) in
    let undone : has (is_push is_done p.version.ver p.lease.intent.n) h ≡ false = not-true _ (and_parts (not (has (is_push is_done p.version.ver p.lease.intent.n) h)) _ parts.0).0 in
    let done : has (is_push is_done p.version.ver p.lease.intent.n) (e ∷ h) ≡ is_push is_done p.version.ver p.lease.intent.n e.what = or_false (is_push is_done p.version.ver p.lease.intent.n e.what) (has (is_push is_done p.version.ver p.lease.intent.n) h) undone in
    let cause : lease_end (e ∷ h) p.lease e.t ≡ end_by e.what (confirmed_intent e.what h) p.lease =
    rw known.confirmed (cause_now (first_end h p.lease) (expiry p.lease) e.t (end_by e.what (confirmed_intent e.what h) p.lease) (ends_later (last_time h) e.t _ le (first_end_le h p.lease)) parts.1) in
    λ i. fate_by (done i) (misses (e ∷ h) p) (cause i) ((owing_step e h p i).next)

module _ (test : Fate → Bool) (un : (m n : ℕ) → test (Owed m n) ≡ false) where
  pub untested : (f : Fate) → is_owed f ≡ true → test f ≡ false
  untested Answered k = absurd (false≢true k)
  untested (Owed m n) k = un m n
  untested (Ended c) k = absurd (false≢true k)

  none_of : {X : Type 0} (p : X → Bool) (xs ys : List X) → AllByRecursion (λ x. p x ≡ false) xs → filter p (xs ++ ys) ≡ filter p ys
  none_of p [] ys a = refl
  none_of p (x ∷ xs) ys a = rw a.0 (none_of p xs ys a.1)

  at_pair : (e : Event) (h : List Event) (p : Pair) → Legal (e ∷ h) → IsKnown h p → IsToldPair h p
      → (test (fate (e ∷ h) p e.t) ≡ (test (fate h p e.t) || (is_owed (fate h p e.t) && test (turn e.t e.what (confirmed_intent e.what h) (owed_push h p))))) × (test (fate h p e.t) ≡ true → (is_owed (fate h p e.t) && test (turn e.t e.what (confirmed_intent e.what h) (owed_push h p))) ≡ false)
  at_pair e h p l known told = by (is_owed (fate h p e.t)) refl
    where
      by : (b : Bool) → is_owed (fate h p e.t) ≡ b → (test (fate (e ∷ h) p e.t) ≡ (test (fate h p e.t) || (b && test (turn e.t e.what (confirmed_intent e.what h) (owed_push h p))))) × (test (fate h p e.t) ≡ true → (b && test (turn e.t e.what (confirmed_intent e.what h) (owed_push h p))) ≡ false)
      by true k = (ap test (turned_at e h p (in_time h e l.1) known k) ∙ ap (λ b. b || test (turn e.t e.what (confirmed_intent e.what h) (owed_push h p))) (sym (untested (fate h p e.t) k)), λ y. absurd (false≢true (sym (untested (fate h p e.t) k) ∙ y)))
      by false k = (ap test (one_more e h p e.t e.t l (omega arith) (omega arith) told k) ∙ sym (or_false (test (fate h p e.t)) false refl), λ y. refl)

  pub counted : (h : List Event) (e : Event) → Legal (e ∷ h) → fated test (e ∷ h) e.t ≡ fated test h e.t + length (filter (λ w. test (turn e.t e.what (confirmed_intent e.what h) w)) (map (owed_push h) (owed h e.t)))
  counted h e l =
      let bs : List Pair = births e.t e.what (confirmed_intent e.what h) (live h e.t) (owed h e.t) in
      let g : Pair → Bool = λ p. test (turn e.t e.what (confirmed_intent e.what h) (owed_push h p)) in
      ap length (none_of (λ p. test (fate (e ∷ h) p e.t)) bs (pairs h) (all_weaker (IsUntried e h) (λ p. test (fate (e ∷ h) p e.t) ≡ false) (λ p u. untested _ u.owed) bs (births_untried e.what e.serial e.t h l.0 (in_time h e l.1) (allowed h e l.1))))
      ∙ count_either (λ p. test (fate (e ∷ h) p e.t)) (λ p. test (fate h p e.t)) (λ p. is_owed (fate h p e.t) && g p) (pairs h)
      (all_weaker (λ p. IsKnown h p × IsToldPair h p) _ (λ p k. at_pair e h p l k.0 k.1) (pairs h) (both_true (IsKnown h) (IsToldPair h) (pairs h) (pairs_known h) (pairs_told h l.0)))
      ∙ ap (λ n. fated test h e.t + n)
      (ap length (filter-filter (λ p. is_owed (fate h p e.t) && g p) (λ p. is_owed (fate h p e.t)) g (λ p. refl) (pairs h))
      ∙ sym (length-map (filter g (owed h e.t)) (owed_push h))
      ∙ ap length (sym (filter-map (owed_push h) (λ w. test (turn e.t e.what (confirmed_intent e.what h) w)) (owed h e.t))))
