-- Which pairs went over.
use Rattle.std.proofs.Common.{◌≡◌, ℕ, ◌≤◌, ◌<◌, suc, Bool, true, false, cond, not, ◌&&◌, ◌||◌, List, [], ◌∷◌, ◌++◌, refl, ap, sym, ◌∙◌, subst, arith, inl, inr, Option, Some, None}
use Rattle.std.specs.Prelude.{nat_lt, nat_le, is_none, is_some, find, filter, map, ◌==◌}
use Rattle.std.specs.List.{AllByRecursion, list_any}
use Rattle.std.proofs.lemmas.Bool.{and_from, and_parts, eqb-true, false≢true, false_from_ne_true, not-true, or_cases, or_from, or_left, or_right}
use Rattle.std.proofs.lemmas.Bool.Decides.{nat_tests}
use Rattle.std.proofs.lemmas.List.Folds.{list_any-append}
use Rattle.ws_model.specs.declared.event.Event.{Event}
use Rattle.ws_model.specs.declared.event.How.{How}
use Rattle.ws_model.specs.declared.event.How.TheVariants.{Done, Gone, Missed}
use Rattle.ws_model.specs.declared.event.Intent.{Intent}
use Rattle.ws_model.specs.declared.event.Mode.{Mode}
use Rattle.ws_model.specs.declared.event.Mode.TheVariants.{On, Off}
use Rattle.ws_model.specs.declared.event.What.{What}
use Rattle.ws_model.specs.declared.event.What.TheVariants.{Confirmed, Pushed, Revoked}
use Rattle.ws_model.specs.declared.fate.Cause.{Cause}
use Rattle.ws_model.specs.declared.fate.Cause.TheVariants.{Expired, Unsubscribed, Replaced, Gone as LeaseGone, Revoked as LeaseRevoked, Spent}
use Rattle.ws_model.specs.declared.fate.Fate.{Fate}
use Rattle.ws_model.specs.declared.fate.Fate.TheVariants.{Ended, Owed}
use Rattle.ws_model.specs.declared.lease.Lease.{Lease}
use Rattle.ws_model.specs.Fate.{Pair, fate, fate_by, is_done, is_miss, is_owed, is_push, misses}
use Rattle.ws_model.specs.History.{has}
use Rattle.ws_model.specs.Intents.{same_pair}
use Rattle.ws_model.specs.Leases.{confirmed_intent, end_by, end_by_mode, expiry, is_on, lease_end, lease_of, live}
use Rattle.ws_model.specs.Legal.{Legal}
use Rattle.ws_model.specs.Moment.{last_time}
use Rattle.ws_model.specs.Pairs.{births, owed, pairs}
use Rattle.ws_model.specs.View.{owed_push}
use Rattle.ws_laws.specs.Steps.{turn}
use Rattle.ws_laws.proofs.Accounts.{fate_expired, fate_kept}
use Rattle.ws_laws.proofs.Advance.{is_owed_parts, owed_later_at}
use Rattle.ws_laws.proofs.Counts.{turned_at}
use Rattle.ws_laws.proofs.Ended.{IsToldPair, both_true, one_more, pairs_told}
use Rattle.ws_laws.proofs.Known.{IsKnown, allowed, in_time, itself, pairs_known}
use Rattle.ws_laws.proofs.ListLaws.{all_append, all_from, all_weaker, any_then}
use Rattle.ws_laws.proofs.Follow.{any_of_filter}
use Rattle.ws_laws.proofs.Paired.{AreUnlike, pairs_apart, pairs_only, same_numbers}
use Rattle.ws_compaction.proofs.Fetches.{any_more}
use Rattle.ws_fate.proofs.Passing.{any_found, is_it}
use Rattle.ws_laws.proofs.Step.{IsUntried, births_untried}
use Rattle.ws_compaction.specs.Least.{takes_over}
use Rattle.ws_handover.specs.Taken.{ReplacedIsTaken, TakenIsReplaced, WentOver}

not_owed : (f : Fate) → is_owed f ≡ true → f ≡ Ended Replaced → ⊥
not_owed f k e = false≢true (sym (ap is_owed e) ∙ k)

other_cause : Ended Expired ≡ Ended Replaced → ⊥
other_cause k = cc

-- what is owed at a moment isn't replaced later without an event
owed_not : (h : List Event) (p : Pair) (t u : ℕ) → t ≤ u → is_owed (fate h p t) ≡ true → fate h p u ≡ Ended Replaced → ⊥
owed_not h p t u le k e = one (nat_lt u (expiry p.lease)) refl
  where
    one : (b : Bool) → nat_lt u (expiry p.lease) ≡ b → ⊥
    one true x = not_owed (fate h p u) (owed_later_at h p t u le ∙ (λ j. k j && x j)) e
    one false x = other_cause (sym (fate_expired h p t u k x) ∙ e)

-- an element of a list passes a test of the list
each_any : {X : Type 0} (xs : List X) → AllByRecursion (λ x. (q : X → Bool) → q x ≡ true → list_any q xs ≡ true) xs
each_any [] = tt
each_any {X} (x ∷ xs) = ((λ q k. or_left _ _ k), all_weaker (λ y. (q : X → Bool) → q y ≡ true → list_any q xs ≡ true) (λ y. (q : X → Bool) → q y ≡ true → list_any q (x ∷ xs) ≡ true) (λ y f q k. or_right (q x) _ (f q k)) xs (each_any xs))

any_filtered : {X : Type 0} (q r : X → Bool) (xs : List X) → list_any (λ x. r x && q x) xs ≡ true → list_any r (filter q xs) ≡ true
any_filtered q r [] k = k
any_filtered q r (x ∷ xs) k = one (q x) refl (any_filtered q r xs)
  where
    one : (b : Bool) → q x ≡ b → (list_any (λ y. r y && q y) xs ≡ true → list_any r (filter q xs) ≡ true) → list_any r (cond b (x ∷ filter q xs) (filter q xs)) ≡ true
    one true e f = elim (or_cases (r x && q x) (list_any (λ y. r y && q y) xs) k) [ inl a ↦ or_left _ _ (and_parts (r x) (q x) a).0 | inr a ↦ or_right (r x) _ (f a) ]
    one false e f = elim (or_cases (r x && q x) (list_any (λ y. r y && q y) xs) k) [ inl a ↦ absurd (false≢true (sym e ∙ (and_parts (r x) (q x) a).1)) | inr a ↦ f a ]

-- the cause by which a fate ended, where it is a replacement
cause_by : (d : Bool) (m : ℕ) (c : Option Cause) (n : ℕ) → fate_by d m c n ≡ Ended Replaced → c ≡ Some Replaced
cause_by true m c n e = absurd (grind arith)
cause_by false m None n e = one (nat_le 8 m) e
  where
    one : (b : Bool) → cond b (Ended Spent) (Owed m n) ≡ Ended Replaced → ◌≡◌ {A = Option Cause} None (Some Replaced)
    one true e = absurd (grind arith)
    one false e = absurd (grind arith)
cause_by false m (Some c) n e = one (nat_le 8 m) e
  where
    one : (b : Bool) → cond b (Ended Spent) (Ended c) ≡ Ended Replaced → Some c ≡ Some Replaced
    one true e = absurd (grind arith)
    one false e = cc

-- what replaces a lease takes over what is owed to it
module _ (h : List Event) (t v n : ℕ) where
  abbrev goes_from : Intent → Bool
  goes_from i = list_any (λ p. (p.lease.intent.n == n) && ((p.version.ver == v) && same_pair i p.lease.intent)) (owed h t)

  takes : (w : What) (o : Option Intent) (l : Lease) → end_by w o l ≡ Some Replaced → ((i : Intent) → same_pair i l.intent ≡ true → goes_from i ≡ true)
      → (m : ℕ) × (list_any (λ (x : Lease). (x.intent.n == m) && goes_from x.intent) (lease_of w o) ≡ true)
  takes (Confirmed k sent) None l e f = absurd (grind arith)
  takes (Confirmed k sent) (Some i) l e f = one (same_pair i l.intent) refl i.mode refl e
    where
      one : (b : Bool) → same_pair i l.intent ≡ b → (d : Mode) → i.mode ≡ d → cond b (Some (end_by_mode d)) None ≡ Some Replaced
          → (m : ℕ) × (list_any (λ (x : Lease). (x.intent.n == m) && goes_from x.intent) (cond (is_on i.mode) (record { intent = i; sent = sent } ∷ []) []) ≡ true)
      one false s d q e = absurd (grind arith)
      one true s Off q e = absurd (grind arith)
      one true s On q e = (i.n, ap (λ d. list_any (λ (x : Lease). (x.intent.n == i.n) && goes_from x.intent) (cond (is_on d) (record { intent = i; sent = sent } ∷ []) [])) q ∙ or_left _ _ (and_from _ _ (itself i.n) (f i s)))
  takes (Pushed a b Gone) o l e f = one (b == l.intent.n) e
    where
      one : (c : Bool) → cond c (Some LeaseGone) None ≡ Some Replaced → (m : ℕ) × (list_any (λ (x : Lease). (x.intent.n == m) && goes_from x.intent) [] ≡ true)
      one true e = absurd (grind arith)
      one false e = absurd (grind arith)
  takes (Pushed a b Done) o l e f = absurd (grind arith)
  takes (Pushed a b (Missed code)) o l e f = absurd (grind arith)
  takes (Revoked b reason) o l e f = one (b == l.intent.n) e
    where
      one : (c : Bool) → cond c (Some LeaseRevoked) None ≡ Some Replaced → (m : ℕ) × (list_any (λ (x : Lease). (x.intent.n == m) && goes_from x.intent) [] ≡ true)
      one true e = absurd (grind arith)
      one false e = absurd (grind arith)
  takes _ o l e f = absurd (grind arith)

-- by one event
old_taken : (e : Event) (h : List Event) (t : ℕ) (p : Pair) → Legal (e ∷ h) → e.t ≤ t → IsKnown h p → IsToldPair h p → ((q : Pair → Bool) → q p ≡ true → list_any q (pairs h) ≡ true)
    → (fate h p e.t ≡ Ended Replaced → WentOver h p) → fate (e ∷ h) p t ≡ Ended Replaced → WentOver (e ∷ h) p
old_taken e h t p l le known told there before k = one (is_owed (fate h p e.t)) refl
  where
    o : Option Intent
    o = confirmed_intent e.what h

    now : is_owed (fate h p e.t) ≡ true → fate (e ∷ h) p e.t ≡ Ended Replaced → WentOver (e ∷ h) p
    now was ended =
        let cause : end_by e.what o p.lease ≡ Some Replaced = cause_by _ _ (end_by e.what o p.lease) _ (sym (turned_at e h p (in_time h e l.1) known was) ∙ ended) in
        let goes : (i : Intent) → same_pair i p.lease.intent ≡ true → goes_from h e.t p.version.ver p.lease.intent.n i ≡ true =
        λ i s. any_filtered (λ q. is_owed (fate h q e.t)) (λ q. (q.lease.intent.n == p.lease.intent.n) && ((q.version.ver == p.version.ver) && same_pair i q.lease.intent)) (pairs h)
        (there (λ q. ((q.lease.intent.n == p.lease.intent.n) && ((q.version.ver == p.version.ver) && same_pair i q.lease.intent)) && is_owed (fate h q e.t))
        (and_from _ _ (and_from _ _ (itself p.lease.intent.n) (and_from _ _ (itself p.version.ver) s)) was)) in
        let over = takes h e.t p.version.ver p.lease.intent.n e.what o p.lease cause goes in
        record { later = []; event = e; before = h; successor = over.0; split = refl; taken = over.1 }

    one : (b : Bool) → is_owed (fate h p e.t) ≡ b → WentOver (e ∷ h) p
    one false x =
        let w = before (sym (one_more e h p e.t t l (omega arith) le told x) ∙ k) in
        record { later = e ∷ w.later; event = w.event; before = w.before; successor = w.successor; split = ap (λ c. e ∷ c) w.split; taken = w.taken }
    one true x = two (is_owed (fate (e ∷ h) p e.t)) refl
      where
        two : (b : Bool) → is_owed (fate (e ∷ h) p e.t) ≡ b → WentOver (e ∷ h) p
        two true y = absurd (owed_not (e ∷ h) p e.t t le y k)
        two false y = now x (sym (fate_kept (e ∷ h) p e.t t le y) ∙ k)

pub replaced_is_taken : ReplacedIsTaken
replaced_is_taken [] t l le = tt
replaced_is_taken (e ∷ h) t l le =
    let past : last_time h ≤ e.t = in_time h e l.1 in
    let later : e.t ≤ t = omega arith in
    all_append (λ p. fate (e ∷ h) p t ≡ Ended Replaced → WentOver (e ∷ h) p) (births e.t e.what (confirmed_intent e.what h) (live h e.t) (owed h e.t)) (pairs h)
    (all_weaker (IsUntried e h) (λ p. fate (e ∷ h) p t ≡ Ended Replaced → WentOver (e ∷ h) p) (λ p new k. absurd (owed_not (e ∷ h) p e.t t later new.owed k))
    (births e.t e.what (confirmed_intent e.what h) (live h e.t) (owed h e.t)) (births_untried e.what e.serial e.t h l.0 past (allowed h e l.1)))
    (all_weaker (λ p. ((IsKnown h p × IsToldPair h p) × ((q : Pair → Bool) → q p ≡ true → list_any q (pairs h) ≡ true)) × (fate h p e.t ≡ Ended Replaced → WentOver h p)) (λ p. fate (e ∷ h) p t ≡ Ended Replaced → WentOver (e ∷ h) p)
    (λ p a. old_taken e h t p l later a.0.0.0 a.0.0.1 a.0.1 a.1) (pairs h)
    (both_true (λ p. (IsKnown h p × IsToldPair h p) × ((q : Pair → Bool) → q p ≡ true → list_any q (pairs h) ≡ true)) (λ p. fate h p e.t ≡ Ended Replaced → WentOver h p) (pairs h)
    (both_true (λ p. IsKnown h p × IsToldPair h p) (λ p. (q : Pair → Bool) → q p ≡ true → list_any q (pairs h) ≡ true) (pairs h) (both_true (IsKnown h) (IsToldPair h) (pairs h) (pairs_known h) (pairs_told h l.0)) (each_any (pairs h)))
    (replaced_is_taken h e.t l.0 past)))

-- ---- what went over is replaced

any_both : {X : Type 0} (q r : X → Bool) (xs : List X) → list_any r (filter q xs) ≡ true → list_any (λ x. r x && q x) xs ≡ true
any_both q r [] k = k
any_both q r (x ∷ xs) k = one (q x) refl k (any_both q r xs)
  where
    one : (b : Bool) → q x ≡ b → list_any r (cond b (x ∷ filter q xs) (filter q xs)) ≡ true → (list_any r (filter q xs) ≡ true → list_any (λ y. r y && q y) xs ≡ true) → ((r x && q x) || list_any (λ y. r y && q y) xs) ≡ true
    one true e k f = elim (or_cases (r x) (list_any r (filter q xs)) k) [ inl a ↦ or_left _ _ (and_from _ _ a e) | inr a ↦ or_right (r x && q x) _ (f a) ]
    one false e k f = or_right (r x && q x) _ (f k)

-- an event that makes a lease replaces those of its topic and callback, and is no push
replaces : (w : What) (o : Option Intent) (m : ℕ) (G : Intent → Bool) (l : Lease) → list_any (λ (x : Lease). (x.intent.n == m) && G x.intent) (lease_of w o) ≡ true → ((i : Intent) → G i ≡ true → same_pair i l.intent ≡ true)
    → (end_by w o l ≡ Some Replaced) × ((test : How → Bool) (v n : ℕ) → is_push test v n w ≡ false)
replaces (Confirmed k sent) None m G l e f = absurd (false≢true e)
replaces (Confirmed k sent) (Some i) m G l e f = one i.mode refl e
  where
    one : (d : Mode) → i.mode ≡ d → list_any (λ (x : Lease). (x.intent.n == m) && G x.intent) (cond (is_on d) (record { intent = i; sent = sent } ∷ []) []) ≡ true
        → (cond (same_pair i l.intent) (Some (end_by_mode i.mode)) None ≡ Some Replaced) × ((test : How → Bool) (v n : ℕ) → false ≡ false)
    one Off q e = absurd (false≢true e)
    one On q e = elim (or_cases ((i.n == m) && G i) false e) [
      | inl a ↦ let s = f i (and_parts (i.n == m) (G i) a).1 in ((λ j. cond (s j) (Some (end_by_mode (q j))) None), λ test v n. refl)
      | inr b ↦ absurd (false≢true b)
    ]
replaces _ o m G l e f = absurd (false≢true e)

turn_is : (d b : Bool) (m : ℕ) (c : Option Cause) (n k : ℕ) → d ≡ false → b ≡ false → nat_le 8 m ≡ false → c ≡ Some Replaced → fate_by d (cond b (suc m) m) c (cond b n k) ≡ Ended Replaced
turn_is d b m c n k dd bb few cause = (λ j. fate_by (dd j) (cond (bb j) (suc m) m) (cause j) (cond (bb j) n k)) ∙ ap (λ x. cond x (Ended Spent) (Ended Replaced)) few

abbrev goes : List Event → ℕ → Pair → Intent → Bool
goes h t p i = list_any (λ q. (q.lease.intent.n == p.lease.intent.n) && ((q.version.ver == p.version.ver) && same_pair i q.lease.intent)) (owed h t)

-- it is the pair itself that goes over
goes_itself : (h : List Event) (t : ℕ) (p : Pair) → Legal h → find (is_it p.version.ver p.lease.intent.n) (pairs h) ≡ Some p → (i : Intent) → goes h t p i ≡ true → (is_owed (fate h p t) && same_pair i p.lease.intent) ≡ true
goes_itself h t p l only i k =
    sym (any_found p.version.ver p.lease.intent.n (λ q. is_owed (fate h q t) && same_pair i q.lease.intent) p (pairs h) (pairs_apart h l) only)
    ∙ any_filtered (λ q. is_owed (fate h q t) && same_pair i q.lease.intent) (is_it p.version.ver p.lease.intent.n) (pairs h)
    (any_more (λ q. ((q.lease.intent.n == p.lease.intent.n) && ((q.version.ver == p.version.ver) && same_pair i q.lease.intent)) && is_owed (fate h q t))
    (λ q. is_it p.version.ver p.lease.intent.n q && (is_owed (fate h q t) && same_pair i q.lease.intent))
    (λ q x.
    let a = and_parts ((q.lease.intent.n == p.lease.intent.n) && ((q.version.ver == p.version.ver) && same_pair i q.lease.intent)) (is_owed (fate h q t)) x in
    let b = and_parts (q.lease.intent.n == p.lease.intent.n) ((q.version.ver == p.version.ver) && same_pair i q.lease.intent) a.0 in
    let c = and_parts (q.version.ver == p.version.ver) (same_pair i q.lease.intent) b.1 in
    and_from _ _ (and_from _ _ c.0 b.0) (and_from _ _ a.1 c.1))
    (pairs h) (any_both (λ q. is_owed (fate h q t)) (λ q. (q.lease.intent.n == p.lease.intent.n) && ((q.version.ver == p.version.ver) && same_pair i q.lease.intent)) (pairs h) k))

now_replaced : (e : Event) (h : List Event) (t m : ℕ) (p : Pair) → Legal (e ∷ h) → e.t ≤ t → IsKnown h p → find (is_it p.version.ver p.lease.intent.n) (pairs h) ≡ Some p
    → takes_over (λ v. v == p.version.ver) e h m p.lease.intent.n ≡ true → fate (e ∷ h) p t ≡ Ended Replaced
now_replaced e h t m p l le known only taken =
    let o : Option Intent = confirmed_intent e.what h in
    let itself = goes_itself h e.t p l.0 only in
    let was : is_owed (fate h p e.t) ≡ true =
    any_then (λ (x : Lease). Unit {0}) (λ x. (x.intent.n == m) && goes h e.t p x.intent) (is_owed (fate h p e.t) ≡ true)
    (λ x u a. (and_parts (is_owed (fate h p e.t)) (same_pair x.intent p.lease.intent) (itself x.intent (and_parts (x.intent.n == m) (goes h e.t p x.intent) a).1)).0)
    (lease_of e.what o) (all_from (λ (x : Lease). Unit {0}) (λ x. tt) (lease_of e.what o)) taken in
    let by = replaces e.what o m (goes h e.t p) p.lease taken (λ i a. (and_parts (is_owed (fate h p e.t)) (same_pair i p.lease.intent) (itself i a)).1) in
    let parts = and_parts (not (has (is_push is_done p.version.ver p.lease.intent.n) h) && not (nat_le 8 (misses h p))) (is_none (lease_end h p.lease e.t)) (sym (is_owed_parts _ _ (lease_end h p.lease e.t) _) ∙ was) in
    let few = not-true (nat_le 8 (misses h p)) (and_parts (not (has (is_push is_done p.version.ver p.lease.intent.n) h)) _ parts.0).1 in
    let turned : fate (e ∷ h) p e.t ≡ Ended Replaced =
    turned_at e h p (in_time h e l.1) known was ∙ turn_is _ _ (misses h p) (end_by e.what o p.lease) _ _ (by.1 is_done p.version.ver p.lease.intent.n) (by.1 is_miss p.version.ver p.lease.intent.n) few by.0 in
    fate_kept (e ∷ h) p e.t t le (ap is_owed turned) ∙ turned

-- what goes over has a pair of these numbers
went_there : (f : Event) (g : List Event) (m : ℕ) (p : Pair) → takes_over (λ v. v == p.version.ver) f g m p.lease.intent.n ≡ true → list_any (is_it p.version.ver p.lease.intent.n) (pairs g) ≡ true
went_there f g m p taken =
    any_then (λ (x : Lease). Unit {0}) (λ x. (x.intent.n == m) && goes g f.t p x.intent) (list_any (is_it p.version.ver p.lease.intent.n) (pairs g) ≡ true)
    (λ x u a. any_of_filter (is_it p.version.ver p.lease.intent.n) (λ q. is_owed (fate g q f.t)) (pairs g)
    (any_more (λ q. (q.lease.intent.n == p.lease.intent.n) && ((q.version.ver == p.version.ver) && same_pair x.intent q.lease.intent)) (is_it p.version.ver p.lease.intent.n)
    (λ q y. let b = and_parts (q.lease.intent.n == p.lease.intent.n) ((q.version.ver == p.version.ver) && same_pair x.intent q.lease.intent) y in and_from _ _ (and_parts (q.version.ver == p.version.ver) _ b.1).0 b.0)
    (owed g f.t) (and_parts (x.intent.n == m) (goes g f.t p x.intent) a).1))
    (lease_of f.what (confirmed_intent f.what g)) (all_from (λ (x : Lease). Unit {0}) (λ x. tt) (lease_of f.what (confirmed_intent f.what g))) taken

pairs_behind : (q : Pair → Bool) (c g : List Event) → list_any q (pairs g) ≡ true → list_any q (pairs (c ++ g)) ≡ true
pairs_behind q [] g k = k
pairs_behind q (e ∷ c) g k = list_any-append q (births e.t e.what (confirmed_intent e.what (c ++ g)) (live (c ++ g) e.t) (owed (c ++ g) e.t)) (pairs (c ++ g)) ∙ or_right _ _ (pairs_behind q c g k)

first_is : (d e : Event) (g h : List Event) → d ∷ g ≡ e ∷ h → (d ≡ e) × (g ≡ h)
first_is d e g h k = (cc, cc)

-- a pair that an event makes didn't go over
new_stayed : (e : Event) (h : List Event) (p : Pair) → list_any (is_it p.version.ver p.lease.intent.n) (pairs h) ≡ false → WentOver (e ∷ h) p → ⊥
new_stayed e h p none w = by w.later w.split
  where
    numbers : Pair → Bool
    numbers = is_it p.version.ver p.lease.intent.n

    over : list_any (is_it p.version.ver p.lease.intent.n) (pairs w.before) ≡ true
    over = went_there w.event w.before w.successor p w.taken

    by : (c : List Event) → e ∷ h ≡ c ++ w.event ∷ w.before → ⊥
    by [] s = false≢true (sym none ∙ ap (λ g. list_any (is_it p.version.ver p.lease.intent.n) (pairs g)) (first_is e w.event h w.before s).1 ∙ over)
    by (x ∷ c) s =
        false≢true (sym none ∙ ap (λ g. list_any (is_it p.version.ver p.lease.intent.n) (pairs g)) (first_is e x h (c ++ w.event ∷ w.before) s).1
        ∙ pairs_behind (is_it p.version.ver p.lease.intent.n) c (w.event ∷ w.before) (pairs_behind (is_it p.version.ver p.lease.intent.n) (w.event ∷ []) w.before over))

old_replaced : (e : Event) (h : List Event) (t : ℕ) (p : Pair) → Legal (e ∷ h) → e.t ≤ t → IsKnown h p → IsToldPair h p → find (is_it p.version.ver p.lease.intent.n) (pairs h) ≡ Some p
    → (WentOver h p → fate h p e.t ≡ Ended Replaced) → WentOver (e ∷ h) p → fate (e ∷ h) p t ≡ Ended Replaced
old_replaced e h t p l le known told only before w = by w.later w.split
  where
    by : (c : List Event) → e ∷ h ≡ c ++ w.event ∷ w.before → fate (e ∷ h) p t ≡ Ended Replaced
    by [] s =
        let same = first_is e w.event h w.before s in
        now_replaced e h t w.successor p l le known only ((λ j. takes_over (λ v. v == p.version.ver) (same.0 j) (same.1 j) w.successor p.lease.intent.n) ∙ w.taken)
    by (x ∷ c) s =
        let was = before (record { later = c; event = w.event; before = w.before; successor = w.successor; split = (first_is e x h (c ++ w.event ∷ w.before) s).1; taken = w.taken }) in
        one_more e h p e.t t l (omega arith) le told (ap is_owed was) ∙ was

turned_round : (a b c d : ℕ) → ((a == b) && (c == d)) ≡ false → ((b == a) && (d == c)) ≡ false
turned_round a b c d k = grind (arith, nat_tests)

apart : (q : Pair) (xs ps : List Pair) → AllByRecursion (λ p. same_numbers q p ≡ false) (xs ++ ps) → list_any (is_it q.version.ver q.lease.intent.n) ps ≡ false
apart q [] [] a = refl
apart q [] (p ∷ ps) a = or_from _ _ (turned_round q.version.ver p.version.ver q.lease.intent.n p.lease.intent.n a.0) (apart q [] ps a.1)
apart q (x ∷ xs) ps a = apart q xs ps a.1

new_apart : (qs ps : List Pair) → AreUnlike same_numbers (qs ++ ps) → AllByRecursion (λ (q : Pair). list_any (is_it q.version.ver q.lease.intent.n) ps ≡ false) qs
new_apart [] ps a = tt
new_apart (q ∷ qs) ps a = (apart q qs ps a.0, new_apart qs ps a.1)

pub taken_is_replaced : TakenIsReplaced
taken_is_replaced [] t l le = tt
taken_is_replaced (e ∷ h) t l le =
    let past : last_time h ≤ e.t = in_time h e l.1 in
    let later : e.t ≤ t = omega arith in
    let born : List Pair = births e.t e.what (confirmed_intent e.what h) (live h e.t) (owed h e.t) in
    all_append (λ p. WentOver (e ∷ h) p → fate (e ∷ h) p t ≡ Ended Replaced) born (pairs h)
    (all_weaker (λ (p : Pair). list_any (is_it p.version.ver p.lease.intent.n) (pairs h) ≡ false) (λ p. WentOver (e ∷ h) p → fate (e ∷ h) p t ≡ Ended Replaced) (λ p none w. absurd (new_stayed e h p none w)) born
    (new_apart born (pairs h) (pairs_apart (e ∷ h) l)))
    (all_weaker (λ p. ((IsKnown h p × IsToldPair h p) × (find (is_it p.version.ver p.lease.intent.n) (pairs h) ≡ Some p)) × (WentOver h p → fate h p e.t ≡ Ended Replaced)) (λ p. WentOver (e ∷ h) p → fate (e ∷ h) p t ≡ Ended Replaced)
    (λ p a. old_replaced e h t p l later a.0.0.0 a.0.0.1 a.0.1 a.1) (pairs h)
    (both_true (λ p. (IsKnown h p × IsToldPair h p) × (find (is_it p.version.ver p.lease.intent.n) (pairs h) ≡ Some p)) (λ p. WentOver h p → fate h p e.t ≡ Ended Replaced) (pairs h)
    (both_true (λ p. IsKnown h p × IsToldPair h p) (λ p. find (is_it p.version.ver p.lease.intent.n) (pairs h) ≡ Some p) (pairs h) (both_true (IsKnown h) (IsToldPair h) (pairs h) (pairs_known h) (pairs_told h l.0)) (pairs_only h l.0))
    (taken_is_replaced h e.t l.0 past)))
