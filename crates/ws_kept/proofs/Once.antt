-- A lease is replaced once: the pairs that went over from it, went over at that event.
use Rattle.std.proofs.Common.{◌≡◌, ℕ, ◌≤◌, Bool, true, false, cond, ◌&&◌, List, [], ◌∷◌, ◌++◌, refl, ap, sym, ◌∙◌, subst, inl, inr, ◌⊎◌}
use Rattle.std.specs.Prelude.{Option, Some, None, is_none, find, ◌==◌}
use Rattle.std.specs.List.{AllByRecursion, list_any}
use Rattle.std.proofs.lemmas.Bool.{and_from, and_parts, eqb-true, false≢true, or_cases, or_left}
use Rattle.ws_model.specs.declared.event.Event.{Event}
use Rattle.ws_model.specs.declared.event.Intent.{Intent}
use Rattle.ws_model.specs.declared.event.What.{What}
use Rattle.ws_model.specs.declared.event.What.TheVariants.{Confirmed}
use Rattle.ws_model.specs.declared.fate.Cause.{Cause}
use Rattle.ws_model.specs.declared.fate.Cause.TheVariants.{Replaced}
use Rattle.ws_model.specs.declared.fate.Fate.TheVariants.{Ended as HasEnded}
use Rattle.ws_model.specs.declared.lease.Lease.{Lease}
use Rattle.ws_model.specs.Fate.{Pair, fate, is_owed}
use Rattle.ws_model.specs.History.{has}
use Rattle.ws_model.specs.Intents.{same_pair}
use Rattle.ws_model.specs.Leases.{confirmed_intent, end_by, end_by_mode, first_end, is_confirmed, is_on, lease_end, lease_of, leases, live, or_else, stamped}
use Rattle.ws_model.specs.Legal.{Legal}
use Rattle.ws_model.specs.Moment.{last_time}
use Rattle.ws_model.specs.Pairs.{births, owed, pairs}
use Rattle.ws_laws.proofs.Ended.{IsTold, IsToldPair, both_true, is_numbered, leases_told, others, skipped}
use Rattle.ws_laws.proofs.Known.{IsKnown, IsOfConfirmed, has_later, in_time, itself, leases_confirmed}
use Rattle.ws_laws.proofs.ListLaws.{all_filter, all_filter_with, all_weaker, any_then}
use Rattle.ws_compaction.specs.Least.{takes_over}
use Rattle.ws_compaction.proofs.Fetches.{any_more}
use Rattle.ws_compaction.proofs.Replaced.{live_first, owed_facts, owed_live}
use Rattle.ws_fate.specs.Totals.{standing}
use Rattle.ws_handover.specs.Taken.{WentOver}
use Rattle.ws_handover.proofs.Taken.{replaced_is_taken, taken_is_replaced}
use Rattle.ws_kept.specs.Finding.{is_replaced}
use Rattle.ws_kept.proofs.Lists.{both_ways, each_any}
use Rattle.ws_kept.proofs.WentOver.{replaced_fate, went}

pub legal_behind : (d g : List Event) → Legal (d ++ g) → Legal g
legal_behind [] g l = l
legal_behind (e ∷ d) g l = legal_behind d g l.0

-- ---- a lease that is live

-- it is told by its number, and live at t
pub record Lives (g : List Event) (t : ℕ) (z : Lease) : Type 0 where
  pub told : IsTold g z
  pub confirmed : IsOfConfirmed g z
  pub alive : is_none (lease_end g z t) ≡ true

pub all_live : (g : List Event) (t : ℕ) → Legal g → AllByRecursion (Lives g t) (live g t)
all_live g t l =
    all_weaker (λ z. (IsTold g z × IsOfConfirmed g z) × (is_none (lease_end g z t) ≡ true)) (Lives g t) (λ z a. record { told = a.0.0; confirmed = a.0.1; alive = a.1 }) (live g t)
    (all_filter_with (λ z. IsTold g z × IsOfConfirmed g z) (λ z. is_none (lease_end g z t)) (leases g) (both_true (IsTold g) (IsOfConfirmed g) (leases g) (leases_told g l) (leases_confirmed g)))

pub owed_lives_on : (g : List Event) (t : ℕ) → Legal g → AllByRecursion (λ p. Lives g t p.lease) (owed g t)
owed_lives_on g t l =
    all_weaker (λ p. (IsKnown g p × IsToldPair g p) × (is_owed (fate g p t) ≡ true)) (λ p. Lives g t p.lease)
    (λ p a. record { told = a.0.1; confirmed = a.0.0.confirmed; alive = owed_live (λ v. true) g p t a.1 }) (owed g t) (owed_facts (λ v. true) g l t)

-- after more events it is told by its number still
told_behind : (d g : List Event) (z : Lease) → Legal (d ++ g) → IsOfConfirmed g z → IsTold g z → (IsOfConfirmed (d ++ g) z × IsTold (d ++ g) z)
told_behind [] g z l c k = (c, k)
told_behind (e ∷ d) g z l c k =
    let r = told_behind d g z l.0 c k in
    (has_later e (d ++ g) (is_confirmed z.intent.n) r.0, skipped z.intent.n (lease_of e.what (confirmed_intent e.what (d ++ g))) (leases (d ++ g)) (others e (d ++ g) l.1 z.intent.n r.0) ∙ r.1)

ended_behind : (d g : List Event) (z : Lease) → is_none (first_end g z) ≡ false → is_none (first_end (d ++ g) z) ≡ false
ended_behind [] g z k = k
ended_behind (e ∷ d) g z k = by (first_end (d ++ g) z) _ (ended_behind d g z k)
  where
    by : (o p : Option (ℕ × Cause)) → is_none o ≡ false → is_none (or_else o p) ≡ false
    by None p k = absurd (false≢true (sym k))
    by (Some x) p k = refl

-- an event that ends it
ended_by : (e : Event) (g : List Event) (z : Lease) → Lives g e.t z → is_none (end_by e.what (confirmed_intent e.what g) z) ≡ false → is_none (first_end (e ∷ g) z) ≡ false
ended_by e g z a k = by (first_end g z) (end_by e.what (confirmed_intent e.what g) z) k
  where
    by : (o : Option (ℕ × Cause)) (c : Option Cause) → is_none c ≡ false → is_none (or_else o (stamped e.t (cond (has (is_confirmed z.intent.n) g) c None))) ≡ false
    by (Some x) c k = refl
    by None (Some c) k = ap (λ b. is_none (stamped e.t (cond b (Some c) None))) a.confirmed
    by None None k = absurd (false≢true (sym k))

-- what makes a lease ends those of its topic and callback
abbrev pub Ends : What → Option Intent → Lease → Type 0
Ends w o x = (z : Lease) → same_pair x.intent z.intent ≡ true → is_none (end_by w o z) ≡ false

pub ends_by : (w : What) (o : Option Intent) → AllByRecursion (Ends w o) (lease_of w o)
ends_by (Confirmed n sent) None = tt
ends_by (Confirmed n sent) (Some i) = one (is_on i.mode)
  where
    one : (b : Bool) → AllByRecursion (λ (x : Lease). (z : Lease) → same_pair x.intent z.intent ≡ true → is_none (cond (same_pair i z.intent) (Some (end_by_mode i.mode)) None) ≡ false) (cond b (record { intent = i; sent = sent } ∷ []) [])
    one true = ((λ z s. ap (λ c. is_none (cond c (Some (end_by_mode i.mode)) None)) s), tt)
    one false = tt
ends_by _ o = tt

-- an event makes one lease at most
abbrev pub IsSingle : List Lease → Type 0
IsSingle [] = Unit {0}
IsSingle (l ∷ ls) = ls ≡ []

pub single : (w : What) (o : Option Intent) → IsSingle (lease_of w o)
single (Confirmed n sent) None = tt
single (Confirmed n sent) (Some i) = one (is_on i.mode)
  where
    one : (b : Bool) → IsSingle (cond b (record { intent = i; sent = sent } ∷ []) [])
    one true = refl
    one false = tt
single _ o = tt

-- once it ended, it lives no more
pub not_twice : (d : List Event) (f : Event) (k : List Event) (u : ℕ) (z y : Lease) → Legal (d ++ f ∷ k) → last_time (d ++ f ∷ k) ≤ u → Lives k f.t z → is_none (end_by f.what (confirmed_intent f.what k) z) ≡ false → Lives (d ++ f ∷ k) u y → z.intent.n ≡ y.intent.n → ⊥
not_twice d f k u z y l le old ends new same =
    let next = told_behind d (f ∷ k) z l (has_later f k (is_confirmed z.intent.n) old.confirmed) (skipped z.intent.n (lease_of f.what (confirmed_intent f.what k)) (leases k) (others f k (legal_behind d (f ∷ k) l).1 z.intent.n old.confirmed) ∙ old.told) in
    let one : Some z ≡ Some y = sym next.1 ∙ ap (λ n. find (is_numbered n) (leases (d ++ f ∷ k))) same ∙ new.told in
    let is : z ≡ y = cc in
    false≢true (sym (ended_behind d (f ∷ k) z (ended_by f k z old ends)) ∙ ap (λ x. is_none (first_end (d ++ f ∷ k) x)) is ∙ ap is_none (live_first (λ v. true) (d ++ f ∷ k) y u le new.alive))

-- ---- two events of one history

first_is : (d e : Event) (g h : List Event) → d ∷ g ≡ e ∷ h → (d ≡ e) × (g ≡ h)
first_is d e g h k = (cc, cc)

pub places : (c d : List Event) (e f : Event) (g k : List Event) → c ++ e ∷ g ≡ d ++ f ∷ k → ((e ≡ f) × (g ≡ k)) ⊎ (((y : List Event) × (g ≡ y ++ f ∷ k)) ⊎ ((y : List Event) × (k ≡ y ++ e ∷ g)))
places [] [] e f g k q = inl (first_is e f g k q)
places [] (z ∷ d) e f g k q = inr (inl (d, (first_is e z g (d ++ f ∷ k) q).1))
places (z ∷ c) [] e f g k q = inr (inr (c, sym (first_is z f (c ++ e ∷ g) k q).1))
places (z ∷ c) (y ∷ d) e f g k q = places c d e f g k (first_is z y (c ++ e ∷ g) (d ++ f ∷ k) q).1

-- ---- the pairs of a history further back

all_right : {X : Type 0} (P : X → Type 0) (xs ys : List X) → AllByRecursion P (xs ++ ys) → AllByRecursion P ys
all_right P [] ys a = a
all_right P (x ∷ xs) ys a = all_right P xs ys a.1

all_behind : (P : Pair → Type 0) (c g : List Event) → AllByRecursion P (pairs (c ++ g)) → AllByRecursion P (pairs g)
all_behind P [] g a = a
all_behind P (e ∷ c) g a = all_behind P c g (all_right P (births e.t e.what (confirmed_intent e.what (c ++ g)) (live (c ++ g) e.t) (owed (c ++ g) e.t)) (pairs (c ++ g)) a)

-- ---- what goes over by an event has gone over

module _ (h : List Event) (t : ℕ) (versions : ℕ → Bool) (l : Legal h) (le : last_time h ≤ t) (c : List Event) (e : Event) (g : List Event) (q : h ≡ c ++ e ∷ g) (x m : Lease) (ls : List Lease)
    (makes : lease_of e.what (confirmed_intent e.what g) ≡ x ∷ ls) (single : ls ≡ []) (lives : Lives g e.t m) (pair : same_pair x.intent m.intent ≡ true) where
  abbrev goes : Pair → Bool
  goes p = (p.lease.intent.n == m.intent.n) && (versions p.version.ver && same_pair x.intent p.lease.intent)

  abbrev test : Pair → Bool
  test p = (p.lease.intent.n == m.intent.n) && (versions p.version.ver && is_replaced (standing (fate h p t)))

  legal : Legal (c ++ e ∷ g)
  legal = subst Legal q l

  here : Legal (e ∷ g)
  here = legal_behind c (e ∷ g) legal

  -- of the pairs that are owed to it
  over_taken : (p : Pair) → ((r : Pair → Bool) → r p ≡ true → list_any r (owed g e.t) ≡ true) → same_pair x.intent p.lease.intent ≡ true → WentOver h p
  over_taken p there s =
      record {
        later = c;
        event = e;
        before = g;
        successor = x.intent.n;
        split = q;
        taken =
            ap (list_any (λ y. (y.intent.n == x.intent.n) && list_any (λ r. (r.lease.intent.n == p.lease.intent.n) && ((r.version.ver == p.version.ver) && same_pair y.intent r.lease.intent)) (owed g e.t))) makes
            ∙ or_left _ _ (and_from _ _ (itself x.intent.n)
            (there (λ r. (r.lease.intent.n == p.lease.intent.n) && ((r.version.ver == p.version.ver) && same_pair x.intent r.lease.intent)) (and_from _ _ (itself p.lease.intent.n) (and_from _ _ (itself p.version.ver) s))));
      }

  abbrev Turned : Pair → Type 0
  Turned p = (WentOver h p → fate h p t ≡ HasEnded Replaced) × ((r : Pair → Bool) → r p ≡ true → list_any r (pairs h) ≡ true)

  all_turned : AllByRecursion Turned (owed g e.t)
  all_turned =
      all_filter Turned (λ p. is_owed (fate g p e.t)) (pairs g)
      (all_behind Turned (e ∷ []) g
      (all_behind Turned c (e ∷ g)
      (subst (λ f. AllByRecursion Turned (pairs f)) q
      (both_true (λ p. WentOver h p → fate h p t ≡ HasEnded Replaced) (λ p. (r : Pair → Bool) → r p ≡ true → list_any r (pairs h) ≡ true) (pairs h) (taken_is_replaced h t l le) (each_any (pairs h))))))

  forth : list_any goes (owed g e.t) ≡ true → went h t versions m.intent.n ≡ true
  forth k =
      any_then (λ p. Turned p × ((r : Pair → Bool) → r p ≡ true → list_any r (owed g e.t) ≡ true)) goes (went h t versions m.intent.n ≡ true)
      (λ p a b.
      let parts = and_parts (p.lease.intent.n == m.intent.n) (versions p.version.ver && same_pair x.intent p.lease.intent) b in
      let rest = and_parts (versions p.version.ver) (same_pair x.intent p.lease.intent) parts.1 in
      a.0.1 test (and_from _ _ parts.0 (and_from _ _ rest.0 (ap (λ f. is_replaced (standing f)) (a.0.0 (over_taken p a.1 rest.1))))))
      (owed g e.t) (both_true Turned (λ p. (r : Pair → Bool) → r p ≡ true → list_any r (owed g e.t) ≡ true) (owed g e.t) all_turned (each_any (owed g e.t))) k

  -- of a pair that went over
  ends_m : is_none (end_by e.what (confirmed_intent e.what g) m) ≡ false
  ends_m = (subst (AllByRecursion (Ends e.what (confirmed_intent e.what g))) makes (ends_by e.what (confirmed_intent e.what g))).0 m pair

  abbrev over : Pair → Lease → Pair → Bool
  over p y r = (r.lease.intent.n == p.lease.intent.n) && ((r.version.ver == p.version.ver) && same_pair y.intent r.lease.intent)

  legal_event : (p : Pair) (w : WentOver h p) → Legal (w.event ∷ w.before)
  legal_event p w = legal_behind w.later (w.event ∷ w.before) (subst Legal w.split l)

  -- of the lease that the pair was owed to when it went over
  owed_then : (p : Pair) (w : WentOver h p) (G : Type 0) → ((z : Lease) → Lives w.before w.event.t z → is_none (end_by w.event.what (confirmed_intent w.event.what w.before) z) ≡ false → z.intent.n ≡ p.lease.intent.n → G) → G
  owed_then p w G f =
      any_then (Ends w.event.what (confirmed_intent w.event.what w.before)) (λ y. (y.intent.n == w.successor) && list_any (over p y) (owed w.before w.event.t)) G
      (λ y ends a.
      any_then (λ r. Lives w.before w.event.t r.lease) (over p y) G
      (λ r living b.
      let parts = and_parts (r.lease.intent.n == p.lease.intent.n) ((r.version.ver == p.version.ver) && same_pair y.intent r.lease.intent) b in
      f r.lease living (ends r.lease (and_parts (r.version.ver == p.version.ver) (same_pair y.intent r.lease.intent) parts.1).1) (eqb-true r.lease.intent.n p.lease.intent.n parts.0))
      (owed w.before w.event.t) (owed_lives_on w.before w.event.t (legal_event p w).0) (and_parts (y.intent.n == w.successor) (list_any (over p y) (owed w.before w.event.t)) a).1)
      (lease_of w.event.what (confirmed_intent w.event.what w.before)) (ends_by w.event.what (confirmed_intent w.event.what w.before)) w.taken

  -- it went over at this event
  taken_here : (p : Pair) (s : ℕ) → p.lease.intent.n ≡ m.intent.n → versions p.version.ver ≡ true → takes_over (λ v. v == p.version.ver) e g s p.lease.intent.n ≡ true → list_any goes (owed g e.t) ≡ true
  taken_here p s number version taken =
      elim (or_cases (by x) (list_any by ls) (sym (ap (list_any by) makes) ∙ taken)) [
        | inl a ↦
            any_more (over p x) goes
            (λ r b.
            let parts = and_parts (r.lease.intent.n == p.lease.intent.n) ((r.version.ver == p.version.ver) && same_pair x.intent r.lease.intent) b in
            let rest = and_parts (r.version.ver == p.version.ver) (same_pair x.intent r.lease.intent) parts.1 in
            and_from _ _ (subst (λ n. (r.lease.intent.n == n) ≡ true) number parts.0) (and_from _ _ (ap versions (eqb-true r.version.ver p.version.ver rest.0) ∙ version) rest.1))
            (owed g e.t) (and_parts (x.intent.n == s) (list_any (over p x) (owed g e.t)) a).1
        | inr b ↦ absurd (false≢true (sym (ap (list_any by) single) ∙ b))
      ]
    where
      by : Lease → Bool
      by y = (y.intent.n == s) && list_any (over p y) (owed g e.t)

  back_at : (p : Pair) → p.lease.intent.n ≡ m.intent.n → versions p.version.ver ≡ true → WentOver h p → list_any goes (owed g e.t) ≡ true
  back_at p number version w =
      elim (places c w.later e w.event g w.before (sym q ∙ w.split)) [
        | inl same ↦ taken_here p w.successor number version ((λ j. takes_over (λ v. v == p.version.ver) (same.0 j) (same.1 j) w.successor p.lease.intent.n) ∙ w.taken)
        | inr apart ↦ elim apart [
          | inl d ↦
              absurd
              (owed_then p w ⊥
              (λ z living ends same.
              not_twice d.0 w.event w.before e.t z m (subst Legal d.1 here.0) (subst (λ k. last_time k ≤ e.t) d.1 (in_time g e here.1)) living ends (subst (λ k. Lives k e.t m) d.1 lives) (same ∙ number)))
          | inr d ↦
              absurd
              (owed_then p w ⊥
              (λ z living ends same.
              not_twice d.0 e g w.event.t m z (subst Legal d.1 (legal_event p w).0) (subst (λ k. last_time k ≤ w.event.t) d.1 (in_time w.before w.event (legal_event p w).1)) lives ends_m (subst (λ k. Lives k w.event.t z) d.1 living) (sym (same ∙ number))))
        ]
      ]

  back : went h t versions m.intent.n ≡ true → list_any goes (owed g e.t) ≡ true
  back k =
      any_then (λ p. fate h p t ≡ HasEnded Replaced → WentOver h p) test (list_any goes (owed g e.t) ≡ true)
      (λ p a b.
      let parts = and_parts (p.lease.intent.n == m.intent.n) (versions p.version.ver && is_replaced (standing (fate h p t))) b in
      let rest = and_parts (versions p.version.ver) (is_replaced (standing (fate h p t))) parts.1 in
      back_at p (eqb-true p.lease.intent.n m.intent.n parts.0) rest.0 (a (replaced_fate (fate h p t) rest.1)))
      (pairs h) (replaced_is_taken h t l le) k

  pub goes_is_went : list_any goes (owed g e.t) ≡ went h t versions m.intent.n
  goes_is_went = both_ways (list_any goes (owed g e.t)) (went h t versions m.intent.n) forth back
