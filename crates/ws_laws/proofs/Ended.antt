-- What is not owed stays_pending as it is.
use Rattle.std.proofs.Common.{◌≡◌, ℕ, ◌≤◌, Bool, true, false, cond, not, ◌&&◌, List, [], ◌∷◌, ◌++◌, refl, ap, sym, ◌∙◌, arith}
use Rattle.std.specs.Prelude.{nat_lt, nat_le, is_none, Option, Some, None, filter, find, ◌==◌, bytes_eq}
use Rattle.std.specs.List.{AllByRecursion}
use Rattle.std.proofs.lemmas.Bool.Decides.{nat_tests}
use Rattle.std.proofs.lemmas.Bool.{false≢true, and_parts, false_from_ne_true, eqb-true}
use Rattle.ws_model.specs.declared.event.Event.{Event}
use Rattle.ws_model.specs.declared.event.What.{What}
use Rattle.ws_model.specs.declared.event.What.TheVariants.{Confirmed, Fetched, Pushed}
use Rattle.ws_model.specs.declared.event.How.{How}
use Rattle.ws_model.specs.declared.fate.Cause.{Cause}
use Rattle.ws_model.specs.declared.fate.Cause.TheVariants.{Expired, Spent}
use Rattle.ws_model.specs.declared.fate.Fate.{Fate}
use Rattle.ws_model.specs.declared.fate.Fate.TheVariants.{Owed, Ended}
use Rattle.ws_model.specs.declared.event.Intent.{Intent}
use Rattle.ws_model.specs.declared.lease.Lease.{Lease}
use Rattle.ws_laws.proofs.Advance.{is_owed_parts, owed_later_at}
use Rattle.ws_laws.proofs.Known.{IsKnown, IsOfConfirmed, allowed, in_time, itself, leases_confirmed, pairs_known}
use Rattle.ws_laws.proofs.ListLaws.{all_append, all_filter, all_filter_with, all_from, all_map, all_weaker, any_then}
use Rattle.ws_laws.proofs.Step.{IsFresh, new_fresh}
use Rattle.ws_laws.specs.Fates.{EndedStays}
use Rattle.ws_model.specs.Fate.{Pair, fate, fate_by, is_done, is_miss, is_owed, is_push, misses, next}
use Rattle.ws_model.specs.History.{has, times}
use Rattle.ws_model.specs.Intents.{same_pair}
use Rattle.ws_model.specs.Leases.{cause_of, confirmed_intent, expiry, first_end, is_confirmed, is_on, lease_by, lease_end, lease_of, leases, live, or_else, stamped}
use Rattle.ws_model.specs.Legal.{Legal, accepts, is_allowed}
use Rattle.ws_model.specs.Moment.{last_time}
use Rattle.ws_model.specs.Pairs.{births, carried, owed, pair, pairs}

-- ---- a lease is told by its number

abbrev pub is_numbered : ℕ → Lease → Bool
is_numbered n l = l.intent.n == n

abbrev pub IsTold : List Event → Lease → Type 0
IsTold h l = find (is_numbered l.intent.n) (leases h) ≡ Some l

pub skipped : (n : ℕ) (ls xs : List Lease) → AllByRecursion (λ l. is_numbered n l ≡ false) ls → find (is_numbered n) (ls ++ xs) ≡ find (is_numbered n) xs
skipped n [] xs a = refl
skipped n (l ∷ ls) xs a = rw a.0 (skipped n ls xs a.1)

-- a lease that was there has another number than a new one
pub others : (e : Event) (h : List Event) (k : accepts h e ≡ true) (n : ℕ) → has (is_confirmed n) h ≡ true → AllByRecursion (λ l. is_numbered n l ≡ false) (lease_of e.what (confirmed_intent e.what h))
others e h k n c = all_weaker (IsFresh e h) (λ l. is_numbered n l ≡ false) (λ l f. false_from_ne_true _ (λ r. false≢true (sym f.unconfirmed ∙ ap (λ m. has (is_confirmed m) h) (eqb-true l.intent.n n r) ∙ c))) _ (new_fresh e.what e.serial e.t h (allowed h e k))

told_later : (e : Event) (h : List Event) (k : accepts h e ≡ true) (l : Lease) → IsOfConfirmed h l → IsTold h l → IsTold (e ∷ h) l
told_later e h k l c t = skipped l.intent.n (lease_of e.what (confirmed_intent e.what h)) (leases h) (others e h k l.intent.n c) ∙ t

told_new : (e : Event) (h : List Event) → AllByRecursion (IsTold (e ∷ h)) (lease_of e.what (confirmed_intent e.what h))
told_new e h = of e.what (confirmed_intent e.what h) (leases h)
  where
    of : (w : What) (o : Option Intent) (xs : List Lease) → AllByRecursion (λ l. find (is_numbered l.intent.n) (lease_of w o ++ xs) ≡ Some l) (lease_of w o)
    of (Confirmed n sent) None xs = tt
    of (Confirmed n sent) (Some i) xs = one (is_on i.mode)
      where
        one : (b : Bool) → AllByRecursion (λ l. find (is_numbered l.intent.n) (cond b (record { intent = i; sent = sent } ∷ []) [] ++ xs) ≡ Some l) (cond b (record { intent = i; sent = sent } ∷ []) [])
        one true = (rw (itself i.n), tt)
        one false = tt
    of _ o xs = tt

pub both_true : {X : Type 0} (P Q : X → Type 0) (xs : List X) → AllByRecursion P xs → AllByRecursion Q xs → AllByRecursion (λ x. P x × Q x) xs
both_true P Q [] a b = tt
both_true P Q (x ∷ xs) a b = ((a.0, b.0), both_true P Q xs a.1 b.1)

pub leases_told : (h : List Event) → Legal h → AllByRecursion (IsTold h) (leases h)
leases_told [] l = tt
leases_told (e ∷ h) l =
    all_append (IsTold (e ∷ h)) (lease_of e.what (confirmed_intent e.what h)) (leases h) (told_new e h)
    (all_weaker (λ x. IsOfConfirmed h x × IsTold h x) (IsTold (e ∷ h)) (λ x a. told_later e h l.1 x a.0 a.1) (leases h) (both_true (IsOfConfirmed h) (IsTold h) (leases h) (leases_confirmed h) (leases_told h l.0)))

abbrev pub IsToldPair : List Event → Pair → Type 0
IsToldPair h p = IsTold h p.lease

reborn_told : (g : List Event) (t : ℕ) (ps : List Pair) (ls : List Lease) → AllByRecursion (IsTold g) ls → AllByRecursion (IsToldPair g) (carried t ps ls)
reborn_told g t ps [] a = tt
reborn_told g t ps (l ∷ ls) a = all_map (IsToldPair g) (λ p. pair t p.version l) (filter (λ p. same_pair l.intent p.lease.intent) ps) (all_from (λ p. IsToldPair g (pair t p.version l)) (λ p. a.0) (filter (λ p. same_pair l.intent p.lease.intent) ps))

born_told : (g : List Event) (t : ℕ) (w : What) (o : Option Intent) (ls : List Lease) (ps : List Pair) → AllByRecursion (IsTold g) ls → AllByRecursion (IsTold g) (lease_of w o) → AllByRecursion (IsToldPair g) (births t w o ls ps)
born_told g t (Fetched v) o ls ps a b = all_map (IsToldPair g) (pair t v) (filter (λ l. bytes_eq l.intent.topic v.topic) ls) (all_filter (λ l. IsToldPair g (pair t v l)) (λ l. bytes_eq l.intent.topic v.topic) ls a)
born_told g t (Confirmed n sent) o ls ps a b = reborn_told g t ps (lease_by sent o) b
born_told g t _ o ls ps a b = tt

pub pairs_told : (h : List Event) → Legal h → AllByRecursion (IsToldPair h) (pairs h)
pairs_told [] l = tt
pairs_told (e ∷ h) l =
    all_append (IsToldPair (e ∷ h)) (births e.t e.what (confirmed_intent e.what h) (live h e.t) (owed h e.t)) (pairs h)
    (born_told (e ∷ h) e.t e.what (confirmed_intent e.what h) (live h e.t) (owed h e.t)
    (all_filter (IsTold (e ∷ h)) (λ x. is_none (lease_end h x e.t)) (leases h) (all_weaker (λ x. IsOfConfirmed h x × IsTold h x) (IsTold (e ∷ h)) (λ x a. told_later e h l.1 x a.0 a.1) (leases h) (both_true (IsOfConfirmed h) (IsTold h) (leases h) (leases_confirmed h) (leases_told h l.0))))
    (told_new e h))
    (all_weaker (λ p. IsKnown h p × IsToldPair h p) (IsToldPair (e ∷ h)) (λ p a. told_later e h l.1 p.lease a.0.confirmed a.1) (pairs h) (both_true (IsKnown h) (IsToldPair h) (pairs h) (pairs_known h) (pairs_told h l.0)))

-- ---- one more event

-- whether a pair is owed goes by its numbers and its lease
same_owed : (h : List Event) (p q : Pair) (t : ℕ) → p.version.ver ≡ q.version.ver → p.lease ≡ q.lease → is_owed (fate h p t) ≡ is_owed (fate h q t)
same_owed h p q t v l =
    is_owed_parts _ _ (lease_end h p.lease t) _
    ∙ (λ i. not (has (is_push is_done (v i) (l i).intent.n) h) && not (nat_le 8 (times (is_push is_miss (v i) (l i).intent.n) h)) && is_none (lease_end h (l i) t))
    ∙ sym (is_owed_parts _ _ (lease_end h q.lease t) _)

no_push_at : (w : What) (h : List Event) (t : ℕ) (p : Pair) → Legal h → is_allowed w t h ≡ true → IsToldPair h p → is_owed (fate h p t) ≡ false → (test : How → Bool) → is_push test p.version.ver p.lease.intent.n w ≡ false
no_push_at (Pushed v n how) h t p l k told un test = false_from_ne_true _ (λ r.
    let a = and_parts ((v == p.version.ver) && (n == p.lease.intent.n)) (test how) r in
    let b = and_parts (v == p.version.ver) (n == p.lease.intent.n) a.0 in
    any_then (λ q. IsToldPair h q × (is_owed (fate h q t) ≡ true)) (λ q. (q.version.ver == v) && (q.lease.intent.n == n)) ⊥
    (λ q a' e.
    let c = and_parts (q.version.ver == v) (q.lease.intent.n == n) e in
    let ver : p.version.ver ≡ q.version.ver = sym (eqb-true q.version.ver v c.0 ∙ eqb-true v p.version.ver b.0) in
    let no : p.lease.intent.n ≡ q.lease.intent.n = sym (eqb-true q.lease.intent.n n c.1 ∙ eqb-true n p.lease.intent.n b.1) in
    let found : find (is_numbered p.lease.intent.n) (leases h) ≡ Some q.lease = ap (λ m. find (is_numbered m) (leases h)) no ∙ a'.0 in
    let one : p.lease ≡ q.lease = cc (told, found) in
    false≢true (sym un ∙ same_owed h p q t ver one ∙ a'.1))
    (owed h t) (all_filter_with (IsToldPair h) (λ q. is_owed (fate h q t)) (pairs h) (pairs_told h l)) k)
no_push_at _ h t p l k told un test = refl

expired_later : (x t u : ℕ) → t ≤ u → is_none (cond (nat_le x t) (Some Expired) None) ≡ false → cond (nat_le x u) (Some Expired) None ≡ cond (nat_le x t) (Some Expired) None
expired_later x t u a k = grind (arith, nat_tests)

expired_before : (x t s u : ℕ) (c : Cause) → t ≤ s → s ≤ u → is_none (cond (nat_le x t) (Some Expired) None) ≡ false → cond (nat_lt s x) (Some c) (cond (nat_le x u) (Some Expired) None) ≡ cond (nat_le x t) (Some Expired) None
expired_before x t s u c a b k = grind (arith, nat_tests)

pub end_later : (o : Option (ℕ × Cause)) (x t u : ℕ) → t ≤ u → is_none (cause_of o x t) ≡ false → cause_of o x u ≡ cause_of o x t
end_later None x t u a k = expired_later x t u a k
end_later (Some e) x t u a k = one (nat_lt e.0 x) k
  where
    one : (b : Bool) → is_none (cond b (Some e.1) (cond (nat_le x t) (Some Expired) None)) ≡ false → cond b (Some e.1) (cond (nat_le x u) (Some Expired) None) ≡ cond b (Some e.1) (cond (nat_le x t) (Some Expired) None)
    one true k = refl
    one false k = expired_later x t u a k

end_stays : (o : Option (ℕ × Cause)) (x t s u : ℕ) (c : Option Cause) → t ≤ s → s ≤ u → is_none (cause_of o x t) ≡ false → cause_of (or_else o (stamped s c)) x u ≡ cause_of o x t
end_stays None x t s u None a b k = expired_later x t u (omega arith) k
end_stays None x t s u (Some c) a b k = expired_before x t s u c a b k
end_stays (Some e) x t s u c a b k = end_later (Some e) x t u (omega arith) k

abbrev by_cause : ℕ → Option Cause → ℕ → Fate
by_cause m None n = Owed m n
by_cause m (Some c) n = Ended c

fate_at : (m : ℕ) (c : Option Cause) (n : ℕ) → fate_by false m c n ≡ cond (nat_le 8 m) (Ended Spent) (by_cause m c n)
fate_at m None n = refl
fate_at m (Some c) n = refl

pub fate_stays : (d : Bool) (m : ℕ) (c c' : Option Cause) (n n' : ℕ) → (is_none c ≡ false → c' ≡ c) → is_owed (fate_by d m c n) ≡ false → fate_by d m c' n' ≡ fate_by d m c n
fate_stays true m c c' n n' f k = refl
fate_stays false m c c' n n' f k = fate_at m c' n' ∙ one (nat_le 8 m) c f (rw (fate_at m c n) at k) ∙ sym (fate_at m c n)
  where
    one : (b : Bool) (c : Option Cause) → (is_none c ≡ false → c' ≡ c) → is_owed (cond b (Ended Spent) (by_cause m c n)) ≡ false → cond b (Ended Spent) (by_cause m c' n') ≡ cond b (Ended Spent) (by_cause m c n)
    one true c f k = refl
    one false None f k = absurd (false≢true (sym k))
    one false (Some c) f k = ap (λ o. by_cause m o n') (f refl)

pub one_more : (e : Event) (h : List Event) (p : Pair) (t u : ℕ) → Legal (e ∷ h) → t ≤ e.t → e.t ≤ u → IsToldPair h p → is_owed (fate h p t) ≡ false → fate (e ∷ h) p u ≡ fate h p t
one_more e h p t u l a b told un =
    let later : is_owed (fate h p e.t) ≡ false = owed_later_at h p t e.t a ∙ ap (λ x. x && nat_lt e.t (expiry p.lease)) un in
    let none = no_push_at e.what h e.t p l.0 (allowed h e l.1) told later in
    rw (none is_done, none is_miss)
    (fate_stays (has (is_push is_done p.version.ver p.lease.intent.n) h) (misses h p) (lease_end h p.lease t) (lease_end (e ∷ h) p.lease u) (next h p) _
    (λ k. end_stays (first_end h p.lease) (expiry p.lease) t e.t u _ a b k) un)

all_right : {X : Type 0} (P : X → Type 0) (xs ys : List X) → AllByRecursion P (xs ++ ys) → AllByRecursion P ys
all_right P [] ys a = a
all_right P (x ∷ xs) ys a = all_right P xs ys a.1

older : (P : Pair → Type 0) (c h : List Event) → AllByRecursion P (pairs (c ++ h)) → AllByRecursion P (pairs h)
older P [] h a = a
older P (e ∷ c) h a = older P c h (all_right P (births e.t e.what (confirmed_intent e.what (c ++ h)) (live (c ++ h) e.t) (owed (c ++ h) e.t)) (pairs (c ++ h)) a)

in_time_all : (c h : List Event) → AllByRecursion (λ e. e.t ≤ last_time (c ++ h)) c
in_time_all [] h = tt
in_time_all (e ∷ c) h = (omega arith, all_weaker (λ x. x.t ≤ last_time (c ++ h)) (λ x. x.t ≤ last_time (e ∷ (c ++ h))) (λ x k. omega arith) c (in_time_all c h))

pub ended_stays : EndedStays
ended_stays h [] t u l a b le =
    all_from (λ p. is_owed (fate h p t) ≡ false → fate h p u ≡ fate h p t)
    (λ p un. fate_stays (has (is_push is_done p.version.ver p.lease.intent.n) h) (misses h p) (lease_end h p.lease t) (lease_end h p.lease u) (next h p) (next h p) (λ k. end_later (first_end h p.lease) (expiry p.lease) t u le k) un)
    (pairs h)
ended_stays h (e ∷ c) t u l a b le =
    let now : last_time (c ++ h) ≤ e.t = in_time (c ++ h) e l.1 in
    let before = ended_stays h c t e.t l.0 a.1 (all_weaker (λ x. x.t ≤ last_time (c ++ h)) (λ x. x.t ≤ e.t) (λ x k. omega arith) c (in_time_all c h)) a.0 in
    all_weaker (λ p. IsToldPair (c ++ h) p × (is_owed (fate h p t) ≡ false → fate (c ++ h) p e.t ≡ fate h p t)) (λ p. is_owed (fate h p t) ≡ false → fate (e ∷ (c ++ h)) p u ≡ fate h p t)
    (λ p k un. let was = k.1 un in one_more e (c ++ h) p e.t u l (omega arith) b.0 k.0 (ap is_owed was ∙ un) ∙ was)
    (pairs h) (both_true (IsToldPair (c ++ h)) (λ p. is_owed (fate h p t) ≡ false → fate (c ++ h) p e.t ≡ fate h p t) (pairs h) (older (IsToldPair (c ++ h)) c h (pairs_told (c ++ h) l.0)) before)
