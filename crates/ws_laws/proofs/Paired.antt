-- The numbers of a pair tell it from all others.
use Rattle.std.proofs.Common.{◌≡◌, ℕ, ◌≤◌, ◌<◌, Bool, true, false, cond, not, ◌&&◌, List, [], ◌∷◌, ◌++◌, refl, ap, sym, ◌∙◌, arith}
use Rattle.std.specs.Prelude.{Option, Some, None, map, filter, find, nat_le, bytes_eq, is_none, ◌==◌}
use Rattle.std.specs.List.{AllByRecursion}
use Rattle.std.specs.Option.{option_map}
use Rattle.std.proofs.lemmas.Bool.{and_parts, false≢true, false_from_ne_true, eqb-true, ltb-true}
use Rattle.ws_model.specs.declared.event.What.TheVariants.{Confirmed, Fetched}
use Rattle.ws_model.specs.declared.event.Event.{Event}
use Rattle.ws_model.specs.declared.event.Intent.{Intent}
use Rattle.ws_model.specs.declared.event.Version.{Version}
use Rattle.ws_model.specs.declared.event.What.{What}
use Rattle.ws_model.specs.declared.lease.Lease.{Lease}
use Rattle.ws_laws.proofs.Advance.{is_owed_parts}
use Rattle.ws_laws.proofs.Apart.{one_live, same_pair_via}
use Rattle.ws_laws.proofs.Ended.{IsToldPair, both_true, is_numbered, pairs_told}
use Rattle.ws_laws.proofs.Known.{IsKnown, IsOfConfirmed, allowed, fetched_le, in_time, itself, leases_confirmed, pairs_known}
use Rattle.ws_laws.proofs.ListLaws.{all_append, all_filter, all_filter_with, all_find, all_from, all_map, all_weaker}
use Rattle.ws_laws.proofs.Step.{IsFresh, new_fresh}
use Rattle.ws_laws.specs.Fates.{AreApart, OneFate}
use Rattle.ws_model.specs.Fate.{Pair, fate, is_done, is_owed, is_push_of, misses}
use Rattle.ws_model.specs.History.{has}
use Rattle.ws_model.specs.Intents.{same_pair}
use Rattle.ws_model.specs.Leases.{confirmed_intent, is_confirmed, is_on, lease_by, lease_end, lease_of, leases, live}
use Rattle.ws_model.specs.Legal.{Legal, accepts, is_allowed}
use Rattle.ws_model.specs.Moment.{last_time, last_version}
use Rattle.ws_model.specs.Pairs.{births, carried, owed, pair, pairs}
use Rattle.ws_model.specs.Verdict.{fate_of, pair_of}
use Rattle.ws_model.specs.Versions.{is_fetched}

-- ---- what no two of a list have in common

module _ {X : Type 0} (like : X → X → Bool) where
  abbrev pub AreUnlike : List X → Type 0
  AreUnlike [] = Unit {0}
  AreUnlike (x ∷ xs) = AllByRecursion (λ y. like x y ≡ false) xs × AreUnlike xs

  pub unlike_append : (xs ys : List X) → AreUnlike xs → AllByRecursion (λ x. AllByRecursion (λ y. like x y ≡ false) ys) xs → AreUnlike ys → AreUnlike (xs ++ ys)
  unlike_append [] ys a b c = c
  unlike_append (x ∷ xs) ys a b c = (all_append (λ y. like x y ≡ false) xs ys a.0 b.0, unlike_append xs ys a.1 b.1 c)

  pub unlike_filter : (p : X → Bool) (xs : List X) → AreUnlike xs → AreUnlike (filter p xs)
  unlike_filter p [] a = tt
  unlike_filter p (x ∷ xs) a = one (p x) (all_filter (λ y. like x y ≡ false) p xs a.0) (unlike_filter p xs a.1)
    where
      one : (b : Bool) → AllByRecursion (λ y. like x y ≡ false) (filter p xs) → AreUnlike (filter p xs) → AreUnlike (cond b (x ∷ filter p xs) (filter p xs))
      one true f r = (f, r)
      one false f r = r

  -- what a test finds stays found in a filter that keeps it
  pub found_kept : (p q : X → Bool) (x : X) (xs : List X) → find p xs ≡ Some x → q x ≡ true → find p (filter q xs) ≡ Some x
  found_kept p q x [] e k = absurd (grind arith)
  found_kept p q x (y ∷ ys) e k = one (p y) refl e (found_kept p q x ys)
    where
      skipped : (c : Bool) → p y ≡ false → find p (filter q ys) ≡ Some x → find p (cond c (y ∷ filter q ys) (filter q ys)) ≡ Some x
      skipped true n f = rw n f
      skipped false n f = f

      kept : (b : Bool) → q y ≡ b → p y ≡ true → y ≡ x → find p (cond b (y ∷ filter q ys) (filter q ys)) ≡ Some x
      kept true c n s = rw n (ap (λ z. Some z) s)
      kept false c n s = absurd (false≢true (sym c ∙ ap q s ∙ k))

      one : (b : Bool) → p y ≡ b → cond b (Some y) (find p ys) ≡ Some x → (find p ys ≡ Some x → q x ≡ true → find p (filter q ys) ≡ Some x) → find p (filter q (y ∷ ys)) ≡ Some x
      one true n f r = let s : y ≡ x = cc in kept (q y) refl n s
      one false n f r = skipped (q y) n (r f k)

-- ---- leases have numbers of their own

abbrev pub same_number : Lease → Lease → Bool
same_number l m = l.intent.n == m.intent.n

new_numbered : (e : Event) (h : List Event) → accepts h e ≡ true → AllByRecursion (λ (l : Lease). AllByRecursion (λ (m : Lease). same_number l m ≡ false) (leases h)) (lease_of e.what (confirmed_intent e.what h))
new_numbered e h k =
    all_weaker (IsFresh e h) (λ (l : Lease). AllByRecursion (λ (m : Lease). same_number l m ≡ false) (leases h))
    (λ l f. all_weaker (IsOfConfirmed h) (λ (m : Lease). same_number l m ≡ false)
    (λ m c. false_from_ne_true _ (λ r. false≢true (sym f.unconfirmed ∙ ap (λ x. has (is_confirmed x) h) (eqb-true l.intent.n m.intent.n r) ∙ c))) (leases h) (leases_confirmed h))
    _ (new_fresh e.what e.serial e.t h (allowed h e k))

alone : (w : What) (o : Option Intent) → AreUnlike same_number (lease_of w o)
alone (Confirmed n sent) None = tt
alone (Confirmed n sent) (Some i) = one (is_on i.mode)
  where
    one : (b : Bool) → AreUnlike same_number (cond b (record { intent = i; sent = sent } ∷ []) [])
    one true = (tt, tt)
    one false = tt
alone _ o = tt

pub leases_numbered : (h : List Event) → Legal h → AreUnlike same_number (leases h)
leases_numbered [] l = tt
leases_numbered (e ∷ h) l = unlike_append same_number (lease_of e.what (confirmed_intent e.what h)) (leases h) (alone e.what (confirmed_intent e.what h)) (new_numbered e h l.1) (leases_numbered h l.0)

-- ---- an owed pair's lease is live

pub owed_lives : (h : List Event) (t : ℕ) (p : Pair) → IsToldPair h p → is_owed (fate h p t) ≡ true → find (is_numbered p.lease.intent.n) (live h t) ≡ Some p.lease
owed_lives h t p told k =
    found_kept same_number (is_numbered p.lease.intent.n) (λ l. is_none (lease_end h l t)) p.lease (leases h) told
    (and_parts (not (has (is_push_of is_done p) h) && not (nat_le 8 (misses h p))) (is_none (lease_end h p.lease t)) (sym (is_owed_parts _ _ (lease_end h p.lease t) _) ∙ k)).1

-- the live lease of a topic and a callback, found by them
found_by_pair : (i : Intent) (n : ℕ) (x : Lease) (ls : List Lease) → AreApart ls → find (is_numbered n) ls ≡ Some x → same_pair i x.intent ≡ true → find (λ m. same_pair i m.intent) ls ≡ Some x
found_by_pair i n x [] a e k = absurd (grind arith)
found_by_pair i n x (y ∷ ys) a e k = one (is_numbered n y) refl e (found_by_pair i n x ys a.1)
  where
    differs : find (is_numbered n) ys ≡ Some x → same_pair i y.intent ≡ false
    differs f =
        let apart : same_pair y.intent x.intent ≡ false = (all_find (λ (m : Lease). same_pair y.intent m.intent ≡ false) (is_numbered n) x ys a.0 f).0 in
        false_from_ne_true _ (λ s. false≢true (sym apart ∙ same_pair_via i y.intent x.intent s k))

    one : (b : Bool) → is_numbered n y ≡ b → cond b (Some y) (find (is_numbered n) ys) ≡ Some x → (find (is_numbered n) ys ≡ Some x → same_pair i x.intent ≡ true → find (λ m. same_pair i m.intent) ys ≡ Some x) → find (λ m. same_pair i m.intent) (y ∷ ys) ≡ Some x
    one true c f r =
        let s : y ≡ x = cc in
        let m : same_pair i y.intent ≡ true = ap (λ (z : Lease). same_pair i z.intent) s ∙ k in
        rw m (ap (λ z. Some z) s)
    one false c f r = rw (differs f) (r f k)

-- ---- pairs have numbers of their own

abbrev pub same_numbers : Pair → Pair → Bool
same_numbers p q = (p.version.ver == q.version.ver) && (p.lease.intent.n == q.lease.intent.n)

abbrev IsOnly : List Pair → Pair → Type 0
IsOnly ps p = find (λ (q : Pair). (q.version.ver == p.version.ver) && (q.lease.intent.n == p.lease.intent.n)) ps ≡ Some p

unlike_only : (ps : List Pair) → AreUnlike same_numbers ps → AllByRecursion (IsOnly ps) ps
unlike_only [] a = tt
unlike_only (p ∷ ps) a = (
  rw (itself p.version.ver, itself p.lease.intent.n),
  all_weaker (λ q. (same_numbers p q ≡ false) × IsOnly ps q) (IsOnly (p ∷ ps)) (λ q k. rw k.0 k.1) ps
      (both_true (λ q. same_numbers p q ≡ false) (IsOnly ps) ps a.0 (unlike_only ps a.1)),
)

and_false_left : (a b : Bool) → a ≡ false → (a && b) ≡ false
and_false_left a b k = rw k

and_false_right : (a b : Bool) → b ≡ false → (a && b) ≡ false
and_false_right true b k = k
and_false_right false b k = refl

-- of a new version
versions_apart : (t : ℕ) (v : Version) (ls : List Lease) → AreUnlike same_number ls → AreUnlike same_numbers (map (pair t v) ls)
versions_apart t v [] a = tt
versions_apart t v (l ∷ ls) a = (
  all_map (λ q. same_numbers (pair t v l) q ≡ false) (pair t v) ls
      (all_weaker (λ (m : Lease). same_number l m ≡ false) (λ m. same_numbers (pair t v l) (pair t v m) ≡ false) (λ m k. and_false_right (v.ver == v.ver) _ k) ls a.0),
  versions_apart t v ls a.1,
)

-- of a new lease, where all that goes over comes from one lease
module _ (t : ℕ) (l : Lease) (o : Option Lease) where
  leases_apart : (ps : List Pair) → AreUnlike same_numbers ps → AllByRecursion (λ (p : Pair). o ≡ Some p.lease) ps → AreUnlike same_numbers (map (λ p. pair t p.version l) ps)
  leases_apart [] a b = tt
  leases_apart (p ∷ ps) a b = (
    all_map (λ q. same_numbers (pair t p.version l) q ≡ false) (λ q. pair t q.version l) ps
        (all_weaker (λ (q : Pair). (same_numbers p q ≡ false) × (o ≡ Some q.lease)) (λ q. same_numbers (pair t p.version l) (pair t q.version l) ≡ false)
        (λ q k. and_false_left (p.version.ver == q.version.ver) (l.intent.n == l.intent.n) (differs q k.0 k.1)) ps
        (both_true (λ (q : Pair). same_numbers p q ≡ false) (λ (q : Pair). o ≡ Some q.lease) ps a.0 b.1)),
    leases_apart ps a.1 b.1,
  )
    where
      parted : (b c : Bool) → (b && c) ≡ false → c ≡ true → b ≡ false
      parted true c k e = sym (sym k ∙ e)
      parted false c k e = refl

      differs : (q : Pair) → same_numbers p q ≡ false → o ≡ Some q.lease → (p.version.ver == q.version.ver) ≡ false
      differs q k e =
          let f : Some p.lease ≡ Some q.lease = sym b.0 ∙ e in
          let s : p.lease ≡ q.lease = cc in
          parted (p.version.ver == q.version.ver) (p.lease.intent.n == q.lease.intent.n) k (ap (λ (m : Lease). p.lease.intent.n == m.intent.n) (sym s) ∙ itself p.lease.intent.n)

-- ---- all pairs

abbrev IsNew : List Event → Pair → Type 0
IsNew h p = AllByRecursion (λ q. same_numbers p q ≡ false) (pairs h)

-- a pair of a version that wasn't fetched
unfetched_new : (h : List Event) (p : Pair) → has (is_fetched p.version.ver) h ≡ false → IsNew h p
unfetched_new h p k =
    all_weaker (IsKnown h) (λ q. same_numbers p q ≡ false)
    (λ q known. and_false_left (p.version.ver == q.version.ver) (p.lease.intent.n == q.lease.intent.n)
    (false_from_ne_true _ (λ y. false≢true (sym k ∙ ap (λ x. has (is_fetched x) h) (eqb-true p.version.ver q.version.ver y) ∙ known.fetched))))
    (pairs h) (pairs_known h)

-- a pair of a lease that wasn't confirmed
unconfirmed_new : (h : List Event) (p : Pair) → has (is_confirmed p.lease.intent.n) h ≡ false → IsNew h p
unconfirmed_new h p k =
    all_weaker (IsKnown h) (λ q. same_numbers p q ≡ false)
    (λ q known. and_false_right (p.version.ver == q.version.ver) (p.lease.intent.n == q.lease.intent.n)
    (false_from_ne_true _ (λ y. false≢true (sym k ∙ ap (λ x. has (is_confirmed x) h) (eqb-true p.lease.intent.n q.lease.intent.n y) ∙ known.confirmed))))
    (pairs h) (pairs_known h)

fetched_apart : (v : Version) (t : ℕ) (h : List Event) → Legal h → AreUnlike same_numbers (births t (Fetched v) None (live h t) (owed h t))
fetched_apart v t h l =
    versions_apart t v (filter (λ m. bytes_eq m.intent.topic v.topic) (live h t))
    (unlike_filter same_number (λ m. bytes_eq m.intent.topic v.topic) (live h t) (unlike_filter same_number (λ m. is_none (lease_end h m t)) (leases h) (leases_numbered h l)))

fetched_new : (v : Version) (t : ℕ) (h : List Event) → is_allowed (Fetched v) t h ≡ true → AllByRecursion (IsNew h) (births t (Fetched v) None (live h t) (owed h t))
fetched_new v t h k =
    let new : has (is_fetched v.ver) h ≡ false = false_from_ne_true _ (λ y. let a : v.ver ≤ last_version h = fetched_le h v.ver y in let b : last_version h < v.ver = ltb-true _ _ k in absurd (omega arith)) in
    let ls : List Lease = filter (λ m. bytes_eq m.intent.topic v.topic) (live h t) in
    all_map (IsNew h) (pair t v) ls (all_from (λ m. IsNew h (pair t v m)) (λ m. unfetched_new h (pair t v m) new) ls)

-- the pairs that go over to a lease come from the one live lease of its topic and callback
from_one : (h : List Event) (t : ℕ) (i : Intent) → Legal h → last_time h ≤ t
    → AllByRecursion (λ (p : Pair). find (λ (m : Lease). same_pair i m.intent) (live h t) ≡ Some p.lease) (filter (λ p. same_pair i p.lease.intent) (owed h t))
from_one h t i l le =
    all_weaker (λ (p : Pair). (IsToldPair h p × (is_owed (fate h p t) ≡ true)) × (same_pair i p.lease.intent ≡ true)) (λ (p : Pair). find (λ (m : Lease). same_pair i m.intent) (live h t) ≡ Some p.lease)
    (λ p k. found_by_pair i p.lease.intent.n p.lease (live h t) (one_live h t l le) (owed_lives h t p k.0.0 k.0.1) k.1)
    (filter (λ p. same_pair i p.lease.intent) (owed h t))
    (all_filter_with (λ (p : Pair). IsToldPair h p × (is_owed (fate h p t) ≡ true)) (λ p. same_pair i p.lease.intent) (owed h t)
    (all_filter_with (IsToldPair h) (λ p. is_owed (fate h p t)) (pairs h) (pairs_told h l)))

carried_apart : (h : List Event) (t : ℕ) → Legal h → last_time h ≤ t → AreUnlike same_numbers (pairs h) → (ls : List Lease) → AreUnlike same_numbers (carried t (owed h t) ls)
carried_apart h t l le a [] = tt
carried_apart h t l le a (x ∷ xs) =
    leases_apart t x (find (λ (m : Lease). same_pair x.intent m.intent) (live h t)) (filter (λ p. same_pair x.intent p.lease.intent) (owed h t))
    (unlike_filter same_numbers (λ p. same_pair x.intent p.lease.intent) (owed h t) (unlike_filter same_numbers (λ p. is_owed (fate h p t)) (pairs h) a))
    (from_one h t x.intent l le)

carried_new : (e : Event) (h : List Event) (t : ℕ) (ls : List Lease) → AllByRecursion (IsFresh e h) ls → AllByRecursion (IsNew h) (carried t (owed h t) ls)
carried_new e h t [] f = tt
carried_new e h t (x ∷ xs) f =
    let ps : List Pair = filter (λ p. same_pair x.intent p.lease.intent) (owed h t) in
    all_map (IsNew h) (λ p. pair t p.version x) ps (all_from (λ p. IsNew h (pair t p.version x)) (λ p. unconfirmed_new h (pair t p.version x) f.0.unconfirmed) ps)

born_apart : (w : What) (t : ℕ) (h : List Event) → Legal h → last_time h ≤ t → AreUnlike same_numbers (pairs h) → AreUnlike same_numbers (births t w (confirmed_intent w h) (live h t) (owed h t))
born_apart (Fetched v) t h l le a = fetched_apart v t h l
born_apart (Confirmed n sent) t h l le a = carried_apart h t l le a (lease_by sent (confirmed_intent (Confirmed n sent) h))
born_apart _ t h l le a = tt

born_new : (w : What) (s t : ℕ) (h : List Event) → is_allowed w t h ≡ true → AllByRecursion (IsNew h) (births t w (confirmed_intent w h) (live h t) (owed h t))
born_new (Fetched v) s t h k = fetched_new v t h k
born_new (Confirmed n sent) s t h k =
    carried_new (record { serial = s; t = t; what = Confirmed n sent }) h t (lease_by sent (confirmed_intent (Confirmed n sent) h)) (new_fresh (Confirmed n sent) s t h k)
born_new _ s t h k = tt

pub pairs_apart : (h : List Event) → Legal h → AreUnlike same_numbers (pairs h)
pairs_apart [] l = tt
pairs_apart (e ∷ h) l =
    let before : last_time h ≤ e.t = in_time h e l.1 in
    let old = pairs_apart h l.0 in
    unlike_append same_numbers (births e.t e.what (confirmed_intent e.what h) (live h e.t) (owed h e.t)) (pairs h)
    (born_apart e.what e.t h l.0 before old) (born_new e.what e.serial e.t h (allowed h e l.1)) old

pub pairs_only : (h : List Event) → Legal h → AllByRecursion (λ p. pair_of h p.version.ver p.lease.intent.n ≡ Some p) (pairs h)
pairs_only h l = unlike_only (pairs h) (pairs_apart h l)

pub one_fate : OneFate
one_fate h t l =
    all_weaker (λ p. pair_of h p.version.ver p.lease.intent.n ≡ Some p) (λ p. fate_of h p.version.ver p.lease.intent.n t ≡ Some (fate h p t))
    (λ p k. ap (option_map (λ q. fate h q t)) k) (pairs h) (pairs_only h l)
