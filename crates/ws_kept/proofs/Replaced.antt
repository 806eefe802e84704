-- Each kept lease is a first one, or a renewal replaced it; and a lease is replaced once.
use Rattle.std.proofs.Common.{◌≡◌, ℕ, ◌≤◌, Bool, true, false, ◌&&◌, ◌||◌, List, [], ◌∷◌, ◌++◌, refl, ap, sym, ◌∙◌, subst, inl, inr}
use Rattle.std.specs.Prelude.{find, is_none, reverse, ◌==◌, Option, Some, None}
use Rattle.std.specs.List.{AllByRecursion, list_any}
use Rattle.std.proofs.lemmas.Bool.{and_from, and_parts, eqb-true, false≢true, or_cases, or_left, or_right}
use Rattle.ws_model.specs.declared.event.Event.{Event}
use Rattle.ws_model.specs.declared.lease.Lease.{Lease}
use Rattle.ws_model.specs.Intents.{same_pair}
use Rattle.ws_model.specs.Keep.{first_kept, kept_leases, member}
use Rattle.ws_model.specs.Leases.{confirmed_intent, end_by, lease_of, live}
use Rattle.ws_model.specs.Legal.{Legal}
use Rattle.ws_model.specs.Moment.{last_time}
use Rattle.ws_model.specs.Verdict.{is_kept_version}
use Rattle.ws_laws.proofs.Known.{in_time, itself}
use Rattle.ws_laws.proofs.ListLaws.{all_append, all_find, all_weaker, any_then}
use Rattle.ws_kept.specs.declared.renewal.Renewal.{Renewal}
use Rattle.ws_kept.specs.Finding.{with_old_ones}
use Rattle.ws_kept.specs.Stands.{renewals, replaces, with_old}
use Rattle.ws_kept.proofs.Lists.{all_reverse}
use Rattle.ws_kept.proofs.Once.{Ends, IsSingle, Lives, all_live, ends_by, legal_behind, not_twice, places, single}
use Rattle.ws_kept.proofs.Renewed.{one_member, passed}
use Rattle.ws_kept.proofs.WentOver.{went}

-- the pass adds only what a renewal replaced
first_or_old : (goes : ℕ → Bool) (first : List ℕ) (rs : List Renewal) (n : ℕ) → member n (with_old_ones goes first rs) ≡ true → (member n first || list_any (λ r. r.replaced.n == n) rs) ≡ true
first_or_old goes first [] n k = or_left (member n first) _ k
first_or_old goes first (r ∷ rs) n k =
    elim (or_cases ((member r.lease (with_old_ones goes first rs) && goes r.replaced.n) && (r.replaced.n == n)) (member n (with_old_ones goes first rs)) (sym (one_member goes (with_old_ones goes first rs) r n) ∙ k)) [
      | inl a ↦ or_right (member n first) _ (or_left (r.replaced.n == n) _ (and_parts (member r.lease (with_old_ones goes first rs) && goes r.replaced.n) (r.replaced.n == n) a).1)
      | inr a ↦ elim (or_cases (member n first) (list_any (λ s. s.replaced.n == n) rs) (first_or_old goes first rs n a)) [
        | inl b ↦ or_left (member n first) _ b
        | inr b ↦ or_right (member n first) _ (or_right (r.replaced.n == n) _ b)
      ]
    ]

-- each lease that is kept at t
pub kept_is : (h : List Event) (t n : ℕ) → Legal h → last_time h ≤ t → member n (kept_leases h t) ≡ true → (member n (first_kept h t) || list_any (λ r. r.replaced.n == n) (reverse (renewals h))) ≡ true
kept_is h t n l le k =
    let versions = is_kept_version h t in
    first_or_old (went h t versions) (first_kept h t) (reverse (renewals h)) n
    (sym (passed h t versions (went h t versions) l le (λ m low. refl) (first_kept h t) (first_kept h t) (λ m. refl) n) ∙ k)

-- ---- the lease that replaced it

-- a new lease that is among those that the pass finds, for each old one that isn't a first one
heir_of : (goes : ℕ → Bool) (first : List ℕ) (rs : List Renewal) (n : ℕ) (G : Type 0) → member n first ≡ false → member n (with_old_ones goes first rs) ≡ true
    → ((r : Renewal) → ((q : Renewal → Bool) → q r ≡ true → list_any q rs ≡ true) → r.replaced.n ≡ n → member r.lease (with_old_ones goes first rs) ≡ true → G) → G
heir_of goes first [] n G none k f = absurd (false≢true (sym none ∙ k))
heir_of goes first (r ∷ rs) n G none k f =
    elim (or_cases ((member r.lease (with_old_ones goes first rs) && goes r.replaced.n) && (r.replaced.n == n)) (member n (with_old_ones goes first rs)) (sym (one_member goes (with_old_ones goes first rs) r n) ∙ k)) [
      | inl a ↦
          let b = and_parts (member r.lease (with_old_ones goes first rs) && goes r.replaced.n) (r.replaced.n == n) a in
          f r (λ q e. or_left (q r) _ e) (eqb-true r.replaced.n n b.1) (more r.lease (and_parts (member r.lease (with_old_ones goes first rs)) (goes r.replaced.n) b.0).0)
      | inr a ↦ heir_of goes first rs n G none a (λ s there same kept. f s (λ q e. or_right (q r) _ (there q e)) same (more s.lease kept))
    ]
  where
    more : (m : ℕ) → member m (with_old_ones goes first rs) ≡ true → member m (with_old_ones goes first (r ∷ rs)) ≡ true
    more m e = one_member goes (with_old_ones goes first rs) r m ∙ or_right ((member r.lease (with_old_ones goes first rs) && goes r.replaced.n) && (r.replaced.n == m)) _ e

-- what is known of a renewal of a history
record IsRenewal (h : List Event) (r : Renewal) : Type 0 where
  later : List Event
  event : Event
  before : List Event
  old : Lease
  split : h ≡ later ++ event ∷ before
  lives : Lives before event.t old
  ends : is_none (end_by event.what (confirmed_intent event.what before) old) ≡ false
  number : old.intent.n ≡ r.replaced.n
  makes : replaces (live before event.t) (lease_of event.what (confirmed_intent event.what before)) ≡ r ∷ []

once_more : (e : Event) (h : List Event) (r : Renewal) → IsRenewal h r → IsRenewal (e ∷ h) r
once_more e h r k =
    record { later = e ∷ k.later; event = k.event; before = k.before; old = k.old; split = ap (λ g. e ∷ g) k.split; lives = k.lives; ends = k.ends; number = k.number; makes = k.makes }

new_renewals : (e : Event) (h : List Event) → Legal h → AllByRecursion (IsRenewal (e ∷ h)) (replaces (live h e.t) (lease_of e.what (confirmed_intent e.what h)))
new_renewals e h l = by (lease_of e.what (confirmed_intent e.what h)) refl (single e.what (confirmed_intent e.what h)) (ends_by e.what (confirmed_intent e.what h))
  where
    by : (ls : List Lease) → lease_of e.what (confirmed_intent e.what h) ≡ ls → IsSingle ls → AllByRecursion (Ends e.what (confirmed_intent e.what h)) ls → AllByRecursion (IsRenewal (e ∷ h)) (replaces (live h e.t) ls)
    by [] k s a = tt
    by (x ∷ ls) k s a = one (find (λ m. same_pair x.intent m.intent) (live h e.t)) refl
      where
        one : (o : Option Lease) → find (λ m. same_pair x.intent m.intent) (live h e.t) ≡ o → AllByRecursion (IsRenewal (e ∷ h)) (with_old x.intent.n o)
        one None f = tt
        one (Some m) f =
            let found = all_find (Lives h e.t) (λ m. same_pair x.intent m.intent) m (live h e.t) (all_live h e.t l) f in (
              record {
                later = [];
                event = e;
                before = h;
                old = m;
                split = refl;
                lives = found.0;
                ends = a.0 m found.1;
                number = refl;
                makes = ap (replaces (live h e.t)) k ∙ ap (with_old x.intent.n) f;
              },
              tt,
            )

all_renewals : (h : List Event) → Legal h → AllByRecursion (IsRenewal h) (renewals h)
all_renewals [] l = tt
all_renewals (e ∷ h) l =
    all_append (IsRenewal (e ∷ h)) (replaces (live h e.t) (lease_of e.what (confirmed_intent e.what h))) (renewals h) (new_renewals e h l.0)
    (all_weaker (IsRenewal h) (IsRenewal (e ∷ h)) (once_more e h) (renewals h) (all_renewals h l.0))

-- a lease is replaced once
one_heir : (h : List Event) (r s : Renewal) → Legal h → IsRenewal h r → IsRenewal h s → r.replaced.n ≡ s.replaced.n → r.lease ≡ s.lease
one_heir h r s l a b same =
    elim (places a.later b.later a.event b.event a.before b.before (sym a.split ∙ b.split)) [
      | inl k ↦
          let rows : r ∷ [] ≡ s ∷ [] = sym a.makes ∙ (λ i. replaces (live (k.1 i) (k.0 i).t) (lease_of (k.0 i).what (confirmed_intent (k.0 i).what (k.1 i)))) ∙ b.makes in
          cc
      | inr apart ↦ elim apart [
        | inl d ↦
            absurd
            (not_twice d.0 b.event b.before a.event.t b.old a.old (subst Legal d.1 (legal_of a).0) (subst (λ g. last_time g ≤ a.event.t) d.1 (in_time a.before a.event (legal_of a).1)) b.lives b.ends
            (subst (λ g. Lives g a.event.t a.old) d.1 a.lives) (b.number ∙ sym same ∙ sym a.number))
        | inr d ↦
            absurd
            (not_twice d.0 a.event a.before b.event.t a.old b.old (subst Legal d.1 (legal_of b).0) (subst (λ g. last_time g ≤ b.event.t) d.1 (in_time b.before b.event (legal_of b).1)) a.lives a.ends
            (subst (λ g. Lives g b.event.t b.old) d.1 b.lives) (a.number ∙ same ∙ sym b.number))
      ]
    ]
  where
    legal_of : {r : Renewal} (k : IsRenewal h r) → Legal (k.event ∷ k.before)
    legal_of k = legal_behind k.later (k.event ∷ k.before) (subst Legal k.split l)

-- ---- an old lease that isn't kept

module _ (h : List Event) (t : ℕ) (l : Legal h) (le : last_time h ≤ t) where
  abbrev all : List Renewal
  all = reverse (renewals h)

  abbrev goes : ℕ → Bool
  goes = went h t (is_kept_version h t)

  as_pass : (n : ℕ) → member n (kept_leases h t) ≡ member n (with_old_ones goes (first_kept h t) all)
  as_pass n = passed h t (is_kept_version h t) goes l le (λ m low. refl) (first_kept h t) (first_kept h t) (λ m. refl) n

  known : AllByRecursion (IsRenewal h) all
  known = all_reverse (IsRenewal h) (renewals h) (all_renewals h l)

  abbrev is_like : Renewal → Renewal → Bool
  is_like x y = (y.lease == x.lease) && (y.replaced.n == x.replaced.n)

  -- a member is known by its numbers
  found : (x : Renewal) (G : Type 0) → ((q : Renewal → Bool) → q x ≡ true → list_any q all ≡ true) → ((y : Renewal) → IsRenewal h y → y.lease ≡ x.lease → y.replaced.n ≡ x.replaced.n → G) → G
  found x G has f =
      any_then (IsRenewal h) (is_like x) G
      (λ y k a. let b = and_parts (y.lease == x.lease) (y.replaced.n == x.replaced.n) a in f y k (eqb-true _ _ b.0) (eqb-true _ _ b.1))
      all known (has (is_like x) (and_from _ _ (itself x.lease) (itself x.replaced.n)))

  module _ (r : Renewal) (there : (q : Renewal → Bool) → q r ≡ true → list_any q all ≡ true) (free : member r.lease (kept_leases h t) ≡ false) (none : member r.replaced.n (first_kept h t) ≡ false) where
    kept_heir : member r.replaced.n (kept_leases h t) ≡ true → ⊥
    kept_heir k =
        heir_of goes (first_kept h t) all r.replaced.n ⊥ none (sym (as_pass r.replaced.n) ∙ k)
        (λ s has same kept.
        found r ⊥ there
        (λ x a lease old.
        found s ⊥ has
        (λ y b other number.
        false≢true
        (sym free
        ∙ ap (λ m. member m (kept_leases h t)) (sym lease ∙ one_heir h x y l a b (old ∙ sym (number ∙ same)) ∙ other)
        ∙ as_pass s.lease ∙ kept))))

    -- where the lease that replaced it isn't kept at t, it isn't either, if it isn't live and no notice of it is owed
    pub free_old : member r.replaced.n (kept_leases h t) ≡ false
    free_old = by (member r.replaced.n (kept_leases h t)) refl
      where
        by : (b : Bool) → member r.replaced.n (kept_leases h t) ≡ b → b ≡ false
        by true k = absurd (kept_heir k)
        by false k = refl
