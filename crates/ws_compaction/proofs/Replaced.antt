-- Which leases a compaction keeps, and how they end.
use Rattle.std.proofs.Common.{not, ◌≡◌, ℕ, ◌≤◌, Bool, true, false, cond, ◌&&◌, ◌||◌, List, [], ◌∷◌, ◌++◌, refl, ap, sym, ◌∙◌, subst, arith, inl, inr, ◌⊎◌}
use Rattle.std.specs.Prelude.{is_none, Option, Some, None, map, filter, find, ◌==◌}
use Rattle.std.specs.List.{AllByRecursion, list_any}
use Rattle.std.proofs.lemmas.Bool.{false≢true, and_parts, or_cases, or_left, or_right, or_parts, eqb-true, false_from_ne_true}
use Rattle.ws_model.specs.declared.event.Event.{Event}
use Rattle.ws_model.specs.declared.event.Intent.{Intent}
use Rattle.ws_model.specs.declared.event.What.{What}
use Rattle.ws_model.specs.declared.event.What.TheVariants.{Barred, Confirmed, Revoked}
use Rattle.ws_model.specs.declared.fate.Cause.{Cause}
use Rattle.ws_model.specs.declared.lease.Lease.{Lease}
use Rattle.ws_laws.proofs.Advance.{is_owed_parts}
use Rattle.ws_laws.proofs.Denied.{is_barred, is_revoked, not_both, revoked_confirmed}
use Rattle.ws_laws.proofs.Ended.{IsTold, IsToldPair, both_true, is_numbered, leases_told, others, pairs_told, skipped}
use Rattle.ws_laws.proofs.Known.{IsKnown, IsOfConfirmed, allowed, has_later, in_time, itself, leases_confirmed, pairs_known}
use Rattle.ws_laws.proofs.ListLaws.{all_filter_with, all_from, all_weaker, any_then}
use Rattle.ws_laws.proofs.Step.{EndsBy, ended_before, ends_later, first_end_le}
use Rattle.ws_model.specs.Fate.{Pair, fate, is_owed}
use Rattle.ws_model.specs.History.{has}
use Rattle.ws_model.specs.Intents.{asked, is_denied, is_noticed, is_owed_notice, notices, same_pair}
use Rattle.ws_model.specs.Keep.{first_kept, member, numbers, replaced_by, with_replaced}
use Rattle.ws_model.specs.Leases.{cause_of, confirmed_intent, end_by, end_by_mode, expiry, first_end, is_confirmed, is_on, lease_end, lease_of, leases, live, or_else, stamped}
use Rattle.ws_model.specs.Legal.{Legal, is_allowed}
use Rattle.ws_model.specs.Moment.{last_time}
use Rattle.ws_model.specs.Pairs.{owed, pairs}

-- ---- members

pub member_right : (n : ℕ) (xs ys : List ℕ) → member n ys ≡ true → member n (xs ++ ys) ≡ true
member_right n [] ys k = k
member_right n (x ∷ xs) ys k = or_right (x == n) _ (member_right n xs ys k)

pub member_left : (n : ℕ) (xs ys : List ℕ) → member n xs ≡ true → member n (xs ++ ys) ≡ true
member_left n [] ys k = absurd (false≢true k)
member_left n (x ∷ xs) ys k = elim (or_cases (x == n) (member n xs) k) [ inl a ↦ or_left _ _ a | inr a ↦ or_right (x == n) _ (member_left n xs ys a) ]

pub member_cases : (n : ℕ) (xs ys : List ℕ) → member n (xs ++ ys) ≡ true → (member n xs ≡ true) ⊎ (member n ys ≡ true)
member_cases n [] ys k = inr k
member_cases n (x ∷ xs) ys k = elim (or_cases (x == n) (member n (xs ++ ys)) k) [ inl a ↦ inl (or_left _ _ a) | inr a ↦ elim (member_cases n xs ys a) [ inl b ↦ inl (or_right (x == n) _ b) | inr b ↦ inr b ] ]

pub any-map : {X : Type 0} (f : X → ℕ) (n : ℕ) (xs : List X) → member n (map f xs) ≡ list_any (λ x. f x == n) xs
any-map f n [] = refl
any-map f n (x ∷ xs) = ap (λ b. (f x == n) || b) (any-map f n xs)

module _ (versions : ℕ → Bool) where
  -- the numbers that an event adds to those that are kept
  abbrev pub added : List ℕ → Event → List Event → List ℕ
  added kept e g = replaced_by versions kept (owed g e.t) (lease_of e.what (confirmed_intent e.what g))

  pub kept_more : (g : List Event) (kept : List ℕ) (n : ℕ) → member n kept ≡ true → member n (with_replaced versions kept g) ≡ true
  kept_more [] kept n k = k
  kept_more (e ∷ g) kept n k = kept_more g (added kept e g ++ kept) n (member_right n (added kept e g) kept k)

  -- ---- what is carried

  pub owed_facts : (g : List Event) → Legal g → (t : ℕ) → AllByRecursion (λ p. (IsKnown g p × IsToldPair g p) × (is_owed (fate g p t) ≡ true)) (owed g t)
  owed_facts g l t = all_filter_with (λ p. IsKnown g p × IsToldPair g p) (λ p. is_owed (fate g p t)) (pairs g) (both_true (IsKnown g) (IsToldPair g) (pairs g) (pairs_known g) (pairs_told g l))

  -- from a carried number: the pair, and that its lease ends
  pub from_replaced : (g : List Event) → Legal g → (w : What) (o : Option Intent) (kept : List ℕ) (t n : ℕ) (G : Type 0)
      → ((p : Pair) → IsKnown g p → IsToldPair g p → is_owed (fate g p t) ≡ true → p.lease.intent.n ≡ n → is_none (end_by w o p.lease) ≡ false → (l : Lease) → member l.intent.n kept ≡ true → lease_of w o ≡ l ∷ [] → G)
      → member n (replaced_by versions kept (owed g t) (lease_of w o)) ≡ true → G
  from_replaced g l (Confirmed m sent) None kept t n G f k = absurd (false≢true k)
  from_replaced g l (Confirmed m sent) (Some i) kept t n G f k = one (is_on i.mode) refl k
    where
      x : Lease
      x = record { intent = i; sent = sent }

      test : Pair → Bool
      test p = versions p.version.ver && same_pair i p.lease.intent

      two : (b : Bool) → member i.n kept ≡ b → is_on i.mode ≡ true → member n (cond b (map (λ p. p.lease.intent.n) (filter test (owed g t))) []) ≡ true → G
      two false c on k = absurd (false≢true k)
      two true c on k =
          any_then (λ p. ((IsKnown g p × IsToldPair g p) × (is_owed (fate g p t) ≡ true)) × (test p ≡ true)) (λ p. p.lease.intent.n == n) G
          (λ p a e. f p a.0.0.0 a.0.0.1 a.0.1 (eqb-true p.lease.intent.n n e)
          (ap (λ b. is_none (cond b (Some (end_by_mode i.mode)) None)) (and_parts (versions p.version.ver) (same_pair i p.lease.intent) a.1).1)
          x c (ap (λ b. cond b (x ∷ []) []) on))
          (filter test (owed g t)) (all_filter_with (λ p. (IsKnown g p × IsToldPair g p) × (is_owed (fate g p t) ≡ true)) test (owed g t) (owed_facts g l t)) (sym (any-map (λ p. p.lease.intent.n) n (filter test (owed g t))) ∙ k)

      one : (b : Bool) → is_on i.mode ≡ b → member n (replaced_by versions kept (owed g t) (cond b (x ∷ []) [])) ≡ true → G
      one true on k = two (member i.n kept) refl on k
      one false on k = absurd (false≢true k)
  from_replaced g l _ o kept t n G f k = absurd (false≢true k)

  -- a number that is added further down is of a lease that is confirmed there
  pub older_confirmed : (g : List Event) → Legal g → (kept : List ℕ) (n : ℕ) → member n (with_replaced versions kept g) ≡ true → (member n kept ≡ true) ⊎ (has (is_confirmed n) g ≡ true)
  older_confirmed [] l kept n k = inl k
  older_confirmed (e ∷ g) l kept n k =
      elim (older_confirmed g l.0 (added kept e g ++ kept) n k) [
        | inl a ↦ elim (member_cases n (added kept e g) kept a) [
          | inl b ↦ inr (has_later e g (is_confirmed n) (from_replaced g l.0 e.what (confirmed_intent e.what g) kept e.t n (has (is_confirmed n) g ≡ true) (λ p known told ow same ends x c q. subst (λ m. has (is_confirmed m) g ≡ true) same known.confirmed) b))
          | inr b ↦ inl b
        ]
        | inr a ↦ inr (has_later e g (is_confirmed n) a)
      ]

  no_first_end : (o : Option (ℕ × Cause)) (x t : ℕ) → EndsBy t o → is_none (cause_of o x t) ≡ true → o ≡ None
  no_first_end None x t k n = refl
  no_first_end (Some a) x t k n = absurd (false≢true (sym (ended_before a.0 x t a.1 k) ∙ n))

  pub live_first : (g : List Event) (l : Lease) (t : ℕ) → last_time g ≤ t → is_none (lease_end g l t) ≡ true → first_end g l ≡ None
  live_first g l t le k = no_first_end (first_end g l) (expiry l) t (ends_later (last_time g) t _ le (first_end_le g l)) k

  pub owed_live : (g : List Event) (p : Pair) (t : ℕ) → is_owed (fate g p t) ≡ true → is_none (lease_end g p.lease t) ≡ true
  owed_live g p t k = (and_parts _ (is_none (lease_end g p.lease t)) (sym (is_owed_parts _ _ (lease_end g p.lease t) _) ∙ k)).1

  is_ended : (o : Option (ℕ × Cause)) (t : ℕ) (c : Option Cause) → is_none c ≡ false → is_none (or_else o (stamped t c)) ≡ false
  is_ended (Some a) t c k = refl
  is_ended None t (Some c) k = refl
  is_ended None t None k = absurd (false≢true (sym k))

  -- a lease whose number is carried had no end before, and has one after
  pub record IsReplaced (e : Event) (g : List Event) (l : Lease) : Type 0 where
    pub before : first_end g l ≡ None
    pub after : is_none (first_end (e ∷ g) l) ≡ false

  pub replaced_ends : (e : Event) (g : List Event) → Legal g → last_time g ≤ e.t → (kept : List ℕ) (l : Lease) → IsTold g l → member l.intent.n (added kept e g) ≡ true → IsReplaced e g l
  replaced_ends e g lg le kept l told k =
      from_replaced g lg e.what (confirmed_intent e.what g) kept e.t l.intent.n (IsReplaced e g l)
      (λ p known toldp ow same ends x c q.
      let there : find (is_numbered p.lease.intent.n) (leases g) ≡ Some l = ap (λ m. find (is_numbered m) (leases g)) same ∙ told in
      let one : p.lease ≡ l = cc (toldp, there) in
      subst (IsReplaced e g) one
      (record {
        before = live_first g p.lease e.t le (owed_live g p e.t ow);
        after = is_ended (first_end g p.lease) e.t (cond (has (is_confirmed p.lease.intent.n) g) (end_by e.what (confirmed_intent e.what g) p.lease) None) (ap (λ b. is_none (cond b (end_by e.what (confirmed_intent e.what g) p.lease) None)) known.confirmed ∙ ends);
      }))
      k

  -- a number that is added further down is of a lease that has an end there
  pub older_ended : (g : List Event) → Legal g → (kept : List ℕ) (l : Lease) → IsTold g l → member l.intent.n (with_replaced versions kept g) ≡ true → (member l.intent.n kept ≡ true) ⊎ (is_none (first_end g l) ≡ false)
  older_ended [] lg kept l told k = inl k
  older_ended (e ∷ g) lg kept l told k = by (has (is_confirmed l.intent.n) g) refl (λ t. older_ended g lg.0 (added kept e g ++ kept) l t k)
    where
      stays : is_none (first_end g l) ≡ false → is_none (first_end (e ∷ g) l) ≡ false
      stays a = still (first_end g l) (stamped e.t (cond (has (is_confirmed l.intent.n) g) (end_by e.what (confirmed_intent e.what g) l) None)) a
        where
          still : (o d : Option (ℕ × Cause)) → is_none o ≡ false → is_none (or_else o d) ≡ false
          still None d k = absurd (false≢true (sym k))
          still (Some a) d k = refl

      by : (b : Bool) → has (is_confirmed l.intent.n) g ≡ b → (IsTold g l → (member l.intent.n (added kept e g ++ kept) ≡ true) ⊎ (is_none (first_end g l) ≡ false)) → (member l.intent.n kept ≡ true) ⊎ (is_none (first_end (e ∷ g) l) ≡ false)
      by true c f =
          let t : IsTold g l = sym (skipped l.intent.n (lease_of e.what (confirmed_intent e.what g)) (leases g) (others e g lg.1 l.intent.n c)) ∙ told in
          elim (f t) [
            | inl a ↦ elim (member_cases l.intent.n (added kept e g) kept a) [
              | inl b ↦ inr (replaced_ends e g lg.0 (in_time g e lg.1) kept l t b).after
              | inr b ↦ inl b
            ]
            | inr a ↦ inr (stays a)
          ]
      by false c f =
          elim (older_confirmed g lg.0 (added kept e g ++ kept) l.intent.n k) [
            | inl a ↦ elim (member_cases l.intent.n (added kept e g) kept a) [
              | inl b ↦ absurd (false≢true (sym c ∙ from_replaced g lg.0 e.what (confirmed_intent e.what g) kept e.t l.intent.n (has (is_confirmed l.intent.n) g ≡ true) (λ p known toldp ow same ends x c' q. subst (λ m. has (is_confirmed m) g ≡ true) same known.confirmed) b))
              | inr b ↦ inl b
            ]
            | inr a ↦ absurd (false≢true (sym c ∙ a))
          ]

-- ---- the choice

pub self_members : {X : Type 0} (f : X → ℕ) (xs : List X) → AllByRecursion (λ x. member (f x) (map f xs) ≡ true) xs
self_members f [] = tt
self_members f (x ∷ xs) = (or_left _ _ (itself (f x)), all_weaker (λ y. member (f y) (map f xs) ≡ true) (λ y. member (f y) (map f (x ∷ xs)) ≡ true) (λ y k. or_right (f x == f y) _ k) xs (self_members f xs))

pub filter_members : {X : Type 0} (f : X → ℕ) (q : X → Bool) (xs : List X) → AllByRecursion (λ x. q x ≡ true → member (f x) (map f (filter q xs)) ≡ true) xs
filter_members f q [] = tt
filter_members f q (x ∷ xs) = (
  λ k. rw k (or_left _ _ (itself (f x))),
  all_weaker (λ y. q y ≡ true → member (f y) (map f (filter q xs)) ≡ true) (λ y. q y ≡ true → member (f y) (map f (filter q (x ∷ xs))) ≡ true) (λ y g k. more (q x) (f y) (g k)) xs (filter_members f q xs),
)
  where
    more : (b : Bool) (n : ℕ) → member n (map f (filter q xs)) ≡ true → member n (map f (cond b (x ∷ filter q xs) (filter q xs))) ≡ true
    more true n k = or_right (f x == n) _ k
    more false n k = k

pub none_before : (o d : Option (ℕ × Cause)) → or_else o d ≡ None → o ≡ None
none_before None d k = refl
none_before (Some a) d k = absurd (grind arith)

none_now : (o : Option (ℕ × Cause)) (t : ℕ) (c : Option Cause) → or_else o (stamped t c) ≡ None → c ≡ None
none_now o t None k = refl
none_now None t (Some c) k = absurd (grind arith)
none_now (Some a) t (Some c) k = absurd (grind arith)

-- the first end of the lease, if it has one, is a Revoked of it
abbrev pub IsGood : List Event → Lease → Type 0
IsGood [] l = Unit {0}
IsGood (e ∷ g) l = IsGood g l × (has (is_confirmed l.intent.n) g ≡ true → first_end g l ≡ None → (end_by e.what (confirmed_intent e.what g) l ≡ None) ⊎ (is_revoked l.intent.n e.what ≡ true))

pub none_good : (g : List Event) (l : Lease) → first_end g l ≡ None → IsGood g l
none_good [] l k = tt
none_good (e ∷ g) l k = (
  none_good g l (none_before (first_end g l) _ k),
  λ c n. inl (none_now (first_end g l) e.t (end_by e.what (confirmed_intent e.what g) l) (ap (λ z. or_else (first_end g l) (stamped e.t (cond z (end_by e.what (confirmed_intent e.what g) l) None))) (sym c) ∙ k)),
)

-- a Revoked is of a live lease
pub revoked_of : (w : What) (t n : ℕ) (g : List Event) (G : Type 0) → Legal g → is_allowed w t g ≡ true → is_revoked n w ≡ true → ((x : Lease) → IsOfConfirmed g x → IsTold g x → is_none (lease_end g x t) ≡ true → x.intent.n ≡ n → G) → G
revoked_of (Revoked m reason) t n g G l k r f =
    any_then (λ x. (IsOfConfirmed g x × IsTold g x) × (is_none (lease_end g x t) ≡ true)) (λ x. x.intent.n == m) G
    (λ x a e. f x a.0.0 a.0.1 a.1 (eqb-true x.intent.n m e ∙ eqb-true m n r))
    (live g t) (all_filter_with (λ x. IsOfConfirmed g x × IsTold g x) (λ x. is_none (lease_end g x t)) (leases g) (both_true (IsOfConfirmed g) (IsTold g) (leases g) (leases_confirmed g) (leases_told g l))) k
revoked_of _ t n g G l k r f = absurd (false≢true r)

revoked_ends : (w : What) (o : Option Intent) (l : Lease) → is_revoked l.intent.n w ≡ true → is_none (end_by w o l) ≡ false
revoked_ends (Revoked m reason) o l k = rw k
revoked_ends _ o l k = absurd (false≢true k)

still_some : (o d : Option (ℕ × Cause)) → is_none o ≡ false → is_none (or_else o d) ≡ false
still_some None d k = absurd (false≢true (sym k))
still_some (Some a) d k = refl

pub revoked_good : (versions : ℕ → Bool) (g : List Event) → Legal g → (l : Lease) → has (is_revoked l.intent.n) g ≡ true → IsTold g l → IsGood g l × (is_none (first_end g l) ≡ false)
revoked_good versions [] lg l k told = absurd (false≢true k)
revoked_good versions (e ∷ g) lg l k told = elim (or_cases (is_revoked l.intent.n e.what) (has (is_revoked l.intent.n) g) k) [
  | inl a ↦
      let c : has (is_confirmed l.intent.n) g ≡ true = revoked_of e.what e.t l.intent.n g (has (is_confirmed l.intent.n) g ≡ true) lg.0 (allowed g e lg.1) a (λ x c t live same. subst (λ m. has (is_confirmed m) g ≡ true) same c) in
      let t : IsTold g l = sym (skipped l.intent.n (lease_of e.what (confirmed_intent e.what g)) (leases g) (others e g lg.1 l.intent.n c)) ∙ told in
      let none : first_end g l ≡ None =
      revoked_of e.what e.t l.intent.n g (first_end g l ≡ None) lg.0 (allowed g e lg.1) a
      (λ x c' toldx live same.
      let there : find (is_numbered x.intent.n) (leases g) ≡ Some l = ap (λ m. find (is_numbered m) (leases g)) same ∙ t in
      let one : x ≡ l = cc (toldx, there) in
      live_first versions g l e.t (in_time g e lg.1) (subst (λ y. is_none (lease_end g y e.t) ≡ true) one live)) in
      ((none_good g l none, λ _ _. inr a), is_ended versions (first_end g l) e.t (cond (has (is_confirmed l.intent.n) g) (end_by e.what (confirmed_intent e.what g) l) None) (ap (λ b. is_none (cond b (end_by e.what (confirmed_intent e.what g) l) None)) c ∙ revoked_ends e.what (confirmed_intent e.what g) l a))
  | inr a ↦
      let c : has (is_confirmed l.intent.n) g ≡ true = revoked_confirmed g lg.0 l.intent.n a in
      let t : IsTold g l = sym (skipped l.intent.n (lease_of e.what (confirmed_intent e.what g)) (leases g) (others e g lg.1 l.intent.n c)) ∙ told in
      let before = revoked_good versions g lg.0 l a t in
      ((before.0, λ _ n. absurd (false≢true (sym before.1 ∙ ap is_none n))), still_some (first_end g l) _ before.1)
]

-- a number that is denied and was not barred was revoked
revoked_at : (n : ℕ) (w : What) → is_denied n w ≡ true → is_barred n w ≡ false → is_revoked n w ≡ true
revoked_at n (Barred m reason) k b = absurd (false≢true (sym b ∙ k))
revoked_at n (Revoked m reason) k b = k
revoked_at n _ k b = absurd (false≢true k)

pub unbarred_revoked : (n : ℕ) (g : List Event) → has (is_denied n) g ≡ true → has (is_barred n) g ≡ false → has (is_revoked n) g ≡ true
unbarred_revoked n [] k b = absurd (false≢true k)
unbarred_revoked n (e ∷ g) k b =
    let parts = or_parts (is_barred n e.what) (has (is_barred n) g) b in
    elim (or_cases (is_denied n e.what) (has (is_denied n) g) k) [
      | inl a ↦ or_left _ _ (revoked_at n e.what a parts.0)
      | inr a ↦ or_right (is_revoked n e.what) _ (unbarred_revoked n g a parts.1)
    ]

-- an owed notice is of a number that is denied
pub noticed_denied : (h : List Event) (n : ℕ) → list_any (λ (i : Intent). i.n == n) (notices h) ≡ true → has (is_denied n) h ≡ true
noticed_denied h n k =
    any_then (λ i. is_owed_notice h i ≡ true) (λ i. i.n == n) (has (is_denied n) h ≡ true)
    (λ i a e.
    let told : has (is_denied i.n) h ≡ true = (and_parts (has (is_denied i.n) h) (not (has (is_noticed i.n true) h)) (and_parts (has (is_denied i.n) h && not (has (is_noticed i.n true) h)) _ a).0).0 in
    subst (λ m. has (is_denied m) h ≡ true) (eqb-true i.n n e) told)
    (notices h) (all_weaker (λ i. Unit {0} × (is_owed_notice h i ≡ true)) (λ i. is_owed_notice h i ≡ true) (λ i a. a.1) (notices h) (all_filter_with (λ _. Unit {0}) (is_owed_notice h) (asked h) (all_from (λ _. Unit {0}) (λ _. tt) (asked h)))) k

-- a lease with an owed notice was revoked
pub noticed_revoked : (h : List Event) → Legal h → (n : ℕ) → has (is_confirmed n) h ≡ true → list_any (λ (i : Intent). i.n == n) (notices h) ≡ true → has (is_revoked n) h ≡ true
noticed_revoked h l n c k = unbarred_revoked n h (noticed_denied h n k) (false_from_ne_true _ (λ b. not_both h l n c b))

-- the first numbers are of leases with no end, or that were revoked
pub starts_right : (versions : ℕ → Bool) (h : List Event) (t : ℕ) → Legal h → last_time h ≤ t → AllByRecursion (λ x. member x.intent.n (first_kept h t) ≡ true → IsGood h x) (leases h)
starts_right versions h t l le = all_weaker (λ x. IsOfConfirmed h x × IsTold h x) (λ x. member x.intent.n (first_kept h t) ≡ true → IsGood h x) good (leases h) (both_true (IsOfConfirmed h) (IsTold h) (leases h) (leases_confirmed h) (leases_told h l))
  where
    same : (x y : Lease) → IsTold h x → IsTold h y → y.intent.n ≡ x.intent.n → y ≡ x
    same x y toldx toldy e = let there : find (is_numbered y.intent.n) (leases h) ≡ Some x = ap (λ m. find (is_numbered m) (leases h)) e ∙ toldx in cc (there, toldy)

    by_live : (x : Lease) → IsTold h x → member x.intent.n (numbers (live h t)) ≡ true → IsGood h x
    by_live x told k =
        any_then (λ y. IsTold h y × (is_none (lease_end h y t) ≡ true)) (λ y. y.intent.n == x.intent.n) (IsGood h x)
        (λ y a e. subst (IsGood h) (same x y told a.0 (eqb-true y.intent.n x.intent.n e)) (none_good h y (live_first versions h y t le a.1)))
        (live h t) (all_filter_with (IsTold h) (λ y. is_none (lease_end h y t)) (leases h) (leases_told h l)) (sym (any-map (λ y. y.intent.n) x.intent.n (live h t)) ∙ k)

    by_notice : (x : Lease) → IsTold h x → member x.intent.n (numbers (filter (λ y. list_any (λ i. i.n == y.intent.n) (notices h)) (leases h))) ≡ true → IsGood h x
    by_notice x told k =
        any_then (λ y. (IsOfConfirmed h y × IsTold h y) × (list_any (λ i. i.n == y.intent.n) (notices h) ≡ true)) (λ y. y.intent.n == x.intent.n) (IsGood h x)
        (λ y a e. subst (IsGood h) (same x y told a.0.1 (eqb-true y.intent.n x.intent.n e)) (revoked_good versions h l y (noticed_revoked h l y.intent.n a.0.0 a.1) a.0.1).0)
        (filter (λ y. list_any (λ i. i.n == y.intent.n) (notices h)) (leases h))
        (all_filter_with (λ y. IsOfConfirmed h y × IsTold h y) (λ y. list_any (λ i. i.n == y.intent.n) (notices h)) (leases h) (both_true (IsOfConfirmed h) (IsTold h) (leases h) (leases_confirmed h) (leases_told h l)))
        (sym (any-map (λ y. y.intent.n) x.intent.n (filter (λ y. list_any (λ i. i.n == y.intent.n) (notices h)) (leases h))) ∙ k)

    good : (x : Lease) → IsOfConfirmed h x × IsTold h x → member x.intent.n (first_kept h t) ≡ true → IsGood h x
    good x a k = elim (member_cases x.intent.n (numbers (live h t)) (numbers (filter (λ y. list_any (λ i. i.n == y.intent.n) (notices h)) (leases h))) k) [
      | inl b ↦ by_live x a.1 b
      | inr b ↦ by_notice x a.1 b
    ]
