-- A lease that is kept was confirmed, and one that was revoked is kept for its owed notice alone.
use Rattle.std.proofs.Common.{◌≡◌, ℕ, ◌≤◌, Bool, true, false, cond, ◌||◌, List, [], ◌∷◌, ◌++◌, ap, sym, ◌∙◌, subst, arith, inl, inr, ◌⊎◌}
use Rattle.std.specs.Prelude.{is_none, Option, Some, None, map, filter, find, ◌==◌}
use Rattle.std.specs.List.{AllByRecursion, list_any}
use Rattle.std.proofs.lemmas.Bool.{eqb-true, false_from_ne_true, false≢true, or_cases, or_left, or_right}
use Rattle.ws_model.specs.declared.event.Event.{Event}
use Rattle.ws_model.specs.declared.event.Intent.{Intent}
use Rattle.ws_model.specs.declared.event.What.{What}
use Rattle.ws_model.specs.declared.event.What.TheVariants.{Revoked}
use Rattle.ws_model.specs.declared.lease.Lease.{Lease}
use Rattle.ws_compaction.proofs.Replaced.{added, any-map, filter_members, from_replaced, live_first, member_cases, none_before, older_confirmed, replaced_ends, revoked_of}
use Rattle.ws_laws.proofs.Denied.{is_revoked, revoked_gone}
use Rattle.ws_laws.proofs.Ended.{IsTold, is_numbered, leases_told}
use Rattle.ws_laws.proofs.Known.{IsOfConfirmed, allowed, in_time, itself, leases_confirmed}
use Rattle.ws_laws.proofs.ListLaws.{all_filter, all_filter_with, all_find, all_from, all_weaker, any_then}
use Rattle.ws_laws.proofs.Paired.{owed_lives}
use Rattle.ws_model.specs.History.{has}
use Rattle.ws_model.specs.Intents.{notices}
use Rattle.ws_model.specs.Keep.{first_kept, member, numbers, with_replaced}
use Rattle.ws_model.specs.Leases.{confirmed_intent, first_end, is_confirmed, lease_end, lease_of, leases, live}
use Rattle.ws_model.specs.Legal.{Legal, is_allowed}
use Rattle.ws_model.specs.Moment.{last_time}

-- ---- a revoked number is of a lease

pub any_filter : {X : Type 0} (p q : X → Bool) (xs : List X) → list_any q (filter p xs) ≡ true → list_any q xs ≡ true
any_filter p q [] k = k
any_filter p q (x ∷ xs) k = one (p x) k (any_filter p q xs)
  where
    one : (b : Bool) → list_any q (cond b (x ∷ filter p xs) (filter p xs)) ≡ true → (list_any q (filter p xs) ≡ true → list_any q xs ≡ true) → (q x || list_any q xs) ≡ true
    one true k rest = elim (or_cases (q x) (list_any q (filter p xs)) k) [ inl a ↦ or_left _ _ a | inr a ↦ or_right (q x) _ (rest a) ]
    one false k rest = or_right (q x) _ (rest k)

any_append : {X : Type 0} (q : X → Bool) (xs ys : List X) → list_any q ys ≡ true → list_any q (xs ++ ys) ≡ true
any_append q [] ys k = k
any_append q (x ∷ xs) ys k = or_right (q x) _ (any_append q xs ys k)

revoked_one : (w : What) (t : ℕ) (g : List Event) (n : ℕ) → is_allowed w t g ≡ true → is_revoked n w ≡ true → list_any (is_numbered n) (leases g) ≡ true
revoked_one (Revoked m reason) t g n k r = subst (λ x. list_any (is_numbered x) (leases g) ≡ true) (eqb-true m n r) (any_filter (λ l. is_none (lease_end g l t)) (is_numbered m) (leases g) k)
revoked_one _ t g n k r = absurd (false≢true r)

revoked_leased : (h : List Event) → Legal h → (n : ℕ) → has (is_revoked n) h ≡ true → list_any (is_numbered n) (leases h) ≡ true
revoked_leased [] l n k = absurd (false≢true k)
revoked_leased (e ∷ h) l n k =
    any_append (is_numbered n) (lease_of e.what (confirmed_intent e.what h)) (leases h)
    (elim (or_cases (is_revoked n e.what) (has (is_revoked n) h) k) [
      | inl a ↦ revoked_one e.what e.t h n (allowed h e l.1) a
      | inr a ↦ revoked_leased h l.0 n a
    ])

-- a revoked lease with an owed notice is kept from the first
pub revoked_kept : (h : List Event) (t : ℕ) → Legal h → (n : ℕ) → has (is_revoked n) h ≡ true → list_any (λ (i : Intent). i.n == n) (notices h) ≡ true
    → member n (numbers (filter (λ l. list_any (λ i. i.n == l.intent.n) (notices h)) (leases h))) ≡ true
revoked_kept h t l n r k =
    let q : Lease → Bool = λ x. list_any (λ i. i.n == x.intent.n) (notices h) in
    any_then (λ (x : Lease). q x ≡ true → member x.intent.n (map (λ y. y.intent.n) (filter q (leases h))) ≡ true) (is_numbered n) (member n (numbers (filter q (leases h))) ≡ true)
    (λ x f e.
    let same : x.intent.n ≡ n = eqb-true x.intent.n n e in
    subst (λ m. member m (numbers (filter q (leases h))) ≡ true) same (f (subst (λ m. list_any (λ (i : Intent). i.n == m) (notices h) ≡ true) (sym same) k)))
    (leases h) (filter_members (λ x. x.intent.n) q (leases h)) (revoked_leased h l n r)

-- ---- a revoked lease was never replaced

-- each lease of the number has no end yet
abbrev IsOpen : List Event → ℕ → Type 0
IsOpen g n = AllByRecursion (λ (l : Lease). l.intent.n ≡ n → first_end g l ≡ None) (leases g)

abbrev IsRevokedOrOpen : List Event → ℕ → Type 0
IsRevokedOrOpen g n = (has (is_revoked n) g ≡ true) ⊎ IsOpen g n

all_after : {X : Type 0} (P : X → Type 0) (xs ys : List X) → AllByRecursion P (xs ++ ys) → AllByRecursion P ys
all_after P [] ys a = a
all_after P (x ∷ xs) ys a = all_after P xs ys a.1

open_before : (e : Event) (g : List Event) (n : ℕ) → IsOpen (e ∷ g) n → IsOpen g n
open_before e g n o =
    all_weaker (λ (l : Lease). l.intent.n ≡ n → first_end (e ∷ g) l ≡ None) (λ (l : Lease). l.intent.n ≡ n → first_end g l ≡ None) (λ l f k. none_before (first_end g l) _ (f k)) (leases g)
    (all_after (λ (l : Lease). l.intent.n ≡ n → first_end (e ∷ g) l ≡ None) (lease_of e.what (confirmed_intent e.what g)) (leases g) o)

-- before it is revoked, a lease has no end
open_at : (e : Event) (g : List Event) (n : ℕ) → Legal (e ∷ g) → is_revoked n e.what ≡ true → IsOpen g n
open_at e g n l r =
    revoked_of e.what e.t n g (IsOpen g n) l.0 (allowed g e l.1) r
    (λ x c told live same.
    all_weaker (IsTold g) (λ (y : Lease). y.intent.n ≡ n → first_end g y ≡ None)
    (λ y toldy k.
    let number : x.intent.n ≡ y.intent.n = same ∙ sym k in
    let there : find (is_numbered x.intent.n) (leases g) ≡ Some y = ap (λ m. find (is_numbered m) (leases g)) number ∙ toldy in
    let one : x ≡ y = cc (told, there) in
    subst (λ z. first_end g z ≡ None) one (live_first (λ v. false) g x e.t (in_time g e l.1) live))
    (leases g) (leases_told g l.0))

before : (e : Event) (g : List Event) (n : ℕ) → Legal (e ∷ g) → IsRevokedOrOpen (e ∷ g) n → IsRevokedOrOpen g n
before e g n l (inl r) = elim (or_cases (is_revoked n e.what) (has (is_revoked n) g) r) [
  | inl now ↦ inr (open_at e g n l now)
  | inr old ↦ inl old
]
before e g n l (inr o) = inr (open_before e g n o)

makes_no_lease : (w : What) (n : ℕ) (o : Option Intent) (x : Lease) → is_revoked n w ≡ true → lease_of w o ≡ x ∷ [] → ⊥
makes_no_lease (Revoked m reason) n o x r k = grind arith
makes_no_lease _ n o x r k = false≢true r

module _ (versions : ℕ → Bool) where
  not_added : (e : Event) (g : List Event) (n : ℕ) → Legal (e ∷ g) → IsRevokedOrOpen (e ∷ g) n → (kept : List ℕ) → member n (added versions kept e g) ≡ true → ⊥
  not_added e g n l s kept k =
      from_replaced versions g l.0 e.what (confirmed_intent e.what g) kept e.t n ⊥
      (λ p known told owed same ends x c q. elim s [
        | inl r ↦ elim (or_cases (is_revoked n e.what) (has (is_revoked n) g) r) [
          | inl now ↦ makes_no_lease e.what n (confirmed_intent e.what g) x now q
          | inr old ↦
              let other : (p.lease.intent.n == n) ≡ false = (all_find (λ (y : Lease). (y.intent.n == n) ≡ false) (is_numbered p.lease.intent.n) p.lease (live g e.t) (revoked_gone g l.0 e.t (in_time g e l.1) n old) (owed_lives g e.t p told owed)).0 in
              false≢true (sym other ∙ ap (λ m. m == n) same ∙ itself n)
        ]
        | inr o ↦
            let closed : is_none (first_end (e ∷ g) p.lease) ≡ false = (replaced_ends versions e g l.0 (in_time g e l.1) kept p.lease told (subst (λ m. member m (added versions kept e g) ≡ true) (sym same) k)).after in
            let there : AllByRecursion (λ (y : Lease). y.intent.n ≡ n → first_end (e ∷ g) y ≡ None) (leases g) = all_after (λ (y : Lease). y.intent.n ≡ n → first_end (e ∷ g) y ≡ None) (lease_of e.what (confirmed_intent e.what g)) (leases g) o in
            let none : first_end (e ∷ g) p.lease ≡ None = (all_find (λ (y : Lease). y.intent.n ≡ n → first_end (e ∷ g) y ≡ None) (is_numbered p.lease.intent.n) p.lease (leases g) there told).0 same in
            false≢true (sym closed ∙ ap is_none none)
      ])
      k

  unreplaced : (g : List Event) (n : ℕ) → Legal g → IsRevokedOrOpen g n → (kept : List ℕ) → member n (with_replaced versions kept g) ≡ true → member n kept ≡ true
  unreplaced [] n l s kept k = k
  unreplaced (e ∷ g) n l s kept k =
      elim (member_cases n (added versions kept e g) kept (unreplaced g n l.0 (before e g n l s) (added versions kept e g ++ kept) k)) [
        | inl a ↦ absurd (not_added e g n l s kept a)
        | inr b ↦ b
      ]

  -- a kept lease without an owed notice wasn't revoked
  pub kept_unrevoked : (h : List Event) (t n : ℕ) → Legal h → last_time h ≤ t → member n (with_replaced versions (first_kept h t) h) ≡ true → list_any (λ (i : Intent). i.n == n) (notices h) ≡ false → has (is_revoked n) h ≡ false
  kept_unrevoked h t n l le k none = false_from_ne_true _ (λ r.
      elim (member_cases n (numbers (live h t)) (numbers (filter (λ x. list_any (λ i. i.n == x.intent.n) (notices h)) (leases h))) (unreplaced h n l (inl r) (first_kept h t) k)) [
        | inl a ↦ any_then (λ (x : Lease). (x.intent.n == n) ≡ false) (is_numbered n) ⊥ (λ x f e. false≢true (sym f ∙ e)) (live h t) (revoked_gone h l t le n r) (sym (any-map (λ (x : Lease). x.intent.n) n (live h t)) ∙ a)
        | inr b ↦
            let q : Lease → Bool = λ x. list_any (λ i. i.n == x.intent.n) (notices h) in
            any_then (λ (x : Lease). Unit {0} × (q x ≡ true)) (is_numbered n) ⊥
            (λ x f e. false≢true (sym none ∙ subst (λ m. list_any (λ (i : Intent). i.n == m) (notices h) ≡ true) (eqb-true x.intent.n n e) f.1))
            (filter q (leases h)) (all_filter_with (λ (x : Lease). Unit {0}) q (leases h) (all_from (λ (x : Lease). Unit {0}) (λ x. tt) (leases h))) (sym (any-map (λ (x : Lease). x.intent.n) n (filter q (leases h))) ∙ b)
      ])

  confirmed_of : (h : List Event) (q : Lease → Bool) (n : ℕ) → member n (numbers (filter q (leases h))) ≡ true → has (is_confirmed n) h ≡ true
  confirmed_of h q n k =
      any_then (IsOfConfirmed h) (is_numbered n) (has (is_confirmed n) h ≡ true) (λ x c e. subst (λ m. has (is_confirmed m) h ≡ true) (eqb-true x.intent.n n e) c)
      (filter q (leases h)) (all_filter (IsOfConfirmed h) q (leases h) (leases_confirmed h)) (sym (any-map (λ (x : Lease). x.intent.n) n (filter q (leases h))) ∙ k)

  -- a kept lease was confirmed
  pub kept_confirmed : (h : List Event) (t n : ℕ) → Legal h → member n (with_replaced versions (first_kept h t) h) ≡ true → has (is_confirmed n) h ≡ true
  kept_confirmed h t n l k = elim (older_confirmed versions h l (first_kept h t) n k) [
    | inl a ↦ elim (member_cases n (numbers (live h t)) (numbers (filter (λ x. list_any (λ i. i.n == x.intent.n) (notices h)) (leases h))) a) [
      | inl b ↦ confirmed_of h (λ x. is_none (lease_end h x t)) n b
      | inr b ↦ confirmed_of h (λ x. list_any (λ i. i.n == x.intent.n) (notices h)) n b
    ]
    | inr a ↦ a
  ]
