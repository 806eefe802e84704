-- The pass of a compaction finds the least set of leases.
use Rattle.std.proofs.Common.{◌≡◌, ℕ, Bool, true, false, cond, ◌&&◌, ◌||◌, List, [], ◌∷◌, ◌++◌, refl, ap, sym, ◌∙◌, subst, inl, inr}
use Rattle.std.specs.Prelude.{Option, Some, None, map, filter, ◌==◌}
use Rattle.std.specs.List.{AllByRecursion, list_any}
use Rattle.std.proofs.lemmas.Bool.{and_from, and_parts, eqb-true, false≢true, or_cases, or_left, or_right}
use Rattle.ws_model.specs.declared.event.Event.{Event}
use Rattle.ws_model.specs.declared.event.Intent.{Intent}
use Rattle.ws_model.specs.declared.event.What.{What}
use Rattle.ws_model.specs.declared.event.What.TheVariants.{Confirmed}
use Rattle.ws_model.specs.declared.lease.Lease.{Lease}
use Rattle.ws_compaction.proofs.Fetches.{any_more}
use Rattle.ws_compaction.proofs.Lawful.{any_kept}
use Rattle.ws_compaction.proofs.Replaced.{added, any-map, from_replaced, kept_more, member_cases, member_left, member_right, older_confirmed}
use Rattle.ws_compaction.specs.Least.{IsKeptLease, KeepsLeast, takes_over}
use Rattle.ws_compaction.specs.Least.IsKeptLease.{IsLive, IsNoticed, IsTakenOver}
use Rattle.ws_laws.proofs.Known.{allowed, itself}
use Rattle.ws_laws.proofs.ListLaws.{all_from, any_then}
use Rattle.ws_laws.proofs.Step.{IsFresh, new_fresh}
use Rattle.ws_model.specs.Fate.{Pair}
use Rattle.ws_model.specs.History.{has}
use Rattle.ws_model.specs.Intents.{notices, same_pair}
use Rattle.ws_model.specs.Keep.{first_kept, is_among, kept_leases, member, numbers, replaced_by, with_replaced}
use Rattle.ws_model.specs.Leases.{confirmed_intent, is_confirmed, is_on, lease_of, leases, live}
use Rattle.ws_model.specs.Legal.{Legal}
use Rattle.ws_model.specs.Pairs.{owed}
use Rattle.ws_model.specs.Verdict.{is_kept_version}

-- what passes a test among those that pass another passes both
any_both : {X : Type 0} (q r : X → Bool) (xs : List X) → list_any r (filter q xs) ≡ true → list_any (λ x. r x && q x) xs ≡ true
any_both q r [] k = k
any_both q r (x ∷ xs) k = one (q x) refl k (any_both q r xs)
  where
    one : (b : Bool) → q x ≡ b → list_any r (cond b (x ∷ filter q xs) (filter q xs)) ≡ true → (list_any r (filter q xs) ≡ true → list_any (λ y. r y && q y) xs ≡ true) → ((r x && q x) || list_any (λ y. r y && q y) xs) ≡ true
    one true e k f = elim (or_cases (r x) (list_any r (filter q xs)) k) [ inl a ↦ or_left _ _ (and_from _ _ a e) | inr a ↦ or_right (r x && q x) _ (f a) ]
    one false e k f = or_right (r x && q x) _ (f k)

any_filtered : {X : Type 0} (q r : X → Bool) (xs : List X) → list_any (λ x. r x && q x) xs ≡ true → list_any r (filter q xs) ≡ true
any_filtered q r [] k = k
any_filtered q r (x ∷ xs) k = one (q x) refl (any_filtered q r xs)
  where
    one : (b : Bool) → q x ≡ b → (list_any (λ y. r y && q y) xs ≡ true → list_any r (filter q xs) ≡ true) → list_any r (cond b (x ∷ filter q xs) (filter q xs)) ≡ true
    one true e f = elim (or_cases (r x && q x) (list_any (λ y. r y && q y) xs) k) [ inl a ↦ or_left _ _ (and_parts (r x) (q x) a).0 | inr a ↦ or_right (r x) _ (f a) ]
    one false e f = elim (or_cases (r x && q x) (list_any (λ y. r y && q y) xs) k) [ inl a ↦ absurd (false≢true (sym e ∙ (and_parts (r x) (q x) a).1)) | inr a ↦ f a ]

moved : (c : List Event) (e : Event) (g : List Event) → c ++ e ∷ g ≡ (c ++ e ∷ []) ++ g
moved [] e g = refl
moved (x ∷ c) e g = ap (λ h. x ∷ h) (moved c e g)

-- an event makes one lease at most
abbrev IsSingle : List Lease → Type 0
IsSingle [] = Unit {0}
IsSingle (l ∷ ls) = ls ≡ []

single : (w : What) (o : Option Intent) → IsSingle (lease_of w o)
single (Confirmed n sent) None = tt
single (Confirmed n sent) (Some i) = one (is_on i.mode)
  where
    one : (b : Bool) → IsSingle (cond b (record { intent = i; sent = sent } ∷ []) [])
    one true = refl
    one false = tt
single _ o = tt

module _ (versions : ℕ → Bool) (e : Event) (g : List Event) where
  abbrev goes : Lease → Pair → Bool
  goes l p = versions p.version.ver && same_pair l.intent p.lease.intent

  -- ---- what the pass adds is taken over

  pub record IsAddedBy (kept : List ℕ) (n : ℕ) : Type 0 where
    pub successor : ℕ
    pub is_kept : member successor kept ≡ true
    pub taken : takes_over versions e g successor n ≡ true

  added_by : (kept : List ℕ) (n : ℕ) → member n (added versions kept e g) ≡ true → IsAddedBy kept n
  added_by kept n k = of (lease_of e.what (confirmed_intent e.what g)) refl k
    where
      of : (ls : List Lease) → lease_of e.what (confirmed_intent e.what g) ≡ ls → member n (replaced_by versions kept (owed g e.t) ls) ≡ true → IsAddedBy kept n
      of [] q k = absurd (false≢true k)
      of (l ∷ ls) q k = one (member l.intent.n kept) refl k
        where
          one : (b : Bool) → member l.intent.n kept ≡ b → member n (cond b (map (λ p. p.lease.intent.n) (filter (goes l) (owed g e.t))) []) ≡ true → IsAddedBy kept n
          one false m k = absurd (false≢true k)
          one true m k =
              let over : list_any (λ p. (p.lease.intent.n == n) && goes l p) (owed g e.t) ≡ true = any_both (goes l) (λ p. p.lease.intent.n == n) (owed g e.t) (sym (any-map (λ p. p.lease.intent.n) n (filter (goes l) (owed g e.t))) ∙ k) in
              record {
                successor = l.intent.n;
                is_kept = m;
                taken = ap (list_any (λ x. (x.intent.n == l.intent.n) && list_any (λ p. (p.lease.intent.n == n) && goes x p) (owed g e.t))) q ∙ or_left _ _ (and_from _ _ (itself l.intent.n) over);
              }

  -- ---- what is taken over is added by the pass

  -- the lease that takes over is new, so it was kept before the pass came here
  was_kept : Legal (e ∷ g) → (kept : List ℕ) (l : Lease) → IsFresh e g l → member l.intent.n (with_replaced versions kept (e ∷ g)) ≡ true → member l.intent.n kept ≡ true
  was_kept l kept x fresh k =
      elim (older_confirmed versions g l.0 (added versions kept e g ++ kept) x.intent.n k) [
        | inl a ↦ elim (member_cases x.intent.n (added versions kept e g) kept a) [
          | inl b ↦ absurd (false≢true (sym fresh.unconfirmed ∙ from_replaced versions g l.0 e.what (confirmed_intent e.what g) kept e.t x.intent.n (has (is_confirmed x.intent.n) g ≡ true) (λ p known toldp ow same ends y c q. subst (λ m. has (is_confirmed m) g ≡ true) same known.confirmed) b))
          | inr b ↦ b
        ]
        | inr a ↦ absurd (false≢true (sym fresh.unconfirmed ∙ a))
      ]

  taken_added : Legal (e ∷ g) → (kept : List ℕ) (m n : ℕ) → member m (with_replaced versions kept (e ∷ g)) ≡ true → takes_over versions e g m n ≡ true → member n (with_replaced versions kept (e ∷ g)) ≡ true
  taken_added l kept m n k taken = kept_more versions g (added versions kept e g ++ kept) n (member_left n (added versions kept e g) kept (of (lease_of e.what (confirmed_intent e.what g)) (single e.what (confirmed_intent e.what g)) (new_fresh e.what e.serial e.t g (allowed g e l.1)) taken))
    where
      here : (x : Lease) → IsFresh e g x → ((x.intent.n == m) && list_any (λ p. (p.lease.intent.n == n) && goes x p) (owed g e.t)) ≡ true → member n (cond (member x.intent.n kept) (map (λ p. p.lease.intent.n) (filter (goes x) (owed g e.t))) []) ≡ true
      here x fresh q =
          let parts = and_parts (x.intent.n == m) (list_any (λ p. (p.lease.intent.n == n) && goes x p) (owed g e.t)) q in
          let before : member x.intent.n kept ≡ true = was_kept l kept x fresh (subst (λ i. member i (with_replaced versions kept (e ∷ g)) ≡ true) (sym (eqb-true x.intent.n m parts.0)) k) in
          ap (λ b. member n (cond b (map (λ p. p.lease.intent.n) (filter (goes x) (owed g e.t))) [])) before
          ∙ any-map (λ p. p.lease.intent.n) n (filter (goes x) (owed g e.t))
          ∙ any_filtered (goes x) (λ p. p.lease.intent.n == n) (owed g e.t) parts.1

      of : (ls : List Lease) → IsSingle ls → AllByRecursion (IsFresh e g) ls → list_any (λ x. (x.intent.n == m) && list_any (λ p. (p.lease.intent.n == n) && goes x p) (owed g e.t)) ls ≡ true → member n (replaced_by versions kept (owed g e.t) ls) ≡ true
      of [] s f q = absurd (false≢true q)
      of (x ∷ ls) s f q = elim (or_cases ((x.intent.n == m) && list_any (λ p. (p.lease.intent.n == n) && goes x p) (owed g e.t)) _ q) [
        | inl a ↦ here x f.0 a
        | inr a ↦ absurd (false≢true (sym (ap (list_any (λ x. (x.intent.n == m) && list_any (λ p. (p.lease.intent.n == n) && goes x p) (owed g e.t))) s) ∙ a))
      ]

  -- at any point of the pass
  taken_in : (c : List Event) (kept : List ℕ) (m n : ℕ) → Legal (c ++ e ∷ g) → member m (with_replaced versions kept (c ++ e ∷ g)) ≡ true → takes_over versions e g m n ≡ true → member n (with_replaced versions kept (c ++ e ∷ g)) ≡ true
  taken_in [] kept m n l k taken = taken_added l kept m n k taken
  taken_in (x ∷ c) kept m n l k taken = taken_in c (added versions kept x (c ++ e ∷ g) ++ kept) m n l.0 k taken

module _ (h : List Event) (t : ℕ) where
  abbrev shown : ℕ → Bool
  shown v = is_kept_version h t v

  -- what the pass finds is in the least set
  found_least : (g c : List Event) → h ≡ c ++ g → (kept : List ℕ) → ((n : ℕ) → member n kept ≡ true → IsKeptLease h t n) → (n : ℕ) → member n (with_replaced shown kept g) ≡ true → IsKeptLease h t n
  found_least [] c q kept f n k = f n k
  found_least (e ∷ g) c q kept f n k =
      found_least g (c ++ e ∷ []) (q ∙ moved c e g) (added shown kept e g ++ kept)
      (λ m a. elim (member_cases m (added shown kept e g) kept a) [
        | inl b ↦ let by = added_by shown e g kept m b in IsTakenOver c e g by.successor m q by.taken (f by.successor by.is_kept)
        | inr b ↦ f m b
      ])
      n k

  abbrev noticed_lease : Lease → Bool
  noticed_lease x = list_any (λ i. i.n == x.intent.n) (notices h)

  first_least : (n : ℕ) → member n (first_kept h t) ≡ true → IsKeptLease h t n
  first_least n k = elim (member_cases n (numbers (live h t)) (numbers (filter noticed_lease (leases h))) k) [
    | inl a ↦ IsLive n (sym (any-map (λ (x : Lease). x.intent.n) n (live h t)) ∙ a)
    | inr b ↦
        let both : list_any (λ (x : Lease). (x.intent.n == n) && noticed_lease x) (leases h) ≡ true =
        any_both noticed_lease (λ (x : Lease). x.intent.n == n) (leases h) (sym (any-map (λ (x : Lease). x.intent.n) n (filter noticed_lease (leases h))) ∙ b) in
        IsNoticed n
        (any_more (λ (x : Lease). (x.intent.n == n) && noticed_lease x) (λ x. x.intent.n == n) (λ x e. (and_parts (x.intent.n == n) (noticed_lease x) e).0) (leases h) both)
        (any_then (λ (x : Lease). Unit {0}) (λ x. (x.intent.n == n) && noticed_lease x) (is_among (notices h) n ≡ true)
        (λ x u e. let parts = and_parts (x.intent.n == n) (noticed_lease x) e in subst (λ m. list_any (λ (i : Intent). i.n == m) (notices h) ≡ true) (eqb-true x.intent.n n parts.0) parts.1)
        (leases h) (all_from (λ (x : Lease). Unit {0}) (λ x. tt) (leases h)) both)
  ]

  least_found : Legal h → {n : ℕ} → IsKeptLease h t n → member n (kept_leases h t) ≡ true
  least_found l (IsLive n a) = kept_more shown h (first_kept h t) n (member_left n (numbers (live h t)) _ (any-map (λ (x : Lease). x.intent.n) n (live h t) ∙ a))
  least_found l (IsNoticed n a b) =
      kept_more shown h (first_kept h t) n
      (member_right n (numbers (live h t)) (numbers (filter noticed_lease (leases h)))
      (any-map (λ (x : Lease). x.intent.n) n (filter noticed_lease (leases h))
      ∙ any_kept noticed_lease (λ (x : Lease). x.intent.n == n) (λ x e. subst (λ m. list_any (λ (i : Intent). i.n == m) (notices h) ≡ true) (sym (eqb-true x.intent.n n e)) b) (leases h) a))
  least_found l (IsTakenOver c e g m n q taken before) =
      let legal : Legal (c ++ e ∷ g) = subst Legal q l in
      let there : member m (with_replaced shown (first_kept h t) (c ++ e ∷ g)) ≡ true = subst (λ f. member m (with_replaced shown (first_kept h t) f) ≡ true) q (least_found l before) in
      subst (λ f. member n (with_replaced shown (first_kept h t) f) ≡ true) (sym q) (taken_in shown e g c (first_kept h t) m n legal there taken)

pub keeps_least : KeepsLeast
keeps_least h t n l = (λ k. least_found h t l k, λ k. found_least h t h [] refl (first_kept h t) (first_least h t) n k)
