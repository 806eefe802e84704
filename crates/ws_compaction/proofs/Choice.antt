-- The choice of a compaction is right for leases and pairs.
use Rattle.std.proofs.Common.{◌≡◌, ℕ, Bool, true, false, cond, ◌&&◌, ◌||◌, List, [], ◌∷◌, ◌++◌, refl, ap, sym, ◌∙◌, subst, inl, inr}
use Rattle.std.specs.Prelude.{is_none, Option, Some, None, map, filter, find, ◌==◌, bytes_eq}
use Rattle.std.specs.List.{AllByRecursion}
use Rattle.std.proofs.lemmas.Bool.{false≢true, and_parts, and_from, or_right, and_left, and_right, eqb-true, false_from_ne_true}
use Rattle.ws_model.specs.declared.event.Event.{Event}
use Rattle.ws_model.specs.declared.event.How.{How}
use Rattle.ws_model.specs.declared.event.Intent.{Intent}
use Rattle.ws_model.specs.declared.event.Tally.{Tally as TallyFields}
use Rattle.ws_model.specs.declared.event.What.{What}
use Rattle.ws_model.specs.declared.event.What.TheVariants.{Asked, Confirmed, Declined, Unheard, Barred, Noticed, Pinged, Fetched, Same, Unfetched, Pushed, Tally, Revoked}
use Rattle.ws_model.specs.declared.lease.Lease.{Lease}
use Rattle.ws_compaction.proofs.Replaced.{IsGood, added, filter_members, from_replaced, kept_more, member_cases, member_left, none_good, older_confirmed, older_ended, owed_facts, owed_live, replaced_ends, self_members}
use Rattle.ws_compaction.proofs.Shrunk.{AreRight, IsRight, filter_swap, shrunk}
use Rattle.ws_laws.proofs.Denied.{is_revoked}
use Rattle.ws_laws.proofs.Ended.{IsTold, IsToldPair, both_true, is_numbered, leases_told, others, skipped}
use Rattle.ws_laws.proofs.Known.{IsKnown, IsOfConfirmed, allowed, in_time, leases_confirmed}
use Rattle.ws_laws.proofs.ListLaws.{all_filter_with, all_find, all_from, all_map, all_weaker, filter-map, filter_same, find-filter}
use Rattle.ws_laws.proofs.Step.{IsFresh, new_fresh}
use Rattle.ws_model.specs.Fate.{Pair, fate, is_owed, is_push}
use Rattle.ws_model.specs.History.{has}
use Rattle.ws_model.specs.Intents.{asked, intents_of, same_pair}
use Rattle.ws_model.specs.Keep.{first_kept, member, numbers, replaced_by, with_replaced}
use Rattle.ws_model.specs.Leases.{confirmed_intent, end_by, first_end, is_confirmed, is_on, lease_by, lease_end, lease_of, leases, live}
use Rattle.ws_model.specs.Legal.{Legal}
use Rattle.ws_model.specs.Pairs.{births, carried, owed, pair}

-- The choice of a compaction by what it goes by: which requests are pending and which have an owed
-- notice, which versions and leases are kept, and which pings and missed fetches.
module _ (tallied : TallyFields) (pending_in noticed_in version_in : ℕ → Bool) (kept_numbers : List ℕ) (ping_in miss_in : Event → List ℕ → Bool) where
  abbrev pub lease_in : ℕ → Bool
  lease_in n = member n kept_numbers

  -- whether a request is kept
  abbrev pub request_in : ℕ → Bool
  request_in n = pending_in n || noticed_in n || lease_in n

  abbrev pub choice : Event → What → Bool
  choice e (Asked i) = request_in i.n
  choice e (Confirmed n sent) = lease_in n
  choice e (Declined n code) = false
  choice e (Unheard n) = pending_in n
  choice e (Barred n reason) = noticed_in n
  choice e (Noticed n heard) = noticed_in n
  choice e (Pinged topic) = ping_in e topic
  choice e (Fetched v) = version_in v.ver
  choice e (Same topic upto) = false
  choice e (Unfetched topic upto why) = miss_in e topic
  choice e (Pushed v n how) = version_in v && lease_in n
  choice e (Tally c) = false
  choice e (Revoked n reason) = lease_in n

  abbrev pub chosen : Event → Bool
  chosen e = choice e e.what

  abbrev pub kept_of : List Event → List Event
  kept_of g = shrunk tallied chosen lease_in version_in g

  abbrev pub leased : Lease → Bool
  leased l = lease_in l.intent.n

  abbrev pub held : Pair → Bool
  held p = version_in p.version.ver && lease_in p.lease.intent.n

  abbrev pub Starts : List ℕ → List Event → Type 0
  Starts kept g = AllByRecursion (λ l. member l.intent.n kept ≡ true → IsGood g l) (leases g)

  -- ---- requests

  asked_more : (e : Event) (w : What) (b : Bool) → choice e w ≡ b → (xs ys : List Intent) → xs ≡ filter (λ i. request_in i.n) ys → cond b (intents_of w ++ xs) xs ≡ filter (λ i. request_in i.n) (intents_of w ++ ys)
  asked_more e (Asked i) true k xs ys h = rw k (ap (λ is. i ∷ is) h)
  asked_more e (Asked i) false k xs ys h = rw k h
  asked_more e _ true k xs ys h = h
  asked_more e _ false k xs ys h = h

  pub asked_kept : (g : List Event) → asked (kept_of g) ≡ filter (λ i. request_in i.n) (asked g)
  asked_kept [] = refl
  asked_kept (e ∷ g) = here (choice e e.what) ∙ asked_more e e.what (choice e e.what) refl (asked (kept_of g)) (asked g) (asked_kept g)
    where
      here : (b : Bool) → asked (cond b (e ∷ kept_of g) (kept_of g)) ≡ cond b (intents_of e.what ++ asked (kept_of g)) (asked (kept_of g))
      here true = refl
      here false = refl

  pub find_asked : (g : List Event) (n : ℕ) → request_in n ≡ true → find (λ i. i.n == n) (asked (kept_of g)) ≡ find (λ i. i.n == n) (asked g)
  find_asked g n k = ap (find (λ i. i.n == n)) (asked_kept g) ∙ find-filter (λ i. i.n == n) (λ i. request_in i.n) true (λ i e. ap request_in (eqb-true i.n n e) ∙ k) (asked g)

  pub requested : (n : ℕ) → lease_in n ≡ true → request_in n ≡ true
  requested n k = or_right (pending_in n || noticed_in n) (lease_in n) k

  named_kept : (e : Event) (w : What) (g : List Event) → choice e w ≡ true → confirmed_intent w (kept_of g) ≡ confirmed_intent w g
  named_kept e (Confirmed n sent) g k = find_asked g n (requested n k)
  named_kept e _ g k = refl

  -- ---- one event

  module _ (e : Event) where
    revoked_kept : (w : What) (n : ℕ) → is_revoked n w ≡ true → lease_in n ≡ true → choice e w ≡ true
    revoked_kept (Revoked m reason) n k l = ap lease_in (eqb-true m n k) ∙ l
    revoked_kept _ n k l = absurd (false≢true k)

    made_by : (n sent : ℕ) (o : Option Intent) (b : Bool) → ((i : Intent) → o ≡ Some i → i.n ≡ n) → lease_in n ≡ b → AllByRecursion (λ l. lease_in l.intent.n ≡ b) (lease_by sent o)
    made_by n sent None b f k = tt
    made_by n sent (Some i) b f k = one (is_on i.mode)
      where
        one : (c : Bool) → AllByRecursion (λ (l : Lease). lease_in l.intent.n ≡ b) (cond c (record { intent = i; sent = sent } ∷ []) [])
        one true = (ap lease_in (f i refl) ∙ k, tt)
        one false = tt

    made : (w : What) (g : List Event) (b : Bool) → choice e w ≡ b → AllByRecursion (λ l. lease_in l.intent.n ≡ b) (lease_of w (confirmed_intent w g))
    made (Confirmed n sent) g b k = made_by n sent (find (λ i. i.n == n) (asked g)) b (λ i e. eqb-true i.n n (all_find (λ _. Unit {0}) (λ i. i.n == n) i (asked g) (all_from (λ _. Unit {0}) (λ _. tt) (asked g)) e).1) k
    made _ g b k = tt

    unconfirmed : (w : What) → choice e w ≡ false → (n : ℕ) → lease_in n ≡ true → is_confirmed n w ≡ false
    unconfirmed (Confirmed m sent) k n l = false_from_ne_true _ (λ r. false≢true (sym k ∙ ap lease_in (eqb-true m n r) ∙ l))
    unconfirmed _ k n l = refl

    unpushed : (w : What) → choice e w ≡ false → (test : How → Bool) (v n : ℕ) → version_in v ≡ true → lease_in n ≡ true → is_push test v n w ≡ false
    unpushed (Pushed a b how) k test v n kv kn = false_from_ne_true _ (λ r.
        let x = and_parts ((a == v) && (b == n)) (test how) r in
        let y = and_parts (a == v) (b == n) x.0 in
        false≢true (sym k ∙ and_from _ _ (ap version_in (eqb-true a v y.0) ∙ kv) (ap lease_in (eqb-true b n y.1) ∙ kn)))
    unpushed _ k test v n kv kn = refl

    unborn_by : (t : ℕ) (ps : List Pair) (ls : List Lease) → AllByRecursion (λ l. lease_in l.intent.n ≡ false) ls → AllByRecursion (λ p. held p ≡ false) (carried t ps ls)
    unborn_by t ps [] a = tt
    unborn_by t ps (l ∷ ls) a = all_map (λ p. held p ≡ false) (λ p. pair t p.version l) (filter (λ p. same_pair l.intent p.lease.intent) ps) (all_from (λ p. (version_in p.version.ver && lease_in l.intent.n) ≡ false) (λ p. and_right _ _ a.0) (filter (λ p. same_pair l.intent p.lease.intent) ps))

    unborn : (w : What) (g : List Event) (t : ℕ) (ls : List Lease) (ps : List Pair) → choice e w ≡ false → AllByRecursion (λ p. held p ≡ false) (births t w (confirmed_intent w g) ls ps)
    unborn (Fetched v) g t ls ps k = all_map (λ p. held p ≡ false) (pair t v) (filter (λ l. bytes_eq l.intent.topic v.topic) ls) (all_from (λ l. (version_in v.ver && lease_in l.intent.n) ≡ false) (λ l. and_left _ _ k) (filter (λ l. bytes_eq l.intent.topic v.topic) ls))
    unborn (Confirmed n sent) g t ls ps k = unborn_by t ps (lease_by sent (confirmed_intent (Confirmed n sent) g)) (made (Confirmed n sent) g false k)
    unborn _ g t ls ps k = tt

    -- what goes over goes over from what is kept
    born_by : (t : ℕ) (ps : List Pair) (ls : List Lease) → AllByRecursion (λ l. lease_in l.intent.n ≡ true) ls → AllByRecursion (λ l. AllByRecursion (λ p. same_pair l.intent p.lease.intent ≡ true → version_in p.version.ver ≡ true → lease_in p.lease.intent.n ≡ true) ps) ls
        → carried t (filter held ps) ls ≡ filter held (carried t ps ls)
    born_by t ps [] a b = refl
    born_by t ps (l ∷ ls) a b =
        let sp : Pair → Bool = λ p. same_pair l.intent p.lease.intent in
        ap (map (λ p. pair t p.version l))
        (filter_swap sp held sp ps (all_from (λ p. held p ≡ true → sp p ≡ sp p) (λ p k. refl) ps)
        ∙ filter_same held (λ p. version_in p.version.ver && lease_in l.intent.n) (filter sp ps)
        (all_weaker (λ p. (sp p ≡ true → version_in p.version.ver ≡ true → lease_in p.lease.intent.n ≡ true) × (sp p ≡ true)) _ (λ p c. by p (version_in p.version.ver) refl (c.0 c.1) a.0) (filter sp ps)
        (all_filter_with (λ p. sp p ≡ true → version_in p.version.ver ≡ true → lease_in p.lease.intent.n ≡ true) sp ps b.0)))
        ∙ sym (filter-map (λ p. pair t p.version l) held (filter sp ps))
      where
        by : (p : Pair) (v : Bool) → version_in p.version.ver ≡ v → (version_in p.version.ver ≡ true → lease_in p.lease.intent.n ≡ true) → lease_in l.intent.n ≡ true → (version_in p.version.ver && lease_in p.lease.intent.n) ≡ (version_in p.version.ver && lease_in l.intent.n)
        by p true e f g = rw (f e, g)
        by p false e f g = rw e

    born : (w : What) (g : List Event) (t : ℕ) (ls : List Lease) (ps : List Pair) → choice e w ≡ true
        → AllByRecursion (λ l. AllByRecursion (λ p. same_pair l.intent p.lease.intent ≡ true → version_in p.version.ver ≡ true → lease_in p.lease.intent.n ≡ true) ps) (lease_of w (confirmed_intent w g))
        → births t w (confirmed_intent w g) (filter leased ls) (filter held ps) ≡ filter held (births t w (confirmed_intent w g) ls ps)
    born (Fetched v) g t ls ps k c =
        let tp : Lease → Bool = λ l. bytes_eq l.intent.topic v.topic in
        ap (map (pair t v))
        (filter_swap tp leased tp ls (all_from (λ l. leased l ≡ true → tp l ≡ tp l) (λ l x. refl) ls)
        ∙ filter_same leased (λ l. held (pair t v l)) (filter tp ls) (all_from (λ l. lease_in l.intent.n ≡ (version_in v.ver && lease_in l.intent.n)) (λ l. ap (λ b. b && lease_in l.intent.n) (sym k)) (filter tp ls)))
        ∙ sym (filter-map (pair t v) held (filter tp ls))
    born (Confirmed n sent) g t ls ps k c = born_by t ps (lease_by sent (confirmed_intent (Confirmed n sent) g)) (made (Confirmed n sent) g true k) c
    born _ g t ls ps k c = refl

  module _ (e : Event) (g : List Event) (lg : Legal (e ∷ g)) (kept : List ℕ) (all : kept_numbers ≡ with_replaced version_in kept (e ∷ g)) (starts : Starts kept (e ∷ g)) where
    -- a kept lease that is made here was kept before
    before : (l : Lease) → IsFresh e g l → lease_in l.intent.n ≡ true → member l.intent.n kept ≡ true
    before l f k =
        elim (older_confirmed version_in g lg.0 (added version_in kept e g ++ kept) l.intent.n (ap (member l.intent.n) (sym all) ∙ k)) [
          | inl a ↦ elim (member_cases l.intent.n (added version_in kept e g) kept a) [
            | inl b ↦ absurd (false≢true (sym f.unconfirmed ∙ from_replaced version_in g lg.0 e.what (confirmed_intent e.what g) kept e.t l.intent.n (has (is_confirmed l.intent.n) g ≡ true) (λ p known toldp ow same ends x c q. subst (λ m. has (is_confirmed m) g ≡ true) same known.confirmed) b))
            | inr b ↦ b
          ]
          | inr a ↦ absurd (false≢true (sym f.unconfirmed ∙ a))
        ]

    abbrev Carries : Lease → Type 0
    Carries l = AllByRecursion (λ p. same_pair l.intent p.lease.intent ≡ true → version_in p.version.ver ≡ true → lease_in p.lease.intent.n ≡ true) (owed g e.t)

    carries : (l : Lease) → IsFresh e g l → lease_in l.intent.n ≡ true → ((n : ℕ) → member n (replaced_by version_in kept (owed g e.t) (l ∷ [])) ≡ true → lease_in n ≡ true) → Carries l
    carries l f k m =
        let q : Pair → Bool = λ p. version_in p.version.ver && same_pair l.intent p.lease.intent in
        all_weaker (λ p. q p ≡ true → member p.lease.intent.n (map (λ x. x.lease.intent.n) (filter q (owed g e.t))) ≡ true) (λ p. same_pair l.intent p.lease.intent ≡ true → version_in p.version.ver ≡ true → lease_in p.lease.intent.n ≡ true)
        (λ p h sp v. m p.lease.intent.n (ap (λ b. member p.lease.intent.n (cond b (map (λ x. x.lease.intent.n) (filter q (owed g e.t))) [])) (before l f k) ∙ h (and_from _ _ v sp)))
        (owed g e.t) (filter_members (λ p. p.lease.intent.n) q (owed g e.t))

    carries_of : (w : What) (o : Option Intent) → AllByRecursion (IsFresh e g) (lease_of w o) → AllByRecursion (λ l. lease_in l.intent.n ≡ true) (lease_of w o) → ((n : ℕ) → member n (replaced_by version_in kept (owed g e.t) (lease_of w o)) ≡ true → lease_in n ≡ true) → AllByRecursion Carries (lease_of w o)
    carries_of (Confirmed n sent) None f k m = tt
    carries_of (Confirmed n sent) (Some i) f k m = one (is_on i.mode) f k m
      where
        x : Lease
        x = record { intent = i; sent = sent }

        one : (b : Bool) → AllByRecursion (IsFresh e g) (cond b (x ∷ []) []) → AllByRecursion (λ (l : Lease). lease_in l.intent.n ≡ true) (cond b (x ∷ []) []) → ((n : ℕ) → member n (replaced_by version_in kept (owed g e.t) (cond b (x ∷ []) [])) ≡ true → lease_in n ≡ true) → AllByRecursion Carries (cond b (x ∷ []) [])
        one true f k m = (carries x f.0 k.0 m, tt)
        one false f k m = tt
    carries_of _ o f k m = tt

    in_all : (n : ℕ) → member n (added version_in kept e g) ≡ true → lease_in n ≡ true
    in_all n k = ap (member n) all ∙ kept_more version_in g (added version_in kept e g ++ kept) n (member_left n (added version_in kept e g) kept k)

    ends : choice e e.what ≡ false → (l : Lease) → IsTold g l → lease_in l.intent.n ≡ true → has (is_confirmed l.intent.n) g ≡ true → first_end g l ≡ None → end_by e.what (confirmed_intent e.what g) l ≡ None
    ends out l told k c none =
        elim (older_ended version_in g lg.0 (added version_in kept e g ++ kept) l told (ap (member l.intent.n) (sym all) ∙ k)) [
          | inl a ↦ elim (member_cases l.intent.n (added version_in kept e g) kept a) [
            | inl b ↦ from_replaced version_in g lg.0 e.what (confirmed_intent e.what g) kept e.t l.intent.n (end_by e.what (confirmed_intent e.what g) l ≡ None)
                (λ p known toldp ow same ends x d q.
                let lost : AllByRecursion (λ y. lease_in y.intent.n ≡ false) (x ∷ []) = subst (AllByRecursion (λ y. lease_in y.intent.n ≡ false)) q (made e e.what g false out) in
                absurd (false≢true (sym lost.0 ∙ ap (member x.intent.n) all ∙ kept_more version_in (e ∷ g) kept x.intent.n d))) b
            | inr b ↦
                let t : IsTold (e ∷ g) l = skipped l.intent.n (lease_of e.what (confirmed_intent e.what g)) (leases g) (others e g lg.1 l.intent.n c) ∙ told in
                let good : IsGood (e ∷ g) l = (all_find (λ y. member y.intent.n kept ≡ true → IsGood (e ∷ g) y) (is_numbered l.intent.n) l (leases (e ∷ g)) starts t).0 b in
                elim (good.1 c none) [
                  | inl x ↦ x
                  | inr x ↦ absurd (false≢true (sym out ∙ revoked_kept e e.what l.intent.n x k))
                ]
          ]
          | inr a ↦ absurd (false≢true (sym a ∙ ap is_none none))
        ]

    right_at : IsRight tallied chosen lease_in version_in e g
    right_at =
        record {
          finds = named_kept e e.what g;
          made = made e e.what g true;
          unmade = made e e.what g false;
          confirmed = unconfirmed e e.what;
          ends = ends;
          pushed = unpushed e e.what;
          unborn = unborn e e.what g e.t (live g e.t) (owed g e.t);
          born = λ k. born e e.what g e.t (live g e.t) (owed g e.t) k (carries_of e.what (confirmed_intent e.what g) (new_fresh e.what e.serial e.t g (allowed g e lg.1)) (made e e.what g true k) in_all);
        }

    starts_next : Starts (added version_in kept e g ++ kept) g
    starts_next =
        all_weaker (λ l. IsOfConfirmed g l × IsTold g l) (λ l. member l.intent.n (added version_in kept e g ++ kept) ≡ true → IsGood g l)
        (λ l a k. elim (member_cases l.intent.n (added version_in kept e g) kept k) [
          | inl b ↦ none_good g l (replaced_ends version_in e g lg.0 (in_time g e lg.1) kept l a.1 b).before
          | inr b ↦
              let t : IsTold (e ∷ g) l = skipped l.intent.n (lease_of e.what (confirmed_intent e.what g)) (leases g) (others e g lg.1 l.intent.n a.0) ∙ a.1 in
              ((all_find (λ y. member y.intent.n kept ≡ true → IsGood (e ∷ g) y) (is_numbered l.intent.n) l (leases (e ∷ g)) starts t).0 b).0
        ])
        (leases g) (both_true (IsOfConfirmed g) (IsTold g) (leases g) (leases_confirmed g) (leases_told g lg.0))

  pub all_right : (g : List Event) → Legal g → (kept : List ℕ) → kept_numbers ≡ with_replaced version_in kept g → Starts kept g → AreRight tallied chosen lease_in version_in g
  all_right [] lg kept all s = tt
  all_right (e ∷ g) lg kept all s = (all_right g lg.0 (added version_in kept e g ++ kept) all (starts_next e g lg kept all s), right_at e g lg kept all s)

-- ---- what is live and owed is kept

pub live_numbers : (versions : ℕ → Bool) (h : List Event) (t : ℕ) → AllByRecursion (λ x. member x.intent.n (with_replaced versions (first_kept h t) h) ≡ true) (live h t)
live_numbers versions h t = all_weaker (λ x. member x.intent.n (numbers (live h t)) ≡ true) (λ x. member x.intent.n (with_replaced versions (first_kept h t) h) ≡ true) (λ x k. kept_more versions h (first_kept h t) x.intent.n (member_left x.intent.n (numbers (live h t)) _ k)) (live h t) (self_members (λ x. x.intent.n) (live h t))

pub owed_numbers : (versions : ℕ → Bool) (h : List Event) (t : ℕ) → Legal h → AllByRecursion (λ p. versions p.version.ver ≡ true) (owed h t) → AllByRecursion (λ p. (versions p.version.ver && member p.lease.intent.n (with_replaced versions (first_kept h t) h)) ≡ true) (owed h t)
owed_numbers versions h t l vs =
    all_weaker (λ p. (versions p.version.ver ≡ true) × ((IsKnown h p × IsToldPair h p) × (is_owed (fate h p t) ≡ true))) (λ p. (versions p.version.ver && member p.lease.intent.n (with_replaced versions (first_kept h t) h)) ≡ true)
    (λ p a. and_from _ _ a.0 (kept_more versions h (first_kept h t) p.lease.intent.n (member_left p.lease.intent.n (numbers (live h t)) _ (in_live p a.1.0.1 a.1.1))))
    (owed h t) (both_true (λ p. versions p.version.ver ≡ true) (λ p. (IsKnown h p × IsToldPair h p) × (is_owed (fate h p t) ≡ true)) (owed h t) vs (owed_facts versions h l t))
  where
    in_live : (p : Pair) → IsToldPair h p → is_owed (fate h p t) ≡ true → member p.lease.intent.n (numbers (live h t)) ≡ true
    in_live p told ow = (all_find (λ x. is_none (lease_end h x t) ≡ true → member x.intent.n (numbers (live h t)) ≡ true) (is_numbered p.lease.intent.n) p.lease (leases h) (filter_members (λ x. x.intent.n) (λ x. is_none (lease_end h x t)) (leases h)) told).0 (owed_live versions h p t ow)
