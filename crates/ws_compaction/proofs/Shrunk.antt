-- A history without the events that no longer matter: its leases and pairs are those that are kept.
use Rattle.std.proofs.Common.{◌≡◌, ℕ, suc, Bool, true, false, cond, ◌&&◌, ◌||◌, List, [], ◌∷◌, ◌++◌, refl, ap, sym, ◌∙◌}
use Rattle.std.specs.Prelude.{is_none, Option, Some, None, map, filter}
use Rattle.std.specs.List.{AllByRecursion}
use Rattle.std.proofs.lemmas.List.Elements.{filter-append}
use Rattle.std.proofs.lemmas.Bool.{and_parts, or_right}
use Rattle.ws_model.specs.declared.event.Event.{Event}
use Rattle.ws_model.specs.declared.event.How.{How}
use Rattle.ws_model.specs.declared.event.Tally.{Tally as TallyFields}
use Rattle.ws_model.specs.declared.event.What.TheVariants.{Tally}
use Rattle.ws_model.specs.declared.fate.Cause.{Cause}
use Rattle.ws_model.specs.declared.lease.Lease.{Lease}
use Rattle.ws_laws.proofs.Ended.{IsTold, IsToldPair, leases_told, others, pairs_told, skipped}
use Rattle.ws_laws.proofs.ListLaws.{all_weaker, filter_all, map_same}
use Rattle.ws_model.specs.Fate.{Pair, fate, is_done, is_miss, is_owed, is_push}
use Rattle.ws_model.specs.History.{has, newest_time, times}
use Rattle.ws_model.specs.Leases.{cause_of, confirmed_intent, end_by, expiry, first_end, is_confirmed, lease_end, lease_of, leases, live, or_else, stamped}
use Rattle.ws_model.specs.Legal.{Legal}
use Rattle.ws_model.specs.Pairs.{births, owed, pairs}
use Rattle.ws_model.specs.View.{owed_push}

-- a filter after a filter, where the later test is another one on what passes
pub filter_swap : {X : Type 0} (p q r : X → Bool) (xs : List X) → AllByRecursion (λ x. q x ≡ true → p x ≡ r x) xs → filter p (filter q xs) ≡ filter q (filter r xs)
filter_swap p q r [] a = refl
filter_swap p q r (x ∷ xs) a = one (q x) refl (r x) refl (filter_swap p q r xs a.1)
  where
    one : (b : Bool) → q x ≡ b → (c : Bool) → r x ≡ c → filter p (filter q xs) ≡ filter q (filter r xs) → filter p (cond b (x ∷ filter q xs) (filter q xs)) ≡ filter q (cond c (x ∷ filter r xs) (filter r xs))
    one true e true d h = rw (a.0 e, d, e) (ap (λ ys. x ∷ ys) h)
    one true e false d h = rw (a.0 e, d) h
    one false e true d h = rw e h
    one false e false d h = h

pub filter_none : {X : Type 0} (p : X → Bool) (xs : List X) → AllByRecursion (λ x. p x ≡ false) xs → filter p xs ≡ []
filter_none p [] a = refl
filter_none p (x ∷ xs) a = rw a.0 (filter_none p xs a.1)

-- Events that pass a test, over a Tally: `lease_in` tells which leases are kept, `version_in` which versions.
module _ (c : TallyFields) (passes : Event → Bool) (lease_in version_in : ℕ → Bool) where
  abbrev pub base : List Event
  base = record { serial = 0; t = 0; what = Tally c } ∷ []

  -- what is kept of a history
  abbrev pub shrunk : List Event → List Event
  shrunk [] = base
  shrunk (e ∷ g) = cond (passes e) (e ∷ shrunk g) (shrunk g)

  pub shrunk_is : (g : List Event) → filter passes g ++ base ≡ shrunk g
  shrunk_is [] = refl
  shrunk_is (e ∷ g) = one (passes e) (shrunk_is g)
    where
      one : (b : Bool) → filter passes g ++ base ≡ shrunk g → cond b (e ∷ filter passes g) (filter passes g) ++ base ≡ cond b (e ∷ shrunk g) (shrunk g)
      one true r = ap (λ h. e ∷ h) r
      one false r = r

  abbrev pub is_kept_lease : Lease → Bool
  is_kept_lease l = lease_in l.intent.n

  abbrev pub is_held_pair : Pair → Bool
  is_held_pair p = version_in p.version.ver && lease_in p.lease.intent.n

  -- what is asked of the choice at one event, after g
  pub record IsRight (e : Event) (g : List Event) : Type 0 where
    -- a kept confirmation finds its intent
    pub finds : passes e ≡ true → confirmed_intent e.what (shrunk g) ≡ confirmed_intent e.what g
    -- a confirmation is kept exactly where its lease is
    pub made : passes e ≡ true → AllByRecursion (λ l. is_kept_lease l ≡ true) (lease_of e.what (confirmed_intent e.what g))
    pub unmade : passes e ≡ false → AllByRecursion (λ l. is_kept_lease l ≡ false) (lease_of e.what (confirmed_intent e.what g))
    pub confirmed : passes e ≡ false → (n : ℕ) → lease_in n ≡ true → is_confirmed n e.what ≡ false
    -- the first end of a kept lease is kept
    pub ends : passes e ≡ false → (l : Lease) → IsTold g l → is_kept_lease l ≡ true → has (is_confirmed l.intent.n) g ≡ true → first_end g l ≡ None → end_by e.what (confirmed_intent e.what g) l ≡ None
    -- the pushes of a kept pair are kept
    pub pushed : passes e ≡ false → (test : How → Bool) (v n : ℕ) → version_in v ≡ true → lease_in n ≡ true → is_push test v n e.what ≡ false
    -- an event that is not kept adds no kept pair
    pub unborn : passes e ≡ false → AllByRecursion (λ p. is_held_pair p ≡ false) (births e.t e.what (confirmed_intent e.what g) (live g e.t) (owed g e.t))
    -- a kept event adds the kept pairs out of what is kept
    pub born : passes e ≡ true → births e.t e.what (confirmed_intent e.what g) (filter is_kept_lease (live g e.t)) (filter is_held_pair (owed g e.t)) ≡ filter is_held_pair (births e.t e.what (confirmed_intent e.what g) (live g e.t) (owed g e.t))

  abbrev pub AreRight : List Event → Type 0
  AreRight [] = Unit {0}
  AreRight (e ∷ g) = AreRight g × IsRight e g

  has_kept : (g : List Event) → AreRight g → (n : ℕ) → lease_in n ≡ true → has (is_confirmed n) (shrunk g) ≡ has (is_confirmed n) g
  has_kept [] r n k = refl
  has_kept (e ∷ g) r n k = one (passes e) refl (has_kept g r.0 n k)
    where
      one : (b : Bool) → passes e ≡ b → has (is_confirmed n) (shrunk g) ≡ has (is_confirmed n) g → has (is_confirmed n) (cond b (e ∷ shrunk g) (shrunk g)) ≡ (is_confirmed n e.what || has (is_confirmed n) g)
      one true q h = ap (λ x. is_confirmed n e.what || x) h
      one false q h = rw (r.1.confirmed q n k) h

  no_end : (o : Option (ℕ × Cause)) (t : ℕ) (b : Bool) (c : Option Cause) → (b ≡ true → o ≡ None → c ≡ None) → o ≡ or_else o (stamped t (cond b c None))
  no_end (Some a) t b c f = refl
  no_end None t false c f = refl
  no_end None t true c f = rw (f refl refl)

  pub first_end_kept : (g : List Event) → Legal g → AreRight g → (l : Lease) → (has (is_confirmed l.intent.n) g ≡ true → IsTold g l) → is_kept_lease l ≡ true → first_end (shrunk g) l ≡ first_end g l
  first_end_kept [] lg r l told k = refl
  first_end_kept (e ∷ g) lg r l told k = one (passes e) refl (first_end_kept g lg.0 r.0 l here k) (has_kept g r.0 l.intent.n k)
    where
      here : has (is_confirmed l.intent.n) g ≡ true → IsTold g l
      here x = sym (skipped l.intent.n (lease_of e.what (confirmed_intent e.what g)) (leases g) (others e g lg.1 l.intent.n x)) ∙ told (or_right _ _ x)

      one : (b : Bool) → passes e ≡ b → first_end (shrunk g) l ≡ first_end g l → has (is_confirmed l.intent.n) (shrunk g) ≡ has (is_confirmed l.intent.n) g → first_end (cond b (e ∷ shrunk g) (shrunk g)) l ≡ first_end (e ∷ g) l
      one true q h c = rw (h, c, r.1.finds q)
      one false q h c = h ∙ no_end (first_end g l) e.t (has (is_confirmed l.intent.n) g) (end_by e.what (confirmed_intent e.what g) l) (λ x y. r.1.ends q l (here x) k x y)

  pub leases_kept : (g : List Event) → AreRight g → leases (shrunk g) ≡ filter is_kept_lease (leases g)
  leases_kept [] r = refl
  leases_kept (e ∷ g) r = one (passes e) refl (leases_kept g r.0) ∙ sym (filter-append is_kept_lease (lease_of e.what (confirmed_intent e.what g)) (leases g))
    where
      one : (b : Bool) → passes e ≡ b → leases (shrunk g) ≡ filter is_kept_lease (leases g) → leases (cond b (e ∷ shrunk g) (shrunk g)) ≡ filter is_kept_lease (lease_of e.what (confirmed_intent e.what g)) ++ filter is_kept_lease (leases g)
      one true q h = rw (filter_all is_kept_lease _ (r.1.made q), r.1.finds q, h)
      one false q h = rw (filter_none is_kept_lease _ (r.1.unmade q)) h

  pub live_kept : (g : List Event) → Legal g → AreRight g → (t : ℕ) → live (shrunk g) t ≡ filter is_kept_lease (live g t)
  live_kept g lg r t =
      ap (filter (λ l. is_none (lease_end (shrunk g) l t))) (leases_kept g r)
      ∙ filter_swap (λ l. is_none (lease_end (shrunk g) l t)) is_kept_lease (λ l. is_none (lease_end g l t)) (leases g)
      (all_weaker (IsTold g) _ (λ l told k. ap (λ o. is_none (cause_of o (expiry l) t)) (first_end_kept g lg r l (λ _. told) k)) (leases g) (leases_told g lg))

  -- ---- pushes

  module _ (test : How → Bool) (v n : ℕ) (kv : version_in v ≡ true) (kn : lease_in n ≡ true) where
    has_push : (g : List Event) → AreRight g → has (is_push test v n) (shrunk g) ≡ has (is_push test v n) g
    has_push [] r = refl
    has_push (e ∷ g) r = one (passes e) refl (has_push g r.0)
      where
        one : (b : Bool) → passes e ≡ b → has (is_push test v n) (shrunk g) ≡ has (is_push test v n) g → has (is_push test v n) (cond b (e ∷ shrunk g) (shrunk g)) ≡ has (is_push test v n) (e ∷ g)
        one true q h = ap (λ x. is_push test v n e.what || x) h
        one false q h = rw (r.1.pushed q test v n kv kn) h

    times_push : (g : List Event) → AreRight g → times (is_push test v n) (shrunk g) ≡ times (is_push test v n) g
    times_push [] r = refl
    times_push (e ∷ g) r = one (passes e) refl (times_push g r.0)
      where
        one : (b : Bool) → passes e ≡ b → times (is_push test v n) (shrunk g) ≡ times (is_push test v n) g → times (is_push test v n) (cond b (e ∷ shrunk g) (shrunk g)) ≡ times (is_push test v n) (e ∷ g)
        one true q h = ap (λ x. cond (is_push test v n e.what) (suc x) x) h
        one false q h = rw (r.1.pushed q test v n kv kn) h

    last_push : (g : List Event) → AreRight g → newest_time (is_push test v n) (shrunk g) ≡ newest_time (is_push test v n) g
    last_push [] r = refl
    last_push (e ∷ g) r = one (passes e) refl (last_push g r.0)
      where
        one : (b : Bool) → passes e ≡ b → newest_time (is_push test v n) (shrunk g) ≡ newest_time (is_push test v n) g → newest_time (is_push test v n) (cond b (e ∷ shrunk g) (shrunk g)) ≡ newest_time (is_push test v n) (e ∷ g)
        one true q h = ap (λ x. cond (is_push test v n e.what) e.t x) h
        one false q h = rw (r.1.pushed q test v n kv kn) h

  pub fate_kept : (g : List Event) → Legal g → AreRight g → (p : Pair) (t : ℕ) → IsToldPair g p → is_held_pair p ≡ true → fate (shrunk g) p t ≡ fate g p t
  fate_kept g lg r p t told k =
      let w = and_parts (version_in p.version.ver) (lease_in p.lease.intent.n) k in
      rw (has_push is_done p.version.ver p.lease.intent.n w.0 w.1 g r, times_push is_miss p.version.ver p.lease.intent.n w.0 w.1 g r, last_push is_miss p.version.ver p.lease.intent.n w.0 w.1 g r, first_end_kept g lg r p.lease (λ _. told) w.1)

  owed_push_kept : (g : List Event) → AreRight g → (p : Pair) → is_held_pair p ≡ true → owed_push (shrunk g) p ≡ owed_push g p
  owed_push_kept g r p k =
      let w = and_parts (version_in p.version.ver) (lease_in p.lease.intent.n) k in
      rw (times_push is_miss p.version.ver p.lease.intent.n w.0 w.1 g r, last_push is_miss p.version.ver p.lease.intent.n w.0 w.1 g r)

  pub owed_of : (g : List Event) → Legal g → AreRight g → pairs (shrunk g) ≡ filter is_held_pair (pairs g) → (t : ℕ) → owed (shrunk g) t ≡ filter is_held_pair (owed g t)
  owed_of g lg r h t =
      ap (filter (λ p. is_owed (fate (shrunk g) p t))) h
      ∙ filter_swap (λ p. is_owed (fate (shrunk g) p t)) is_held_pair (λ p. is_owed (fate g p t)) (pairs g)
      (all_weaker (IsToldPair g) _ (λ p told k. ap is_owed (fate_kept g lg r p t told k)) (pairs g) (pairs_told g lg))

  pub pairs_kept : (g : List Event) → Legal g → AreRight g → pairs (shrunk g) ≡ filter is_held_pair (pairs g)
  pairs_kept [] lg r = refl
  pairs_kept (e ∷ g) lg r = one (passes e) refl (pairs_kept g lg.0 r.0) ∙ sym (filter-append is_held_pair bs (pairs g))
    where
      bs : List Pair
      bs = births e.t e.what (confirmed_intent e.what g) (live g e.t) (owed g e.t)

      one : (b : Bool) → passes e ≡ b → pairs (shrunk g) ≡ filter is_held_pair (pairs g) → pairs (cond b (e ∷ shrunk g) (shrunk g)) ≡ filter is_held_pair bs ++ filter is_held_pair (pairs g)
      one true q h =
          ap (λ ps. births e.t e.what (confirmed_intent e.what (shrunk g)) (live (shrunk g) e.t) (owed (shrunk g) e.t) ++ ps) h
          ∙ ap (λ o. births e.t e.what o (live (shrunk g) e.t) (owed (shrunk g) e.t) ++ filter is_held_pair (pairs g)) (r.1.finds q)
          ∙ ap (λ ls. births e.t e.what (confirmed_intent e.what g) ls (owed (shrunk g) e.t) ++ filter is_held_pair (pairs g)) (live_kept g lg.0 r.0 e.t)
          ∙ ap (λ ps. births e.t e.what (confirmed_intent e.what g) (filter is_kept_lease (live g e.t)) ps ++ filter is_held_pair (pairs g)) (owed_of g lg.0 r.0 h e.t)
          ∙ ap (λ ps. ps ++ filter is_held_pair (pairs g)) (r.1.born q)
      one false q h = rw (filter_none is_held_pair bs (r.1.unborn q)) h

  -- what is live and owed is the same, where all of it is kept
  pub live_same : (h : List Event) → Legal h → AreRight h → (t : ℕ) → AllByRecursion (λ l. is_kept_lease l ≡ true) (live h t) → live (shrunk h) t ≡ live h t
  live_same h lg r t a = live_kept h lg r t ∙ filter_all is_kept_lease (live h t) a

  pub owed_same : (h : List Event) → Legal h → AreRight h → (t : ℕ) → AllByRecursion (λ p. is_held_pair p ≡ true) (owed h t) → map (owed_push (shrunk h)) (owed (shrunk h) t) ≡ map (owed_push h) (owed h t)
  owed_same h lg r t a =
      ap (map (owed_push (shrunk h))) (owed_of h lg r (pairs_kept h lg r) t ∙ filter_all is_held_pair (owed h t) a)
      ∙ map_same (owed_push (shrunk h)) (owed_push h) (owed h t) (all_weaker (λ p. is_held_pair p ≡ true) _ (λ p k. owed_push_kept h r p k) (owed h t) a)
