-- A lease that a compaction would keep isn't gone.
use Rattle.std.proofs.Common.{◌≡◌, ℕ, ◌≤◌, ◌<◌, Bool, true, false, not, ◌&&◌, List, [], ◌∷◌, ◌++◌, refl, ap, sym, ◌∙◌, subst, arith}
use Rattle.std.specs.Prelude.{Option, Some, None, is_some, find, ◌==◌}
use Rattle.std.specs.List.{AllByRecursion, list_any}
use Rattle.std.specs.Option.{option_map}
use Rattle.std.proofs.lemmas.Bool.{and_from, and_parts, eqb-true, false≢true, or_left, or_right}
use Rattle.ws_model.specs.declared.event.Event.{Event}
use Rattle.ws_model.specs.declared.event.Intent.{Intent}
use Rattle.ws_model.specs.declared.fate.Cause.TheVariants.{Replaced}
use Rattle.ws_model.specs.declared.fate.Fate.TheVariants.{Ended as HasEnded}
use Rattle.ws_model.specs.declared.lease.Lease.{Lease}
use Rattle.ws_model.specs.Fate.{Pair, fate, is_owed}
use Rattle.ws_model.specs.Intents.{notices, same_pair}
use Rattle.ws_model.specs.Keep.{is_among, kept_leases, member}
use Rattle.ws_model.specs.Leases.{confirmed_intent, lease_of, live}
use Rattle.ws_model.specs.Legal.{Legal, number_limit}
use Rattle.ws_model.specs.Moment.{time}
use Rattle.ws_model.specs.Pairs.{births, owed, pairs}
use Rattle.ws_model.specs.Verdict.{is_kept_version, pair_of}
use Rattle.ws_laws.proofs.Ended.{both_true}
use Rattle.ws_laws.proofs.Follow.{some_found}
use Rattle.ws_laws.proofs.Known.{IsKnown, itself, pairs_known}
use Rattle.ws_laws.proofs.ListLaws.{all_filter, all_weaker, any_then}
use Rattle.ws_laws.proofs.Paired.{pairs_only}
use Rattle.ws_compaction.specs.Least.{IsKeptLease, has_number, takes_over}
use Rattle.ws_compaction.specs.Least.IsKeptLease.{IsLive, IsNoticed, IsTakenOver}
use Rattle.ws_compaction.proofs.Least.{keeps_least}
use Rattle.ws_fate.specs.Rows.{standing_at}
use Rattle.ws_fate.specs.Totals.{standing}
use Rattle.ws_handover.specs.Taken.{WentOver}
use Rattle.ws_handover.proofs.Taken.{taken_is_replaced}
use Rattle.ws_tries.specs.Rows.{Rows as TryRows}
use Rattle.ws_tries.specs.Stands.{HaveRooms}
use Rattle.ws_ledger.specs.Rows.{Rows as LedgerRows}
use Rattle.ws_ledger.specs.Stands.{StandsFor as LedgerStands, kept}
use Rattle.ws_core.specs.GivenBack.{HasHeir, is_over}
use Rattle.ws_core.proofs.Past.{low_version}

-- the intent of a live lease tells that there is one
pub told_by_intent : (n : ℕ) (ls : List Lease) (o : Option Intent) → o ≡ option_map (λ l. l.intent) (find (λ l. l.intent.n == n) ls) → is_some o ≡ has_number n ls
told_by_intent n ls o k = ap is_some k ∙ same (find (λ l. l.intent.n == n) ls) ∙ some_found (λ l. l.intent.n == n) ls
  where
    same : (o : Option Lease) → is_some (option_map (λ l. l.intent) o) ≡ is_some o
    same None = refl
    same (Some l) = refl

-- ---- the test

pub over_now : (h : List Event) (t n : ℕ) (lives noticed : Bool) → time h ≡ t → lives ≡ has_number n (live h (time h)) → lives ≡ false → noticed ≡ is_among (notices h) n → not noticed ≡ is_over h t n
over_now h t n lives noticed now is dead owed = by (time h == t) (has_number n (live h t)) noticed (is_among (notices h) n) (same (time h) t now) (ap (λ u. has_number n (live h u)) (sym now) ∙ sym is ∙ dead) owed
  where
    same : (a b : ℕ) → a ≡ b → (a == b) ≡ true
    same a b k = ap (λ c. a == c) (sym k) ∙ itself a

    by : (a b c d : Bool) → a ≡ true → b ≡ false → c ≡ d → not c ≡ (a && not b && not d)
    by true false c d k l m = ap not m
    by false b c d k l m = absurd (false≢true k)
    by true true c d k l m = absurd (false≢true (sym l))

pub not_later : (since t now : ℕ) → now ≡ t → since ≤ t → since ≤ now
not_later since t now k le = subst (λ u. since ≤ u) (sym k) le

pub other_time : (h : List Event) (t n now : ℕ) → now ≡ time h → (now ≡ t → ⊥) → false ≡ is_over h t n
other_time h t n now k other = by (time h == t) refl
  where
    by : (a : Bool) → (time h == t) ≡ a → false ≡ (a && not (has_number n (live h t)) && not (is_among (notices h) n))
    by true q = absurd (other (k ∙ eqb-true (time h) t q))
    by false q = refl

-- ---- the members of a list, and the pairs of a history further back

each_any : {X : Type 0} (xs : List X) → AllByRecursion (λ x. (q : X → Bool) → q x ≡ true → list_any q xs ≡ true) xs
each_any [] = tt
each_any {X} (x ∷ xs) = ((λ q k. or_left _ _ k), all_weaker (λ y. (q : X → Bool) → q y ≡ true → list_any q xs ≡ true) (λ y. (q : X → Bool) → q y ≡ true → list_any q (x ∷ xs) ≡ true) (λ y f q k. or_right (q x) _ (f q k)) xs (each_any xs))

pub all_right : {X : Type 0} (P : X → Type 0) (xs ys : List X) → AllByRecursion P (xs ++ ys) → AllByRecursion P ys
all_right P [] ys a = a
all_right P (x ∷ xs) ys a = all_right P xs ys a.1

all_behind : (P : Pair → Type 0) (c g : List Event) → AllByRecursion P (pairs (c ++ g)) → AllByRecursion P (pairs g)
all_behind P [] g a = a
all_behind P (e ∷ c) g a = all_behind P c g (all_right P (births e.t e.what (confirmed_intent e.what (c ++ g)) (live (c ++ g) e.t) (owed (c ++ g) e.t)) (pairs (c ++ g)) a)

-- ---- a lease that is kept

module _ (h : List Event) (t : ℕ) (n : ℕ) (rows : LedgerRows) (tries : TryRows) (s : LedgerStands h t rows) (l : Legal h) (rooms : HaveRooms h t tries) (kept_lease : member n (kept_leases h t) ≡ true) where
  -- a pair that went over stands so in the table
  abbrev Turned : Pair → Type 0
  Turned p = (WentOver h p → fate h p t ≡ HasEnded Replaced) × ((pair_of h p.version.ver p.lease.intent.n ≡ Some p) × (p.version.ver < number_limit))

  pair_shown : (p : Pair) → Turned p → WentOver h p → is_kept_version h t p.version.ver ≡ true → (p.lease.intent.n == n) ≡ true → HasHeir tries rows.fates n
  pair_shown p turned over kept_version number =
      let same : p.lease.intent.n ≡ n = eqb-true p.lease.intent.n n number in (
        p.version.ver,
        turned.1.1,
        rooms p.version.ver n kept_version kept_lease ((λ j. is_some (pair_of h p.version.ver (sym same j))) ∙ ap is_some turned.1.0),
        (λ j. standing_at p.version.ver (sym same j) rows.fates)
            ∙ s.shows t p.version.ver p.lease.intent.n (itself_le t)
            ∙ ap (λ o. option_map kept (option_map standing (option_map (λ x. fate h x t) o))) turned.1.0
            ∙ ap (λ f. Some (kept (standing f))) (turned.0 over),
      )
    where
      itself_le : (m : ℕ) → m ≤ m
      itself_le m = omega arith

  module _ (c : List Event) (e : Event) (g : List Event) (m : ℕ) (q : h ≡ c ++ e ∷ g) where
    all_turned : AllByRecursion Turned (owed g e.t)
    all_turned =
        all_filter Turned (λ p. is_owed (fate g p e.t)) (pairs g)
        (all_behind Turned (e ∷ []) g
        (all_behind Turned c (e ∷ g)
        (subst (λ f. AllByRecursion Turned (pairs f)) q
        (both_true (λ p. WentOver h p → fate h p t ≡ HasEnded Replaced) (λ p. (pair_of h p.version.ver p.lease.intent.n ≡ Some p) × (p.version.ver < number_limit)) (pairs h) (taken_is_replaced h t l s.tables.leases.begun)
        (both_true (λ p. pair_of h p.version.ver p.lease.intent.n ≡ Some p) (λ p. p.version.ver < number_limit) (pairs h) (pairs_only h l)
        (all_weaker (IsKnown h) (λ p. p.version.ver < number_limit) (λ p k. low_version h p.version.ver l k.fetched) (pairs h) (pairs_known h)))))))

    -- the pair of that version and that lease goes over to the new lease x
    abbrev goes : (ℕ → Bool) → ℕ → Lease → Pair → Bool
    goes these k x p = (p.lease.intent.n == k) && (these p.version.ver && same_pair x.intent p.lease.intent)

    abbrev makes : (ℕ → Bool) → ℕ → ℕ → Lease → Bool
    makes these m k x = (x.intent.n == m) && list_any (goes these k x) (owed g e.t)

    one_over : (x : Lease) → ((r : Lease → Bool) → r x ≡ true → list_any r (lease_of e.what (confirmed_intent e.what g)) ≡ true) → (p : Pair) → ((r : Pair → Bool) → r p ≡ true → list_any r (owed g e.t) ≡ true)
        → same_pair x.intent p.lease.intent ≡ true → WentOver h p
    one_over x new p there same =
        record {
          later = c;
          event = e;
          before = g;
          successor = x.intent.n;
          split = q;
          taken =
              new (makes (λ v. v == p.version.ver) x.intent.n p.lease.intent.n)
              (and_from _ _ (itself x.intent.n) (there (goes (λ v. v == p.version.ver) p.lease.intent.n x) (and_from _ _ (itself p.lease.intent.n) (and_from _ _ (itself p.version.ver) same))));
        }

    taken_shown : takes_over (is_kept_version h t) e g m n ≡ true → HasHeir tries rows.fates n
    taken_shown k =
        any_then (λ x. (r : Lease → Bool) → r x ≡ true → list_any r (lease_of e.what (confirmed_intent e.what g)) ≡ true) (makes (is_kept_version h t) m n) (HasHeir tries rows.fates n)
        (λ x new a.
        any_then (λ p. Turned p × ((r : Pair → Bool) → r p ≡ true → list_any r (owed g e.t) ≡ true)) (goes (is_kept_version h t) n x) (HasHeir tries rows.fates n)
        (λ p known b.
        let d = and_parts (p.lease.intent.n == n) (is_kept_version h t p.version.ver && same_pair x.intent p.lease.intent) b in
        let f = and_parts (is_kept_version h t p.version.ver) (same_pair x.intent p.lease.intent) d.1 in
        pair_shown p known.0 (one_over x new p known.1 f.1) f.0 d.0)
        (owed g e.t) (both_true Turned (λ p. (r : Pair → Bool) → r p ≡ true → list_any r (owed g e.t) ≡ true) (owed g e.t) all_turned (each_any (owed g e.t)))
        (and_parts (x.intent.n == m) (list_any (goes (is_kept_version h t) n x) (owed g e.t)) a).1)
        (lease_of e.what (confirmed_intent e.what g)) (each_any (lease_of e.what (confirmed_intent e.what g))) k

  not_live : (a b c : Bool) → b ≡ true → (a && not b && not c) ≡ true → ⊥
  not_live a true c k over = by a over
    where
      by : (a : Bool) → (a && false && not c) ≡ true → ⊥
      by true k = false≢true k
      by false k = false≢true k
  not_live a false c k over = false≢true k

  not_noticed : (a b c : Bool) → c ≡ true → (a && not b && not c) ≡ true → ⊥
  not_noticed a b true k over = false≢true (sym (by (a && not b)) ∙ over)
    where
      by : (d : Bool) → (d && false) ≡ false
      by true = refl
      by false = refl
  not_noticed a b false k over = false≢true k

  heir : IsKeptLease h t n → is_over h t n ≡ true → HasHeir tries rows.fates n
  heir (IsLive m k) over = absurd (not_live (time h == t) (has_number n (live h t)) (is_among (notices h) n) k over)
  heir (IsNoticed m a k) over = absurd (not_noticed (time h == t) (has_number n (live h t)) (is_among (notices h) n) k over)
  heir (IsTakenOver c e g m k q taken before) over = taken_shown c e g m q taken

  -- a lease that is over, and that a compaction would keep, went over in a pair that has a room
  pub kept_has_heir : is_over h t n ≡ true → HasHeir tries rows.fates n
  kept_has_heir over = heir ((keeps_least h t n l).1 kept_lease) over
