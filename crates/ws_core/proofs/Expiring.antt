-- Leases that have expired are let go: the core stands as before, and the rooms of those that no compaction would keep are gone.
use Rattle.std.proofs.Common.{◌≡◌, ℕ, ◌≤◌, ◌<◌, ◌^◌, Bool, true, false, cond, ◌&&◌, List, [], ◌∷◌, refl, ap, sym, ◌∙◌, subst, arith, ◌⊎◌, inl, inr}
use Rattle.std.specs.Prelude.{◌==◌, max, nat_le, Some, None}
use Rattle.std.specs.List.{list_any}
use Rattle.std.specs.Option.{IsSomeAnd}
use Rattle.std.specs.Ordering.{nat_cmp}
use Rattle.std.specs.BTreeMap.{is_at}
use Rattle.std.proofs.lemmas.Bool.{false≢true, or_parts}
use Rattle.std.proofs.lemmas.Bool.Decides.{nat_tests}
use Rattle.ws_model.specs.declared.event.Event.{Event}
use Rattle.ws_model.specs.Leases.{expiry}
use Rattle.ws_model.specs.declared.event.What.{What}
use Rattle.ws_model.specs.declared.event.What.TheVariants.{Tally}
use Rattle.ws_model.specs.Legal.{Legal}
use Rattle.ws_model.specs.Moment.{time_in}
use Rattle.ws_lease.specs.Table.{Rows as LeaseRows, lease_at, without}
use Rattle.ws_fate.specs.Rows.{Rows as FateRows}
use Rattle.ws_tries.specs.Rows.{Rows as TryRows, tries_at}
use Rattle.ws_core_tables.specs.Passing.{AreUnexpired, TakesLease}
use Rattle.ws_core_tables.proofs.Reasons.{time_small}
use Rattle.ws_kept.specs.declared.renewal.Renewal.{Renewal}
use Rattle.ws_ledger.specs.Rows.{Rows as LedgerRows}
use Rattle.ws_ledger.specs.Stands.{StandsFor as LedgerStands}
use Rattle.ws_core.specs.declared.giving_back.Touched.TheVariants.{Lease}
use Rattle.ws_core.specs.GivenBack.{GivesBackPairs, IsGone, RoomsAreGone}
use Rattle.ws_core.specs.Past.{IsPast}
use Rattle.ws_core.specs.Passing.{ExpiredAreGone, Passes, StayGone}
use Rattle.ws_core.specs.Rows.{Rows}
use Rattle.ws_core.specs.Stands.{GoesOn, StandsFor}
use Rattle.ws_core.proofs.GivingBack.{lease_gone, lease_stands, still_none}

-- ---- the held leases

apart : (m n x : ℕ) → (m == n) ≡ false → is_at (nat_cmp m) x ≡ true → is_at (nat_cmp n) x ≡ false
apart m n x k l = grind (arith, nat_tests)

others_held : (m n : ℕ) (rows : LeaseRows) → (m == n) ≡ false → lease_at n (without m rows) ≡ lease_at n rows
others_held m n [] k = refl
others_held m n (r ∷ rows) k = by (is_at (nat_cmp m) r.0) refl (others_held m n rows k)
  where
    by : (b : Bool) → is_at (nat_cmp m) r.0 ≡ b → lease_at n (without m rows) ≡ lease_at n rows → lease_at n (cond b rows (r ∷ without m rows)) ≡ cond (is_at (nat_cmp n) r.0) (Some r.1) (lease_at n rows)
    by true l f = ap (λ b. cond b (Some r.1) (lease_at n rows)) (sym (apart m n r.0 k l))
    by false l f = ap (cond (is_at (nat_cmp n) r.0) (Some r.1)) f

none_expired : (t n : ℕ) (rows : LeaseRows) → AreUnexpired t rows → IsSomeAnd (lease_at n rows) (λ l. expiry l ≤ t) → ⊥
none_expired t n [] u e = e
none_expired t n (r ∷ rows) u e = by (is_at (nat_cmp n) r.0) e (none_expired t n rows (or_parts (nat_le (expiry r.1) t) (list_any (λ x. nat_le (expiry x.1) t) rows) u).1)
  where
    late : (x : ℕ) → x ≤ t → nat_le x t ≡ true
    late x k = grind (arith, nat_tests)

    by : (b : Bool) → IsSomeAnd (cond b (Some r.1) (lease_at n rows)) (λ l. expiry l ≤ t) → (IsSomeAnd (lease_at n rows) (λ l. expiry l ≤ t) → ⊥) → ⊥
    by true e f = false≢true (sym (or_parts (nat_le (expiry r.1) t) (list_any (λ x. nat_le (expiry x.1) t) rows) u).0 ∙ late (expiry r.1) e)
    by false e f = f e

-- ---- one lease after another

-- what holds while they are let go
pub record SoFar (t : ℕ) (ledger : LedgerRows) (tries : TryRows) (later : LedgerRows) (left : TryRows) : Type 0 where
  pub stands : Passes t ledger tries later left
  pub none : StayGone tries left
  pub fates : later.fates ≡ ledger.fates
  pub gone : (h log : List Event) (renewals : List Renewal) → StandsFor h t (record { ledger = ledger; log = log; renewals = renewals; tries = tries }) → Legal h → (n : ℕ) → IsGone h t ledger.fates n
      → (lease_at n later.tables.leases ≡ lease_at n ledger.tables.leases) ⊎ ((v : ℕ) → tries_at v n left ≡ None)

pub at_first : (t : ℕ) (ledger : LedgerRows) (tries : TryRows) → SoFar t ledger tries ledger tries
at_first t ledger tries = record { stands = λ h log renewals s l. s; none = λ v n k. k; fates = refl; gone = λ h log renewals s l n g. inl refl }

same_time : (t : ℕ) → max t t ≡ t
same_time t = omega arith

module _ (t m : ℕ) (ledger : LedgerRows) (tries : TryRows) (later : LedgerRows) (left : TryRows) (last : LedgerRows) (rest : TryRows)
    (so_far : SoFar t ledger tries later left) (takes : (h : List Event) (since : ℕ) → LedgerStands h since later → LedgerStands h (max since t) last)
    (taken : TakesLease t m later.tables last.tables) (fates : last.fates ≡ later.fates) (gives : GivesBackPairs (Lease m) t last left rest) where
  all_fates : last.fates ≡ ledger.fates
  all_fates = fates ∙ so_far.fates

  module _ (h log : List Event) (renewals : List Renewal) (s : StandsFor h t (record { ledger = ledger; log = log; renewals = renewals; tries = tries })) (l : Legal h) where
    -- with the lease taken out of the tables, and its rooms still there
    abbrev mid : Rows
    mid = record { ledger = last; log = log; renewals = renewals; tries = left }

    stands : StandsFor h t mid
    stands =
        let before = so_far.stands h log renewals s l in
        record {
          ledger = subst (λ u. LedgerStands h u last) (same_time t) (takes h t before.ledger);
          log = before.log;
          renewals = before.renewals;
          tries = before.tries;
          only = before.only;
          rooms = before.rooms;
          past = λ v n k. before.past v n (subst (λ (f : FateRows). IsPast h f v) fates k);
        }

    pub one_stands : StandsFor h t (record { ledger = last; log = log; renewals = renewals; tries = rest })
    one_stands = lease_stands h t (Lease m) mid rest l gives stands

    pub one_gone : (n : ℕ) → IsGone h t ledger.fates n → (lease_at n later.tables.leases ≡ lease_at n ledger.tables.leases) ⊎ ((v : ℕ) → tries_at v n left ≡ None)
        → (lease_at n last.tables.leases ≡ lease_at n ledger.tables.leases) ⊎ ((v : ℕ) → tries_at v n rest ≡ None)
    one_gone n gone (inr none) = inr (λ v. gives.look v n ∙ still_none (gives.all && (m == n)) (tries_at v n left) (none v))
    one_gone n gone (inl same) = by (m == n) refl
      where
        by : (b : Bool) → (m == n) ≡ b → (lease_at n last.tables.leases ≡ lease_at n ledger.tables.leases) ⊎ ((v : ℕ) → tries_at v n rest ≡ None)
        by false k = inl (ap (lease_at n) taken.leases ∙ others_held m n later.tables.leases k ∙ same)
        by true k = inr (λ v. lease_gone h t (Lease m) mid rest l gives stands v n k (subst (λ (f : FateRows). IsGone h t f n) (sym all_fates) gone))

  pub one_more : SoFar t ledger tries last rest
  one_more =
      record {
        stands = one_stands;
        none = λ v n k. gives.look v n ∙ still_none (gives.all && (m == n)) (tries_at v n left) (so_far.none v n k);
        fates = all_fates;
        gone = λ h log renewals s l n gone. one_gone h log renewals s l n gone (so_far.gone h log renewals s l n gone);
      }

pub all_gone : (t : ℕ) (ledger : LedgerRows) (tries : TryRows) (later : LedgerRows) (left : TryRows) → SoFar t ledger tries later left → AreUnexpired t later.tables.leases → ExpiredAreGone t ledger tries left
all_gone t ledger tries later left so_far u h log renewals s l v n expired gone =
    elim (so_far.gone h log renewals s l n gone) [
      | inl same ↦ absurd (none_expired t n later.tables.leases u (subst (λ o. IsSomeAnd o (λ x. expiry x ≤ t)) (sym same) expired))
      | inr none ↦ none v
    ]

-- ---- an event, and then what has expired by its time

pub goes_past : (e : Event) (old mid : Rows) (ledger : LedgerRows) (tries : TryRows) → GoesOn e old mid → Passes e.t mid.ledger mid.tries ledger tries
    → GoesOn e old (record { ledger = ledger; log = mid.log; renewals = mid.renewals; tries = tries })
goes_past e old mid ledger tries goes passes h since s l le = passes (e ∷ h) mid.log mid.renewals (goes h since s l le) l

pub gone_past : (e : Event) (old mid : Rows) (ledger : LedgerRows) (tries : TryRows) → RoomsAreGone e old mid → ledger.fates ≡ mid.ledger.fates → StayGone mid.tries tries
    → RoomsAreGone e old (record { ledger = ledger; log = mid.log; renewals = mid.renewals; tries = tries })
gone_past e old mid ledger tries gone fates none h since s l le v n of is_gone =
    none v n (gone h since s l le v n of (subst (λ (f : FateRows). IsGone (e ∷ h) e.t f n) fates is_gone))

-- its time is within the limit
pub in_time : (e : Event) (h : List Event) → Legal (e ∷ h) → e.t < 2 ^ 48
in_time e h l = let a = time_small (e ∷ h) l in let b = own e.what in omega arith
  where
    own : (w : What) → e.t ≤ time_in e w
    own (Tally c) = omega arith
    own w = omega arith
