-- The versions whose pairs with a lease have rooms, one after another.
use Rattle.std.proofs.Common.{◌≡◌, ℕ, ◌+◌, ◌≤◌, ◌<◌, Bool, true, false, cond, List, refl, ap, sym, ◌∙◌, subst, arith, ◌⊎◌, inl, inr}
use Rattle.std.specs.Prelude.{◌==◌, Option, Some, None, IsSome, is_some, nat_lt}
use Rattle.std.proofs.lemmas.Bool.{eqb-true, false≢true}
use Rattle.std.proofs.lemmas.Bool.Decides.{nat_tests}
use Rattle.ws_model.specs.declared.event.Event.{Event}
use Rattle.ws_model.specs.declared.fate.Cause.TheVariants.{Expired, Unsubscribed, Replaced, Gone, Spent, Revoked}
use Rattle.ws_model.specs.Legal.{Legal, number_limit}
use Rattle.ws_fate.specs.declared.totals.Standing.{Standing}
use Rattle.ws_fate.specs.declared.totals.Standing.TheVariants.{Open, Answered, Ended}
use Rattle.ws_fate.specs.Rows.{Rows as FateRows, standing_at}
use Rattle.ws_tries.specs.Rows.{Rows as TryRows, tries_at}
use Rattle.ws_ledger.specs.Rows.{Rows as LedgerRows}
use Rattle.ws_ledger.specs.Stands.{StandsFor as LedgerStands}
use Rattle.ws_core.specs.declared.giving_back.Touched.TheVariants.{Lease}
use Rattle.ws_core.specs.GivenBack.{GivesBack, GivesBackPairs, HasHeir, Leaves, is_handed_on, is_of, is_over}
use Rattle.ws_core.specs.Past.{IsPast}

-- ---- rooms of past versions that are given back

-- those of one version
pub version_goes : (ver : ℕ) (ledger : LedgerRows) (old new : TryRows) → ((h : List Event) (since : ℕ) → LedgerStands h since ledger → Legal h → IsPast h ledger.fates ver) → ((v n : ℕ) → tries_at v n new ≡ cond (ver == v) None (tries_at v n old))
    → GivesBack (λ v. ver == v) ledger old new
version_goes ver ledger old new past look =
    record {
      left = λ h since s l v n. by h v n (past h since s l) (ver == v) refl;
      gone = λ h since s l v n is _. look v n ∙ ap (λ b. cond b None (tries_at v n old)) is;
    }
  where
    by : (h : List Event) (v n : ℕ) → IsPast h ledger.fates ver → (b : Bool) → (ver == v) ≡ b → (tries_at v n new ≡ tries_at v n old) ⊎ ((tries_at v n new ≡ None) × IsPast h ledger.fates v)
    by h v n past true q = inr (look v n ∙ ap (λ b. cond b None (tries_at v n old)) q, subst (λ w. IsPast h ledger.fates w) (eqb-true ver v q) past)
    by h v n past false q = inl (look v n ∙ ap (λ b. cond b None (tries_at v n old)) q)

pub version_stays : (ver : ℕ) (ledger : LedgerRows) (tries : TryRows) → ((h : List Event) (since : ℕ) → LedgerStands h since ledger → Legal h → IsPast h ledger.fates ver → ⊥) → GivesBack (λ v. ver == v) ledger tries tries
version_stays ver ledger tries never =
    record {
      left = λ h since s l v n. inl refl;
      gone = λ h since s l v n is past. absurd (never h since s l (subst (λ w. IsPast h ledger.fates w) (sym (eqb-true ver v is)) past));
    }

-- the versions before `from` are gone over, and the others are as they were
pub record WentBack (lease from : ℕ) (ledger : LedgerRows) (old now : TryRows) : Type 0 where
  pub in_limit : from ≤ number_limit
  pub left : (h : List Event) (since : ℕ) → LedgerStands h since ledger → Legal h → Leaves (λ v n. IsPast h ledger.fates v) old now
  pub gone : (h : List Event) (since : ℕ) → LedgerStands h since ledger → Legal h → (v n : ℕ) → is_some (tries_at v lease old) ≡ true → v < from → IsPast h ledger.fates v → tries_at v n now ≡ None
  pub ahead : (v n : ℕ) → from ≤ v → tries_at v n now ≡ tries_at v n old

none_before : (v : ℕ) → v < 0 → ⊥
none_before v k = omega arith

pub at_first : (lease : ℕ) (ledger : LedgerRows) (tries : TryRows) → WentBack lease 0 ledger tries tries
at_first lease ledger tries = record { in_limit = omega arith; left = λ h since s l v n. inl refl; gone = λ h since s l v n k low. absurd (none_before v low); ahead = λ v n k. refl }

both_left : {X : Type 0} (F : Type 0) (old now next : Option X) → (now ≡ old) ⊎ ((now ≡ None) × F) → (next ≡ now) ⊎ ((next ≡ None) × F) → (next ≡ old) ⊎ ((next ≡ None) × F)
both_left F old now next a (inr b) = inr b
both_left F old now next (inl a) (inl b) = inl (b ∙ a)
both_left F old now next (inr a) (inl b) = inr (b ∙ a.0, a.1)

less : (a b : ℕ) → nat_lt a b ≡ true → a < b
less a b k = grind (arith, nat_tests)

more : (a b : ℕ) → nat_lt a b ≡ false → b ≤ a
more a b k = grind (arith, nat_tests)

apart : (a b : ℕ) → a + 1 ≤ b → (a == b) ≡ false
apart a b k = grind (arith, nat_tests)

not_same : (a b : ℕ) → (a == b) ≡ false → b < a + 1 → b < a
not_same a b k l = grind (arith, nat_tests)

module _ (lease from : ℕ) (ledger : LedgerRows) (old now : TryRows) (so_far : WentBack lease from ledger old now) where
  -- one that has no room any more ahead never had one
  none_ahead : (v : ℕ) → from ≤ v → tries_at v lease now ≡ None → is_some (tries_at v lease old) ≡ true → ⊥
  none_ahead v le none k = false≢true (sym (ap is_some (sym (so_far.ahead v lease le) ∙ none)) ∙ k)

  module _ (ver : ℕ) (le : from ≤ ver) (passed : (w : ℕ) → from ≤ w → w < ver → tries_at w lease now ≡ None) where
    pub one_back : (next : TryRows) → ver < number_limit → GivesBack (λ v. ver == v) ledger now next → ((v n : ℕ) → (ver == v) ≡ false → tries_at v n next ≡ tries_at v n now) → WentBack lease (ver + 1) ledger old next
    one_back next low gives others =
        record {
          in_limit = omega arith;
          left = λ h since s l v n. both_left (IsPast h ledger.fates v) (tries_at v n old) (tries_at v n now) (tries_at v n next) (so_far.left h since s l v n) (gives.left h since s l v n);
          gone = λ h since s l v n k below past. by h since s l v n k below past (ver == v) refl;
          ahead = λ v n k. others v n (apart ver v k) ∙ so_far.ahead v n (omega arith);
        }
      where
        before : (h : List Event) (since : ℕ) → LedgerStands h since ledger → Legal h → (v n : ℕ) → is_some (tries_at v lease old) ≡ true → v < ver → IsPast h ledger.fates v → (b : Bool) → nat_lt v from ≡ b → tries_at v n now ≡ None
        before h since s l v n k below past true q = so_far.gone h since s l v n k (less v from q) past
        before h since s l v n k below past false q = absurd (none_ahead v (more v from q) (passed v (more v from q) below) k)

        by : (h : List Event) (since : ℕ) → LedgerStands h since ledger → Legal h → (v n : ℕ) → is_some (tries_at v lease old) ≡ true → v < ver + 1 → IsPast h ledger.fates v → (b : Bool) → (ver == v) ≡ b → tries_at v n next ≡ None
        by h since s l v n k below past true q = gives.gone h since s l v n q past
        by h since s l v n k below past false q = others v n q ∙ before h since s l v n k (not_same ver v q below) past (nat_lt v from) refl

    -- at a version that is out of bounds
    pub all_back_below : number_limit ≤ ver → GivesBack (λ v. is_some (tries_at v lease old)) ledger old now
    all_back_below high =
        record {
          left = so_far.left;
          gone = λ h since s l v n k past. by h since s l v n k past (nat_lt v from) refl;
        }
      where
        by : (h : List Event) (since : ℕ) → LedgerStands h since ledger → Legal h → (v n : ℕ) → is_some (tries_at v lease old) ≡ true → IsPast h ledger.fates v → (b : Bool) → nat_lt v from ≡ b → tries_at v n now ≡ None
        by h since s l v n k past true q = so_far.gone h since s l v n k (less v from q) past
        by h since s l v n k past false q = let low = past.low in absurd (none_ahead v (more v from q) (passed v (more v from q) (omega arith)) k)

  -- behind the last one
  pub all_back : ((w : ℕ) → from ≤ w → tries_at w lease now ≡ None) → GivesBack (λ v. is_some (tries_at v lease old)) ledger old now
  all_back none =
      record {
        left = so_far.left;
        gone = λ h since s l v n k past. by h since s l v n k past (nat_lt v from) refl;
      }
    where
      by : (h : List Event) (since : ℕ) → LedgerStands h since ledger → Legal h → (v n : ℕ) → is_some (tries_at v lease old) ≡ true → IsPast h ledger.fates v → (b : Bool) → nat_lt v from ≡ b → tries_at v n now ≡ None
      by h since s l v n k past true q = so_far.gone h since s l v n k (less v from q) past
      by h since s l v n k past false q = absurd (none_ahead v (more v from q) (none v (more v from q)) k)

-- ---- pairs that went over

-- none of the versions before `from` went over in a pair that has a room
pub record WentOn (lease from : ℕ) (fates : FateRows) (tries : TryRows) : Type 0 where
  pub in_limit : from ≤ number_limit
  pub none : (v : ℕ) → v < from → IsSome (tries_at v lease tries) → standing_at v lease fates ≡ Some (Ended Replaced) → ⊥

handed_on : (o : Option Standing) → o ≡ Some (Ended Replaced) → is_handed_on o ≡ true
handed_on o k = ap is_handed_on k

pub replaced : (o : Option Standing) → is_handed_on o ≡ true → o ≡ Some (Ended Replaced)
replaced None k = absurd (false≢true k)
replaced (Some Open) k = absurd (false≢true k)
replaced (Some Answered) k = absurd (false≢true k)
replaced (Some (Ended Replaced)) k = refl
replaced (Some (Ended Expired)) k = absurd (false≢true k)
replaced (Some (Ended Unsubscribed)) k = absurd (false≢true k)
replaced (Some (Ended Gone)) k = absurd (false≢true k)
replaced (Some (Ended Spent)) k = absurd (false≢true k)
replaced (Some (Ended Revoked)) k = absurd (false≢true k)

no_room : {X : Type 0} (o : Option X) → IsSome o → o ≡ None → ⊥
no_room o there none = false≢true (subst IsSome none there)

module _ (lease from : ℕ) (fates : FateRows) (tries : TryRows) (so_far : WentOn lease from fates tries) where
  -- a version up to one that is looked at
  up_to : (ver v : ℕ) → ((w : ℕ) → from ≤ w → w < ver → tries_at w lease tries ≡ None) → v < ver → IsSome (tries_at v lease tries) → standing_at v lease fates ≡ Some (Ended Replaced) → ⊥
  up_to ver v passed below there over = by (nat_lt v from) refl
    where
      by : (b : Bool) → nat_lt v from ≡ b → ⊥
      by true q = so_far.none v (less v from q) there over
      by false q = no_room (tries_at v lease tries) there (passed v (more v from q) below)

  pub one_on : (ver : ℕ) → from ≤ ver → ((w : ℕ) → from ≤ w → w < ver → tries_at w lease tries ≡ None) → ver < number_limit → is_handed_on (standing_at ver lease fates) ≡ false → WentOn lease (ver + 1) fates tries
  one_on ver le passed low other =
      record {
        in_limit = omega arith;
        none = λ v below there over. by v below there over (ver == v) refl;
      }
    where
      by : (v : ℕ) → v < ver + 1 → IsSome (tries_at v lease tries) → standing_at v lease fates ≡ Some (Ended Replaced) → (b : Bool) → (ver == v) ≡ b → ⊥
      by v below there over true q = false≢true (sym other ∙ ap (λ w. is_handed_on (standing_at w lease fates)) (eqb-true ver v q) ∙ handed_on _ over)
      by v below there over false q = up_to ver v passed (not_same ver v q below) there over

  pub no_heir_below : (ver : ℕ) → ((w : ℕ) → from ≤ w → w < ver → tries_at w lease tries ≡ None) → number_limit ≤ ver → HasHeir tries fates lease → ⊥
  no_heir_below ver passed high heir = let low = heir.1 in up_to ver heir.0 passed (omega arith) heir.2 heir.3

  pub no_heir : ((w : ℕ) → from ≤ w → tries_at w lease tries ≡ None) → HasHeir tries fates lease → ⊥
  no_heir none heir = up_to (heir.0 + 1) heir.0 (λ w le below. none w le) (omega arith) heir.2 heir.3

-- ---- the rooms of a lease

module _ (lease t : ℕ) (ledger : LedgerRows) (tries : TryRows) where
  same_lease : (n : ℕ) → is_of (Lease lease) n ≡ true → lease ≡ n
  same_lease n is = eqb-true lease n is

  pub rooms_go :
      (new : TryRows) → ((v n : ℕ) → tries_at v n new ≡ cond (lease == n) None (tries_at v n tries)) → ((h : List Event) (since : ℕ) → LedgerStands h since ledger → Legal h → since ≤ t → is_over h t lease ≡ true) → (HasHeir tries ledger.fates lease → ⊥)
      → GivesBackPairs (Lease lease) t ledger tries new
  rooms_go new look over none =
      record {
        all = true;
        look = look;
        over = λ _ n is h since s l le. ap (is_over h t) (sym (same_lease n is)) ∙ over h since s l le;
        none = λ _ n is heir. none (subst (HasHeir tries ledger.fates) (sym (same_lease n is)) heir);
        heir = λ refused n is h since s l le over. absurd (false≢true (sym refused));
      }

  pub rooms_stay : ((h : List Event) (since : ℕ) → LedgerStands h since ledger → Legal h → since ≤ t → is_over h t lease ≡ true → HasHeir tries ledger.fates lease) → GivesBackPairs (Lease lease) t ledger tries tries
  rooms_stay heir =
      record {
        all = false;
        look = λ v n. refl;
        over = λ passed n is h since s l le. absurd (false≢true passed);
        none = λ passed n is has. false≢true passed;
        heir = λ _ n is h since s l le over. subst (HasHeir tries ledger.fates) (same_lease n is) (heir h since s l le (ap (is_over h t) (same_lease n is) ∙ over));
      }
