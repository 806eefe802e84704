-- Rooms that are given back: the core stands as before, and they are gone.
use Rattle.std.proofs.Common.{◌≡◌, ℕ, ◌≤◌, Bool, true, false, cond, ◌&&◌, List, ◌∷◌, refl, ap, sym, ◌∙◌, subst, arith, ◌⊎◌, inl, inr}
use Rattle.std.specs.Prelude.{Option, Some, None, IfSome, IsSome}
use Rattle.std.specs.Option.{option_map}
use Rattle.std.proofs.lemmas.Bool.{false≢true}
use Rattle.ws_model.specs.declared.event.Event.{Event}
use Rattle.ws_model.specs.declared.event.Intent.{Intent}
use Rattle.ws_model.specs.Keep.{kept_leases, member}
use Rattle.ws_model.specs.Legal.{Legal, pending_of}
use Rattle.ws_model.specs.Revocation.{live_lease_of}
use Rattle.ws_model.specs.Verdict.{is_kept_version}
use Rattle.ws_intent.specs.declared.rows.Waiting.{Waiting}
use Rattle.ws_intent.specs.Rows.{Rows as IntentRows, number_at}
use Rattle.ws_intent.specs.Stands.{StandsFor as IntentsStand}
use Rattle.ws_core_tables.proofs.Lookups.{waiting_is}
use Rattle.ws_tries.specs.declared.room.Try.{Try}
use Rattle.ws_tries.specs.Rows.{Rows as TryRows, tries_at}
use Rattle.ws_tries.specs.Stands.{tries_of}
use Rattle.ws_ledger.specs.Rows.{Rows as LedgerRows}
use Rattle.ws_core.specs.declared.giving_back.Touched.{Touched}
use Rattle.ws_core.specs.GivenBack.{GivesBack, GivesBackPairs, HasHeir, IsGone, Leaves, RoomsAreGone, is_meant, is_of, is_over, of_lease, touched_by_confirmation, touched_of}
use Rattle.ws_core.specs.Past.{IsPast}
use Rattle.ws_core.specs.Rows.{Rows}
use Rattle.ws_core.specs.Stands.{GoesOn, StandsFor}
use Rattle.ws_core.proofs.GoneLeases.{kept_has_heir}
use Rattle.ws_core.proofs.Holding.{BearsOn, Holds, HoldsOn, holds, whole}
use Rattle.ws_core.proofs.Past.{kept_not_past}
use Rattle.ws_core.proofs.Turning.{past_after}

-- ---- the core stands as before

pub still_none : {X : Type 0} (b : Bool) (o : Option X) → o ≡ None → cond b None o ≡ None
still_none true o k = refl
still_none false o k = k

pub not_later : (n : ℕ) → n ≤ n
not_later n = omega arith

there_or_gone : {X : Type 0} (P : X → Type 0) (F : Type 0) (o new : Option X) → IfSome o P → (new ≡ o) ⊎ ((new ≡ None) × F) → IfSome new P
there_or_gone P F o new k (inl same) = subst (λ z. IfSome z P) (sym same) k
there_or_gone P F o new k (inr gone) = subst (λ z. IfSome z P) (sym gone.0) tt

pub none_or_gone : {X : Type 0} (F : Type 0) (o new : Option X) → o ≡ None → (new ≡ o) ⊎ ((new ≡ None) × F) → new ≡ None
none_or_gone F o new k (inl same) = same ∙ k
none_or_gone F o new k (inr gone) = gone.0

stays_some : {X : Type 0} (F : Type 0) (o new : Option X) → (F → ⊥) → IsSome o → (new ≡ o) ⊎ ((new ≡ None) × F) → IsSome new
stays_some F o new never k (inl same) = subst IsSome (sym same) k
stays_some F o new never k (inr gone) = absurd (never gone.1)

-- where only rooms of pairs are taken that no compaction would keep
pub stays : (IsFree : ℕ → ℕ → Type 0) (h : List Event) (since : ℕ) (rows : Rows) (tries : TryRows) → Leaves IsFree rows.tries tries
    → ((v n : ℕ) → is_kept_version h since v ≡ true → member n (kept_leases h since) ≡ true → IsFree v n → ⊥) → Holds h since rows
    → Holds h since (record { ledger = rows.ledger; log = rows.log; renewals = rows.renewals; tries = tries })
stays IsFree h since rows tries left never s =
    record {
      ledger = s.ledger;
      log = s.log;
      renewals = s.renewals;
      tries = λ v n. there_or_gone (λ (ts : List Try). ts ≡ tries_of h v n) (IsFree v n) (tries_at v n rows.tries) (tries_at v n tries) (s.tries v n) (left v n);
      only = λ v n k. none_or_gone (IsFree v n) (tries_at v n rows.tries) (tries_at v n tries) (s.only v n k) (left v n);
      rooms = λ v n kept_version kept_lease there.
          stays_some (IsFree v n) (tries_at v n rows.tries) (tries_at v n tries) (never v n kept_version kept_lease) (s.rooms v n kept_version kept_lease there) (left v n);
    }

-- ---- versions

-- an event, and then the rooms of those versions that it touches
pub goes_back :
    (e : Event) (touched : Touched) (old mid : Rows) (rest : TryRows) → HoldsOn e old mid → BearsOn e old mid → GivesBack (is_meant touched mid.tries) mid.ledger mid.tries rest
    → ((h : List Event) (since : ℕ) → StandsFor h since old → Legal h → since ≤ e.t → touched ≡ touched_of h e.t e.what)
    → GoesOn e old (record { ledger = mid.ledger; log = mid.log; renewals = mid.renewals; tries = rest })
goes_back e touched old mid rest goes bears gives are h since s l le =
    let after = goes h since s l le in
    whole (e ∷ h) e.t (record { ledger = mid.ledger; log = mid.log; renewals = mid.renewals; tries = rest })
    (stays (λ v n. IsPast (e ∷ h) mid.ledger.fates v) (e ∷ h) e.t mid rest (gives.left (e ∷ h) e.t after.ledger l)
    (λ v n kept _ past. kept_not_past (e ∷ h) e.t e.t v mid.ledger after.ledger l (not_later e.t) kept past) after)
    (past_after e h since old mid l le s after.ledger (bears h since s l le) rest
    (λ v n meant past. gives.gone (e ∷ h) e.t after.ledger l v n (ap (λ z. is_meant z mid.tries v) (are h since s l.0 le) ∙ meant) past)
    (λ v n none. none_or_gone (IsPast (e ∷ h) mid.ledger.fates v) (tries_at v n mid.tries) (tries_at v n rest) none (gives.left (e ∷ h) e.t after.ledger l v n)))

-- ---- leases

-- the lease is over and has no heir
pub record IsOver (h : List Event) (t : ℕ) (rows : LedgerRows) (tries : TryRows) (n : ℕ) : Type 0 where
  pub over : is_over h t n ≡ true
  pub none : HasHeir tries rows.fates n → ⊥

module _ (h : List Event) (t : ℕ) (touched : Touched) (rows : Rows) (rest : TryRows) (l : Legal h) (gives : GivesBackPairs touched t rows.ledger rows.tries rest) where
  abbrev less : Rows
  less = record { ledger = rows.ledger; log = rows.log; renewals = rows.renewals; tries = rest }

  pub lease_leaves : Holds h t rows → Leaves (λ v n. IsOver h t rows.ledger rows.tries n) rows.tries rest
  lease_leaves s v n = by gives.all refl (is_of touched n) refl
    where
      by : (b : Bool) → gives.all ≡ b → (c : Bool) → is_of touched n ≡ c → (tries_at v n rest ≡ tries_at v n rows.tries) ⊎ ((tries_at v n rest ≡ None) × IsOver h t rows.ledger rows.tries n)
      by false q c r = inl (gives.look v n ∙ ap (λ b. cond (b && is_of touched n) None (tries_at v n rows.tries)) q)
      by true q false r = inl (gives.look v n ∙ (λ j. cond (q j && r j) None (tries_at v n rows.tries)))
      by true q true r = inr (
        gives.look v n ∙ (λ j. cond (q j && r j) None (tries_at v n rows.tries)),
        record { over = gives.over q n r h t s.ledger l (not_later t); none = gives.none q n r },
      )

  pub lease_stands : StandsFor h t rows → StandsFor h t less
  lease_stands s =
      let held = holds h t rows s in
      whole h t less
      (stays (λ v n. IsOver h t rows.ledger rows.tries n) h t rows rest (lease_leaves held)
      (λ v n _ kept over. over.none (kept_has_heir h t n rows.ledger rows.tries s.ledger l s.rooms kept over.over)) held)
      (λ v n past. none_or_gone (IsOver h t rows.ledger rows.tries n) (tries_at v n rows.tries) (tries_at v n rest) (s.past v n past) (lease_leaves held v n))

  pub lease_gone : StandsFor h t rows → (v n : ℕ) → is_of touched n ≡ true → IsGone h t rows.ledger.fates n → tries_at v n rest ≡ None
  lease_gone s v n of gone = by gives.all refl
    where
      no_room : (w : ℕ) → IsSome (tries_at w n rows.tries) → tries_at w n rows.tries ≡ None → ⊥
      no_room w there none = false≢true (subst IsSome none there)

      by : (b : Bool) → gives.all ≡ b → tries_at v n rest ≡ None
      by true q = gives.look v n ∙ (λ j. cond (q j && of j) None (tries_at v n rows.tries))
      by false q =
          let heir = gives.heir q n of h t s.ledger l (not_later t) gone.over in
          absurd (no_room heir.0 heir.2 (s.past heir.0 n (gone.past heir.0 heir.3)))

-- an event, and then the rooms of the lease that it touches
pub goes_on_without :
    (e : Event) (touched : Touched) (old mid : Rows) (rest : TryRows) → GoesOn e old mid → GivesBackPairs touched e.t mid.ledger mid.tries rest
    → GoesOn e old (record { ledger = mid.ledger; log = mid.log; renewals = mid.renewals; tries = rest })
goes_on_without e touched old mid rest goes gives h since s l le = lease_stands (e ∷ h) e.t touched mid rest l gives (goes h since s l le)

pub rooms_gone :
    (e : Event) (touched : Touched) (old mid : Rows) (rest : TryRows) → GoesOn e old mid → GivesBackPairs touched e.t mid.ledger mid.tries rest
    → ((h : List Event) (since : ℕ) → StandsFor h since old → Legal h → since ≤ e.t → touched ≡ touched_of h e.t e.what)
    → RoomsAreGone e old (record { ledger = mid.ledger; log = mid.log; renewals = mid.renewals; tries = rest })
rooms_gone e touched old mid rest goes gives are h since s l le v n of gone =
    lease_gone (e ∷ h) e.t touched mid rest l gives (goes h since s l le) v n (ap (λ z. is_of z n) (are h since s l.0 le) ∙ of) gone

-- ---- what a confirmation touches

pub by_waiting :
    (h : List Event) (t n : ℕ) (rows : IntentRows) (lease : Option ℕ) → IntentsStand rows h → IsSome (number_at n rows.pending)
    → ((i : Intent) → Some i ≡ pending_of h n → lease ≡ option_map (λ l. l.intent.n) (live_lease_of h t i.topic i.callback)) → of_lease lease ≡ touched_by_confirmation h t (pending_of h n)
by_waiting h t n rows lease s waits found = by (number_at n rows.pending) refl waits
  where
    by : (o : Option Waiting) → number_at n rows.pending ≡ o → IsSome o → of_lease lease ≡ touched_by_confirmation h t (pending_of h n)
    by None k w = absurd (false≢true w)
    by (Some w) k _ = let is = waiting_is h rows n w s (sym k) in ap of_lease (found w.intent is) ∙ ap (touched_by_confirmation h t) is
