-- What no compaction keeps, as the code tells it.
use Rattle.std.proofs.Common.{◌≡◌, ℕ, ◌≤◌, Bool, true, false, cond, not, ◌&&◌, ◌||◌, List, [], ◌∷◌, ◌++◌, drop, refl, ap, sym, ◌∙◌, subst, arith, inl, inr, ◌⊎◌}
use Rattle.std.specs.Prelude.{filter, None, Option, Some, ◌==◌}
use Rattle.std.specs.List.{list_any}
use Rattle.std.proofs.lemmas.Bool.{eqb-true, false≢true, or_cases, or_left, or_right}
use Rattle.ws_model.specs.declared.event.Event.{Event}
use Rattle.ws_model.specs.declared.event.Intent.{Intent}
use Rattle.ws_model.specs.declared.event.What.{What}
use Rattle.ws_model.specs.declared.lease.Lease.{Lease}
use Rattle.ws_model.specs.Intents.{notices}
use Rattle.ws_model.specs.Keep.{first_kept, is_among, keeps, kept_leases, member, numbers}
use Rattle.ws_model.specs.Leases.{leases, live}
use Rattle.ws_model.specs.Legal.{Legal}
use Rattle.ws_model.specs.Moment.{time}
use Rattle.ws_model.specs.Verdict.{is_kept_version}
use Rattle.ws_laws.proofs.ListLaws.{all_filter_with, all_from, any_then}
use Rattle.ws_compaction.specs.Least.{has_number}
use Rattle.ws_compaction.proofs.Replaced.{any-map, member_cases}
use Rattle.ws_sweep.specs.Rows.{first_of}
use Rattle.ws_tries.specs.declared.room.Try.{Try}
use Rattle.ws_tries.specs.Rows.{Rows as TryRows, tries_at}
use Rattle.ws_kept.specs.declared.renewal.Renewal.{Renewal}
use Rattle.ws_kept.specs.Part.{IsPart}
use Rattle.ws_kept.specs.Part.IsPart.{IsEnd, Has, Lacks}
use Rattle.ws_kept.specs.Stands.{is_needed, is_tally}
use Rattle.ws_kept.proofs.Part.{part_without}
use Rattle.ws_ledger.specs.Rows.{Rows as LedgerRows}
use Rattle.ws_ledger.specs.Stands.{StandsFor as LedgerStands}
use Rattle.ws_core.specs.GivenBack.{HasHeir, Leaves, is_over}
use Rattle.ws_core.specs.Past.{IsPast}
use Rattle.ws_core.specs.Rows.{Rows}
use Rattle.ws_core.specs.Stands.{StandsFor}
use Rattle.ws_core.specs.Sweeping.{AreHeld, IsAmong, LeavesLeases, LeavesVersions, StayRenewed, StaysLogged}
use Rattle.ws_core.proofs.GivingBack.{none_or_gone, stays}
use Rattle.ws_core.proofs.GoneLeases.{kept_has_heir}
use Rattle.ws_core.proofs.Holding.{holds, whole}
use Rattle.ws_core.proofs.Past.{kept_not_past}

pub itself_le : (t : ℕ) → t ≤ t
itself_le t = omega arith

never : (b : Bool) → (b ≡ true → ⊥) → b ≡ false
never true f = absurd (f refl)
never false f = refl

pub version_free : (h : List Event) (t v : ℕ) (rows : LedgerRows) → LedgerStands h t rows → Legal h → IsPast h rows.fates v → is_kept_version h t v ≡ false
version_free h t v rows s l past = never (is_kept_version h t v) (λ k. kept_not_past h t t v rows s l (itself_le t) k past)

pub lease_free : (h : List Event) (t n : ℕ) (rows : LedgerRows) (tries : TryRows) → AreHeld h t rows tries → ((h : List Event) (since : ℕ) → LedgerStands h since rows → Legal h → since ≤ t → is_over h t n ≡ true) → (HasHeir tries rows.fates n → ⊥)
    → member n (kept_leases h t) ≡ false
lease_free h t n rows tries held over none =
    never (member n (kept_leases h t)) (λ kept. none (kept_has_heir h t n rows tries held.stands held.legal held.rooms kept (over h t held.stands held.legal (itself_le t))))

-- by its kind
pub free_by : (h : List Event) (t : ℕ) (e : Event) (w : What) → e.what ≡ w → (is_tally w || keeps h t e w) ≡ false → is_needed h t e ≡ false
free_by h t e w kind free = ap (λ x. is_tally x || keeps h t e x) kind ∙ free

pub neither : (a b : Bool) → a ≡ false → b ≡ false → (a || b) ≡ false
neither a b k l = (λ i. k i || l i) ∙ refl

-- ---- the first of those that are left is taken out

split : {X : Type 0} (x : X) (xs : List X) → Some x ≡ first_of xs → xs ≡ x ∷ drop 1 xs
split x [] k = absurd (cc)
split x (y ∷ ys) k = let same : x ≡ y = cc in ap (λ z. z ∷ ys) (sym same)

pub without_first : {X : Type 0} (Needed : X → Type 0) (looked left : List X) (x : X) {all : List X} → Some x ≡ first_of left → (Needed x → ⊥) → IsPart Needed (looked ++ left) all → IsPart Needed (looked ++ drop 1 left) all
without_first Needed looked left x first free p = part_without Needed looked x (drop 1 left) free (ap (λ ys. looked ++ ys) (split x left first)) p

pub not_needed : (b : Bool) → b ≡ false → b ≡ true → ⊥
not_needed b k l = false≢true (sym k ∙ l)

-- ---- a lease that is over is none of the first ones

over_parts : (a b c : Bool) → (a && not b && not c) ≡ true → (b ≡ false) × (c ≡ false)
over_parts true false false k = (refl, refl)
over_parts true false true k = absurd (false≢true k)
over_parts true true c k = absurd (false≢true k)
over_parts false b c k = absurd (false≢true k)

pub not_first : (h : List Event) (t n : ℕ) → is_over h t n ≡ true → member n (first_kept h t) ≡ false
not_first h t n over =
    let parts = over_parts (time h == t) (has_number n (live h t)) (is_among (notices h) n) over in
    never (member n (first_kept h t))
    (λ k.
    elim (member_cases n (numbers (live h t)) (numbers (filter (λ (x : Lease). list_any (λ i. i.n == x.intent.n) (notices h)) (leases h))) k) [
      | inl a ↦ false≢true (sym parts.0 ∙ sym (any-map (λ (x : Lease). x.intent.n) n (live h t)) ∙ a)
      | inr a ↦
          any_then (λ (x : Lease). Unit {0} × (list_any (λ i. i.n == x.intent.n) (notices h) ≡ true)) (λ x. x.intent.n == n) ⊥
          (λ x b e. false≢true (sym parts.1 ∙ ap (λ m. list_any (λ (j : Intent). j.n == m) (notices h)) (sym (eqb-true x.intent.n n e)) ∙ b.1))
          (filter (λ (x : Lease). list_any (λ i. i.n == x.intent.n) (notices h)) (leases h))
          (all_filter_with (λ (x : Lease). Unit {0}) (λ x. list_any (λ i. i.n == x.intent.n) (notices h)) (leases h) (all_from (λ (x : Lease). Unit {0}) (λ x. tt) (leases h)))
          (sym (any-map (λ (x : Lease). x.intent.n) n (filter (λ (x : Lease). list_any (λ i. i.n == x.intent.n) (notices h)) (leases h))) ∙ a)
    ])

-- ---- members of lists

-- what a part has all have
any_of_part : {X : Type 0} {Needed : X → Type 0} (test : X → Bool) {part all : List X} → IsPart Needed part all → list_any test part ≡ true → list_any test all ≡ true
any_of_part test IsEnd k = k
any_of_part test (Has x part all p) k = elim (or_cases (test x) (list_any test part) k) [ inl a ↦ or_left (test x) _ a | inr a ↦ or_right (test x) _ (any_of_part test p a) ]
any_of_part test (Lacks x part all free p) k = or_right (test x) _ (any_of_part test p k)

in_middle : {X : Type 0} (test : X → Bool) (looked left : List X) (x : X) → Some x ≡ first_of left → test x ≡ true → list_any test (looked ++ left) ≡ true
in_middle test [] left x first k = ap (list_any test) (split x left first) ∙ or_left (test x) _ k
in_middle test (y ∷ ys) left x first k = or_right (test y) _ (in_middle test ys left x first k)

pub among : {Needed : Renewal → Type 0} (looked left : List Renewal) (r : Renewal) {all : List Renewal} → Some r ≡ first_of left → IsPart Needed (looked ++ left) all → IsAmong r all
among looked left r first part test k = any_of_part test part (in_middle test looked left r first k)

-- ---- rooms

-- all rooms of a version, or of a lease, that isn't kept
pub version_leaves : (Free : ℕ → Type 0) (ver : ℕ) (old new : TryRows) → Free ver → ((v n : ℕ) → tries_at v n new ≡ cond (ver == v) None (tries_at v n old)) → Leaves (λ v n. Free v) old new
version_leaves Free ver old new free look v n = by (ver == v) refl
  where
    by : (b : Bool) → (ver == v) ≡ b → (tries_at v n new ≡ tries_at v n old) ⊎ ((tries_at v n new ≡ None) × Free v)
    by true k = inr (look v n ∙ ap (λ b. cond b None (tries_at v n old)) k, subst Free (eqb-true ver v k) free)
    by false k = inl (look v n ∙ ap (λ b. cond b None (tries_at v n old)) k)

pub lease_leaves : (Free : ℕ → Type 0) (lease : ℕ) (old new : TryRows) → Free lease → ((v n : ℕ) → tries_at v n new ≡ cond (lease == n) None (tries_at v n old)) → Leaves (λ v n. Free n) old new
lease_leaves Free lease old new free look v n = by (lease == n) refl
  where
    by : (b : Bool) → (lease == n) ≡ b → (tries_at v n new ≡ tries_at v n old) ⊎ ((tries_at v n new ≡ None) × Free n)
    by true k = inr (look v n ∙ ap (λ b. cond b None (tries_at v n old)) k, subst Free (eqb-true lease n k) free)
    by false k = inl (look v n ∙ ap (λ b. cond b None (tries_at v n old)) k)

pub stays_gone : (test : Bool) (o new : Option (List Try)) → new ≡ cond test None o → o ≡ None → new ≡ None
stays_gone true o new k none = k
stays_gone false o new k none = k ∙ none

-- ---- the core without them

module _ (h : List Event) (t : ℕ) (rows : Rows) (rest : TryRows) (l : Legal h) (s : StandsFor h t rows) where
  abbrev less : Rows
  less = record { ledger = rows.ledger; log = rows.log; renewals = rows.renewals; tries = rest }

  still : (IsFree : ℕ → ℕ → Type 0) → Leaves IsFree rows.tries rest → ((v n : ℕ) → is_kept_version h t v ≡ true → member n (kept_leases h t) ≡ true → IsFree v n → ⊥) → StandsFor h t less
  still IsFree left never =
      whole h t less (stays IsFree h t rows rest left never (holds h t rows s)) (λ v n past. none_or_gone (IsFree v n) (tries_at v n rows.tries) (tries_at v n rest) (s.past v n past) (left v n))

  pub without_versions : LeavesVersions t rows.ledger rows.tries rest → StandsFor h t less
  without_versions left =
      still (λ v n. is_kept_version h t v ≡ false) (left h (record { legal = l; stands = s.ledger; rooms = s.rooms })) (λ v n kept _ free. false≢true (sym free ∙ kept))

  pub without_leases : LeavesLeases t rows.ledger rows.renewals rows.tries rest → StandsFor h t less
  without_leases left =
      still (λ v n. member n (kept_leases h t) ≡ false) (left h (record { legal = l; stands = s.ledger; rooms = s.rooms }) s.renewals) (λ v n _ kept free. false≢true (sym free ∙ kept))

  -- ---- after a look at the log, and at the renewals

  pub after_log : (log : List Event) → StaysLogged t rows.ledger rows.tries rows.log log → StandsFor h t (record { ledger = rows.ledger; log = log; renewals = rows.renewals; tries = rows.tries })
  after_log log stay =
      record {
        ledger = s.ledger;
        log = stay h (record { legal = l; stands = s.ledger; rooms = s.rooms }) s.log;
        renewals = s.renewals;
        tries = s.tries;
        only = s.only;
        rooms = s.rooms;
        past = s.past;
      }

  pub after_renewals : (renewals : List Renewal) → StayRenewed t rows.ledger rows.tries rows.renewals renewals → LeavesLeases t rows.ledger rows.renewals rows.tries rest
      → StandsFor h t (record { ledger = rows.ledger; log = rows.log; renewals = renewals; tries = rest })
  after_renewals renewals stay left =
      let a = without_leases left in
      record {
        ledger = a.ledger;
        log = a.log;
        renewals = stay h (record { legal = l; stands = s.ledger; rooms = s.rooms }) s.renewals;
        tries = a.tries;
        only = a.only;
        rooms = a.rooms;
        past = a.past;
      }
