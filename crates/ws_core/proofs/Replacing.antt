-- What was asked for the lease that a new one replaces.
use Rattle.std.proofs.Common.{◌≡◌, ℕ, true, List, [], ◌∷◌, refl, ap, ◌∙◌}
use Rattle.std.specs.Prelude.{find, is_none, Err, IfOk, Ok, Option, Result, Some, None, ◌==◌}
use Rattle.std.specs.Option.{option_map}
use Rattle.ws_model.specs.declared.event.Event.{Event}
use Rattle.ws_model.specs.declared.event.Intent.{Intent}
use Rattle.ws_model.specs.declared.lease.Lease.{Lease}
use Rattle.ws_model.specs.Intents.{same_pair}
use Rattle.ws_model.specs.Leases.{lease_end, leases, live}
use Rattle.ws_model.specs.Legal.{Legal}
use Rattle.ws_laws.proofs.Ended.{IsTold, leases_told}
use Rattle.ws_laws.proofs.ListLaws.{all_filter_with, all_find}
use Rattle.ws_laws.proofs.Paired.{found_kept, same_number}
use Rattle.ws_lease.specs.Stands.{is_numbered}
use Rattle.ws_kept.specs.declared.renewal.Renewal.{Renewal}
use Rattle.ws_kept.specs.Stands.{replaces, with_old}
use Rattle.ws_ledger.specs.Births.{renewal_of}
use Rattle.ws_core.specs.Renewed.{listed}

-- with the intent of the lease
pub as_renewal : (lease : ℕ) (o : Option Lease) (i j : Intent) → j ≡ i → Some i ≡ option_map (λ (l : Lease). l.intent) o → Some (record { lease = lease; replaced = j }) ≡ option_map {U = Renewal} (λ (l : Lease). record { lease = lease; replaced = l.intent }) o
as_renewal lease None i j same k = absurd (cc)
as_renewal lease (Some l) i j same k = let is : i ≡ l.intent = cc in ap (λ x. Some (record { lease = lease; replaced = x })) (same ∙ is)

pub no_renewal : (lease : ℕ) (o : Option Lease) → None ≡ option_map (λ (l : Lease). l.intent) o → None ≡ option_map {U = Renewal} (λ (l : Lease). record { lease = lease; replaced = l.intent }) o
no_renewal lease None k = refl
no_renewal lease (Some l) k = absurd (cc)

module _ (h : List Event) (t : ℕ) (l : Legal h) where
  -- a live lease is found by its number
  by_number : (x m : Lease) → find (λ y. same_pair x.intent y.intent) (live h t) ≡ Some m → find (λ (y : Lease). y.intent.n == m.intent.n) (live h t) ≡ Some m
  by_number x m k =
      let a = all_find (λ (y : Lease). IsTold h y × (is_none (lease_end h y t) ≡ true)) (λ y. same_pair x.intent y.intent) m (live h t)
      (all_filter_with (IsTold h) (λ y. is_none (lease_end h y t)) (leases h) (leases_told h l)) k in
      found_kept same_number (is_numbered m.intent.n) (λ y. is_none (lease_end h y t)) m (leases h) a.0.0 a.0.1

  pub found_old : (ls : List Lease) (lease old : ℕ) → Some (lease, old) ≡ renewal_of (live h t) ls
      → listed (option_map {U = Renewal} (λ (m : Lease). record { lease = lease; replaced = m.intent }) (find (λ (m : Lease). m.intent.n == old) (live h t))) ≡ replaces (live h t) ls
  found_old [] lease old k = absurd (cc)
  found_old (x ∷ xs) lease old k = by (find (λ m. same_pair x.intent m.intent) (live h t)) refl k
    where
      by : (o : Option Lease) → find (λ m. same_pair x.intent m.intent) (live h t) ≡ o → Some (lease, old) ≡ option_map {U = ℕ × ℕ} (λ m. (x.intent.n, m.intent.n)) o
          → listed (option_map {U = Renewal} (λ (m : Lease). record { lease = lease; replaced = m.intent }) (find (λ (m : Lease). m.intent.n == old) (live h t))) ≡ with_old x.intent.n o
      by None e k = absurd (cc)
      by (Some m) e k =
          let same : (lease, old) ≡ (x.intent.n, m.intent.n) = cc in
          ap (λ n. listed (option_map {U = Renewal} (λ (m : Lease). record { lease = lease; replaced = m.intent }) (find (λ (m : Lease). m.intent.n == n) (live h t)))) (ap (λ (p : ℕ × ℕ). p.1) same)
          ∙ ap (λ o. listed (option_map {U = Renewal} (λ (m : Lease). record { lease = lease; replaced = m.intent }) o)) (by_number x m e)
          ∙ ap (λ n. record { lease = n; replaced = m.intent } ∷ []) (ap (λ (p : ℕ × ℕ). p.0) same)

  pub none_old : (ls : List Lease) → None ≡ renewal_of (live h t) ls → [] ≡ replaces (live h t) ls
  none_old [] k = refl
  none_old (x ∷ xs) k = by (find (λ m. same_pair x.intent m.intent) (live h t)) k
    where
      by : (o : Option Lease) → None ≡ option_map {U = ℕ × ℕ} (λ m. (x.intent.n, m.intent.n)) o → [] ≡ with_old x.intent.n o
      by None k = refl
      by (Some m) k = absurd (cc)

pub if_ok : {X Y : Type 0} (P Q : X → Type 0) → ((x : X) → P x → Q x) → (r : Result X Y) → IfOk r P → IfOk r Q
if_ok P Q f (Ok x) k = f x k
if_ok P Q f (Err y) k = tt
