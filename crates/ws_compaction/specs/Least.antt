-- The least set of leases that a compaction keeps (own).
use Rattle.std.specs.Prelude.{◌≡◌, ℕ, ◌↔◌, Bool, true, ◌&&◌, List, ◌∷◌, ◌++◌, ◌==◌}
use Rattle.std.specs.List.{list_any}
use Rattle.ws_model.specs.declared.event.Event.{Event}
use Rattle.ws_model.specs.declared.lease.Lease.{Lease}
use Rattle.ws_model.specs.Intents.{notices, same_pair}
use Rattle.ws_model.specs.Keep.{is_among, kept_leases, member}
use Rattle.ws_model.specs.Leases.{confirmed_intent, lease_of, leases, live}
use Rattle.ws_model.specs.Legal.{Legal}
use Rattle.ws_model.specs.Pairs.{owed}
use Rattle.ws_model.specs.Verdict.{is_kept_version}

-- a lease of this number is among them
abbrev pub has_number : ℕ → List Lease → Bool
has_number n ls = list_any (λ l. l.intent.n == n) ls

-- The event e, after the history g, makes the lease m, and a pair of such a version goes over to it from
-- the lease n: the pair was owed to n, of the same topic and callback, at the time of e.
abbrev pub takes_over : (ℕ → Bool) → Event → List Event → ℕ → ℕ → Bool
takes_over versions e g m n =
    list_any (λ l. (l.intent.n == m) && list_any (λ p. (p.lease.intent.n == n) && (versions p.version.ver && same_pair l.intent p.lease.intent)) (owed g e.t))
    (lease_of e.what (confirmed_intent e.what g))

-- The numbers of the leases that are kept at t: of each live lease, of each lease whose notice is owed,
-- and with a number also that of the lease which it replaced, where a pair of a kept version went over.
pub data IsKeptLease (h : List Event) (t : ℕ) : ℕ → Type 0 where
  IsLive : (n : ℕ) → has_number n (live h t) ≡ true → IsKeptLease h t n
  IsNoticed : (n : ℕ) → has_number n (leases h) ≡ true → is_among (notices h) n ≡ true → IsKeptLease h t n
  IsTakenOver : (c : List Event) (e : Event) (g : List Event) (m n : ℕ) → h ≡ c ++ e ∷ g → takes_over (is_kept_version h t) e g m n ≡ true → IsKeptLease h t m → IsKeptLease h t n

-- The one pass that a compaction makes finds the numbers of this least set, and no other.
abbrev pub KeepsLeast : Type 0
KeepsLeast = (h : List Event) (t n : ℕ) → Legal h → IsKeptLease h t n ↔ (member n (kept_leases h t) ≡ true)
