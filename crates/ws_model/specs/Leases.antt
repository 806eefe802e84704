-- Leases, and how they end (WebSub section 5.3; a 410 section 7; revocation own).
use Rattle.std.specs.Prelude.{ℕ, ◌+◌, Bool, true, false, cond, List, [], ◌∷◌, ◌++◌, nat_lt, nat_le, ◌==◌, is_none, Option, Some, None, find, filter}
use Rattle.ws_model.specs.declared.event.Event.{Event}
use Rattle.ws_model.specs.declared.event.What.{What}
use Rattle.ws_model.specs.declared.event.What.TheVariants.{Confirmed, Pushed, Revoked}
use Rattle.ws_model.specs.declared.event.Mode.{Mode}
use Rattle.ws_model.specs.declared.event.Mode.TheVariants.{Off, On}
use Rattle.ws_model.specs.declared.event.How.{How}
use Rattle.ws_model.specs.declared.event.How.TheVariants.{Gone}
use Rattle.ws_model.specs.declared.fate.Cause.{Cause}
use Rattle.ws_model.specs.declared.fate.Cause.TheVariants.{Expired, Unsubscribed, Replaced, Gone as LeaseGone, Revoked as LeaseRevoked}
use Rattle.ws_model.specs.declared.event.Intent.{Intent}
use Rattle.ws_model.specs.declared.lease.Lease.{Lease}
use Rattle.ws_model.specs.History.{has}
use Rattle.ws_model.specs.Intents.{asked, same_pair}

-- the time from which a lease has expired
abbrev pub expiry : Lease → ℕ
expiry l = l.sent + l.intent.granted

abbrev pub is_on : Mode → Bool
is_on On = true
is_on Off = false

abbrev pub is_confirmed : ℕ → What → Bool
is_confirmed n (Confirmed m sent) = m == n
is_confirmed n _ = false

-- the intent that a confirmation is of
abbrev pub confirmed_intent : What → List Event → Option Intent
confirmed_intent (Confirmed n sent) h = find (λ i. i.n == n) (asked h)
confirmed_intent _ h = None

abbrev pub lease_by : ℕ → Option Intent → List Lease
lease_by sent None = []
lease_by sent (Some i) = cond (is_on i.mode) (record { intent = i; sent = sent } ∷ []) []

-- the lease that an event makes, from the intent that it confirms
abbrev pub lease_of : What → Option Intent → List Lease
lease_of (Confirmed n sent) intent = lease_by sent intent
lease_of _ intent = []

-- the leases, the newest first
abbrev pub leases : List Event → List Lease
leases [] = []
leases (e ∷ h) = lease_of e.what (confirmed_intent e.what h) ++ leases h

-- ---- how a lease ends

abbrev pub end_by_mode : Mode → Cause
end_by_mode On = Replaced
end_by_mode Off = Unsubscribed

abbrev pub end_by_intent : Option Intent → Lease → Option Cause
end_by_intent None l = None
end_by_intent (Some i) l = cond (same_pair i l.intent) (Some (end_by_mode i.mode)) None

abbrev pub end_by_push : ℕ → How → Lease → Option Cause
end_by_push n Gone l = cond (n == l.intent.n) (Some LeaseGone) None
end_by_push n _ l = None

-- why an event ends a lease, if it does: a confirmation of the same topic and callback, a push that
-- was answered 410, or a revocation
abbrev pub end_by : What → Option Intent → Lease → Option Cause
end_by (Confirmed n sent) intent l = end_by_intent intent l
end_by (Pushed v n how) intent l = end_by_push n how l
end_by (Revoked n reason) intent l = cond (n == l.intent.n) (Some LeaseRevoked) None
end_by _ intent l = None

abbrev pub stamped : ℕ → Option Cause → Option (ℕ × Cause)
stamped t None = None
stamped t (Some c) = Some (t, c)

abbrev pub or_else : {X : Type 0} → Option X → Option X → Option X
or_else None d = d
or_else (Some x) d = Some x

-- the first event after the lease was confirmed that ends it: its time and its cause
abbrev pub first_end : List Event → Lease → Option (ℕ × Cause)
first_end [] l = None
first_end (e ∷ h) l =
    or_else (first_end h l)
    (stamped e.t (cond (has (is_confirmed l.intent.n) h) (end_by e.what (confirmed_intent e.what h) l) None))

-- the cause by which a lease with this first end and this expiry has ended at t: an end that comes
-- at the expiry or later counts for nothing
abbrev pub cause_of : Option (ℕ × Cause) → ℕ → ℕ → Option Cause
cause_of None expires t = cond (nat_le expires t) (Some Expired) None
cause_of (Some e) expires t = cond (nat_lt e.0 expires) (Some e.1) (cond (nat_le expires t) (Some Expired) None)

-- the cause by which a lease has ended at t, if it has
abbrev pub lease_end : List Event → Lease → ℕ → Option Cause
lease_end h l t = cause_of (first_end h l) (expiry l) t

-- the leases that are live at t, the newest first
abbrev pub live : List Event → ℕ → List Lease
live h t = filter (λ l. is_none (lease_end h l t)) (leases h)
