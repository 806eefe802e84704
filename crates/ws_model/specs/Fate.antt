-- What a pair of a version and a lease is at a moment (WebSub section 7; the retry table and the
-- limit of eight misses are own).
use Rattle.std.specs.Prelude.{ℕ, zero, suc, ◌+◌, Bool, true, false, cond, ◌&&◌, List, [], ◌∷◌, nat_le, get_or, ◌==◌, Option, Some, None}
use Rattle.ws_model.specs.declared.event.Event.{Event}
use Rattle.ws_model.specs.declared.event.What.{What}
use Rattle.ws_model.specs.declared.event.What.TheVariants.{Pushed}
use Rattle.ws_model.specs.declared.event.How.{How}
use Rattle.ws_model.specs.declared.event.How.TheVariants.{Done, Missed}
use Rattle.ws_model.specs.declared.fate.Cause.{Cause}
use Rattle.ws_model.specs.declared.fate.Cause.TheVariants.{Spent}
use Rattle.ws_model.specs.declared.fate.Fate.{Fate}
use Rattle.ws_model.specs.declared.fate.Fate.TheVariants.{Answered, Owed, Ended}
use Rattle.ws_model.specs.declared.event.Version.{Version}
use Rattle.ws_model.specs.declared.lease.Lease.{Lease}
use Rattle.ws_model.specs.History.{has, times, newest_time}
use Rattle.ws_model.specs.Leases.{lease_end}

-- a version, a lease that it is for, and the time of the event that made the pair
pub record Pair : Type 0 where
  pub version : Version
  pub lease : Lease
  pub born : ℕ

abbrev pub is_done : How → Bool
is_done Done = true
is_done _ = false

abbrev pub is_miss : How → Bool
is_miss (Missed code) = true
is_miss _ = false

-- a push of this version to this lease that ended so
abbrev pub is_push : (How → Bool) → ℕ → ℕ → What → Bool
is_push test v n (Pushed w m how) = (w == v) && (m == n) && test how
is_push test v n _ = false

abbrev pub is_push_of : (How → Bool) → Pair → What → Bool
is_push_of test p w = is_push test p.version.ver p.lease.intent.n w

-- the wait in seconds after the k-th miss, for k from 1 to 7
abbrev pub delay : ℕ → ℕ
delay k = get_or (0 ∷ 10 ∷ 30 ∷ 60 ∷ 300 ∷ 900 ∷ 3600 ∷ 10800 ∷ []) k 0

-- how many pushes of the pair were missed
abbrev pub misses : List Event → Pair → ℕ
misses h p = times (is_push_of is_miss p) h

abbrev pub next_by : ℕ → ℕ → ℕ → ℕ
next_by zero born last = born
next_by (suc k) born last = last + delay (suc k)

-- the time of the next try: at once where there was no miss, and else the wait after the last miss
abbrev pub next : List Event → Pair → ℕ
next h p = next_by (misses h p) p.born (newest_time (is_push_of is_miss p) h)

abbrev pub fate_by : Bool → ℕ → Option Cause → ℕ → Fate
fate_by true tries cause next = Answered
fate_by false tries None next = cond (nat_le 8 tries) (Ended Spent) (Owed tries next)
fate_by false tries (Some c) next = cond (nat_le 8 tries) (Ended Spent) (Ended c)

-- Answered, where a push of the pair was; else spent, where eight were missed; else ended, where its
-- lease has; else owed
abbrev pub fate : List Event → Pair → ℕ → Fate
fate h p t = fate_by (has (is_push_of is_done p) h) (misses h p) (lease_end h p.lease t) (next h p)

abbrev pub is_owed : Fate → Bool
is_owed (Owed tries next) = true
is_owed _ = false
