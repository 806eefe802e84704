-- What each event, each pair and each renewal tells of what a compaction keeps (own).
use Rattle.std.specs.Prelude.{ℕ, Bool, true, false, cond, ◌&&◌, List, [], ◌∷◌, Option, None, Some, find, filter, nat_lt, ◌==◌}
use Rattle.std.specs.List.{list_any}
use Rattle.ws_model.specs.declared.event.Event.{Event}
use Rattle.ws_model.specs.declared.event.What.{What}
use Rattle.ws_model.specs.declared.event.What.TheVariants.{Asked, Confirmed, Fetched}
use Rattle.ws_model.specs.declared.fate.Cause.TheVariants.{Replaced}
use Rattle.ws_model.specs.Intents.{notices}
use Rattle.ws_model.specs.Keep.{member}
use Rattle.ws_model.specs.Leases.{live}
use Rattle.ws_model.specs.Legal.{is_on_one, number_limit}
use Rattle.ws_model.specs.Versions.{latest}
use Rattle.ws_compaction.specs.Least.{has_number}
use Rattle.ws_fate.specs.declared.totals.Standing.{Standing}
use Rattle.ws_fate.specs.declared.totals.Standing.TheVariants.{Ended}
use Rattle.ws_fate.specs.Rows.{Rows as FateRows, standing_at}
use Rattle.ws_fate.specs.Stands.{is_owed_at}
use Rattle.ws_tries.specs.Rows.{Rows as TryRows}
use Rattle.ws_kept.specs.declared.renewal.Renewal.{Renewal}

-- the pairs by lease and version with what became of them
abbrev pub Pairs : Type 0
Pairs = List ((ℕ × ℕ) × Standing)

-- ---- versions

-- the pair, of a version and a lease, is of version v, and owed at t
abbrev pub owes : List Event → ℕ → ℕ → ℕ × ℕ → Bool
owes h t v p = (p.0 == v) && is_owed_at h t p.0 p.1

abbrev pub is_latest : List Event → ℕ → Bool
is_latest h v = list_any (λ w. w.ver == v) (latest h)

-- the event fetched version v, which is the latest of its topic
abbrev pub gives_latest : List Event → ℕ → What → Bool
gives_latest h v (Fetched w) = (w.ver == v) && is_latest h w.ver
gives_latest h v _ = false

-- ---- leases that are live, or whose notices are owed

-- a notice is owed of the subscription of this number
abbrev pub is_noticed : List Event → ℕ → Bool
is_noticed h n = is_on_one (find (λ i. i.n == n) (notices h))

-- the event asked for the lease n, which is live at t, or confirmed it, and a notice of it is owed
abbrev pub gives_lease : List Event → ℕ → ℕ → What → Bool
gives_lease h t n (Asked i) = (i.n == n) && has_number i.n (live h t)
gives_lease h t n (Confirmed m sent) = (m == n) && is_noticed h m
gives_lease h t n _ = false

-- ---- leases that were replaced

abbrev pub is_replaced : Standing → Bool
is_replaced (Ended Replaced) = true
is_replaced _ = false

-- a pair of lease n and such a version ended because the lease was replaced
abbrev pub went_over : (ℕ → Bool) → ℕ → Pairs → Bool
went_over versions n pairs = list_any (λ e. is_replaced e.1 && versions e.0.1) (filter (λ e. e.0.0 == n) pairs)

-- and the lease has a number that leases may have
abbrev pub goes_on : (ℕ → Bool) → Pairs → ℕ → Bool
goes_on versions pairs n = nat_lt n number_limit && went_over versions n pairs

-- a pair ended because its lease was replaced, where the table has it
abbrev pub is_handed_on : Option Standing → Bool
is_handed_on None = false
is_handed_on (Some s) = is_replaced s

-- a pair of lease n and such a version that has a room ended because the lease was replaced
abbrev pub hands_on : (ℕ → Bool) → FateRows → TryRows → ℕ → Bool
hands_on versions fates rooms n =
    list_any (λ e. ((e.0.1 == n) && nat_lt e.0.0 number_limit) && (versions e.0.0 && is_handed_on (standing_at e.0.0 n fates))) rooms

-- and the lease has a number that leases may have
abbrev pub goes_on_in : (ℕ → Bool) → FateRows → TryRows → ℕ → Bool
goes_on_in versions fates rooms n = nat_lt n number_limit && hands_on versions fates rooms n

-- with a new lease that is among them, the lease that it replaced, where that goes on
abbrev pub with_one : (ℕ → Bool) → List ℕ → Renewal → List ℕ
with_one goes kept r = cond (member r.lease kept && goes r.replaced.n) (r.replaced.n ∷ kept) kept

-- so for each renewal, the oldest of which stands first and comes last
abbrev pub with_old_ones : (ℕ → Bool) → List ℕ → List Renewal → List ℕ
with_old_ones goes kept [] = kept
with_old_ones goes kept (r ∷ rs) = with_one goes (with_old_ones goes kept rs) r
