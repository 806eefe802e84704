-- Next tries, their order, and which of them is made first (own).
use Rattle.std.specs.Prelude.{ℕ, Bool, not, ◌&&◌, ◌||◌, List, nat_lt, nat_le, ◌==◌}
use Rattle.std.specs.List.{list_any}
use Rattle.ws_model.specs.declared.work.Work.{Work}
use Rattle.ws_model.specs.declared.work.Work.TheVariants.{Push}
use Rattle.ws_model.specs.Due.{same_work}
use Rattle.ws_order.specs.Orders.{has_key, Rises}
use Rattle.ws_order.specs.declared.next_try.NextTry.{NextTry}

-- by time, version, lease, and last by the lease's end, which those of one lease share
abbrev pub before : NextTry → NextTry → Bool
before x y =
    nat_lt x.at y.at
    || ((x.at == y.at)
    && (nat_lt x.ver y.ver
    || ((x.ver == y.ver)
    && (nat_lt x.lease y.lease
    || ((x.lease == y.lease) && nat_lt x.exp y.exp)))))

abbrev pub same : NextTry → NextTry → Bool
same x y = (x.at == y.at) && ((x.ver == y.ver) && ((x.lease == y.lease) && (x.exp == y.exp)))

abbrev pub has : NextTry → List NextTry → Bool
has x xs = has_key same x xs

-- each stands before all later ones
abbrev pub IsRising : List NextTry → Type 0
IsRising xs = Rises before xs

abbrev pub is_push_work : ℕ → ℕ → Work → Bool
is_push_work v n w = same_work (Push v n) w

-- a ticket for the push is out
abbrev pub is_out_push : List Work → ℕ → ℕ → Bool
is_out_push out v n = list_any (is_push_work v n) out

-- its time has come, its lease hasn't ended, and no ticket for it is out
abbrev pub is_ready : ℕ → List Work → NextTry → Bool
is_ready t out x = nat_le x.at t && (nat_lt t x.exp && not (is_out_push out x.ver x.lease))
