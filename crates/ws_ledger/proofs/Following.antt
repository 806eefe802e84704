-- What an accepted event follows, and what is there afterwards.
use Rattle.std.proofs.Common.{◌≡◌, ℕ, ◌≤◌, true, ◌∷◌, arith}
use Rattle.std.specs.Prelude.{max}
use Rattle.ws_model.specs.declared.event.Event.{Event}
use Rattle.ws_model.specs.Legal.{accepts}
use Rattle.ws_model.specs.Moment.{last_time}
use Rattle.ws_laws.proofs.Known.{in_time}
use Rattle.ws_ledger.specs.Rows.{Rows}
use Rattle.ws_ledger.specs.Follows.{HasHistory}
use Rattle.ws_ledger.specs.Stands.{CanFollow, GoesOn}

earlier : (s m t : ℕ) → s ≤ m → m ≤ t → s ≤ t
earlier s m t k l = omega arith

not_before : (t m : ℕ) → t ≤ max t m
not_before t m = omega arith

not_before_either : (s t m : ℕ) → s ≤ m → s ≤ max t m
not_before_either s t m k = omega arith

pub in_order : (rows : Rows) (e : Event) (history : HasHistory rows) → history.since ≤ max e.t (last_time history.past)
in_order rows e history = not_before_either history.since e.t (last_time history.past) history.in_time

pub follows_where : (rows : Rows) (e : Event) (history : HasHistory rows) → accepts history.past e ≡ true → CanFollow rows e
follows_where rows e history k =
    record {
      past = history.past;
      since = history.since;
      stands = history.stands;
      legal = (history.legal, k);
      in_time = earlier history.since (last_time history.past) e.t history.in_time (in_time history.past e k);
    }

pub history_after : (e : Event) (old new : Rows) → CanFollow old e → GoesOn e old new → HasHistory new
history_after e old new follows goes =
    record {
      past = e ∷ follows.past;
      since = e.t;
      stands = goes follows.past follows.since follows.stands follows.legal follows.in_time;
      legal = follows.legal;
      in_time = not_before e.t (last_time follows.past);
    }
