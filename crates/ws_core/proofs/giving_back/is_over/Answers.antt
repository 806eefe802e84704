use Rattle.std.proofs.Common.{sym, ◌∙◌}
use Rattle.ws_core.proofs.GoneLeases.{not_later, other_time, over_now}
use Rattle.ws_core.proofs.giving_back.is_over.Goals as goal

pub returns-then-time-t : goal.returns-then-time-t
returns-then-time-t c = record { stands = λ h since s l le. other_time h c.args.t c.args.lease c.time.result (c.time.ensures.stands h since s) c.if-time-t.true }

pub returns : goal.returns
returns c =
    record {
      stands = λ h since s l le.
          let now = sym (c.time.ensures.stands h since s) ∙ c.if-time-t.false in
          over_now h c.args.t c.args.lease c.is_live.result c.is_noticed.result now (c.is_live.ensures.stands h since s l (not_later since c.args.t _ now le)) c.if-is_live.false (c.is_noticed.ensures.stands h since s);
    }
