use Rattle.ws_plain.proofs.Pasts.{past_last, past_none}
use Rattle.ws_plain.proofs.past.newest.Goals as goal

pub returns-clause-past : goal.returns-clause-past
returns-clause-past c = past_last _ _ _ c.in_ok-event.ensures.cases.0

pub returns-in_err-event-clause-past : goal.returns-in_err-event-clause-past
returns-in_err-event-clause-past c = rw c.from_residual.ensures (past_none _ c.in_err-event.ensures.cases)
