use Rattle.std.proofs.Common.{sym, ◌∙◌, arith}
use Rattle.ws_http.proofs.ReplyStageLemmas.{start_small, status_judged, unsound_judged}
use Rattle.ws_http.proofs.reply_stage.read_body.Goals as goal

pub returns-then-is_status-clause-judged : goal.returns-then-is_status-clause-judged
returns-then-is_status-clause-judged c plain body =
    status_judged c.args.need c.args.raw.now body c.args.over c.args.head c.requires.heads.0 (sym c.is_status.ensures ∙ c.if-is_status.true) c.requires.heads.1

pub returns-then-is_status-clause-ready : goal.returns-then-is_status-clause-ready
returns-then-is_status-clause-ready c plain body =
    let r = c.requires.heads in
    (r.0, r.1, omega arith, λ _. (start_small c.args.raw.now c.args.head r.0 r.1).1, λ w. absurd (cc))

pub returns-in-None-clause-judged : goal.returns-in-None-clause-judged
returns-in-None-clause-judged c plain body =
    let r = c.requires.heads in
    unsound_judged c.args.need c.args.raw.now body c.args.over c.args.head r.0 (sym c.is_status.ensures ∙ c.if-is_status.false) r.1 (sym r.2 ∙ c.in-None.is)
