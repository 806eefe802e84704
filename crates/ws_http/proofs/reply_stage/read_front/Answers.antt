use Rattle.std.proofs.Common.{List, ℕ, sym, ◌∙◌, subst}
use Rattle.ws_http.specs.declared.reply_head.HeadsEnd.TheVariants as heads
use Rattle.ws_http.specs.ResponseHeadsEnd.{IsHeadsEnd}
use Rattle.ws_http.proofs.ReplyStageLemmas.{wrong_judged, long_judged, partial_judged}
use Rattle.ws_http.proofs.reply_stage.read_front.Goals as goal

pub returns-in-Wrong-clause-judged : goal.returns-in-Wrong-clause-judged
returns-in-Wrong-clause-judged c plain body =
    wrong_judged c.args.need c.args.raw.now body c.args.over
    (subst (λ (t : List ℕ). IsHeadsEnd t heads.Wrong) c.front_of.ensures.value c.in-Wrong.ensures.is)

pub returns-then-passes_head-clause-judged : goal.returns-then-passes_head-clause-judged
returns-then-passes_head-clause-judged c plain body =
    long_judged c.args.need c.args.raw.now body c.args.over c.in-Open.at (sym c.passes_head.ensures ∙ c.if-passes_head.true)
    (subst (λ (t : List ℕ). IsHeadsEnd t (heads.Open c.in-Open.at)) c.front_of.ensures.value c.in-Open.ensures.is)

pub returns-else-passes_head-clause-judged : goal.returns-else-passes_head-clause-judged
returns-else-passes_head-clause-judged c plain body =
    partial_judged c.args.need c.args.raw.now body c.args.over c.in-Open.at (sym c.passes_head.ensures ∙ c.if-passes_head.false)
    (subst (λ (t : List ℕ). IsHeadsEnd t (heads.Open c.in-Open.at)) c.front_of.ensures.value c.in-Open.ensures.is)

pub returns-in-Final-clause-ready : goal.returns-in-Final-clause-ready
returns-in-Final-clause-ready c plain body empty = c.read_body.ensures.ready plain body
