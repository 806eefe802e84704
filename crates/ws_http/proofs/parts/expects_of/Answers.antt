use Rattle.std.proofs.Common.{◌∙◌}
use Rattle.ws_http.specs.Fields.{expects_continue}
use Rattle.ws_http.proofs.PartLemmas.{never_reads, same_head}
use Rattle.ws_http.proofs.parts.expects_of.Goals as goal

pub returns-in-Never : goal.returns-in-Never
returns-in-Never c h rest reads =
    absurd (never_reads c.args.raw.now c.front_of-front.result.now c.front_of-front.ensures.value c.in-Never.ensures.sees h rest reads)

pub returns-in-Head : goal.returns-in-Head
returns-in-Head c h rest reads =
    let at = same_head c.args.raw.now c.front_of-front.result.now c.parse.new.headers c.in-Head.spans c.front_of-front.ensures.value
    c.in-Head.ensures.sees.1 h rest reads in
    c.awaits.ensures ∙ (λ i. expects_continue (at.version i) (at.fields i))
