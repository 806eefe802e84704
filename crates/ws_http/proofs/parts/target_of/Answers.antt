use Rattle.std.proofs.Common.{◌∙◌}
use Rattle.ws_http.proofs.PartLemmas.{never_reads, same_head}
use Rattle.ws_http.proofs.parts.target_of.Goals as goal

pub returns-in-Never : goal.returns-in-Never
returns-in-Never c h rest reads =
    absurd (never_reads c.args.raw.now c.front_of-front.result.now c.front_of-front.ensures.value c.in-Never.ensures.sees h rest reads)

pub returns-in-Head : goal.returns-in-Head
returns-in-Head c h rest reads =
    let at = same_head c.args.raw.now c.front_of-front.result.now c.parse.new.headers c.in-Head.spans c.front_of-front.ensures.value
    c.in-Head.ensures.sees.1 h rest reads in
    c.of.ensures ∙ at.path
