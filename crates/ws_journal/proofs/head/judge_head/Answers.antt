use Rattle.ws_journal.proofs.HeadParts.{parts_more, used, foreign_gate, foreign_name, foreign_generation}
use Rattle.ws_journal.proofs.head.judge_head.Goals as goal

pub returns-in-1-Some : goal.returns-in-1-Some
returns-in-1-Some c = λ file is.
    let parts = parts_more c.in-Some.gate c.in-Some.name.now c.in-Some.generation c.args.bytes.now file is c.in-Some.ensures.some in
    (parts.rest, (used c.in-Some.gate c.in-Some.name.now c.in-Some.generation file parts c.in-1-Some.edition c.in-1-Some.ensures.some c.in-1-Some.is-0, c.is_generation.ensures.0 c.if-is_generation.true))

pub returns-in-1-Some-2 : goal.returns-in-1-Some-2
returns-in-1-Some-2 c = λ file is.
    let parts = parts_more c.in-Some.gate c.in-Some.name.now c.in-Some.generation c.args.bytes.now file is c.in-Some.ensures.some in
    foreign_generation c.in-Some.gate c.in-Some.name.now c.in-Some.generation file parts c.in-1-Some.edition c.in-1-Some.ensures.some c.in-1-Some.is-0
    (λ is_one. let no_one = c.is_generation.ensures.1 is_one in cc)

pub returns-in-1-None : goal.returns-in-1-None
returns-in-1-None c = λ file is.
    let parts = parts_more c.in-Some.gate c.in-Some.name.now c.in-Some.generation c.args.bytes.now file is c.in-Some.ensures.some in
    foreign_name c.in-Some.gate c.in-Some.name.now c.in-Some.generation file parts c.in-1-None.is-0 c.in-1-None.ensures.none

pub returns-in_default-None : goal.returns-in_default-None
returns-in_default-None c = λ file is.
    let parts = parts_more c.in-Some.gate c.in-Some.name.now c.in-Some.generation c.args.bytes.now file is c.in-Some.ensures.some in
    foreign_gate c.in-Some.gate c.in-Some.name.now c.in-Some.generation file parts c.in_default-None.is-0.0.1 c.in_default-None.is-0.1 c.in_default-None.ensures.none
