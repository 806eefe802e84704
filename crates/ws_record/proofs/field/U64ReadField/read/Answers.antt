use Rattle.std.proofs.Common.{arith}
use Rattle.std.specs.Int.{w64}
use Rattle.ws_record.specs.NumberLaws.{wide64, number-lacks, number-begins}
use Rattle.ws_record.proofs.field.U64ReadField.read.Goals as goal

pub returns-in_default : goal.returns-in_default
returns-in_default c = number-lacks w64 wide64 c.args.bytes.now c.in_default.ensures.cases

pub returns : goal.returns
returns c =
    let split = c.in-Some.ensures.cases in
    rw c.from_be_bytes.ensures (number-begins w64 wide64 c.args.bytes.now c.in-Some.front.now c.in-Some.rest.now (λ i. omega (arith, c.type_inv.bytes i)) (omega (arith, split.2)) split.0 split.1)
