use Rattle.ws_record.specs.FieldLaws.{both-lacks_second}
use Rattle.ws_record.proofs.field.Tuple2ReadField.read.Goals as goal

pub returns-in_default-2 : goal.returns-in_default-2
returns-in_default-2 g c =
    let first = rw c.in-Some.is at c.in_ok-first.ensures in
    let lacks = rw c.in_default-2.is at c.in_ok-second.ensures in
    both-lacks_second g.A.WriteField.text g.A.WriteField.fits g.B.WriteField.text g.B.WriteField.fits g.met.A.ReadField.apart
    c.args.bytes.now c.in-Some.first c.in-Some.rest.now first lacks
