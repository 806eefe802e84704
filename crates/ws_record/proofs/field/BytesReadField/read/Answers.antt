use Rattle.ws_record.specs.FieldLaws.{bytes-lacks_content}
use Rattle.ws_record.proofs.field.BytesReadField.read.Goals as goal

pub returns-in_default-split_at_checked : goal.returns-in_default-split_at_checked
returns-in_default-split_at_checked c =
    let len = rw c.in-Some.is at c.in_ok-len.ensures in
    bytes-lacks_content c.args.bytes.now c.in-Some.rest.now c.in-Some.len len c.in_default-split_at_checked.ensures.cases
