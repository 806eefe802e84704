use Rattle.std.proofs.Common.{◌≡◌, ◌+◌, length, ap, ◌∙◌, arith}
use Rattle.std.proofs.lemmas.List.{length-append}
use Rattle.std.specs.Int.{w32}
use Rattle.ws_record.specs.Text.{number_text, bytes_text, capped}
use Rattle.ws_record.specs.NumberLaws.{wide32, length-number_text}
use Rattle.ws_record.proofs.field.BytesWriteField.add_len.Goals as goal

pub returns : goal.returns
returns c n is =
    let content = c.args.self.now in
    let len : length (bytes_text content) ≡ 4 + length content =
    length-append (number_text w32 (length content)) content ∙ ap (λ k. k + length content) (length-number_text w32 wide32 (length content)) in
    let sum : (n + 4) + length content ≡ n + length (bytes_text content) = omega (arith, len) in
    c.add_to-2.ensures (n + 4) (c.add_to.ensures n is) ∙ ap capped (rw c.as_slice.ensures sum)
