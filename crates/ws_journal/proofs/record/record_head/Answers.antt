use Rattle.std.proofs.Common.{◌≡◌, ◌++◌, length, refl, ◌∙◌, ap}
use Rattle.std.specs.Int.{w32, to_be_bytes}
use Rattle.sha2.specs.Sha256.{sha256}
use Rattle.sha2.proofs.Facts256.{length-sha256}
use Rattle.ws_record.specs.Text.{number_text}
use Rattle.ws_journal.proofs.Halves.{halves}
use Rattle.ws_journal.proofs.record.record_head.Goals as goal

pub returns : goal.returns
unfolding number_text
returns c =
    let payload = c.args.payload.now in
    let number : c.copy_from_slice.new.self ≡ to_be_bytes w32 (length payload) = (cc) in
    let digest : c.copy_from_slice-2.new.self ≡ sha256 payload = (cc) in
    let four : length (to_be_bytes w32 (length payload)) ≡ 4 = refl in
    halves c.copy_from_slice.new.self _ c.copy_from_slice-2.new.self (ap length number ∙ four) refl (ap length digest ∙ length-sha256 payload)
    ∙ (λ i. number i ++ digest i)
