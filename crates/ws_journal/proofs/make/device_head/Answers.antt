use Rattle.std.proofs.Common.{◌≡◌, ◌∷◌, ℕ, List, ◌∙◌, ap}
use Rattle.std.specs.Int.{w64, to_be_bytes}
use Rattle.std.proofs.lemmas.List.{append-nil}
use Rattle.ws_record.specs.Text.{number_text}
use Rattle.ws_journal.proofs.make.device_head.Goals as goal

pub returns : goal.returns
unfolding number_text
returns c =
    let number : c.copy_from_slice.new.self ≡ to_be_bytes w64 c.args.generation = (cc) in
    ap (λ (l : List ℕ). 87 ∷ 69 ∷ 66 ∷ 83 ∷ 85 ∷ 66 ∷ 74 ∷ 50 ∷ l) (append-nil c.copy_from_slice.new.self ∙ number)
