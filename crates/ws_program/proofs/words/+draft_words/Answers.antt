use Rattle.std.proofs.Common.{◌≡◌, ◌-◌, ◌∷◌, length, take, drop, map, ap, subst, arith, Result, ℕ}
use Rattle.std.specs.Prelude.{string_bytes}
use Rattle.ws_program.specs.declared.draft.Draft.{Draft}
use Rattle.ws_program.specs.Words.{Tells}
use Rattle.ws_program.proofs.Steps.{goes_on, two_in_front}
use Rattle.ws_program.proofs.words.+draft_words.Goals as goal

pub returns-in_ok-draft-in-len2-up-clause-value : goal.returns-in_ok-draft-in-len2-up-clause-value
returns-in_ok-draft-in-len2-up-clause-value t c =
    let words = c.args.words.now in
    let word = c.word-item-2.result in
    let value = c.value-item.result in
    let front = two_in_front words word value c.in-len2-up.len_at_least c.word-item-2.is c.value-item.is in
    let set = rw (c.as_str-in-len2-up.ensures.value, c.as_str-in-len2-up-2.ensures.value) at c.in_ok-draft-in-len2-up.ensures.value in
    let step = goes_on c.args.place c.args.draft c.in_ok-draft-in-len2-up.draft (string_bytes word) (string_bytes value) (map string_bytes (take (length words - 2) (drop 2 words))) (map string_bytes words) (ap (map string_bytes) front) set in
    subst (λ (r : Result Draft ℕ). Tells r c.draft_words.result) step c.draft_words.ensures.value
