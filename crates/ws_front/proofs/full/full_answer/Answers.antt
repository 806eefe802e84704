use Rattle.std.proofs.Common.{◌≡◌, ℕ, List, length, ap, ◌∙◌}
use Rattle.ws_front.specs.Answers.{response_bytes}
use Rattle.ws_front.proofs.FullLemmas.{full_bytes}
use Rattle.ws_front.proofs.full.full_answer.Goals as goal

pub returns : goal.returns
returns c =
    let long : c.len.result ≡ length c.deref.result.now = cc in
    c.from_vec.ensures
    ∙ full_bytes c.deref.result.now _ _ _ _ _ _ c.len.result c.requires.answer_empty c.keep.ensures.items c.keep_number.ensures.items
    c.keep-2.ensures.items c.keep-3.ensures.items c.keep-4.ensures.items long
    ∙ ap (λ (t : List ℕ). response_bytes (record { code = 503; text = t })) (c.deref.ensures.value ∙ c.keep_full_text.ensures.text)
