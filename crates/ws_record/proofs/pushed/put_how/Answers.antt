use Rattle.std.proofs.Common.{◌≡◌, ◌++◌, ◌∷◌, [], length, take, ap, ◌∙◌, append_assoc, arith}
use Rattle.std.specs.Int.{w16}
use Rattle.ws_record.specs.Text.{number_text}
use Rattle.ws_record.proofs.pushed.put_how.Goals as goal

pub returns-in-Missed-clause-text : goal.returns-in-Missed-clause-text
unfolding number_text
returns-in-Missed-clause-text c =
    let before = take c.args.at c.args.text.now in
    let code : c.to_be_bytes.result ≡ number_text w16 c.in-Missed.code = c.to_be_bytes.ensures in
    let written : take c.put-in-Missed.result c.put-in-Missed.new.text ≡ (before ++ 2 ∷ []) ++ number_text w16 c.in-Missed.code =
    c.put-in-Missed.ensures.text ∙ (λ i. c.put-at.ensures.text i ++ code i) in
    rw c.in-Missed.is (written ∙ append_assoc before (2 ∷ []) (number_text w16 c.in-Missed.code))

pub returns-in-Missed-clause-place : goal.returns-in-Missed-clause-place
unfolding number_text
returns-in-Missed-clause-place c =
    rw c.in-Missed.is (omega (arith, c.put-in-Missed.ensures.place, c.put-at.ensures.place, ap length c.to_be_bytes.ensures))
