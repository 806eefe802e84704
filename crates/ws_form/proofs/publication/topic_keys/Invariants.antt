use Rattle.std.proofs.Common.{◌≡◌, ◌++◌, length, drop}
use Rattle.std.specs.List.{All}
use Rattle.ws_form.specs.Answers.{IsShortKey}
use Rattle.ws_form.specs.Form.{with_value, topic_keys}
use Rattle.ws_form.proofs.publication.topic_keys.Given as goal

-- the keys so far, and those of what is left, are all of them
abbrev pub invariant-loop-text : goal.invariant-loop-text
invariant-loop-text l =
    (with_value (λ more. l.keys ++ more) (topic_keys l.gateway (drop l.text-index l.texts)) ≡ topic_keys l.gateway l.texts) ×
    All IsShortKey l.keys ×
    (length l.keys ≡ l.text-index)
