use Rattle.std.proofs.Common.{◌≡◌, ◌++◌}
use Rattle.form_urlencoded.specs.Form.{raw_pairs}
use Rattle.form_urlencoded.specs.Parse.{pairs_left}
use Rattle.ws_form.specs.Form.{topic_values}
use Rattle.ws_form.proofs.fields.topic_fields.Given as goal

-- the topics so far and those in what is left are all of them
abbrev pub invariant-loop-pair : goal.invariant-loop-pair
invariant-loop-pair l =
    (goal.iterator-loop-pair).can_next l.pair-iterator ×
    (goal.iterator-loop-pair).is_finite l.pair-iterator ×
    (l.texts.items ++ topic_values (pairs_left l.pair-iterator) ≡ topic_values (raw_pairs l.body))
