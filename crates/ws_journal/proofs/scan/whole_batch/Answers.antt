use Rattle.std.proofs.Common.{[], length, sym, ◌∙◌, ap}
use Rattle.std.proofs.lemmas.List.{append-nil}
use Rattle.ws_record.specs.Batch.{batch_text}
use Rattle.ws_journal.proofs.scan.whole_batch.Goals as goal

pub returns-in_default-clause-none : goal.returns-in_default-clause-none
returns-in_default-clause-none c = λ events batch is.
    let none = rw c.in_default.is at c.in_ok-events.ensures.none in
    none events [] batch (is ∙ sym (append-nil (batch_text events)))

pub returns-then-len-text-clause-none : goal.returns-then-len-text-clause-none
returns-then-len-text-clause-none c = λ events batch is.
    let only = rw c.in-Some.is at (c.in_ok-events.ensures.only events [] batch (is ∙ sym (append-nil (batch_text events)))) in
    c.if-len-text.true (only.1 ∙ sym (ap length is))
