use Rattle.std.proofs.Common.{[], length, ap, ◌∙◌, arith, length-append}
use Rattle.ws_disk.specs.Record.{steps_of, count_all}
use Rattle.ws_disk.proofs.Pushed.{count_all-push, steps_after-push}
use Rattle.ws_disk.proofs.log.CallLog.note.Goals as goal

pub invariant_of-self-clause-counted : goal.invariant_of-self-clause-counted
invariant_of-self-clause-counted c =
    let old = c.args.self.now in
    omega (arith, old.counted, c.requires.count, ap count_all c.push_reserved.ensures.items ∙ count_all-push old.calls.items c.args.call, ap length c.append.ensures.bytes, length-append old.written.items c.args.bytes.now)

pub returns-clause-steps : goal.returns-clause-steps
returns-clause-steps c =
    let old = c.args.self.now in
    (λ i. steps_of (c.push_reserved.ensures.items i) (c.append.ensures.bytes i))
    ∙ steps_after-push [] old.calls.items c.args.call old.written.items c.args.bytes.now old.counted
