use Rattle.std.proofs.Common.{ℕ, Bool, sym, ap, ◌∙◌, arith}
use Rattle.std.specs.Prelude.{◌==◌}
use Rattle.std.specs.List.{list_any}
use Rattle.ws_model.specs.declared.lease.Lease.{Lease}
use Rattle.ws_plain.proofs.Filters.{mapped_left, mapped_taken}
use Rattle.ws_plain.proofs.found.with_notice.Goals as goal
use Rattle.ws_plain.proofs.found.with_notice.Goals.{then-is_among+in_ok-push, else-is_among}

pub loop-lease-preserved : goal.loop-lease-preserved
loop-lease-preserved c =
    let test : Lease → Bool = λ l. list_any (λ i. i.n == l.intent.n) c.args.notices.now in
    let number : Lease → ℕ = λ l. l.intent.n in
    elim c.if-is_among.branch [
      | then-is_among+in_ok-push w ↦
          mapped_taken number test _ _ c.lease-item.result c.loop-lease.noticed.items _ (omega arith) c.lease-item.is
          (sym c.is_among.ensures ∙ w.if-is_among.true) c.loop-lease.invariant (ap (λ v. v.items) w.noticed-is ∙ w.in_ok-push.ensures.items)
      | else-is_among w ↦
          mapped_left number test _ _ c.lease-item.result c.loop-lease.noticed.items _ (omega arith) c.lease-item.is
          (sym c.is_among.ensures ∙ w.if-is_among.false) c.loop-lease.invariant (ap (λ v. v.items) w.noticed-is)
    ]
