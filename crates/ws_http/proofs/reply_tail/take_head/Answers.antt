use Rattle.std.proofs.Common.{◌≡◌, ℕ, List, [], ◌++◌, arith, false, sym, ap, ◌∙◌, subst, append_assoc, append-nil, take-append-drop}
use Rattle.std.proofs.lemmas.Bool.Decides.{nat_tests}
use Rattle.ws_http.specs.ResponseStages.{ReplyReading, Stands}
use Rattle.ws_http.proofs.FlowLemmas.{nothing}
use Rattle.ws_http.proofs.ReplyPieceLemmas.{stands_more, starved_last}
use Rattle.ws_http.proofs.reply_tail.take_head.Goals as goal
use Rattle.ws_http.proofs.reply_tail.take_head.Goals.{then-is_empty-via-then-is_empty, then-is_empty-via-else-is_empty+then-is_last}

pub returns-then-is_empty-clause-stands : goal.returns-then-is_empty-clause-stands
returns-then-is_empty-clause-stands c well came st =
    let front = c.split_at.result.0.now in
    let behind = c.split_at.result.1.now in
    let sum : front ++ behind ≡ c.args.piece.now =
    (λ i. c.split_at.ensures.front i ++ c.split_at.ensures.back i) ∙ take-append-drop c.head_end.result c.args.piece.now in
    let p = c.take_part-stage in
    let r : ReplyReading = record { need = c.args.need; bytes = p.new.raw.items ++ p.new.tail.items; content = p.new.body.items; stage = p.result } in
    let here : Stands r (came ++ front) false = p.ensures.stands well came st in
    let all = append_assoc came front behind ∙ ap (λ (t : List ℕ). came ++ t) sum in
    elim c.then-is_empty.branch [
      | then-is_empty-via-then-is_empty w ↦
          let none : behind ≡ [] = nothing behind (let e = c.is_empty.ensures in let t = w.if-is_empty.true in grind (arith, nat_tests, e, t)) in
          subst (λ (t : List ℕ). Stands r t false) (sym (append-nil (came ++ front)) ∙ ap (λ (t : List ℕ). (came ++ front) ++ t) (sym none) ∙ all) here
      | then-is_empty-via-else-is_empty+then-is_last w ↦
          subst (λ (t : List ℕ). Stands r t false) all (stands_more r (came ++ front) behind (sym w.is_last.ensures ∙ w.if-is_last.true) well here)
    ]

pub returns-clause-stands : goal.returns-clause-stands
returns-clause-stands c well came st =
    let front = c.split_at.result.0.now in
    let behind = c.split_at.result.1.now in
    let sum : front ++ behind ≡ c.args.piece.now =
    (λ i. c.split_at.ensures.front i ++ c.split_at.ensures.back i) ∙ take-append-drop c.head_end.result c.args.piece.now in
    let all = append_assoc came front behind ∙ ap (λ (t : List ℕ). came ++ t) sum in
    let p = c.take_part in
    let going = starved_last c.take_part-stage.result (sym c.is_last.ensures ∙ c.if-is_last.false) in
    subst (λ (t : List ℕ). Stands (record { need = c.args.need; bytes = p.new.raw.items ++ p.new.tail.items; content = p.new.body.items; stage = p.result }) t false) all
    (p.ensures.stands well (came ++ front) (c.take_part-stage.ensures.stands going came st))
