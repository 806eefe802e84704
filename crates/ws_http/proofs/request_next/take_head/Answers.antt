use Rattle.std.proofs.Common.{◌≡◌, ℕ, List, [], ◌++◌, sym, ap, ◌∙◌, subst, append_assoc, append-nil, take-append-drop}
use Rattle.std.proofs.lemmas.Bool.Decides.{nat_tests}
use Rattle.std.proofs.Common.{arith}
use Rattle.ws_http.specs.RequestStages.{Stands, Reading}
use Rattle.ws_http.proofs.FlowLemmas.{nothing}
use Rattle.ws_http.proofs.PieceLemmas.{stands_more}
use Rattle.ws_http.proofs.request_next.take_head.Goals as goal
use Rattle.ws_http.proofs.request_next.take_head.Goals.{then-is_empty-via-then-is_empty, then-is_empty-via-else-is_empty+then-is_last}

pub returns-then-is_empty-clause-stands : goal.returns-then-is_empty-clause-stands
returns-then-is_empty-clause-stands c came st =
    let front = c.split_at.result.0.now in
    let behind = c.split_at.result.1.now in
    let sum : front ++ behind ≡ c.args.piece.now =
    (λ i. c.split_at.ensures.front i ++ c.split_at.ensures.back i) ∙ take-append-drop c.head_end.result c.args.piece.now in
    let r : Reading = record { room = c.args.room; bytes = c.take_part-stage.new.raw.items; content = c.take_part-stage.new.body.items; stage = c.take_part-stage.result } in
    let here : Stands r (came ++ front) = c.take_part-stage.ensures.stands came st in
    let all = append_assoc came front behind ∙ ap (λ (t : List ℕ). came ++ t) sum in
    elim c.then-is_empty.branch [
      | then-is_empty-via-then-is_empty w ↦
          let none : behind ≡ [] = nothing behind (let e = c.is_empty.ensures in let t = w.if-is_empty.true in grind (arith, nat_tests, e, t)) in
          subst (λ (t : List ℕ). Stands r t) (sym (append-nil (came ++ front)) ∙ ap (λ (t : List ℕ). (came ++ front) ++ t) (sym none) ∙ all) here
      | then-is_empty-via-else-is_empty+then-is_last w ↦
          subst (λ (t : List ℕ). Stands r t) all (stands_more r (came ++ front) behind c.requires.least (sym w.is_last.ensures ∙ w.if-is_last.true) here)
    ]

pub returns-clause-stands : goal.returns-clause-stands
returns-clause-stands c came st =
    let front = c.split_at.result.0.now in
    let behind = c.split_at.result.1.now in
    let sum : front ++ behind ≡ c.args.piece.now =
    (λ i. c.split_at.ensures.front i ++ c.split_at.ensures.back i) ∙ take-append-drop c.head_end.result c.args.piece.now in
    let all = append_assoc came front behind ∙ ap (λ (t : List ℕ). came ++ t) sum in
    subst (λ (t : List ℕ). Stands (record { room = c.args.room; bytes = c.take_part.new.raw.items; content = c.take_part.new.body.items; stage = c.take_part.result }) t) all
    (c.take_part.ensures.stands (came ++ front) (c.take_part-stage.ensures.stands came st))
