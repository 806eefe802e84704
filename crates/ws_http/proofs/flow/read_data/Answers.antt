use Rattle.std.proofs.Common.{◌≡◌, ℕ, ◌+◌, ◌-◌, List, ◌++◌, length, take, drop, refl, sym, ap, ◌∙◌, subst, arith, append_assoc, append-nil, length-drop, length-take, take-append-drop}
use Rattle.ws_http.specs.Flow.{Flows}
use Rattle.ws_http.specs.FlowEnds.{IsDataEnd}
use Rattle.ws_http.proofs.ReaderLemmas.{take_over}
use Rattle.ws_http.proofs.flow.read_data.Goals as goal

pub pieces-init : goal.pieces-init
pieces-init c = record {
  read = λ came k. subst (λ (t : List ℕ). Flows c.args.quota t (drop c.args.start c.args.raw.now.items) c.args.body.now.items c.args.from) (sym (append-nil came)) k;
  place = omega arith;
  counted = omega arith;
  heads = refl;
  inside = c.requires.inside;
  short = omega arith;
  raw_grows = omega arith;
  body_grows = omega arith;
}

pub read_on-requires-clause-live : goal.read_on-requires-clause-live
read_on-requires-clause-live c =
    let live = c.requires.live in
    (live.0 ++ take c.pieces.at c.args.piece.now, c.pieces.invariant.read live.0 live.1)

pub returns-in-Stop-clause-ends : goal.returns-in-Stop-clause-ends
returns-in-Stop-clause-ends c came k =
    let piece = c.args.piece.now in
    let at = c.pieces.at in
    let sum = append_assoc came (take at piece) c.split_at.result.1.now
    ∙ ap (λ (t : List ℕ). came ++ t) (ap (λ (t : List ℕ). take at piece ++ t) c.split_at.ensures.back ∙ take-append-drop at piece) in
    subst (λ (t : List ℕ). IsDataEnd c.args.quota t (drop c.args.start c.read_on.new.raw.items) c.read_on.new.body.items c.in-Stop.end) sum
    (c.in-Stop.ensures.steps (came ++ take at piece) (c.pieces.invariant.read came k))

pub pieces-preserved : goal.pieces-preserved
pieces-preserved c =
    let piece = c.args.piece.now in
    let at = c.pieces.at in
    let used = c.in-On.used in
    let rest = c.split_at.result.1.now in
    let inv = c.pieces.invariant in
    let on = c.in-On.ensures in
    let left = ap length c.split_at.ensures.back in
    let front : length (take at piece) ≡ at = omega (arith, inv.place, length-take at piece) in
    let twice : take (at + used) piece ≡ take at piece ++ take used rest =
    ap (λ (t : List ℕ). take (at + used) t) (sym (take-append-drop at piece))
    ∙ take_over (at + used) (take at piece) (drop at piece) (omega (arith, front))
    ∙ ap (λ (j : ℕ). take at piece ++ take j (drop at piece)) (let j : at + used - length (take at piece) ≡ used = omega (arith, front) in j)
    ∙ ap (λ (t : List ℕ). take at piece ++ take used t) (sym c.split_at.ensures.back) in
    record {
      read = λ came k. subst (λ (t : List ℕ). Flows c.args.quota t (drop c.args.start c.read_on.new.raw.items) c.read_on.new.body.items c.in-On.next)
          (append_assoc came (take at piece) (take used rest) ∙ ap (λ (t : List ℕ). came ++ t) (sym twice))
          (on.steps (came ++ take at piece) (inv.read came k));
      place = omega (arith, on.advances.1, left, length-drop at piece, inv.place);
      counted = omega (arith, on.advances.2, inv.counted);
      heads = on.heads ∙ inv.heads;
      inside = on.inside;
      short = omega (arith, on.short, inv.short);
      raw_grows = omega (arith, inv.raw_grows, on.raw_capacity);
      body_grows = omega (arith, inv.body_grows, on.body_capacity);
    }

pub returns-in-Stop-clause-memory : goal.returns-in-Stop-clause-memory
returns-in-Stop-clause-memory c room fits =
    let inv = c.pieces.invariant in
    c.in-Stop.ensures.memory
    (omega (arith, room, inv.short, inv.place, inv.raw_grows, ap length c.split_at.ensures.back, length-drop c.pieces.at c.args.piece.now))
    (omega (arith, fits, inv.body_grows))
