use Rattle.std.proofs.Common.{◌≡◌, ℕ, ◌+◌, ◌-◌, ◌≤◌, List, [], ◌++◌, length, take, drop, refl, sym, ap, ◌∙◌, subst, arith, append_assoc, append-nil, length-append, length-drop, length-take, take-append-drop}
use Rattle.std.proofs.lemmas.Bool.Decides.{nat_tests}
use Rattle.std.proofs.lemmas.List.{take-take, drop-append-le}
use Rattle.ws_http.specs.declared.chunk.Line.TheVariants as line
use Rattle.ws_http.specs.declared.flow.Place.TheVariants as place
use Rattle.ws_http.specs.declared.flow.Point.{Point}
use Rattle.ws_http.specs.declared.flow.DataEnd.TheVariants as end
use Rattle.ws_http.specs.Chunks.{LineIs}
use Rattle.ws_http.specs.Flow.{Flows}
use Rattle.ws_http.specs.FlowEnds.{IsDataEnd, IsIdle}
use Rattle.ws_http.proofs.FlowLemmas.{shut_open, shut_zero, line_on, line_long, line_found, line_never, nothing, take_self, cleared, some_by}
use Rattle.ws_http.proofs.flow.read_on_line.Goals as goal

pub overflow_sub-used : goal.overflow_sub-used
overflow_sub-used c =
    let start = c.args.start in
    let raw = c.args.raw.now.items in
    let held = drop start raw in
    let z = c.split_at.result.0.now in
    let live = c.requires.live in
    let now : drop start c.grow.new.kept.items ≡ held ++ z =
    ap (λ (t : List ℕ). drop start t) c.in_default.ensures.ok ∙ drop-append-le start raw z c.requires.inside in
    let is = subst (λ (t : List ℕ). LineIs t (line.Whole c.in-Whole.len c.in-Whole.size))
    (c.held.ensures ∙ ap (λ (t : List ℕ). drop start t) c.deref.ensures.value ∙ now) c.in-Whole.ensures in
    let before : c.len.result ≡ length raw = omega (arith, c.args.raw.now.ok.0, c.len.ensures) in
    let long = line_long live.0 live.1 held live.2 c.args.point live.3 c.requires.at_line z c.in-Whole.len c.in-Whole.size is
    (some_by c.in-Whole.size c.in-Whole.size-test.1) in
    omega (arith, before, long, length-drop start raw)

pub returns-in-Never-clause-steps : goal.returns-in-Never-clause-steps
returns-in-Never-clause-steps c quota came body k =
    let start = c.args.start in
    let raw = c.args.raw.now.items in
    let held = drop start raw in
    let piece = c.args.piece.now in
    let z = c.split_at.result.0.now in
    let y = c.split_at.result.1.now in
    let now : drop start c.grow.new.kept.items ≡ held ++ z =
    ap (λ (t : List ℕ). drop start t) c.in_default.ensures.ok ∙ drop-append-le start raw z c.requires.inside in
    let is = subst (λ (t : List ℕ). LineIs t line.Never)
    (c.held.ensures ∙ ap (λ (t : List ℕ). drop start t) c.deref.ensures.value ∙ now) c.in-Never.ensures in
    let sum : z ++ y ≡ piece = (λ i. c.split_at.ensures.front i ++ c.split_at.ensures.back i) ∙ take-append-drop c.line_length.result piece in
    subst (λ (t : List ℕ). IsDataEnd quota (came ++ t) held body end.Wrong) sum
    (line_never quota came held body c.args.point k c.requires.at_line z y held is)

pub returns-in-Open-clause-steps : goal.returns-in-Open-clause-steps
returns-in-Open-clause-steps c quota came body k =
    let start = c.args.start in
    let raw = c.args.raw.now.items in
    let held = drop start raw in
    let piece = c.args.piece.now in
    let p = c.args.point in
    let z = c.split_at.result.0.now in
    let y = c.split_at.result.1.now in
    let now : drop start c.grow.new.kept.items ≡ held ++ z =
    ap (λ (t : List ℕ). drop start t) c.in_default.ensures.ok ∙ drop-append-le start raw z c.requires.inside in
    let is = subst (λ (t : List ℕ). LineIs t line.Open)
    (c.held.ensures ∙ ap (λ (t : List ℕ). drop start t) c.deref.ensures.value ∙ now) c.in-Open.ensures in
    let none : y ≡ [] = nothing y (let e = c.is_empty.ensures in let t = c.if-is_empty.true in grind (arith, nat_tests, e, t)) in
    let sum : z ++ y ≡ piece = (λ i. c.split_at.ensures.front i ++ c.split_at.ensures.back i) ∙ take-append-drop c.line_length.result piece in
    let all : z ≡ piece = sym (append-nil z) ∙ ap (λ (t : List ℕ). z ++ t) (sym none) ∙ sum in
    let next_point : Point = record { place = place.Line; count = p.count + length z; size = p.size } in (
      subst (λ (t : List ℕ). Flows quota (came ++ t) (drop start c.grow.new.kept.items) body next_point) all
          (subst (λ (t : List ℕ). Flows quota (came ++ z) t body next_point) (sym now)
          (line_on quota came held body p k c.requires.at_line z (shut_open (held ++ z) is))),
      subst (λ (t : List ℕ). IsIdle t place.Line) (sym now) (line.Open, is, refl),
    )

pub returns-in-Open-2-clause-steps : goal.returns-in-Open-2-clause-steps
returns-in-Open-2-clause-steps c quota came body k =
    let start = c.args.start in
    let raw = c.args.raw.now.items in
    let held = drop start raw in
    let piece = c.args.piece.now in
    let p = c.args.point in
    let z = c.split_at.result.0.now in
    let front = c.split_at.ensures.front in
    let now : drop start c.grow.new.kept.items ≡ held ++ z =
    ap (λ (t : List ℕ). drop start t) c.in_default.ensures.ok ∙ drop-append-le start raw z c.requires.inside in
    let is = subst (λ (t : List ℕ). LineIs t line.Open)
    (c.held.ensures ∙ ap (λ (t : List ℕ). drop start t) c.deref.ensures.value ∙ now) c.in-Open-2.ensures in
    let same : take (length z) piece ≡ z = ap (λ (t : List ℕ). take (length t) piece) front ∙ take_self c.line_length.result piece ∙ sym front in
    let next_point : Point = record { place = place.Line; count = p.count + length z; size = p.size } in
    subst (λ (t : List ℕ). Flows quota (came ++ t) (drop start c.grow.new.kept.items) body next_point) (sym same)
    (subst (λ (t : List ℕ). Flows quota (came ++ z) t body next_point) (sym now)
    (line_on quota came held body p k c.requires.at_line z (shut_open (held ++ z) is)))

pub returns-in-Whole-default-eq0-clause-steps : goal.returns-in-Whole-default-eq0-clause-steps
returns-in-Whole-default-eq0-clause-steps c quota came body k =
    let start = c.args.start in
    let raw = c.args.raw.now.items in
    let held = drop start raw in
    let piece = c.args.piece.now in
    let p = c.args.point in
    let z = c.split_at.result.0.now in
    let y = c.split_at.result.1.now in
    let w = c.in-Whole-default-eq0 in
    let now : drop start c.grow.new.kept.items ≡ held ++ z =
    ap (λ (t : List ℕ). drop start t) c.in_default.ensures.ok ∙ drop-append-le start raw z c.requires.inside in
    let zero : w.field-1 ≡ 0 = omega (arith, w.field-1-test) in
    let is = subst (λ (j : ℕ). LineIs (held ++ z) (line.Whole w.len j)) zero
    (subst (λ (t : List ℕ). LineIs t (line.Whole w.len w.field-1))
    (c.held.ensures ∙ ap (λ (t : List ℕ). drop start t) c.deref.ensures.value ∙ now) w.ensures) in
    let sum : z ++ y ≡ piece = (λ i. c.split_at.ensures.front i ++ c.split_at.ensures.back i) ∙ take-append-drop c.line_length.result piece in
    let next_point : Point = record { place = place.Line; count = p.count + length z; size = p.size } in
    let flows = subst (λ (t : List ℕ). Flows quota (came ++ z) t body next_point) (sym now)
    (line_on quota came held body p k c.requires.at_line z (shut_zero (held ++ z) w.len is)) in
    subst (λ (t : List ℕ). IsDataEnd quota t (drop start c.read_trailer.new.raw.items) body c.read_trailer.result)
    (append_assoc came z y ∙ ap (λ (t : List ℕ). came ++ t) sum)
    (c.read_trailer.ensures.ends quota (came ++ z) body flows)

pub returns-in-Whole-clause-steps : goal.returns-in-Whole-clause-steps
returns-in-Whole-clause-steps c quota came body k =
    let start = c.args.start in
    let raw = c.args.raw.now.items in
    let held = drop start raw in
    let piece = c.args.piece.now in
    let p = c.args.point in
    let z = c.split_at.result.0.now in
    let front = c.split_at.ensures.front in
    let len = c.in-Whole.len in
    let size = c.in-Whole.size in
    let now : drop start c.grow.new.kept.items ≡ held ++ z =
    ap (λ (t : List ℕ). drop start t) c.in_default.ensures.ok ∙ drop-append-le start raw z c.requires.inside in
    let is = subst (λ (t : List ℕ). LineIs t (line.Whole len size))
    (c.held.ensures ∙ ap (λ (t : List ℕ). drop start t) c.deref.ensures.value ∙ now) c.in-Whole.ensures in
    let some = some_by size c.in-Whole.size-test.1 in
    let before : c.len.result ≡ length raw = omega (arith, c.args.raw.now.ok.0, c.len.ensures) in
    let long = line_long quota came held body p k c.requires.at_line z len size is some in
    let used = len - (c.len.result - start) in
    let most : used ≤ length z = omega (arith, is.4, before, long, length-append held z, length-drop start raw) in
    let within : used ≤ c.line_length.result = omega (arith, most, ap length front, length-take c.line_length.result piece) in
    let new = take used piece in
    let cut : take used z ≡ new = ap (λ (t : List ℕ). take used t) front ∙ take-take used c.line_length.result piece within in
    let split : z ≡ new ++ drop used z = sym (take-append-drop used z) ∙ ap (λ (t : List ℕ). t ++ drop used z) cut in
    let count : length new ≡ used = omega (arith, most, ap length cut, length-take used z) in
    let ends : len ≡ length held + length new = omega (arith, count, before, long, length-drop start raw) in
    let found = line_found quota came held body p k c.requires.at_line new (drop used z) len size
    (subst (λ (t : List ℕ). LineIs (held ++ t) (line.Whole len size)) split is) ends some in
    let none = ap (λ (t : List ℕ). drop start t) c.truncate.ensures.items ∙ cleared start c.grow.new.kept.items in
    subst (λ (j : ℕ). Flows quota (came ++ new) (drop start c.truncate.new.self.items) body (record { place = place.Data size; count = p.count + j; size = p.size })) count
    (subst (λ (t : List ℕ). Flows quota (came ++ new) t body (record { place = place.Data size; count = p.count + length new; size = p.size })) (sym none) found)

pub returns-in-Whole-clause-advances : goal.returns-in-Whole-clause-advances
returns-in-Whole-clause-advances c =
    let start = c.args.start in
    let raw = c.args.raw.now.items in
    let held = drop start raw in
    let piece = c.args.piece.now in
    let z = c.split_at.result.0.now in
    let live = c.requires.live in
    let len = c.in-Whole.len in
    let size = c.in-Whole.size in
    let now : drop start c.grow.new.kept.items ≡ held ++ z =
    ap (λ (t : List ℕ). drop start t) c.in_default.ensures.ok ∙ drop-append-le start raw z c.requires.inside in
    let is = subst (λ (t : List ℕ). LineIs t (line.Whole len size))
    (c.held.ensures ∙ ap (λ (t : List ℕ). drop start t) c.deref.ensures.value ∙ now) c.in-Whole.ensures in
    let before : c.len.result ≡ length raw = omega (arith, c.args.raw.now.ok.0, c.len.ensures) in
    let long = line_long live.0 live.1 held live.2 c.args.point live.3 c.requires.at_line z len size is (some_by size c.in-Whole.size-test.1) in
    let front = ap length c.split_at.ensures.front in
    let taken = length-take c.line_length.result piece in (
      omega (arith, before, long, length-drop start raw),
      omega (arith, is.4, before, long, length-append held z, length-drop start raw, front, taken),
      refl,
    )

pub returns-in-Whole-default-eq0-clause-memory : goal.returns-in-Whole-default-eq0-clause-memory
returns-in-Whole-default-eq0-clause-memory c room =
    let piece = c.args.piece.now in
    let z = c.split_at.result.0.now in
    let y = c.split_at.result.1.now in
    let sum : z ++ y ≡ piece = (λ i. c.split_at.ensures.front i ++ c.split_at.ensures.back i) ∙ take-append-drop c.line_length.result piece in
    c.read_trailer.ensures.memory
    (omega (arith, room, ap length c.in_default.ensures.ok, length-append c.args.raw.now.items z, ap length sum, length-append z y, c.grow.ensures.capacity))
