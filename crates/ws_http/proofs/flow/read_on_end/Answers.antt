use Rattle.std.proofs.Common.{◌≡◌, ℕ, ◌+◌, ◌≤◌, List, ◌++◌, length, take, drop, sym, ap, ◌∙◌, subst, arith, length-append, length-drop, length-take, take-append-drop}
use Rattle.std.proofs.lemmas.List.{take_all, drop-append-le}
use Rattle.ws_http.specs.declared.chunk.Next.TheVariants as next
use Rattle.ws_http.specs.declared.flow.Place.TheVariants as place
use Rattle.ws_http.specs.declared.flow.Point.{Point}
use Rattle.ws_http.specs.declared.flow.DataEnd.TheVariants as end
use Rattle.ws_http.specs.Chunks.{end_next}
use Rattle.ws_http.specs.Flow.{Flows}
use Rattle.ws_http.specs.FlowEnds.{IsDataEnd}
use Rattle.ws_http.proofs.FlowLemmas.{open_short, end_held, end_on, end_wrong, end_whole, take_self, cleared}
use Rattle.ws_http.proofs.flow.read_on_end.Goals as goal

pub returns-in-Open-clause-steps : goal.returns-in-Open-clause-steps
returns-in-Open-clause-steps c quota came body k =
    let start = c.args.start in
    let raw = c.args.raw.now.items in
    let held = drop start raw in
    let piece = c.args.piece.now in
    let p = c.args.point in
    let z = c.split_at.result.0.now in
    let front = c.split_at.ensures.front in
    let now : drop start c.grow.new.kept.items ≡ held ++ z =
    ap (λ (t : List ℕ). drop start t) c.in_default.ensures.ok ∙ drop-append-le start raw z c.requires.inside in
    let stays : end_next 0 0 (held ++ z) ≡ next.Open =
    sym (c.in-Open.ensures ∙ ap (λ (t : List ℕ). end_next 0 0 t) (c.held.ensures ∙ ap (λ (t : List ℕ). drop start t) c.deref.ensures.value ∙ now)) in
    let short = open_short 0 0 (held ++ z) stays in
    let before : c.len.result ≡ length raw = omega (arith, c.args.raw.now.ok.0, c.len.ensures) in
    let fits : length piece ≤ c.min.result =
    omega (arith, c.min.ensures, before, short, length-append held z, ap length front, length-take c.min.result piece, length-drop start raw) in
    let all : z ≡ piece = front ∙ take_all c.min.result piece fits in
    let next_point : Point = record { place = place.Data 0; count = p.count + length z; size = p.size } in (
      subst (λ (t : List ℕ). Flows quota (came ++ t) (drop start c.grow.new.kept.items) body next_point) all
          (subst (λ (t : List ℕ). Flows quota (came ++ z) t body next_point) (sym now)
          (end_on quota came held body p k c.requires.at_data z stays)),
      tt,
    )

pub returns-in-Chunk-clause-steps : goal.returns-in-Chunk-clause-steps
returns-in-Chunk-clause-steps c quota came body k =
    let start = c.args.start in
    let raw = c.args.raw.now.items in
    let held = drop start raw in
    let piece = c.args.piece.now in
    let p = c.args.point in
    let z = c.split_at.result.0.now in
    let front = c.split_at.ensures.front in
    let now : drop start c.grow.new.kept.items ≡ held ++ z =
    ap (λ (t : List ℕ). drop start t) c.in_default.ensures.ok ∙ drop-append-le start raw z c.requires.inside in
    let whole : next.Chunk c.in-Chunk.field-0 c.in-Chunk.field-1 ≡ end_next 0 0 (held ++ z) =
    c.in-Chunk.ensures ∙ ap (λ (t : List ℕ). end_next 0 0 t) (c.held.ensures ∙ ap (λ (t : List ℕ). drop start t) c.deref.ensures.value ∙ now) in
    let before : c.len.result ≡ length raw = omega (arith, c.args.raw.now.ok.0, c.len.ensures) in
    let few = end_held quota came held body p k c.requires.at_data in
    let short : length (held ++ z) ≤ 2 =
    omega (arith, c.min.ensures, before, few, length-append held z, ap length front, length-take c.min.result piece, length-drop start raw) in
    let same : take (length z) piece ≡ z = ap (λ (t : List ℕ). take (length t) piece) front ∙ take_self c.min.result piece ∙ sym front in
    let none = ap (λ (t : List ℕ). drop start t) c.truncate.ensures.items ∙ cleared start c.grow.new.kept.items in
    let next_point : Point = record { place = place.Line; count = p.count + length z; size = p.size } in
    subst (λ (t : List ℕ). Flows quota (came ++ t) (drop start c.truncate.new.self.items) body next_point) (sym same)
    (subst (λ (t : List ℕ). Flows quota (came ++ z) t body next_point) (sym none)
    (end_whole quota came held body p k c.requires.at_data z c.in-Chunk.field-0 c.in-Chunk.field-1 whole short))

pub returns-in-Wrong-clause-steps : goal.returns-in-Wrong-clause-steps
returns-in-Wrong-clause-steps c quota came body k =
    let start = c.args.start in
    let raw = c.args.raw.now.items in
    let held = drop start raw in
    let piece = c.args.piece.now in
    let p = c.args.point in
    let z = c.split_at.result.0.now in
    let y = c.split_at.result.1.now in
    let now : drop start c.grow.new.kept.items ≡ held ++ z =
    ap (λ (t : List ℕ). drop start t) c.in_default.ensures.ok ∙ drop-append-le start raw z c.requires.inside in
    let wrong : end_next 0 0 (held ++ z) ≡ next.Wrong =
    sym (c.in-Wrong.ensures ∙ ap (λ (t : List ℕ). end_next 0 0 t) (c.held.ensures ∙ ap (λ (t : List ℕ). drop start t) c.deref.ensures.value ∙ now)) in
    let sum : z ++ y ≡ piece = (λ i. c.split_at.ensures.front i ++ c.split_at.ensures.back i) ∙ take-append-drop c.min.result piece in
    subst (λ (t : List ℕ). IsDataEnd quota (came ++ t) held body end.Wrong) sum
    (end_wrong quota came held body p k c.requires.at_data z y held body wrong)
