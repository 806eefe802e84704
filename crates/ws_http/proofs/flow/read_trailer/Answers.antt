use Rattle.std.proofs.Common.{◌≡◌, ℕ, ◌+◌, ◌-◌, List, ◌++◌, length, drop, sym, ap, ◌∙◌, subst, arith, length-drop}
use Rattle.std.proofs.lemmas.List.{drop-append-le}
use Rattle.ws_http.specs.declared.chunk.Next.TheVariants as next
use Rattle.ws_http.specs.declared.flow.Place.TheVariants as place
use Rattle.ws_http.specs.declared.flow.DataEnd.TheVariants as end
use Rattle.ws_http.specs.Chunks.{TrailerNext}
use Rattle.ws_http.specs.FlowEnds.{IsDataEnd}
use Rattle.ws_http.proofs.FlowLemmas.{trailer_open, trailer_wrong, trailer_last}
use Rattle.ws_http.proofs.flow.read_trailer.Goals as goal

pub returns-in-Open-clause-ends : goal.returns-in-Open-clause-ends
returns-in-Open-clause-ends c quota came body k =
    let start = c.args.start in
    let raw = c.args.raw.now.items in
    let held = drop start raw in
    let z = c.args.more.now in
    let p = c.args.point in
    let now : drop start c.grow.new.kept.items ≡ held ++ z =
    ap (λ (t : List ℕ). drop start t) c.in_default.ensures.ok ∙ drop-append-le start raw z c.requires.inside in
    let all = c.held-open.ensures ∙ ap (λ (t : List ℕ). drop start t) c.deref.ensures.value ∙ now in
    let after = c.split_at.ensures.back ∙ ap (λ (t : List ℕ). drop c.args.len t) all in
    let t = subst (λ (t : List ℕ). TrailerNext c.args.len t next.Open) after c.in-Open.ensures.value in
    subst (λ (t : List ℕ). IsDataEnd quota (came ++ z) t body (end.Open (record { place = place.Line; count = p.count + length z; size = p.size }))) (sym now)
    (trailer_open quota came held body p k c.requires.at_line z c.args.len c.requires.line t)

pub returns-in-Last-clause-ends : goal.returns-in-Last-clause-ends
returns-in-Last-clause-ends c quota came body k =
    let start = c.args.start in
    let raw = c.args.raw.now.items in
    let held = drop start raw in
    let z = c.args.more.now in
    let p = c.args.point in
    let now : drop start c.grow.new.kept.items ≡ held ++ z =
    ap (λ (t : List ℕ). drop start t) c.in_default.ensures.ok ∙ drop-append-le start raw z c.requires.inside in
    let all = c.held-open.ensures ∙ ap (λ (t : List ℕ). drop start t) c.deref.ensures.value ∙ now in
    let after = c.split_at.ensures.back ∙ ap (λ (t : List ℕ). drop c.args.len t) all in
    let t = subst (λ (t : List ℕ). TrailerNext c.args.len t (next.Last c.in-Last.used)) after c.in-Last.ensures.value in
    trailer_last quota came held body p k c.requires.at_line z c.args.len c.requires.line held
    (p.count + length z - length c.held-open.result.now + c.in-Last.used) c.in-Last.used t
    (ap (λ (j : ℕ). p.count + length z - j + c.in-Last.used) (ap length all))
    (omega (
      arith,
      c.in-Last.ensures.within,
      ap length after,
      length-drop c.args.len (held ++ z),
      c.requires.line.4,
      ap length now,
      ap length all,
      length-drop start raw,
      length-drop c.args.len c.held-open.result.now,
      c.split_at.ensures.back_len,
      c.split_at.ensures.front_len,
    ))

pub returns-in-Wrong-clause-ends : goal.returns-in-Wrong-clause-ends
returns-in-Wrong-clause-ends c quota came body k =
    let start = c.args.start in
    let raw = c.args.raw.now.items in
    let held = drop start raw in
    let z = c.args.more.now in
    let p = c.args.point in
    let now : drop start c.grow.new.kept.items ≡ held ++ z =
    ap (λ (t : List ℕ). drop start t) c.in_default.ensures.ok ∙ drop-append-le start raw z c.requires.inside in
    let all = c.held-open.ensures ∙ ap (λ (t : List ℕ). drop start t) c.deref.ensures.value ∙ now in
    let after = c.split_at.ensures.back ∙ ap (λ (t : List ℕ). drop c.args.len t) all in
    let t = subst (λ (t : List ℕ). TrailerNext c.args.len t next.Wrong) after c.in-Wrong.ensures.value in
    trailer_wrong quota came held body p k c.requires.at_line z c.args.len c.requires.line held t
