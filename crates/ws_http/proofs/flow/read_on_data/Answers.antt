use Rattle.std.proofs.Common.{◌≡◌, ℕ, ◌+◌, ◌-◌, ◌≤◌, List, [], ◌++◌, length, take, sym, ap, ◌∙◌, subst, arith, append-nil, length-take}
use Rattle.std.proofs.lemmas.Bool.{false≢true}
use Rattle.std.proofs.lemmas.Bool.Decides.{nat_tests}
use Rattle.ws_http.specs.declared.flow.Place.{Place}
use Rattle.ws_http.specs.declared.flow.Place.TheVariants as place
use Rattle.ws_http.specs.declared.flow.Point.{Point}
use Rattle.ws_http.specs.Flow.{Flows}
use Rattle.ws_http.specs.FlowEnds.{IsIdle, more_of}
use Rattle.ws_http.proofs.FlowLemmas.{data_on, data_over, nothing, take_self, kept_room}
use Rattle.ws_http.proofs.flow.read_on_data.Goals as goal

pub returns-then-is_empty-clause-steps : goal.returns-then-is_empty-clause-steps
returns-then-is_empty-clause-steps c came held k =
    let n = c.args.quota in
    let body = c.args.body.now.items in
    let p = c.args.point in
    let none : c.args.piece.now ≡ [] =
    nothing c.args.piece.now (let e = c.is_empty.ensures in let t = c.if-is_empty.true in grind (arith, nat_tests, e, t)) in
    let all = append-nil came in (
      subst (λ (t : List ℕ). Flows n t held body p) (sym (ap (λ (t : List ℕ). came ++ t) none ∙ all)) k,
      subst (λ (q : Place). IsIdle held q) (sym c.requires.at_data) tt,
    )

pub returns-then-size-quota-clause-steps : goal.returns-then-size-quota-clause-steps
returns-then-size-quota-clause-steps c came held k =
    data_over c.args.quota came held c.args.body.now.items c.args.point k c.args.left c.requires.at_data c.requires.some c.args.piece.now [] []
    (length c.split_at.result.0.now)
    (omega (arith, ap length c.split_at.ensures.front, length-take c.min.result c.args.piece.now, c.min.ensures))
    c.if-size-quota.true

pub returns-in-Err-clause-memory : goal.returns-in-Err-clause-memory
returns-in-Err-clause-memory c room =
    let q = c.args.quota in
    let body = c.args.body.now.items in
    let z = c.split_at.result.0.now in
    let k = c.requires.live.2 in
    let before : c.len-before.result ≡ length body = omega (arith, c.args.body.now.ok.0, c.len-before.ensures) in
    let kept = c.kept_part.ensures ∙ ap (λ (j : ℕ). more_of q.need j z) before in
    let within : length (k.content ++ k.more) + length z ≤ q.limit = omega (arith, k.counted, c.if-size-quota.false) in
    absurd (false≢true (c.in-Err.ensures.fits
    (omega (arith, kept_room q.need q.limit body (k.content ++ k.more) z k.kept within, ap length kept, room, c.args.body.now.ok.0))))

pub returns-clause-steps : goal.returns-clause-steps
returns-clause-steps c came held k =
    let n = c.args.quota in
    let p = c.args.point in
    let body = c.args.body.now.items in
    let piece = c.args.piece.now in
    let z = c.split_at.result.0.now in
    let front = c.split_at.ensures.front in
    let fits : length z ≤ c.args.left = omega (arith, ap length front, length-take c.min.result piece, c.min.ensures) in
    let before : c.len-before.result ≡ length body = omega (arith, c.args.body.now.ok.0, c.len-before.ensures) in
    let same : take (length z) piece ≡ z = ap (λ (t : List ℕ). take (length t) piece) front ∙ take_self c.min.result piece ∙ sym front in
    let kept : c.grow.new.kept.items ≡ body ++ more_of n.need (length body) z =
    c.in_default.ensures.ok ∙ ap (λ (t : List ℕ). body ++ t) (c.kept_part.ensures ∙ ap (λ (j : ℕ). more_of n.need j z) before) in
    let next : Point = record { place = place.Data (c.args.left - length z); count = p.count + length z; size = p.size + length z } in
    subst (λ (t : List ℕ). Flows n (came ++ t) held c.grow.new.kept.items next) (sym same)
    (subst (λ (t : List ℕ). Flows n (came ++ z) held t next) (sym kept)
    (data_on n came held body p k c.args.left c.requires.at_data c.requires.some z fits (omega (arith, c.if-size-quota.false))))
