use Rattle.std.proofs.Common.{◌≡◌, ℕ, false, ap, ◌∙◌, subst, arith, List}
use Rattle.ws_http.specs.Requests.{said}
use Rattle.ws_http.specs.RequestStages.{Reading, Feeds, count_of, is_last, verdict_of}
use Rattle.ws_http.proofs.ReaderLemmas.{feeds, count_small}
use Rattle.ws_http.proofs.request.RequestReader.feed.Goals as goal

pub count_of-before-requires : goal.count_of-before-requires
count_of-before-requires c =
    let i = c.self.inside in
    let inv = c.self.invariant in
    let same : count_of c.deref.result.now i.stage ≡ count_of i.raw.items i.stage = ap (λ (t : List ℕ). count_of t i.stage) c.deref.ensures.value in
    omega (arith, same, inv.most, count_small i.room i.raw.items i.body.items i.stage inv.short inv.ready)

pub returns-clause-feeds : goal.returns-clause-feeds
returns-clause-feeds c =
    let i = c.self.inside in
    let s = c.take_next-self-inside.result in
    let raw = c.take_next-self-inside.new.raw.items in
    let body = c.take_next-self-inside.new.body.items in
    let old : Reading = record { room = i.room; bytes = i.raw.items; content = i.body.items; stage = i.stage } in
    let going_on : is_last i.stage ≡ false = rw c.in_default.is at c.again.ensures in
    let before : c.count_of-before.result ≡ count_of i.raw.items i.stage =
    c.count_of-before.ensures ∙ ap (λ (t : List ℕ). count_of t i.stage) c.deref.ensures.value in
    let new : Reading = record { room = i.room; bytes = raw; content = body; stage = s } in
    subst (λ (r : Reading). Feeds r c.args.piece.now new c.told.result) c.self.view_is
    (feeds old c.args.piece.now raw body s c.told.result going_on c.take_next-self-inside.ensures.stands
    (λ r b n k. subst (λ (m : ℕ). c.told.result ≡ said m (verdict_of i.stage r b) (verdict_of s n k)) before (c.told.ensures.value r b n k)))

pub returns-clause-tells : goal.returns-clause-tells
returns-clause-tells c = c.told.ensures.tells _ _
