use Rattle.std.proofs.Common.{ℕ, Bool, List, ◌++◌, length, take, drop, sym, ap, ◌∙◌, subst, arith, length-take}
use Rattle.httparse.specs.Grammar.{ResponseHead, ReadsResponse}
use Rattle.ws_model.specs.Fit.{is_fit_reply}
use Rattle.ws_model.specs.declared.work.Outcome.TheVariants as outcome
use Rattle.ws_http.specs.Responses.{Got}
use Rattle.ws_http.specs.ResponseHeads.{built_of}
use Rattle.ws_http.specs.ResponseStages.{HasFinal, front, content_of, kept_content, ReplyReading, Stands}
use Rattle.ws_http.proofs.ReplyPartLemmas.{built_is}
use Rattle.ws_http.proofs.ReplyStageLemmas.{start_small}
use Rattle.ws_http.proofs.ReplyTailLemmas.{head_alone, whole_inside, got_reply}
use Rattle.ws_http.proofs.FitLemmas.{reply_fit}
use Rattle.ws_http.proofs.response.ResponseReader.into_reply.Goals as goal

pub split_at-requires : goal.split_at-requires
split_at-requires c =
    let raw = c.self.inside.raw.items in
    let f = c.in-Whole.head in
    let r = rw c.in-Whole.is at c.self.invariant.ready in
    let near = (start_small (raw ++ c.self.inside.tail.items) f r.0 r.1).0 in
    let inside = whole_inside c.self.inside.need raw c.self.inside.tail.items c.self.inside.body.items f c.in-Whole.total c.in-Whole.chunked r
    (rw c.in-Whole.is at c.self.invariant.apart) in
    omega (arith, r.1.place, near, inside, ap length c.front_of.ensures.value, ap length c.deref-in-Whole.ensures.value, length-take 16384 c.deref-in-Whole.result.now)

pub build-requires-clause-head : goal.build-requires-clause-head
build-requires-clause-head c =
    let raw = c.self.inside.raw.items in
    let tail = c.self.inside.tail.items in
    let f = c.in-Whole.head in
    let r = rw c.in-Whole.is at c.self.invariant.ready in
    let inside = whole_inside c.self.inside.need raw tail c.self.inside.body.items f c.in-Whole.total c.in-Whole.chunked r
    (rw c.in-Whole.is at c.self.invariant.apart) in
    let place = c.split_at.ensures.back
    ∙ ap (λ (t : List ℕ). drop f.at t) (c.front_of.ensures.value ∙ ap (λ (t : List ℕ). take 16384 t) c.deref-in-Whole.ensures.value) in
    let a = head_alone raw tail f r.0 r.1 inside in
    (r.0, a.0, subst (λ (t : List ℕ). ReadsResponse t r.0 a.0) (sym place) a.1)

pub returns-clause-got : goal.returns-clause-got
returns-clause-got c =
    let n = c.self.inside.need in
    let f = c.in-Whole.head in
    let total = c.in-Whole.total in
    let chunked = c.in-Whole.chunked in
    let heads = c.self.inside.raw.items in
    let tail = c.self.inside.tail.items in
    let raw = heads ++ tail in
    let body = c.self.inside.body.items in
    let reply = c.in_ok-reply-in-Whole.reply in
    let r = rw c.in-Whole.is at c.self.invariant.ready in
    let inside = whole_inside n heads tail body f total chunked r (rw c.in-Whole.is at c.self.invariant.apart) in
    let place = c.split_at.ensures.back
    ∙ ap (λ (t : List ℕ). drop f.at t) (c.front_of.ensures.value ∙ ap (λ (t : List ℕ). take 16384 t) c.deref-in-Whole.ensures.value) in
    let kept = c.in_ok-kept-in-Whole.ensures.value
    ∙ ap (λ (t : List ℕ). kept_content n (t ++ tail) body f.start total chunked) c.deref.ensures.value in
    let made = λ (h : ResponseHead) (w : HasFinal (front raw) f h).
    let a = head_alone heads tail f h w inside in
    c.in_ok-reply-in-Whole.ensures.value h a.0 (subst (λ (t : List ℕ). ReadsResponse t h a.0) (sym place) a.1)
    ∙ ap (λ (t : List ℕ). built_of n h t) kept ∙ built_is n h raw body f.start total chunked r.4 in
    let view : ReplyReading = record { need = n; bytes = raw; content = body; stage = c.self.inside.stage } in
    subst (λ (q : ReplyReading). (came : List ℕ) (ended : Bool) → Stands q came ended → Got q.need came ended (outcome.Reply reply)) c.self.view_is
    (λ came ended st. got_reply view came ended f total chunked reply c.in-Whole.is made st)

pub returns-clause-fit : goal.returns-clause-fit
returns-clause-fit c =
    let n = c.self.inside.need in
    let f = c.in-Whole.head in
    let total = c.in-Whole.total in
    let chunked = c.in-Whole.chunked in
    let heads = c.self.inside.raw.items in
    let tail = c.self.inside.tail.items in
    let raw = heads ++ tail in
    let body = c.self.inside.body.items in
    let r = rw c.in-Whole.is at c.self.invariant.ready in
    let small = rw c.in-Whole.is at c.self.invariant.small in
    let inside = whole_inside n heads tail body f total chunked r (rw c.in-Whole.is at c.self.invariant.apart) in
    let place = c.split_at.ensures.back
    ∙ ap (λ (t : List ℕ). drop f.at t) (c.front_of.ensures.value ∙ ap (λ (t : List ℕ). take 16384 t) c.deref-in-Whole.ensures.value) in
    let a = head_alone heads tail f r.0 r.1 inside in
    let reads = subst (λ (t : List ℕ). ReadsResponse t r.0 a.0) (sym place) a.1 in
    let built = c.in_ok-reply-in-Whole.ensures.value r.0 a.0 reads in
    let kept = c.in_ok-kept-in-Whole.ensures.value
    ∙ ap (λ (t : List ℕ). kept_content n (t ++ tail) body f.start total chunked) c.deref.ensures.value in
    ap is_fit_reply (built ∙ ap (λ (t : List ℕ). built_of n r.0 t) kept ∙ built_is n r.0 raw body f.start total chunked r.4)
    ∙ reply_fit n r.0 (content_of raw body f.start total chunked) r.1.reads.0 r.1.code
    (omega (arith, r.1.place, r.1.inside, length-take 16384 raw)) small
