use Rattle.std.proofs.Common.{◌≡◌, ℕ, ◌++◌, false, length, sym, ap, ◌∙◌, subst, arith}
use Rattle.ws_http.specs.declared.reply_stage.ReplyStage.{ReplyStage}
use Rattle.ws_http.specs.ResponseStages.{Ready, Small, IsSplit, ReplyReading, FeedsReply, count_of, is_last, said, stage_closed}
use Rattle.ws_http.proofs.ReplyReaderLemmas.{reply_feeds, closed_ready, closed_small, count_small}
use Rattle.ws_http.proofs.ReplyTailLemmas.{closed_split}
use Rattle.ws_http.proofs.response.ResponseReader.feed.Goals as goal

pub returns-clause-feeds : goal.returns-clause-feeds
returns-clause-feeds c =
    let n = c.self.inside.need in
    let from = c.self.inside.stage in
    let s = c.take_next-new.result in
    let p = c.take_next-new.ensures in
    let was = c.self.inside.raw.items ++ c.self.inside.tail.items in
    let raw = c.take_next-new.new.raw.items ++ c.take_next-new.new.tail.items in
    let body = c.take_next-new.new.body.items in
    let live : is_last from ≡ false = rw c.in_default.is at c.reply_again.ensures in
    let before : c.count_of-before.result ≡ count_of was from =
    c.count_of-before.ensures ∙ (λ i. count_of (c.deref.ensures.value i ++ c.deref-2.ensures.value i) from) in
    let came : c.count.result ≡ length raw = c.count.ensures ∙ (λ i. length (c.deref-3.ensures.value i ++ c.deref-4.ensures.value i)) in
    let now = c.closed-self-inside.ensures ∙ ap (λ (k : ℕ). stage_closed c.args.end k s) came in
    let told = c.reply_told.ensures.value ∙ ap (λ (k : ℕ). said k from c.closed-self-inside.result) before
    ∙ ap (λ (x : ReplyStage). said (count_of was from) from x) now in
    let old : ReplyReading = record { need = n; bytes = was; content = c.self.inside.body.items; stage = from } in
    let feeds = reply_feeds n was c.self.inside.body.items raw body c.args.piece.now from s c.args.end c.reply_told.result live p.stands
    p.ready told in
    subst (λ (r : ReplyReading). FeedsReply r c.args.piece.now c.args.end (record { need = n; bytes = raw; content = body; stage = c.closed-self-inside.result })
    c.reply_told.result) c.self.view_is
    (subst (λ (x : ReplyStage). FeedsReply old c.args.piece.now c.args.end (record { need = n; bytes = raw; content = body; stage = x }) c.reply_told.result)
    (sym now) feeds)

pub count_of-before-requires-clause-fits : goal.count_of-before-requires-clause-fits
count_of-before-requires-clause-fits c =
    let n = c.self.inside.need in
    let was = c.self.inside.raw.items ++ c.self.inside.tail.items in
    let from = c.self.inside.stage in
    let same : count_of (c.deref.result.now ++ c.deref-2.result.now) from ≡ count_of was from =
    λ i. count_of (c.deref.ensures.value i ++ c.deref-2.ensures.value i) from in
    omega (arith, same, count_small n was c.self.inside.body.items from c.self.invariant.short c.self.invariant.ready)

pub invariant_of-self : goal.invariant_of-self
invariant_of-self c =
    let n = c.self.inside.need in
    let s = c.take_next-new.result in
    let p = c.take_next-new.ensures in
    let heads = c.take_next-new.new.raw.items in
    let tail = c.take_next-new.new.tail.items in
    let raw = heads ++ tail in
    let body = c.take_next-new.new.body.items in
    let came : c.count.result ≡ length raw = c.count.ensures ∙ (λ i. length (c.deref-3.ensures.value i ++ c.deref-4.ensures.value i)) in
    let now = c.closed-self-inside.ensures ∙ ap (λ (k : ℕ). stage_closed c.args.end k s) came in
    record {
      short = p.short;
      kept = λ e. let k = c.self.invariant.kept e in omega (arith, k, p.raw_capacity);
      held = λ e. let k = c.self.invariant.held e in omega (arith, k, p.body_capacity);
      ready = subst (λ (x : ReplyStage). Ready n raw body x) (sym now) (closed_ready n raw body c.args.end s p.ready);
      small = subst (λ (x : ReplyStage). Small raw body x) (sym now) (closed_small raw body c.args.end s p.small);
      apart = subst (λ (x : ReplyStage). IsSplit n heads tail x) (sym now) (closed_split n heads tail c.args.end (length raw) s p.split);
    }
