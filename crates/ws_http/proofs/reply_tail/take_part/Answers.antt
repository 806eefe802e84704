use Rattle.std.proofs.Common.{◌≡◌, ℕ, List, ◌++◌, false, length, sym, ap, ◌∙◌, subst, arith}
use Rattle.ws_http.specs.declared.reply_stage.ReplyStage.{ReplyStage}
use Rattle.ws_http.specs.ResponseStages.{Ready, Small, Stands, is_full, is_starved}
use Rattle.ws_http.proofs.ReplyReaderLemmas.{kept_plain, stands_by}
use Rattle.ws_http.proofs.ReplyStageLemmas.{unchunked}
use Rattle.ws_http.proofs.ReplyTailLemmas.{alone, together, either, apart_unchunked}
use Rattle.ws_http.proofs.reply_tail.take_part.Goals as goal

pub returns-then-is_apart-clause-stands : goal.returns-then-is_apart-clause-stands
returns-then-is_apart-clause-stands c well came st =
    let n = c.args.need in
    let tail = c.args.tail.now.items in
    let body = c.args.body.now.items in
    let piece = c.args.piece.now in
    let p = c.take_apart.ensures in
    let s = c.take_apart.result in
    let after = c.take_apart.new.tail.items in
    let heads = c.deref.result.now in
    let apart = sym c.is_apart.ensures ∙ c.if-is_apart.true in
    let same = kept_plain n (c.args.raw.now.items ++ tail) body came c.args.from (apart_unchunked n c.args.from apart) c.requires.open st.kept in
    let here = stands_by n (heads ++ after) body ((heads ++ tail) ++ piece) s p.plain (p.took well) (p.judged well body) p.closes in
    subst (λ (t : List ℕ). Stands (record { need = n; bytes = c.args.raw.now.items ++ after; content = body; stage = s }) (t ++ piece) false) same
    (subst (λ (t : List ℕ). Stands (record { need = n; bytes = t ++ after; content = body; stage = s }) ((t ++ tail) ++ piece) false) c.deref.ensures.value here)

pub returns-then-is_apart-clause-ready : goal.returns-then-is_apart-clause-ready
returns-then-is_apart-clause-ready c =
    let body = c.args.body.now.items in
    subst (λ (t : List ℕ). Ready c.args.need (t ++ c.take_apart.new.tail.items) body c.take_apart.result) c.deref.ensures.value
    (c.take_apart.ensures.ready body)

pub returns-then-is_apart-clause-small : goal.returns-then-is_apart-clause-small
returns-then-is_apart-clause-small c =
    let body = c.args.body.now.items in
    subst (λ (t : List ℕ). Small (t ++ c.take_apart.new.tail.items) body c.take_apart.result) c.deref.ensures.value
    (c.take_apart.ensures.small body)

pub part-requires : goal.part-requires
part-requires c = record {
  ready = (c.take_piece-new.new.body.items, c.take_piece-new.ensures.ready);
  empty = together c.args.need c.args.raw.now.items c.args.tail.now.items c.args.from c.requires.open (sym c.is_apart.ensures ∙ c.if-is_apart.false) c.requires.split;
}

pub returns : goal.returns
returns c =
    let n = c.args.need in
    let raw = c.args.raw.now.items in
    let tail = c.args.tail.now.items in
    let piece = c.args.piece.now in
    let from = c.args.from in
    let new = c.take_piece-new.result in
    let p = c.take_piece-new.ensures in
    let bytes = c.take_piece-new.new.raw.items in
    let body = c.take_piece-new.new.body.items in
    let kept = c.part.new.raw.items ++ c.part.new.tail.items in
    let same = sym c.part.ensures.bytes in
    let none = together n raw tail from c.requires.open (sym c.is_apart.ensures ∙ c.if-is_apart.false) c.requires.split in
    let plain = unchunked from c.in_default.not-Chunked in
    record {
      stands = λ well came st.
          let all : raw ≡ came = sym (alone raw tail none) ∙ kept_plain n (raw ++ tail) c.args.body.now.items came from plain c.requires.open st.kept in
          either (λ (s : ReplyStage). is_starved s ≡ false → Stands (record { need = n; bytes = kept; content = body; stage = s }) (came ++ piece) false) (is_full n)
          c.part.result new (λ _ no. absurd (cc)) c.part.ensures.stage
          (λ live. subst (λ (t : List ℕ). Stands (record { need = n; bytes = t; content = body; stage = new }) (came ++ piece) false) same
          (subst (λ (t : List ℕ). Stands (record { need = n; bytes = bytes; content = body; stage = new }) (t ++ piece) false) all (p.stands live)))
          well;
      ready = either (λ (s : ReplyStage). Ready n kept body s) (is_full n) c.part.result new (λ full. full) c.part.ensures.stage
          (subst (λ (t : List ℕ). Ready n t body new) same p.ready);
      small = either (λ (s : ReplyStage). Small kept body s) (is_full n) c.part.result new (λ _. tt) c.part.ensures.stage
          (subst (λ (t : List ℕ). Small t body new) same p.small);
      short = omega (arith, p.short, ap length c.part.ensures.bytes);
      split = c.part.ensures.apart;
      raw_capacity = omega (arith, p.raw_capacity, c.part.ensures.capacity);
      body_capacity = p.body_capacity;
    }
