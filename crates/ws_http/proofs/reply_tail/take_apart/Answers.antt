use Rattle.std.proofs.Common.{◌≡◌, ◌-◌, ℕ, List, ◌++◌, length, take, sym, ap, ◌∙◌, subst, append_assoc}
use Rattle.std.specs.Prelude.{nat_lt}
use Rattle.std.proofs.lemmas.List.{take_min}
use Rattle.ws_http.specs.ResponseStages.{Ready, Small, Judged, room_of}
use Rattle.ws_http.proofs.ReaderLemmas.{take_over}
use Rattle.ws_http.proofs.ReplyReaderLemmas.{reply_more}
use Rattle.ws_http.proofs.ReplyTailLemmas.{apart_plain}
use Rattle.ws_http.proofs.reply_tail.take_apart.Goals as goal

pub read_apart-requires-clause-ready : goal.read_apart-requires-clause-ready
read_apart-requires-clause-ready c =
    let n = c.args.need in
    let raw = c.args.raw.now in
    let tail = c.args.tail.now.items in
    let taken = c.split_at.result.0.now in
    let body = c.requires.ready.0 in
    let now = ap (λ (t : List ℕ). raw ++ t) (c.deref-in-Ok.ensures.value ∙ c.in-Ok.ensures.ok) ∙ sym (append_assoc raw tail taken) in (
      body,
      subst (λ (t : List ℕ). Ready n t body c.args.from) (sym now)
          (reply_more n (raw ++ tail) taken body c.args.from (apart_plain n c.args.from c.requires.apart) c.requires.ready.1),
    )

pub returns-in-Ok-clause-took : goal.returns-in-Ok-clause-took
returns-in-Ok-clause-took c live =
    let raw = c.args.raw.now in
    let tail = c.args.tail.now.items in
    let all = raw ++ tail in
    let piece = c.args.piece.now in
    let before : c.count.result ≡ length all = c.count.ensures ∙ ap (λ (t : List ℕ). length (raw ++ t)) c.deref.ensures.value in
    let taken = c.split_at.ensures.front ∙ ap (λ (k : ℕ). take k piece) c.min.ensures ∙ take_min (c.room_of.result - c.count.result) piece
    ∙ ap (λ (k : ℕ). take (c.room_of.result - k) piece) before ∙ ap (λ (k : ℕ). take (k - length all) piece) c.room_of.ensures in
    ap (λ (t : List ℕ). raw ++ t) c.in-Ok.ensures.ok ∙ sym (append_assoc raw tail c.split_at.result.0.now)
    ∙ ap (λ (t : List ℕ). all ++ t) taken ∙ sym (take_over (room_of c.args.need) all piece c.requires.short)

pub returns-in-Ok-clause-judged : goal.returns-in-Ok-clause-judged
returns-in-Ok-clause-judged c live body =
    let raw = c.args.raw.now in
    let over = nat_lt (room_of c.args.need) (length ((raw ++ c.args.tail.now.items) ++ c.args.piece.now)) in
    subst (λ (t : List ℕ). Judged c.args.need (raw ++ t) over body c.read_apart.result) c.deref-in-Ok.ensures.value
    (c.read_apart.ensures.judged over body)

pub returns-in-Ok-clause-ready : goal.returns-in-Ok-clause-ready
returns-in-Ok-clause-ready c body =
    subst (λ (t : List ℕ). Ready c.args.need (c.args.raw.now ++ t) body c.read_apart.result) c.deref-in-Ok.ensures.value
    (c.read_apart.ensures.ready body)

pub returns-in-Ok-clause-small : goal.returns-in-Ok-clause-small
returns-in-Ok-clause-small c body =
    subst (λ (t : List ℕ). Small (c.args.raw.now ++ t) body c.read_apart.result) c.deref-in-Ok.ensures.value
    (c.read_apart.ensures.small body)
