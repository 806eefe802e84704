-- The head that is parsed once more is the one that was read.
use Rattle.std.proofs.Common.{◌≡◌, ℕ, List, [], take, drop, sym, ◌∙◌, subst, append-nil}
use Rattle.httparse.specs.declared.spans.HeaderSpan.{HeaderSpan}
use Rattle.httparse.specs.declared.spans.RequestSpans.{RequestSpans}
use Rattle.httparse.specs.Grammar.{RequestHead, ReadsRequest, NeverHasRequest}
use Rattle.httparse.specs.Spans.{IsRequestAt, IsRequestOf}
use Rattle.httparse.proofs.GrammarLemmas.{request_unique}

pub never_reads : (raw front : List ℕ) → front ≡ take 16384 raw → NeverHasRequest front → (h : RequestHead) (rest : List ℕ)
    → ReadsRequest (take 16384 raw) h rest → ⊥
never_reads raw front e never h rest reads =
    never [] h rest (subst (λ (t : List ℕ). ReadsRequest t h rest) (sym e ∙ sym (append-nil front)) reads)

pub same_head : (raw front : List ℕ) (headers : List HeaderSpan) (spans : RequestSpans) → front ≡ take 16384 raw
    → IsRequestOf front headers spans → (h : RequestHead) (rest : List ℕ) → ReadsRequest (take 16384 raw) h rest
    → IsRequestAt front headers spans h
same_head raw front headers spans e x h rest reads =
    let same = request_unique front x.0 h (drop spans.len front) rest x.1.reads (subst (λ (t : List ℕ). ReadsRequest t h rest) (sym e) reads) in
    subst (λ (k : RequestHead). IsRequestAt front headers spans k) same.0 x.1
