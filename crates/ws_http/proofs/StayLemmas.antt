-- What is final on some bytes stays so behind more bytes.
use Rattle.std.proofs.Common.{◌≡◌, ℕ, ◌+◌, ◌<◌, ◌≤◌, Bool, true, false, cond, List, [], ◌∷◌, ◌++◌, length, take, drop, refl, sym, ap, ◌∙◌, subst, arith, append_assoc, length-append, length-drop, length-take}
use Rattle.std.specs.Prelude.{nat_lt, nat_le, ◌==◌, ◌&&◌, MatchBool}
use Rattle.std.proofs.lemmas.Bool.{false≢true}
use Rattle.std.proofs.lemmas.Bool.Decides.{nat_tests}
use Rattle.std.proofs.lemmas.List.{take-append-le, drop-append-le}
use Rattle.httparse.specs.Grammar.{RequestHead, print_request, ReadsRequest, print_section, ReadsSection, NeverHasSection, print_chunk_line, ReadsChunkLine}
use Rattle.ws_http.specs.declared.fed.BadWhy.{BadWhy}
use Rattle.ws_http.specs.declared.fed.BadWhy.TheVariants as why
use Rattle.ws_http.specs.declared.head.Framing.{Framing}
use Rattle.ws_http.specs.declared.head.Framing.TheVariants as framing
use Rattle.ws_http.specs.declared.head.Judged.{Judged}
use Rattle.ws_http.specs.declared.head.Judged.TheVariants as judged
use Rattle.ws_http.specs.declared.chunk.Line.{Line}
use Rattle.ws_http.specs.declared.chunk.Line.TheVariants as line
use Rattle.ws_http.specs.declared.chunk.Section.{Section}
use Rattle.ws_http.specs.declared.chunk.Section.TheVariants as section
use Rattle.ws_http.specs.declared.chunk.Next.{Next}
use Rattle.ws_http.specs.declared.chunk.Next.TheVariants as next
use Rattle.ws_http.specs.Heads.{Judges}
use Rattle.ws_http.specs.Chunks.{After, Follows, LineIs, SectionIs, LineNext, TrailerNext, trailer_next, end_next, print_chunks}
use Rattle.ws_http.specs.Requests.{Verdict, unfinished, headed, whole, bad, is_final, fixed_verdict, Ends, ChunkedVerdict, FramedVerdict, HeadVerdict, IsRequest}
use Rattle.ws_http.proofs.StageLemmas.{fixed_by}
use Rattle.ws_http.proofs.ReaderLemmas.{front_more, head_more}

reads_more : (x z : List ℕ) (h : RequestHead) (rest : List ℕ) → ReadsRequest x h rest → ReadsRequest (x ++ z) h (rest ++ z)
reads_more x z h rest r = (r.0, ap (λ (t : List ℕ). t ++ z) r.1 ∙ append_assoc (print_request h) rest z)

bad_more : (x z : List ℕ) (reason : BadWhy) → Judges x (judged.Bad reason) → Judges (x ++ z) (judged.Bad reason)
bad_more x z why.Head never = λ m h rest reads. never (z ++ m) h rest (subst (λ (t : List ℕ). ReadsRequest t h rest) (append_assoc x z m) reads)
bad_more x z why.Host j = (j.0, j.1 ++ z, reads_more x z j.0 j.1 j.2, j.3)
bad_more x z why.Framing j = (j.0, j.1 ++ z, reads_more x z j.0 j.1 j.2, j.3, j.4)
bad_more x z why.TooLong j = absurd j
bad_more x z why.Chunk j = absurd j
bad_more x z why.Cut j = absurd j

not_final : (v w : Verdict) → v ≡ w → is_final w ≡ false → is_final v ≡ true → ⊥
not_final v w e is_not is_so = false≢true (sym is_not ∙ ap is_final (sym e) ∙ is_so)

-- ---- what stands where a chunk should begin

-- an answer that is final there
abbrev pub IsLast : Next → Type 0
IsLast next.Open = ⊥
IsLast next.Wrong = Unit {0}
IsLast (next.Chunk l s) = ⊥
IsLast (next.Last used) = Unit {0}

pub not_open : (n : Next) → n ≡ next.Open → IsLast n → ⊥
not_open n e last = subst IsLast e last

end_one : (a : Bool) (n : Next) → n ≡ cond a next.Open next.Wrong → IsLast n → (a ≡ false) × (n ≡ next.Wrong)
end_one true n e last = absurd (not_open n e last)
end_one false n e last = (refl, e)

pub end_more : (x z : List ℕ) (len size : ℕ) (n : Next) → IsLast n → n ≡ end_next len size x → n ≡ end_next len size (x ++ z)
end_more [] z len size n last e = absurd (not_open n e last)
end_more (a ∷ []) [] len size n last e = e
end_more (a ∷ []) (b ∷ z) len size n last e =
    let w = end_one (a == 13) n e last in
    w.1 ∙ sym (ap (λ (t : Bool). cond (t && (b == 10)) (next.Chunk len size) next.Wrong) w.0)
end_more (a ∷ b ∷ x) z len size n last e = e

pub end_inside : (x : List ℕ) (len size : ℕ) (n : Next) → IsLast n → n ≡ end_next len size x → 0 < length x
end_inside [] len size n last e = absurd (not_open n e last)
end_inside (a ∷ x) len size n last e = omega arith

data_more : (after z : List ℕ) (len size : ℕ) (n : Next) → IsLast n → n ≡ end_next len size (drop size after)
    → n ≡ end_next len size (drop size (after ++ z))
data_more after z len size n last e =
    let some = end_inside (drop size after) len size n last e in
    let inside : size ≤ length after = omega (arith, length-drop size after) in
    end_more (drop size after) z len size n last e ∙ ap (λ (t : List ℕ). end_next len size t) (sym (drop-append-le size after z inside))

section_more : (x z : List ℕ) (k : ℕ) → SectionIs x (section.Whole k) → SectionIs (x ++ z) (section.Whole k)
section_more x z k s = (
  s.0,
  s.1,
  (
    s.2.0,
    ap (λ (t : List ℕ). t ++ z) s.2.1 ∙ append_assoc (print_section s.0 s.1) (drop k x) z
        ∙ ap (λ (t : List ℕ). print_section s.0 s.1 ++ t) (sym (drop-append-le k x z s.4)),
  ),
  s.3,
  omega (arith, s.4, length-append x z),
)

open_by : (b : Bool) (n : Next) → n ≡ cond b next.Wrong next.Open → IsLast n → b ≡ true
open_by true n e last = refl
open_by false n e last = absurd (not_open n e last)

trailer_by : (after z : List ℕ) (len : ℕ) (n : Next) (s : Section) → IsLast n → SectionIs (take 16384 after) s
    → n ≡ trailer_next len (length after) s → TrailerNext len (after ++ z) n
trailer_by after z len n section.Open last is e =
    let past : nat_lt 16384 (length after) ≡ true = open_by (nat_lt 16384 (length after)) n e last in
    let long : 16384 ≤ length after = grind (arith, nat_tests, past) in
    let more : nat_lt 16384 (length (after ++ z)) ≡ true = grind (arith, nat_tests, past, length-append after z) in (
      section.Open,
      subst (λ (t : List ℕ). SectionIs t section.Open) (sym (take-append-le 16384 after z long)) is,
      e ∙ ap (λ (b : Bool). cond b next.Wrong next.Open) (past ∙ sym more),
    )
trailer_by after z len n section.Never last is e =
    let y = front_more 16384 after z in
    let never : NeverHasSection (take 16384 after ++ y.0) =
    λ m f t rest reads. is (y.0 ++ m) f t rest (subst (λ (x : List ℕ). ReadsSection x f t rest) (append_assoc (take 16384 after) y.0 m) reads) in
    (section.Never, subst (λ (t : List ℕ). SectionIs t section.Never) (sym y.1) never, e)
trailer_by after z len n (section.Whole k) last is e =
    let y = front_more 16384 after z in
    (section.Whole k, subst (λ (t : List ℕ). SectionIs t (section.Whole k)) (sym y.1) (section_more (take 16384 after) y.0 k is), e)

pub line_more : (x z : List ℕ) (len size : ℕ) → LineIs x (line.Whole len size) → LineIs (x ++ z) (line.Whole len size)
line_more x z len size l = (
  l.0,
  (
    l.1.0,
    ap (λ (t : List ℕ). t ++ z) l.1.1 ∙ append_assoc (print_chunk_line l.0) (drop len x) z
        ∙ ap (λ (t : List ℕ). print_chunk_line l.0 ++ t) (sym (drop-append-le len x z l.4)),
  ),
  l.2,
  l.3,
  omega (arith, l.4, length-append x z),
)

pub next_by : (after z : List ℕ) (len size : ℕ) (n : Next) (b : Bool) → IsLast n
    → MatchBool b (TrailerNext len after n) (n ≡ end_next len size (drop size after))
    → MatchBool b (TrailerNext len (after ++ z) n) (n ≡ end_next len size (drop size (after ++ z)))
next_by after z len size n true last m = trailer_by after z len n m.0 last m.1 m.2
next_by after z len size n false last m = data_more after z len size n last m

line_by : (x z : List ℕ) (n : Next) (l : Line) → IsLast n → LineIs x l → LineNext x l n → (k : Line) × LineIs (x ++ z) k × LineNext (x ++ z) k n
line_by x z n line.Open last is e = absurd (not_open n e last)
line_by x z n line.Never last is e =
    (line.Never, λ m l rest reads. is (z ++ m) l rest (subst (λ (t : List ℕ). ReadsChunkLine t l rest) (append_assoc x z m) reads), e)
line_by x z n (line.Whole len size) last is e = (
  line.Whole len size,
  line_more x z len size is,
  subst (λ (t : List ℕ). MatchBool (size == 0) (TrailerNext len t n) (n ≡ end_next len size (drop size t)))
      (sym (drop-append-le len x z is.4)) (next_by (drop len x) z len size n (size == 0) last e),
)

follows_more : (x z : List ℕ) (n : Next) → IsLast n → Follows x n → Follows (x ++ z) n
unfolding Follows
follows_more x z n last f = line_by x z n f.0 last f.1 f.2

-- ---- the message

fixed_stays : (room head n : ℕ) (bytes more : List ℕ) (v : Verdict) (a b : Bool) → nat_lt room (head + n) ≡ a
    → nat_le (head + n) (length bytes) ≡ b → head ≤ length bytes → is_final v ≡ true → v ≡ fixed_verdict room head n bytes
    → v ≡ fixed_verdict room head n (bytes ++ more)
fixed_stays room head n bytes more v true b x y inside final e =
    e ∙ fixed_by room head n bytes true b x y ∙ sym (fixed_by room head n (bytes ++ more) true (nat_le (head + n) (length (bytes ++ more))) x refl)
fixed_stays room head n bytes more v false true x y inside final e =
    let came : head + n ≤ length bytes = grind (arith, nat_tests, y) in
    let still : nat_le (head + n) (length (bytes ++ more)) ≡ true = grind (arith, nat_tests, came, length-append bytes more) in
    let content : take n (drop head (bytes ++ more)) ≡ take n (drop head bytes) =
    ap (λ (t : List ℕ). take n t) (drop-append-le head bytes more inside)
    ∙ take-append-le n (drop head bytes) more (omega (arith, length-drop head bytes)) in
    e ∙ fixed_by room head n bytes false true x y ∙ ap (λ (t : List ℕ). whole (head + n) t) (sym content)
    ∙ sym (fixed_by room head n (bytes ++ more) false true x still)
fixed_stays room head n bytes more v false false x y inside final e =
    absurd (not_final v headed (e ∙ fixed_by room head n bytes false false x y) refl final)

module _ (room head : ℕ) (bytes more : List ℕ) (v : Verdict) (inside : head ≤ length (take room bytes)) (final : is_final v ≡ true) where
  -- the same place, with what came behind it
  moved : (q : ChunkedVerdict room head bytes v) (n : Next) → Follows q.rest n → IsLast n
      → Ends room head (bytes ++ more) q.chunks n v → ChunkedVerdict room head (bytes ++ more) v
  moved q n f last ends =
      let y = front_more room bytes more in
      record {
        chunks = q.chunks;
        rest = q.rest ++ y.0;
        next = n;
        after = record {
          each = q.after.each;
          split = ap (λ (t : List ℕ). drop head t) y.1 ∙ drop-append-le head (take room bytes) y.0 inside
              ∙ ap (λ (t : List ℕ). t ++ y.0) q.after.split ∙ append_assoc (print_chunks q.chunks) q.rest y.0;
        };
        follows = follows_more q.rest y.0 n last f;
        ends = ends;
      }

  over_by : (b : Bool) → v ≡ cond b (bad why.TooLong true) headed → b ≡ true
  over_by true e = refl
  over_by false e = absurd (not_final v headed e refl final)

  by_next : (q : ChunkedVerdict room head bytes v) (n : Next) → q.next ≡ n → ChunkedVerdict room head (bytes ++ more) v
  by_next q next.Open same =
      let ends = subst (λ (x : Next). Ends room head bytes q.chunks x v) same q.ends in
      let past : nat_lt room (length bytes) ≡ true = over_by (nat_lt room (length bytes)) ends in
      let long : room ≤ length bytes = grind (arith, nat_tests, past) in
      let still : nat_lt room (length (bytes ++ more)) ≡ true = grind (arith, nat_tests, past, length-append bytes more) in
      record {
        chunks = q.chunks;
        rest = q.rest;
        next = next.Open;
        after = subst (λ (t : List ℕ). After (drop head t) q.chunks q.rest) (sym (take-append-le room bytes more long)) q.after;
        follows = subst (λ (x : Next). Follows q.rest x) same q.follows;
        ends = ends ∙ ap (λ (b : Bool). cond b (bad why.TooLong true) headed) (past ∙ sym still);
      }
  by_next q next.Wrong same =
      moved q next.Wrong (subst (λ (x : Next). Follows q.rest x) same q.follows) tt
      (subst (λ (x : Next). Ends room head bytes q.chunks x v) same q.ends)
  by_next q (next.Chunk l s) same = absurd (subst (λ (x : Next). Ends room head bytes q.chunks x v) same q.ends)
  by_next q (next.Last used) same =
      moved q (next.Last used) (subst (λ (x : Next). Follows q.rest x) same q.follows) tt
      (subst (λ (x : Next). Ends room head bytes q.chunks x v) same q.ends)

framed_stays : (room head : ℕ) (bytes more : List ℕ) (v : Verdict) (f : Framing) → 16384 ≤ room → head ≤ length (take 16384 bytes)
    → is_final v ≡ true → FramedVerdict room head bytes f v → FramedVerdict room head (bytes ++ more) f v
framed_stays room head bytes more v (framing.Fixed n) least inside final e =
    fixed_stays room head n bytes more v _ _ refl refl (omega (arith, length-take 16384 bytes)) final e
framed_stays room head bytes more v framing.Chunked least inside final q =
    by_next room head bytes more v (omega (arith, length-take 16384 bytes, length-take room bytes)) final q q.next refl

unfinished_by : (v : Verdict) (b : Bool) → v ≡ cond b (bad why.TooLong false) unfinished → is_final v ≡ true → b ≡ true
unfinished_by v true e final = refl
unfinished_by v false e final = absurd (not_final v unfinished e refl final)

stays_at : (room : ℕ) (bytes more : List ℕ) (v : Verdict) (j : Judged) → 16384 ≤ room → is_final v ≡ true
    → Judges (take 16384 bytes) j → HeadVerdict room bytes j v → IsRequest room (bytes ++ more) v
stays_at room bytes more v judged.Open least final is e =
    let past : nat_lt 16384 (length bytes) ≡ true = unfinished_by v (nat_lt 16384 (length bytes)) e final in
    let long : 16384 ≤ length bytes = grind (arith, nat_tests, past) in
    let still : nat_lt 16384 (length (bytes ++ more)) ≡ true = grind (arith, nat_tests, past, length-append bytes more) in
    record {
      front = judged.Open;
      judges = subst (λ (t : List ℕ). Judges t judged.Open) (sym (take-append-le 16384 bytes more long)) is;
      says = e ∙ ap (λ (b : Bool). cond b (bad why.TooLong false) unfinished) (past ∙ sym still);
    }
stays_at room bytes more v (judged.Bad reason) least final is e =
    let y = front_more 16384 bytes more in
    record {
      front = judged.Bad reason;
      judges = subst (λ (t : List ℕ). Judges t (judged.Bad reason)) (sym y.1) (bad_more (take 16384 bytes) y.0 reason is);
      says = e;
    }
stays_at room bytes more v (judged.Head len f) least final is says = record {
  front = judged.Head len f;
  judges = head_more bytes more len f is;
  says = framed_stays room len bytes more v f least is.3 final says;
}

pub final_stays : (room : ℕ) (bytes more : List ℕ) (v : Verdict) → 16384 ≤ room → is_final v ≡ true → IsRequest room bytes v
    → IsRequest room (bytes ++ more) v
final_stays room bytes more v least final q = stays_at room bytes more v q.front least final q.judges q.says
