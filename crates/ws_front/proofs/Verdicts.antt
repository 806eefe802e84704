-- The verdicts on the bytes of a request as more of them come.
use Rattle.std.proofs.Common.{◌≡◌, ℕ, ◌+◌, ◌≤◌, Bool, true, false, List, [], ◌++◌, length, take, refl, sym, ap, ◌∙◌, subst, append_assoc, append-nil, arith, Some, None}
use Rattle.std.specs.Prelude.{nat_lt, nat_le, if◌then◌else◌}
use Rattle.std.proofs.lemmas.Bool.Decides.{nat_tests}
use Rattle.httparse.specs.Grammar.{RequestHead, print_request, ReadsRequest, NeverHasRequest}
use Rattle.httparse.proofs.GrammarLemmas.{request_unique}
use Rattle.ws_http.specs.declared.fed.BadWhy.TheVariants as why
use Rattle.ws_http.specs.declared.head.Framing.{Framing}
use Rattle.ws_http.specs.declared.head.Framing.TheVariants as framing
use Rattle.ws_http.specs.declared.head.Judged.{Judged}
use Rattle.ws_http.specs.declared.head.Judged.TheVariants as judged
use Rattle.ws_http.specs.declared.chunk.Next.TheVariants as next
use Rattle.ws_http.specs.declared.chunk.Next.{Next}
use Rattle.ws_http.specs.declared.fed.Fed.TheVariants as fed
use Rattle.ws_http.specs.Chunks.{Chunk}
use Rattle.ws_http.specs.Fields.{request_framing, has_host, fields_of}
use Rattle.ws_http.specs.Heads.{Judges, IsSound}
use Rattle.ws_http.specs.Requests.{Verdict, unfinished, headed, whole, bad, is_headed, is_final, said, Ends, FramedVerdict, HeadVerdict, IsRequest}
use Rattle.ws_http.proofs.ReaderLemmas.{front_more}

-- ---- heads

-- a head stays at the front, whatever comes behind
pub reads_more : (a b : List ℕ) (h : RequestHead) (rest : List ℕ) → ReadsRequest (take 16384 a) h rest
    → (behind : List ℕ) × ReadsRequest (take 16384 (a ++ b)) h behind
reads_more a b h rest r =
    let y = front_more 16384 a b in (
      rest ++ y.0,
      subst (λ (t : List ℕ). ReadsRequest t h (rest ++ y.0)) (sym y.1)
          (r.0, ap (λ (t : List ℕ). t ++ y.0) r.1 ∙ append_assoc (print_request h) rest y.0),
    )

false_true : {P : Type 0} (b : Bool) → b ≡ false → b ≡ true → P
false_true b f t = absurd (cc)

not_headed : (b : Bool) (v : Verdict) → v ≡ (if b then bad why.TooLong false else unfinished) → is_headed v ≡ false
not_headed true v e = ap is_headed e
not_headed false v e = ap is_headed e

-- the bytes have a sound head that declares this framing, and no whole message
record IsHeaded (bytes : List ℕ) : Type 0 where
  head : RequestHead
  framing : Framing
  sound : IsSound (take 16384 bytes) head framing
  says : FramedVerdict 16384 (length (print_request head)) bytes framing headed

headed_by : (bytes : List ℕ) (j : Judged) (v : Verdict) → Judges (take 16384 bytes) j → HeadVerdict 16384 bytes j v → v ≡ headed → IsHeaded bytes
headed_by bytes judged.Open v x says e = false_true (is_headed v) (not_headed (nat_lt 16384 (length bytes)) v says) (ap is_headed e)
headed_by bytes (judged.Bad reason) v x says e = false_true (is_headed v) (ap is_headed says) (ap is_headed e)
headed_by bytes (judged.Head len f) v x says e = record {
  head = x.0;
  framing = f;
  sound = x.1;
  says =
      subst (λ (n : ℕ). FramedVerdict 16384 n bytes f headed) x.2
      (subst (λ (u : Verdict). FramedVerdict 16384 len bytes f u) e says);
}

-- ---- messages

fixed_more : (p q r : Bool) (w : Verdict) (n m : ℕ) (x y : List ℕ)
    → headed ≡ (if p then bad why.TooLong false else if q then whole n x else headed)
    → w ≡ (if p then bad why.TooLong false else if r then whole m y else headed) → is_headed w ≡ true
fixed_more true q r w n m x y e d = false_true (is_headed headed) (ap is_headed e) refl
fixed_more false q true w n m x y e d = ap is_headed d
fixed_more false q false w n m x y e d = ap is_headed d

ends_headed : (b : Bool) (w : Verdict) → w ≡ (if b then bad why.TooLong true else headed) → is_headed w ≡ true
ends_headed true w e = ap is_headed e
ends_headed false w e = ap is_headed e

chunks_headed : (head : ℕ) (bytes : List ℕ) (chunks : List Chunk) (n : Next) (w : Verdict) → Ends 16384 head bytes chunks n w → is_headed w ≡ true
chunks_headed head bytes chunks next.Open w e = ends_headed (nat_lt 16384 (length bytes)) w e
chunks_headed head bytes chunks next.Wrong w e = ap is_headed e
chunks_headed head bytes chunks (next.Chunk line size) w e = absurd e
chunks_headed head bytes chunks (next.Last used) w e = ap is_headed e

framed_more : (len : ℕ) (a b : List ℕ) (f : Framing) (w : Verdict) → FramedVerdict 16384 len a f headed → FramedVerdict 16384 len b f w → is_headed w ≡ true
framed_more len a b (framing.Fixed n) w e d =
    fixed_more (nat_lt 16384 (len + n)) (nat_le (len + n) (length a)) (nat_le (len + n) (length b)) w _ _ _ _ e d
framed_more len a b framing.Chunked w e d = chunks_headed len b d.chunks d.next w d.ends

never_reads : (front : List ℕ) (h : RequestHead) (rest : List ℕ) → NeverHasRequest front → ReadsRequest front h rest → ⊥
never_reads front h rest never reads = never [] h rest (subst (λ (t : List ℕ). ReadsRequest t h rest) (sym (append-nil front)) reads)

sound_by : (a b : List ℕ) (j : Judged) (w : Verdict) → IsHeaded a → Judges (take 16384 (a ++ b)) j → HeadVerdict 16384 (a ++ b) j w → is_headed w ≡ true
sound_by a b judged.Open w s x says = let r = reads_more a b s.head s.sound.rest s.sound.reads in absurd (x.0 s.head r.0 r.1)
sound_by a b (judged.Bad why.Head) w s x says =
    let r = reads_more a b s.head s.sound.rest s.sound.reads in absurd (never_reads (take 16384 (a ++ b)) s.head r.0 x r.1)
sound_by a b (judged.Bad why.Host) w s x says =
    let r = reads_more a b s.head s.sound.rest s.sound.reads in
    let same = (request_unique (take 16384 (a ++ b)) x.0 s.head x.1 r.0 x.2 r.1).0 in
    false_true (has_host s.head.minor (fields_of s.head.fields))
    (sym (ap (λ (k : RequestHead). has_host k.minor (fields_of k.fields)) same) ∙ x.3) s.sound.host
sound_by a b (judged.Bad why.Framing) w s x says =
    let r = reads_more a b s.head s.sound.rest s.sound.reads in
    let same = (request_unique (take 16384 (a ++ b)) x.0 s.head x.1 r.0 x.2 r.1).0 in
    let none : Some s.framing ≡ None = sym s.sound.framed ∙ sym (ap (λ (k : RequestHead). request_framing (fields_of k.fields)) same) ∙ x.4 in
    absurd (cc)
sound_by a b (judged.Bad why.TooLong) w s x says = absurd x
sound_by a b (judged.Bad why.Chunk) w s x says = absurd x
sound_by a b (judged.Bad why.Cut) w s x says = absurd x
sound_by a b (judged.Head len f) w s x says =
    let r = reads_more a b s.head s.sound.rest s.sound.reads in
    let same = (request_unique (take 16384 (a ++ b)) x.0 s.head x.1.rest r.0 x.1.reads r.1).0 in
    let one : Some f ≡ Some s.framing =
    sym x.1.framed ∙ ap (λ (k : RequestHead). request_framing (fields_of k.fields)) same ∙ s.sound.framed in
    let f_is : f ≡ s.framing = cc in
    let len_is : len ≡ length (print_request s.head) = x.2 ∙ ap (λ (k : RequestHead). length (print_request k)) same in
    framed_more (length (print_request s.head)) a (a ++ b) s.framing w s.says
    (subst (λ (g : Framing). FramedVerdict 16384 (length (print_request s.head)) (a ++ b) g w) f_is
    (subst (λ (n : ℕ). FramedVerdict 16384 n (a ++ b) f w) len_is says))

-- a sound head stays, whatever comes behind
pub sound_stays : (a b : List ℕ) (w : Verdict) → IsRequest 16384 a headed → IsRequest 16384 (a ++ b) w → is_headed w ≡ true
sound_stays a b w p q = sound_by a b q.front w (headed_by a p.front headed p.judges p.says refl) q.judges q.says

-- ---- nothing said

-- where the reader says no more than that the message goes on, the verdict is as before
pub goes_on : (a b : List ℕ) (n : ℕ) (v w : Verdict) → is_final v ≡ false → IsRequest 16384 a v → IsRequest 16384 (a ++ b) w → fed.More ≡ said n v w → w ≡ v
goes_on a b n unfinished unfinished final p q e = refl
goes_on a b n unfinished headed final p q e = cc
goes_on a b n headed unfinished final p q e = false_true false refl (sound_stays a b unfinished p q)
goes_on a b n headed headed final p q e = refl
goes_on a b n (whole k body) w final p q e = cc
goes_on a b n (bad reason sound) w final p q e = cc
goes_on a b n v (whole k body) final p q e = cc
goes_on a b n v (bad reason sound) final p q e = cc

-- ---- how many bytes

short_of : (limit n : ℕ) (b : Bool) (v w o : Verdict) → nat_lt limit n ≡ b → is_final w ≡ true → v ≡ (if b then w else o) → is_final v ≡ false → n ≤ limit
short_of limit n true v w o t final e going = false_true (is_final v) going (ap is_final e ∙ final)
short_of limit n false v w o t final e going = grind (arith, nat_tests)

fixed_short : (limit m n : ℕ) (p q : Bool) (v u w o : Verdict) → nat_lt limit m ≡ p → nat_le m n ≡ q → is_final u ≡ true → is_final w ≡ true
    → v ≡ (if p then u else if q then w else o) → is_final v ≡ false → n ≤ limit
fixed_short limit m n true q v u w o s t fu fw e going = false_true (is_final v) going (ap is_final e ∙ fu)
fixed_short limit m n false true v u w o s t fu fw e going = false_true (is_final v) going (ap is_final e ∙ fw)
fixed_short limit m n false false v u w o s t fu fw e going = grind (arith, nat_tests)

chunks_short : (head : ℕ) (bytes : List ℕ) (chunks : List Chunk) (n : Next) (v : Verdict) → Ends 16384 head bytes chunks n v → is_final v ≡ false → length bytes ≤ 16384
chunks_short head bytes chunks next.Open v e going = short_of 16384 (length bytes) (nat_lt 16384 (length bytes)) v (bad why.TooLong true) headed refl refl e going
chunks_short head bytes chunks next.Wrong v e going = false_true (is_final v) going (ap is_final e)
chunks_short head bytes chunks (next.Chunk line size) v e going = absurd e
chunks_short head bytes chunks (next.Last used) v e going = false_true (is_final v) going (ap is_final e)

framed_short : (len : ℕ) (bytes : List ℕ) (f : Framing) (v : Verdict) → FramedVerdict 16384 len bytes f v → is_final v ≡ false → length bytes ≤ 16384
framed_short len bytes (framing.Fixed n) v e going =
    fixed_short 16384 (len + n) (length bytes) (nat_lt 16384 (len + n)) (nat_le (len + n) (length bytes)) v (bad why.TooLong false) _ headed refl refl refl refl e going
framed_short len bytes framing.Chunked v e going = chunks_short len bytes e.chunks e.next v e.ends going

short_by : (bytes : List ℕ) (j : Judged) (v : Verdict) → HeadVerdict 16384 bytes j v → is_final v ≡ false → length bytes ≤ 16384
short_by bytes judged.Open v e going = short_of 16384 (length bytes) (nat_lt 16384 (length bytes)) v (bad why.TooLong false) unfinished refl refl e going
short_by bytes (judged.Bad reason) v e going = false_true (is_final v) going (ap is_final e)
short_by bytes (judged.Head len f) v e going = framed_short len bytes f v e going

-- a message that goes on has no more bytes than there is room for
pub is_short : (bytes : List ℕ) (v : Verdict) → IsRequest 16384 bytes v → is_final v ≡ false → length bytes ≤ 16384
is_short bytes v r going = short_by bytes r.front v r.says going
