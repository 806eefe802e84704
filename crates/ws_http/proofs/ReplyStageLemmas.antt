-- What a stage of reading a response stands for, whatever came behind the bytes that are kept.
use Rattle.std.proofs.Common.{◌≡◌, ℕ, ◌+◌, ◌-◌, ◌<◌, ◌≤◌, Bool, true, false, cond, List, [], length, take, drop, refl, sym, ap, ◌∙◌, subst, arith, length-drop, length-take, Option, Some, None}
use Rattle.std.specs.Prelude.{nat_lt, nat_le, ◌||◌, MatchBool}
use Rattle.std.proofs.lemmas.Bool.Decides.{nat_tests}
use Rattle.std.proofs.lemmas.List.{take-take, take_all}
use Rattle.httparse.specs.Grammar.{ResponseHead}
use Rattle.ws_model.specs.Legal.{body_limit}
use Rattle.ws_http.specs.declared.fed.BadWhy.TheVariants as why
use Rattle.ws_http.specs.declared.fed.Need.{Need}
use Rattle.ws_http.specs.declared.fed.Need.TheVariants as need
use Rattle.ws_http.specs.declared.extent.Extent.{Extent}
use Rattle.ws_http.specs.declared.extent.Extent.TheVariants as extent
use Rattle.ws_http.specs.declared.chunk.Line.{Line}
use Rattle.ws_http.specs.declared.chunk.Next.{Next}
use Rattle.ws_http.specs.declared.flow.Point.{Point}
use Rattle.ws_http.specs.declared.reply_head.FinalHead.{FinalHead}
use Rattle.ws_http.specs.declared.reply_stage.ReplyStage.{ReplyStage}
use Rattle.ws_http.specs.declared.reply_stage.ReplyStage.TheVariants as stage
use Rattle.ws_http.specs.Chunks.{After, LineNext, chunk_data}
use Rattle.ws_http.specs.ResponseFields.{kept_of, reply_of}
use Rattle.ws_http.specs.Responses.{Verdict, unfinished, headed, lasting, whole, bad, Front, partial, wrong, final, IsFront, FrontSays, FinalSays, BodySays, ChunksEnd, fixed_verdict, is_over, raw_limit, Behind, IsResponse}
use Rattle.ws_http.specs.ResponseStages.{room_of, is_status, is_chunked, front, quota_of, extent_by, HasInterims, HasFinal, HasBegun, Reaches, Judged, Ready, is_last}
use Rattle.ws_http.specs.FlowEnds.{StopsAt}
use Rattle.ws_http.specs.ResponseHeadsEnd.{IsHeadsEnd}
use Rattle.ws_http.specs.declared.reply_head.HeadsEnd.TheVariants as heads
use Rattle.ws_http.proofs.StageLemmas.{front_same, content_same, passed}

room_least : (n : Need) → 16384 ≤ room_of n
room_least need.Status = omega arith
room_least need.Short = omega arith
room_least need.Full = omega arith

pub room_big : (n : Need) → is_status n ≡ false → room_of n ≡ 8404992
room_big need.Status e = absurd (cc)
room_big need.Short e = refl
room_big need.Full e = refl

-- a body begins in the first 16,384 bytes
pub start_small : (raw : List ℕ) (f : FinalHead) (h : ResponseHead) → HasFinal (front raw) f h → (f.start ≤ 16384) × (f.start ≤ length raw)
start_small raw f h x = (omega (arith, x.inside, length-take 16384 raw), omega (arith, x.inside, length-take 16384 raw))

-- a verdict by the front of what is kept
by_front : (n : Need) (raw bytes : List ℕ) (k : Front) (at : ℕ) (v : Verdict) → take (room_of n) bytes ≡ raw → HasInterims (front raw) at
    → IsFront (drop at (front raw)) k → FrontSays n at bytes k v → IsResponse n bytes v
by_front n raw bytes k at v e h is says = record {
  interims = h.interims;
  rest = drop at (front raw);
  front = k;
  behind = subst (λ (t : List ℕ). Behind t h.interims (drop at (front raw))) (front_same (room_of n) raw bytes (room_least n) e) h.behind;
  is = is;
  says = subst (λ (m : ℕ). FrontSays n m bytes k v) h.place says;
}

by_final : (n : Need) (raw bytes : List ℕ) (f : FinalHead) (h : ResponseHead) (v : Verdict) → take (room_of n) bytes ≡ raw
    → HasFinal (front raw) f h → FinalSays n f.start h bytes v → IsResponse n bytes v
by_final n raw bytes f h v e x says =
    by_front n raw bytes (final h) f.at v e x.before (x.rest, x.reads, x.code) (subst (λ (m : ℕ). FinalSays n m h bytes v) x.place says)

body_by : (n : Need) (start : ℕ) (h : ResponseHead) (bytes : List ℕ) (v : Verdict) → is_status n ≡ false
    → BodySays n start h bytes (extent_by h) v → FinalSays n start h bytes v
body_by need.Status start h bytes v asks says = absurd (cc)
body_by need.Short start h bytes v asks says = says
body_by need.Full start h bytes v asks says = says

by_body : (n : Need) (raw bytes : List ℕ) (f : FinalHead) (h : ResponseHead) (x : Option Extent) (v : Verdict)
    → take (room_of n) bytes ≡ raw → HasFinal (front raw) f h → is_status n ≡ false → extent_by h ≡ x
    → BodySays n f.start h bytes x v → IsResponse n bytes v
by_body n raw bytes f h x v e fin asks ex says =
    by_final n raw bytes f h v e fin
    (body_by n f.start h bytes v asks (subst (λ (y : Option Extent). BodySays n f.start h bytes y v) (sym ex) says))

-- ---- the heads

pub wrong_judged : (n : Need) (raw body : List ℕ) (over : Bool) → IsHeadsEnd (front raw) heads.Wrong → Judged n raw over body (stage.Bad why.Head)
wrong_judged n raw body over w bytes e t = (bad why.Head, by_front n raw bytes wrong w.0 (bad why.Head) e w.1 w.2 refl, refl)

partial_is : (n : Need) (raw bytes : List ℕ) (over b : Bool) (at : ℕ) → take (room_of n) bytes ≡ raw → nat_lt (room_of n) (length bytes) ≡ over
    → (nat_lt 16384 (length raw) || over) ≡ b → IsHeadsEnd (front raw) (heads.Open at)
    → IsResponse n bytes (cond b (bad why.TooLong) unfinished)
partial_is n raw bytes over b at e t past w =
    by_front n raw bytes partial at (cond b (bad why.TooLong) unfinished) e w.0 (w.1, w.2)
    (sym (ap (λ (x : Bool). cond x (bad why.TooLong) unfinished) (passed (room_of n) raw bytes over (room_least n) e t ∙ past)))

pub long_judged : (n : Need) (raw body : List ℕ) (over : Bool) (at : ℕ) → (nat_lt 16384 (length raw) || over) ≡ true
    → IsHeadsEnd (front raw) (heads.Open at) → Judged n raw over body (stage.Bad why.TooLong)
long_judged n raw body over at past w bytes e t = (bad why.TooLong, partial_is n raw bytes over true at e t past w, refl)

pub partial_judged : (n : Need) (raw body : List ℕ) (over : Bool) (at : ℕ) → (nat_lt 16384 (length raw) || over) ≡ false
    → IsHeadsEnd (front raw) (heads.Open at) → Judged n raw over body (stage.Head at)
partial_judged n raw body over at past w bytes e t = (unfinished, partial_is n raw bytes over false at e t past w, refl)

pub status_judged : (n : Need) (raw body : List ℕ) (over : Bool) (f : FinalHead) (h : ResponseHead) → is_status n ≡ true
    → HasFinal (front raw) f h → Judged n raw over body (stage.Whole f f.start false)
status_judged need.Status raw body over f h is x bytes e t =
    (whole f.start (reply_of need.Status h []), by_final need.Status raw bytes f h _ e x refl, (h, x, refl))
status_judged need.Short raw body over f h is x bytes e t = absurd (cc)
status_judged need.Full raw body over f h is x bytes e t = absurd (cc)

pub unsound_judged : (n : Need) (raw body : List ℕ) (over : Bool) (f : FinalHead) (h : ResponseHead) → is_status n ≡ false
    → HasFinal (front raw) f h → extent_by h ≡ None → Judged n raw over body (stage.Bad why.Framing)
unsound_judged n raw body over f h asks x ex bytes e t = (bad why.Framing, by_body n raw bytes f h None (bad why.Framing) e x asks ex refl, refl)

-- ---- where no chunked body begins

pub plain_begun : (n : Need) (raw : List ℕ) (s : ReplyStage) → is_chunked s ≡ false → HasBegun n raw s
plain_begun n raw (stage.Head at) e = tt
plain_begun n raw (stage.Fixed f total) e = tt
plain_begun n raw (stage.Lasting f) e = tt
plain_begun n raw (stage.Chunked f p) e = absurd (cc)
plain_begun n raw (stage.Whole f total chunked) e = tt
plain_begun n raw (stage.Bad reason) e = tt
plain_begun n raw stage.NoMemory e = tt

pub plain_reaches : (x : List ℕ) (at : ℕ) (s : ReplyStage) → is_chunked s ≡ false → Reaches x at s
plain_reaches x at (stage.Head to) e = tt
plain_reaches x at (stage.Fixed f total) e = tt
plain_reaches x at (stage.Lasting f) e = tt
plain_reaches x at (stage.Chunked f p) e = absurd (cc)
plain_reaches x at (stage.Whole f total chunked) e = tt
plain_reaches x at (stage.Bad reason) e = tt
plain_reaches x at stage.NoMemory e = tt

pub either_plain : (b : Bool) (x y r : ReplyStage) → is_chunked x ≡ false → is_chunked y ≡ false → r ≡ cond b x y → is_chunked r ≡ false
either_plain true x y r p q e = ap is_chunked e ∙ p
either_plain false x y r p q e = ap is_chunked e ∙ q

pub unchunked : (s : ReplyStage) → ((f : FinalHead) (p : Point) → s ≡ stage.Chunked f p → ⊥) → is_chunked s ≡ false
unchunked (stage.Head at) not = refl
unchunked (stage.Fixed f total) not = refl
unchunked (stage.Lasting f) not = refl
unchunked (stage.Chunked f p) not = absurd (not f p refl)
unchunked (stage.Whole f total chunked) not = refl
unchunked (stage.Bad reason) not = refl
unchunked stage.NoMemory not = refl

pub filled : (room : ℕ) (raw all : List ℕ) → raw ≡ take room all → nat_lt room (length all) ≡ true → length raw ≡ room
filled room raw all e t =
    let past : room < length all = grind (arith, nat_tests, t) in
    omega (arith, ap length e, length-take room all, past)

pub fixed_ready : (n : Need) (raw body : List ℕ) (f : FinalHead) (total : ℕ) (b : Bool) (r : ReplyStage) → Ready n raw body (stage.Fixed f total)
    → nat_le total (length raw) ≡ b → r ≡ cond b (stage.Whole f total false) (stage.Fixed f total) → Ready n raw body r
fixed_ready n raw body f total true r k t e =
    subst (λ (s : ReplyStage). Ready n raw body s) (sym e)
    (k.0, k.2, omega (arith, k.4), λ _. grind (arith, nat_tests, t), λ no. absurd (cc))
fixed_ready n raw body f total false r k t e = subst (λ (s : ReplyStage). Ready n raw body s) (sym e) k

pub lasting_ready : (n : Need) (raw body : List ℕ) (f : FinalHead) (b : Bool) (r : ReplyStage) → Ready n raw body (stage.Lasting f)
    → r ≡ cond b (stage.Bad why.TooLong) (stage.Lasting f) → Ready n raw body r
lasting_ready n raw body f true r k e = subst (λ (s : ReplyStage). Ready n raw body s) (sym e) tt
lasting_ready n raw body f false r k e = subst (λ (s : ReplyStage). Ready n raw body s) (sym e) k

-- ---- a declared length

fixed_by : (n : Need) (start : ℕ) (h : ResponseHead) (m : ℕ) (bytes : List ℕ) (a b : Bool) → nat_lt body_limit m ≡ a
    → nat_le (start + m) (length bytes) ≡ b
    → fixed_verdict n start h m bytes ≡ cond a (bad why.TooLong) (cond b (whole (start + m) (reply_of n h (take m (drop start bytes)))) headed)
fixed_by n start h m bytes a b x y =
    λ i. cond (x i) (bad why.TooLong) (cond (y i) (whole (start + m) (reply_of n h (take m (drop start bytes)))) headed)

pub declared_long : (n : Need) (raw body : List ℕ) (over : Bool) (f : FinalHead) (h : ResponseHead) (m : ℕ) → is_status n ≡ false
    → HasFinal (front raw) f h → extent_by h ≡ Some (extent.Fixed m) → body_limit < m → Judged n raw over body (stage.Bad why.TooLong)
declared_long n raw body over f h m asks x ex long bytes e t =
    let a : nat_lt body_limit m ≡ true = grind (arith, nat_tests, long) in (
      bad why.TooLong,
      by_body n raw bytes f h (Some (extent.Fixed m)) (bad why.TooLong) e x asks ex
          (sym (fixed_by n f.start h m bytes true (nat_le (f.start + m) (length bytes)) a refl)),
      refl,
    )

module _ (n : Need) (raw body : List ℕ) (over : Bool) (f : FinalHead) (h : ResponseHead) (m total : ℕ) (asks : is_status n ≡ false)
    (x : HasFinal (front raw) f h) (ex : extent_by h ≡ Some (extent.Fixed m)) (sum : total ≡ f.start + m) (small : m ≤ body_limit) where
  fixed_whole : total ≤ length raw → Judged n raw over body (stage.Whole f total false)
  fixed_whole inside bytes e t =
      let kept = sym (ap length e) ∙ length-take (room_of n) bytes in
      let near = (start_small raw f h x).0 in
      let a : nat_lt body_limit m ≡ false = grind (arith, nat_tests, small) in
      let came : f.start + m ≤ length bytes = omega (arith, kept, inside, sum) in
      let b : nat_le (f.start + m) (length bytes) ≡ true = grind (arith, nat_tests, came) in
      let left : total - f.start ≡ m = omega (arith, sum) in
      let content = ap (λ (k : ℕ). take k (drop f.start raw)) left
      ∙ content_same (room_of n) f.start m raw bytes e (omega (arith, room_big n asks, near, small)) in (
        whole total (reply_of n h (take (total - f.start) (drop f.start raw))),
        by_body n raw bytes f h (Some (extent.Fixed m)) _ e x asks ex
            ((λ i. whole (sum i) (reply_of n h (content i))) ∙ sym (fixed_by n f.start h m bytes false true a b)),
        (h, x, refl),
      )

  fixed_open : length raw < total → Judged n raw over body (stage.Fixed f total)
  fixed_open short bytes e t =
      let kept = sym (ap length e) ∙ length-take (room_of n) bytes in
      let near = (start_small raw f h x).0 in
      let a : nat_lt body_limit m ≡ false = grind (arith, nat_tests, small) in
      let less : length bytes < f.start + m = omega (arith, kept, short, sum, room_big n asks, near, small) in
      let b : nat_le (f.start + m) (length bytes) ≡ false = grind (arith, nat_tests, less) in (
        headed,
        by_body n raw bytes f h (Some (extent.Fixed m)) headed e x asks ex
            (sym (fixed_by n f.start h m bytes false false a b)),
        refl,
      )

  fixed_at : (b : Bool) (r : ReplyStage) → nat_le total (length raw) ≡ b → r ≡ cond b (stage.Whole f total false) (stage.Fixed f total)
      → Judged n raw over body r
  fixed_at true r t is = subst (λ (s : ReplyStage). Judged n raw over body s) (sym is) (fixed_whole (grind (arith, nat_tests, t)))
  fixed_at false r t is = subst (λ (s : ReplyStage). Judged n raw over body s) (sym is) (fixed_open (grind (arith, nat_tests, t)))

  pub fixed_judged : (r : ReplyStage) → r ≡ cond (nat_le total (length raw)) (stage.Whole f total false) (stage.Fixed f total) → Judged n raw over body r
  fixed_judged r is = fixed_at (nat_le total (length raw)) r refl is

  closes_by : (b : Bool) (r : ReplyStage) → b ≡ true → r ≡ cond b (stage.Whole f total false) (stage.Fixed f total) → is_last r ≡ true
  closes_by true r t is = ap is_last is
  closes_by false r t is = absurd (cc)

  pub fixed_closes : (r : ReplyStage) → r ≡ cond (nat_le total (length raw)) (stage.Whole f total false) (stage.Fixed f total)
      → length raw ≡ room_of n → is_last r ≡ true
  fixed_closes r is full =
      let near = (start_small raw f h x).0 in
      let fits : total ≤ length raw = omega (arith, full, room_big n asks, near, small, sum) in
      closes_by (nat_le total (length raw)) r (grind (arith, nat_tests, fits)) is

-- ---- a body up to the end of the connection

module _ (n : Need) (raw body : List ℕ) (over : Bool) (f : FinalHead) (h : ResponseHead) (asks : is_status n ≡ false)
    (x : HasFinal (front raw) f h) (ex : extent_by h ≡ Some extent.Lasting) where
  lasting_long : body_limit < length raw - f.start → Judged n raw over body (stage.Bad why.TooLong)
  lasting_long long bytes e t =
      let kept = sym (ap length e) ∙ length-take (room_of n) bytes in
      let past : body_limit < length (drop f.start bytes) = omega (arith, length-drop f.start bytes, kept, long) in
      let b : nat_lt body_limit (length (drop f.start bytes)) ≡ true = grind (arith, nat_tests, past) in (
        bad why.TooLong,
        by_body n raw bytes f h (Some extent.Lasting) (bad why.TooLong) e x asks ex
            (sym (ap (λ (c : Bool). cond c (bad why.TooLong) (lasting (reply_of n h (drop f.start bytes)))) b)),
        refl,
      )

  lasting_open : length raw - f.start ≤ body_limit → Judged n raw over body (stage.Lasting f)
  lasting_open short bytes e t =
      let kept = sym (ap length e) ∙ length-take (room_of n) bytes in
      let near = (start_small raw f h x).0 in
      let fits : length bytes ≤ room_of n = omega (arith, kept, short, room_big n asks, near) in
      let same : bytes ≡ raw = sym (take_all (room_of n) bytes fits) ∙ e in
      let within : length (drop f.start bytes) ≤ body_limit = omega (arith, length-drop f.start bytes, ap length same, short) in
      let b : nat_lt body_limit (length (drop f.start bytes)) ≡ false = grind (arith, nat_tests, within) in (
        lasting (reply_of n h (drop f.start raw)),
        by_body n raw bytes f h (Some extent.Lasting) _ e x asks ex
            (ap (λ (t : List ℕ). lasting (reply_of n h (drop f.start t))) (sym same)
            ∙ sym (ap (λ (c : Bool). cond c (bad why.TooLong) (lasting (reply_of n h (drop f.start bytes)))) b)),
        (h, x, refl),
      )

  lasting_at : (b : Bool) (r : ReplyStage) → nat_lt body_limit (length raw - f.start) ≡ b → r ≡ cond b (stage.Bad why.TooLong) (stage.Lasting f)
      → Judged n raw over body r
  lasting_at true r t is = subst (λ (s : ReplyStage). Judged n raw over body s) (sym is) (lasting_long (grind (arith, nat_tests, t)))
  lasting_at false r t is = subst (λ (s : ReplyStage). Judged n raw over body s) (sym is) (lasting_open (grind (arith, nat_tests, t)))

  pub lasting_judged : (r : ReplyStage) → r ≡ cond (nat_lt body_limit (length raw - f.start)) (stage.Bad why.TooLong) (stage.Lasting f)
      → Judged n raw over body r
  lasting_judged r is = lasting_at (nat_lt body_limit (length raw - f.start)) r refl is

  lasting_closes_by : (b : Bool) (r : ReplyStage) → b ≡ true → r ≡ cond b (stage.Bad why.TooLong) (stage.Lasting f) → is_last r ≡ true
  lasting_closes_by true r t is = ap is_last is
  lasting_closes_by false r t is = absurd (cc)

  pub lasting_closes : (r : ReplyStage) → r ≡ cond (nat_lt body_limit (length raw - f.start)) (stage.Bad why.TooLong) (stage.Lasting f)
      → length raw ≡ room_of n → is_last r ≡ true
  lasting_closes r is full =
      let near = (start_small raw f h x).0 in
      let long : body_limit < length raw - f.start = omega (arith, full, room_big n asks, near) in
      lasting_closes_by (nat_lt body_limit (length raw - f.start)) r (grind (arith, nat_tests, long)) is

-- ---- a chunked body

pub reply_kept : (n : Need) (h : ResponseHead) (content : List ℕ) → reply_of n h (kept_of n content) ≡ reply_of n h content
reply_kept need.Status h content = refl
reply_kept need.Short h content = ap (λ (t : List ℕ). reply_of need.Full h t) (take-take 41 41 content (omega arith))
reply_kept need.Full h content = refl

-- a verdict on a chunked body, whose first bytes are the window
pub chunked_is : (n : Need) (bytes : List ℕ) (f : FinalHead) (h : ResponseHead) → is_status n ≡ false → HasFinal (front bytes) f h
    → extent_by h ≡ Some extent.Chunked → (kept w : List ℕ) → w ≡ take raw_limit (drop f.start bytes)
    → (v : Verdict) (place size : ℕ) (heavy : Bool) (l : Line) (s : StopsAt (quota_of n) w kept place size heavy l)
    → MatchBool heavy (v ≡ bad why.TooLong)
    ((k : Next) × LineNext (drop place w) l k × ChunksEnd n f.start h bytes s.read.read.chunks k v)
    → IsResponse n bytes v
chunked_is n bytes f h asks x ex kept w same v place size heavy l s says =
    let rest = drop place w in
    let chunks = s.read.read.chunks in
    let here = subst (λ (t : List ℕ). HasFinal t f h) (sym (front_same (room_of n) (take (room_of n) bytes) bytes (room_least n) refl)) x in
    let counted : length (chunk_data chunks) ≡ size = sym (s.read.counted ∙ ap length s.read.read.content) in
    let heavy_is : is_over body_limit (length (chunk_data chunks)) (length rest) l ≡ heavy =
    ap (λ (k : ℕ). is_over body_limit k (length rest) l) counted ∙ s.over_is in
    by_body n (take (room_of n) bytes) bytes f h (Some extent.Chunked) v refl here asks ex record {
      chunks = chunks;
      rest = rest;
      line = l;
      after = subst (λ (t : List ℕ). After t chunks rest) same s.read.read.after;
      small = omega (arith, s.read.small, ap length s.read.read.content);
      is = s.is;
      says = subst (λ (b : Bool). MatchBool b (v ≡ bad why.TooLong) ((k : Next) × LineNext rest l k × ChunksEnd n f.start h bytes chunks k v))
          (sym heavy_is) says;
    }
