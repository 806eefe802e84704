-- A piece more, for a reader of responses.
use Rattle.std.proofs.Common.{◌≡◌, ℕ, ◌-◌, ◌≤◌, Bool, true, false, List, ◌++◌, length, take, drop, refl, sym, ap, ◌∙◌, subst, arith, append_assoc, length-append, length-take, length-drop}
use Rattle.std.specs.Prelude.{nat_lt}
use Rattle.std.proofs.lemmas.Bool.Decides.{nat_tests}
use Rattle.std.proofs.lemmas.List.{take_all, drop-append-le}
use Rattle.httparse.specs.Grammar.{ResponseHead, print_response}
use Rattle.ws_http.specs.declared.fed.Fed.{Fed}
use Rattle.ws_http.specs.declared.fed.Fed.TheVariants as fed
use Rattle.ws_http.specs.declared.fed.Need.{Need}
use Rattle.ws_http.specs.declared.fed.Need.TheVariants as need
use Rattle.ws_http.specs.declared.reply_head.FinalHead.{FinalHead}
use Rattle.ws_http.specs.declared.reply_stage.ReplyStage.{ReplyStage}
use Rattle.ws_http.specs.declared.reply_stage.ReplyStage.TheVariants as stage
use Rattle.ws_http.specs.ResponseFields.{reply_of}
use Rattle.ws_http.specs.Responses.{Verdict, whole, print_heads, closed, at_end}
use Rattle.ws_http.specs.ResponseStages.{Ready, Small, Says, Judged, Keeps, HasInterims, HasFinal, front, count_of, room_of, is_full, is_last, is_chunked, is_starved, stage_closed, said, Stands, FeedsReply}
use Rattle.ws_http.proofs.ReaderLemmas.{front_more}

interims_more : (x z : List ℕ) (at : ℕ) → HasInterims x at → HasInterims (x ++ z) at
interims_more x z at h = record {
  interims = h.interims;
  behind = record {
    each = h.behind.each;
    split = ap (λ (t : List ℕ). t ++ z) h.behind.split ∙ append_assoc (print_heads h.interims) (drop at x) z
        ∙ ap (λ (t : List ℕ). print_heads h.interims ++ t) (sym (drop-append-le at x z h.inside));
  };
  place = h.place;
  inside = omega (arith, h.inside, length-append x z);
}

final_more : (x z : List ℕ) (f : FinalHead) (h : ResponseHead) → HasFinal x f h → HasFinal (x ++ z) f h
final_more x z f h w = record {
  before = interims_more x z f.at w.before;
  rest = w.rest ++ z;
  reads = (
    w.reads.0,
    drop-append-le f.at x z w.before.inside ∙ ap (λ (t : List ℕ). t ++ z) w.reads.1 ∙ append_assoc (print_response h) w.rest z,
  );
  code = w.code;
  place = w.place;
  inside = omega (arith, w.inside, length-append x z);
}

pub front_final : (raw more : List ℕ) (f : FinalHead) (h : ResponseHead) → HasFinal (front raw) f h → HasFinal (front (raw ++ more)) f h
front_final raw more f h w =
    let y = front_more 16384 raw more in
    subst (λ (t : List ℕ). HasFinal t f h) (sym y.1) (final_more (front raw) y.0 f h w)

-- a body goes on that isn't chunked
abbrev pub is_plain : ReplyStage → Bool
is_plain (stage.Head at) = false
is_plain (stage.Fixed f total) = true
is_plain (stage.Lasting f) = true
is_plain (stage.Chunked f p) = false
is_plain (stage.Whole f total chunked) = false
is_plain (stage.Bad reason) = false
is_plain stage.NoMemory = false

-- what such a stage says of the bytes stays so behind more bytes
pub reply_more : (n : Need) (raw more body : List ℕ) (s : ReplyStage) → is_plain s ≡ true → Ready n raw body s → Ready n (raw ++ more) body s
reply_more n raw more body (stage.Head at) plain r = absurd (cc)
reply_more n raw more body (stage.Fixed f total) plain r = (r.0, r.1, front_final raw more f r.0 r.2, r.3, r.4, r.5, r.6)
reply_more n raw more body (stage.Lasting f) plain r = (r.0, front_final raw more f r.0 r.1, r.2, r.3)
reply_more n raw more body (stage.Chunked f p) plain r = absurd (cc)
reply_more n raw more body (stage.Whole f total chunked) plain r = absurd (cc)
reply_more n raw more body (stage.Bad reason) plain r = absurd (cc)
reply_more n raw more body stage.NoMemory plain r = absurd (cc)

pub front_interims : (raw more : List ℕ) (at : ℕ) → HasInterims (front raw) at → HasInterims (front (raw ++ more)) at
front_interims raw more at h =
    let y = front_more 16384 raw more in
    subst (λ (t : List ℕ). HasInterims t at) (sym y.1) (interims_more (front raw) y.0 at h)

-- ---- the connection's end

pub closed_ready : (n : Need) (raw body : List ℕ) (b : Bool) (s : ReplyStage) → Ready n raw body s → Ready n raw body (stage_closed b (length raw) s)
closed_ready n raw body false s r = r
closed_ready n raw body true (stage.Head at) r = tt
closed_ready n raw body true (stage.Fixed f total) r = tt
closed_ready n raw body true (stage.Lasting f) r =
    (r.0, r.1, omega (arith, r.1.inside, length-take 16384 raw), λ _. omega arith, λ w. absurd (cc))
closed_ready n raw body true (stage.Chunked f p) r = tt
closed_ready n raw body true (stage.Whole f total chunked) r = r
closed_ready n raw body true (stage.Bad reason) r = tt
closed_ready n raw body true stage.NoMemory r = r

rest_whole : (raw : List ℕ) (start : ℕ) → take (length raw - start) (drop start raw) ≡ drop start raw
rest_whole raw start = take_all (length raw - start) (drop start raw) (omega (arith, length-drop start raw))

pub closed_small : (raw body : List ℕ) (b : Bool) (s : ReplyStage) → Small raw body s → Small raw body (stage_closed b (length raw) s)
closed_small raw body false s r = r
closed_small raw body true (stage.Head at) r = tt
closed_small raw body true (stage.Fixed f total) r = tt
closed_small raw body true (stage.Lasting f) r = omega (arith, r, ap length (rest_whole raw f.start))
closed_small raw body true (stage.Chunked f p) r = tt
closed_small raw body true (stage.Whole f total chunked) r = r
closed_small raw body true (stage.Bad reason) r = tt
closed_small raw body true stage.NoMemory r = tt

pub closed_last : (came : ℕ) (b : Bool) (s : ReplyStage) → b ≡ true → is_last (stage_closed b came s) ≡ true
closed_last came false s e = absurd (cc)
closed_last came true (stage.Head at) e = refl
closed_last came true (stage.Fixed f total) e = refl
closed_last came true (stage.Lasting f) e = refl
closed_last came true (stage.Chunked f p) e = refl
closed_last came true (stage.Whole f total chunked) e = refl
closed_last came true (stage.Bad reason) e = refl
closed_last came true stage.NoMemory e = refl

pub closed_starved : (came : ℕ) (b : Bool) (s : ReplyStage) → is_starved (stage_closed b came s) ≡ is_starved s
closed_starved came false s = refl
closed_starved came true (stage.Head at) = refl
closed_starved came true (stage.Fixed f total) = refl
closed_starved came true (stage.Lasting f) = refl
closed_starved came true (stage.Chunked f p) = refl
closed_starved came true (stage.Whole f total chunked) = refl
closed_starved came true (stage.Bad reason) = refl
closed_starved came true stage.NoMemory = refl

pub closed_open : (came : ℕ) (b : Bool) (s : ReplyStage) → is_last (stage_closed b came s) ≡ false → (b ≡ false) × (is_last s ≡ false)
closed_open came false s e = (refl, e)
closed_open came true s e = absurd (let done = closed_last came true s refl in cc)

-- the stage at the end stands for the verdict at the end
pub closed_says : (n : Need) (raw body all : List ℕ) (came : ℕ) (b : Bool) (s : ReplyStage) (v : Verdict) → length all ≡ came
    → Keeps n raw body s all
    → Says n raw body s v → Says n raw body (stage_closed b (length raw) s) (closed b came v)
closed_says n raw body all came false s v long kept says = says
closed_says n raw body all came true (stage.Head at) v long kept says = ap (λ (w : Verdict). at_end came w) says
closed_says n raw body all came true (stage.Fixed f total) v long kept says = ap (λ (w : Verdict). at_end came w) says
closed_says n raw body all came true (stage.Lasting f) v long kept says = (
  says.0,
  says.1,
  ap (λ (w : Verdict). at_end came w) says.2
      ∙ (λ i. whole (sym (ap length kept ∙ long) i) (reply_of n says.0 (sym (rest_whole raw f.start) i))),
)
closed_says n raw body all came true (stage.Chunked f p) v long kept says = ap (λ (w : Verdict). at_end came w) says
closed_says n raw body all came true (stage.Whole f total chunked) v long kept says =
    (says.0, says.1, ap (λ (w : Verdict). at_end came w) says.2)
closed_says n raw body all came true (stage.Bad reason) v long kept says = ap (λ (w : Verdict). at_end came w) says
closed_says n raw body all came true stage.NoMemory v long kept says = says

-- what is said without memory
pub said_starved : (before : ℕ) (old s : ReplyStage) → is_starved s ≡ true → said before old s ≡ fed.NoMemory
said_starved before (stage.Head at) stage.NoMemory e = refl
said_starved before (stage.Fixed f total) stage.NoMemory e = refl
said_starved before (stage.Lasting f) stage.NoMemory e = refl
said_starved before (stage.Chunked f p) stage.NoMemory e = refl
said_starved before (stage.Whole f total chunked) stage.NoMemory e = refl
said_starved before (stage.Bad reason) stage.NoMemory e = refl
said_starved before stage.NoMemory stage.NoMemory e = refl
said_starved before old (stage.Head at) e = absurd (cc)
said_starved before old (stage.Fixed f total) e = absurd (cc)
said_starved before old (stage.Lasting f) e = absurd (cc)
said_starved before old (stage.Chunked f p) e = absurd (cc)
said_starved before old (stage.Whole f total chunked) e = absurd (cc)
said_starved before old (stage.Bad reason) e = absurd (cc)

pub full_is : (n : Need) → is_full n ≡ true → n ≡ need.Full
full_is need.Status e = absurd (cc)
full_is need.Short e = absurd (cc)
full_is need.Full e = refl

starved_full : (n : Need) (raw body : List ℕ) (s : ReplyStage) → is_starved s ≡ true → Ready n raw body s → is_full n ≡ true
starved_full n raw body (stage.Head at) e r = absurd (cc)
starved_full n raw body (stage.Fixed f total) e r = absurd (cc)
starved_full n raw body (stage.Lasting f) e r = absurd (cc)
starved_full n raw body (stage.Chunked f p) e r = absurd (cc)
starved_full n raw body (stage.Whole f total chunked) e r = absurd (cc)
starved_full n raw body (stage.Bad reason) e r = absurd (cc)
starved_full n raw body stage.NoMemory e r = r

pub needs_full : (n : Need) (raw body : List ℕ) (s : ReplyStage) → is_starved s ≡ true → Ready n raw body s → n ≡ need.Full
needs_full n raw body s e r = full_is n (starved_full n raw body s e r)

kept_by : (room : ℕ) (all : List ℕ) (b : Bool) → nat_lt room (length all) ≡ b → b ≡ false → take room all ≡ all
kept_by room all true t e = absurd (cc)
kept_by room all false t e = let fits : length all ≤ room = grind (arith, nat_tests, t) in take_all room all fits

closes_not : (over : Bool) (s : ReplyStage) → (over ≡ true → is_last s ≡ true) → is_last s ≡ false → over ≡ false
closes_not true s closes live = absurd (let done = closes refl in cc)
closes_not false s closes live = refl

-- where nothing is final yet, all bytes are kept
pub kept_all : (room : ℕ) (all : List ℕ) (s : ReplyStage) → (nat_lt room (length all) ≡ true → is_last s ≡ true) → is_last s ≡ false → take room all ≡ all
kept_all room all s closes live =
    kept_by room all (nat_lt room (length all)) refl (closes_not (nat_lt room (length all)) s closes live)

-- what is kept at the end
closed_keeps : (n : Need) (raw body all : List ℕ) (came : ℕ) (b : Bool) (s : ReplyStage) → Keeps n raw body s all
    → Keeps n raw body (stage_closed b came s) all
closed_keeps n raw body all came false s k = k
closed_keeps n raw body all came true (stage.Head at) k = tt
closed_keeps n raw body all came true (stage.Fixed f total) k = tt
closed_keeps n raw body all came true (stage.Lasting f) k = tt
closed_keeps n raw body all came true (stage.Chunked f p) k = tt
closed_keeps n raw body all came true (stage.Whole f total chunked) k = tt
closed_keeps n raw body all came true (stage.Bad reason) k = tt
closed_keeps n raw body all came true stage.NoMemory k = tt

-- where no chunked body goes on, all bytes are kept until nothing is open
keeps_by : (n : Need) (raw body all : List ℕ) (s : ReplyStage) → is_chunked s ≡ false → (is_last s ≡ false → raw ≡ all) → Keeps n raw body s all
keeps_by n raw body all (stage.Head at) plain kept = kept refl
keeps_by n raw body all (stage.Fixed f total) plain kept = kept refl
keeps_by n raw body all (stage.Lasting f) plain kept = kept refl
keeps_by n raw body all (stage.Chunked f p) plain kept = absurd (cc)
keeps_by n raw body all (stage.Whole f total chunked) plain kept = tt
keeps_by n raw body all (stage.Bad reason) plain kept = tt
keeps_by n raw body all stage.NoMemory plain kept = tt

-- and all that came is what is kept
pub kept_plain : (n : Need) (raw body all : List ℕ) (s : ReplyStage) → is_chunked s ≡ false → is_last s ≡ false → Keeps n raw body s all → raw ≡ all
kept_plain n raw body all (stage.Head at) plain live k = k
kept_plain n raw body all (stage.Fixed f total) plain live k = k
kept_plain n raw body all (stage.Lasting f) plain live k = k
kept_plain n raw body all (stage.Chunked f p) plain live k = absurd (cc)
kept_plain n raw body all (stage.Whole f total chunked) plain live k = absurd (cc)
kept_plain n raw body all (stage.Bad reason) plain live k = absurd (cc)
kept_plain n raw body all stage.NoMemory plain live k = absurd (cc)

-- how many bytes came
counted : (n : Need) (raw body all : List ℕ) (s : ReplyStage) → is_last s ≡ false → Keeps n raw body s all → count_of raw s ≡ length all
counted n raw body all (stage.Head at) live k = ap length k
counted n raw body all (stage.Fixed f total) live k = ap length k
counted n raw body all (stage.Lasting f) live k = ap length k
counted n raw body all (stage.Chunked f p) live k =
    omega (arith, k.flows.count, length-drop f.start all, k.final.inside, length-take 16384 all)
counted n raw body all (stage.Whole f total chunked) live k = absurd (cc)
counted n raw body all (stage.Bad reason) live k = absurd (cc)
counted n raw body all stage.NoMemory live k = absurd (cc)

-- what a piece does where no chunked body goes on
pub stands_by : (n : Need) (raw body all : List ℕ) (s : ReplyStage) → is_chunked s ≡ false → raw ≡ take (room_of n) all
    → Judged n raw (nat_lt (room_of n) (length all)) body s
    → (nat_lt (room_of n) (length all) ≡ true → is_last s ≡ true)
    → Stands (record { need = n; bytes = raw; content = body; stage = s }) all false
stands_by n raw body all s plain took judged closes =
    let v = judged all (sym took) refl in
    record {
      verdict = v.0;
      is = v.1;
      says = v.2;
      kept = keeps_by n raw body all s plain (λ live. took ∙ kept_all (room_of n) all s closes live);
    }

-- with the connection's end behind it, or not
stands_closed : (n : Need) (raw body all : List ℕ) (s : ReplyStage) (b : Bool)
    → Stands (record { need = n; bytes = raw; content = body; stage = s }) all false
    → Stands (record { need = n; bytes = raw; content = body; stage = stage_closed b (length raw) s }) all b
stands_closed n raw body all s b st = record {
  verdict = st.verdict;
  is = st.is;
  says = closed_says n raw body all (length all) b s st.verdict refl st.kept st.says;
  kept = closed_keeps n raw body all (length raw) b s st.kept;
}

pub reply_feeds : (n : Need) (raw0 body0 raw body piece : List ℕ) (from s : ReplyStage) (b : Bool) (answer : Fed) → is_last from ≡ false
    → (is_starved s ≡ false → (came : List ℕ) → Stands (record { need = n; bytes = raw0; content = body0; stage = from }) came false
    → Stands (record { need = n; bytes = raw; content = body; stage = s }) (came ++ piece) false)
    → Ready n raw body s
    → answer ≡ said (count_of raw0 from) from (stage_closed b (length raw) s)
    → FeedsReply (record { need = n; bytes = raw0; content = body0; stage = from }) piece b
    (record { need = n; bytes = raw; content = body; stage = stage_closed b (length raw) s }) answer
reply_feeds n raw0 body0 raw body piece from s b answer live goes ready told =
    let now = stage_closed b (length raw) s in
    record {
      asked = refl;
      again = λ done. absurd (cc);
      stands = λ _ well came st.
          let is_well : is_starved s ≡ false = sym (closed_starved (length raw) b s) ∙ well in (
            stands_closed n raw body (came ++ piece) s b (goes is_well came st),
            told ∙ ap (λ (k : ℕ). said k from now) (counted n raw0 body0 came from live st.kept),
          );
      starved = λ e. (told ∙ said_starved (count_of raw0 from) from now e, needs_full n raw body now e (closed_ready n raw body b s ready));
      closes = λ e. closed_last (length raw) b s e;
    }

room_most : (n : Need) → room_of n ≤ 8404992
room_most need.Status = omega arith
room_most need.Short = omega arith
room_most need.Full = omega arith

-- how many bytes came is small
pub count_small : (n : Need) (raw body : List ℕ) (s : ReplyStage) → length raw ≤ room_of n → Ready n raw body s → count_of raw s ≤ 8404992
count_small n raw body (stage.Head at) short r = omega (arith, short, room_most n)
count_small n raw body (stage.Fixed f total) short r = omega (arith, short, room_most n)
count_small n raw body (stage.Lasting f) short r = omega (arith, short, room_most n)
count_small n raw body (stage.Chunked f p) short r = omega (arith, r.1.limit, r.1.final.inside, length-take 16384 r.0)
count_small n raw body (stage.Whole f total chunked) short r = omega (arith, short, room_most n)
count_small n raw body (stage.Bad reason) short r = omega (arith, short, room_most n)
count_small n raw body stage.NoMemory short r = omega (arith, short, room_most n)
