-- A piece more, for a reader of requests.
use Rattle.std.proofs.Common.{◌≡◌, ℕ, ◌+◌, ◌-◌, ◌≤◌, ◌<◌, Bool, true, false, not, List, [], ◌∷◌, ◌++◌, length, take, drop, refl, sym, ap, ◌∙◌, subst, arith, append_assoc, length-append, length-drop, length-take, take-append-drop, zero, suc, inl}
use Rattle.std.specs.Prelude.{nat_lt, ◌==◌, min}
use Rattle.std.proofs.lemmas.Bool.{false≢true}
use Rattle.std.proofs.lemmas.Bool.Decides.{nat_tests}
use Rattle.std.proofs.lemmas.List.{take-take, take_all, take_min, take-append-le, drop-append-le}
use Rattle.std.proofs.Math.Seq.{take-append_seam}
use Rattle.httparse.specs.Grammar.{RequestHead, print_request, ReadsRequest, HasNoRequest, MayBecomeRequest}
use Rattle.httparse.proofs.OpenLemmas.{request_may_from_line, line_blank}
use Rattle.ws_http.specs.declared.fed.Fed.{Fed}
use Rattle.ws_http.specs.declared.flow.Point.{Point}
use Rattle.ws_http.specs.declared.head.Framing.{Framing}
use Rattle.ws_http.specs.declared.head.Framing.TheVariants as framing
use Rattle.ws_http.specs.declared.head.Judged.TheVariants as judged
use Rattle.ws_http.specs.declared.stage.Stage.{Stage}
use Rattle.ws_http.specs.declared.stage.Stage.TheVariants as stage
use Rattle.ws_http.specs.Heads.{Judges, IsSound}
use Rattle.ws_http.specs.Chunks.{HasChunks, print_chunks}
use Rattle.ws_http.specs.Requests.{unfinished, is_final, is_headed, said, IsRequest}
use Rattle.ws_http.specs.RequestStages.{HasHead, Unheaded, Ready, HoldsFor, Closes, Keeps, SharesHead, Stands, is_chunked, is_last, count_of, fed_count, fresh, verdict, verdict_of, Reading, Feeds}

-- more bytes behind: the front of all begins with the front of the first
pub front_more : (n : ℕ) (a b : List ℕ) → (z : List ℕ) × (take n (a ++ b) ≡ take n a ++ z)
front_more n a b =
    let k = length (take n a) in
    let w = take n (a ++ b) in
    let few : k ≤ n = omega (arith, length-take n a) in
    let inside : k ≤ length a = omega (arith, length-take n a) in
    let same : take k w ≡ take n a = take-take k n (a ++ b) few ∙ take-append-le k a b inside ∙ ap (λ (m : ℕ). take m a) (length-take n a) ∙ take_min n a in
    (drop k w, sym (take-append-drop k w) ∙ ap (λ (t : List ℕ). t ++ drop k w) same)

pub head_more : (raw more : List ℕ) (head : ℕ) (f : Framing) → HasHead raw head f → HasHead (raw ++ more) head f
head_more raw more head f j =
    let x = take 16384 raw in
    let y = front_more 16384 raw more in
    let s = j.1 in
    let sound : IsSound (x ++ y.0) j.0 f = record {
      rest = s.rest ++ y.0;
      reads = (s.reads.0, ap (λ (t : List ℕ). t ++ y.0) s.reads.1 ∙ append_assoc (print_request j.0) s.rest y.0);
      host = s.host;
      framed = s.framed;
    } in
    let here : Judges (x ++ y.0) (judged.Head head f) = (j.0, sound, j.2, omega (arith, j.3, length-append x y.0)) in
    subst (λ (t : List ℕ). Judges t (judged.Head head f)) (sym y.1) here

pub chunks_more : (raw more body : List ℕ) (head at : ℕ) → HasChunks raw body head at → HasChunks (raw ++ more) body head at
chunks_more raw more body head at k =
    let below : head ≤ length raw = omega (arith, k.place, k.inside) in
    record {
      chunks = k.chunks;
      after = record {
        each = k.after.each;
        split = drop-append-le head raw more below ∙ ap (λ (t : List ℕ). t ++ more) k.after.split
            ∙ append_assoc (print_chunks k.chunks) (drop at raw) more
            ∙ ap (λ (t : List ℕ). print_chunks k.chunks ++ t) (sym (drop-append-le at raw more k.inside));
      };
      place = k.place;
      content = k.content;
      inside = omega (arith, k.inside, length-append raw more);
      small = k.small;
    }

-- what a stage says of a head and a declared length stays so behind more bytes
pub fixed_more : (room : ℕ) (raw more body : List ℕ) (head total : ℕ) → Ready room raw body (stage.Fixed head total)
    → Ready room (raw ++ more) body (stage.Fixed head total)
fixed_more room raw more body head total r = (r.0, r.1, head_more raw more head (framing.Fixed r.1) r.2, r.3, r.4)

pub final_last : (s : Stage) (raw body : List ℕ) → is_final (verdict_of s raw body) ≡ is_last s
final_last stage.Head raw body = refl
final_last (stage.Fixed head total) raw body = refl
final_last (stage.Chunked head at) raw body = refl
final_last (stage.Whole head total chunked) raw body = refl
final_last (stage.Bad reason sound) raw body = refl

pub take_over : (n : ℕ) (b p : List ℕ) → length b ≤ n → take n (b ++ p) ≡ b ++ take (n - length b) p
take_over n [] p le = let same : n ≡ n - 0 = omega arith in ap (λ (k : ℕ). take k p) same
take_over zero (x ∷ b) p le = absurd (omega arith)
take_over (suc n) (x ∷ b) p le =
    let same : n - length b ≡ suc n - suc (length b) = omega arith in
    ap (λ (t : List ℕ). x ∷ t) (take_over n b p (omega arith)) ∙ ap (λ (k : ℕ). x ∷ (b ++ take k p)) same

-- the heads and what of the piece stands behind them are all that came
pub heads_and_piece : (room start before : ℕ) (raw piece : List ℕ) → raw ≡ take room (take before raw ++ piece) → before ≤ start → start ≤ length raw
    → take start raw ++ drop (start - before) piece ≡ take before raw ++ piece
heads_and_piece room start before raw piece took first inside =
    let old = take before raw in
    let all = old ++ piece in
    let long : length old ≡ before = omega (arith, length-take before raw, first, inside) in
    let near : start ≤ room = omega (arith, inside, ap length took, length-take room all) in
    let heads : take start raw ≡ old ++ take (start - before) piece =
    ap (λ (t : List ℕ). take start t) took ∙ take-take start room all near ∙ take_over start old piece (omega (arith, long, first))
    ∙ ap (λ (j : ℕ). old ++ take (start - j) piece) long in
    ap (λ (t : List ℕ). t ++ drop (start - before) piece) heads ∙ append_assoc old (take (start - before) piece) (drop (start - before) piece)
    ∙ ap (λ (t : List ℕ). old ++ t) (take-append-drop (start - before) piece)

pub over_by : (room b p : ℕ) (t : Bool) → nat_lt (room - b) p ≡ t → b ≤ room → nat_lt room (b + p) ≡ t
over_by room b p true e le = grind (arith, nat_tests, e)
over_by room b p false e le = grind (arith, nat_tests, e)

left_by : (k p left mid : ℕ) (t : Bool) → (left == 0) ≡ t → mid ≡ min k p → left + mid ≡ p → not t ≡ nat_lt k p
left_by k p left mid true e m s =
    let none : nat_lt k p ≡ false = grind (arith, nat_tests, e) in sym none
left_by k p left mid false e m s =
    let some : nat_lt k p ≡ true = grind (arith, nat_tests, e) in sym some

-- something is left of a piece exactly where there is no room for all of it
pub left_over : (k p left mid : ℕ) → mid ≡ min k p → left + mid ≡ p → not (left == 0) ≡ nat_lt k p
left_over k p left mid m s = left_by k p left mid (left == 0) refl m s

-- ---- the head that is kept

-- it is the front of the bytes
head_front : (y : List ℕ) (head : ℕ) (f : Framing) (j : HasHead y head f) → take head y ≡ print_request j.0
head_front y head f j =
    let p = print_request j.0 in
    let near : head ≤ 16384 = omega (arith, j.3, length-take 16384 y) in
    sym (take-take head 16384 y near) ∙ (λ i. take (j.2 i) (j.1.reads.1 i)) ∙ take-append_seam p j.1.rest

-- it stands in all bytes that have the same front
pub same_head : (x y : List ℕ) (head : ℕ) (f : Framing) → take head x ≡ take head y → HasHead y head f → HasHead x head f
same_head x y head f same j =
    let p = print_request j.0 in
    let w = take 16384 x in
    let near : head ≤ 16384 = omega (arith, j.3, length-take 16384 y) in
    let begins : take head w ≡ p = take-take head 16384 x near ∙ same ∙ head_front y head f j in
    let split : w ≡ p ++ drop head w = sym (take-append-drop head w) ∙ ap (λ (t : List ℕ). t ++ drop head w) begins in
    let sound : IsSound w j.0 f = record { rest = drop head w; reads = (j.1.reads.0, split); host = j.1.host; framed = j.1.framed } in
    (j.0, sound, j.2, omega (arith, j.2, ap length begins, length-take head w))

pub shares_front : (x y : List ℕ) (head : ℕ) (f : Framing) → take head x ≡ take head y → HasHead y head f → SharesHead x y
shares_front x y head f same j =
    let p = print_request j.0 in
    let w = take 16384 x in
    let near : head ≤ 16384 = omega (arith, j.3, length-take 16384 y) in
    let begins : take head w ≡ p = take-take head 16384 x near ∙ same ∙ head_front y head f j in
    record {
      head = j.0;
      kept_rest = drop head w;
      rest = j.1.rest;
      kept = (j.1.reads.0, sym (take-append-drop head w) ∙ ap (λ (t : List ℕ). t ++ drop head w) begins);
      reads = j.1.reads;
    }

-- ---- a piece where no chunked body has begun

kept_whole : (over : Bool) (room : ℕ) (s : Stage) (all : List ℕ) → Closes over s → is_last s ≡ false
    → nat_lt room (length all) ≡ over → take room all ≡ all
kept_whole true room s all closes going_on t = let closed = closes refl in absurd (cc)
kept_whole false room s all closes going_on t =
    let fits : length all ≤ room = grind (arith, nat_tests, t) in take_all room all fits

keeps_plain : (room : ℕ) (raw came : List ℕ) (over : Bool) (s : Stage) → raw ≡ take room came → nat_lt room (length came) ≡ over
    → Closes over s → is_chunked s ≡ false → Keeps room raw [] s came
keeps_plain room raw came over stage.Head took past closes plain = took ∙ kept_whole over room stage.Head came closes refl past
keeps_plain room raw came over (stage.Fixed head total) took past closes plain =
    took ∙ kept_whole over room (stage.Fixed head total) came closes refl past
keeps_plain room raw came over (stage.Chunked head p) took past closes plain = absurd (cc)
keeps_plain room raw came over (stage.Whole head total chunked) took past closes plain = tt
keeps_plain room raw came over (stage.Bad reason sound) took past closes plain = tt

shares_by : (raw came : List ℕ) (head : ℕ) (f : Framing) → take 16384 raw ≡ take 16384 came → HasHead raw head f → SharesHead raw came
shares_by raw came head f same j = record {
  head = j.0;
  kept_rest = j.1.rest;
  rest = j.1.rest;
  kept = j.1.reads;
  reads = subst (λ (t : List ℕ). ReadsRequest t j.0 j.1.rest) same j.1.reads;
}

shares_plain : (room : ℕ) (raw came : List ℕ) (s : Stage) → take 16384 raw ≡ take 16384 came → is_chunked s ≡ false → Ready room raw [] s
    → is_headed (verdict_of s raw []) ≡ true → SharesHead raw came
shares_plain room raw came stage.Head same plain r sound = absurd (false≢true sound)
shares_plain room raw came (stage.Fixed head total) same plain r sound = shares_by raw came head (framing.Fixed r.1) same r.2
shares_plain room raw came (stage.Chunked head p) same plain r sound = absurd (cc)
shares_plain room raw came (stage.Whole head total chunked) same plain r sound = shares_by raw came head r.0 same r.1
shares_plain room raw came (stage.Bad reason true) same plain r sound = shares_by raw came r.0 r.1 same r.2
shares_plain room raw came (stage.Bad reason false) same plain r sound = absurd (false≢true sound)

pub stands_plain : (room : ℕ) (raw came : List ℕ) (over : Bool) (s : Stage) → 16384 ≤ room → raw ≡ take room came → nat_lt room (length came) ≡ over
    → is_chunked s ≡ false → HoldsFor room raw over [] s → Ready room raw [] s → Closes over s
    → Stands (record { room = room; bytes = raw; content = []; stage = s }) came
stands_plain room raw came over s least took past plain holds ready closes =
    let same : take 16384 raw ≡ take 16384 came = ap (λ (t : List ℕ). take 16384 t) took ∙ take-take 16384 room came least in
    record {
      judged = holds came (sym took) past;
      kept = keeps_plain room raw came over s took past closes plain;
      head = shares_plain room raw came s same plain ready;
    }

pub unchunked : (s : Stage) → ((head : ℕ) (p : Point) → s ≡ stage.Chunked head p → ⊥) → is_chunked s ≡ false
unchunked stage.Head not = refl
unchunked (stage.Fixed head total) not = refl
unchunked (stage.Chunked head p) not = absurd (not head p refl)
unchunked (stage.Whole head total chunked) not = refl
unchunked (stage.Bad reason sound) not = refl

-- what is kept is all that came, where no chunked body has begun
pub keeps_all : (room : ℕ) (raw body came : List ℕ) (s : Stage) → is_chunked s ≡ false → is_last s ≡ false → Keeps room raw body s came → raw ≡ came
keeps_all room raw body came stage.Head plain going k = k
keeps_all room raw body came (stage.Fixed head total) plain going k = k
keeps_all room raw body came (stage.Chunked head p) plain going k = absurd (cc)
keeps_all room raw body came (stage.Whole head total chunked) plain going k = absurd (cc)
keeps_all room raw body came (stage.Bad reason sound) plain going k = absurd (cc)

-- the body of a chunked message is empty where none has begun
pub no_content : (room : ℕ) (raw body : List ℕ) (s : Stage) → is_chunked s ≡ false → is_last s ≡ false → Ready room raw body s → body ≡ []
no_content room raw body stage.Head plain going r = r.0
no_content room raw body (stage.Fixed head total) plain going r = r.0
no_content room raw body (stage.Chunked head p) plain going r = absurd (cc)
no_content room raw body (stage.Whole head total chunked) plain going r = absurd (cc)
no_content room raw body (stage.Bad reason sound) plain going r = absurd (cc)

-- where no head was whole before, one that is now ends in the new bytes
reach_by : (b : Bool) (raw more : List ℕ) (head : ℕ) (f : Framing) → nat_lt head (length raw) ≡ b → Unheaded raw → HasHead (raw ++ more) head f
    → length raw ≤ head
reach_by false raw more head f t none j = grind (arith, nat_tests, t)
reach_by true raw more head f t none j =
    let less : head < length raw = grind (arith, nat_tests, t) in
    let w = take 16384 raw in
    let all : w ≡ raw = take_all 16384 raw none.short in
    let begins : take head w ≡ print_request j.0 =
    ap (λ (t : List ℕ). take head t) all ∙ sym (take-append-le head raw more (omega (arith, less))) ∙ head_front (raw ++ more) head f j in
    absurd (none.none j.0 (drop head w)
    (j.1.reads.0, sym (take-append-drop head w) ∙ ap (λ (t : List ℕ). t ++ drop head w) begins))

pub reach_first : (raw more : List ℕ) (head : ℕ) (f : Framing) → Unheaded raw → HasHead (raw ++ more) head f → length raw ≤ head
reach_first raw more head f none j = reach_by (nat_lt head (length raw)) raw more head f refl none j

-- ---- how many bytes came

pub count_by : (room : ℕ) (raw body came : List ℕ) (s : Stage) → is_last s ≡ false → Keeps room raw body s came → length came ≡ count_of raw s
count_by room raw body came stage.Head going k = sym (ap length k)
count_by room raw body came (stage.Fixed head total) going k = sym (ap length k)
count_by room raw body came (stage.Chunked head p) going k =
    omega (arith, k.flows.count, length-drop head came, k.is.3, length-take 16384 came)
count_by room raw body came (stage.Whole head total chunked) going k = absurd (cc)
count_by room raw body came (stage.Bad reason sound) going k = absurd (cc)

pub came_count : (r : Reading) (came : List ℕ) → is_final (verdict r) ≡ false → Stands r came → length came ≡ fed_count r
came_count r came going st = count_by r.room r.bytes r.content came r.stage (sym (final_last r.stage r.bytes r.content) ∙ going) st.kept

pub count_small : (room : ℕ) (raw body : List ℕ) (s : Stage) → length raw ≤ room → Ready room raw body s → count_of raw s ≤ room
count_small room raw body stage.Head short r = short
count_small room raw body (stage.Fixed head total) short r = short
count_small room raw body (stage.Chunked head p) short r = r.1.limit
count_small room raw body (stage.Whole head total chunked) short r = short
count_small room raw body (stage.Bad reason sound) short r = short

-- ---- what a piece does

pub feeds : (old : Reading) (piece raw body : List ℕ) (s : Stage) (answer : Fed) → is_last old.stage ≡ false
    → ((came : List ℕ) → Stands old came → Stands (record { room = old.room; bytes = raw; content = body; stage = s }) (came ++ piece))
    → ((r b n c : List ℕ) → answer ≡ said (count_of old.bytes old.stage) (verdict_of old.stage r b) (verdict_of s n c))
    → Feeds old piece (record { room = old.room; bytes = raw; content = body; stage = s }) answer
feeds old piece raw body s answer going_on stands told = record {
  again = λ final. let no = final_last old.stage old.bytes old.content in absurd (cc);
  stands = λ _ came st. (
    stands came st,
    told old.bytes old.content raw body
        ∙ ap (λ (k : ℕ). said k (verdict old) (verdict_of s raw body)) (sym (count_by old.room old.bytes old.content came old.stage going_on st.kept)),
  );
  room = refl;
}

-- ---- where no byte came

length_request : (h : RequestHead) → 0 < length (print_request h)
unfolding print_request
length_request h = simp length-append (omega arith)

none_in_nothing : HasNoRequest []
none_in_nothing h rest r =
    let e : 0 ≡ length (print_request h ++ rest) = ap length r.1 in
    let k : 0 < length (print_request h) = length_request h in
    absurd (omega (arith, length-append (print_request h) rest))

may_begin : MayBecomeRequest []
may_begin = request_may_from_line (inl (line_blank {s = []} (record { more = []; tree = []; reads = λ rest. refl })))

-- nothing is said
pub nothing_said : (room : ℕ) → IsRequest room [] unfinished
nothing_said room = record { front = judged.Open; judges = (none_in_nothing, may_begin); says = refl }

pub unheaded_none : Unheaded []
unheaded_none = record { none = none_in_nothing; short = omega arith }

pub fresh_stands : (room : ℕ) → Stands (fresh room) []
fresh_stands room = record { judged = nothing_said room; kept = refl; head = λ sound. absurd (false≢true sound) }
