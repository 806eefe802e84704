-- A body of a response that is kept apart from the heads.
use Rattle.std.proofs.Common.{◌≡◌, ℕ, ◌-◌, ◌≤◌, Bool, true, false, cond, List, [], ◌++◌, length, take, drop, refl, sym, ap, ◌∙◌, subst, arith, length-take, length-drop, take-append-drop, Some, None}
use Rattle.std.specs.Prelude.{MatchBool}
use Rattle.std.proofs.lemmas.List.{append-nil, take-append-le, drop-append-le}
use Rattle.std.proofs.lemmas.Option.{same_Some}
use Rattle.std.proofs.Math.Seq.{take-append_seam, drop-append_seam}
use Rattle.httparse.specs.Grammar.{ResponseHead, print_response, ReadsResponse}
use Rattle.ws_model.specs.declared.reply.Reply.{Reply}
use Rattle.ws_model.specs.declared.work.Outcome.TheVariants as outcome
use Rattle.ws_http.specs.declared.fed.Need.{Need}
use Rattle.ws_http.specs.declared.fed.Need.TheVariants as need
use Rattle.ws_http.specs.declared.reply_head.FinalHead.{FinalHead}
use Rattle.ws_http.specs.declared.reply_stage.ReplyStage.{ReplyStage}
use Rattle.ws_http.specs.declared.reply_stage.ReplyStage.TheVariants as stage
use Rattle.ws_http.specs.ResponseFields.{reply_of}
use Rattle.ws_http.specs.Responses.{Verdict, Makes, Got, closed}
use Rattle.ws_http.specs.ResponseStages.{Ready, Says, Split, IsSplit, HasFinal, front, is_apart, apart_from, is_full, is_status, is_last, is_chunked, is_starved, content_of, kept_content, stage_closed, ReplyReading, Stands}
use Rattle.ws_http.proofs.ReaderLemmas.{front_more}
use Rattle.ws_http.proofs.ReplyStageLemmas.{start_small}
use Rattle.ws_http.proofs.ReplyReaderLemmas.{is_plain}

-- nothing stands behind
pub alone : (raw tail : List ℕ) → tail ≡ [] → raw ++ tail ≡ raw
alone raw tail e = ap (λ (t : List ℕ). raw ++ t) e ∙ append-nil raw

-- ---- where a body begins

some_by : (b : Bool) (a start : ℕ) → cond b (Some a) None ≡ Some start → (b ≡ true) × (a ≡ start)
some_by true a start e = (refl, same_Some a start e)
some_by false a start e = absurd (cc)

none_by : (b : Bool) (a : ℕ) → cond b (Some a) None ≡ None → b ≡ false
none_by true a e = absurd (cc)
none_by false a e = refl

pub apart_full : (n : Need) (s : ReplyStage) (start : ℕ) → apart_from n s ≡ Some start → is_full n ≡ true
apart_full n (stage.Head at) start e = absurd (cc)
apart_full n (stage.Fixed f total) start e = (some_by (is_full n) f.start start e).0
apart_full n (stage.Lasting f) start e = (some_by (is_full n) f.start start e).0
apart_full n (stage.Chunked f p) start e = absurd (cc)
apart_full n (stage.Whole f total true) start e = absurd (cc)
apart_full n (stage.Whole f total false) start e = (some_by (is_full n) f.start start e).0
apart_full n (stage.Bad reason) start e = absurd (cc)
apart_full n stage.NoMemory start e = absurd (cc)

pub apart_inside : (n : Need) (raw body : List ℕ) (s : ReplyStage) (start : ℕ) → apart_from n s ≡ Some start → Ready n raw body s → start ≤ length raw
apart_inside n raw body (stage.Head at) start e r = absurd (cc)
apart_inside n raw body (stage.Fixed f total) start e r =
    let w = some_by (is_full n) f.start start e in omega (arith, w.1, (start_small raw f r.0 r.2).1)
apart_inside n raw body (stage.Lasting f) start e r =
    let w = some_by (is_full n) f.start start e in omega (arith, w.1, (start_small raw f r.0 r.1).1)
apart_inside n raw body (stage.Chunked f p) start e r = absurd (cc)
apart_inside n raw body (stage.Whole f total true) start e r = absurd (cc)
apart_inside n raw body (stage.Whole f total false) start e r =
    let w = some_by (is_full n) f.start start e in omega (arith, w.1, (start_small raw f r.0 r.1).1)
apart_inside n raw body (stage.Bad reason) start e r = absurd (cc)
apart_inside n raw body stage.NoMemory start e r = absurd (cc)

-- ---- how the bytes are kept

split_some : (n : Need) (a start : ℕ) (raw tail : List ℕ) → cond (is_full n) (Some a) None ≡ Some start → length raw ≡ start → Split n a raw tail
split_some n a start raw tail e l =
    let w = some_by (is_full n) a start e in
    subst (λ (b : Bool). MatchBool b (length raw ≡ a) (tail ≡ [])) (sym w.0) (l ∙ sym w.1)

split_none : (n : Need) (a : ℕ) (raw tail : List ℕ) → cond (is_full n) (Some a) None ≡ None → tail ≡ [] → Split n a raw tail
split_none n a raw tail e empty = subst (λ (b : Bool). MatchBool b (length raw ≡ a) (tail ≡ [])) (sym (none_by (is_full n) a e)) empty

-- the bytes were cut where the body begins
pub cut_split : (n : Need) (raw tail : List ℕ) (s : ReplyStage) (start : ℕ) → apart_from n s ≡ Some start → length raw ≡ start → IsSplit n raw tail s
cut_split n raw tail (stage.Head at) start e l = absurd (cc)
cut_split n raw tail (stage.Fixed f total) start e l = split_some n f.start start raw tail e l
cut_split n raw tail (stage.Lasting f) start e l = split_some n f.start start raw tail e l
cut_split n raw tail (stage.Chunked f p) start e l = absurd (cc)
cut_split n raw tail (stage.Whole f total true) start e l = absurd (cc)
cut_split n raw tail (stage.Whole f total false) start e l = split_some n f.start start raw tail e l
cut_split n raw tail (stage.Bad reason) start e l = tt
cut_split n raw tail stage.NoMemory start e l = tt

-- all bytes stand in one list
pub uncut_split : (n : Need) (raw tail : List ℕ) (s : ReplyStage) → apart_from n s ≡ None → tail ≡ [] → IsSplit n raw tail s
uncut_split n raw tail (stage.Head at) e empty = empty
uncut_split n raw tail (stage.Fixed f total) e empty = split_none n f.start raw tail e empty
uncut_split n raw tail (stage.Lasting f) e empty = split_none n f.start raw tail e empty
uncut_split n raw tail (stage.Chunked f p) e empty = empty
uncut_split n raw tail (stage.Whole f total true) e empty = empty
uncut_split n raw tail (stage.Whole f total false) e empty = split_none n f.start raw tail e empty
uncut_split n raw tail (stage.Bad reason) e empty = tt
uncut_split n raw tail stage.NoMemory e empty = tt

empty_by : (b : Bool) (a : ℕ) (raw tail : List ℕ) → b ≡ false → MatchBool b (length raw ≡ a) (tail ≡ []) → tail ≡ []
empty_by true a raw tail e s = absurd (cc)
empty_by false a raw tail e s = s

-- where the message goes on, and no body stands apart, nothing stands behind
pub together : (n : Need) (raw tail : List ℕ) (s : ReplyStage) → is_last s ≡ false → is_apart n s ≡ false → IsSplit n raw tail s → tail ≡ []
together n raw tail (stage.Head at) live e w = w
together n raw tail (stage.Fixed f total) live e w = empty_by (is_full n) f.start raw tail e w
together n raw tail (stage.Lasting f) live e w = empty_by (is_full n) f.start raw tail e w
together n raw tail (stage.Chunked f p) live e w = w
together n raw tail (stage.Whole f total chunked) live e w = absurd (cc)
together n raw tail (stage.Bad reason) live e w = absurd (cc)
together n raw tail stage.NoMemory live e w = absurd (cc)

place_by : (b : Bool) (a : ℕ) (raw tail : List ℕ) → b ≡ true → MatchBool b (length raw ≡ a) (tail ≡ []) → length raw ≡ a
place_by true a raw tail e s = s
place_by false a raw tail e s = absurd (cc)

split_full : (n : Need) (a : ℕ) (raw tail more : List ℕ) → is_full n ≡ true → Split n a raw tail → Split n a raw more
split_full n a raw tail more e w =
    subst (λ (b : Bool). MatchBool b (length raw ≡ a) (more ≡ [])) (sym e) (place_by (is_full n) a raw tail e w)

-- a body that stands apart may grow
pub split_more : (n : Need) (raw tail more : List ℕ) (s : ReplyStage) → is_apart n s ≡ true → IsSplit n raw tail s → IsSplit n raw more s
split_more n raw tail more (stage.Head at) e w = absurd (cc)
split_more n raw tail more (stage.Fixed f total) e w = split_full n f.start raw tail more e w
split_more n raw tail more (stage.Lasting f) e w = split_full n f.start raw tail more e w
split_more n raw tail more (stage.Chunked f p) e w = absurd (cc)
split_more n raw tail more (stage.Whole f total chunked) e w = absurd (cc)
split_more n raw tail more (stage.Bad reason) e w = absurd (cc)
split_more n raw tail more stage.NoMemory e w = absurd (cc)

pub apart_live : (n : Need) (s : ReplyStage) → is_apart n s ≡ true → (is_full n ≡ true) × (is_last s ≡ false)
apart_live n (stage.Head at) e = absurd (cc)
apart_live n (stage.Fixed f total) e = (e, refl)
apart_live n (stage.Lasting f) e = (e, refl)
apart_live n (stage.Chunked f p) e = absurd (cc)
apart_live n (stage.Whole f total chunked) e = absurd (cc)
apart_live n (stage.Bad reason) e = absurd (cc)
apart_live n stage.NoMemory e = absurd (cc)

pub apart_plain : (n : Need) (s : ReplyStage) → is_apart n s ≡ true → is_plain s ≡ true
apart_plain n (stage.Head at) e = absurd (cc)
apart_plain n (stage.Fixed f total) e = refl
apart_plain n (stage.Lasting f) e = refl
apart_plain n (stage.Chunked f p) e = absurd (cc)
apart_plain n (stage.Whole f total chunked) e = absurd (cc)
apart_plain n (stage.Bad reason) e = absurd (cc)
apart_plain n stage.NoMemory e = absurd (cc)

pub apart_unchunked : (n : Need) (s : ReplyStage) → is_apart n s ≡ true → is_chunked s ≡ false
apart_unchunked n (stage.Head at) e = refl
apart_unchunked n (stage.Fixed f total) e = refl
apart_unchunked n (stage.Lasting f) e = refl
apart_unchunked n (stage.Chunked f p) e = absurd (cc)
apart_unchunked n (stage.Whole f total chunked) e = refl
apart_unchunked n (stage.Bad reason) e = refl
apart_unchunked n stage.NoMemory e = refl

pub closed_split : (n : Need) (raw tail : List ℕ) (b : Bool) (came : ℕ) (s : ReplyStage) → IsSplit n raw tail s → IsSplit n raw tail (stage_closed b came s)
closed_split n raw tail false came s w = w
closed_split n raw tail true came (stage.Head at) w = tt
closed_split n raw tail true came (stage.Fixed f total) w = tt
closed_split n raw tail true came (stage.Lasting f) w = w
closed_split n raw tail true came (stage.Chunked f p) w = tt
closed_split n raw tail true came (stage.Whole f total chunked) w = w
closed_split n raw tail true came (stage.Bad reason) w = tt
closed_split n raw tail true came stage.NoMemory w = tt

-- what holds of the stage holds of the one that is given, or there was no memory
pub either : (P : ReplyStage → Type 0) (full : Bool) (s new : ReplyStage) → (full ≡ true → P stage.NoMemory)
    → MatchBool (is_starved s) (full ≡ true) (s ≡ new) → P new → P s
either P full (stage.Head at) new none w p = subst P (sym w) p
either P full (stage.Fixed f total) new none w p = subst P (sym w) p
either P full (stage.Lasting f) new none w p = subst P (sym w) p
either P full (stage.Chunked f q) new none w p = subst P (sym w) p
either P full (stage.Whole f total chunked) new none w p = subst P (sym w) p
either P full (stage.Bad reason) new none w p = subst P (sym w) p
either P full stage.NoMemory new none w p = none w

-- ---- what is given away

-- the final head stands in the first list alone
pub head_alone : (raw tail : List ℕ) (f : FinalHead) (h : ResponseHead) → HasFinal (front (raw ++ tail)) f h → f.start ≤ length raw
    → (rest : List ℕ) × ReadsResponse (drop f.at (front raw)) h rest
head_alone raw tail f h w inside =
    let y = front_more 16384 raw tail in
    let x = front raw in
    let z = y.0 in
    let p = print_response h in
    let near : f.start ≤ length x = omega (arith, inside, (start_small (raw ++ tail) f h w).0, length-take 16384 raw) in
    let at_in : f.at ≤ length x = omega (arith, near, w.place) in
    let m : length p ≤ length (drop f.at x) = omega (arith, near, w.place, length-drop f.at x) in
    let all : drop f.at x ++ z ≡ p ++ w.rest =
    sym (drop-append-le f.at x z at_in) ∙ ap (λ (t : List ℕ). drop f.at t) (sym y.1) ∙ w.reads.1 in
    let same : take (length p) (drop f.at x) ≡ p =
    sym (take-append-le (length p) (drop f.at x) z m) ∙ ap (λ (t : List ℕ). take (length p) t) all ∙ take-append_seam p w.rest in (
      drop (length p) (drop f.at x),
      (w.reads.0, sym (take-append-drop (length p) (drop f.at x)) ∙ ap (λ (t : List ℕ). t ++ drop (length p) (drop f.at x)) same),
    )

-- a whole body that isn't chunked is what stands behind
pub content_full : (n : Need) (raw tail body : List ℕ) (start total : ℕ) → is_full n ≡ true → Split n start raw tail
    → take (total - start) tail ≡ kept_content n (raw ++ tail) body start total false
content_full need.Status raw tail body start total e w = absurd (cc)
content_full need.Short raw tail body start total e w = absurd (cc)
content_full need.Full raw tail body start total e w =
    let same : drop start (raw ++ tail) ≡ tail = ap (λ (k : ℕ). drop k (raw ++ tail)) (sym w) ∙ drop-append_seam raw tail in
    ap (λ (t : List ℕ). take (total - start) t) (sym same)

-- of a short one all stands in the first list
pub short_alone : (n : Need) (start : ℕ) (raw tail : List ℕ) → is_full n ≡ false → Split n start raw tail → tail ≡ []
short_alone n start raw tail e w = empty_by (is_full n) start raw tail e w

pub content_short : (n : Need) (raw body : List ℕ) (start total : ℕ) → is_status n ≡ false → is_full n ≡ false
    → take 41 (take (total - start) (drop start raw)) ≡ kept_content n raw body start total false
content_short need.Status raw body start total e w = absurd (cc)
content_short need.Short raw body start total e w = refl
content_short need.Full raw body start total e w = absurd (cc)

pub content_chunked : (n : Need) (raw body : List ℕ) (start total : ℕ) → is_status n ≡ false → body ≡ kept_content n raw body start total true
content_chunked need.Status raw body start total e = absurd (cc)
content_chunked need.Short raw body start total e = refl
content_chunked need.Full raw body start total e = refl

split_inside : (b : Bool) (raw tail : List ℕ) (start : ℕ) → MatchBool b (length raw ≡ start) (tail ≡ []) → start ≤ length (raw ++ tail) → start ≤ length raw
split_inside true raw tail start w in_all = omega (arith, w)
split_inside false raw tail start w in_all = omega (arith, in_all, ap length (alone raw tail w))

-- the final head of a whole message stands in the first list
pub whole_inside : (n : Need) (raw tail body : List ℕ) (f : FinalHead) (total : ℕ) (chunked : Bool)
    → Ready n (raw ++ tail) body (stage.Whole f total chunked) → IsSplit n raw tail (stage.Whole f total chunked) → f.start ≤ length raw
whole_inside n raw tail body f total true r w =
    omega (arith, (start_small (raw ++ tail) f r.0 r.1).1, ap length (alone raw tail w))
whole_inside n raw tail body f total false r w = split_inside (is_full n) raw tail f.start w (start_small (raw ++ tail) f r.0 r.1).1

-- a reply that is the one of each head that can stand there is what an exchange got
pub got_reply : (r : ReplyReading) (came : List ℕ) (ended : Bool) (f : FinalHead) (total : ℕ) (chunked : Bool) (reply : Reply)
    → r.stage ≡ stage.Whole f total chunked
    → ((h : ResponseHead) → HasFinal (front r.bytes) f h → reply ≡ reply_of r.need h (content_of r.bytes r.content f.start total chunked))
    → Stands r came ended → Got r.need came ended (outcome.Reply reply)
got_reply r came ended f total chunked reply at made st =
    let v = closed ended (length came) st.verdict in
    let says = subst (λ (s : ReplyStage). Says r.need r.bytes r.content s v) at st.says in
    record {
      verdict = st.verdict;
      is = st.is;
      makes = subst (λ (w : Verdict). Makes w (outcome.Reply reply)) (sym says.2) (ap (λ (t : Reply). outcome.Reply t) (made says.0 says.1));
    }
