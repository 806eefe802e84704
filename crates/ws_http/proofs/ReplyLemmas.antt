-- The heads and the chunked body of a response, piece by piece.
use Rattle.std.proofs.Common.{◌≡◌, ℕ, zero, suc, ◌+◌, ◌-◌, ◌<◌, ◌≤◌, true, List, [], ◌∷◌, ◌++◌, length, take, drop, refl, sym, ap, ◌∙◌, subst, arith, inl, inr, append_assoc, append-nil, length-append, length-drop, length-take, drop-drop}
use Rattle.std.specs.Prelude.{nat_le, ◌⊎◌, IsTrue, None}
use Rattle.std.specs.List.{flat_map, AllByRecursion}
use Rattle.std.proofs.lemmas.List.{flat_map_more, take-take, take_all}
use Rattle.std.proofs.lemmas.List.Elements.{All-from_recursion}
use Rattle.std.specs.Char.{is_ascii_digit}
use Rattle.httparse.specs.Grammar.{ResponseHead, ReadsResponse, IsResponseHead, print_response, status_code, LineEnd, crlf, lf, print_end, print_section, print_field, print_blank, print_version, print_reason}
use Rattle.ws_http.specs.declared.fed.Need.{Need}
use Rattle.ws_http.specs.declared.fed.Need.TheVariants as need
use Rattle.ws_http.specs.declared.reply_head.FinalHead.{FinalHead}
use Rattle.ws_http.specs.declared.chunk.Line.{Line}
use Rattle.ws_http.specs.declared.chunk.Next.{Next}
use Rattle.ws_http.specs.Chunks.{Follows, LineIs, LineNext}
use Rattle.ws_http.specs.ResponseFields.{kept_of}
use Rattle.ws_http.specs.Responses.{IsResponse, unfinished, partial, is_interim, IsInterim, print_heads}
use Rattle.ws_http.specs.ResponseHeads.{HasHeadOf}
use Rattle.ws_http.specs.ResponseStages.{HasInterims, HasFinal, HeadWithin, Unled}
use Rattle.ws_http.specs.FlowEnds.{more_of}

-- ---- the heads

length_end : (e : LineEnd) → 1 ≤ length (print_end e)
length_end crlf = omega arith
length_end lf = omega arith

-- a head has bytes
pub response_some : (h : ResponseHead) → 0 < length (print_response h)
unfolding print_response
response_some h =
    let before = print_blank h.blank ++ print_version h.minor ++ 32 ∷ h.digits ++ print_reason h.reason ++ print_end h.line_end in
    omega (arith, length_end h.last, length-append before (print_section h.fields h.last), length-append (flat_map print_field h.fields) (print_end h.last))

pub heads_more : (hs : List ResponseHead) (h : ResponseHead) → print_heads (hs ++ h ∷ []) ≡ print_heads hs ++ print_response h
heads_more hs h = sym (flat_map_more print_response [] hs h)

each_more : (hs : List ResponseHead) (h : ResponseHead) → AllByRecursion IsInterim hs → IsInterim h → AllByRecursion IsInterim (hs ++ h ∷ [])
each_more [] h all is = (is, tt)
each_more (x ∷ xs) h all is = (all.0, each_more xs h all.1 is)

-- no head was read over yet
pub interims_begin : (front : List ℕ) → HasInterims front 0
interims_begin front = record {
  interims = [];
  behind = record { each = tt; split = refl };
  place = refl;
  inside = omega arith;
}

-- one interim head more
pub interim_more : (front : List ℕ) (at len : ℕ) (h : ResponseHead) → HasInterims front at → HasHeadOf (drop at front) len h
    → is_interim (status_code h) ≡ true → HasInterims front (at + len)
interim_more front at len h k x code = record {
  interims = k.interims ++ h ∷ [];
  behind = record {
    each = each_more k.interims h k.behind.each (record { head = x.reads.0; code = code });
    split = k.behind.split
        ∙ ap (λ (t : List ℕ). print_heads k.interims ++ t) (x.reads.1 ∙ ap (λ (t : List ℕ). print_response h ++ t) (drop-drop len at front))
        ∙ sym (append_assoc (print_heads k.interims) (print_response h) (drop (at + len) front))
        ∙ ap (λ (t : List ℕ). t ++ drop (at + len) front) (sym (heads_more k.interims h));
  };
  place = omega (arith, k.place, x.len_is, ap length (heads_more k.interims h), length-append (print_heads k.interims) (print_response h));
  inside = omega (arith, x.inside, length-drop at front, k.inside);
}

pub interim_smaller : (front : List ℕ) (at len : ℕ) (h : ResponseHead) → HasInterims front at → HasHeadOf (drop at front) len h
    → length front - (at + len) < length front - at
interim_smaller front at len h k x = omega (arith, x.len_is, response_some h, x.inside, length-drop at front, k.inside)

-- the final head
pub final_found : (front : List ℕ) (f : FinalHead) (len : ℕ) (h : ResponseHead) → HasInterims front f.at → HasHeadOf (drop f.at front) len h
    → nat_le 200 (status_code h) ≡ true → f.start ≡ f.at + len → HasFinal front f h
final_found front f len h k x code sum = record {
  before = k;
  rest = drop len (drop f.at front);
  reads = x.reads;
  code = code;
  place = omega (arith, sum, x.len_is);
  inside = omega (arith, sum, x.inside, length-drop f.at front, k.inside);
}

-- a head of a response
-- a head ends behind the one that stands where the reading began
pub within_more : (front : List ℕ) (from at len : ℕ) (h : ResponseHead) → (at ≡ from) ⊎ HeadWithin front from at → HasHeadOf (drop at front) len h
    → HeadWithin front from (at + len)
within_more front from at len h (inl e) k = record {
  head = h;
  rest = drop len (drop at front);
  reads = subst (λ (j : ℕ). ReadsResponse (drop j front) h (drop len (drop at front))) e k.reads;
  before = omega (arith, e, k.len_is);
}
within_more front from at len h (inr w) k = record { head = w.head; rest = w.rest; reads = w.reads; before = omega (arith, w.before) }

sample : ResponseHead
sample = record { blank = []; minor = 1; digits = 50 ∷ 48 ∷ 48 ∷ []; reason = None; line_end = crlf; fields = []; last = crlf }

is_sample : IsResponseHead sample
unfolding sample
is_sample = record {
  minor = omega arith;
  digits = (refl, All-from_recursion (λ b. IsTrue (is_ascii_digit b)) (50 ∷ 48 ∷ 48 ∷ []) (refl, (refl, (refl, tt))));
  reason = λ k d below. absurd (omega arith);
  fields = λ k d below. absurd (omega arith);
}

-- the verdict where nothing came yet
pub nothing_came : (n : Need) → IsResponse n [] unfinished
nothing_came n = record {
  interims = [];
  rest = [];
  front = partial;
  behind = record { each = tt; split = take_all 16384 [] (omega arith) };
  is = (
    λ h rest r. omega (arith, ap length r.1, response_some h, length-append (print_response h) rest),
    (print_response sample, sample, (is_sample, sym (append-nil (print_response sample)))),
  );
  says = refl;
}

-- nor a head
pub unled_none : Unled [] 0
unled_none = record {
  none = λ h rest r. omega (arith, ap length r.1, response_some h, length-append (print_response h) rest);
  short = omega arith;
}

-- ---- the part of a body that is kept

pub take_split : (n : ℕ) (a b : List ℕ) → take n (a ++ b) ≡ take n a ++ take (n - length (take n a)) b
take_split zero a b = refl
take_split (suc n) [] b = let same : suc n ≡ suc n - 0 = omega arith in ap (λ (k : ℕ). take k b) same
take_split (suc n) (x ∷ a) b =
    let same : n - length (take n a) ≡ suc n - suc (length (take n a)) = omega arith in
    ap (λ (t : List ℕ). x ∷ t) (take_split n a b) ∙ ap (λ (k : ℕ). x ∷ (take n a ++ take k b)) same

pub kept_more : (n : Need) (body content more : List ℕ) → body ≡ kept_of n content
    → body ++ more_of n (length body) more ≡ kept_of n (content ++ more)
kept_more need.Status body content more e = append-nil body ∙ e
kept_more need.Short body content more e =
    ap (λ (t : List ℕ). t ++ take (41 - length t) more) e ∙ sym (take_split 41 content more)
kept_more need.Full body content more e = ap (λ (t : List ℕ). t ++ more) e

pub kept_twice : (n : Need) (content : List ℕ) → kept_of n (kept_of n content) ≡ kept_of n content
kept_twice need.Status content = refl
kept_twice need.Short content = take-take 41 41 content (omega arith)
kept_twice need.Full content = refl

pub kept_short : (n : Need) (content : List ℕ) → length (kept_of n content) ≤ length content
kept_short need.Status content = omega arith
kept_short need.Short content = omega (arith, length-take 41 content)
kept_short need.Full content = omega arith

-- ---- the chunks

pub follows_by : (rest : List ℕ) (x : Line) (n : Next) → LineIs rest x → LineNext rest x n → Follows rest n
unfolding Follows
follows_by rest x n is m = (x, is, m)
