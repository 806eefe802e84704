-- Each outcome that an exchange got is fit.
use Rattle.std.proofs.Common.{◌≡◌, ℕ, ◌+◌, ◌≤◌, Bool, true, false, cond, List, [], length, take, drop, refl, sym, ap, ◌∙◌, subst, arith, Option, Some, None, length-append, length-take}
use Rattle.std.specs.Prelude.{nat_lt, nat_le, MatchBool}
use Rattle.std.proofs.lemmas.Bool.Decides.{nat_tests}
use Rattle.httparse.specs.Grammar.{ResponseHead, IsResponseHead, print_response, status_code}
use Rattle.ws_model.specs.Legal.{body_limit}
use Rattle.ws_model.specs.Fit.{is_fit, is_fit_reply}
use Rattle.ws_model.specs.declared.work.Outcome.{Outcome}
use Rattle.ws_http.specs.declared.fed.BadWhy.{BadWhy}
use Rattle.ws_http.specs.declared.fed.BadWhy.TheVariants as why
use Rattle.ws_http.specs.declared.fed.Need.{Need}
use Rattle.ws_http.specs.declared.fed.Need.TheVariants as need
use Rattle.ws_http.specs.declared.extent.Extent.{Extent}
use Rattle.ws_http.specs.declared.extent.Extent.TheVariants as extent
use Rattle.ws_http.specs.declared.chunk.Next.{Next}
use Rattle.ws_http.specs.declared.chunk.Next.TheVariants as next
use Rattle.ws_http.specs.Chunks.{Chunk, LineNext, chunk_data}
use Rattle.ws_http.specs.Fields.{fields_of}
use Rattle.ws_http.specs.ResponseFields.{response_extent, reply_of}
use Rattle.ws_http.specs.Responses.{Verdict, unfinished, headed, lasting, whole, bad, Front, partial, wrong, final, IsFront, FrontSays, FinalSays, BodySays, ChunksEnd, is_over, raw_limit, IsResponse, closed, fault_outcome, Makes, Got, print_heads}
use Rattle.ws_http.proofs.FitLemmas.{reply_fit}

-- the reply of a verdict is fit, where it has one
abbrev FitVerdict : Verdict → Type 0
FitVerdict unfinished = Unit {0}
FitVerdict headed = Unit {0}
FitVerdict (lasting reply) = is_fit_reply reply ≡ true
FitVerdict (whole n reply) = is_fit_reply reply ≡ true
FitVerdict (bad reason) = Unit {0}

module _ (n : Need) (start : ℕ) (h : ResponseHead) (is : IsResponseHead h) (code : nat_le 200 (status_code h) ≡ true)
    (fits : length (print_response h) ≤ 16384) (bytes : List ℕ) where
  fixed_by : (m : ℕ) (a b : Bool) → nat_lt body_limit m ≡ a
      → FitVerdict (cond a (bad why.TooLong) (cond b (whole (start + m) (reply_of n h (take m (drop start bytes)))) headed))
  fixed_by m true b e = tt
  fixed_by m false false e = tt
  fixed_by m false true e =
      let small : m ≤ body_limit = grind (arith, nat_tests, e) in
      reply_fit n h (take m (drop start bytes)) is code fits (omega (arith, length-take m (drop start bytes), small))

  lasting_by : (a : Bool) → nat_lt body_limit (length (drop start bytes)) ≡ a
      → FitVerdict (cond a (bad why.TooLong) (lasting (reply_of n h (drop start bytes))))
  lasting_by true e = tt
  lasting_by false e =
      let small : length (drop start bytes) ≤ body_limit = grind (arith, nat_tests, e) in
      reply_fit n h (drop start bytes) is code fits small

  open_by : (a : Bool) → FitVerdict (cond a (bad why.TooLong) headed)
  open_by true = tt
  open_by false = tt

  end_by : (chunks : List Chunk) (k : Next) (v : Verdict) → length (chunk_data chunks) ≤ body_limit → ChunksEnd n start h bytes chunks k v → FitVerdict v
  end_by chunks next.Open v small e = subst FitVerdict (sym e) (open_by (nat_lt raw_limit (length (drop start bytes))))
  end_by chunks next.Wrong v small e = subst FitVerdict (sym e) tt
  end_by chunks (next.Chunk line size) v small e = absurd e
  end_by chunks (next.Last used) v small e = subst FitVerdict (sym e) (reply_fit n h (chunk_data chunks) is code fits small)

  chunks_by : (chunks : List Chunk) (rest : List ℕ) (l : _) (v : Verdict) (heavy : Bool) → length (chunk_data chunks) ≤ body_limit
      → MatchBool heavy (v ≡ bad why.TooLong) ((k : Next) × LineNext rest l k × ChunksEnd n start h bytes chunks k v) → FitVerdict v
  chunks_by chunks rest l v true small e = subst FitVerdict (sym e) tt
  chunks_by chunks rest l v false small e = end_by chunks e.0 v small e.2

  body_by : (x : Option Extent) (v : Verdict) → BodySays n start h bytes x v → FitVerdict v
  body_by None v e = subst FitVerdict (sym e) tt
  body_by (Some (extent.Fixed m)) v e = subst FitVerdict (sym e) (fixed_by m (nat_lt body_limit m) (nat_le (start + m) (length bytes)) refl)
  body_by (Some extent.Chunked) v q =
      chunks_by q.chunks q.rest q.line v (is_over body_limit (length (chunk_data q.chunks)) (length q.rest) q.line) q.small q.says
  body_by (Some extent.Lasting) v e = subst FitVerdict (sym e) (lasting_by (nat_lt body_limit (length (drop start bytes))) refl)

final_by : (n : Need) (start : ℕ) (h : ResponseHead) → IsResponseHead h → nat_le 200 (status_code h) ≡ true → length (print_response h) ≤ 16384
    → (bytes : List ℕ) (v : Verdict) → FinalSays n start h bytes v → FitVerdict v
final_by need.Status start h is code fits bytes v e = subst FitVerdict (sym e) (reply_fit need.Status h [] is code fits (omega arith))
final_by need.Short start h is code fits bytes v says =
    body_by need.Short start h is code fits bytes (response_extent (status_code h) (fields_of h.fields)) v says
final_by need.Full start h is code fits bytes v says =
    body_by need.Full start h is code fits bytes (response_extent (status_code h) (fields_of h.fields)) v says

front_by : (a : Bool) → FitVerdict (cond a (bad why.TooLong) unfinished)
front_by true = tt
front_by false = tt

says_fit : (n : Need) (before : ℕ) (rest bytes : List ℕ) (k : Front) (v : Verdict) → length rest ≤ 16384 → IsFront rest k
    → FrontSays n before bytes k v → FitVerdict v
says_fit n before rest bytes partial v short is e = subst FitVerdict (sym e) (front_by (nat_lt 16384 (length bytes)))
says_fit n before rest bytes wrong v short is e = subst FitVerdict (sym e) tt
says_fit n before rest bytes (final h) v short is says =
    final_by n (before + length (print_response h)) h is.1.0 is.2
    (omega (arith, short, ap length is.1.1, length-append (print_response h) is.0)) bytes v says

verdict_fit : (n : Need) (bytes : List ℕ) (v : Verdict) → IsResponse n bytes v → FitVerdict v
verdict_fit n bytes v q =
    says_fit n (length (print_heads q.interims)) q.rest bytes q.front v
    (omega (arith, ap length q.behind.split, length-append (print_heads q.interims) q.rest, length-take 16384 bytes)) q.is q.says

fault_fit : (reason : BadWhy) → is_fit (fault_outcome reason) ≡ true
fault_fit why.Head = refl
fault_fit why.Host = refl
fault_fit why.Framing = refl
fault_fit why.TooLong = refl
fault_fit why.Chunk = refl
fault_fit why.Cut = refl

made_fit : (ended : Bool) (came : ℕ) (v : Verdict) (o : Outcome) → FitVerdict v → Makes (closed ended came v) o → is_fit o ≡ true
made_fit false came unfinished o fit m = absurd m
made_fit false came headed o fit m = absurd m
made_fit false came (lasting reply) o fit m = absurd m
made_fit false came (whole k reply) o fit m = ap is_fit m ∙ fit
made_fit false came (bad reason) o fit m = ap is_fit m ∙ fault_fit reason
made_fit true came unfinished o fit m = ap is_fit m
made_fit true came headed o fit m = ap is_fit m
made_fit true came (lasting reply) o fit m = ap is_fit m ∙ fit
made_fit true came (whole k reply) o fit m = ap is_fit m ∙ fit
made_fit true came (bad reason) o fit m = ap is_fit m ∙ fault_fit reason

pub got_fit : (n : Need) (bytes : List ℕ) (ended : Bool) (o : Outcome) → Got n bytes ended o → is_fit o ≡ true
got_fit n bytes ended o g = made_fit ended (length bytes) g.verdict o (verdict_fit n bytes g.verdict g.is) g.makes
