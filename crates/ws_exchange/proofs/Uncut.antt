-- No bytes alone are cut: that fault comes of the connection's end.
use Rattle.std.proofs.Common.{◌≡◌, ℕ, ◌+◌, Bool, true, false, if◌then◌else◌, List, length, take, drop, Some, None, refl, ◌∙◌, ap}
use Rattle.std.specs.Prelude.{MatchBool, Option, nat_lt, nat_le}
use Rattle.ws_model.specs.Legal.{body_limit}
use Rattle.ws_http.specs.ResponseFields.{reply_of}
use Rattle.ws_http.specs.declared.fed.BadWhy.TheVariants as why
use Rattle.ws_http.specs.declared.fed.Need.{Need}
use Rattle.ws_http.specs.declared.fed.Need.TheVariants as need
use Rattle.ws_http.specs.declared.extent.Extent.{Extent}
use Rattle.ws_http.specs.declared.extent.Extent.TheVariants as extent
use Rattle.ws_http.specs.declared.chunk.Next.{Next}
use Rattle.ws_http.specs.declared.chunk.Next.TheVariants as next
use Rattle.ws_http.specs.Chunks.{Chunk, LineNext}
use Rattle.ws_http.specs.Responses.{Verdict, unfinished, headed, lasting, whole, bad, Front, partial, wrong, final, IsResponse, FrontSays, FinalSays, BodySays, ChunksEnd, print_heads}

abbrev pub is_cut : Verdict → Bool
is_cut unfinished = false
is_cut headed = false
is_cut (lasting r) = false
is_cut (whole n r) = false
is_cut (bad why.Head) = false
is_cut (bad why.Host) = false
is_cut (bad why.Framing) = false
is_cut (bad why.TooLong) = false
is_cut (bad why.Chunk) = false
is_cut (bad why.Cut) = true

either : (b : Bool) (x y : Verdict) → is_cut x ≡ false → is_cut y ≡ false → is_cut (if b then x else y) ≡ false
either true x y p q = p
either false x y p q = q

ends_uncut : (need : Need) (start : ℕ) (h : _) (bytes : List ℕ) (chunks : List Chunk) (n : Next) (v : Verdict)
    → ChunksEnd need start h bytes chunks n v → is_cut v ≡ false
ends_uncut need start h bytes chunks next.Open v says = ap is_cut says ∙ either _ (bad why.TooLong) headed refl refl
ends_uncut need start h bytes chunks next.Wrong v says = ap is_cut says
ends_uncut need start h bytes chunks (next.Chunk line size) v says = absurd says
ends_uncut need start h bytes chunks (next.Last used) v says = ap is_cut says

chunks_uncut : (need : Need) (start : ℕ) (h : _) (bytes rest : List ℕ) (chunks : List Chunk) (over : Bool) (v : Verdict) (N : Next → Type 0)
    → MatchBool over (v ≡ bad why.TooLong) ((n : Next) × N n × ChunksEnd need start h bytes chunks n v) → is_cut v ≡ false
chunks_uncut need start h bytes rest chunks true v N says = ap is_cut says
chunks_uncut need start h bytes rest chunks false v N says = ends_uncut need start h bytes chunks says.0 v says.2

body_uncut : (need : Need) (start : ℕ) (h : _) (bytes : List ℕ) (e : Option Extent) (v : Verdict) → BodySays need start h bytes e v → is_cut v ≡ false
body_uncut need start h bytes None v says = ap is_cut says
body_uncut need start h bytes (Some (extent.Fixed n)) v says =
    let full = whole (start + n) (reply_of need h (take n (drop start bytes))) in
    let is_whole = nat_le (start + n) (length bytes) in
    ap is_cut says ∙ either (nat_lt body_limit n) (bad why.TooLong) (if is_whole then full else headed) refl (either is_whole full headed refl refl)
body_uncut need start h bytes (Some extent.Chunked) v says =
    chunks_uncut need start h bytes says.rest says.chunks _ v (λ (n : Next). LineNext says.rest says.line n) says.says
body_uncut need start h bytes (Some extent.Lasting) v says =
    ap is_cut says ∙ either (nat_lt body_limit (length (drop start bytes))) (bad why.TooLong) (lasting (reply_of need h (drop start bytes))) refl refl

final_uncut : (n : Need) (start : ℕ) (h : _) (bytes : List ℕ) (v : Verdict) → FinalSays n start h bytes v → is_cut v ≡ false
final_uncut need.Status start h bytes v says = ap is_cut says
final_uncut need.Short start h bytes v says = body_uncut need.Short start h bytes _ v says
final_uncut need.Full start h bytes v says = body_uncut need.Full start h bytes _ v says

front_uncut : (need : Need) (before : ℕ) (bytes : List ℕ) (f : Front) (v : Verdict) → FrontSays need before bytes f v → is_cut v ≡ false
front_uncut need before bytes partial v says = ap is_cut says ∙ either _ (bad why.TooLong) unfinished refl refl
front_uncut need before bytes wrong v says = ap is_cut says
front_uncut need before bytes (final h) v says = final_uncut need _ h bytes v says

pub uncut : (need : Need) (bytes : List ℕ) (v : Verdict) → IsResponse need bytes v → is_cut v ≡ false
uncut need bytes v is = front_uncut need (length (print_heads is.interims)) bytes is.front v is.says
