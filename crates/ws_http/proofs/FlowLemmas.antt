-- What a step over a piece of a chunked body comes to.
use Rattle.std.proofs.Common.{◌≡◌, ℕ, zero, suc, ◌+◌, ◌-◌, ◌<◌, ◌≤◌, Bool, true, false, cond, List, [], ◌∷◌, ◌++◌, length, take, drop, refl, sym, ap, ◌∙◌, subst, arith, append_assoc, append-nil, length-append, length-drop, length-take, take-append-drop}
use Rattle.std.specs.Prelude.{nat_lt, min, ◌==◌, ◌&&◌, MatchBool}
use Rattle.std.proofs.lemmas.Bool.{false≢true}
use Rattle.std.proofs.lemmas.Bool.Decides.{nat_tests}
use Rattle.std.proofs.lemmas.List.{take_min, take-append-le, drop-append-le, drop_all, drop_at}
use Rattle.std.proofs.Math.Seq.{take-append_seam}
use Rattle.httparse.specs.Grammar.{print_chunk_line, print_extension, print_end, crlf, ChunkLine, IsChunkLine, ReadsChunkLine}
use Rattle.ws_model.specs.Legal.{body_limit}
use Rattle.ws_http.specs.declared.fed.Need.{Need}
use Rattle.ws_http.specs.declared.fed.Need.TheVariants as need
use Rattle.ws_http.specs.declared.chunk.Line.{Line}
use Rattle.ws_http.specs.declared.chunk.Line.TheVariants as line
use Rattle.ws_http.specs.declared.chunk.Next.{Next}
use Rattle.ws_http.specs.declared.chunk.Next.TheVariants as next
use Rattle.ws_http.specs.declared.flow.Place.{Place}
use Rattle.ws_http.specs.declared.flow.Place.TheVariants as place
use Rattle.ws_http.specs.declared.flow.Point.{Point}
use Rattle.ws_http.specs.declared.flow.Quota.{Quota}
use Rattle.ws_http.specs.declared.flow.DataEnd.TheVariants as end
use Rattle.ws_http.specs.Chunks.{HasChunks, LineIs, LineNext, TrailerNext, end_next}
use Rattle.ws_http.specs.ResponseFields.{kept_of}
use Rattle.ws_http.specs.Responses.{is_over}
use Rattle.ws_http.specs.ResponseStages.{is_full}
use Rattle.ws_http.specs.Flow.{Flows, IsHeld, IsShut, AtLine, InData, begin}
use Rattle.ws_http.specs.FlowEnds.{HasData, StopsAt, IsDataEnd, IsIdle, more_of, most_of}
use Rattle.ws_http.proofs.ChunkLemmas.{behind_last, end_found}
use Rattle.ws_http.proofs.StageLemmas.{chunks_begin, chunks_go_on}
use Rattle.ws_http.proofs.ReaderLemmas.{chunks_more}
use Rattle.ws_http.proofs.StayLemmas.{line_more, end_more}
use Rattle.ws_http.proofs.ReplyLemmas.{kept_more, follows_by}
use Rattle.ws_http.proofs.UniqueLemmas.{line_one}

-- ---- the line's end behind a chunk's data, whatever the chunk's line is

no_open : (t : Bool) (l s : ℕ) → cond t (next.Chunk l s) next.Wrong ≡ next.Open → ⊥
no_open true l s e = cc
no_open false l s e = cc

open_any : (a b c d : ℕ) (x : List ℕ) → end_next a b x ≡ next.Open → end_next c d x ≡ next.Open
open_any a b c d [] e = refl
open_any a b c d (x ∷ []) e = e
open_any a b c d (x ∷ y ∷ more) e = absurd (no_open ((x == 13) && (y == 10)) a b e)

pub open_short : (a b : ℕ) (x : List ℕ) → end_next a b x ≡ next.Open → length x ≤ 1
open_short a b [] e = omega arith
open_short a b (x ∷ []) e = omega arith
open_short a b (x ∷ y ∷ more) e = absurd (no_open ((x == 13) && (y == 10)) a b e)

wrong_by : (t : Bool) (a b c d : ℕ) → cond t (next.Chunk a b) next.Wrong ≡ next.Wrong → cond t (next.Chunk c d) next.Wrong ≡ next.Wrong
wrong_by true a b c d e = cc
wrong_by false a b c d e = refl

wrong_any : (a b c d : ℕ) (x : List ℕ) → end_next a b x ≡ next.Wrong → end_next c d x ≡ next.Wrong
wrong_any a b c d [] e = cc
wrong_any a b c d (x ∷ []) e = e
wrong_any a b c d (x ∷ y ∷ more) e = wrong_by ((x == 13) && (y == 10)) a b c d e

no_last_by : (t : Bool) (a b used : ℕ) → next.Last used ≡ cond t (next.Chunk a b) next.Wrong → ⊥
no_last_by true a b used e = cc
no_last_by false a b used e = cc

no_last_else : (t : Bool) (used : ℕ) → next.Last used ≡ cond t next.Open next.Wrong → ⊥
no_last_else true used e = cc
no_last_else false used e = cc

pub no_last : (a b used : ℕ) (x : List ℕ) → next.Last used ≡ end_next a b x → ⊥
no_last a b used [] e = cc
no_last a b used (x ∷ []) e = no_last_else (x == 13) used e
no_last a b used (x ∷ y ∷ more) e = no_last_by ((x == 13) && (y == 10)) a b used e

min_by : (left more held size room : ℕ) → left + more ≡ size → room ≡ more + held → (0 < left → held ≡ 0) → min size room ≡ more
min_by zero more held size room e all none = omega (arith, e, all)
min_by (suc left) more held size room e all none = let no : held ≡ 0 = none (omega arith) in omega (arith, e, all, no)

end_of : (left : ℕ) (more held : List ℕ) (size : ℕ) (x : List ℕ) → left + length more ≡ size → x ≡ more ++ held → (0 < left → held ≡ [])
    → drop size x ≡ held
end_of zero more held size x e split none = ap (λ (t : List ℕ). drop size t) split ∙ drop_at more held size (omega (arith, e))
end_of (suc left) more held size x e split none =
    let no : held ≡ [] = none (omega arith) in
    drop_all size x (omega (arith, e, ap length split, length-append more held, ap length no)) ∙ sym no

-- ---- chunk lines

abbrev size_of : Line → ℕ
size_of line.Open = 0
size_of line.Never = 0
size_of (line.Whole len size) = size

pub shut_open : (x : List ℕ) → LineIs x line.Open → IsShut x
shut_open x is len size w = absurd (is.0 w.0 (drop len x) w.1)

pub shut_zero : (x : List ℕ) (k : ℕ) → LineIs x (line.Whole k 0) → IsShut x
shut_zero x k is len size w = sym (ap size_of (line_one x (line.Whole k 0) (line.Whole len size) is w))

line_some : (l : ChunkLine) → IsChunkLine l → 0 < length (print_chunk_line l)
unfolding print_chunk_line
line_some l is =
    let front = l.digits ++ l.pad ++ print_extension l.extension in
    let sum : length (print_chunk_line l) ≡ length front + length (print_end crlf) = length-append front (print_end crlf) in
    omega (arith, sum)

pub shut_none : IsShut []
shut_none len size w = absurd (omega (arith, w.2, w.4, line_some w.0 w.1.0))

line_less : (a y : List ℕ) (len size : ℕ) → LineIs (a ++ y) (line.Whole len size) → len ≤ length a → LineIs a (line.Whole len size)
line_less a y len size is inside =
    let p = print_chunk_line is.0 in
    let same : take len a ≡ p =
    sym (take-append-le len a y inside) ∙ (λ i. take (is.2 i) (is.1.1 i)) ∙ take-append_seam p (drop len (a ++ y)) in
    (is.0, (is.1.0, sym (take-append-drop len a) ∙ ap (λ (t : List ℕ). t ++ drop len a) same), is.2, is.3, inside)

never_more : (x z : List ℕ) → LineIs x line.Never → LineIs (x ++ z) line.Never
never_more x z is = λ m l rest reads. is (z ++ m) l rest (subst (λ (t : List ℕ). ReadsChunkLine t l rest) (append_assoc x z m) reads)

behind_data : (rest : List ℕ) (len size : ℕ) (n : Next) → 0 < size → n ≡ end_next len size (drop size (drop len rest)) → LineNext rest (line.Whole len size) n
behind_data rest len size n some t =
    let b : (size == 0) ≡ false = grind (arith, nat_tests, some) in
    subst (λ (b : Bool). MatchBool b (TrailerNext len (drop len rest) n) (n ≡ end_next len size (drop size (drop len rest)))) (sym b) t

pub nothing : (x : List ℕ) → length x ≡ 0 → x ≡ []
nothing [] e = refl
nothing (a ∷ x) e = absurd (omega (arith, e))

pub take_self : (m : ℕ) (x : List ℕ) → take (length (take m x)) x ≡ take m x
take_self m x = ap (λ (j : ℕ). take j x) (length-take m x) ∙ take_min m x

pub cleared : (start : ℕ) (raw : List ℕ) → drop start (take start raw) ≡ []
cleared start raw = drop_all start (take start raw) (omega (arith, length-take start raw))

pub some_by : (m : ℕ) → (m ≡ 0 → ⊥) → 0 < m
some_by zero f = absurd (f refl)
some_by (suc m) f = omega arith

-- ---- where there is room

pub full_by : (n : Need) → (is_full n ≡ false → ⊥) → is_full n ≡ true
full_by need.Status f = absurd (f refl)
full_by need.Short f = absurd (f refl)
full_by need.Full f = refl

pub part_most : (n : Need) (room : ℕ) → is_full n ≡ false → 41 ≤ room → most_of n body_limit ≤ room
part_most need.Status room part fits = omega arith
part_most need.Short room part fits = fits
part_most need.Full room part fits = absurd (cc)

pub kept_room : (n : Need) (limit : ℕ) (body content z : List ℕ) → body ≡ kept_of n content → length content + length z ≤ limit
    → length body + length (more_of n (length body) z) ≤ most_of n limit
kept_room need.Status limit body content z e fits = omega (arith, ap length e, length-take 0 z)
kept_room need.Short limit body content z e fits = omega (arith, ap length e, length-take 41 content, length-take (41 - length body) z)
kept_room need.Full limit body content z e fits = omega (arith, ap length e)

-- ---- where no byte of the body came

kept_none : (n : Need) → [] ≡ kept_of n []
kept_none need.Status = refl
kept_none need.Short = refl
kept_none need.Full = refl

pub flow_begins : (n : Quota) → Flows n [] [] [] begin
flow_begins n = record {
  content = [];
  more = [];
  at = 0;
  read = chunks_begin [] [] 0 refl (omega arith);
  behind = record { all = refl; none = refl; shut = shut_none };
  kept = kept_none n.need;
  counted = refl;
  small = omega arith;
  count = refl;
}

-- ---- what is held back

held_by : (rest held more : List ℕ) (q : Place) → IsHeld rest held more q → length held ≤ length rest
held_by rest held more place.Line o = omega (arith, ap length o.all)
held_by rest held more (place.Data left) o =
    omega (arith, ap length o.split, length-append more held, length-drop o.len rest)

pub flow_held : (n : Quota) (came held body : List ℕ) (p : Point) → Flows n came held body p → length held ≤ p.count
flow_held n came held body p k =
    omega (arith, held_by (drop k.at came) held k.more p.place k.behind, length-drop k.at came, k.count)

pub line_of : (n : Quota) (came held body : List ℕ) (p : Point) (k : Flows n came held body p) → p.place ≡ place.Line → AtLine (drop k.at came) held k.more
line_of n came held body p k e = subst (λ (q : Place). IsHeld (drop k.at came) held k.more q) e k.behind

pub data_of : (n : Quota) (came held body : List ℕ) (p : Point) (left : ℕ) (k : Flows n came held body p) → p.place ≡ place.Data left
    → InData (drop k.at came) held k.more left
data_of n came held body p left k e = subst (λ (q : Place). IsHeld (drop k.at came) held k.more q) e k.behind

module _ (n : Quota) (came held body : List ℕ) (p : Point) (k : Flows n came held body p) where
  rest_more : (z : List ℕ) → drop k.at (came ++ z) ≡ drop k.at came ++ z
  rest_more z = drop-append-le k.at came z k.read.inside

  has_data : (z : List ℕ) → HasData n (came ++ z) (kept_of n.need k.content) k.at (length k.content)
  has_data z = record {
    content = k.content;
    read = chunks_more came z k.content 0 k.at k.read;
    kept = refl;
    counted = refl;
    small = omega (arith, k.small, k.counted, length-append k.content k.more);
  }

  -- ---- at a chunk line

  module _ (e : p.place ≡ place.Line) where
    o : AtLine (drop k.at came) held k.more
    o = line_of n came held body p k e

    all_more : (z : List ℕ) → held ++ z ≡ drop k.at (came ++ z)
    all_more z = ap (λ (t : List ℕ). t ++ z) o.all ∙ sym (rest_more z)

    pub line_on : (z : List ℕ) → IsShut (held ++ z)
        → Flows n (came ++ z) (held ++ z) body (record { place = place.Line; count = p.count + length z; size = p.size })
    line_on z shut = record {
      content = k.content;
      more = k.more;
      at = k.at;
      read = chunks_more came z k.content 0 k.at k.read;
      behind = record { all = all_more z; none = o.none; shut = shut };
      kept = k.kept;
      counted = k.counted;
      small = k.small;
      count = omega (arith, k.count, length-append came z);
    }

    long_by : (z : List ℕ) (len size : ℕ) (b : Bool) → nat_lt (length held) len ≡ b → LineIs (held ++ z) (line.Whole len size) → 0 < size → length held < len
    long_by z len size true t is some = grind (arith, nat_tests, t)
    long_by z len size false t is some =
        let less : len ≤ length held = grind (arith, nat_tests, t) in
        absurd (omega (arith, o.shut len size (line_less held z len size is less), some))

    -- the line of a chunk ends in the new bytes
    pub line_long : (z : List ℕ) (len size : ℕ) → LineIs (held ++ z) (line.Whole len size) → 0 < size → length held < len
    line_long z len size is some = long_by z len size (nat_lt (length held) len) refl is some

    pub line_found : (z y : List ℕ) (len size : ℕ) → LineIs (held ++ (z ++ y)) (line.Whole len size) → len ≡ length held + length z → 0 < size
        → Flows n (came ++ z) [] body (record { place = place.Data size; count = p.count + length z; size = p.size })
    line_found z y len size is ends some =
        let sum : len ≡ length (held ++ z) = omega (arith, ends, length-append held z) in
        let whole : LineIs (held ++ z) (line.Whole len size) =
        line_less (held ++ z) y len size (subst (λ (t : List ℕ). LineIs t (line.Whole len size)) (sym (append_assoc held z y)) is) (omega (arith, sum)) in
        record {
          content = k.content;
          more = k.more;
          at = k.at;
          read = chunks_more came z k.content 0 k.at k.read;
          behind = record {
            len = len;
            size = size;
            line = subst (λ (t : List ℕ). LineIs t (line.Whole len size)) (all_more z) whole;
            some = some;
            split = ap (λ (t : List ℕ). drop len t) (sym (all_more z)) ∙ drop_all len (held ++ z) (omega (arith, sum))
                ∙ sym (ap (λ (t : List ℕ). t ++ []) o.none);
            missing = omega (arith, ap length o.none);
            none = λ _. refl;
            end = refl;
          };
          kept = k.kept;
          counted = k.counted;
          small = k.small;
          count = omega (arith, k.count, length-append came z);
        }

    pub line_never : (z y now : List ℕ) → LineIs (held ++ z) line.Never → IsDataEnd n (came ++ (z ++ y)) now body end.Wrong
    line_never z y now is =
        let never : LineIs (held ++ (z ++ y)) line.Never =
        subst (λ (t : List ℕ). LineIs t line.Never) (append_assoc held z y) (never_more (held ++ z) y is) in (
          kept_of n.need k.content,
          k.at,
          length k.content,
          line.Never,
          record {
            read = has_data (z ++ y);
            is = subst (λ (t : List ℕ). LineIs t line.Never) (all_more (z ++ y)) never;
            over_is = refl;
          },
          refl,
        )

    no_data : kept_of n.need k.content ≡ body
    no_data =
        ap (λ (t : List ℕ). kept_of n.need t) (sym (append-nil k.content) ∙ ap (λ (t : List ℕ). k.content ++ t) (sym o.none)) ∙ sym k.kept

    -- a last chunk's line is whole
    module _ (z : List ℕ) (len : ℕ) (is : LineIs held (line.Whole len 0)) where
      last_is : LineIs (drop k.at (came ++ z)) (line.Whole len 0)
      last_is = subst (λ (t : List ℕ). LineIs t (line.Whole len 0)) (all_more z) (line_more held z len 0 is)

      last_next : (m : Next) → TrailerNext len (drop len (held ++ z)) m → LineNext (drop k.at (came ++ z)) (line.Whole len 0) m
      last_next m t = subst (λ (t : List ℕ). LineNext t (line.Whole len 0) m) (all_more z) (behind_last (held ++ z) len 0 m refl t)

      stops : StopsAt n (came ++ z) (kept_of n.need k.content) k.at (length k.content) false (line.Whole len 0)
      stops =
          let r = length (drop k.at (came ++ z)) in
          let none : min 0 (r - len) ≡ 0 = omega arith in
          let fits : length k.content + min 0 (r - len) ≤ n.limit = omega (arith, none, k.small, k.counted, length-append k.content k.more) in
          record { read = has_data z; is = last_is; over_is = grind (arith, nat_tests, fits) }

      pub trailer_wrong : (now : List ℕ) → TrailerNext len (drop len (held ++ z)) next.Wrong → IsDataEnd n (came ++ z) now body end.Wrong
      trailer_wrong now t = (kept_of n.need k.content, k.at, length k.content, line.Whole len 0, stops, last_next next.Wrong t)

      pub trailer_open : TrailerNext len (drop len (held ++ z)) next.Open
          → IsDataEnd n (came ++ z) (held ++ z) body (end.Open (record { place = place.Line; count = p.count + length z; size = p.size }))
      trailer_open t =
          let whole = line_more held z len 0 is in
          (line_on z (shut_zero (held ++ z) len whole), (line.Whole len 0, whole, behind_last (held ++ z) len 0 next.Open refl t))

      pub trailer_last : (now : List ℕ) (total used : ℕ) → TrailerNext len (drop len (held ++ z)) (next.Last used)
          → total ≡ p.count + length z - length (held ++ z) + used → used ≤ length (held ++ z)
          → IsDataEnd n (came ++ z) now body (end.Last total)
      trailer_last now total used t sum inside =
          let long = ap length (all_more z) in
          let left = length-drop k.at (came ++ z) in
          let more = length-append came z in (
            k.at,
            length k.content,
            used,
            line.Whole len 0,
            subst (λ (b : List ℕ). StopsAt n (came ++ z) b k.at (length k.content) false (line.Whole len 0)) no_data stops,
            last_next (next.Last used) t,
            omega (arith, sum, long, left, more, k.count, k.read.inside),
            omega (arith, sum, inside, long, left, more, k.count, k.read.inside),
          )

  -- ---- in a chunk's data

  module _ (left : ℕ) (e : p.place ≡ place.Data left) where
    d : InData (drop k.at came) held k.more left
    d = data_of n came held body p left k e

    len_inside : d.len ≤ length (drop k.at came)
    len_inside = d.line.4

    behind_more : (z : List ℕ) → drop d.len (drop k.at (came ++ z)) ≡ k.more ++ (held ++ z)
    behind_more z =
        ap (λ (t : List ℕ). drop d.len t) (rest_more z) ∙ drop-append-le d.len (drop k.at came) z len_inside
        ∙ ap (λ (t : List ℕ). t ++ z) d.split ∙ append_assoc k.more held z

    line_stays : (z : List ℕ) → LineIs (drop k.at (came ++ z)) (line.Whole d.len d.size)
    line_stays z =
        subst (λ (t : List ℕ). LineIs t (line.Whole d.len d.size)) (sym (rest_more z)) (line_more (drop k.at came) z d.len d.size d.line)

    -- how long what stands behind the line is
    behind_long : (z : List ℕ) → length (drop k.at (came ++ z)) - d.len ≡ length k.more + (length held + length z)
    behind_long z =
        omega (arith, ap length (behind_more z), length-drop d.len (drop k.at (came ++ z)), length-append k.more (held ++ z), length-append held z)

    pub data_on : 0 < left → (z : List ℕ) → length z ≤ left → p.size + length z ≤ n.limit
        → Flows n (came ++ z) held (body ++ more_of n.need (length body) z)
        (record { place = place.Data (left - length z); count = p.count + length z; size = p.size + length z })
    data_on some z fits small =
        let none : held ≡ [] = d.none some in
        let join = append_assoc k.content k.more z in
        record {
          content = k.content;
          more = k.more ++ z;
          at = k.at;
          read = chunks_more came z k.content 0 k.at k.read;
          behind = record {
            len = d.len;
            size = d.size;
            line = line_stays z;
            some = d.some;
            split = behind_more z ∙ ap (λ (t : List ℕ). k.more ++ (t ++ z)) none ∙ sym (append-nil (k.more ++ z))
                ∙ ap (λ (t : List ℕ). (k.more ++ z) ++ t) (sym none);
            missing = omega (arith, d.missing, fits, length-append k.more z);
            none = λ _. none;
            end = d.end;
          };
          kept = kept_more n.need body (k.content ++ k.more) z k.kept ∙ ap (λ (t : List ℕ). kept_of n.need t) join;
          counted = omega (arith, k.counted, length-append (k.content ++ k.more) z, ap length join);
          small = small;
          count = omega (arith, k.count, length-append came z);
        }

    pub data_over : 0 < left → (piece now new : List ℕ) (taken : ℕ) → taken ≡ min left (length piece) → n.limit < p.size + taken
        → IsDataEnd n (came ++ piece) now new end.Over
    data_over some piece now new taken is past =
        let r = length (drop k.at (came ++ piece)) in
        let long : min d.size (r - d.len) ≡ length k.more + taken =
        omega (arith, behind_long piece, d.missing, is, ap length (d.none some)) in
        let heavy : n.limit < length k.content + min d.size (r - d.len) = omega (arith, long, past, k.counted, length-append k.content k.more) in (
          kept_of n.need k.content,
          k.at,
          length k.content,
          line.Whole d.len d.size,
          record { read = has_data piece; is = line_stays piece; over_is = grind (arith, nat_tests, heavy) },
        )

  -- ---- behind a chunk's data

  module _ (e : p.place ≡ place.Data 0) where
    pub end_held : length held ≤ 1
    end_held = open_short (d 0 e).len (d 0 e).size held (d 0 e).end

    end_behind : (z : List ℕ) → drop (d 0 e).size (drop (d 0 e).len (drop k.at (came ++ z))) ≡ held ++ z
    end_behind z =
        ap (λ (t : List ℕ). drop (d 0 e).size t) (behind_more 0 e z) ∙ drop_at k.more (held ++ z) (d 0 e).size (omega (arith, (d 0 e).missing))

    pub end_on : (z : List ℕ) → end_next 0 0 (held ++ z) ≡ next.Open
        → Flows n (came ++ z) (held ++ z) body (record { place = place.Data 0; count = p.count + length z; size = p.size })
    end_on z is = record {
      content = k.content;
      more = k.more;
      at = k.at;
      read = chunks_more came z k.content 0 k.at k.read;
      behind = record {
        len = (d 0 e).len;
        size = (d 0 e).size;
        line = line_stays 0 e z;
        some = (d 0 e).some;
        split = behind_more 0 e z;
        missing = (d 0 e).missing;
        none = λ less. absurd (omega (arith, less));
        end = open_any 0 0 (d 0 e).len (d 0 e).size (held ++ z) is;
      };
      kept = k.kept;
      counted = k.counted;
      small = k.small;
      count = omega (arith, k.count, length-append came z);
    }

    pub end_wrong : (z y now new : List ℕ) → end_next 0 0 (held ++ z) ≡ next.Wrong → IsDataEnd n (came ++ (z ++ y)) now new end.Wrong
    end_wrong z y now new wrong =
        let r = length (drop k.at (came ++ (z ++ y))) in
        let long : min (d 0 e).size (r - (d 0 e).len) ≡ length k.more = omega (arith, behind_long 0 e (z ++ y), (d 0 e).missing) in
        let light : length k.content + min (d 0 e).size (r - (d 0 e).len) ≤ n.limit = omega (arith, long, k.small, k.counted, length-append k.content k.more) in
        let here = sym (wrong_any 0 0 (d 0 e).len (d 0 e).size (held ++ z) wrong) in
        let still = end_more (held ++ z) y (d 0 e).len (d 0 e).size next.Wrong tt here
        ∙ ap (λ (t : List ℕ). end_next (d 0 e).len (d 0 e).size t) (append_assoc held z y ∙ sym (end_behind (z ++ y))) in (
          kept_of n.need k.content,
          k.at,
          length k.content,
          line.Whole (d 0 e).len (d 0 e).size,
          record { read = has_data (z ++ y); is = line_stays 0 e (z ++ y); over_is = grind (arith, nat_tests, light) },
          behind_data (drop k.at (came ++ (z ++ y))) (d 0 e).len (d 0 e).size next.Wrong (d 0 e).some still,
        )

    pub end_whole : (z : List ℕ) (l s : ℕ) → next.Chunk l s ≡ end_next 0 0 (held ++ z) → length (held ++ z) ≤ 2
        → Flows n (came ++ z) [] body (record { place = place.Line; count = p.count + length z; size = p.size })
    end_whole z l s whole short =
        let f = end_found (held ++ z) l s 0 0 whole in
        let rest = drop k.at (came ++ z) in
        let here : next.Chunk (d 0 e).len (d 0 e).size ≡ end_next (d 0 e).len (d 0 e).size (drop (d 0 e).size (drop (d 0 e).len rest)) =
        sym (ap (λ (t : List ℕ). end_next (d 0 e).len (d 0 e).size t) (end_behind z ∙ f.1)) in
        let follows = follows_by rest (line.Whole (d 0 e).len (d 0 e).size) (next.Chunk (d 0 e).len (d 0 e).size) (line_stays 0 e z)
        (behind_data rest (d 0 e).len (d 0 e).size (next.Chunk (d 0 e).len (d 0 e).size) (d 0 e).some here) in
        let long : length k.more ≡ (d 0 e).size = omega (arith, (d 0 e).missing) in
        let content : take (d 0 e).size (drop (d 0 e).len rest) ≡ k.more =
        ap (λ (t : List ℕ). take (d 0 e).size t) (behind_more 0 e z) ∙ ap (λ (j : ℕ). take j (k.more ++ (held ++ z))) (sym long)
        ∙ take-append_seam k.more (held ++ z) in
        let at = k.at + ((d 0 e).len + (d 0 e).size + 2) in
        let read = chunks_go_on 0 k.at (d 0 e).len (d 0 e).size (came ++ z) k.content (chunks_more came z k.content 0 k.at k.read) follows in
        let sum : length rest ≡ (d 0 e).len + (d 0 e).size + 2 =
        omega (arith, behind_long 0 e z, long, short, ap length f.1, length-append held z, len_inside 0 e, length-drop k.at came, length-drop k.at (came ++ z), length-append came z) in
        let over : length (drop at (came ++ z)) ≡ 0 = omega (arith, sum, length-drop at (came ++ z), length-drop k.at (came ++ z)) in
        record {
          content = k.content ++ k.more;
          more = [];
          at = at;
          read = subst (λ (t : List ℕ). HasChunks (came ++ z) (k.content ++ t) 0 at) content read;
          behind = record { all = sym (nothing (drop at (came ++ z)) over); none = refl; shut = shut_none };
          kept = k.kept ∙ ap (λ (t : List ℕ). kept_of n.need t) (sym (append-nil (k.content ++ k.more)));
          counted = k.counted ∙ ap length (sym (append-nil (k.content ++ k.more)));
          small = k.small;
          count = omega (arith, k.count, length-append came z);
        }

-- ---- where all that came was read

idle_over : (limit : ℕ) (l : Line) (held : List ℕ) (size room : ℕ) → IsShut held → LineIs held l → size ≤ limit → is_over limit size room l ≡ false
idle_over limit line.Open held size room shut is small = refl
idle_over limit line.Never held size room shut is small = refl
idle_over limit (line.Whole len k) held size room shut is small =
    let none : k ≡ 0 = shut len k is in
    let fits : size + min k (room - len) ≤ limit = omega (arith, none, small) in
    grind (arith, nat_tests, fits)

module _ (n : Quota) (came held body : List ℕ) (p : Point) (k : Flows n came held body p) where
  abbrev Stops : Type 0
  Stops = (kept : List ℕ) × (at : ℕ) × (size : ℕ) × (l : Line) × StopsAt n came kept at size false l × LineNext (drop at came) l next.Open

  read_here : HasData n came (kept_of n.need k.content) k.at (length k.content)
  read_here = record {
    content = k.content;
    read = k.read;
    kept = refl;
    counted = refl;
    small = omega (arith, k.small, k.counted, length-append k.content k.more);
  }

  stops_by : (q : Place) → p.place ≡ q → IsIdle held q → Stops
  stops_by place.Line e idle =
      let o = line_of n came held body p k e in
      let small : length k.content ≤ n.limit = omega (arith, k.small, k.counted, length-append k.content k.more) in (
        kept_of n.need k.content,
        k.at,
        length k.content,
        idle.0,
        record {
          read = read_here;
          is = subst (λ (t : List ℕ). LineIs t idle.0) o.all idle.1;
          over_is = idle_over n.limit idle.0 held (length k.content) (length (drop k.at came)) o.shut idle.1 small;
        },
        subst (λ (t : List ℕ). LineNext t idle.0 next.Open) o.all idle.2,
      )
  stops_by (place.Data left) e idle =
      let d = data_of n came held body p left k e in
      let rest = drop k.at came in
      let long = ap length d.split in
      let all : length rest - d.len ≡ length k.more + length held = omega (arith, long, length-drop d.len rest, length-append k.more held) in
      let least : min d.size (length rest - d.len) ≡ length k.more = min_by left (length k.more) (length held) d.size (length rest - d.len) d.missing all (λ some. ap length (d.none some)) in
      let light : length k.content + min d.size (length rest - d.len) ≤ n.limit =
      omega (arith, least, k.small, k.counted, length-append k.content k.more) in
      let behind : drop d.size (drop d.len rest) ≡ held = end_of left k.more held d.size (drop d.len rest) d.missing d.split (λ some. d.none some) in (
        kept_of n.need k.content,
        k.at,
        length k.content,
        line.Whole d.len d.size,
        record { read = read_here; is = d.line; over_is = grind (arith, nat_tests, light) },
        behind_data rest d.len d.size next.Open d.some (sym (ap (λ (t : List ℕ). end_next d.len d.size t) behind ∙ d.end)),
      )

pub open_stops : (n : Quota) (came held body : List ℕ) (p : Point) → IsDataEnd n came held body (end.Open p)
    → (kept : List ℕ) × (at : ℕ) × (size : ℕ) × (l : Line) × StopsAt n came kept at size false l × LineNext (drop at came) l next.Open
open_stops n came held body p e = stops_by n came held body p e.0 p.place refl e.1

-- data that came among so many bytes doesn't pass a limit that they don't
never_over : (limit size place long : ℕ) (l : Line) → size ≤ place → place ≤ long → long ≤ limit → is_over limit size (long - place) l ≡ true → ⊥
never_over limit size place long line.Open small inside fits over = false≢true over
never_over limit size place long line.Never small inside fits over = false≢true over
never_over limit size place long (line.Whole len k) small inside fits over =
    let light : size + min k (long - place - len) ≤ limit = omega (arith, small, inside, fits) in
    let no : nat_lt limit (size + min k (long - place - len)) ≡ false = grind (arith, nat_tests, light) in
    false≢true (sym no ∙ over)

pub within_limit : (n : Quota) (came held body : List ℕ) → length came ≤ n.limit → IsDataEnd n came held body end.Over → ⊥
within_limit n came held body fits d =
    let s = d.4 in
    let small : d.2 ≤ d.1 = omega (arith, s.read.counted, s.read.read.small) in
    never_over n.limit d.2 d.1 (length came) d.3 small s.read.read.inside fits
    (ap (λ (j : ℕ). is_over n.limit d.2 j d.3) (sym (length-drop d.1 came)) ∙ s.over_is)
