-- A head of 16,384 bytes has fewer fields than the room that is given for them.
use Rattle.std.proofs.Common.{ℕ, ◌*◌, ◌≤◌, List, [], ◌∷◌, ◌++◌, length, ap, arith, length-append}
use Rattle.std.specs.Prelude.{All}
use Rattle.std.specs.List.{flat_map}
use Rattle.std.proofs.lemmas.List.Elements.{All-head, All-tail}
use Rattle.httparse.specs.Grammar.{LineEnd, crlf, lf, print_end, Field, print_field, IsField, print_section, RequestHead, print_request, ResponseHead, print_response, print_blank, print_version, print_reason}
use Rattle.httparse.specs.Spans.{RequestExceeds, ResponseExceeds, SectionExceeds}

length_end : (e : LineEnd) → 1 ≤ length (print_end e)
length_end crlf = omega arith
length_end lf = omega arith

-- a field line has a name, a colon and its end
pub length_field : (f : Field) → IsField f → 3 ≤ length (print_field f)
length_field f is =
    omega (
      arith,
      is.name.0,
      length_end f.end,
      length-append f.name (58 ∷ f.raw ++ print_end f.end),
      length-append f.raw (print_end f.end),
      length-append (f.name ++ 58 ∷ f.raw) (print_end f.end),
      length-append f.name (58 ∷ f.raw),
    )

pub length_fields : (fs : List Field) → All IsField fs → 3 * length fs ≤ length (flat_map print_field fs)
length_fields [] all = omega arith
length_fields (f ∷ fs) all =
    omega (
      arith,
      length_field f (All-head IsField f fs all),
      length_fields fs (All-tail IsField f fs all),
      length-append (print_field f) (flat_map print_field fs),
    )

-- the fields of a head are shorter than the head
length_request : (h : RequestHead) → length (flat_map print_field h.fields) ≤ length (print_request h)
unfolding print_request
length_request h =
    let before = print_blank h.blank ++ h.method ++ 32 ∷ h.target ++ 32 ∷ print_version h.minor ++ print_end h.line_end in
    omega (arith, length-append before (print_section h.fields h.last), length-append (flat_map print_field h.fields) (print_end h.last))

pub length_response : (h : ResponseHead) → length (flat_map print_field h.fields) ≤ length (print_response h)
unfolding print_response
length_response h =
    let before = print_blank h.blank ++ print_version h.minor ++ 32 ∷ h.digits ++ print_reason h.reason ++ print_end h.line_end in
    omega (arith, length-append before (print_section h.fields h.last), length-append (flat_map print_field h.fields) (print_end h.last))

-- 16,384 bytes with an empty line hold at most 5,461 fields
pub request_fits : (buf : List ℕ) (room : ℕ) → length buf ≤ 16384 → 5462 ≤ room → RequestExceeds room buf → ⊥
request_fits buf room short many x =
    let h = x.3 in
    omega (
      arith,
      ap length x.2,
      length-append x.0 x.1,
      ap length x.4.1,
      length-append x.0 (10 ∷ []),
      length_request h,
      length_fields h.fields x.4.0.fields,
      length-append (print_request h) [],
      x.5,
    )

pub response_fits : (buf : List ℕ) (room : ℕ) → length buf ≤ 16384 → 5462 ≤ room → ResponseExceeds room buf → ⊥
response_fits buf room short many x =
    let h = x.3 in
    omega (
      arith,
      ap length x.2,
      length-append x.0 x.1,
      ap length x.4.1,
      length-append x.0 (10 ∷ []),
      length_response h,
      length_fields h.fields x.4.0.fields,
      length-append (print_response h) [],
      x.5,
    )

-- the same of a trailer section
pub section_fits : (buf : List ℕ) (room : ℕ) → length buf ≤ 16384 → 5462 ≤ room → SectionExceeds room buf → ⊥
section_fits buf room short many x =
    let fields = x.3 in
    omega (
      arith,
      ap length x.2,
      length-append x.0 x.1,
      ap length x.4.1,
      length-append x.0 (10 ∷ []),
      length_fields fields x.4.0,
      length-append (print_section fields lf) [],
      length-append (flat_map print_field fields) (print_end lf),
      x.5,
    )
