-- A request that was written reads back as its parts.
use Rattle.std.proofs.Common.{◌≡◌, ℕ, ◌+◌, ◌-◌, ◌≤◌, true, false, List, [], ◌∷◌, ◌++◌, length, take, drop, refl, sym, ap, ◌∙◌, arith, append_assoc, length-append}
use Rattle.std.specs.Prelude.{nat_lt, nat_le, codes, IsTrue}
use Rattle.std.specs.List.{flat_map, AllByRecursion}
use Rattle.std.proofs.lemmas.Bool.Decides.{nat_tests}
use Rattle.std.proofs.lemmas.List.{take_all}
use Rattle.std.proofs.lemmas.List.Elements.{All-from_recursion, recursion_from_All}
use Rattle.std.proofs.lemmas.List.Sums.{AllPass-from_list_all}
use Rattle.std.proofs.Math.Seq.{drop-append_seam}
use Rattle.httparse.specs.Grammar.{crlf, Field, IsField, print_field, is_value_byte, is_token_byte, trim_ows, RequestHead, IsRequestHead, print_request}
use Rattle.ws_model.specs.declared.bytes.Pair.{Pair}
use Rattle.ws_http.specs.declared.head.Framing.TheVariants as framing
use Rattle.ws_http.specs.declared.head.Judged.TheVariants as judged
use Rattle.ws_http.specs.Fields.{fields_of, has_host, request_framing}
use Rattle.ws_http.specs.Requests.{whole, IsRequest}
use Rattle.ws_http.specs.Texts.{field_line, request_text}
use Rattle.ws_http.specs.ReadBack.{IsWritable, written, IsRequestOf, ReadsParts}
use Rattle.ws_http.proofs.ReaderLemmas.{take_over}
use Rattle.ws_http.proofs.StageLemmas.{fixed_by}

-- the field that a pair is written as
abbrev field_of : Pair → Field
field_of p = record { name = p.name; raw = 32 ∷ p.value; end = crlf }

closing : Field
closing = record { name = codes "Connection"; raw = 32 ∷ codes "close"; end = crlf }

fields_by : List Pair → List Field
fields_by [] = closing ∷ []
fields_by (p ∷ ps) = field_of p ∷ fields_by ps

closing_is : IsField closing
unfolding closing is_token_byte
closing_is = record {
  name = (omega arith, AllPass-from_list_all is_token_byte (codes "Connection") refl);
  raw = AllPass-from_list_all is_value_byte (32 ∷ codes "close") refl;
}

field_is : (p : Pair) → IsWritable p → IsField (field_of p)
field_is p w = record {
  name = w.name;
  raw = All-from_recursion (λ b. IsTrue (is_value_byte b)) (32 ∷ p.value) (refl, recursion_from_All (λ b. IsTrue (is_value_byte b)) p.value w.value);
}

fields_are : (ps : List Pair) → AllByRecursion IsWritable ps → AllByRecursion IsField (fields_by ps)
unfolding fields_by
fields_are [] all = (closing_is, tt)
fields_are (p ∷ ps) all = (field_is p all.0, fields_are ps all.1)

line_of : (p : Pair) → print_field (field_of p) ≡ field_line p
line_of p = ap (λ (t : List ℕ). t ++ codes "\r\n") (sym (append_assoc p.name (codes ": ") p.value))

lines_of : (ps : List Pair) → flat_map print_field (fields_by ps) ≡ flat_map field_line ps ++ codes "Connection: close\r\n"
unfolding fields_by closing
lines_of [] = refl
lines_of (p ∷ ps) =
    (λ i. line_of p i ++ lines_of ps i) ∙ sym (append_assoc (field_line p) (flat_map field_line ps) (codes "Connection: close\r\n"))

value_of : (p : Pair) → IsWritable p → trim_ows (32 ∷ p.value) ≡ p.value
unfolding trim_ows
value_of p w = w.trimmed

pairs_of : (ps : List Pair) → AllByRecursion IsWritable ps → fields_of (fields_by ps) ≡ written ps
unfolding fields_by closing trim_ows
pairs_of [] all = refl
pairs_of (p ∷ ps) all = λ i. (p.name, value_of p all.0 i) ∷ pairs_of ps all.1 i

-- the head that is written
abbrev head_of : List ℕ → List ℕ → List Pair → RequestHead
head_of method target ps =
    record { blank = []; method = method; target = target; minor = 1; line_end = crlf; fields = fields_by ps; last = crlf }

inner : (t v e f c x body : List ℕ) → t ++ (v ++ (e ++ (f ++ (c ++ (x ++ body))))) ≡ (t ++ (v ++ (e ++ (f ++ (c ++ x))))) ++ body
inner t v e f c x body = simp append_assoc

assoc : (m t v e f c x body : List ℕ)
    → ((((((m ++ 32 ∷ []) ++ t) ++ (v ++ e)) ++ f) ++ (c ++ x)) ++ body) ≡ (((((m ++ 32 ∷ t) ++ v) ++ e) ++ ((f ++ c) ++ x)) ++ body)
assoc m t v e f c x body = simp append_assoc (ap (λ (s : List ℕ). m ++ 32 ∷ s) (inner t v e f c x body))

text_is : (method target : List ℕ) (ps : List Pair) (body : List ℕ) → request_text method target ps body ≡ print_request (head_of method target ps) ++ body
unfolding request_text print_request
text_is method target ps body =
    assoc method target (codes " HTTP/1.1") (codes "\r\n") (flat_map field_line ps) (codes "Connection: close\r\n") (codes "\r\n") body
    ∙ ap (λ (g : List ℕ). ((((method ++ 32 ∷ target) ++ codes " HTTP/1.1") ++ codes "\r\n") ++ (g ++ codes "\r\n")) ++ body) (sym (lines_of ps))

module _ (method target : List ℕ) (ps : List Pair) (body : List ℕ) (w : IsRequestOf method target ps body) where
  head_is : IsRequestHead (head_of method target ps)
  head_is = record {
    method = w.token;
    target = w.uri;
    target_text = w.target_text;
    minor = omega arith;
    fields = All-from_recursion IsField (fields_by ps) (fields_are ps w.writable);
  }

  front_is : length (print_request (head_of method target ps)) ≤ 16384
      → take 16384 (request_text method target ps body)
      ≡ print_request (head_of method target ps) ++ take (16384 - length (print_request (head_of method target ps))) body
  front_is fits =
      ap (λ (t : List ℕ). take 16384 t) (text_is method target ps body) ∙ take_over 16384 (print_request (head_of method target ps)) body fits

  parts_read : length (print_request (head_of method target ps)) ≤ 16384 → ReadsParts (request_text method target ps body) method target ps
  parts_read fits = record {
    head = head_of method target ps;
    rest = take (16384 - length (print_request (head_of method target ps))) body;
    reads = (head_is, front_is fits);
    same_method = refl;
    same_target = refl;
    same_fields = pairs_of ps w.writable;
  }

  whole_read : (room : ℕ) → length (print_request (head_of method target ps)) ≤ 16384 → length (request_text method target ps body) ≤ room
      → IsRequest room (request_text method target ps body) (whole (length (request_text method target ps body)) body)
  whole_read room fits within =
      let h = head_of method target ps in
      let text = request_text method target ps body in
      let len = length (print_request h) in
      let n = length body in
      let t = text_is method target ps body in
      let sum : length text ≡ len + n = ap length t ∙ length-append (print_request h) body in
      let pairs = pairs_of ps w.writable in
      let a : nat_lt room (len + n) ≡ false = grind (arith, nat_tests, sum, within) in
      let b : nat_le (len + n) (length text) ≡ true = grind (arith, nat_tests, sum) in
      let content : take n (drop len text) ≡ body =
      ap (λ (x : List ℕ). take n (drop len x)) t ∙ ap (λ (x : List ℕ). take n x) (drop-append_seam (print_request h) body) ∙ take_all n body (omega arith) in
      record {
        front = judged.Head len (framing.Fixed n);
        judges = (
          h,
          record {
            rest = take (16384 - len) body;
            reads = (head_is, front_is fits);
            host = ap (λ (x : List (List ℕ × List ℕ)). has_host 1 x) pairs ∙ w.host;
            framed = ap request_framing pairs ∙ w.framed;
          },
          refl,
          omega (arith, ap length (front_is fits), length-append (print_request h) (take (16384 - len) body)),
        );
        says = (λ i. whole (sum i) (sym content i)) ∙ sym (fixed_by room len n text false true a b);
      }

pub reads_back : (room : ℕ) (method target : List ℕ) (ps : List Pair) (body : List ℕ) → IsRequestOf method target ps body
    → length (request_text method target ps []) ≤ 16384 → length (request_text method target ps body) ≤ room
    → ReadsParts (request_text method target ps body) method target ps
    × IsRequest room (request_text method target ps body) (whole (length (request_text method target ps body)) body)
reads_back room method target ps body w head within =
    let fits : length (print_request (head_of method target ps)) ≤ 16384 =
    omega (arith, head, ap length (text_is method target ps []), length-append (print_request (head_of method target ps)) []) in
    (parts_read method target ps body w fits, whole_read method target ps body w room fits within)
