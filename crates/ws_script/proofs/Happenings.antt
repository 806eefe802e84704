-- A happening is a line and the bytes behind it.
use Rattle.std.proofs.Common.{◌≡◌, ◌≢◌, ℕ, ◌≤◌, Bool, length, List, [], ◌∷◌, ◌++◌, refl, sym, ap, ◌∙◌, subst, append_assoc, Option, Some, None, Result, Ok, Err, IfSome}
use Rattle.std.specs.Io.KnownBytes.{Consumes}
use Rattle.std.proofs.lemmas.List.{append-nil}
use Rattle.ws_script.specs.declared.script.Line.{Line}
use Rattle.ws_script.specs.declared.script.Line.TheVariants as line
use Rattle.ws_script.specs.declared.script.Happening.{Happening}
use Rattle.ws_script.specs.declared.script.Happening.TheVariants as happens
use Rattle.ws_script.specs.declared.take.ReadFault.{ReadFault}
use Rattle.ws_script.specs.declared.take.ReadFault.TheVariants.{Failed, NoMemory as Wanting}
use Rattle.ws_script.specs.Bytes.{IsOneLine}
use Rattle.ws_script.specs.Moves.{NoneOf, NoneBehind, Reads}
use Rattle.ws_script.specs.Reading.{IsShortLine, HasSize, with_line_feed}
use Rattle.ws_script.specs.Script.{OneReading, IsLine, IsHappening, HasLine, line_text, line_of, bytes_behind, text, NoneBegins}
use Rattle.ws_script.proofs.Known.{Consumes-then}
use Rattle.ws_script.proofs.Parting.{same_before, tail_is}
use Rattle.ws_script.proofs.Lines.{same_front, line_text_one, line_text_injective}

-- what stands behind a happening's line is a body of that size
abbrev HasBody : ℕ → Happening → Type 0
HasBody size h = (body : List ℕ) × (length body ≡ size) × (bytes_behind h ≡ with_line_feed body)

pub form_body : (size : ℕ) (h : Happening) → HasLine (line.Form size) h → HasBody size h
form_body size (happens.At t) has = absurd (cc)
form_body size (happens.Form body) has = (body, cc, refl)
form_body size (happens.In bytes) has = absurd (cc)
form_body size (happens.Revoke topic callback) has = absurd (cc)
form_body size happens.Sum has = absurd (cc)
form_body size happens.End has = absurd (cc)

pub in_body : (size : ℕ) (h : Happening) → HasLine (line.In size) h → HasBody size h
in_body size (happens.At t) has = absurd (cc)
in_body size (happens.Form body) has = absurd (cc)
in_body size (happens.In bytes) has = (bytes, cc, refl)
in_body size (happens.Revoke topic callback) has = absurd (cc)
in_body size happens.Sum has = absurd (cc)
in_body size happens.End has = absurd (cc)

-- no body stands there, and so nothing that has one
pub body_none : (l : Line) (size : ℕ) → ((h : Happening) → HasLine l h → HasBody size h) → (bytes : List ℕ) → NoneOf with_line_feed (HasSize size) bytes → NoneOf bytes_behind (HasLine l) bytes
body_none l size body_of bytes none h rest has e =
    let body = body_of h has in
    none body.0 rest body.1 (e ∙ ap (λ t. t ++ rest) body.2)

pub body_last : (l : Line) (size : ℕ) → ((h : Happening) → HasLine l h → HasBody size h) → (bytes : List ℕ) → NoneBehind with_line_feed (HasSize size) bytes → NoneBehind bytes_behind (HasLine l) bytes
body_last l size body_of bytes none h rest has e =
    let body = body_of h has in
    none body.0 rest body.1 (e ∙ ap (λ t. t ++ rest) body.2)

parts : (h : Happening) (rest : List ℕ) → text h ++ rest ≡ line_text (line_of h) ++ 10 ∷ (bytes_behind h ++ rest)
parts h rest = append_assoc (line_text (line_of h)) (10 ∷ bytes_behind h) rest

-- a line in front of bytes is that of the happening that stands there
line_parts : (gateway : Bool) (found bytes : List ℕ) (h : Happening) (rest : List ℕ) → IsOneLine found → IsHappening gateway h → with_line_feed found ++ bytes ≡ text h ++ rest → (found ≡ line_text (line_of h)) × (bytes ≡ bytes_behind h ++ rest)
line_parts gateway found bytes h rest one sound e =
    let split : found ++ 10 ∷ bytes ≡ line_text (line_of h) ++ 10 ∷ (bytes_behind h ++ rest) = sym (append_assoc found (10 ∷ []) bytes) ∙ e ∙ parts h rest in
    same_before 10 found (line_text (line_of h)) bytes (bytes_behind h ++ rest) one (line_text_one gateway (line_of h) sound.0) split

-- no happening has this line
pub none_with_line : (gateway : Bool) (found bytes : List ℕ) → IsOneLine found → ((l : Line) → IsLine gateway l → found ≢ line_text l) → NoneBegins gateway (with_line_feed found ++ bytes)
none_with_line gateway found bytes one none h rest sound e = none (line_of h) sound.0 (line_parts gateway found bytes h rest one sound e).0

nothing_left : (xs ys : List ℕ) → [] ≡ xs ++ ys → ys ≡ []
nothing_left [] ys e = sym e
nothing_left (x ∷ xs) ys e = absurd (cc)

-- nothing was read behind a line
pub line_last : (gateway : Bool) (found : List ℕ) → IsOneLine found → NoneBehind text (IsHappening gateway) (with_line_feed found)
line_last gateway found one h rest sound e =
    nothing_left (bytes_behind h) rest (line_parts gateway found [] h rest one sound (append-nil (with_line_feed found) ∙ e)).1

-- no happening has this line and these bytes behind it
none_behind : (gateway : Bool) (found bytes : List ℕ) (l : Line) → IsLine gateway l → found ≡ line_text l → NoneOf bytes_behind (HasLine l) bytes → NoneBegins gateway (with_line_feed found ++ bytes)
none_behind gateway found bytes l within is none h rest sound e =
    let one : IsOneLine found = subst IsOneLine (sym is) (line_text_one gateway l within) in
    let same = line_parts gateway found bytes h rest one sound e in
    none h rest (line_text_injective gateway (line_of h) l sound.0 within (sym same.0 ∙ is)) same.1

last_behind : (gateway : Bool) (found bytes : List ℕ) (l : Line) → IsLine gateway l → found ≡ line_text l → NoneBehind bytes_behind (HasLine l) bytes → NoneBehind text (IsHappening gateway) (with_line_feed found ++ bytes)
last_behind gateway found bytes l within is none h rest sound e =
    let one : IsOneLine found = subst IsOneLine (sym is) (line_text_one gateway l within) in
    let same = line_parts gateway found bytes h rest one sound e in
    none h rest (line_text_injective gateway (line_of h) l sound.0 within (sym same.0 ∙ is)) same.1

missed : (gateway : Bool) (found : List ℕ) (l : Line) (a m : Option (List ℕ)) → IsLine gateway l → found ≡ line_text l → Consumes a m (with_line_feed found) → IfSome m (NoneOf bytes_behind (HasLine l)) → IfSome a (NoneBegins gateway)
missed gateway found l None m within is p none = tt
missed gateway found l (Some xs) None within is p none = absurd p
missed gateway found l (Some xs) (Some ys) within is p none = subst (NoneBegins gateway) (sym p) (none_behind gateway found ys l within is none)

-- a line was read, and then what stands behind it
pub with_line : (gateway : Bool) (found : List ℕ) (l : Line) (a m b : Option (List ℕ)) (r : Result (Option Happening) ReadFault) → IsLine gateway l → length found ≤ 4096 → found ≡ line_text l → Consumes a m (with_line_feed found) → Reads bytes_behind (HasLine l) (λ h. h) m b r → Reads text (IsHappening gateway) (λ h. h) a b r
with_line gateway found l a m b (Ok (Some h)) within short is p q =
    let line : found ≡ line_text (line_of h) = is ∙ ap line_text (sym q.1) in
    let whole : with_line_feed found ++ bytes_behind h ≡ text h = append_assoc found (10 ∷ []) (bytes_behind h) ∙ ap (λ t. t ++ 10 ∷ bytes_behind h) line in
    (subst (Consumes a b) whole (Consumes-then a m b (with_line_feed found) (bytes_behind h) p q.0), (subst (IsLine gateway) (sym q.1) within, subst (λ t. length t ≤ 4096) line short))
with_line gateway found l a m b (Ok None) within short is p q =
    ((with_line_feed found ++ q.0.0, Consumes-then a m b (with_line_feed found) q.0.0 p q.0.1, tt), missed gateway found l a m within is p q.1)
with_line gateway found l a m b (Err Failed) within short is p q =
    (with_line_feed found ++ q.0, Consumes-then a m b (with_line_feed found) q.0 p q.1, none_behind gateway found q.0 l within is q.2)
with_line gateway found l a m b (Err Wanting) within short is p q =
    (with_line_feed found ++ q.0, Consumes-then a m b (with_line_feed found) q.0 p q.1, last_behind gateway found q.0 l within is q.2)

short_text : (gateway : Bool) (h : Happening) → IsHappening gateway h → IsShortLine (line_text (line_of h))
short_text gateway h within = (line_text_one gateway (line_of h) within.0, within.1)

first_line : (bytes : List ℕ) (h : Happening) (rest : List ℕ) → bytes ≡ text h ++ rest → bytes ≡ with_line_feed (line_text (line_of h)) ++ (bytes_behind h ++ rest)
first_line bytes h rest e = e ∙ parts h rest ∙ sym (append_assoc (line_text (line_of h)) (10 ∷ []) (bytes_behind h ++ rest))

-- a happening begins with a short line
pub no_short_line : (gateway : Bool) (bytes : List ℕ) → NoneOf with_line_feed IsShortLine bytes → NoneBegins gateway bytes
no_short_line gateway bytes none h rest within e =
    none (line_text (line_of h)) (bytes_behind h ++ rest) (short_text gateway h within) (first_line bytes h rest e)

pub short_line_last : (gateway : Bool) (bytes : List ℕ) → NoneBehind with_line_feed IsShortLine bytes → NoneBehind text (IsHappening gateway) bytes
short_line_last gateway bytes none h rest within e =
    nothing_left (bytes_behind h) rest (sym (none (line_text (line_of h)) (bytes_behind h ++ rest) (short_text gateway h within) (first_line bytes h rest e)))

same_body : (body other rest others : List ℕ) → length body ≡ length other → (body ++ 10 ∷ []) ++ rest ≡ (other ++ 10 ∷ []) ++ others → (body ≡ other) × (rest ≡ others)
same_body body other rest others size e =
    let split : body ++ 10 ∷ rest ≡ other ++ 10 ∷ others = cc (append_assoc body (10 ∷ []) rest, append_assoc other (10 ∷ []) others, e) in
    let bodies = same_front body other (10 ∷ rest) (10 ∷ others) size split in
    (bodies.0, tail_is 10 10 rest others bodies.1)

same_behind : (h k : Happening) (rest others : List ℕ) → line_of h ≡ line_of k → bytes_behind h ++ rest ≡ bytes_behind k ++ others → (h ≡ k) × (rest ≡ others)
same_behind (happens.At t) (happens.At u) rest others l e = (ap happens.At (cc), e)
same_behind (happens.Form body) (happens.Form other) rest others l e =
    let same = same_body body other rest others (cc) e in
    (ap happens.Form same.0, same.1)
same_behind (happens.In body) (happens.In other) rest others l e =
    let same = same_body body other rest others (cc) e in
    (ap happens.In same.0, same.1)
same_behind (happens.Revoke topic callback) (happens.Revoke first second) rest others l e = (cc, e)
same_behind happens.Sum happens.Sum rest others l e = (refl, e)
same_behind happens.End happens.End rest others l e = (refl, e)
same_behind (happens.At t) (happens.Form other) rest others l e = absurd (cc)
same_behind (happens.At t) (happens.In other) rest others l e = absurd (cc)
same_behind (happens.At t) (happens.Revoke first second) rest others l e = absurd (cc)
same_behind (happens.At t) happens.Sum rest others l e = absurd (cc)
same_behind (happens.At t) happens.End rest others l e = absurd (cc)
same_behind (happens.Form body) (happens.At u) rest others l e = absurd (cc)
same_behind (happens.Form body) (happens.In other) rest others l e = absurd (cc)
same_behind (happens.Form body) (happens.Revoke first second) rest others l e = absurd (cc)
same_behind (happens.Form body) happens.Sum rest others l e = absurd (cc)
same_behind (happens.Form body) happens.End rest others l e = absurd (cc)
same_behind (happens.In body) (happens.At u) rest others l e = absurd (cc)
same_behind (happens.In body) (happens.Form other) rest others l e = absurd (cc)
same_behind (happens.In body) (happens.Revoke first second) rest others l e = absurd (cc)
same_behind (happens.In body) happens.Sum rest others l e = absurd (cc)
same_behind (happens.In body) happens.End rest others l e = absurd (cc)
same_behind (happens.Revoke topic callback) (happens.At u) rest others l e = absurd (cc)
same_behind (happens.Revoke topic callback) (happens.Form other) rest others l e = absurd (cc)
same_behind (happens.Revoke topic callback) (happens.In other) rest others l e = absurd (cc)
same_behind (happens.Revoke topic callback) happens.Sum rest others l e = absurd (cc)
same_behind (happens.Revoke topic callback) happens.End rest others l e = absurd (cc)
same_behind happens.Sum (happens.At u) rest others l e = absurd (cc)
same_behind happens.Sum (happens.Form other) rest others l e = absurd (cc)
same_behind happens.Sum (happens.In other) rest others l e = absurd (cc)
same_behind happens.Sum (happens.Revoke first second) rest others l e = absurd (cc)
same_behind happens.Sum happens.End rest others l e = absurd (cc)
same_behind happens.End (happens.At u) rest others l e = absurd (cc)
same_behind happens.End (happens.Form other) rest others l e = absurd (cc)
same_behind happens.End (happens.In other) rest others l e = absurd (cc)
same_behind happens.End (happens.Revoke first second) rest others l e = absurd (cc)
same_behind happens.End happens.Sum rest others l e = absurd (cc)

-- one happening stands at the front
pub apart : OneReading
apart gateway h k rest others p q e =
    let split : line_text (line_of h) ++ 10 ∷ (bytes_behind h ++ rest) ≡ line_text (line_of k) ++ 10 ∷ (bytes_behind k ++ others) = sym (parts h rest) ∙ e ∙ parts k others in
    let same = same_before 10 (line_text (line_of h)) (line_text (line_of k)) (bytes_behind h ++ rest) (bytes_behind k ++ others) (line_text_one gateway (line_of h) p.0) (line_text_one gateway (line_of k) q.0) split in
    same_behind h k rest others (line_text_injective gateway (line_of h) (line_of k) p.0 q.0 same.0) same.1
