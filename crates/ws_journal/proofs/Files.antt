-- What writes leave of a file.
use Rattle.std.proofs.Common.{◌≡◌, ℕ, ◌+◌, ◌≤◌, min, List, [], ◌∷◌, ◌++◌, length, get_or, take, drop, refl, inl, inr, sym, ◌∙◌, ap, arith, append_assoc, length-append, length-take, take-append-drop}
use Rattle.std.proofs.lemmas.Bool.{cases_eq}
use Rattle.std.proofs.lemmas.List.{take_min, take-take, take_at, drop_at, drop-drop, drop_more}
use Rattle.ws_disk.specs.Crash.{overwritten, Torn}
use Rattle.ws_disk.proofs.Parts.{same_front}
use Rattle.ws_journal.specs.Kept.{IsShut, IsInDoubt, IsWithOrWithout, Keeps}

pub Torn-refl : (at n : ℕ) (file : List ℕ) → Torn at n file file
Torn-refl at n file = record { before = take_min at file; after = refl; no_shorter = omega arith; no_longer = omega arith }

pub Keeps-refl : (place : ℕ) (file : List ℕ) → Keeps place file file
Keeps-refl place file = record { before = take_min place file; no_shorter = omega arith }

pub Keeps-trans : (place : ℕ) (x y z : List ℕ) → Keeps place x y → Keeps place y z → Keeps place x z
Keeps-trans place x y z first second =
    let m = min place (length x) in
    let n = min place (length y) in
    let long = first.no_shorter in
    let le : m ≤ n = omega arith in
    let low : m ≤ place = omega arith in
    record {
      before = sym (take-take m n z le) ∙ ap (λ (l : List ℕ). take m l) second.before ∙ take-take m place y low ∙ first.before;
      no_shorter = omega (arith, first.no_shorter, second.no_shorter);
    }

pub Torn-keeps : (place at n : ℕ) (old new : List ℕ) → place ≤ at → Torn at n old new → Keeps place old new
Torn-keeps place at n old new before torn =
    let m = min place (length old) in
    let k = min at (length old) in
    let le : m ≤ k = omega arith in
    let low : m ≤ at = omega arith in
    record {
      before = sym (take-take m k new le) ∙ ap (λ (l : List ℕ). take m l) torn.before ∙ take-take m at old low ∙ take_min place old;
      no_shorter = torn.no_shorter;
    }

-- a write at the end of another one is one write
pub overwritten_on : (at : ℕ) (first second file : List ℕ) → at ≤ length file
    → overwritten (at + length first) second (overwritten at first file) ≡ overwritten at (first ++ second) file
overwritten_on at first second file within =
    let place = at + length first in
    let head = take at file ++ first in
    let rest = drop place file in
    let mid = overwritten at first file in
    let long : length head ≡ place = omega (arith, length-append (take at file) first, length-take at file) in
    let begins : take place mid ≡ head = take_at head rest place long in
    let behind : drop place mid ≡ rest = drop_at head rest place long in
    let same : place + length second ≡ at + length (first ++ second) = omega (arith, length-append first second) in
    let ends : drop (place + length second) mid ≡ drop (at + length (first ++ second)) file =
    sym (drop-drop (length second) place mid) ∙ ap (λ (l : List ℕ). drop (length second) l) behind ∙ drop-drop (length second) place file ∙ ap (λ (n : ℕ). drop n file) same in
    let end = drop (at + length (first ++ second)) file in
    (λ i. begins i ++ second ++ ends i) ∙ ap (λ (l : List ℕ). l ++ end) (append_assoc (take at file) first second)

shut_split : (front file : List ℕ) (shut : IsShut front file) → file ≡ (front ++ shut.gate ∷ []) ++ shut.after
shut_split front file shut = shut.is ∙ sym (append_assoc front (shut.gate ∷ []) shut.after)

shut_long : (front : List ℕ) (gate : ℕ) → length (front ++ gate ∷ []) ≡ length front + 1
shut_long front gate = length-append front (gate ∷ [])

shut_front : (front file : List ℕ) (shut : IsShut front file) → take (length front + 1) file ≡ front ++ shut.gate ∷ []
shut_front front file shut =
    ap (λ (l : List ℕ). take (length front + 1) l) (shut_split front file shut)
    ∙ take_at (front ++ shut.gate ∷ []) shut.after (length front + 1) (shut_long front shut.gate)

pub shut_within : (front file : List ℕ) → IsShut front file → length front + 1 ≤ length file
shut_within front file shut = omega (arith, ap length (shut_split front file shut), length-append (front ++ shut.gate ∷ []) shut.after, shut_long front shut.gate)

-- what keeps the shut gate still reads the same
pub keeps_shut : (front old new : List ℕ) → IsShut front old → Keeps (length front + 1) old new → IsShut front new
keeps_shut front old new shut keeps =
    let place = length front + 1 in
    let new_front : take place new ≡ front ++ shut.gate ∷ [] = same_front place old new (shut_within front old shut) keeps.before ∙ shut_front front old shut in
    record {
      gate = shut.gate;
      after = drop place new;
      not_open = shut.not_open;
      is = sym (take-append-drop place new) ∙ ap (λ (l : List ℕ). l ++ drop place new) new_front ∙ append_assoc front (shut.gate ∷ []) (drop place new);
    }

pub overwritten_shut : (front bytes file : List ℕ) (shut : IsShut front file)
    → overwritten (length front + 1) bytes file ≡ front ++ shut.gate ∷ bytes ++ drop (length front + 1 + length bytes) file
overwritten_shut front bytes file shut =
    let rest = drop (length front + 1 + length bytes) file in
    ap (λ (l : List ℕ). l ++ bytes ++ rest) (shut_front front file shut) ∙ ap (λ (l : List ℕ). l ++ rest) (append_assoc front (shut.gate ∷ []) bytes)

gate_behind : (front : List ℕ) (gate : ℕ) (rest : List ℕ) → drop (length front + 1) (front ++ gate ∷ rest) ≡ rest
gate_behind front gate rest =
    ap (λ (l : List ℕ). drop (length front + 1) l) (sym (append_assoc front (gate ∷ []) rest)) ∙ drop_at (front ++ gate ∷ []) rest (length front + 1) (shut_long front gate)

-- a torn write of the gate leaves the gate any byte
pub torn_gate : (front : List ℕ) (gate : ℕ) (rest image : List ℕ) → Torn (length front) 1 (front ++ gate ∷ rest) image → (now : ℕ) × (image ≡ front ++ now ∷ rest)
torn_gate front gate rest image torn =
    let place = length front in
    let file = front ++ gate ∷ rest in
    let now = get_or image place 0 in
    let long : length file ≡ place + length (gate ∷ rest) = length-append front (gate ∷ rest) in
    let begins : take place image ≡ front = same_front place file image (omega (arith, long)) torn.before ∙ take_at front (gate ∷ rest) place refl in
    let ends : drop (place + 1) image ≡ rest = torn.after ∙ gate_behind front gate rest in
    let whole : drop place image ≡ now ∷ rest = drop_more image place 0 (omega (arith, long, torn.no_shorter)) ∙ ap (λ (l : List ℕ). now ∷ l) ends in
    (now, sym (take-append-drop place image) ∙ (λ i. begins i ++ whole i))

pub overwritten_gate : (front : List ℕ) (gate new : ℕ) (rest : List ℕ) → overwritten (length front) (new ∷ []) (front ++ gate ∷ rest) ≡ front ++ new ∷ rest
overwritten_gate front gate new rest =
    let begins : take (length front) (front ++ gate ∷ rest) ≡ front = take_at front (gate ∷ rest) (length front) refl in
    let ends = gate_behind front gate rest in
    (λ i. begins i ++ (new ∷ []) ++ ends i) ∙ append_assoc front (new ∷ []) rest

pub open_shut : (front text after file : List ℕ) → file ≡ front ++ 1 ∷ text ++ 0 ∷ after → IsShut (front ++ 1 ∷ text) file
open_shut front text after file is = record { gate = 0; after = after; not_open = λ e. absurd (omega (arith, e)); is = is }

-- from the gate in doubt on
pub doubt_split : (front text file : List ℕ) (doubt : IsInDoubt front text file) → file ≡ front ++ doubt.gate ∷ (text ++ 0 ∷ doubt.after)
doubt_split front text file doubt = doubt.is ∙ append_assoc front (doubt.gate ∷ text) (0 ∷ doubt.after)

-- a gate in doubt is open or not
pub doubt_either : (front text file : List ℕ) → IsInDoubt front text file → IsWithOrWithout front text file
doubt_either front text file doubt =
    elim (cases_eq doubt.gate 1) [
      | inl is_open ↦ inr (open_shut front text doubt.after file (doubt.is ∙ ap (λ (gate : ℕ). front ++ gate ∷ text ++ 0 ∷ doubt.after) is_open))
      | inr shut ↦ inl (record { gate = doubt.gate; after = text ++ 0 ∷ doubt.after; not_open = shut; is = doubt_split front text file doubt })
    ]
