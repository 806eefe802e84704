-- Events and batches: no text begins another, where one is lacking, and how long the texts are.
use Rattle.std.proofs.Common.{◌≡◌, ℕ, zero, suc, ◌+◌, ◌^◌, ◌<◌, ◌≤◌, List, [], ◌∷◌, ◌++◌, length, get_or, ◌-◌, Option, Some, None, Result, Ok, Err, refl, sym, ap, ◌∙◌, append_assoc, arith}
use Rattle.std.specs.List.{flat_map, AllByRecursion}
use Rattle.std.specs.Int.{w32, w64}
use Rattle.std.proofs.lemmas.List.{length-append, append-nil}
use Rattle.ws_model.specs.declared.bytes.NoMemory.{NoMemory}
use Rattle.ws_model.specs.declared.event.Event.{Event}
use Rattle.ws_model.specs.declared.event.What.{What}
use Rattle.ws_record.specs.Text.{number_text, NumberFits}
use Rattle.ws_record.specs.Batch.{what_text, WhatFits, event_text, EventFits, AreEvents, batch_text, IsBatch}
use Rattle.ws_record.specs.Reading.{Begins, Lacks, Reads, Apart, both, BothFit}
use Rattle.ws_record.specs.NumberLaws.{wide32, wide64, number-apart, length-number_text}
use Rattle.ws_record.specs.FieldLaws.{both-apart}
use Rattle.ws_record.specs.KindLaws.{what-apart}

-- an event as it is read: the serial, the time, and what happened
abbrev Parts : Type 0
Parts = ℕ × (ℕ × What)

abbrev pub parts_text : Parts → List ℕ
parts_text = both (number_text w64) (both (number_text w64) what_text)

abbrev pub PartsFit : Parts → Type 0
PartsFit = BothFit (NumberFits w64) (BothFit (NumberFits w64) WhatFits)

abbrev parts : Event → Parts
parts e = (e.serial, (e.t, e.what))

parts-fit : (e : Event) → EventFits e → PartsFit (parts e)
parts-fit e fits = (fits.serial, (omega (arith, fits.time), fits.what))

parts-apart : Apart parts_text PartsFit
parts-apart =
    both-apart (number_text w64) (NumberFits w64) (both (number_text w64) what_text) (BothFit (NumberFits w64) WhatFits) (number-apart w64 wide64)
    (both-apart (number_text w64) (NumberFits w64) what_text WhatFits (number-apart w64 wide64) what-apart)

pub event-apart : Apart event_text EventFits
event-apart x y r s fx fy e =
    let p = parts-apart (parts x) (parts y) r s (parts-fit x fx) (parts-fit y fy) e in
    (λ i. record { serial = (p.0 i).0; t = (p.0 i).1.0; what = (p.0 i).1.1 }, p.1)

-- where the three parts are lacking, or the time is none
pub event-lacks : (bytes : List ℕ) → Lacks parts_text PartsFit bytes → Lacks event_text EventFits bytes
event-lacks bytes lacks e rest fits d = lacks (parts e) rest (parts-fit e fits) d

pub event-lacks_time : (bytes : List ℕ) (serial t : ℕ) (what : What) (rest : List ℕ) → Begins parts_text PartsFit bytes (serial, (t, what)) rest → 2 ^ 48 ≤ t → Lacks event_text EventFits bytes
event-lacks_time bytes serial t what rest begins late e r fits d =
    let p = parts-apart (serial, (t, what)) (parts e) rest r begins.fit (parts-fit e fits) (sym begins.parts ∙ d) in
    let same : t ≡ e.t = ap (λ (q : Parts). q.1.0) p.0 in
    omega (arith, late, same, fits.time)

-- ---- lists of events

-- as many events, one behind the other
pub events-apart : (count : ℕ) → Apart (flat_map event_text) (AreEvents count)
events-apart count [] [] r s fx fy e = (refl, e)
events-apart count [] (y ∷ ys) r s fx fy e = absurd (omega (arith, fx.0, fy.0))
events-apart count (x ∷ xs) [] r s fx fy e = absurd (omega (arith, fx.0, fy.0))
events-apart count (x ∷ xs) (y ∷ ys) r s fx fy e =
    let first = event-apart x y (flat_map event_text xs ++ r) (flat_map event_text ys ++ s) fx.1.0 fy.1.0
    (sym (append_assoc (event_text x) (flat_map event_text xs) r) ∙ e ∙ append_assoc (event_text y) (flat_map event_text ys) s) in
    let same : length ys ≡ length xs = omega (arith, fx.0, fy.0) in
    let others = events-apart (length xs) xs ys r s (refl, fx.1.1) (same, fy.1.1) first.1 in
    (λ i. first.0 i ∷ others.0 i, others.1)

-- fewer events were read than there are to be, and what is left begins with none
pub events-lacks : (xs ys : List Event) (rest r : List ℕ) → AllByRecursion EventFits xs → AllByRecursion EventFits ys → length xs < length ys → Lacks event_text EventFits rest
    → flat_map event_text xs ++ rest ≡ flat_map event_text ys ++ r → ⊥
events-lacks [] [] rest r fx fy short lacks e = omega (arith, short)
events-lacks (x ∷ xs) [] rest r fx fy short lacks e = omega (arith, short)
events-lacks [] (y ∷ ys) rest r fx fy short lacks e =
    lacks y (flat_map event_text ys ++ r) fy.0 (e ∙ append_assoc (event_text y) (flat_map event_text ys) r)
events-lacks (x ∷ xs) (y ∷ ys) rest r fx fy short lacks e =
    let first = event-apart x y (flat_map event_text xs ++ rest) (flat_map event_text ys ++ r) fx.0 fy.0
    (sym (append_assoc (event_text x) (flat_map event_text xs) rest) ∙ e ∙ append_assoc (event_text y) (flat_map event_text ys) r) in
    events-lacks xs ys rest r fx.1 fy.1 (omega (arith, short)) lacks first.1

-- one event more
pub all_push : (xs : List Event) (x : Event) → AllByRecursion EventFits xs → EventFits x → AllByRecursion EventFits (xs ++ x ∷ [])
all_push [] x fits fit = (fit, tt)
all_push (y ∷ ys) x fits fit = (fits.0, all_push ys x fits.1 fit)

pub events_push : (xs : List Event) (x : Event) → flat_map event_text (xs ++ x ∷ []) ≡ flat_map event_text xs ++ event_text x
events_push [] x = append-nil (event_text x)
events_push (y ∷ ys) x = ap (λ (t : List ℕ). event_text y ++ t) (events_push ys x) ∙ sym (append_assoc (event_text y) (flat_map event_text ys) (event_text x))

-- ---- batches

batch-fit : (es : List Event) → IsBatch es → AreEvents (length es) es
batch-fit es b = (refl, b.fit)

pub batch-apart : Apart batch_text IsBatch
unfolding batch_text
batch-apart x y r s bx by e =
    let n = number-apart w32 wide32 (length x) (length y) (flat_map event_text x ++ r) (flat_map event_text y ++ s) bx.few by.few
    (sym (append_assoc (number_text w32 (length x)) (flat_map event_text x) r) ∙ e ∙ append_assoc (number_text w32 (length y)) (flat_map event_text y) s) in
    events-apart (length x) x y r s (refl, bx.fit) (sym n.0, by.fit) n.1

-- without a count, with a count of none, without as many events
pub batch-lacks_count : (bytes : List ℕ) → Lacks (number_text w32) (NumberFits w32) bytes → Lacks batch_text IsBatch bytes
unfolding batch_text
batch-lacks_count bytes lacks es rest b e = lacks (length es) (flat_map event_text es ++ rest) b.few (e ∙ append_assoc (number_text w32 (length es)) (flat_map event_text es) rest)

batch-count : (bytes middle : List ℕ) (count : ℕ) → Begins (number_text w32) (NumberFits w32) bytes count middle → (es : List Event) (rest : List ℕ) → IsBatch es → bytes ≡ batch_text es ++ rest
    → (count ≡ length es) × (middle ≡ flat_map event_text es ++ rest)
unfolding batch_text
batch-count bytes middle count first es rest b e =
    number-apart w32 wide32 count (length es) middle (flat_map event_text es ++ rest) first.fit b.few (sym first.parts ∙ e ∙ append_assoc (number_text w32 (length es)) (flat_map event_text es) rest)

pub batch-lacks_some : (bytes middle : List ℕ) (count : ℕ) → Begins (number_text w32) (NumberFits w32) bytes count middle → count ≡ 0 → Lacks batch_text IsBatch bytes
batch-lacks_some bytes middle count first none es rest b e = omega (arith, none, (batch-count bytes middle count first es rest b e).0, b.some)

pub batch-lacks_events : (bytes middle : List ℕ) (count : ℕ) → Begins (number_text w32) (NumberFits w32) bytes count middle → Lacks (flat_map event_text) (AreEvents count) middle → Lacks batch_text IsBatch bytes
batch-lacks_events bytes middle count first lacks es rest b e =
    let n = batch-count bytes middle count first es rest b e in
    lacks es rest (sym n.0, b.fit) n.1

pub batch-begins : (bytes middle : List ℕ) (count : ℕ) (es : List Event) (rest : List ℕ) → Begins (number_text w32) (NumberFits w32) bytes count middle → (count ≡ 0 → ⊥)
    → Begins (flat_map event_text) (AreEvents count) middle es rest → Begins batch_text IsBatch bytes es rest
unfolding batch_text
batch-begins bytes middle count es rest first some events =
    let is = events.fit.0 in
    record {
      fit = record { some = omega (arith, is, some); few = omega (arith, is, first.fit); fit = events.fit.1 };
      parts = rw is (first.parts ∙ ap (λ (t : List ℕ). number_text w32 count ++ t) events.parts ∙ sym (append_assoc (number_text w32 count) (flat_map event_text es) rest));
    }

-- ---- lengths

-- an event has a byte at least
event-some : (e : Event) → 0 < length (event_text e)
event-some e =
    omega (arith, length-append (number_text w64 e.serial) (number_text w64 e.t ++ what_text e.what), length-number_text w64 wide64 e.serial)

pub events-le : (es : List Event) → length es ≤ length (flat_map event_text es)
events-le [] = omega arith
events-le (e ∷ es) = omega (arith, event-some e, events-le es, length-append (event_text e) (flat_map event_text es))

pub event-le : (es : List Event) (i : ℕ) (d : Event) → i < length es → length (event_text (get_or es i d)) ≤ length (flat_map event_text es)
event-le [] i d lt = absurd (omega (arith, lt))
event-le (e ∷ es) zero d lt = omega (arith, length-append (event_text e) (flat_map event_text es))
event-le (e ∷ es) (suc i) d lt = omega (arith, event-le es i d (omega (arith, lt)), length-append (event_text e) (flat_map event_text es))

pub length-batch_text : (es : List Event) → length (batch_text es) ≡ 4 + length (flat_map event_text es)
unfolding batch_text
length-batch_text es = omega (arith, length-append (number_text w32 (length es)) (flat_map event_text es), length-number_text w32 wide32 (length es))

-- ---- what was read of the events is the batch's

pub front-reads : {X : Type 0} (view : X → List Event × List ℕ) (bytes middle : List ℕ) (count : ℕ) → Begins (number_text w32) (NumberFits w32) bytes count middle → (count ≡ 0 → ⊥)
    → (r : Result (Option X) NoMemory) → Reads view (flat_map event_text) (AreEvents count) middle r → Reads view batch_text IsBatch bytes r
front-reads view bytes middle count first some (Ok (Some x)) events = batch-begins bytes middle count (view x).0 (view x).1 first some events
front-reads view bytes middle count first some (Ok None) lacks = batch-lacks_events bytes middle count first lacks
front-reads view bytes middle count first some (Err e) unread = tt

-- the batch that was read is the one whose text begins the bytes, and so many bytes were used
pub read-only : (bytes rest r : List ℕ) (found es : List Event) → Begins batch_text IsBatch bytes found rest → IsBatch es → bytes ≡ batch_text es ++ r
    → (found ≡ es) × (length bytes - length rest ≡ length (batch_text es))
read-only bytes rest r found es begins b e =
    let p = batch-apart found es rest r begins.fit b (sym begins.parts ∙ e) in
    (p.0, omega (arith, ap length e, ap length p.1, length-append (batch_text es) r))
