-- Two devices read as at most one thing.
use Rattle.std.proofs.Common.{◌≡◌, ◌⊎◌, inl, inr, ℕ, ◌+◌, ◌<◌, List, ◌++◌, length, refl, sym, ◌∙◌, ap, subst, arith}
use Rattle.std.specs.Prelude.{◌≢◌}
use Rattle.sha2.specs.Sha256.{sha256}
use Rattle.ws_journal.specs.declared.store.Edition.{Edition}
use Rattle.ws_journal.specs.declared.store.Edition.TheVariants.{First, Second}
use Rattle.ws_journal.specs.Text.{digest_text, record_text, records, IsPayload}
use Rattle.ws_journal.specs.Image.{Reading, fresh, found, foreign, damaged, altered, Reads, IsUnused, Counts, IsFound, IsDamaged, IsAltered, IsCutShort, IsWhole, IsKept}
use Rattle.ws_journal.proofs.Texts.{Sticks, one_end, wholes, not_cut_short, record_whole}
use Rattle.ws_journal.proofs.Heads.{used_once, foreign_used, foreign_device, foreign_below, one_place, lesser, counts_once, fresh_counts}

-- ---- the records of the device that counts

-- a record of a batch that stands there is whole
record_there : (edition : Edition) (payload next after : List ℕ) → IsPayload payload → 0 < length next → after ≡ record_text edition payload ++ next → IsWhole edition (digest_text edition payload) payload after
record_there edition payload next after batch some is = subst (IsWhole edition (digest_text edition payload) payload) (sym is) (record_whole edition payload next batch.short some)

abbrev NoBatch : Edition → List ℕ → Type 0
NoBatch edition after = (kept : List ℕ) × (payload : List ℕ) × IsWhole edition kept payload after × IsKept edition kept payload × (IsPayload payload → ⊥)

pub damage_sticks : (edition : Edition) (after : List ℕ) → IsCutShort edition after ⊎ NoBatch edition after → Sticks edition after
damage_sticks edition after (inl short) payload next batch some is = not_cut_short edition (digest_text edition payload) payload after (record_there edition payload next after batch some is) short
damage_sticks edition after (inr (kept, content, whole, same, unfit)) payload next batch some is =
    unfit (subst IsPayload (wholes edition (digest_text edition payload) kept payload content after (record_there edition payload next after batch some is) whole).1 batch)

pub change_sticks : (kept digest payload after : List ℕ) → IsWhole Second kept payload after → digest ≡ sha256 payload → kept ≢ digest → Sticks Second after
change_sticks kept digest content after whole is_digest differs payload next batch some is =
    let once = wholes Second (digest_text Second payload) kept payload content after (record_there Second payload next after batch some is) whole in
    differs (sym once.0 ∙ ap sha256 once.1 ∙ sym is_digest)

found_once : (edition : Edition) (payloads contents : List (List ℕ)) (rest : List ℕ) → IsFound edition payloads rest → IsFound edition contents rest → payloads ≡ contents
found_once edition payloads contents rest (gate, after, stand, shut) (other, behind, again, closed) =
    (one_end edition payloads contents gate other after behind stand.batches again.batches (inl shut) (inl closed) (sym stand.is ∙ again.is)).0

found_damaged : (edition : Edition) (payloads : List (List ℕ)) (rest : List ℕ) (at : ℕ) → IsFound edition payloads rest → IsDamaged edition rest at → ⊥
found_damaged edition payloads rest at (gate, after, stand, shut) (contents, behind, again, place, why) =
    shut (one_end edition payloads contents gate 1 after behind stand.batches again.batches (inl shut) (inr (damage_sticks edition behind why)) (sym stand.is ∙ again.is)).1

found_altered : (edition : Edition) (payloads : List (List ℕ)) (rest : List ℕ) (at : ℕ) (kept digest : List ℕ) → IsFound edition payloads rest → IsAltered edition rest at kept digest → ⊥
found_altered First payloads rest at kept digest there altered_there = altered_there
found_altered Second payloads rest at kept digest (gate, after, stand, shut) (contents, behind, again, place, (payload, whole, is, differs)) =
    shut (one_end Second payloads contents gate 1 after behind stand.batches again.batches (inl shut) (inr (change_sticks kept digest payload behind whole is differs)) (sym stand.is ∙ again.is)).1

damaged_once : (edition : Edition) (rest : List ℕ) (at other : ℕ) → IsDamaged edition rest at → IsDamaged edition rest other → at ≡ other
damaged_once edition rest at other (payloads, after, stand, place, why) (contents, behind, again, there, cause) =
    let once = one_end edition payloads contents 1 1 after behind stand.batches again.batches (inr (damage_sticks edition after why)) (inr (damage_sticks edition behind cause)) (sym stand.is ∙ again.is) in
    place ∙ ap (λ (ps : List (List ℕ)). 17 + length (records edition ps)) once.0 ∙ sym there

-- damaged, and altered, at one place
not_both : (after kept digest payload : List ℕ) → IsCutShort Second after ⊎ NoBatch Second after → IsWhole Second kept payload after → digest ≡ sha256 payload → kept ≢ digest → ⊥
not_both after kept digest payload (inl short) whole is differs = not_cut_short Second kept payload after whole short
not_both after kept digest payload (inr (other, content, there, same, unfit)) whole is differs =
    let once = wholes Second kept other payload content after whole there in
    differs (once.0 ∙ same ∙ ap sha256 (sym once.1) ∙ sym is)

damaged_altered : (edition : Edition) (rest : List ℕ) (at other : ℕ) (kept digest : List ℕ) → IsDamaged edition rest at → IsAltered edition rest other kept digest → ⊥
damaged_altered First rest at other kept digest there altered_there = altered_there
damaged_altered Second rest at other kept digest (payloads, after, stand, place, why) (contents, behind, again, there, (payload, whole, is, differs)) =
    let once = one_end Second payloads contents 1 1 after behind stand.batches again.batches (inr (damage_sticks Second after why)) (inr (change_sticks kept digest payload behind whole is differs)) (sym stand.is ∙ again.is) in
    not_both behind kept digest payload (subst (λ (l : List ℕ). IsCutShort Second l ⊎ NoBatch Second l) once.2 why) whole is differs

altered_once : (edition : Edition) (rest : List ℕ) (at other : ℕ) (kept digest held had : List ℕ) → IsAltered edition rest at kept digest → IsAltered edition rest other held had → (at ≡ other) × (kept ≡ held) × (digest ≡ had)
altered_once First rest at other kept digest held had first second = absurd first
altered_once Second rest at other kept digest held had (payloads, after, stand, place, (payload, whole, is, differs)) (contents, behind, again, there, (content, full, was, apart)) =
    let once = one_end Second payloads contents 1 1 after behind stand.batches again.batches
    (inr (change_sticks kept digest payload after whole is differs)) (inr (change_sticks held had content behind full was apart)) (sym stand.is ∙ again.is) in
    let same = wholes Second kept held payload content behind (subst (IsWhole Second kept payload) once.2 whole) full in (
      place ∙ ap (λ (ps : List (List ℕ)). 17 + length (records Second ps)) once.0 ∙ sym there,
      same.0,
      is ∙ ap sha256 same.1 ∙ sym was,
    )

-- ---- both devices

abbrev AreForeign : List ℕ → List ℕ → ℕ → Type 0
AreForeign a b at = Reads a b (foreign at)

fresh_foreign : (a b : List ℕ) (at : ℕ) → IsUnused a → IsUnused b → AreForeign a b at → ⊥
fresh_foreign a b at first second (inl there) = foreign_used a at there first
fresh_foreign a b at first second (inr (inl (n, below, there))) = foreign_used b at there second
fresh_foreign a b at first second (inr (inr (is, (edition, other, generation, rest, more, device, again)))) =
    fresh_counts edition generation rest a b first second (inl (device, inl second))

foreign_counts : (edition : Edition) (generation : ℕ) (rest a b : List ℕ) (at : ℕ) → Counts edition generation rest a b → AreForeign a b at → ⊥
foreign_counts edition generation rest a b at (inl (device, below)) (inl there) = foreign_device edition generation rest a at device there
foreign_counts edition generation rest a b at (inl (device, below)) (inr (inl (n, under, there))) = foreign_below generation b at below there
foreign_counts edition generation rest a b at (inl (device, below)) (inr (inr (is, (e, other, same, r, more, first, second)))) =
    let once = used_once edition e generation same rest r a device.0 first.0 in
    omega (arith, once.1, lesser generation other same more b below second)
foreign_counts edition generation rest a b at (inr (device, below)) (inl there) = foreign_below generation a at below there
foreign_counts edition generation rest a b at (inr (device, below)) (inr (inl (n, under, there))) = foreign_device edition generation rest b at device there
foreign_counts edition generation rest a b at (inr (device, below)) (inr (inr (is, (e, other, same, r, more, first, second)))) =
    let once = used_once edition other generation same rest more b device.0 second.0 in
    omega (arith, once.1, lesser generation e same r a below first)

foreign_once : (a b : List ℕ) (at other : ℕ) → AreForeign a b at → AreForeign a b other → at ≡ other
foreign_once a b at other (inl first) (inl second) = one_place a at other first second
foreign_once a b at other (inl first) (inr (inl (n, below, second))) = absurd (foreign_below n a at below first)
foreign_once a b at other (inl first) (inr (inr (is, (e, d, g, r, s, x, y)))) = absurd (foreign_device e g r a at x first)
foreign_once a b at other (inr (inl (n, below, first))) (inl second) = absurd (foreign_below n a other below second)
foreign_once a b at other (inr (inl (n, below, first))) (inr (inl (m, under, second))) = one_place b at other first second
foreign_once a b at other (inr (inl (n, below, first))) (inr (inr (is, (e, d, g, r, s, x, y)))) = absurd (foreign_device d g s b at y first)
foreign_once a b at other (inr (inr (is, (e, d, g, r, s, x, y)))) (inl second) = absurd (foreign_device e g r a other x second)
foreign_once a b at other (inr (inr (is, (e, d, g, r, s, x, y)))) (inr (inl (m, under, second))) = absurd (foreign_device d g s b other y second)
foreign_once a b at other (inr (inr first)) (inr (inr second)) = first.0 ∙ sym second.0

-- what the records of one device read as
abbrev IsRest : Edition → ℕ → List ℕ → Reading → Type 0
IsRest edition generation rest fresh = ⊥
IsRest edition generation rest (foreign at) = ⊥
IsRest edition generation rest (found e g payloads) = (edition ≡ e) × (generation ≡ g) × IsFound edition payloads rest
IsRest edition generation rest (damaged at) = IsDamaged edition rest at
IsRest edition generation rest (altered at kept digest) = IsAltered edition rest at kept digest

rest_once : (edition : Edition) (generation : ℕ) (rest : List ℕ) (first second : Reading) → IsRest edition generation rest first → IsRest edition generation rest second → first ≡ second
rest_once edition generation rest fresh second x y = absurd x
rest_once edition generation rest (foreign at) second x y = absurd x
rest_once edition generation rest (found e g payloads) fresh x y = absurd y
rest_once edition generation rest (found e g payloads) (foreign at) x y = absurd y
rest_once edition generation rest (found e g payloads) (found d h contents) x y =
    let same = found_once edition payloads contents rest x.2 y.2 in
    let editions = sym x.0 ∙ y.0 in
    let generations = sym x.1 ∙ y.1 in
    λ i. found (editions i) (generations i) (same i)
rest_once edition generation rest (found e g payloads) (damaged at) x y = absurd (found_damaged edition payloads rest at x.2 y)
rest_once edition generation rest (found e g payloads) (altered at kept digest) x y = absurd (found_altered edition payloads rest at kept digest x.2 y)
rest_once edition generation rest (damaged at) fresh x y = absurd y
rest_once edition generation rest (damaged at) (foreign other) x y = absurd y
rest_once edition generation rest (damaged at) (found e g payloads) x y = absurd (found_damaged edition payloads rest at y.2 x)
rest_once edition generation rest (damaged at) (damaged other) x y = ap damaged (damaged_once edition rest at other x y)
rest_once edition generation rest (damaged at) (altered other kept digest) x y = absurd (damaged_altered edition rest at other kept digest x y)
rest_once edition generation rest (altered at kept digest) fresh x y = absurd y
rest_once edition generation rest (altered at kept digest) (foreign other) x y = absurd y
rest_once edition generation rest (altered at kept digest) (found e g payloads) x y = absurd (found_altered edition payloads rest at kept digest y.2 x)
rest_once edition generation rest (altered at kept digest) (damaged other) x y = absurd (damaged_altered edition rest other at kept digest y x)
rest_once edition generation rest (altered at kept digest) (altered other held had) x y =
    let same = altered_once edition rest at other kept digest held had x y in
    let places = same.0 in
    let keeps = same.1 in
    let digests = same.2 in
    λ i. altered (places i) (keeps i) (digests i)

-- a device counts, and its records read so
abbrev HasRest : List ℕ → List ℕ → Reading → Type 0
HasRest a b reading = (edition : Edition) × (generation : ℕ) × (rest : List ℕ) × Counts edition generation rest a b × IsRest edition generation rest reading

has_once : (a b : List ℕ) (first second : Reading) → HasRest a b first → HasRest a b second → first ≡ second
has_once a b first second (edition, generation, rest, counts, x) (other, number, more, again, y) =
    let once = counts_once other edition number generation more rest a b again counts in
    let by_edition = subst (λ (e : Edition). IsRest e number more second) once.0 y in
    let by_generation = subst (λ (g : ℕ). IsRest edition g more second) once.1 by_edition in
    rest_once edition generation rest first second x (subst (λ (l : List ℕ). IsRest edition generation l second) once.2 by_generation)

abbrev IsSorted : List ℕ → List ℕ → Reading → Type 0
IsSorted a b reading = ((reading ≡ fresh) × IsUnused a × IsUnused b) ⊎ (((at : ℕ) × (reading ≡ foreign at) × AreForeign a b at) ⊎ HasRest a b reading)

sorted : (a b : List ℕ) (reading : Reading) → Reads a b reading → IsSorted a b reading
sorted a b fresh reads = inl (refl, reads.0, reads.1)
sorted a b (found edition generation payloads) (rest, counts, there) = inr (inr (edition, generation, rest, counts, (refl, refl, there)))
sorted a b (foreign at) reads = inr (inl (at, refl, reads))
sorted a b (damaged at) reads = inr (inr reads)
sorted a b (altered at kept digest) reads = inr (inr reads)

reads_both : (a b : List ℕ) (first second : Reading) → IsSorted a b first → IsSorted a b second → first ≡ second
reads_both a b first second (inl (x, p, q)) (inl (y, r, s)) = x ∙ sym y
reads_both a b first second (inl (x, p, q)) (inr (inl (at, y, there))) = absurd (fresh_foreign a b at p q there)
reads_both a b first second (inl (x, p, q)) (inr (inr (edition, generation, rest, counts, there))) = absurd (fresh_counts edition generation rest a b p q counts)
reads_both a b first second (inr (inl (at, x, here))) (inl (y, r, s)) = absurd (fresh_foreign a b at r s here)
reads_both a b first second (inr (inl (at, x, here))) (inr (inl (other, y, there))) = x ∙ ap foreign (foreign_once a b at other here there) ∙ sym y
reads_both a b first second (inr (inl (at, x, here))) (inr (inr (edition, generation, rest, counts, there))) = absurd (foreign_counts edition generation rest a b at counts here)
reads_both a b first second (inr (inr (edition, generation, rest, counts, here))) (inl (y, r, s)) = absurd (fresh_counts edition generation rest a b r s counts)
reads_both a b first second (inr (inr (edition, generation, rest, counts, here))) (inr (inl (at, y, there))) = absurd (foreign_counts edition generation rest a b at counts there)
reads_both a b first second (inr (inr x)) (inr (inr y)) = has_once a b first second x y

pub reads_once : (a b : List ℕ) (first second : Reading) → Reads a b first → Reads a b second → first ≡ second
reads_once a b first second x y = reads_both a b first second (sorted a b first x) (sorted a b second y)
