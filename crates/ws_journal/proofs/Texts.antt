-- No text of a journal's device begins another.
use Rattle.std.proofs.Common.{◌≡◌, ◌⊎◌, inl, inr, ℕ, ◌+◌, ◌<◌, ◌^◌, List, [], ◌∷◌, ◌++◌, length, take, drop, refl, sym, ◌∙◌, ap, arith, append_assoc, length-append}
use Rattle.std.specs.Prelude.{◌≢◌, All}
use Rattle.std.specs.Int.{w32}
use Rattle.std.proofs.lemmas.List.{take_at, drop_at}
use Rattle.std.proofs.lemmas.List.Elements.{All-head, All-tail}
use Rattle.sha2.proofs.Facts256.{length-sha256}
use Rattle.ws_record.specs.Text.{number_text}
use Rattle.ws_record.specs.NumberLaws.{wide32, length-number_text, number-apart}
use Rattle.ws_journal.specs.declared.store.Edition.{Edition}
use Rattle.ws_journal.specs.declared.store.Edition.TheVariants.{First, Second}
use Rattle.ws_journal.specs.Text.{digest_text, record_text, records, IsPayload}
use Rattle.ws_journal.specs.Image.{digest_len, IsCutShort, IsWhole, IsKept}

-- two fronts of one length
pub apart : (a b x y : List ℕ) → length a ≡ length b → a ++ x ≡ b ++ y → (a ≡ b) × (x ≡ y)
apart a b x y same is = (
  sym (take_at a x (length b) same) ∙ ap (take (length b)) is ∙ take_at b y (length b) refl,
  sym (drop_at a x (length b) same) ∙ ap (drop (length b)) is ∙ drop_at b y (length b) refl,
)

pub length-digest : (edition : Edition) (payload : List ℕ) → length (digest_text edition payload) ≡ digest_len edition
length-digest First payload = refl
length-digest Second payload = length-sha256 payload

pub length-number : (n : ℕ) → length (number_text w32 n) ≡ 4
length-number n = length-number_text w32 wide32 n

-- a whole record, its number first
whole_split : (number kept payload next : List ℕ) → number ++ kept ++ payload ++ next ≡ number ++ (kept ++ (payload ++ next))
whole_split number kept payload next = append_assoc (number ++ kept) payload next ∙ append_assoc number kept (payload ++ next)

-- a record is a whole one, with its own digest
pub record_whole : (edition : Edition) (payload next : List ℕ) → length payload < 2 ^ 32 → 0 < length next → IsWhole edition (digest_text edition payload) payload (record_text edition payload ++ next)
unfolding record_text
record_whole edition payload next short some = (short, length-digest edition payload, (next, some, refl))

pub record_kept : (edition : Edition) (payload : List ℕ) → IsKept edition (digest_text edition payload) payload
record_kept First payload = tt
record_kept Second payload = refl

-- one kept digest, one payload
pub wholes : (edition : Edition) (kept other payload content after : List ℕ) → IsWhole edition kept payload after → IsWhole edition other content after → (kept ≡ other) × (payload ≡ content)
wholes edition kept other payload content after first second =
    let x = first.2.0 in
    let y = second.2.0 in
    let m = number_text w32 (length payload) in
    let n = number_text w32 (length content) in
    let is : m ++ (kept ++ (payload ++ x)) ≡ n ++ (other ++ (content ++ y)) =
    sym (whole_split m kept payload x) ∙ sym first.2.2 ∙ second.2.2 ∙ whole_split n other content y in
    let numbers = number-apart w32 wide32 (length payload) (length content) (kept ++ (payload ++ x)) (other ++ (content ++ y)) first.0 second.0 is in
    let digests = apart kept other (payload ++ x) (content ++ y) (first.1 ∙ sym second.1) numbers.1 in
    let payloads = apart payload content x y numbers.0 digests.1 in
    (digests.0, payloads.0)

length-whole : (edition : Edition) (kept payload after : List ℕ) (whole : IsWhole edition kept payload after) → length after ≡ 4 + digest_len edition + length payload + length whole.2.0
length-whole edition kept payload after whole =
    let number = number_text w32 (length payload) in
    let next = whole.2.0 in
    omega (arith, ap length whole.2.2, length-append (number ++ kept ++ payload) next, length-append (number ++ kept) payload, length-append number kept, length-number (length payload), whole.1)

-- what is cut short isn't whole
pub not_cut_short : (edition : Edition) (kept payload after : List ℕ) → IsWhole edition kept payload after → IsCutShort edition after → ⊥
not_cut_short edition kept payload after whole (inl short) = omega (arith, length-whole edition kept payload after whole, short)
not_cut_short edition kept payload after whole (inr (len, fits, number, short)) =
    let mine = number_text w32 (length payload) in
    let next = whole.2.0 in
    let begins : take 4 after ≡ mine = ap (take 4) (whole.2.2 ∙ whole_split mine kept payload next) ∙ take_at mine (kept ++ (payload ++ next)) 4 (length-number (length payload)) in
    let same : number_text w32 len ++ [] ≡ mine ++ [] = ap (λ (l : List ℕ). l ++ []) (sym number ∙ begins) in
    let lens = number-apart w32 wide32 len (length payload) [] [] fits whole.0 same in
    let some = whole.2.1 in
    omega (arith, length-whole edition kept payload after whole, short, lens.0)

-- ---- one record behind another

pub record_apart : (edition : Edition) (payload content x y : List ℕ) → length payload < 2 ^ 32 → length content < 2 ^ 32
    → record_text edition payload ++ x ≡ record_text edition content ++ y → (payload ≡ content) × (x ≡ y)
unfolding record_text
record_apart edition payload content x y short few is =
    let m = number_text w32 (length payload) in
    let n = number_text w32 (length content) in
    let p = digest_text edition payload in
    let q = digest_text edition content in
    let whole : m ++ (p ++ (payload ++ x)) ≡ n ++ (q ++ (content ++ y)) = sym (whole_split m p payload x) ∙ is ∙ whole_split n q content y in
    let numbers = number-apart w32 wide32 (length payload) (length content) (p ++ (payload ++ x)) (q ++ (content ++ y)) short few whole in
    let digests = apart p q (payload ++ x) (content ++ y) (length-digest edition payload ∙ sym (length-digest edition content)) numbers.1 in
    apart payload content x y numbers.0 digests.1

-- no record of a batch stands there
abbrev pub Sticks : Edition → List ℕ → Type 0
Sticks edition after = (payload next : List ℕ) → IsPayload payload → 0 < length next → after ≡ record_text edition payload ++ next → ⊥

-- the records end here
abbrev pub Ends : Edition → ℕ → List ℕ → Type 0
Ends edition gate after = (gate ≢ 1) ⊎ Sticks edition after

not_here : (edition : Edition) (gate : ℕ) (after payload next : List ℕ) → Ends edition gate after → gate ≡ 1 → IsPayload payload → 0 < length next → after ≡ record_text edition payload ++ next → ⊥
not_here edition gate after payload next (inl shut) is batch some text = shut is
not_here edition gate after payload next (inr sticks) is batch some text = sticks payload next batch some text

-- the records go on behind the first one
step : (edition : Edition) (payload : List ℕ) (payloads : List (List ℕ)) (left : List ℕ)
    → records edition (payload ∷ payloads) ++ left ≡ 1 ∷ (record_text edition payload ++ (records edition payloads ++ left))
step edition payload payloads left = ap (λ (l : List ℕ). 1 ∷ l) (append_assoc (record_text edition payload) (records edition payloads) left)

some_left : (front : List ℕ) (gate : ℕ) (after : List ℕ) → 0 < length (front ++ gate ∷ after)
some_left front gate after = omega (arith, length-append front (gate ∷ after))

pub one_end : (edition : Edition) (payloads contents : List (List ℕ)) (gate other : ℕ) (after behind : List ℕ) → All IsPayload payloads → All IsPayload contents
    → Ends edition gate after → Ends edition other behind → records edition payloads ++ gate ∷ after ≡ records edition contents ++ other ∷ behind
    → (payloads ≡ contents) × (gate ≡ other) × (after ≡ behind)
one_end edition [] [] gate other after behind first second ends stops is = (refl, cc, cc)
one_end edition [] (q ∷ qs) gate other after behind first second ends stops is =
    let next = records edition qs ++ other ∷ behind in
    let whole : gate ∷ after ≡ 1 ∷ (record_text edition q ++ next) = is ∙ step edition q qs (other ∷ behind) in
    absurd (not_here edition gate after q next ends (cc) (All-head IsPayload q qs second) (some_left (records edition qs) other behind) (cc))
one_end edition (p ∷ ps) [] gate other after behind first second ends stops is =
    let next = records edition ps ++ gate ∷ after in
    let whole : other ∷ behind ≡ 1 ∷ (record_text edition p ++ next) = sym is ∙ step edition p ps (gate ∷ after) in
    absurd (not_here edition other behind p next stops (cc) (All-head IsPayload p ps first) (some_left (records edition ps) gate after) (cc))
one_end edition (p ∷ ps) (q ∷ qs) gate other after behind first second ends stops is =
    let x = records edition ps ++ gate ∷ after in
    let y = records edition qs ++ other ∷ behind in
    let whole : 1 ∷ (record_text edition p ++ x) ≡ 1 ∷ (record_text edition q ++ y) = sym (step edition p ps (gate ∷ after)) ∙ is ∙ step edition q qs (other ∷ behind) in
    let inner : record_text edition p ++ x ≡ record_text edition q ++ y = cc in
    let one = record_apart edition p q x y (All-head IsPayload p ps first).short (All-head IsPayload q qs second).short inner in
    let rest = one_end edition ps qs gate other after behind (All-tail IsPayload p ps first) (All-tail IsPayload q qs second) ends stops one.1 in
    ((λ i. one.0 i ∷ rest.0 i), rest.1, rest.2)
