-- How the records between two gates are read one by one.
use Rattle.std.proofs.Common.{◌≡◌, ℕ, ◌+◌, ◌<◌, ◌≤◌, ◌^◌, List, [], ◌∷◌, ◌++◌, length, take, drop, refl, sym, ◌∙◌, ap, subst, arith, append_assoc, length-append, Option, Some, None}
use Rattle.std.specs.Prelude.{All}
use Rattle.std.specs.Int.{w32}
use Rattle.std.proofs.lemmas.List.{drop-drop, drop_at, take_at}
use Rattle.std.proofs.lemmas.List.Elements.{All-head, All-tail}
use Rattle.ws_record.specs.Text.{number_text}
use Rattle.ws_record.specs.NumberLaws.{wide32, number-apart}
use Rattle.ws_journal.specs.declared.store.Edition.{Edition}
use Rattle.ws_journal.specs.declared.scan.Start.{Start}
use Rattle.ws_journal.specs.declared.scan.Start.TheVariants.{Shut, Short, Open}
use Rattle.ws_journal.specs.Text.{digest_text, record_text, records, front, head_text, IsPayload}
use Rattle.ws_journal.specs.Image.{digest_len, IsCutShort}
use Rattle.ws_journal.specs.Device.{kept_text, IsStart}
use Rattle.ws_journal.specs.declared.store.Edition.TheVariants.{Second}
use Rattle.ws_journal.specs.Stands.{IsLeft}
use Rattle.ws_journal.proofs.Files.{doubt_split}
use Rattle.ws_journal.specs.UpTo.{IsUpTo}
use Rattle.ws_journal.proofs.Texts.{record_whole, not_cut_short, length-digest, length-number}
use Rattle.ws_journal.proofs.Found.{length-record_text}
use Rattle.ws_journal.proofs.Spare.{length-head_text}

-- where an open record stands, its start is read
pub opens : (edition : Edition) (left payload next : List ℕ) (start : Start) → length payload < 2 ^ 32 → 0 < length next → left ≡ 1 ∷ record_text edition payload ++ next → IsStart edition left start
    → (kept : Option (List ℕ)) × (start ≡ Open (length payload) kept)
unfolding record_text
opens edition left payload next Shut short some is (gate, after, there, shut) = absurd (shut (cc))
opens edition left payload next Short short some is (after, there, cut) =
    let same : record_text edition payload ++ next ≡ after = cc in
    absurd (not_cut_short edition (digest_text edition payload) payload (record_text edition payload ++ next) (record_whole edition payload next short some) (subst (IsCutShort edition) (sym same) cut))
opens edition left payload next (Open len kept) short some is (after, stands) =
    let number = number_text w32 (length payload) in
    let digest = digest_text edition payload in
    let parts : number_text w32 len ++ (kept_text kept ++ after) ≡ number ++ digest ++ payload ++ next = let whole = sym stands.is ∙ is in cc in
    let joined = append_assoc (number ++ digest) payload next ∙ append_assoc number digest (payload ++ next) in
    let once = number-apart w32 wide32 len (length payload) (kept_text kept ++ after) (digest ++ (payload ++ next)) stands.short short (parts ∙ joined) in
    (kept, ap (λ (n : ℕ). Open n kept) once.0)

pub one_len : (start : Start) (m n : ℕ) (kept held : Option (List ℕ)) → start ≡ Open m kept → start ≡ Open n held → m ≡ n
one_len start m n kept held first second = cc

module _ (edition : Edition) (at end : ℕ) (left file : List ℕ) where
  -- the last gate
  pub at_last : (payloads : List (List ℕ)) → IsUpTo edition at end payloads left file → end ≤ at → payloads ≡ []
  at_last [] up last = refl
  at_last (p ∷ ps) up last = absurd (omega (arith, up.place, length-append (1 ∷ record_text edition p) (records edition ps), last))

  -- before the last gate there is one more
  pub first_of : (payloads : List (List ℕ)) → IsUpTo edition at end payloads left file → at < end → (payload : List ℕ) × (rest : List (List ℕ)) × (payloads ≡ payload ∷ rest)
  first_of [] up before = absurd (omega (arith, up.place, before))
  first_of (p ∷ ps) up before = (p, ps, refl)

  pub no_more : IsUpTo edition at end [] left file → end ≡ at
  no_more up = omega (arith, up.place)

  module _ (payload : List ℕ) (payloads : List (List ℕ)) (up : IsUpTo edition at end (payload ∷ payloads) left file) where
    abbrev text : List ℕ
    text = 1 ∷ record_text edition payload

    abbrev next : List ℕ
    next = records edition payloads ++ left

    pub here : drop at file ≡ text ++ next
    here = up.is ∙ append_assoc text (records edition payloads) left

    pub short : length payload < 2 ^ 32
    short = (All-head IsPayload payload payloads up.batches).short

    pub some : 0 < length next
    some = let gate = up.gate in omega (arith, length-append (records edition payloads) left)

    pub fits : at + length text ≤ end
    fits = omega (arith, up.place, length-append text (records edition payloads))

    pub behind : (place : ℕ) → place ≡ at + length text → IsUpTo edition place end payloads left file
    behind place is = record {
      is = ap (λ (n : ℕ). drop n file) is ∙ sym (drop-drop (length text) at file) ∙ ap (drop (length text)) here ∙ drop_at text next (length text) refl;
      batches = All-tail IsPayload payload payloads up.batches;
      gate = up.gate;
      place = omega (arith, up.place, is, length-append text (records edition payloads));
    }

    pub length-text : length text ≡ 5 + digest_len edition + length payload
    length-text = omega (arith, length-record_text edition payload)

    -- its payload
    pub payload_there : (place : ℕ) → place ≡ at + (5 + digest_len edition) → take (length payload) (drop place file) ≡ payload
    unfolding record_text
    payload_there place is =
        let before = 1 ∷ (number_text w32 (length payload) ++ digest_text edition payload) in
        let long : length before ≡ 5 + digest_len edition =
        omega (arith, length-append (number_text w32 (length payload)) (digest_text edition payload), length-number (length payload), length-digest edition payload) in
        let parts : drop at file ≡ before ++ (payload ++ next) = here ∙ append_assoc before payload next in
        let there : drop place file ≡ payload ++ next =
        ap (λ (n : ℕ). drop n file) is ∙ sym (drop-drop (5 + digest_len edition) at file) ∙ ap (drop (5 + digest_len edition)) parts ∙ drop_at before (payload ++ next) (5 + digest_len edition) long in
        ap (take (length payload)) there ∙ take_at payload next (length payload) refl

-- the device that counts, up to its last gate
pub up_to : (edition : Edition) (generation end : ℕ) (payloads : List (List ℕ)) (gate : ℕ) (after file : List ℕ) → All IsPayload payloads → file ≡ front edition generation payloads ++ gate ∷ after
    → end ≡ length (front edition generation payloads) → IsUpTo edition 17 end payloads (gate ∷ after) file
unfolding front
up_to edition generation end payloads gate after file batches is last =
    let head = 1 ∷ head_text edition generation in
    let open_records = records edition payloads in
    let long : length head ≡ 17 = omega (arith, length-head_text edition generation) in record {
      is = ap (drop 17) (is ∙ append_assoc head open_records (gate ∷ after)) ∙ drop_at head (open_records ++ gate ∷ after) 17 long;
      batches = batches;
      gate = omega arith;
      place = omega (arith, last, long, length-append head open_records);
    }

-- with a batch in doubt behind it, or with none
pub left_up_to : (edition : Edition) (generation end : ℕ) (payloads : List (List ℕ)) (doubt : Option (List ℕ)) (file : List ℕ) → All IsPayload payloads → IsLeft (front edition generation payloads) doubt file
    → end ≡ length (front edition generation payloads) → (left : List ℕ) × IsUpTo edition 17 end payloads left file
left_up_to edition generation end payloads None file batches shut last =
    (shut.gate ∷ shut.after, up_to edition generation end payloads shut.gate shut.after file batches shut.is last)
left_up_to edition generation end payloads (Some other) file batches left last =
    let behind_it = record_text Second other ++ 0 ∷ left.after in
    (left.gate ∷ behind_it, up_to edition generation end payloads left.gate behind_it file batches (doubt_split (front edition generation payloads) (record_text Second other) file left) last)
