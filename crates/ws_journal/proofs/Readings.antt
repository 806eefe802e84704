-- What the files of a journal read as.
use Rattle.std.proofs.Common.{◌≡◌, inl, inr, ℕ, ◌^◌, ◌<◌, List, [], ◌∷◌, ◌++◌, refl, sym, ◌∙◌, ap, arith, append_assoc, length-append}
use Rattle.std.specs.Prelude.{All}
use Rattle.std.proofs.lemmas.List.{append-nil}
use Rattle.ws_journal.specs.declared.store.Edition.{Edition}
use Rattle.ws_journal.specs.declared.store.Edition.TheVariants.{First, Second}
use Rattle.ws_journal.specs.Text.{head_text, record_text, records, front, IsPayload}
use Rattle.ws_journal.specs.Image.{Reads, found, IsGeneration, IsBelow, IsDevice, IsFound}
use Rattle.ws_journal.specs.Kept.{IsShut}

pub records-push : (edition : Edition) (payloads : List (List ℕ)) (payload : List ℕ) → records edition (payloads ++ payload ∷ []) ≡ records edition payloads ++ 1 ∷ record_text edition payload
records-push edition [] payload = append-nil (1 ∷ record_text edition payload)
records-push edition (p ∷ payloads) payload =
    ap (λ (l : List ℕ). 1 ∷ record_text edition p ++ l) (records-push edition payloads payload)
    ∙ sym (append_assoc (1 ∷ record_text edition p) (records edition payloads) (1 ∷ record_text edition payload))

pub front-push : (edition : Edition) (generation : ℕ) (payloads : List (List ℕ)) (payload : List ℕ)
    → front edition generation (payloads ++ payload ∷ []) ≡ front edition generation payloads ++ 1 ∷ record_text edition payload
unfolding front
front-push edition generation payloads payload =
    ap (λ (l : List ℕ). 1 ∷ head_text edition generation ++ l) (records-push edition payloads payload)
    ∙ sym (append_assoc (1 ∷ head_text edition generation) (records edition payloads) (1 ∷ record_text edition payload))

small : (edition : Edition) (generation : ℕ) → IsGeneration edition generation → generation < 2 ^ 64
small First generation is = omega (arith, is.1)
small Second generation is = omega (arith, is.1)

-- a device up to its last gate, which isn't open, is a used one whose records are these
pub shut_device : (edition : Edition) (generation : ℕ) (payloads : List (List ℕ)) (file : List ℕ) → IsGeneration edition generation → All IsPayload payloads
    → IsShut (front edition generation payloads) file → (rest : List ℕ) × IsDevice edition generation rest file × IsFound edition payloads rest
unfolding front
shut_device edition generation payloads file is batches shut =
    let open_records = records edition payloads in
    let rest = open_records ++ shut.gate ∷ shut.after in (
      rest,
      (
        record {
          is = shut.is ∙ append_assoc (1 ∷ head_text edition generation) open_records (shut.gate ∷ shut.after);
          fits = small edition generation is;
          gate = omega (arith, length-append open_records (shut.gate ∷ shut.after));
        },
        is,
      ),
      (shut.gate, shut.after, record { is = refl; batches = batches }, shut.not_open),
    )

-- beside a device that doesn't count, in either order, it reads as these batches
pub reads_found : (edition : Edition) (generation : ℕ) (payloads : List (List ℕ)) (file second : List ℕ) → IsGeneration edition generation → All IsPayload payloads
    → IsShut (front edition generation payloads) file → IsBelow generation second → Reads file second (found edition generation payloads) × Reads second file (found edition generation payloads)
reads_found edition generation payloads file second is batches shut below =
    let device = shut_device edition generation payloads file is batches shut in
    ((device.0, inl (device.1, below), device.2), (device.0, inr (device.1, below), device.2))
