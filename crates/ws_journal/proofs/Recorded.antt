-- The texts of batches that records hold.
use Rattle.std.proofs.Common.{List, slice_index_or, refl}
use Rattle.std.specs.Prelude.{All}
use Rattle.std.proofs.lemmas.List.Elements.{All-map}
use Rattle.ws_record.specs.Batch.{batch_text}
use Rattle.ws_journal.specs.declared.store.Batch.{Batch}
use Rattle.ws_journal.specs.Text.{IsPayload, IsRecorded, texts}

-- batches as records hold them have texts that are payloads
pub payloads_of : (batches : List Batch) → All IsRecorded batches → All IsPayload (texts batches)
payloads_of batches recorded =
    All-map IsPayload (λ (batch : Batch). batch_text batch.events) batches (λ k d within.
    let one = recorded k d within in
    record { events = (slice_index_or batches k d).events; batch = one.events; text = refl; short = one.short })
