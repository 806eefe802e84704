-- The records between two gates of a device (own).
use Rattle.std.specs.Prelude.{◌≡◌, ℕ, ◌<◌, ◌+◌, List, ◌++◌, length, drop, All}
use Rattle.ws_journal.specs.declared.store.Edition.{Edition}
use Rattle.ws_journal.specs.Text.{records, IsPayload}

-- between these gates stand open records of these payloads, and from the second gate on this
pub record IsUpTo (edition : Edition) (at end : ℕ) (payloads : List (List ℕ)) (left file : List ℕ) : Type 0 where
  pub is : drop at file ≡ records edition payloads ++ left
  pub batches : All IsPayload payloads
  pub gate : 0 < length left
  pub place : end ≡ at + length (records edition payloads)
