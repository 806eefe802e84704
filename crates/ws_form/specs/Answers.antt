-- What a call may answer, and what its answer promises.
use Rattle.std.specs.Prelude.{◌≡◌, ◌≢◌, ℕ, ◌≤◌, true, List, length, Result, Ok, Err}
use Rattle.std.specs.List.{All}
use Rattle.ws_model.specs.Key.{is_key}
use Rattle.ws_form.specs.declared.ask.Ask.{Ask}
use Rattle.ws_form.specs.declared.ask.Ask.TheVariants.{Subscribe, Unsubscribe, Publish}
use Rattle.ws_form.specs.declared.fault.AskFault.{AskFault}
use Rattle.ws_form.specs.declared.fault.AskFault.TheVariants.{NoMemory}

-- the answer is the one that is meant, but that memory may run out
abbrev pub Gives : {T : Type 0} → Result T AskFault → Result T AskFault → Type 0
Gives meant (Ok x) = meant ≡ Ok x
Gives meant (Err fault) = fault ≢ NoMemory → meant ≡ Err fault

-- a text that a history can hold (own)
abbrev pub IsShort : List ℕ → Type 0
IsShort text = length text ≤ 900000

-- a key that a history can hold (own)
pub record IsShortKey (key : List ℕ) : Type 0 where
  pub web : is_key key ≡ true
  pub short : IsShort key

-- A sound ask: topics and callback are keys, the lease is 60 to 864,000 seconds, the secret has at
-- most 199 bytes, a publisher tells at most 16 topics, and no text is too long (own).
abbrev pub IsSound : Ask → Type 0
IsSound (Subscribe topic echo callback secret granted) =
    IsShortKey topic × IsShort echo × IsShortKey callback × (length secret ≤ 199)
    × (60 ≤ granted) × (granted ≤ 864000)
IsSound (Unsubscribe topic echo callback) = IsShortKey topic × IsShort echo × IsShortKey callback
IsSound (Publish topics) = All IsShortKey topics × (length topics ≤ 16)
