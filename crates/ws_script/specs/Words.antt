-- What the readings of words and of a line answer (own). Want of memory is free.
use Rattle.std.specs.Prelude.{◌≡◌, ◌≢◌, ℕ, Bool, true, false, List, ◌∷◌, ◌++◌, Option, Some, None, Result, Ok, Err, IsErr}
use Rattle.ws_model.specs.declared.bytes.NoMemory.{NoMemory}
use Rattle.ws_target.specs.declared.fault.TargetFault.{TargetFault}
use Rattle.ws_script.specs.declared.script.Line.{Line}
use Rattle.ws_script.specs.declared.script.Line.TheVariants as lines
use Rattle.ws_script.specs.declared.words.Word.{Word}
use Rattle.ws_script.specs.Script.{IsLine, IsWord, line_text}

-- the word of that text with the key that is meant, where one is
abbrev pub NamesKey : Result (List ℕ) TargetFault → List ℕ → Result (Option Word) NoMemory → Type 0
NamesKey meant text (Ok (Some word)) = (word.text ≡ text) × (meant ≡ Ok word.key)
NamesKey meant text (Ok None) = IsErr meant
NamesKey meant text (Err wanting) = Unit {0}

-- the two words that a text is, with one space between them
abbrev pub NamesPair : Bool → List ℕ → Result (Option (Word × Word)) NoMemory → Type 0
NamesPair gateway text (Ok (Some (topic, callback))) =
    IsWord gateway topic × IsWord gateway callback × (text ≡ topic.text ++ 32 ∷ callback.text)
NamesPair gateway text (Ok None) =
    (topic callback : Word) → IsWord gateway topic → IsWord gateway callback → text ≢ topic.text ++ 32 ∷ callback.text
NamesPair gateway text (Err wanting) = Unit {0}

-- the line that a text is
abbrev pub SaysLine : Bool → List ℕ → Result (Option Line) NoMemory → Type 0
SaysLine gateway text (Ok (Some l)) = IsLine gateway l × (text ≡ line_text l)
SaysLine gateway text (Ok None) = (l : Line) → IsLine gateway l → text ≢ line_text l
SaysLine gateway text (Err wanting) = Unit {0}

abbrev pub is_revoke : Line → Bool
is_revoke (lines.Revoke topic callback) = true
is_revoke _ = false

-- the same, of lines other than `revoke`
abbrev pub SaysPlain : List ℕ → Option Line → Type 0
SaysPlain text (Some l) = (is_revoke l ≡ false) × ((gateway : Bool) → IsLine gateway l) × (text ≡ line_text l)
SaysPlain text None = (gateway : Bool) (l : Line) → IsLine gateway l → is_revoke l ≡ false → text ≢ line_text l

-- and of `revoke`
abbrev pub SaysRevoke : Bool → List ℕ → Result (Option Line) NoMemory → Type 0
SaysRevoke gateway text (Ok (Some l)) = IsLine gateway l × (text ≡ line_text l)
SaysRevoke gateway text (Ok None) =
    (topic callback : Word) → IsLine gateway (lines.Revoke topic callback) → text ≢ line_text (lines.Revoke topic callback)
SaysRevoke gateway text (Err wanting) = Unit {0}
