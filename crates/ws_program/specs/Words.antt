-- The words of a command line (own). Places count from 1.
use Rattle.std.specs.Prelude.{◌≡◌, ℕ, ◌+◌, List, [], ◌∷◌, ◌⊎◌, Option, Some, None, Result, Ok, Err, MatchResult, if◌then◌else◌, codes, bytes_eq}
use Rattle.ws_link.specs.declared.status.Status.{Status}
use Rattle.ws_link.specs.declared.status.Status.TheVariants as status
use Rattle.ws_model.specs.declared.settings.Settings.{Settings}
use Rattle.ws_drive.specs.Runs.{Runs}
use Rattle.ws_program.specs.declared.draft.Draft.{Draft}
use Rattle.ws_program.specs.declared.draft.Setting.{Setting}
use Rattle.ws_program.specs.declared.words.WordFault.{WordFault}
use Rattle.ws_program.specs.declared.words.WordFault.TheVariants as fault
use Rattle.ws_program.specs.Drafts.{setting_of, nothing_set, may_set, with_value, settings_from}

-- the setting of a word that may stand behind what is set
abbrev pub next_setting : Draft → Option Setting → Option Setting
next_setting draft None = None
next_setting draft (Some setting) = if may_set draft setting then Some setting else None

-- the place of the fault of a word behind which nothing stands: its own, or that of the value
abbrev pub place_without_value : ℕ → Option Setting → ℕ
place_without_value place None = place
place_without_value place (Some setting) = place + 1

-- what is set, or the place of the fault
abbrev pub set_at : ℕ → Option Draft → Result Draft ℕ
set_at place None = Err place
set_at place (Some draft) = Ok draft

-- what is set with a word at that place and its value, or the place of the fault
abbrev pub with_setting : ℕ → Draft → Option Setting → List ℕ → Result Draft ℕ
with_setting place draft None value = Err place
with_setting place draft (Some setting) value = set_at (place + 1) (with_value draft setting value)

-- what the rest makes of what is set, unless there is a fault
abbrev pub and_then : Result Draft ℕ → (Draft → Result Draft ℕ) → Result Draft ℕ
and_then (Ok draft) rest = rest draft
and_then (Err place) rest = Err place

-- what is set with settings, the first of them at that place: the first word at which no line can
-- go on is the fault
abbrev pub draft_words : ℕ → Draft → List (List ℕ) → Result Draft ℕ
draft_words place draft [] = Ok draft
draft_words place draft (word ∷ []) =
    Err (place_without_value place (next_setting draft (setting_of word)))
draft_words place draft (word ∷ value ∷ words) =
    and_then (with_setting place draft (next_setting draft (setting_of word)) value)
    (λ next. draft_words (place + 2) next words)

-- the settings that some words are
abbrev pub settings_of_draft : Result Draft ℕ → Result Settings ℕ
settings_of_draft (Ok draft) = Ok (settings_from draft)
settings_of_draft (Err place) = Err place

unfoldable pub settings_words : ℕ → List (List ℕ) → Result Settings ℕ
settings_words place words = settings_of_draft (draft_words place nothing_set words)

-- the settings of a command line, which is `drive` and settings
abbrev pub command_words : List (List ℕ) → Result Settings ℕ
command_words [] = Err 1
command_words (word ∷ words) =
    if bytes_eq word (codes "drive") then settings_words 2 words else Err 1

-- the answer is the one that is meant, but that memory may run out
abbrev pub Tells : {T : Type 0} → Result T ℕ → Result T WordFault → Type 0
Tells meant (Ok x) = meant ≡ Ok x
Tells meant (Err (fault.At place)) = meant ≡ Err place
Tells meant (Err fault.NoMemory) = Unit {0}

-- nothing was read and nothing written
pub record IsUntouched (left left' written written' : Option (List ℕ)) : Type 0 where
  pub read : left' ≡ left
  pub wrote : written' ≡ written

-- a run with the settings where the words are a command line, and else their fault
abbrev pub Obeys : Result Settings ℕ → Option (List ℕ) → Option (List ℕ) → Option (List ℕ) → Option (List ℕ) → Status → Type 0
Obeys meant left left' written written' s =
    MatchResult meant (λ settings. Runs settings left left' written written' s)
    (λ place. (s ≡ status.Words place) × IsUntouched left left' written written')

-- the words are obeyed, or there was no memory to read them
abbrev pub Does : List (List ℕ) → Option (List ℕ) → Option (List ℕ) → Option (List ℕ) → Option (List ℕ) → Status → Type 0
Does words left left' written written' s =
    Obeys (command_words words) left left' written written' s
    ⊎ ((s ≡ status.NoMemory) × IsUntouched left left' written written')
