-- What a run of a script does (own): the bytes that it took and those that it wrote, by its status.
use Rattle.std.specs.Prelude.{◌≡◌, ◌<◌, ◌≤◌, ◌+◌, ℕ, Bool, false, List, [], ◌∷◌, ◌++◌, length, ◌⊎◌, Option, IfSome}
use Rattle.std.specs.List.{AllByRecursion}
use Rattle.std.specs.Io.KnownBytes.{Consumes, Appends}
use Rattle.ws_model.specs.Cause.{Rose}
use Rattle.ws_model.specs.declared.settings.Settings.{Settings}
use Rattle.ws_link.specs.declared.status.Status.{Status}
use Rattle.ws_link.specs.declared.status.Status.TheVariants as status
use Rattle.ws_front.specs.Moves.{IsPrefix}
use Rattle.ws_script.specs.declared.script.Happening.{Happening}
use Rattle.ws_script.specs.declared.script.Happening.TheVariants as happens
use Rattle.ws_script.specs.Script.{IsHappening, text, texts, NoneBegins, is_end, most_happenings}
use Rattle.ws_drive.specs.World.{World, start, Plays, AllPlay}

-- each is within its bounds, none is `end`, and they are at most as many as a script has
pub record IsPlayed (gateway : Bool) (played : List Happening) : Type 0 where
  pub sound : AllByRecursion (λ h. IsHappening gateway h × (is_end h ≡ false)) played
  pub few : length played ≤ most_happenings

-- from an empty history they write this
abbrev pub Writes : Settings → List Happening → List ℕ → Type 0
Writes settings played out = (w : World) × AllPlay (start settings) played out w

-- Ok: the script was read to the line feed of `end` and no further, and its transcript was written.
-- Script: all happenings before that number were played, and what follows leaves the grammar or is
-- cut off, or the script has too many.
-- ReadFailed: all that was read whole was played, and its transcript was written.
-- WriteFailed: the last happening that was read was played, and a part of its output was written.
-- NoMemory: the transcript of what was played was written.
abbrev pub IsRun : Settings → List ℕ → List ℕ → List ℕ → Status → Type 0
IsRun settings input taken out status.Ok =
    (played : List Happening) × IsPlayed settings.policy.gateway played × (length played < most_happenings)
    × (taken ≡ texts played ++ text happens.End)
    × Writes settings played out
IsRun settings input taken out (status.Script number) =
    (played : List Happening) × IsPlayed settings.policy.gateway played × (number ≡ length played + 1)
    × (rest : List ℕ) × (input ≡ texts played ++ rest)
    × (NoneBegins settings.policy.gateway rest ⊎ (length played ≡ most_happenings))
    × Writes settings played out
IsRun settings input taken out status.ReadFailed =
    (played : List Happening) × IsPlayed settings.policy.gateway played
    × (cut : List ℕ) × (taken ≡ texts played ++ cut) × NoneBegins settings.policy.gateway cut
    × Writes settings played out
IsRun settings input taken out status.WriteFailed =
    (played : List Happening) × (last : Happening) × IsPlayed settings.policy.gateway (played ++ last ∷ [])
    × (taken ≡ texts played ++ text last)
    × (before : List ℕ) × (w : World) × AllPlay (start settings) played before w
    × (bytes : List ℕ) × (w' : World) × Plays w last bytes w'
    × (part : List ℕ) × IsPrefix part bytes × (out ≡ before ++ part)
IsRun settings input taken out status.NoMemory =
    (played : List Happening) × IsPlayed settings.policy.gateway played
    × (cut : List ℕ) × (taken ≡ texts played ++ cut)
    × Writes settings played out
IsRun settings input taken out other = ⊥

-- what a run with these settings did to a source and a sink that tell
abbrev pub Runs : Settings → Option (List ℕ) → Option (List ℕ) → Option (List ℕ) → Option (List ℕ) → Status → Type 0
Runs settings left left' written written' s =
    (taken : List ℕ) × (out : List ℕ) × Consumes left left' taken × Appends written written' out
    × IfSome left (λ input. IsRun settings input taken out s)

-- counts don't fall, and a failure comes only where its count rose
pub record StatusFor (reads reads' writes writes' : ℕ) (s : Status) : Type 0 where
  pub reads_later : reads ≤ reads'
  pub writes_later : writes ≤ writes'
  pub read : s ≡ status.ReadFailed → Rose reads reads'
  pub write : s ≡ status.WriteFailed → Rose writes writes'
