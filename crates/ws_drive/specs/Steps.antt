-- What one step of a run does to the source, the sink and the world (own).
use Rattle.std.specs.Prelude.{◌≡◌, ◌≤◌, ℕ, Bool, false, List, [], Option, Result, Ok, Err, IfSome, IsErrOf}
use Rattle.std.specs.Io.KnownBytes.{Consumes, Appends}
use Rattle.ws_model.specs.Cause.{Rose}
use Rattle.ws_front.specs.Moves.{AppendsSome}
use Rattle.ws_script.specs.declared.script.Happening.{Happening}
use Rattle.ws_script.specs.declared.script.Happening.TheVariants as happens
use Rattle.ws_script.specs.Script.{IsHappening, text, NoneBegins, is_end}
use Rattle.ws_script.specs.Moves.{ConsumesSome}
use Rattle.ws_drive.specs.declared.play.Turn.{Turn}
use Rattle.ws_drive.specs.declared.play.Turn.TheVariants as turn
use Rattle.ws_drive.specs.declared.play.Stop.{Stop}
use Rattle.ws_drive.specs.declared.play.Stop.TheVariants as stop
use Rattle.ws_drive.specs.World.{World, Plays}

-- a happening that isn't `end` was read
abbrev pub ReadsPlayable : Bool → Option (List ℕ) → Option (List ℕ) → Happening → Type 0
ReadsPlayable gateway left left' h = Consumes left left' (text h) × IsHappening gateway h × (is_end h ≡ false)

-- A happening was read and played and what it writes was written; or `end` was read; or nothing of the grammar followed; or a read or a
-- write failed, or memory was wanting.
abbrev pub Steps : Bool → Option (List ℕ) → Option (List ℕ) → Option (List ℕ) → Option (List ℕ) → World → (World → Type 0) → Result Turn Stop → Type 0
Steps gateway left left' written written' w Reached (Ok turn.Played) =
    (h : Happening) × ReadsPlayable gateway left left' h
    × (bytes : List ℕ) × (w' : World) × Plays w h bytes w' × Appends written written' bytes × Reached w'
Steps gateway left left' written written' w Reached (Ok turn.Ended) =
    Consumes left left' (text happens.End) × Appends written written' []
Steps gateway left left' written written' w Reached (Ok turn.Left) =
    ConsumesSome left left' (λ bytes. Unit {0}) × IfSome left (NoneBegins gateway) × Appends written written' []
Steps gateway left left' written written' w Reached (Err stop.ReadFailed) =
    ConsumesSome left left' (NoneBegins gateway) × Appends written written' []
Steps gateway left left' written written' w Reached (Err stop.WriteFailed) =
    (h : Happening) × ReadsPlayable gateway left left' h
    × (bytes : List ℕ) × (w' : World) × Plays w h bytes w' × AppendsSome written written' bytes
Steps gateway left left' written written' w Reached (Err stop.NoMemory) =
    ConsumesSome left left' (λ bytes. Unit {0}) × Appends written written' []

-- counts don't fall, and a failure comes only where its count rose
pub record StopsFor {T : Type 0} (reads reads' writes writes' : ℕ) (result : Result T Stop) : Type 0 where
  pub reads_later : reads ≤ reads'
  pub writes_later : writes ≤ writes'
  pub read : IsErrOf result stop.ReadFailed → Rose reads reads'
  pub write : IsErrOf result stop.WriteFailed → Rose writes writes'
