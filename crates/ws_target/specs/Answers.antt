-- What a call may answer. Want of memory is free, but for the texts that are too long.
use Rattle.std.specs.Prelude.{◌≡◌, Option, Some, None, Result, Ok, Err}
use Rattle.url.specs.declared.error.ParseError.{ParseError}
use Rattle.url.specs.Parts.{Parts}
use Rattle.url.specs.Parser.{IsOutOfRoom}
use Rattle.ws_model.specs.declared.bytes.NoMemory.{NoMemory as Wanting}
use Rattle.ws_target.specs.declared.fault.TargetFault.{TargetFault}
use Rattle.ws_target.specs.declared.fault.TargetFault.TheVariants.{NotUrl, NoMemory}

module _ {T : Type 0} where
  -- the answer is the one that is meant, or want of memory
  abbrev pub Gives : Result T TargetFault → Result T TargetFault → Type 0
  Gives meant (Err NoMemory) = Unit {0}
  Gives meant answer = meant ≡ answer

  -- the answer is the value that there is, NotUrl where there is none, or want of memory
  abbrev pub GivesFound : Option T → Result T TargetFault → Type 0
  GivesFound found (Ok x) = found ≡ Some x
  GivesFound found (Err NotUrl) = found ≡ None
  GivesFound found (Err NoMemory) = Unit {0}
  GivesFound found (Err fault) = ⊥

-- what the parser found, where it had room
abbrev pub Tells : Result Parts ParseError → Result (Option Parts) Wanting → Type 0
Tells (Ok url) (Ok found) = found ≡ Some url
Tells (Ok url) (Err wanting) = ⊥
Tells (Err e) (Ok found) = (found ≡ None) × ¬ (IsOutOfRoom e)
Tells (Err e) (Err wanting) = IsOutOfRoom e
