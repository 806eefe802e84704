-- The eighth miss of a pair ends it (own).
use Rattle.std.specs.Prelude.{Bool, false, nat_le, Option, Some}
use Rattle.ws_model.specs.declared.fate.Fate.{Fate}
use Rattle.ws_model.specs.declared.fate.Fate.TheVariants.{Owed}

-- it is owed, and its next miss is the eighth
abbrev pub is_last : Option Fate → Bool
is_last (Some (Owed tries next)) = nat_le 7 tries
is_last _ = false
