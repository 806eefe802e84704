-- Fates as a program can say them (own).
use Rattle.std.specs.Prelude.{min}
use Rattle.ws_model.specs.declared.fate.Fate.{Fate}
use Rattle.ws_model.specs.declared.fate.Fate.TheVariants.{Owed}
use Rattle.ws_model.specs.Account.{most}

-- A next try past the greatest 64-bit number is said as that number. No legal history has one.
abbrev pub capped : Fate → Fate
capped (Owed tries next) = Owed tries (min next most)
capped fate = fate
