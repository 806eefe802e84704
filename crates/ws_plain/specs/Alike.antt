-- Kinds of fates (own).
use Rattle.std.specs.Prelude.{Bool}
use Rattle.ws_model.specs.declared.fate.Fate.{Fate}
use Rattle.ws_model.specs.declared.fate.Fate.TheVariants.{Answered, Owed, Ended}
use Rattle.ws_model.specs.Account.{is_answered, is_ended}
use Rattle.ws_model.specs.Fate.{is_owed}

-- whether a fate is of the wanted kind
abbrev pub alike : Fate → Fate → Bool
alike Answered = is_answered
alike (Owed tries next) = is_owed
alike (Ended cause) = is_ended cause
