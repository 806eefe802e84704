-- The Tally of a history, or one of zeros (own).
use Rattle.std.specs.Prelude.{List, [], ◌∷◌}
use Rattle.ws_model.specs.declared.event.Tally.{Tally}

abbrev pub no_tally : Tally
no_tally =
    record {
      now = 0;
      serial = 0;
      intent = 0;
      version = 0;
      answered = 0;
      expired = 0;
      unsubscribed = 0;
      replaced = 0;
      gone = 0;
      spent = 0;
      revoked = 0;
    }

-- the newest Tally
abbrev pub tally_in : List Tally → Tally
tally_in [] = no_tally
tally_in (c ∷ cs) = c
