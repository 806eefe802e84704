-- Histories in which nothing has happened yet but requests to subscribe or unsubscribe (own).
use Rattle.std.specs.Prelude.{List, [], ◌∷◌, ℕ}
use Rattle.ws_model.specs.declared.event.Event.{Event}
use Rattle.ws_model.specs.declared.event.What.{What}
use Rattle.ws_model.specs.declared.event.What.TheVariants.{Asked}
use Rattle.ws_model.specs.declared.account.Account.{Account}

abbrev pub IsAsk : What → Type 0
IsAsk (Asked i) = Unit {0}
IsAsk _ = ⊥

-- each event is an Asked
abbrev pub AreAsks : List Event → Type 0
AreAsks [] = Unit {0}
AreAsks (e ∷ h) = IsAsk e.what × AreAsks h

-- the account of so many pending intents and of nothing else
abbrev pub only_pending : ℕ → Account
only_pending n =
    record {
      pending = n;
      notices = 0;
      leases = 0;
      topics = 0;
      fetches = 0;
      owed = 0;
      answered = 0;
      expired = 0;
      unsubscribed = 0;
      replaced = 0;
      gone = 0;
      spent = 0;
      revoked = 0;
    }
