-- What a history amounts to at a moment (own).
use Rattle.std.specs.Prelude.{ℕ, ◌+◌, ◌-◌, ◌^◌, min, Bool, true, false, List, [], ◌∷◌, ◌++◌, map, length, filter}
use Rattle.ws_model.specs.declared.event.Event.{Event}
use Rattle.ws_model.specs.declared.event.What.{What}
use Rattle.ws_model.specs.declared.event.What.TheVariants.{Tally}
use Rattle.ws_model.specs.declared.event.Tally.{Tally as TallyFields}
use Rattle.ws_model.specs.declared.fate.Cause.{Cause}
use Rattle.ws_model.specs.declared.fate.Cause.TheVariants.{Expired, Unsubscribed, Replaced, Gone, Spent, Revoked}
use Rattle.ws_model.specs.declared.fate.Fate.{Fate}
use Rattle.ws_model.specs.declared.fate.Fate.TheVariants.{Answered, Ended}
use Rattle.ws_model.specs.declared.account.Account.{Account}
use Rattle.ws_model.specs.Intents.{pending, notices}
use Rattle.ws_model.specs.Leases.{live}
use Rattle.ws_model.specs.Versions.{latest, fetches}
use Rattle.ws_model.specs.Fate.{fate}
use Rattle.ws_model.specs.Pairs.{pairs, owed}

abbrev pub tallies_of : What → List TallyFields
tallies_of (Tally c) = c ∷ []
tallies_of _ = []

abbrev pub tallies : List Event → List TallyFields
tallies [] = []
tallies (e ∷ h) = tallies_of e.what ++ tallies h

abbrev pub first_or_zero : List ℕ → ℕ
first_or_zero [] = 0
first_or_zero (n ∷ ns) = n

-- what the Tally says of a number, or 0
abbrev pub tallied : (TallyFields → ℕ) → List Event → ℕ
tallied field h = first_or_zero (map field (tallies h))

abbrev pub is_answered : Fate → Bool
is_answered Answered = true
is_answered _ = false

abbrev pub same_cause : Cause → Cause → Bool
same_cause Expired Expired = true
same_cause Unsubscribed Unsubscribed = true
same_cause Replaced Replaced = true
same_cause Gone Gone = true
same_cause Spent Spent = true
same_cause Revoked Revoked = true
same_cause _ _ = false

abbrev pub is_ended : Cause → Fate → Bool
is_ended c (Ended d) = same_cause c d
is_ended c _ = false

-- how many pairs of the history have such a fate at t
abbrev pub fated : (Fate → Bool) → List Event → ℕ → ℕ
fated test h t = length (filter (λ p. test (fate h p t)) (pairs h))

-- the greatest number that a count can say
abbrev pub most : ℕ
most = 2 ^ 64 - 1

-- these, and those that the Tally says were forgotten
abbrev pub total : (Fate → Bool) → (TallyFields → ℕ) → List Event → ℕ → ℕ
total test field h t = min (fated test h t + tallied field h) most

-- the account of a history at t
abbrev pub account : List Event → ℕ → Account
account h t =
    record {
      pending = length (pending h);
      notices = length (notices h);
      leases = length (live h t);
      topics = length (latest h);
      fetches = length (fetches h);
      owed = length (owed h t);
      answered = total is_answered (λ c. c.answered) h t;
      expired = total (is_ended Expired) (λ c. c.expired) h t;
      unsubscribed = total (is_ended Unsubscribed) (λ c. c.unsubscribed) h t;
      replaced = total (is_ended Replaced) (λ c. c.replaced) h t;
      gone = total (is_ended Gone) (λ c. c.gone) h t;
      spent = total (is_ended Spent) (λ c. c.spent) h t;
      revoked = total (is_ended Revoked) (λ c. c.revoked) h t;
    }
