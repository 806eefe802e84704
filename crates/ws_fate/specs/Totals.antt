-- How many pairs ended in each way (own).
use Rattle.std.specs.Prelude.{ℕ, ◌+◌, min}
use Rattle.ws_model.specs.declared.account.Account.{Account}
use Rattle.ws_model.specs.declared.event.Tally.{Tally}
use Rattle.ws_model.specs.declared.fate.Cause.TheVariants.{Expired, Unsubscribed, Replaced, Gone, Spent, Revoked}
use Rattle.ws_model.specs.declared.fate.Fate.{Fate}
use Rattle.ws_model.specs.declared.fate.Fate.TheVariants.{Owed, Answered as IsAnswered, Ended as HasEnded}
use Rattle.ws_model.specs.Account.{most}
use Rattle.ws_fate.specs.declared.totals.Standing.{Standing}
use Rattle.ws_fate.specs.declared.totals.Standing.TheVariants.{Open, Answered, Ended}
use Rattle.ws_fate.specs.declared.totals.Totals.{Totals}

-- what a fate says of a pair: an owed one is open
abbrev pub standing : Fate → Standing
standing IsAnswered = Answered
standing (Owed tries next) = Open
standing (HasEnded cause) = Ended cause

-- one more, as far as a number can say it
abbrev pub bump : ℕ → ℕ
bump k = min (k + 1) most

abbrev pub none : Totals
none = record { answered = 0; expired = 0; unsubscribed = 0; replaced = 0; gone = 0; spent = 0; revoked = 0 }

abbrev pub of_tally : Tally → Totals
of_tally c =
    record {
      answered = c.answered;
      expired = c.expired;
      unsubscribed = c.unsubscribed;
      replaced = c.replaced;
      gone = c.gone;
      spent = c.spent;
      revoked = c.revoked;
    }

-- the numbers of an account
abbrev pub of_account : Account → Totals
of_account a =
    record {
      answered = a.answered;
      expired = a.expired;
      unsubscribed = a.unsubscribed;
      replaced = a.replaced;
      gone = a.gone;
      spent = a.spent;
      revoked = a.revoked;
    }

-- with one more pair that ended so
abbrev pub with_one : Standing → Totals → Totals
with_one Open c = c
with_one Answered c = record { answered = bump c.answered; expired = c.expired; unsubscribed = c.unsubscribed; replaced = c.replaced; gone = c.gone; spent = c.spent; revoked = c.revoked }
with_one (Ended Expired) c = record { answered = c.answered; expired = bump c.expired; unsubscribed = c.unsubscribed; replaced = c.replaced; gone = c.gone; spent = c.spent; revoked = c.revoked }
with_one (Ended Unsubscribed) c = record { answered = c.answered; expired = c.expired; unsubscribed = bump c.unsubscribed; replaced = c.replaced; gone = c.gone; spent = c.spent; revoked = c.revoked }
with_one (Ended Replaced) c = record { answered = c.answered; expired = c.expired; unsubscribed = c.unsubscribed; replaced = bump c.replaced; gone = c.gone; spent = c.spent; revoked = c.revoked }
with_one (Ended Gone) c = record { answered = c.answered; expired = c.expired; unsubscribed = c.unsubscribed; replaced = c.replaced; gone = bump c.gone; spent = c.spent; revoked = c.revoked }
with_one (Ended Spent) c = record { answered = c.answered; expired = c.expired; unsubscribed = c.unsubscribed; replaced = c.replaced; gone = c.gone; spent = bump c.spent; revoked = c.revoked }
with_one (Ended Revoked) c = record { answered = c.answered; expired = c.expired; unsubscribed = c.unsubscribed; replaced = c.replaced; gone = c.gone; spent = c.spent; revoked = bump c.revoked }
