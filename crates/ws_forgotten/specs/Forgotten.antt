-- What tables of pairs, a log and an account show of the pairs that compactions forget (own).
use Rattle.std.specs.Prelude.{ℕ, Bool, false, true, not, ◌&&◌, ◌||◌, ◌==◌, ◌-◌, List, [], ◌∷◌, filter, map, length, unwrap_or}
use Rattle.std.specs.Option.{option_map}
use Rattle.ws_model.specs.declared.event.Event.{Event}
use Rattle.ws_model.specs.declared.event.What.{What}
use Rattle.ws_model.specs.declared.event.What.TheVariants.{Tally}
use Rattle.ws_model.specs.declared.fate.Cause.TheVariants.{Expired, Unsubscribed, Replaced, Gone, Spent, Revoked}
use Rattle.ws_model.specs.Account.{is_answered, is_ended, most, same_cause}
use Rattle.ws_model.specs.Keep.{forgotten, member}
use Rattle.ws_model.specs.Verdict.{fate_of}
use Rattle.ws_laws.specs.Steps.{more}
use Rattle.ws_fate.specs.declared.totals.Standing.{Standing}
use Rattle.ws_fate.specs.declared.totals.Standing.TheVariants.{Open, Answered, Ended}
use Rattle.ws_fate.specs.declared.totals.Totals.{Totals}
use Rattle.ws_fate.specs.Totals.{none, of_tally, standing}
use Rattle.ws_kept.specs.Rows.{Rows as KeptRows}

-- ---- what earlier compactions forgot

-- what a Tally says was forgotten
abbrev pub told : What → Totals
told (Tally c) = of_tally c
told _ = none

-- what the first event of a log says was forgotten
abbrev pub told_first : List Event → Totals
told_first [] = none
told_first (e ∷ log) = told e.what

-- ---- what a compaction forgets

-- what became of a pair that isn't kept: an open one has expired
abbrev pub end_of : Standing → Standing
end_of Open = Ended Expired
end_of s = s

-- both are the same end
abbrev pub is_so : Standing → Standing → Bool
is_so Answered Answered = true
is_so (Ended c) (Ended d) = same_cause c d
is_so _ _ = false

-- this lease and this version are both kept
abbrev pub is_kept_key : KeptRows → ℕ × ℕ → Bool
is_kept_key kept key = member key.1 kept.versions && member key.0 kept.leases

-- what became of the pairs that aren't kept
abbrev pub forgotten_ends : KeptRows → List ((ℕ × ℕ) × Standing) → List Standing
forgotten_ends kept pairs = map (λ e. end_of e.1) (filter (λ e. not (is_kept_key kept e.0)) pairs)

-- how many of them ended so
abbrev pub number_so : Standing → List Standing → ℕ
number_so how ends = length (filter (is_so how) ends)

-- these numbers, with those of the pairs that ended so
abbrev pub with_ends : Totals → List Standing → Totals
with_ends c ends =
    record {
      answered = more c.answered (number_so Answered ends);
      expired = more c.expired (number_so (Ended Expired) ends);
      unsubscribed = more c.unsubscribed (number_so (Ended Unsubscribed) ends);
      replaced = more c.replaced (number_so (Ended Replaced) ends);
      gone = more c.gone (number_so (Ended Gone) ends);
      spent = more c.spent (number_so (Ended Spent) ends);
      revoked = more c.revoked (number_so (Ended Revoked) ends);
    }

-- of each the sum, as far as a number can say it
abbrev pub sums : Totals → Totals → Totals
sums a b =
    record {
      answered = more a.answered b.answered;
      expired = more a.expired b.expired;
      unsubscribed = more a.unsubscribed b.unsubscribed;
      replaced = more a.replaced b.replaced;
      gone = more a.gone b.gone;
      spent = more a.spent b.spent;
      revoked = more a.revoked b.revoked;
    }

-- the numbers of the Tally that a compaction of the history puts first
abbrev pub all_forgotten : List Event → ℕ → Totals
all_forgotten h t =
    record {
      answered = forgotten is_answered (λ c. c.answered) h t;
      expired = forgotten (is_ended Expired) (λ c. c.expired) h t;
      unsubscribed = forgotten (is_ended Unsubscribed) (λ c. c.unsubscribed) h t;
      replaced = forgotten (is_ended Replaced) (λ c. c.replaced) h t;
      gone = forgotten (is_ended Gone) (λ c. c.gone) h t;
      spent = forgotten (is_ended Spent) (λ c. c.spent) h t;
      revoked = forgotten (is_ended Revoked) (λ c. c.revoked) h t;
    }

-- ---- what it keeps

-- what became of the pair of this version and this lease; one that the history doesn't have counts as open
abbrev pub standing_of : List Event → ℕ → ℕ → ℕ → Standing
standing_of h t v n = unwrap_or (option_map standing (fate_of h v n t)) Open

-- this version and this lease are both kept
abbrev pub has_both : KeptRows → ℕ × ℕ → Bool
has_both kept k = member k.0 kept.versions && member k.1 kept.leases

-- what became of the kept ones of these pairs, each a version and a lease
abbrev pub kept_ends : List Event → ℕ → KeptRows → List (ℕ × ℕ) → List Standing
kept_ends h t kept pairs = map (λ k. standing_of h t k.0 k.1) (filter (has_both kept) pairs)

-- ---- what an account leaves

-- a number is as great as a number can be, so that there may be more than it says
abbrev pub has_stopped : Totals → Bool
has_stopped c = (c.answered == most) || (c.expired == most) || (c.unsubscribed == most) || (c.replaced == most) || (c.gone == most) || (c.spent == most) || (c.revoked == most)

-- of each what is left without the other
abbrev pub less : Totals → Totals → Totals
less a b =
    record {
      answered = a.answered - b.answered;
      expired = a.expired - b.expired;
      unsubscribed = a.unsubscribed - b.unsubscribed;
      replaced = a.replaced - b.replaced;
      gone = a.gone - b.gone;
      spent = a.spent - b.spent;
      revoked = a.revoked - b.revoked;
    }
