-- What a link tells, and what polls do to it (own).
use Rattle.std.specs.Prelude.{◌≡◌, ℕ, ◌+◌, ◌-◌, ◌^◌, ◌<◌, ◌≤◌, max, min, Bool, true, List, [], ◌++◌, take, Option, IfSome, ⊤}
use Rattle.std.specs.Option.{option_map}
use Rattle.ws_model.specs.Cause.{Rose}
use Rattle.ws_link.specs.declared.links.LinkCounts.{LinkCounts}
use Rattle.ws_link.specs.declared.links.Step.{Step}
use Rattle.ws_link.specs.declared.links.Step.TheVariants.{Took, End, NotYet, Failed}

-- the bytes that a link gave, those that it was sent, and whether it has answered End
pub record LinkContent : Type 0 where
  pub given : List ℕ
  pub sent : List ℕ
  pub ended : Bool

-- these bytes were sent besides
abbrev pub after_send : List ℕ → Option LinkContent → Option LinkContent
after_send bytes = option_map (λ (c : LinkContent). record c { sent = c.sent ++ bytes })

-- these bytes were given besides
abbrev pub after_take : List ℕ → Option LinkContent → Option LinkContent
after_take bytes = option_map (λ (c : LinkContent). record c { given = c.given ++ bytes })

-- it has answered End
abbrev pub after_end : Option LinkContent → Option LinkContent
after_end = option_map (λ (c : LinkContent). record c { ended = true })

-- at least one byte moved, and no more than there were or there was room for
abbrev pub Moves : ℕ → Step → Type 0
Moves most (Took n) = (0 < n) × (n ≤ most)
Moves most End = ⊤
Moves most NotYet = ⊤
Moves most Failed = ⊤

-- What a poll to send these bytes does: the bytes given stay, and no End is answered.
abbrev pub Sends : Option LinkContent → Option LinkContent → List ℕ → Step → Type 0
Sends old new bytes (Took n) = new ≡ after_send (take n bytes) old
Sends old new bytes End = ⊥
Sends old new bytes NotYet = new ≡ old
Sends old new bytes Failed = new ≡ old

-- What a poll to take does, which leaves these bytes in the slice: the bytes sent stay.
abbrev pub Takes : Option LinkContent → Option LinkContent → List ℕ → Step → Type 0
Takes old new into (Took n) = new ≡ after_take (take n into) old
Takes old new into End = new ≡ after_end old
Takes old new into NotYet = new ≡ old
Takes old new into Failed = new ≡ old

-- a count rose by one, or stands at its last value
pub record RoseByOne (before now : ℕ) : Type 0 where
  pub later : before ≤ now
  pub most : now ≤ before + 1
  pub rose : Rose before now

-- The counts don't fall, every poll counts, a failure comes only where the faults rose, and a
-- NotYet only where the waits rose.
pub record HasStepCause (old new : LinkCounts) (step : Step) : Type 0 where
  pub asked : RoseByOne old.asks new.asks
  pub faults_later : old.faults ≤ new.faults
  pub waits_later : old.waits ≤ new.waits
  pub failed : step ≡ Failed → Rose old.faults new.faults
  pub waited : step ≡ NotYet → Rose old.waits new.waits

-- the counts of a link that wasn't polled yet
abbrev pub no_counts : LinkCounts
no_counts = record { faults = 0; waits = 0; asks = 0 }

-- a count with more added, which stops at the last value of its type, and doesn't fall
abbrev pub raised : ℕ → ℕ → ℕ
raised count more = max count (min (count + more) (2 ^ 64 - 1))

abbrev pub added_counts : LinkCounts → LinkCounts → LinkCounts
added_counts old more =
    record { faults = raised old.faults more.faults; waits = raised old.waits more.waits; asks = raised old.asks more.asks }

-- It has given and sent nothing, where it tells.
abbrev pub IsUntouched : Option LinkContent → Type 0
IsUntouched told = IfSome told (λ (c : LinkContent). (c.given ≡ []) × (c.sent ≡ []))

-- Nothing was given or sent, where it tells, and its counts are 0.
pub record IsUnused (told : Option LinkContent) (counts : LinkCounts) : Type 0 where
  pub untouched : IsUntouched told
  pub uncounted : counts ≡ no_counts
