-- What an exchange is, and what each poll of it does (own; what it got is by RFC 9112).
use Rattle.std.specs.Prelude.{◌≡◌, ℕ, ◌+◌, ◌<◌, ◌≤◌, Bool, true, false, List, length, take, drop, Option, IfSome, ⊤}
use Rattle.ws_model.specs.Fit.{is_fit}
use Rattle.ws_model.specs.declared.work.Outcome.{Outcome}
use Rattle.ws_model.specs.declared.work.Outcome.TheVariants as outcome
use Rattle.ws_http.specs.declared.fed.Need.{Need}
use Rattle.ws_http.specs.ResponseStages.{ReplyReading, Stands, is_last, fresh_reply}
use Rattle.ws_link.specs.Links.{LinkContent, Sends, Takes, HasStepCause}
use Rattle.ws_link.specs.declared.links.LinkCounts.{LinkCounts}
use Rattle.ws_link.specs.declared.links.Step.{Step}
use Rattle.ws_link.specs.declared.links.Step.TheVariants as step
use Rattle.ws_exchange.specs.declared.hear.Heard.{Heard}
use Rattle.ws_exchange.specs.declared.hear.Heard.TheVariants as heard
use Rattle.ws_exchange.specs.declared.polls.Stage.{Stage}
use Rattle.ws_exchange.specs.declared.polls.Stage.TheVariants as stage
use Rattle.ws_exchange.specs.declared.polls.Polled.{Polled}
use Rattle.ws_exchange.specs.declared.polls.Polled.TheVariants as polled
use Rattle.ws_exchange.specs.Ends.{GoesOn, Ends, is_lost, is_late}

-- What callers see of an exchange: its link, the bytes to send and how many of them were sent, how much
-- of the reply is asked for, when it is late, the time that it was told, and how far it is.
pub record Talk (L : Type 0) : Type 0 where
  pub link : L
  pub bytes : List ℕ
  pub sent : ℕ
  pub need : Need
  pub until : ℕ
  pub time : ℕ
  pub stage : Stage

-- an exchange that was just made
abbrev pub fresh_talk : {L : Type 0} → L → List ℕ → Need → ℕ → Talk L
fresh_talk link bytes need until =
    record { link = link; bytes = bytes; sent = 0; need = need; until = until; time = 0; stage = stage.Open (fresh_reply need) }

abbrev pub is_open : Stage → Bool
is_open (stage.Open r) = true
is_open stage.Starved = false
is_open stage.Over = false

-- it found no memory
abbrev pub is_starved : Stage → Bool
is_starved (stage.Open r) = false
is_starved stage.Starved = true
is_starved stage.Over = false

-- it has ended
abbrev pub is_over : Stage → Bool
is_over (stage.Open r) = false
is_over stage.Starved = false
is_over stage.Over = true

-- what the link was sent, where it tells, is the first of the bytes
abbrev pub IsSent : Option LinkContent → List ℕ → ℕ → Type 0
IsSent told bytes sent = IfSome told (λ (c : LinkContent). c.sent ≡ take sent bytes)

-- The reader stands for all that the link gave, where it tells, and has said nothing final.
pub record Reads (need : Need) (told : Option LinkContent) (r : ReplyReading) : Type 0 where
  pub came : List ℕ
  pub given : IfSome told (λ (c : LinkContent). c.given ≡ came)
  pub stands : Stands r came false
  pub open_yet : is_last r.stage ≡ false
  pub asked : r.need ≡ need

abbrev pub IsAt : Need → Option LinkContent → Stage → Type 0
IsAt need told (stage.Open r) = Reads need told r
IsAt need told stage.Starved = ⊤
IsAt need told stage.Over = ⊤

-- what every exchange keeps
pub record IsTalk (told : Option LinkContent) (bytes : List ℕ) (sent : ℕ) (need : Need) (s : Stage) : Type 0 where
  pub within : sent ≤ length bytes
  pub front : IsSent told bytes sent
  pub at : IsAt need told s

-- ---- one poll

-- how many bytes a step moved
abbrev pub moved : Step → ℕ
moved (step.Took n) = n
moved step.End = 0
moved step.NotYet = 0
moved step.Failed = 0

-- The exchange ends by a step of its link: Lost where it failed; else by all bytes that the link gave,
-- with its end where this step met it. Also over a link that tells nothing it isn't Late before the time
-- has come, and Lost only where the link failed or ended.
abbrev pub EndsBy : Need → Option LinkContent → Step → Outcome → Type 0
EndsBy need told (step.Took n) o =
    (is_late o ≡ false) × (is_lost o ≡ false) × IfSome told (λ (c : LinkContent). Ends need c.given false o)
EndsBy need told step.End o = (is_late o ≡ false) × IfSome told (λ (c : LinkContent). Ends need c.given true o)
EndsBy need told step.NotYet o = ⊥
EndsBy need told step.Failed o = o ≡ outcome.Lost

-- The exchange goes on behind a step of its link: the bytes that it gave hold no whole reply and no fault.
abbrev pub GoesOnBy : Need → Option LinkContent → Step → Type 0
GoesOnBy need told (step.Took n) = IfSome told (λ (c : LinkContent). GoesOn need c.given)
GoesOnBy need told step.End = ⊥
GoesOnBy need told step.NotYet = IfSome told (λ (c : LinkContent). GoesOn need c.given)
GoesOnBy need told step.Failed = ⊥

-- What a poll comes to by the step of its link. Want of memory is free.
abbrev pub ComesBy : Need → Option LinkContent → Step → Polled → Type 0
ComesBy need told s polled.Pending = GoesOnBy need told s
ComesBy need told s (polled.Ended o) = EndsBy need told s o
ComesBy need told s polled.NoMemory = ⊤

-- The ask, the deadline, the time and the bytes stay.
pub record Keeps {L : Type 0} (old new : Talk L) : Type 0 where
  pub bytes : new.bytes ≡ old.bytes
  pub need : new.need ≡ old.need
  pub until : new.until ≡ old.until
  pub time : new.time ≡ old.time

-- Behind each answer the exchange is open, over, or without memory.
abbrev pub Leaves : Polled → Stage → Type 0
Leaves polled.Pending s = (is_open s ≡ true) × (is_over s ≡ false)
Leaves (polled.Ended o) s = is_over s ≡ true
Leaves polled.NoMemory s = (is_starved s ≡ true) × (is_over s ≡ false)

-- the outcome is fit
abbrev pub IsFit : Polled → Type 0
IsFit polled.Pending = ⊤
IsFit (polled.Ended o) = is_fit o ≡ true
IsFit polled.NoMemory = ⊤

module _ {L : Type 0} (content : L → Option LinkContent) (counts : L → LinkCounts) (send_gives : L → List ℕ → Step → L → Type 0) (take_gives : L → Step → List ℕ → L → Type 0) where
  -- the bytes that remained were to be sent
  pub record CallsSend (old new : Talk L) (s : Step) : Type 0 where
    pub sends : Sends (content old.link) (content new.link) (drop old.sent old.bytes) s
    pub gives : send_gives old.link (drop old.sent old.bytes) s new.link
    pub sent : new.sent ≡ old.sent + moved s

  -- bytes were to be taken, into room for at least 8,192
  pub record CallsTake (old new : Talk L) (s : Step) : Type 0 where
    pub into : List ℕ
    pub room : 8192 ≤ length into
    pub takes : Takes (content old.link) (content new.link) into s
    pub gives : take_gives old.link s into new.link
    pub sent : new.sent ≡ old.sent

  -- one call of the link was made: a send while bytes remained, else a take
  pub record Calls (old new : Talk L) (s : Step) : Type 0 where
    pub cause : HasStepCause (counts old.link) (counts new.link) s
    pub send : old.sent < length old.bytes → CallsSend old new s
    pub take : length old.bytes ≤ old.sent → CallsTake old new s

  -- what a poll comes to by its one call
  abbrev pub Comes : Talk L → Talk L → Polled → Type 0
  Comes old new answer = (s : Step) × Calls old new s × ComesBy old.need (content new.link) s answer

  -- The answer of a poll: Late exactly where the time has come, with no call; else no memory and no call
  -- where none was found before; else what its one call of the link came to.
  pub record Answers (old new : Talk L) (answer : Polled) : Type 0 where
    pub late : old.until ≤ old.time → (answer ≡ polled.Ended outcome.Late) × (new.link ≡ old.link) × (new.sent ≡ old.sent)
    pub starved : old.time < old.until → is_starved old.stage ≡ true → (answer ≡ polled.NoMemory) × (new ≡ old)
    pub comes : old.time < old.until → is_open old.stage ≡ true → Comes old new answer

-- ---- keeping what was heard

abbrev pub stage_after : Heard → Stage
stage_after (heard.More r) = stage.Open r
stage_after (heard.Ended o) = stage.Over
stage_after heard.NoMemory = stage.Starved

abbrev pub polled_after : Heard → Polled
polled_after (heard.More r) = polled.Pending
polled_after (heard.Ended o) = polled.Ended o
polled_after heard.NoMemory = polled.NoMemory
