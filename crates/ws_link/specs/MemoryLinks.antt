-- What links in memory tell, and what each of their calls does (own).
use Rattle.std.specs.Prelude.{◌≡◌, ℕ, Bool, true, false, if◌then◌else◌, ◌||◌, ◌&&◌, ◌==◌, ◌+◌, min, nat_lt, List, [], take, drop, length}
use Rattle.std.specs.List.{list_any}
use Rattle.ws_link.specs.Links.{LinkContent, raised}
use Rattle.ws_link.specs.Pieces.{piece_size}
use Rattle.ws_link.specs.declared.links.LinkCounts.{LinkCounts}
use Rattle.ws_link.specs.declared.links.Step.{Step}
use Rattle.ws_link.specs.declared.links.Step.TheVariants.{Took, End, NotYet, Failed}
use Rattle.ws_link.specs.declared.memory_links.MemLink.{MemLink}

-- what it was sent
abbrev pub link_sent : MemLink → List ℕ
link_sent link = link.sent.items

-- what it gave, what it was sent, and whether it has answered End
abbrev pub link_content : MemLink → LinkContent
link_content link = record { given = take link.at link.content.items; sent = link.sent.items; ended = link.ended }

-- what is left to give
abbrev pub link_left : MemLink → List ℕ
link_left link = drop link.at link.content.items

abbrev pub link_counts : MemLink → LinkCounts
link_counts link = link.counts

-- How it goes on: whether the end is marked behind what is left, whether every call fails, the sizes
-- of the pieces, the room for what is sent, and the numbers of the calls that fail.
pub record LinkPlan : Type 0 where
  pub finished : Bool
  pub broken : Bool
  pub pieces : List ℕ
  pub room : ℕ
  pub failing : List ℕ

abbrev pub link_plan : MemLink → LinkPlan
link_plan link =
    record { finished = link.finished; broken = link.broken; pieces = link.pieces.items; room = link.room; failing = link.failing.items }

-- the next call is made to fail
abbrev pub link_fails : MemLink → Bool
link_fails link = link.broken || list_any (λ call. call == link.counts.asks) link.failing.items

-- the next call fails where it sends so many bytes
abbrev pub link_refuses : MemLink → ℕ → Bool
link_refuses link n = link_fails link || nat_lt link.room (length link.sent.items + n)

-- a poll to send so many bytes fails or takes them all
abbrev pub step_to_send : MemLink → ℕ → Step
step_to_send link n = if link_refuses link n then Failed else Took n

-- where nothing is left
abbrev pub step_at_end : Bool → Step
step_at_end true = End
step_at_end false = NotYet

abbrev pub content_at_end : Bool → LinkContent → LinkContent
content_at_end true c = record c { ended = true }
content_at_end false c = c

abbrev pub counts_at_end : Bool → LinkCounts → LinkCounts
counts_at_end true counts = counts
counts_at_end false counts = record counts { waits = raised counts.waits 1 }

-- where this is left
abbrev pub step_with : MemLink → ℕ → List ℕ → Step
step_with link room [] = step_at_end link.finished
step_with link room left = Took (min (min room (length left)) (piece_size link.pieces.items link.counts.asks))

-- A poll to take fails, or gives a piece of what is left; where nothing is left it answers End where
-- that is marked, and else NotYet.
abbrev pub step_to_take : MemLink → ℕ → Step
step_to_take link room = if link_fails link then Failed else step_with link room (link_left link)

-- what is left behind what a poll to take gave
abbrev pub left_after : Step → List ℕ → List ℕ
left_after (Took n) left = drop n left
left_after End left = left
left_after NotYet left = left
left_after Failed left = left

-- A poll to send bytes comes to exactly this step, and changes nothing of what is left and how it goes on.
pub record GivesSend (old : MemLink) (bytes : List ℕ) (step : Step) (new : MemLink) : Type 0 where
  pub step_is : step ≡ step_to_send old (length bytes)
  pub left : link_left new ≡ link_left old
  pub plan : link_plan new ≡ link_plan old

-- A poll to take comes to exactly this step; what it gave isn't left any more.
pub record GivesTake (old : MemLink) (step : Step) (into : List ℕ) (new : MemLink) : Type 0 where
  pub step_is : step ≡ step_to_take old (length into)
  pub left : link_left new ≡ left_after step (link_left old)
  pub plan : link_plan new ≡ link_plan old

-- it has given and sent nothing yet, and its counts are 0
abbrev pub is_unused : MemLink → Bool
is_unused link =
    (length (take link.at link.content.items) == 0) && (length link.sent.items == 0) && (link.counts.faults == 0) && (link.counts.waits == 0) && (link.counts.asks == 0)
