-- What one call of the link makes of an exchange.
use Rattle.std.proofs.Common.{◌≡◌, ℕ, ◌+◌, ◌≤◌, Bool, true, false, List, [], ◌++◌, length, take, drop, IfSome, refl, sym, ◌∙◌, subst, arith, append-nil, length-drop}
use Rattle.std.specs.Prelude.{Option}
use Rattle.ws_http.specs.declared.fed.Need.{Need}
use Rattle.ws_http.specs.ResponseStages.{ReplyReading, Stands}
use Rattle.ws_link.specs.Links.{LinkContent, HasStepCause, Takes, after_send, after_take, after_end}
use Rattle.ws_link.specs.declared.links.LinkCounts.{LinkCounts}
use Rattle.ws_link.specs.declared.links.Step.{Step}
use Rattle.ws_link.specs.declared.links.Step.TheVariants as step
use Rattle.ws_exchange.specs.declared.hear.Heard.{Heard}
use Rattle.ws_exchange.specs.declared.hear.Heard.TheVariants as heard
use Rattle.ws_exchange.specs.declared.polls.Polled.{Polled}
use Rattle.ws_exchange.specs.declared.polls.Stage.{Stage}
use Rattle.ws_exchange.specs.declared.polls.Stage.TheVariants as stage
use Rattle.ws_exchange.specs.Ends.{GoesOn, Ends}
use Rattle.ws_exchange.specs.Hears.{CanHear, Hears}
use Rattle.ws_exchange.specs.Polls.{Talk, Calls, Comes, IsSent, Reads, IsAt, IsTalk, ComesBy, IsFit, is_over, stage_after, polled_after}
use Rattle.ws_exchange.proofs.Told.{told_so, sent_more, sent_at_take, sent_at_end, given_at_send, given_more, given_at_end}
use Rattle.ws_exchange.proofs.Heard.{goes_on}

-- ---- sends

pub reads_on : (need : Need) (r : ReplyReading) (bytes : List ℕ) (old new : Option LinkContent) → new ≡ after_send bytes old
    → Reads need old r → Reads need new r
reads_on need r bytes old new is reads =
    record { came = reads.came; given = given_at_send reads.came bytes old new is reads.given; stands = reads.stands; open_yet = reads.open_yet; asked = reads.asked }

pub reads_goes : (need : Need) (r : ReplyReading) (told : Option LinkContent) → Reads need told r → IfSome told (λ (c : LinkContent). GoesOn need c.given)
reads_goes need r told reads =
    let going = subst (λ (n : Need). GoesOn n reads.came) reads.asked (goes_on r reads.came reads.stands reads.open_yet) in
    told_so (λ (c : LinkContent). c.given ≡ reads.came) (λ (c : LinkContent). GoesOn need c.given) told
    (λ (c : LinkContent) (p : c.given ≡ reads.came). subst (GoesOn need) (sym p) going) reads.given

-- nothing is asked of an exchange that is over
over_at : (need : Need) (told : Option LinkContent) (s : Stage) → is_over s ≡ true → IsAt need told s
over_at need told (stage.Open r) over = cc
over_at need told stage.Starved over = cc
over_at need told stage.Over over = tt

pub over_sent : (bytes : List ℕ) (sent n : ℕ) (need : Need) (s : Stage) (old new : Option LinkContent) → is_over s ≡ true
    → sent ≤ length bytes → n ≤ length (drop sent bytes) → new ≡ after_send (take n (drop sent bytes)) old
    → IsSent old bytes sent → IsTalk new bytes (sent + n) need s
over_sent bytes sent n need s old new over within fits is front =
    record { within = omega (arith, length-drop sent bytes); front = sent_more bytes sent n old new is front; at = over_at need new s over }

pub over_took : (bytes piece : List ℕ) (sent : ℕ) (need : Need) (s : Stage) (old new : Option LinkContent) → is_over s ≡ true
    → sent ≤ length bytes → new ≡ after_take piece old → IsSent old bytes sent → IsTalk new bytes sent need s
over_took bytes piece sent need s old new over within is front =
    record { within = within; front = sent_at_take bytes piece sent old new is front; at = over_at need new s over }

pub over_end : (bytes : List ℕ) (sent : ℕ) (need : Need) (s : Stage) (old new : Option LinkContent) → is_over s ≡ true
    → sent ≤ length bytes → new ≡ after_end old → IsSent old bytes sent → IsTalk new bytes sent need s
over_end bytes sent need s old new over within is front =
    record { within = within; front = sent_at_end bytes sent old new is front; at = over_at need new s over }

pub over_same : (bytes : List ℕ) (sent : ℕ) (need : Need) (s : Stage) (old new : Option LinkContent) → is_over s ≡ true
    → sent ≤ length bytes → new ≡ old → IsSent old bytes sent → IsTalk new bytes sent need s
over_same bytes sent need s old new over within is front =
    record { within = within; front = subst (λ (o : Option LinkContent). IsSent o bytes sent) (sym is) front; at = over_at need new s over }

-- ---- takes

pub can_hear : (need : Need) (r : ReplyReading) (told : Option LinkContent) → Reads need told r → CanHear r
can_hear need r told reads = (reads.came, reads.stands, reads.open_yet)

heard_at : (need : Need) (r : ReplyReading) (bytes : List ℕ) (ended : Bool) (h : Heard) (told : Option LinkContent) → r.need ≡ need
    → IfSome told (λ (c : LinkContent). c.given ≡ bytes) → Hears r.need bytes ended h → IsAt need told (stage_after h)
heard_at need r bytes ended (heard.More next) told asked given hears =
    record { came = bytes; given = given; stands = hears.0; open_yet = hears.1; asked = hears.2 ∙ asked }
heard_at need r bytes ended (heard.Ended o) told asked given hears = tt
heard_at need r bytes ended heard.NoMemory told asked given hears = tt

given_goes : (need : Need) (bytes : List ℕ) (told : Option LinkContent) → IfSome told (λ (c : LinkContent). c.given ≡ bytes) → GoesOn need bytes
    → IfSome told (λ (c : LinkContent). GoesOn need c.given)
given_goes need bytes told given going =
    told_so (λ (c : LinkContent). c.given ≡ bytes) (λ (c : LinkContent). GoesOn need c.given) told
    (λ (c : LinkContent) (p : c.given ≡ bytes). subst (GoesOn need) (sym p) going) given

given_ends : (need : Need) (bytes : List ℕ) (ended : Bool) (o : _) (told : Option LinkContent) → IfSome told (λ (c : LinkContent). c.given ≡ bytes)
    → Ends need bytes ended o → IfSome told (λ (c : LinkContent). Ends need c.given ended o)
given_ends need bytes ended o told given ends =
    told_so (λ (c : LinkContent). c.given ≡ bytes) (λ (c : LinkContent). Ends need c.given ended o) told
    (λ (c : LinkContent) (p : c.given ≡ bytes). subst (λ (l : List ℕ). Ends need l ended o) (sym p) ends) given

comes_took : (need : Need) (bytes : List ℕ) (n : ℕ) (h : Heard) (told : Option LinkContent)
    → IfSome told (λ (c : LinkContent). c.given ≡ bytes) → Hears need bytes false h → ComesBy need told (step.Took n) (polled_after h)
comes_took need bytes n (heard.More next) told given hears = given_goes need bytes told given hears.4
comes_took need bytes n (heard.Ended o) told given hears = (hears.in_time, hears.lost refl, given_ends need bytes false o told given hears)
comes_took need bytes n heard.NoMemory told given hears = tt

comes_ended : (need : Need) (bytes : List ℕ) (h : Heard) (told : Option LinkContent)
    → IfSome told (λ (c : LinkContent). c.given ≡ bytes) → Hears need bytes true h → ComesBy need told step.End (polled_after h)
comes_ended need bytes (heard.More next) told given hears = let e : true ≡ false = hears.3 in cc
comes_ended need bytes (heard.Ended o) told given hears = (hears.in_time, given_ends need bytes true o told given hears)
comes_ended need bytes heard.NoMemory told given hears = tt

pub heard_fit : (need : Need) (bytes : List ℕ) (ended : Bool) (h : Heard) → Hears need bytes ended h → IsFit (polled_after h)
heard_fit need bytes ended (heard.More next) hears = tt
heard_fit need bytes ended (heard.Ended o) hears = hears.fit
heard_fit need bytes ended heard.NoMemory hears = tt

-- what is heard by a link that gave a piece
module _ (need : Need) (r : ReplyReading) (piece : List ℕ) (h : Heard) (old new : Option LinkContent) (reads : Reads need old r)
    (is : new ≡ after_take piece old) (hears : (came : List ℕ) → Stands r came false → Hears r.need (came ++ piece) false h) where
  given : IfSome new (λ (c : LinkContent). c.given ≡ reads.came ++ piece)
  given = given_more reads.came piece old new is reads.given

  pub took_at : IsAt need new (stage_after h)
  took_at = heard_at need r (reads.came ++ piece) false h new reads.asked given (hears reads.came reads.stands)

  pub took_comes : (n : ℕ) → ComesBy need new (step.Took n) (polled_after h)
  took_comes n =
      comes_took need (reads.came ++ piece) n h new given
      (subst (λ (m : Need). Hears m (reads.came ++ piece) false h) reads.asked (hears reads.came reads.stands))

  pub took_fit : IsFit (polled_after h)
  took_fit = heard_fit r.need (reads.came ++ piece) false h (hears reads.came reads.stands)

-- what is heard at the end of a link
module _ (need : Need) (r : ReplyReading) (h : Heard) (old new : Option LinkContent) (reads : Reads need old r)
    (is : new ≡ after_end old) (hears : (came : List ℕ) → Stands r came false → Hears r.need (came ++ []) true h) where
  all : Hears r.need reads.came true h
  all = subst (λ (l : List ℕ). Hears r.need l true h) (append-nil reads.came) (hears reads.came reads.stands)

  given_all : IfSome new (λ (c : LinkContent). c.given ≡ reads.came)
  given_all = given_at_end reads.came old new is reads.given

  pub end_at : IsAt need new (stage_after h)
  end_at = heard_at need r reads.came true h new reads.asked given_all all

  pub end_comes : ComesBy need new step.End (polled_after h)
  end_comes = comes_ended need reads.came h new given_all (subst (λ (m : Need). Hears m reads.came true h) reads.asked all)

  pub end_fit : IsFit (polled_after h)
  end_fit = heard_fit r.need reads.came true h all

-- ---- polls

-- what a poll comes to by a take
pub comes_by_take : {L : Type 0} (content : L → Option LinkContent) (counts : L → LinkCounts) (send_gives : L → List ℕ → Step → L → Type 0)
    (take_gives : L → Step → List ℕ → L → Type 0) (old new : Talk L) (link : L) (h : Heard) (t : Step) (into : List ℕ) (answer : Polled)
    → new ≡ record old { link = link; stage = stage_after h } → answer ≡ polled_after h → length old.bytes ≤ old.sent
    → HasStepCause (counts old.link) (counts link) t → 8192 ≤ length into → Takes (content old.link) (content link) into t → take_gives old.link t into link
    → ComesBy old.need (content link) t (polled_after h) → Comes content counts send_gives take_gives old new answer
comes_by_take {L} content counts send_gives take_gives old new link h t into answer is polled all cause room takes gives comes =
    let after : Talk L = record old { link = link; stage = stage_after h } in
    let calls : Calls content counts send_gives take_gives old after t =
    record { cause = cause; send = λ more. absurd (omega arith); take = λ _. record { into = into; room = room; takes = takes; gives = gives; sent = refl } } in
    subst (λ (n : Talk L). Comes content counts send_gives take_gives old n answer) (sym is)
    (subst (λ (a : Polled). Comes content counts send_gives take_gives old after a) (sym polled) (t, calls, comes))
