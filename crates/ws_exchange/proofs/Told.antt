-- What holds of a link that tells, behind a call.
use Rattle.std.proofs.Common.{◌≡◌, ℕ, ◌+◌, List, ◌++◌, take, drop, true, Some, None, IfSome, sym, ◌∙◌, ap, subst}
use Rattle.std.specs.Option.{option_map}
use Rattle.std.specs.Prelude.{Option}
use Rattle.std.proofs.Math.Seq.{take-add}
use Rattle.ws_link.specs.Links.{LinkContent, after_send, after_take, after_end}
use Rattle.ws_exchange.specs.Polls.{IsSent}

-- what is told after a change
pub told_map : (f : LinkContent → LinkContent) (P Q : LinkContent → Type 0) (old new : Option LinkContent)
    → new ≡ option_map f old → ((c : LinkContent) → P c → Q (f c)) → IfSome old P → IfSome new Q
told_map f P Q None new is step told = subst (λ (o : Option LinkContent). IfSome o Q) (sym is) tt
told_map f P Q (Some c) new is step told = subst (λ (o : Option LinkContent). IfSome o Q) (sym is) (step c told)

-- what follows from what is told
pub told_so : (P Q : LinkContent → Type 0) (told : Option LinkContent) → ((c : LinkContent) → P c → Q c) → IfSome told P → IfSome told Q
told_so P Q None step told = tt
told_so P Q (Some c) step told = step c told

-- the first bytes were sent, and then the next ones
pub sent_more : (bytes : List ℕ) (sent n : ℕ) (old new : Option LinkContent) → new ≡ after_send (take n (drop sent bytes)) old
    → IsSent old bytes sent → IsSent new bytes (sent + n)
sent_more bytes sent n old new is told =
    told_map (λ (c : LinkContent). record c { sent = c.sent ++ take n (drop sent bytes) }) (λ (c : LinkContent). c.sent ≡ take sent bytes)
    (λ (c : LinkContent). c.sent ≡ take (sent + n) bytes) old new is
    (λ (c : LinkContent) (p : c.sent ≡ take sent bytes). ap (λ (l : List ℕ). l ++ take n (drop sent bytes)) p ∙ sym (take-add sent n bytes)) told

-- a take leaves what was sent
pub sent_at_take : (bytes piece : List ℕ) (sent : ℕ) (old new : Option LinkContent) → new ≡ after_take piece old
    → IsSent old bytes sent → IsSent new bytes sent
sent_at_take bytes piece sent old new is told =
    told_map (λ (c : LinkContent). record c { given = c.given ++ piece }) (λ (c : LinkContent). c.sent ≡ take sent bytes)
    (λ (c : LinkContent). c.sent ≡ take sent bytes) old new is (λ (c : LinkContent) (p : c.sent ≡ take sent bytes). p) told

pub sent_at_end : (bytes : List ℕ) (sent : ℕ) (old new : Option LinkContent) → new ≡ after_end old → IsSent old bytes sent → IsSent new bytes sent
sent_at_end bytes sent old new is told =
    told_map (λ (c : LinkContent). record c { ended = true }) (λ (c : LinkContent). c.sent ≡ take sent bytes)
    (λ (c : LinkContent). c.sent ≡ take sent bytes) old new is (λ (c : LinkContent) (p : c.sent ≡ take sent bytes). p) told

-- the bytes given, behind each call
pub given_at_send : (came bytes : List ℕ) (old new : Option LinkContent) → new ≡ after_send bytes old
    → IfSome old (λ (c : LinkContent). c.given ≡ came) → IfSome new (λ (c : LinkContent). c.given ≡ came)
given_at_send came bytes old new is told =
    told_map (λ (c : LinkContent). record c { sent = c.sent ++ bytes }) (λ (c : LinkContent). c.given ≡ came)
    (λ (c : LinkContent). c.given ≡ came) old new is (λ (c : LinkContent) (p : c.given ≡ came). p) told

pub given_more : (came piece : List ℕ) (old new : Option LinkContent) → new ≡ after_take piece old
    → IfSome old (λ (c : LinkContent). c.given ≡ came) → IfSome new (λ (c : LinkContent). c.given ≡ came ++ piece)
given_more came piece old new is told =
    told_map (λ (c : LinkContent). record c { given = c.given ++ piece }) (λ (c : LinkContent). c.given ≡ came)
    (λ (c : LinkContent). c.given ≡ came ++ piece) old new is
    (λ (c : LinkContent) (p : c.given ≡ came). ap (λ (l : List ℕ). l ++ piece) p) told

pub given_at_end : (came : List ℕ) (old new : Option LinkContent) → new ≡ after_end old
    → IfSome old (λ (c : LinkContent). c.given ≡ came) → IfSome new (λ (c : LinkContent). c.given ≡ came)
given_at_end came old new is told =
    told_map (λ (c : LinkContent). record c { ended = true }) (λ (c : LinkContent). c.given ≡ came)
    (λ (c : LinkContent). c.given ≡ came) old new is (λ (c : LinkContent) (p : c.given ≡ came). p) told
