use Rattle.std.proofs.Common.{◌≡◌, ◌++◌, sym, subst, true}
use mathlib.Core.Logic.{∥∥₁_map}
use Rattle.ws_kept.specs.Part.{IsPart}
use Rattle.ws_kept.specs.Stands.{is_needed, log_of}
use Rattle.ws_core.proofs.Freed.{not_needed, without_first}
use Rattle.ws_core.proofs.sweeping.look_at_log.Goals as goal

pub returns-in-Some : goal.returns-in-Some
returns-in-Some c h held logged =
    ∥∥₁_map logged
    (λ part.
    subst (λ xs. IsPart (λ e. is_needed h c.args.t e ≡ true) xs (log_of h)) (λ j. sym c.take_next.ensures.looked j ++ sym c.take_next.ensures.left j)
    (without_first (λ e. is_needed h c.args.t e ≡ true) c.args.log.now.looked c.args.log.now.left c.in-Some.event.now c.in-Some.ensures (not_needed (is_needed h c.args.t c.in-Some.event.now) (c.is_free.ensures c.if-is_free.true h held)) part))
