use Rattle.std.proofs.Common.{◌||◌, ap, sym, ◌∙◌}
use Rattle.ws_model.specs.Intents.{notices}
use Rattle.ws_model.specs.Keep.{is_among}
use Rattle.ws_sift.proofs.choosing.is_awaited.Goals as goal

pub returns-then-is_pending : goal.returns-then-is_pending
returns-then-is_pending c h since s = c.if-is_pending.true ∙ sym (ap (λ b. b || is_among (notices h) c.args.n) (sym (c.is_pending.ensures h since s) ∙ c.if-is_pending.true))

pub returns-else-is_pending : goal.returns-else-is_pending
returns-else-is_pending c h since s = c.is_denied.ensures h since s ∙ sym (ap (λ b. b || is_among (notices h) c.args.n) (sym (c.is_pending.ensures h since s) ∙ c.if-is_pending.false))
