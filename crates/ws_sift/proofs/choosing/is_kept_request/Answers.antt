use Rattle.std.proofs.Common.{◌||◌, ap, sym, ◌∙◌}
use Rattle.ws_model.specs.Keep.{kept_leases, member}
use Rattle.ws_sift.proofs.choosing.is_kept_request.Goals as goal

pub returns-then-is_awaited : goal.returns-then-is_awaited
returns-then-is_awaited c h since t p =
    c.if-is_awaited.true ∙ sym (ap (λ b. b || member c.args.n (kept_leases h t)) (sym (c.is_awaited.ensures h since p.stands) ∙ c.if-is_awaited.true))

pub returns-else-is_awaited : goal.returns-else-is_awaited
returns-else-is_awaited c h since t p =
    c.has_lease.ensures ∙ p.kept.leases c.args.n ∙ sym (ap (λ b. b || member c.args.n (kept_leases h t)) (sym (c.is_awaited.ensures h since p.stands) ∙ c.if-is_awaited.false))
