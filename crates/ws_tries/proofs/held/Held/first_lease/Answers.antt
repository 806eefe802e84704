use Rattle.std.proofs.Common.{◌≡◌, ℕ, sym, ◌∙◌}
use Rattle.std.specs.Prelude.{IfNone, None, Option, Some}
use Rattle.ws_tries.specs.Rows.{tries_at}
use Rattle.ws_tries.proofs.Keyed.{from_first, under_next}
use Rattle.ws_tries.proofs.held.Held.first_lease.Goals as goal

pub returns-in_err-pair-clause-none : goal.returns-in_err-pair-clause-none
returns-in_err-pair-clause-none c = by c.from_residual.result
  where
    none : (n : ℕ) → tries_at c.args.ver n c.args.self.now ≡ None
    none n = (λ j. tries_at c.args.ver n (sym c.self.view_is j)) ∙ (c.range.ensures.in_range tt).5 c.in_err-pair.ensures.steps.0 (c.args.ver, n) (from_first c.args.ver n, under_next c.args.ver n)

    by : (o : Option ℕ) → IfNone o ((n : ℕ) → tries_at c.args.ver n c.args.self.now ≡ None)
    by None = none
    by (Some n) = tt
