use Rattle.std.proofs.Common.{◌≡◌, ℕ, ◌≤◌, ap, sym, ◌∙◌}
use Rattle.std.specs.Prelude.{IfNone, None, Option, Some}
use Rattle.ws_tries.specs.Rows.{tries_at}
use Rattle.ws_tries.proofs.Roomed.{none_before, none_from, none_of}
use Rattle.ws_tries.proofs.held.Held.next_version.Goals as goal

pub returns-in_err-pair-clause-none : goal.returns-in_err-pair-clause-none
returns-in_err-pair-clause-none c = by c.from_residual.result
  where
    none : (w : ℕ) → c.args.from ≤ w → tries_at w c.args.lease c.args.self.now ≡ None
    none w le =
        ap (tries_at w c.args.lease) (sym c.self.view_is)
        ∙ none_from c.args.lease c.args.from c.self.inside.by_lease c.self.inside.by_pair.entries c.self.invariant _ w (c.range.ensures.in_range tt) c.in_err-pair.ensures.steps.0 le

    by : (o : Option ℕ) → IfNone o ((w : ℕ) → c.args.from ≤ w → tries_at w c.args.lease c.args.self.now ≡ None)
    by None = none
    by (Some w) = tt

pub returns-then-pair-lease-clause-passed : goal.returns-then-pair-lease-clause-passed
returns-then-pair-lease-clause-passed c w le less =
    ap (tries_at w c.args.lease) (sym c.self.view_is)
    ∙ none_before c.args.lease c.args.from c.self.inside.by_lease c.self.inside.by_pair.entries c.self.invariant _ _ _ w (c.range.ensures.in_range tt) c.in_ok-pair.ensures.steps c.if-pair-lease.true le less

pub returns-else-pair-lease-clause-none : goal.returns-else-pair-lease-clause-none
returns-else-pair-lease-clause-none c w le =
    ap (tries_at w c.args.lease) (sym c.self.view_is)
    ∙ none_of c.args.lease c.args.from c.self.inside.by_lease c.self.inside.by_pair.entries c.self.invariant _ _ _ w (c.range.ensures.in_range tt) c.in_ok-pair.ensures.steps c.if-pair-lease.false le
