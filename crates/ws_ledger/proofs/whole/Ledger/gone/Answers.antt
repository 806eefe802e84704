use Rattle.std.proofs.Common.{sym, subst}
use Rattle.std.specs.Prelude.{◌==◌}
use Rattle.std.specs.List.{IsDistinct}
use Rattle.ws_model.specs.declared.fate.Cause.TheVariants.{Gone as LeaseGone}
use Rattle.ws_delivery.specs.OpenOf.{open_versions}
use Rattle.ws_fate.specs.declared.totals.Standing.TheVariants.{Ended}
use Rattle.ws_ledger.specs.Rows.{Rows}
use Rattle.ws_ledger.specs.Stands.{CanFollow, GoesOn}
use Rattle.ws_ledger.proofs.ByKind.{gone_enough, gone_open, gone_stands, versions_closed}
use Rattle.ws_ledger.proofs.OwedPairs.{apart_with}
use Rattle.ws_ledger.proofs.whole.Ledger.gone.Goals as goal

pub end_open-requires-clause-are_open : goal.end_open-requires-clause-are_open
end_open-requires-clause-are_open c =
    let f = subst (λ (r : Rows). CanFollow r c.args.event.now) (sym c.self.view_is) c.requires.follows in
    gone_open _ c.args.event.now c.args.ver c.args.lease c.open_of.result f c.requires.kind c.open_of.ensures.value

pub end_open-requires-clause-enough : goal.end_open-requires-clause-enough
end_open-requires-clause-enough c =
    let f = subst (λ (r : Rows). CanFollow r c.args.event.now) (sym c.self.view_is) c.requires.follows in
    gone_enough _ c.args.event.now c.args.ver c.args.lease c.open_of.result f c.requires.kind c.open_of.ensures.value c.open_of.ensures.distinct

pub returns : goal.returns
returns c =
    record {
      stands =
          subst (λ (r : Rows). GoesOn c.args.event.now r (record { tables = c.pushed.new.self; fates = c.end_open.new.fates; open_pairs = c.end_open.new.open_pairs })) c.self.view_is
          (gone_stands c.args.event.now c.args.ver c.args.lease _ _ c.requires.kind
          (apart_with c.args.lease (open_versions c.args.lease c.self.inside.tables.deliveries) (subst (IsDistinct (λ x y. x == y)) c.open_of.ensures.value c.open_of.ensures.distinct))
          c.pushed.ensures.stands
          (versions_closed c.args.lease c.open_of.result (Ended LeaseGone) _ _ c.open_of.ensures.value c.end_open.ensures.look c.end_open.ensures.totals c.end_open.ensures.number));
    }
