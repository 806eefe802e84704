use Rattle.std.proofs.Common.{ap, sym, ◌∙◌, subst}
use Rattle.ws_core_tables.specs.Stands.{StandsFor}
use Rattle.ws_delivery.specs.Table.{pair_at}
use Rattle.ws_core_tables.specs.Allowed.{is_owed_one}
use Rattle.ws_core_tables.proofs.Lookups.{open_owed, owed_is}
use Rattle.ws_core_tables.proofs.tables.Tables.is_owed.Goals as goal

pub returns : goal.returns
returns c =
    record {
      stands = λ h since s k. c.is_owed_fate.ensures ∙ ap is_owed_one c.fate.ensures ∙ open_owed c.args.t (pair_at c.args.ver c.args.lease c.self.inside.deliveries) ∙ owed_is h since c.args.t c.args.ver c.args.lease c.self.inside.deliveries (subst (StandsFor h since) (sym c.self.view_is) s).deliveries k;
    }
