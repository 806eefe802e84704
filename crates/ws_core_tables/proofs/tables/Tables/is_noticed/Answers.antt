use Rattle.std.proofs.Common.{ap, sym, ◌∙◌, subst}
use Rattle.ws_core_tables.specs.Stands.{StandsFor}
use Rattle.ws_core_tables.proofs.Lookups.{is_some-copied, notice_is}
use Rattle.std.specs.Prelude.{is_some}
use Rattle.ws_core_tables.proofs.tables.Tables.is_noticed.Goals as goal

pub returns : goal.returns
returns c =
    record {
      stands = λ h since s. c.is_some.ensures ∙ is_some-copied c.notice.result ∙ ap is_some c.notice.ensures ∙ notice_is h c.self.inside.intents c.args.n (subst (StandsFor h since) (sym c.self.view_is) s).intents;
    }
