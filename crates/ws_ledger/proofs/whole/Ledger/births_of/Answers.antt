use Rattle.std.proofs.Common.{ap, sym, ◌∙◌, subst, filter}
use Rattle.std.specs.Prelude.{bytes_eq}
use Rattle.ws_model.specs.Leases.{live}
use Rattle.ws_lease.specs.Stands.{AreNumbersOf}
use Rattle.ws_lease.specs.Table.{live_numbers}
use Rattle.ws_core_tables.specs.Stands.{StandsFor as TablesStand}
use Rattle.ws_ledger.specs.Rows.{Rows}
use Rattle.ws_ledger.proofs.whole.Ledger.births_of.Goals as goal

pub returns-clause-numbers : goal.returns-clause-numbers
returns-clause-numbers c h since s l k =
    subst (λ ns. AreNumbersOf ns (filter (λ l. bytes_eq l.intent.topic c.args.version.now.topic) (live h c.args.t)))
    (c.leases_of_topic-leases.ensures.value ∙ ap (λ z. live_numbers z c.args.t c.self.inside.tables.leases) c.as_slice.ensures ∙ ap (λ (r : Rows). live_numbers c.args.version.now.topic c.args.t r.tables.leases) c.self.view_is)
    (subst (λ z. AreNumbersOf c.leases_of_topic-leases.result (filter (λ l. bytes_eq l.intent.topic z) (live h c.args.t))) c.as_slice.ensures
    (c.leases_of_topic-leases.ensures.stands h since (subst (λ (r : Rows). TablesStand h since r.tables) (sym c.self.view_is) s) l k))
