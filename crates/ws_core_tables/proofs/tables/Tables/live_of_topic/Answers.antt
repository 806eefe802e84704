use Rattle.std.proofs.Common.{ap, sym, ◌∙◌, subst, length, arith}
use Rattle.std.specs.Prelude.{bytes_eq}
use Rattle.ws_model.specs.Leases.{live}
use Rattle.ws_lease.proofs.Standing.{live_apart}
use Rattle.ws_core_tables.specs.Stands.{StandsFor}
use Rattle.ws_core_tables.proofs.LeaseCounts.{as_many, few_of_topic}
use Rattle.ws_core_tables.proofs.tables.Tables.live_of_topic.Goals as goal

pub how_many-requires : goal.how_many-requires
how_many-requires c =
    let few = few_of_topic c.args.topic.now c.args.t c.self.inside.leases in
    let all = c.count.ensures.value in
    let small = c.count.ensures.small in
    let same = ap length c.live_of_topic.ensures.value in
    record { few = omega arith }

pub returns : goal.returns
returns c =
    record {
      stands = λ h since s l later.
          c.how_many.ensures
          ∙ as_many (λ l. bytes_eq l.intent.topic c.args.topic.now) c.live_of_topic.result (live h c.args.t) (live_apart h l c.args.t)
          (c.live_of_topic.ensures.stands h since l (subst (StandsFor h since) (sym c.self.view_is) s).leases later);
    }
