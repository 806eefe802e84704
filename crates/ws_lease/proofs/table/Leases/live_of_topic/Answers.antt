use Rattle.std.proofs.Common.{ap, sym, ◌∙◌, subst, filter}
use Rattle.std.specs.Prelude.{bytes_eq}
use Rattle.std.specs.Option.{option_and_then}
use Rattle.std.specs.Map.{lookup}
use Rattle.std.specs.BTreeMap.{is_at}
use Rattle.std.specs.Ordering.{nat_cmp}
use Rattle.ws_model.specs.Leases.{live}
use Rattle.ws_lease.specs.Index.{end_at}
use Rattle.ws_lease.specs.Table.{live_numbers}
use Rattle.ws_lease.specs.Stands.{StandsFor, AreNumbersOf}
use Rattle.ws_lease.proofs.Answering.{topic_live, topic_live_none, topic_numbers}
use Rattle.ws_lease.proofs.Standing.{live_apart}
use Rattle.ws_lease.proofs.table.Leases.live_of_topic.Goals as goal

pub returns-in-Some-clause-value : goal.returns-in-Some-clause-value
returns-in-Some-clause-value c =
    c.of.ensures
    ∙ topic_live c.self.inside.by_number.entries c.self.invariant.ordered c.args.t c.requires c.args.topic.now c.ends.result
    (rw c.ends.ensures.rest c.ends.ensures.ordered)
    (λ n. ap (lookup (is_at (nat_cmp n))) c.ends.ensures.rest ∙ ap (option_and_then (end_at n)) c.in-Some.ensures.value ∙ c.self.invariant.in_topics c.args.topic.now n)
    ∙ ap (live_numbers c.args.topic.now c.args.t) c.self.view_is

pub returns-in-Some-clause-stands : goal.returns-in-Some-clause-stands
returns-in-Some-clause-stands c =
    λ h since legal s le.
    subst (λ ns. AreNumbersOf ns (filter (λ l. bytes_eq l.intent.topic c.args.topic.now) (live h c.args.t)))
    (sym (c.of.ensures
    ∙ topic_live c.self.inside.by_number.entries c.self.invariant.ordered c.args.t c.requires c.args.topic.now c.ends.result
    (rw c.ends.ensures.rest c.ends.ensures.ordered)
    (λ n. ap (lookup (is_at (nat_cmp n))) c.ends.ensures.rest ∙ ap (option_and_then (end_at n)) c.in-Some.ensures.value ∙ c.self.invariant.in_topics c.args.topic.now n)))
    (topic_numbers c.self.inside.by_number.entries c.self.invariant.ordered c.args.t (live h c.args.t) (live_apart h legal c.args.t) (λ n. (subst (StandsFor h since) (sym c.self.view_is) s).shows c.args.t n le) c.args.topic.now)

pub returns-in-None-clause-value : goal.returns-in-None-clause-value
returns-in-None-clause-value c =
    c.none.ensures
    ∙ topic_live_none c.self.inside.by_number.entries c.self.invariant.ordered c.args.t c.requires c.args.topic.now
    (λ n. ap (option_and_then (end_at n)) c.in-None.ensures.value ∙ c.self.invariant.in_topics c.args.topic.now n)
    ∙ ap (live_numbers c.args.topic.now c.args.t) c.self.view_is

pub returns-in-None-clause-stands : goal.returns-in-None-clause-stands
returns-in-None-clause-stands c =
    λ h since legal s le.
    subst (λ ns. AreNumbersOf ns (filter (λ l. bytes_eq l.intent.topic c.args.topic.now) (live h c.args.t)))
    (sym (c.none.ensures
    ∙ topic_live_none c.self.inside.by_number.entries c.self.invariant.ordered c.args.t c.requires c.args.topic.now
    (λ n. ap (option_and_then (end_at n)) c.in-None.ensures.value ∙ c.self.invariant.in_topics c.args.topic.now n)))
    (topic_numbers c.self.inside.by_number.entries c.self.invariant.ordered c.args.t (live h c.args.t) (live_apart h legal c.args.t) (λ n. (subst (StandsFor h since) (sym c.self.view_is) s).shows c.args.t n le) c.args.topic.now)
