use Rattle.std.proofs.Common.{ap, sym, ◌∙◌, subst, length, ◌+◌}
use Rattle.std.specs.Prelude.{Some, ◌==◌}
use Rattle.std.specs.List.{list_any}
use Rattle.std.proofs.lemmas.Bool.{and_parts}
use Rattle.ws_ledger.specs.Pairs.{with_lease, with_many}
use Rattle.ws_ledger.proofs.Lists.{AreChanged, changed_none, next_listed, next_same}
use Rattle.ws_ledger.proofs.OwedPairs.{apart_with, listed_with}
use Rattle.ws_ledger.proofs.ends.end_open.Goals as goal

pub loop-ver-init : goal.loop-ver-init
loop-ver-init c =
    let same = c.into_iter-ver-iterator.ensures.into_iter_gives in
    record {
      changed = subst (λ vs. AreChanged (Some c.args.how) (with_lease c.args.lease c.args.versions) (with_lease c.args.lease vs) c.args.fates.now c.args.fates.now) (sym same) (changed_none (Some c.args.how) (with_lease c.args.lease c.args.versions) c.args.fates.now (apart_with c.args.lease c.args.versions c.requires.distinct));
      totals = ap (λ vs. with_many (length vs) c.args.how c.args.fates.now.totals) same;
      number = ap (λ vs. c.args.open_pairs.now + length vs) (sym same);
    }

pub end-requires : goal.end-requires
end-requires c =
    let changed = subst (λ vs. AreChanged (Some c.args.how) (with_lease c.args.lease c.args.versions) (with_lease c.args.lease vs) c.args.fates.now c.loop-ver.fates) c.in-Some.ensures.steps c.loop-ver.invariant.changed in
    let listed = next_listed (Some c.args.how) (c.in-Some.ver, c.args.lease) (with_lease c.args.lease c.args.versions) _ c.args.fates.now c.loop-ver.fates changed in
    record {
      is_open =
          next_same (Some c.args.how) (c.in-Some.ver, c.args.lease) (with_lease c.args.lease c.args.versions) _ c.args.fates.now c.loop-ver.fates changed
          ∙ c.requires.are_open c.in-Some.ver (and_parts (c.args.lease == c.args.lease) (list_any (λ w. w == c.in-Some.ver) c.args.versions) (sym (listed_with c.in-Some.ver c.args.lease c.args.lease c.args.versions) ∙ listed)).1;
    }
