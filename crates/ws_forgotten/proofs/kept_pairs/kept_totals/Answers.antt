use Rattle.std.proofs.Common.{sym, ap, ◌∙◌, subst}
use Rattle.std.specs.Map.{keys_of}
use Rattle.ws_fate.specs.Totals.{with_one}
use Rattle.ws_forgotten.specs.Forgotten.{kept_ends, with_ends}
use Rattle.ws_forgotten.proofs.OneByOne.{AreWithin, forgotten_skipped, kept_counted, none_left, one_within}
use Rattle.ws_forgotten.proofs.kept_pairs.kept_totals.Goals as goal

pub loop-pair-preserved-then-has_pair : goal.loop-pair-preserved-then-has_pair
loop-pair-preserved-then-has_pair c =
    record {
      next = tt;
      finite = tt;
      ordered = c.loop-pair.invariant.ordered;
      within = subst AreWithin (sym c.add.ensures) (one_within c.loop-pair.totals c.standing_of.result c.loop-pair.invariant.within);
      so_far = λ h since tables shown l le.
          ap (λ totals. with_ends totals (kept_ends h c.args.t c.args.kept.now (keys_of c.next.new.self)))
          (c.add.ensures ∙ ap (λ s. with_one s c.loop-pair.totals) (c.standing_of.ensures.stands h since tables shown l le))
          ∙ sym (kept_counted h c.args.t c.loop-pair.totals c.args.kept.now c.in-Some.pair.now (keys_of c.next.new.self) (sym c.if-has_pair.ensures))
          ∙ ap (λ rooms. with_ends c.loop-pair.totals (kept_ends h c.args.t c.args.kept.now (keys_of rooms))) (sym c.in-Some.ensures.steps)
          ∙ c.loop-pair.invariant.so_far h since tables shown l le;
    }

pub loop-pair-preserved : goal.loop-pair-preserved
loop-pair-preserved c =
    record {
      next = tt;
      finite = tt;
      ordered = c.loop-pair.invariant.ordered;
      within = c.loop-pair.invariant.within;
      so_far = λ h since tables shown l le.
          sym (forgotten_skipped h c.args.t c.loop-pair.totals c.args.kept.now c.in-Some.pair.now (keys_of c.next.new.self) (sym c.if-has_pair.ensures))
          ∙ ap (λ rooms. with_ends c.loop-pair.totals (kept_ends h c.args.t c.args.kept.now (keys_of rooms))) (sym c.in-Some.ensures.steps)
          ∙ c.loop-pair.invariant.so_far h since tables shown l le;
    }

pub returns-clause-stands : goal.returns-clause-stands
returns-clause-stands c = λ h since tables shown l le.
    sym (none_left c.loop-pair.totals c.loop-pair.invariant.within)
    ∙ ap (λ rooms. with_ends c.loop-pair.totals (kept_ends h c.args.t c.args.kept.now (keys_of rooms))) (sym c.in-None.ensures.steps.0)
    ∙ c.loop-pair.invariant.so_far h since tables shown l le
