use Rattle.std.proofs.Common.{◌||◌, ap, sym, ◌∙◌}
use Rattle.std.specs.Prelude.{◌==◌}
use Rattle.std.specs.List.{list_any}
use Rattle.ws_fate.specs.Stands.{is_owed_at}
use Rattle.ws_lease.proofs.SortedEntries.{any_filter}
use Rattle.ws_kept.proofs.versions.has_owed.Goals as goal

pub loop-pair-init : goal.loop-pair-init
loop-pair-init c =
    record {
      next = tt;
      finite = tt;
      so_far = λ h since s k.
          ap (list_any (λ e. is_owed_at h c.args.t e.0.0 e.0.1)) (c.into_iter-pair-iterator.ensures.into_iter_gives ∙ c.rooms_of-pair-items.ensures)
          ∙ any_filter (λ e. is_owed_at h c.args.t e.0.0 e.0.1) (λ e. e.0.0 == c.args.ver) c.args.tries.now;
    }

pub loop-pair-preserved : goal.loop-pair-preserved
loop-pair-preserved c =
    record {
      next = tt;
      finite = tt;
      so_far = λ h since s k.
          ap (λ b. b || list_any (λ e. is_owed_at h c.args.t e.0.0 e.0.1) c.next.new.self) (c.if-is_owed.ensures.stands h since s k)
          ∙ ap (list_any (λ e. is_owed_at h c.args.t e.0.0 e.0.1)) (sym c.in-Some.ensures.steps)
          ∙ c.loop-pair.invariant.so_far h since s k;
    }

pub returns-then-is_owed : goal.returns-then-is_owed
returns-then-is_owed c =
    record {
      stands = λ h since s k.
          ap (λ b. b || list_any (λ e. is_owed_at h c.args.t e.0.0 e.0.1) c.next.new.self) (c.if-is_owed.ensures.stands h since s k)
          ∙ ap (list_any (λ e. is_owed_at h c.args.t e.0.0 e.0.1)) (sym c.in-Some.ensures.steps)
          ∙ c.loop-pair.invariant.so_far h since s k;
    }

pub returns : goal.returns
returns c = record { stands = λ h since s k. ap (list_any (λ e. is_owed_at h c.args.t e.0.0 e.0.1)) (sym c.in-None.ensures.steps.0) ∙ c.loop-pair.invariant.so_far h since s k }
