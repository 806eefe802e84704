use Rattle.std.proofs.Common.{◌||◌, ◌∙◌, ap, sym}
use Rattle.std.specs.List.{list_any}
use Rattle.std.specs.BTreeSet.{contains}
use Rattle.std.specs.Ordering.{nat_cmp}
use Rattle.ws_kept.specs.Finding.{owes}
use Rattle.ws_kept.proofs.Lists.{all_done, one_done}
use Rattle.ws_kept.proofs.Owed.{owed_found}
use Rattle.ws_kept.proofs.versions.owed_versions.Goals as goal

pub loop-pair-preserved : goal.loop-pair-preserved
loop-pair-preserved c =
    record {
      next = tt;
      finite = tt;
      so_far = λ h since s k v.
          one_done _ (contains nat_cmp c.loop-pair.versions v) (owes h c.args.t v c.in-Some.pair.now) _ _
          (c.in_ok-add.ensures v ∙ ap (λ b. contains nat_cmp c.loop-pair.versions v || b) (c.owed_by.ensures.stands h since s k v))
          (sym (ap (λ es. contains nat_cmp c.loop-pair.versions v || list_any (λ e. owes h c.args.t v e.0) es) c.in-Some.ensures.steps) ∙ c.loop-pair.invariant.so_far h since s k v);
    }

pub returns : goal.returns
returns c =
    record {
      stands = λ h since s rooms l k v.
          all_done (contains nat_cmp c.loop-pair.versions v) _
          (sym (ap (λ es. contains nat_cmp c.loop-pair.versions v || list_any (λ e. owes h c.args.t v e.0) es) c.in-None.ensures.steps.0) ∙ c.loop-pair.invariant.so_far h since s k v)
          ∙ owed_found h c.args.t v l c.args.tries.now rooms;
    }
