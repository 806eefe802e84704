use Rattle.std.proofs.Common.{◌||◌, ◌∙◌, ap, arith}
use Rattle.std.specs.BTreeSet.{contains}
use Rattle.std.specs.Ordering.{nat_cmp}
use Rattle.ws_kept.specs.Finding.{gives_latest}
use Rattle.ws_kept.proofs.Lists.{end_done, next_done}
use Rattle.ws_kept.proofs.versions.add_latest.Goals as goal

pub loop-event-preserved : goal.loop-event-preserved
loop-event-preserved c =
    record {
      so_far = λ h since s l v.
          next_done (λ e. gives_latest h v e.what) c.args.events.now c.loop-event.event-index c.event-item.result _ (contains nat_cmp c.loop-event.versions v) _ (omega arith) c.event-item.is
          (c.in_ok-add.ensures v ∙ ap (λ b. contains nat_cmp c.loop-event.versions v || b) (c.latest_by.ensures.stands h since s l v))
          (c.loop-event.invariant.so_far h since s l v);
    }

pub returns : goal.returns
returns c h since s l v =
    end_done (λ e. gives_latest h v e.what) c.args.events.now c.loop-event.event-index (contains nat_cmp c.loop-event.versions v) _ (let a = c.loop-event-test.false in omega arith)
    (c.loop-event.invariant.so_far h since s l v)
