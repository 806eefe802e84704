use Rattle.std.proofs.Common.{◌||◌, ◌∙◌, ap}
use Rattle.std.specs.BTreeSet.{contains}
use Rattle.std.specs.List.{list_any}
use Rattle.std.specs.Ordering.{nat_cmp}
use Rattle.ws_kept.specs.Finding.{gives_latest}
use Rattle.ws_kept.proofs.Lists.{in_two}
use Rattle.ws_kept.proofs.versions.with_latest.Goals as goal

pub returns : goal.returns
returns c =
    record {
      stands = λ h since s l v.
          c.in_ok-add_latest-2.ensures h since s l v
          ∙ (λ i. c.in_ok-add_latest.ensures h since s l v i || list_any (λ e. gives_latest h v e.what) (c.left.ensures i))
          ∙ ap (λ es. (contains nat_cmp c.args.first v || list_any (λ e. gives_latest h v e.what) es) || list_any (λ e. gives_latest h v e.what) c.args.log.now.left) c.looked.ensures
          ∙ in_two (λ e. gives_latest h v e.what) (contains nat_cmp c.args.first v) c.args.log.now.looked c.args.log.now.left;
    }
