use Rattle.std.proofs.Common.{◌||◌, ◌∙◌, ap}
use Rattle.std.specs.BTreeSet.{contains}
use Rattle.std.specs.List.{list_any}
use Rattle.std.specs.Ordering.{nat_cmp}
use Rattle.ws_kept.specs.Finding.{gives_lease}
use Rattle.ws_model.specs.Keep.{member}
use Rattle.ws_sweep.specs.Rows.{members}
use Rattle.ws_kept.proofs.Lists.{contains_member, in_two}
use Rattle.ws_kept.proofs.leases.first_kept.Goals as goal

pub returns : goal.returns
returns c =
    record {
      stands = λ h since s l k n.
          c.in_ok-add_given-2.ensures h since s l k n
          ∙ (λ i. c.in_ok-add_given.ensures h since s l k n i || list_any (λ e. gives_lease h c.args.t n e.what) (c.left.ensures i))
          ∙ ap (λ es. (contains nat_cmp c.new-leases.result n || list_any (λ e. gives_lease h c.args.t n e.what) es) || list_any (λ e. gives_lease h c.args.t n e.what) c.args.log.now.left) c.looked.ensures
          ∙ in_two (λ e. gives_lease h c.args.t n e.what) (contains nat_cmp c.new-leases.result n) c.args.log.now.looked c.args.log.now.left
          ∙ ap (λ b. b || list_any (λ e. gives_lease h c.args.t n e.what) (members c.args.log.now)) (contains_member c.new-leases.result n ∙ ap (member n) c.new-leases.ensures.empty);
    }
