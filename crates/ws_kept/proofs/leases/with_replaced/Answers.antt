use Rattle.std.proofs.Common.{◌∙◌, ap, sym}
use Rattle.std.specs.BTreeSet.{contains}
use Rattle.std.specs.Ordering.{nat_cmp}
use Rattle.ws_model.specs.Keep.{member}
use Rattle.ws_kept.specs.Finding.{goes_on_in, with_old_ones}
use Rattle.ws_kept.proofs.Fewer.{in_parts}
use Rattle.ws_kept.proofs.Lists.{contains_member}
use Rattle.ws_kept.proofs.leases.with_replaced.Goals as goal

pub returns : goal.returns
returns c n =
    let goes = goes_on_in (contains nat_cmp c.args.versions.now) c.args.fates.now c.args.tries.now in
    c.in_ok-add_all_replaced-2.ensures n
    ∙ ap (λ rs. member n (with_old_ones goes c.add_all_replaced.new.leases.keys rs)) c.looked.ensures
    ∙ in_parts goes c.args.first.keys c.add_all_replaced.new.leases.keys c.args.renewals.now.looked c.args.renewals.now.left
    (λ m. sym (contains_member c.add_all_replaced.new.leases m) ∙ c.in_ok-add_all_replaced.ensures m ∙ ap (λ rs. member m (with_old_ones goes c.args.first.keys rs)) c.left.ensures) n
