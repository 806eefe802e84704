use Rattle.std.proofs.Common.{◌∙◌}
use Rattle.std.specs.Map.{lookup}
use Rattle.std.specs.BTreeMap.{is_at}
use Rattle.std.specs.Ordering.{nat_cmp}
use Rattle.ws_model.specs.Leases.{or_else}
use Rattle.ws_sift.specs.Sifted.{replaced_in}
use Rattle.ws_sift.proofs.Older.{in_parts}
use Rattle.ws_sift.proofs.replaced.replaced_intents.Goals as goal

pub returns : goal.returns
returns c n =
    let kept = c.args.kept.now.leases in
    c.in_ok-add_each-2.ensures n
    ∙ (λ i. or_else (replaced_in kept (c.looked.ensures i) n) (c.in_ok-add_each.ensures n i))
    ∙ (λ i. or_else (replaced_in kept c.args.renewals.now.looked n) (or_else (replaced_in kept (c.left.ensures i) n) (lookup (is_at (nat_cmp n)) (c.new-intents.ensures.empty i))))
    ∙ in_parts kept c.args.renewals.now.looked c.args.renewals.now.left n
