use Rattle.std.proofs.Common.{◌≡◌, ℕ, sym, subst}
use Rattle.std.specs.Prelude.{IfSome}
use Rattle.ws_delivery.specs.Table.{pair_at}
use Rattle.ws_delivery.proofs.FirstPairs.{ends_with_first}
use Rattle.ws_delivery.proofs.open_pairs.OpenPairs.first_of.Goals as goal

pub returns-clause-one_end : goal.returns-clause-one_end
returns-clause-one_end c =
    subst (λ rows. IfSome c.head_of.result (λ x. (v : ℕ) → IfSome (pair_at v c.args.lease rows) (λ p. p.exp ≡ x.exp))) c.self.view_is
    (ends_with_first c.self.inside.pairs.entries c.self.inside.heads c.args.lease c.head_of.result c.self.invariant (sym c.head_of.ensures))
