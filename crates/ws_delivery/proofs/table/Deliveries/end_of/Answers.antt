use Rattle.std.proofs.Common.{◌≡◌, ℕ, ap, sym, ◌∙◌, subst}
use Rattle.std.specs.Prelude.{IfSome, IsSomeAnd}
use Rattle.ws_order.specs.declared.next_try.NextTry.{NextTry}
use Rattle.ws_delivery.specs.Table.{pair_at}
use Rattle.ws_delivery.proofs.FirstPairs.{first_is_open}
use Rattle.ws_delivery.proofs.RowsByKey.{no_head}
use Rattle.ws_delivery.proofs.table.Deliveries.end_of.Goals as goal

pub returns-in-Some : goal.returns-in-Some
returns-in-Some c = record {
  end =
      subst (λ rows. (v : ℕ) → IfSome (pair_at v c.args.lease rows) (λ p. p.exp ≡ c.in-Some.first.exp)) c.self.view_is
      (subst (λ o. IfSome o (λ (x : NextTry). (v : ℕ) → IfSome (pair_at v c.args.lease c.self.inside.pairs) (λ p. p.exp ≡ x.exp))) c.in-Some.is c.first_of.ensures.one_end);
  held =
      subst (λ rows. (v : ℕ) × IsSomeAnd (pair_at v c.args.lease rows) (λ p. p.exp ≡ c.in-Some.first.exp)) c.self.view_is
      (first_is_open c.self.inside.pairs c.args.lease c.in-Some.first c.first_of.ensures.ordered (sym c.first_of.ensures.first ∙ c.in-Some.is));
}

pub returns-in-None : goal.returns-in-None
returns-in-None c = record {
  end = λ v. ap (pair_at v c.args.lease) (sym c.self.view_is) ∙ no_head c.args.lease c.self.inside.pairs (sym c.first_of.ensures.first ∙ c.in-None.is) v;
  held = tt;
}
