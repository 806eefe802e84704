use Rattle.std.proofs.Common.{◌≡◌, ap, sym, ◌∙◌, subst, refl, false}
use Rattle.std.specs.Prelude.{nat_le}
use Rattle.std.specs.List.{list_any}
use Rattle.ws_model.specs.Leases.{expiry}
use Rattle.ws_lease.specs.Index.{pair_at, topic_end_at}
use Rattle.ws_lease.specs.Indexed.{has_end}
use Rattle.ws_lease.specs.Table.{TakesExpired, without}
use Rattle.ws_lease.proofs.Answering.{none_expired, first_expired, IsFirstRow}
use Rattle.ws_lease.proofs.table.Leases.take_expired.Goals as goal

pub returns-in_err-n-clause-value : goal.returns-in_err-n-clause-value
returns-in_err-n-clause-value c =
    subst (λ o. TakesExpired c.args.t c.args.self.now o c.args.self.now) (sym c.from_residual.ensures)
    (refl, subst (λ rows. list_any (λ e. nat_le (expiry e.1) c.args.t) rows ≡ false) c.self.view_is (none_expired c.self.inside.by_number (pair_at c.self.inside.by_topic) (topic_end_at c.self.inside.by_topic) (has_end c.self.inside.by_end) c.self.invariant c.args.t c.in_err-n.ensures))

pub returns-clause-value : goal.returns-clause-value
returns-clause-value c =
    let r : IsFirstRow c.args.t c.in_ok-n.n c.args.self.now =
    subst (IsFirstRow c.args.t c.in_ok-n.n) c.self.view_is
    (first_expired c.self.inside.by_number (pair_at c.self.inside.by_topic) (topic_end_at c.self.inside.by_topic) (has_end c.self.inside.by_end) c.self.invariant c.args.t c.in_ok-n.n c.requires c.in_ok-n.ensures) in
    subst (λ o. TakesExpired c.args.t c.args.self.now o c.take.new.self) (sym (c.take.ensures.taken ∙ r.here))
    (c.take.ensures.value ∙ ap (λ n. without n c.args.self.now) (sym r.number), r.first)
