use Rattle.std.proofs.Common.{◌≡◌, ◌≤◌, arith, refl, ap, ◌∙◌, ◌++◌, length, sym, subst}
use Rattle.std.specs.Prelude.{map}
use Rattle.ws_sweep.specs.Rows.{members}
use Rattle.ws_kept.specs.Stands.{light_event}
use Rattle.ws_core_tables.specs.Committing.{committed}
use Rattle.ws_core.specs.Committing.{AllGoOn}
use Rattle.ws_core.specs.Rows.{Rows}
use Rattle.ws_core.specs.Stands.{StandsFor}
use Rattle.ws_core.proofs.Going.{all_go_on, as_many}
use Rattle.ws_core.proofs.whole.Core.commit.Goals as goal

pub add_all_reserved-requires : goal.add_all_reserved-requires
add_all_reserved-requires c =
    let f = c.requires.follow in
    let inside = subst (StandsFor f.past f.since) (sym c.self.view_is) f.stands in
    let same : c.in_ok-events.events.len ≡ c.args.whats.len = c.in_ok-events.events.ok.0 ∙ ap length (c.in_ok-events.ensures.events f.past f.since inside.ledger) ∙ as_many c.args.t c.args.whats.items f.past ∙ sym c.args.whats.ok.0 in
    let added : c.len-added.result ≡ c.args.whats.len = c.len-added.ensures in
    let room : c.len-added.result ≤ c.reserve.new.self.room = c.in_ok-reserve.ensures.room in
    omega arith

pub returns-clause-ok : goal.returns-clause-ok
returns-clause-ok c =
    let old : Rows = record { ledger = c.self.inside.ledger; log = members c.self.inside.log; renewals = members c.self.inside.renewals; tries = c.self.inside.tries } in
    let mid : Rows = record { ledger = c.commit.new.self; log = members c.add_all_reserved.new.log; renewals = members c.self.inside.renewals; tries = c.self.inside.tries } in
    subst (λ (r : Rows). AllGoOn c.args.t c.args.whats.items r c.sweep.new.self) c.self.view_is
    (λ h since s l le.
    c.sweep.ensures.stands (committed c.args.t c.args.whats.items h)
    (all_go_on c.args.t c.args.whats.items c.in_ok-events.events.items old mid c.requires.quiet c.in_ok-events.ensures.ok
    (λ g u r. c.in_ok-events.ensures.events g u r.ledger)
    (c.add_all_reserved.ensures ∙ ap (λ es. es ++ map light_event c.in_ok-events.events.items) (λ j. c.in_ok-reserve.ensures.looked j ++ c.in_ok-reserve.ensures.left j)) refl refl h since s l le) l)
