use Rattle.std.proofs.Common.{◌≡◌, ℕ, ◌≤◌, List, sym, subst, ◌∙◌}
use Rattle.std.specs.Prelude.{IfOk, Result, Ok, Err, ◌==◌}
use Rattle.std.specs.BTreeSet.{BTreeSet, contains}
use Rattle.std.specs.List.{list_any}
use Rattle.std.specs.Ordering.{nat_cmp}
use Rattle.ws_model.specs.declared.event.Event.{Event}
use Rattle.ws_model.specs.Legal.{Legal}
use Rattle.ws_model.specs.Pairs.{owed}
use Rattle.ws_delivery.specs.OwedVersions.{is_owed_version}
use Rattle.ws_delivery.specs.Stands.{StandsFor}
use Rattle.ws_delivery.specs.Table.{Rows}
use Rattle.ws_delivery.proofs.OwedVersions.{owed_versions_are}
use Rattle.ws_delivery.proofs.table.Deliveries.owed_versions.Goals as goal

passed_on : {T E : Type 0} (P Q : T → Type 0) → ((x : T) → P x → Q x) → (r : Result T E) → IfOk r P → IfOk r Q
passed_on P Q f (Ok x) p = f x p
passed_on P Q f (Err e) p = tt

pub returns-clause-stands : goal.returns-clause-stands
returns-clause-stands c =
    passed_on (λ (s : BTreeSet ℕ). (v : ℕ) → contains nat_cmp s v ≡ is_owed_version c.args.t v c.self.inside.pairs)
    (λ (s : BTreeSet ℕ). (h : List Event) (since : ℕ) → Legal h → StandsFor h since c.args.self.now → since ≤ c.args.t → (v : ℕ) → contains nat_cmp s v ≡ list_any (λ p. p.version.ver == v) (owed h c.args.t))
    (λ s has h since l stands later v. has v ∙ owed_versions_are h since c.args.t c.self.inside.pairs c.len.ensures.ordered l (subst (λ (rows : Rows). StandsFor h since rows) (sym c.self.view_is) stands) later v)
    c.owed_versions.result c.owed_versions.ensures
