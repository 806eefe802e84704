use Rattle.std.proofs.Common.{◌≡◌, ap, sym, ◌∙◌, subst, refl, ◌<◌, length, List, [], ◌∷◌, ◌++◌}
use Rattle.std.specs.Prelude.{cond, Some, option_map}
use Rattle.std.specs.Option.{IsSomeAnd}
use Rattle.ws_tries.specs.Rows.{is_here, tries_at}
use Rattle.ws_tries.specs.declared.room.Try.{Try}
use Rattle.ws_tries.proofs.Keyed.{looks_by_key}
use Rattle.ws_tries.proofs.Roomed.{roomed_as_before}
use Rattle.ws_tries.proofs.held.Held.add.Goals as goal

pub add-requires : goal.add-requires
add-requires c = subst (λ o. IsSomeAnd o (λ tries. length tries < 8)) ((λ j. tries_at c.args.ver c.args.lease (sym c.self.view_is j)) ∙ sym c.in-Some.ensures.value) c.requires.room

pub invariant_of-self : goal.invariant_of-self
invariant_of-self c =
    let after = (c.get_mut.follows.holds c.add.new.self).3 (rw (← c.in-Some.ensures.value) refl) in
    roomed_as_before c.args.ver c.args.lease c.self.inside.by_lease c.self.inside.by_pair.entries (c.get_mut.follows.lender c.add.new.self).entries (Some c.in-Some.room.now) (Some c.add.new.self) c.self.invariant (sym c.in-Some.ensures.value) refl
    (looks_by_key c.self.inside.by_pair.entries (c.get_mut.follows.lender c.add.new.self).entries c.args.ver c.args.lease (Some c.add.new.self) after.0)

pub returns : goal.returns
returns c =
    let with_try : List Try → List Try = λ tries. tries ++ c.args.made ∷ [] in
    let path : Some c.add.new.self ≡ option_map with_try (tries_at c.args.ver c.args.lease c.args.self.now) =
    ap (λ (tries : List Try). Some tries) c.add.ensures ∙ ap (option_map with_try) (c.in-Some.ensures.value ∙ (λ j. tries_at c.args.ver c.args.lease (c.self.view_is j))) in
    record {
      look = λ v n.
          looks_by_key c.self.inside.by_pair.entries (c.get_mut.follows.lender c.add.new.self).entries c.args.ver c.args.lease (Some c.add.new.self) ((c.get_mut.follows.holds c.add.new.self).3 (rw (← c.in-Some.ensures.value) refl)).0 v n
          ∙ (λ j. cond (is_here c.args.ver c.args.lease v n) (path j) (tries_at v n (c.self.view_is j)));
    }
