use Rattle.std.proofs.Common.{rules, ◌≡◌, ◌∷◌, subst, sym}
use Rattle.std.specs.Prelude.{map}
use Rattle.ws_core_tables.specs.Committing.{AllGoOn, CanAllFollow, GoTogether}
use Rattle.ws_core_tables.proofs.Together.{all_go_on, first_follows, rest_follows, rest_together}
use Rattle.ws_core_tables.proofs.tables.Tables.+apply_all.Goals as goal

pub begin-requires-clause-follows : goal.begin-requires-clause-follows
begin-requires-clause-follows t c =
    let parts : c.args.events.now ≡ c.in-Some.first.now ∷ c.in-Some.rest.now = search rules in
    first_follows c.args.self.now c.in-Some.first.now c.in-Some.rest.now (subst (CanAllFollow c.args.self.now) parts c.requires.follow)

pub apply_all-requires : goal.apply_all-requires
apply_all-requires t c =
    let parts : c.args.events.now ≡ c.in-Some.first.now ∷ c.in-Some.rest.now = search rules in (
      search rules,
      (
        rest_follows c.args.self.now c.begin.new.self c.in-Some.first.now c.in-Some.rest.now (subst (CanAllFollow c.args.self.now) parts c.requires.follow) c.in_ok-before.ensures.ok,
        rest_together c.in-Some.first.now.what (map (λ e. e.what) c.in-Some.rest.now) (subst (λ es. GoTogether (map (λ e. e.what) es)) parts c.requires.together),
      ),
    )

pub returns-in-Ok-clause-ok : goal.returns-in-Ok-clause-ok
returns-in-Ok-clause-ok t c =
    let parts : c.args.events.now ≡ c.in-Some.first.now ∷ c.in-Some.rest.now = search rules in
    subst (λ es. AllGoOn es c.args.self.now c.apply_all.new.self) (sym parts)
    (all_go_on c.in-Some.first.now c.in-Some.rest.now c.args.self.now c.begin.new.self c.apply_all.new.self c.in_ok-before.ensures.ok c.in-Ok.ensures.ok)
