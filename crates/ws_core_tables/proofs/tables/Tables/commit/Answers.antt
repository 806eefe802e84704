use Rattle.std.proofs.Common.{sym, subst, ◌∙◌}
use Rattle.std.specs.Prelude.{map}
use Rattle.ws_core_tables.specs.Committing.{GoTogether}
use Rattle.ws_core_tables.proofs.Together.{all_committed, can_follow, whats_numbered}
use Rattle.ws_core_tables.proofs.tables.Tables.commit.Goals as goal

pub apply_all-requires-clause-follow : goal.apply_all-requires-clause-follow
apply_all-requires-clause-follow c =
    can_follow c.args.self.now c.args.t c.args.whats.items c.requires.follow c.deref.result.now
    (c.deref.ensures.value ∙ c.in_ok-events.ensures.events c.requires.follow.past c.requires.follow.since c.requires.follow.stands)

pub apply_all-requires-clause-together : goal.apply_all-requires-clause-together
apply_all-requires-clause-together c =
    let events = c.deref.ensures.value ∙ c.in_ok-events.ensures.events c.requires.follow.past c.requires.follow.since c.requires.follow.stands in
    subst (λ es. GoTogether (map (λ e. e.what) es)) (sym events)
    (subst GoTogether (sym (whats_numbered c.args.t c.args.whats.items c.requires.follow.past)) c.requires.together)

pub returns-clause-ok : goal.returns-clause-ok
returns-clause-ok c = λ h since s l k.
    all_committed c.args.t c.args.whats.items c.args.self.now c.apply_all.new.self h since c.deref.result.now
    (c.deref.ensures.value ∙ c.in_ok-events.ensures.events h since s)
    c.in_ok-apply_all.ensures.ok s l k
