use Rattle.ws_core.proofs.Following.{history_after}
use Rattle.ws_core.proofs.whole.Core.apply.Goals as goal

pub returns-clause-history : goal.returns-clause-history
returns-clause-history c = history_after c.args.event.now _ _ c.requires.follows c.in_ok-apply_kind.ensures.ok
