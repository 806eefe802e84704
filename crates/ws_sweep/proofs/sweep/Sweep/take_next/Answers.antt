use Rattle.std.proofs.Common.{drop, ap, sym, ◌∙◌}
use Rattle.std.proofs.lemmas.List.{drop-drop}
use Rattle.ws_sweep.proofs.sweep.Sweep.take_next.Goals as goal

pub returns-clause-left : goal.returns-clause-left
returns-clause-left g c = sym (drop-drop 1 c.self.inside.left c.self.inside.items.items) ∙ ap (λ r. drop 1 r.left) c.self.view_is
