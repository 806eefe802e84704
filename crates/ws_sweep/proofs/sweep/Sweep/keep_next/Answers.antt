use Rattle.std.proofs.Common.{◌≡◌, ◌+◌, ◌-◌, ◌<◌, drop, length, ap, sym, subst, ◌∙◌, arith}
use Rattle.std.proofs.lemmas.List.{drop-drop, length-drop}
use Rattle.ws_sweep.proofs.Swapped.{behind_swap}
use Rattle.ws_sweep.proofs.sweep.Sweep.keep_next.Goals as goal

pub returns-clause-left : goal.returns-clause-left
returns-clause-left g c =
    let i = c.self.inside.left in
    let items = c.self.inside.items.items in
    let some : 0 < length (drop i items) = subst (λ r. 0 < length r.left) (sym c.self.view_is) c.requires in
    let rest : length (drop i items) ≡ length items - i = length-drop i items in
    ap (drop (i + 1)) c.swap.ensures.items
    ∙ behind_swap items c.self.inside.looked i c.self.invariant.begins (omega arith)
    ∙ sym (drop-drop 1 i items)
    ∙ ap (λ r. drop 1 r.left) c.self.view_is
