use Rattle.std.proofs.Common.{◌≡◌, List, ◌∷◌, ◌++◌, sym, ap, ◌∙◌}
use Rattle.std.specs.Prelude.{filter}
use Rattle.ws_model.specs.declared.event.Event.{Event}
use Rattle.ws_model.specs.Fate.{Pair, fate, is_owed}
use Rattle.ws_model.specs.Leases.{confirmed_intent, live}
use Rattle.ws_model.specs.Pairs.{births, pairs}
use Rattle.ws_plain.proofs.pairs.+pairs.Goals as goal

pairs_more : (e : Event) (h : List Event) (new older seen : List Pair) → older ≡ pairs h → seen ≡ older → new ≡ births e.t e.what (confirmed_intent e.what h) (live h e.t) (filter (λ p. is_owed (fate h p e.t)) seen) → new ++ older ≡ pairs (e ∷ h)
pairs_more e h new older seen a b c = rw (c, b, a)

pub returns : goal.returns
returns t c =
    c.in_ok-append.ensures.items
    ∙ pairs_more c.in-Some.event.now _ _ _ _ c.in_ok-older.ensures c.deref.ensures.value c.in_ok-pairs.ensures
    ∙ ap pairs (sym c.in-Some.ensures.past)
