use Rattle.std.proofs.Common.{ap, ◌&&◌, nat_lt, not, rules, tests}
use Rattle.std.proofs.lemmas.Iterator.{YieldsList-from_slice}
use Rattle.std.proofs.lemmas.Iterator.Search.{any_from_yields_List}
use Rattle.ws_model.specs.Intents.{same_pair}
use Rattle.ws_plain.proofs.intents.is_first.Goals as goal

pub returns : goal.returns
returns c =
    ap not
    (any_from_yields_List (λ j. nat_lt j.n c.args.intent.now.n && same_pair c.args.intent.now j) _ _ _ c.any.ensures.ran
    (YieldsList-from_slice c.args.pending.now (cc)) (λ x b q k. search (rules, tests)))
