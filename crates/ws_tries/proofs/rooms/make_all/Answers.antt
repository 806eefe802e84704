use Rattle.std.proofs.Common.{◌∙◌}
use Rattle.ws_tries.proofs.Listed.{same_map, undone}
use Rattle.ws_tries.proofs.rooms.make_all.Goals as goal

pub returns-in-Err-clause-err : goal.returns-in-Err-clause-err
returns-in-Err-clause-err c =
    same_map c.args.held.now c.give_back_each.new.held c.len.ensures.ordered c.len-in-Err.ensures.ordered
    (λ v n. c.give_back_each.ensures.look v n ∙ undone c.args.pairs.now c.args.held.now c.make_each.new.held c.requires.new c.in-Err.ensures.others v n)
