use Rattle.std.proofs.Common.{ap, ◌∙◌, []}
use Rattle.std.specs.Prelude.{cond, Some}
use Rattle.ws_tries.specs.Rows.{tries_at}
use Rattle.ws_core.proofs.SameRooms.{same_rooms}
use Rattle.ws_core.proofs.births.apply_with_rooms.Goals as goal

pub returns-in-Err-clause-same_rooms : goal.returns-in-Err-clause-same_rooms
returns-in-Err-clause-same_rooms c =
    same_rooms c.args.births.now c.args.tries.now c.make_rooms.new.self c.give_back_all.new.self c.rooms.ensures.ordered c.rooms-in-Err.ensures.ordered c.requires.new
    (λ v n q. c.in_ok-make_rooms.ensures.look v n ∙ ap (λ b. cond b (Some []) (tries_at v n c.args.tries.now)) q) c.give_back_all.ensures.look
