use Rattle.std.proofs.Common.{refl}
use Rattle.ws_drive.specs.World.{at}
use Rattle.ws_drive.proofs.happen.play.Goals as goal

pub returns-in-At-clause-plays : goal.returns-in-At-clause-plays
returns-in-At-clause-plays g c w stands =
    (at c.in-At.t w, rw c.in-At.is (refl, refl), record { set = stands.set; clock_is = refl; used_is = stands.used_is; has_seen = stands.has_seen })
