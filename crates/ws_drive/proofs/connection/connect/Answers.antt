use Rattle.std.proofs.Common.{sym, ap, ◌∙◌}
use Rattle.ws_drive.specs.World.{connection_text}
use Rattle.ws_drive.proofs.Worlds.{connected, if_ok}
use Rattle.ws_drive.proofs.connection.connect.Goals as goal

pub returns-clause-connects : goal.returns-clause-connects
returns-clause-connects g c w stands =
    let serve = c.serve_connection-served in
    let late = g.P.Port.timely c.requires.sole c.args.port.now w.history stands.has_seen in
    let over = sym c.is_over.ensures ∙ c.if-not-is_over.false in
    let serves = rw c.new.ensures.items at serve.ensures.serves in
    if_ok c.connection_text.result c.connection_text.ensures
    (λ text is. connected g.P.Port.seen g.P.Port.settings g.P.Port.moment g.P.Port.sole c.requires.sole g.P.Port.stored c.requires.unstored g.P.Port.faults
    c.args.clock c.args.port.now serve.new.port w stands late serve.ensures.settings c.args.settings.now c.args.bytes.now _ _ text serve.result
    (sym c.requires.settings ∙ stands.set) over serves (is ∙ ap connection_text c.deref.ensures.value))
