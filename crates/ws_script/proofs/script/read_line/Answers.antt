use Rattle.ws_script.proofs.script.read_line.Goals as goal

pub returns-in-Some : goal.returns-in-Some
returns-in-Some c = (c.in-Some.ensures.1 c.args.gateway, c.in-Some.ensures.2)
