use Rattle.std.proofs.Common.{ap, ◌∙◌}
use Rattle.ws_model.specs.declared.settings.Settings.{Settings}
use Rattle.ws_port.specs.Requests.{answer}
use Rattle.ws_drive.proofs.Worlds.{asked, if_ok, refused, requested}
use Rattle.ws_drive.proofs.happen.form.Goals as goal

pub returns-in-Ok-clause-forms : goal.returns-in-Ok-clause-forms
returns-in-Ok-clause-forms g c w stands =
    let gateway = c.requires.gateway ∙ ap (λ (s : Settings). s.policy.gateway) stands.set in
    let p = requested g.P.Port.seen g.P.Port.settings g.P.Port.moment g.P.Port.sole c.requires.sole c.args.clock c.args.port.now c.ask.new.self w stands
    (g.P.Port.timely c.requires.sole c.args.port.now w.history stands.has_seen) c.ask.ensures.settings c.in-Ok.ask c.ask.result
    (c.ask.ensures.said w.history stands.has_seen) c.ask.ensures.time (c.ask.ensures.unstored c.requires.unstored) in
    if_ok c.answer_line.result c.answer_line.ensures
    (λ line is. (p.0, asked w p.0 c.args.gateway c.args.body.now _ c.in-Ok.ask c.ask.result gateway c.in-Ok.ensures.value is p.1, p.2))

pub returns-in-Err-clause-forms : goal.returns-in-Err-clause-forms
returns-in-Err-clause-forms g c w stands =
    let gateway = c.requires.gateway ∙ ap (λ (s : Settings). s.policy.gateway) stands.set in
    (w, refused w c.args.gateway c.args.body.now _ c.in-Err.fault gateway c.in-Err.ensures.value c.refuse.ensures, stands)
