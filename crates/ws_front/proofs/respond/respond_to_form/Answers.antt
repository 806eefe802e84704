use Rattle.std.proofs.Common.{refl}
use Rattle.ws_front.proofs.Responding.{form_refused}
use Rattle.ws_front.proofs.respond.respond_to_form.Goals as goal

pub returns-in-Err-clause-responds : goal.returns-in-Err-clause-responds
returns-in-Err-clause-responds g c =
    form_refused c.args.gateway _ c.args.body.now c.in-Err.fault c.refuse_form.result c.in-Err.ensures.value c.refuse_form.ensures refl refl
