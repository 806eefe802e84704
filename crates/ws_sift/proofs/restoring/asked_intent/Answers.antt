use Rattle.std.proofs.Common.{ap, sym, ◌∙◌}
use Rattle.std.specs.Option.{option_copied}
use Rattle.ws_model.specs.declared.event.Event.{Event}
use Rattle.ws_sift.proofs.Asking.{asked_is}
use Rattle.ws_sift.proofs.restoring.asked_intent.Goals as goal

pub returns-in-Asked : goal.returns-in-Asked
returns-in-Asked c h since kept e p r found logged keeps =
    asked_is h c.args.t e c.in-Asked.intent (option_copied c.intent_of.result) found
    (sym c.in-Asked.is ∙ ap (λ (d : Event). d.what) logged) keeps
    (λ k. c.intent_of.ensures h since p.stands p.legal p.in_time r k)
