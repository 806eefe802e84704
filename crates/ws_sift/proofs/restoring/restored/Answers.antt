use Rattle.std.proofs.Common.{◌≡◌, IfOk, ap, subst, ◌∙◌}
use Rattle.ws_model.specs.declared.event.Event.{Event}
use Rattle.ws_model.specs.declared.event.Intent.{Intent}
use Rattle.ws_model.specs.declared.event.Version.{Version}
use Rattle.ws_model.specs.declared.event.What.TheVariants.{Asked, Fetched}
use Rattle.ws_sift.proofs.Restored.{as_it_was, asked_again, whole_again}
use Rattle.ws_sift.proofs.restoring.restored.Goals as goal

abbrev with_version : Event → Version → Event
with_version d v = record { serial = d.serial; t = d.t; what = Fetched v }

abbrev with_request : Event → Intent → Event
with_request d i = record { serial = d.serial; t = d.t; what = Asked i }

pub returns-in-Some : goal.returns-in-Some
returns-in-Some c h since kept e p r found logged keeps =
    c.with_what.ensures
    ∙ ap (with_version c.args.event.now) c.in_ok-copy.ensures
    ∙ whole_again c.args.event.now e c.in-Some.version.now logged (c.in-Some.ensures h since c.args.t kept e p found logged keeps)

pub returns-in-Some-asked_intent : goal.returns-in-Some-asked_intent
returns-in-Some-asked_intent c h since kept e p r found logged keeps =
    c.with_what-in-Some-asked_intent.ensures
    ∙ ap (with_request c.args.event.now) c.in_ok-copy-2.ensures
    ∙ asked_again c.args.event.now e c.in-Some-asked_intent.intent.now logged (c.in-Some-asked_intent.ensures h since kept e p r found logged keeps)

pub returns : goal.returns
returns c h since kept e p r found logged keeps =
    subst (λ w. IfOk c.copy_event.result (λ r. r ≡ w))
    (as_it_was c.args.event.now e logged (c.in_default.ensures h since c.args.t kept e p found logged keeps) (c.in_default-asked_intent.ensures h since kept e p r found logged keeps)) c.copy_event.ensures
