use Rattle.std.proofs.Common.{ap, sym, ◌∙◌}
use Rattle.std.specs.Option.{option_copied}
use Rattle.ws_model.specs.declared.event.Event.{Event}
use Rattle.ws_core_tables.proofs.Lookups.{is_some-copied}
use Rattle.ws_sift.proofs.Restored.{held_is}
use Rattle.ws_sift.proofs.restoring.fetched_version.Goals as goal

pub returns-in-Fetched : goal.returns-in-Fetched
returns-in-Fetched c h since t kept e p found logged keeps =
    held_is h t e c.in-Fetched.version (option_copied c.version.result) found
    (sym c.in-Fetched.is ∙ ap (λ (d : Event). d.what) logged) keeps (c.version.ensures.stands h since p.stands)
    (λ k. sym (is_some-copied c.version.result) ∙ c.version.ensures.latest h since p.stands k)
    (λ k. sym (is_some-copied c.version.result) ∙ c.version.ensures.owed h since t p.stands p.in_time k)
