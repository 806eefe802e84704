use Rattle.std.proofs.Common.{ap, sym, ◌∙◌}
use Rattle.ws_model.specs.Legal.{is_allowed}
use Rattle.ws_model.specs.Versions.{versions}
use Rattle.std.specs.Prelude.{bytes_eq}
use Rattle.std.specs.List.{list_any}
use Rattle.ws_core_tables.proofs.tables.Tables.allows_what.Goals as goal

pub returns-in-Confirmed : goal.returns-in-Confirmed
returns-in-Confirmed c =
    record {
      stands = λ h since s l k. c.is_confirmable.ensures.stands h since s l ∙ ap (λ w. is_allowed w c.args.t h) (sym c.in-Confirmed.is);
    }

pub returns-in-Barred : goal.returns-in-Barred
returns-in-Barred c =
    record {
      stands = λ h since s l k. c.is_pending_subscription.ensures.stands h since s ∙ ap (λ w. is_allowed w c.args.t h) (sym c.in-Barred.is);
    }

pub returns-in-Noticed : goal.returns-in-Noticed
returns-in-Noticed c =
    record {
      stands = λ h since s l k. c.is_noticed.ensures.stands h since s ∙ ap (λ w. is_allowed w c.args.t h) (sym c.in-Noticed.is);
    }

pub returns-in-Same : goal.returns-in-Same
returns-in-Same c =
    record {
      stands = λ h since s l k. c.has_version.ensures.stands h since s ∙ ap (λ k. list_any (λ v. bytes_eq v.topic k) (versions h)) c.as_slice.ensures ∙ ap (λ w. is_allowed w c.args.t h) (sym c.in-Same.is);
    }

pub returns-in-Pushed : goal.returns-in-Pushed
returns-in-Pushed c =
    record {
      stands = λ h since s l k. c.is_owed.ensures.stands h since s k ∙ ap (λ w. is_allowed w c.args.t h) (sym c.in-Pushed.is);
    }
