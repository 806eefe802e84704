use Rattle.std.proofs.Common.{ap, sym, subst, ◌∙◌}
use Rattle.ws_model.specs.Versions.{latest_of}
use Rattle.ws_core_tables.specs.Stands.{StandsFor as TablesStand}
use Rattle.ws_core.specs.GivenBack.{former, touched_of}
use Rattle.ws_core.proofs.giving_back.touched_by.Goals as goal

pub returns-in-Fetched : goal.returns-in-Fetched
returns-in-Fetched c =
    record {
      stands = λ h since s l le.
          c.former.ensures.stands h since (subst (TablesStand h since) (sym c.tables.ensures) s.tables)
          ∙ ap (λ topic. former (latest_of topic h)) c.as_slice.ensures
          ∙ ap (touched_of h c.args.event.now.t) (sym c.in-Fetched.is);
    }

pub returns-in-Confirmed : goal.returns-in-Confirmed
returns-in-Confirmed c = record { stands = λ h since s l le. c.touched_by_confirmation.ensures.stands h since s l le ∙ ap (touched_of h c.args.event.now.t) (sym c.in-Confirmed.is) }
