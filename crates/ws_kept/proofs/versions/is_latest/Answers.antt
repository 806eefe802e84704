use Rattle.std.proofs.Common.{ap, sym, ◌∙◌}
use Rattle.std.proofs.lemmas.Bool.{false≢true, false_from_ne_true}
use Rattle.ws_model.specs.Versions.{is_version, latest_of}
use Rattle.ws_kept.specs.Finding.{is_latest}
use Rattle.ws_kept.proofs.Latest.{latest_found}
use Rattle.ws_kept.proofs.versions.is_latest.Goals as goal

pub returns-in-Some : goal.returns-in-Some
returns-in-Some c =
    record {
      stands = λ h since s l.
          c.is_latest_of.ensures.stands h since s
          ∙ ap (λ topic. is_version c.args.ver (latest_of topic h)) c.as_slice.ensures
          ∙ latest_found h c.args.ver c.in-Some.version.now l (c.in-Some.ensures.stands h since s);
    }

pub returns-in-None : goal.returns-in-None
returns-in-None c = record { stands = λ h since s l. sym (false_from_ne_true (is_latest h c.args.ver) (λ r. false≢true (c.in-None.ensures.latest h since s r))) }
