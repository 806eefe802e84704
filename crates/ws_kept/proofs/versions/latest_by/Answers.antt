use Rattle.std.proofs.Common.{ap, sym, ◌∙◌}
use Rattle.std.specs.Prelude.{◌==◌}
use Rattle.ws_kept.specs.Finding.{gives_latest, is_latest}
use Rattle.ws_kept.proofs.Lists.{and_none, and_one}
use Rattle.ws_kept.proofs.versions.latest_by.Goals as goal

pub returns-in-Fetched : goal.returns-in-Fetched
returns-in-Fetched c =
    record {
      stands = λ h since s l v.
          and_one (c.in-Fetched.version.ver == v) (is_latest h c.in-Fetched.version.ver) (c.if-is_latest.ensures.stands h since s l)
          ∙ ap (gives_latest h v) (sym c.in-Fetched.is);
    }

pub returns-in_default : goal.returns-in_default
returns-in_default c =
    record {
      stands = λ h since s l v.
          and_none (c.in-Fetched.version.ver == v) (is_latest h c.in-Fetched.version.ver) (c.if-is_latest.ensures.stands h since s l)
          ∙ ap (gives_latest h v) (sym c.in-Fetched.is);
    }
