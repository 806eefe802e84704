use Rattle.std.proofs.Common.{◌||◌, ap, sym, ◌∙◌}
use Rattle.std.specs.Prelude.{◌==◌}
use Rattle.std.specs.List.{list_any}
use Rattle.ws_model.specs.Pairs.{owed}
use Rattle.ws_kept.proofs.Owed.{owed_found}
use Rattle.ws_kept.proofs.versions.is_kept.Goals as goal

pub returns-then-is_latest : goal.returns-then-is_latest
returns-then-is_latest c =
    record {
      stands = λ h since s rooms l k.
          c.if-is_latest.true
          ∙ sym (ap (λ b. b || list_any (λ p. p.version.ver == c.args.ver) (owed h c.args.t)) (sym (c.is_latest.ensures.stands h since s l) ∙ c.if-is_latest.true));
    }

pub returns-else-is_latest : goal.returns-else-is_latest
returns-else-is_latest c =
    record {
      stands = λ h since s rooms l k.
          c.has_owed.ensures.stands h since s k
          ∙ owed_found h c.args.t c.args.ver l c.args.tries.now rooms
          ∙ sym (ap (λ b. b || list_any (λ p. p.version.ver == c.args.ver) (owed h c.args.t)) (sym (c.is_latest.ensures.stands h since s l) ∙ c.if-is_latest.false));
    }
