use Rattle.std.proofs.Common.{◌∙◌}
use Rattle.ws_forgotten.proofs.Shown.{shown_later}
use Rattle.ws_forgotten.proofs.kept_pairs.standing_of.Goals as goal

pub returns-in-Some : goal.returns-in-Some
returns-in-Some c =
    record {
      stands = λ h since tables shown l le.
          c.later.ensures.stands h since tables le
          ∙ shown_later h c.args.t c.args.ver c.args.lease c.in-Some.standing l (c.in-Some.ensures ∙ shown c.args.t c.args.ver c.args.lease le);
    }
