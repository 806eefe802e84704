use Rattle.std.proofs.Common.{refl, ap, ◌∙◌}
use Rattle.std.specs.Prelude.{cond, None}
use Rattle.ws_tries.specs.Rows.{tries_at}
use Rattle.ws_core.proofs.Walking.{version_goes, version_stays}
use Rattle.ws_core.proofs.giving_back.give_back_version.Goals as goal

pub returns-then-is_past : goal.returns-then-is_past
returns-then-is_past c =
    record {
      gives = version_goes c.args.ver c.args.ledger.now c.args.tries.now c.give_back_version.new.self (c.is_past.ensures.past c.if-is_past.true) c.give_back_version.ensures.look;
      others = λ v n k. c.give_back_version.ensures.look v n ∙ ap (λ b. cond b None (tries_at v n c.args.tries.now)) k;
    }

pub returns-else-is_past : goal.returns-else-is_past
returns-else-is_past c = record { gives = version_stays c.args.ver c.args.ledger.now c.args.tries.now (c.is_past.ensures.kept c.if-is_past.false); others = λ v n k. refl }
