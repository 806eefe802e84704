use Rattle.std.specs.Prelude.{◌==◌}
use Rattle.ws_fate.specs.Stands.{is_owed_at}
use Rattle.ws_kept.proofs.Lists.{and_none, and_one}
use Rattle.ws_kept.proofs.versions.owed_by.Goals as goal

pub returns-then-is_owed : goal.returns-then-is_owed
returns-then-is_owed c = record { stands = λ h since s k v. and_one (c.args.pair.now.0 == v) (is_owed_at h c.args.t c.args.pair.now.0 c.args.pair.now.1) (c.if-is_owed.ensures.stands h since s k) }

pub returns-else-is_owed : goal.returns-else-is_owed
returns-else-is_owed c = record { stands = λ h since s k v. and_none (c.args.pair.now.0 == v) (is_owed_at h c.args.t c.args.pair.now.0 c.args.pair.now.1) (c.if-is_owed.ensures.stands h since s k) }
