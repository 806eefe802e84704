use Rattle.ws_program.proofs.DefaultHub.{kept_key}
use Rattle.ws_program.proofs.draft.hub_or_default.Goals as goal

pub returns-in-None-clause-key : goal.returns-in-None-clause-key
returns-in-None-clause-key c given = kept_key c.as_bytes.result.now c.copy.result c.as_bytes.ensures.value c.copy.ensures
