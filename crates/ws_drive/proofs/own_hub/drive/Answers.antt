use Rattle.ws_drive.proofs.Runs.{undone}
use Rattle.ws_drive.proofs.own_hub.drive.Goals as goal

pub returns-in_default-clause-runs : goal.returns-in_default-clause-runs
returns-in_default-clause-runs g c = undone _ _ _
