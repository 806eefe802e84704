use Rattle.ws_script.proofs.Happenings.{apart}
use Rattle.ws_script.proofs.laws.one_reading.Goals as goal

pub returns : goal.returns
returns c = apart
