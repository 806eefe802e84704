use Rattle.ws_linkhdr.proofs.Places.{only_one}
use Rattle.ws_linkhdr.proofs.laws.one_reading.Goals as goal

pub returns : goal.returns
returns c = λ field items others f g. only_one field others g items f
