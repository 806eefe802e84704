use Rattle.ws_target.proofs.KeyLemmas.{key_is_own_key}
use Rattle.ws_target.proofs.key.key_is_its_own.Goals as goal

pub returns : goal.returns
returns c = key_is_own_key
