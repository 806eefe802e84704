use Rattle.std.proofs.Common.{refl}
use Rattle.std.specs.Fmt.{digits}
use Rattle.ws_http.specs.Texts.{response_text}
use Rattle.ws_http.proofs.write.no_memory_answer.Goals as goal

pub returns : goal.returns
unfolding response_text digits
returns c = refl
