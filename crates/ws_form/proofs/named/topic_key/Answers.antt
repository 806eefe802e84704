use Rattle.ws_form.proofs.Short.{short_text}
use Rattle.ws_form.proofs.named.topic_key.Goals as goal

-- the text has a key, so it is short
pub returns-in-Ok-clause-text : goal.returns-in-Ok-clause-text
returns-in-Ok-clause-text c = short_text _ _ _ c.in-Ok.ensures.answer
