use Rattle.ws_target.specs.Keys.{key_or_fault}
use Rattle.ws_script.proofs.words.topic_word.Goals as goal

pub returns : goal.returns
returns c = c.with_key.ensures (key_or_fault c.args.gateway c.args.text.now) c.topic.ensures.answer
