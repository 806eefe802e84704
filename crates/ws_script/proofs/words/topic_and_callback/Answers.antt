use Rattle.ws_script.proofs.Parting.{topic_refused, callback_refused}
use Rattle.ws_script.proofs.words.topic_and_callback.Goals as goal

pub returns-in_default-2 : goal.returns-in_default-2
returns-in_default-2 c =
    let words = c.in-Some.ensures in
    topic_refused c.args.gateway c.args.text.now c.in-Some.topic.now c.in-Some.callback.now words.0 words.2 (rw c.in_default-2.is at c.in_ok-topic.ensures)

pub returns-in_default-3 : goal.returns-in_default-3
returns-in_default-3 c =
    let words = c.in-Some.ensures in
    callback_refused c.args.gateway c.args.text.now c.in-Some.topic.now c.in-Some.callback.now words.0 words.2 (rw c.in_default-3.is at c.in_ok-callback.ensures)
