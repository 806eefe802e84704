-- What is looked for in a history, as the definitions test for it (own).
use Rattle.std.specs.Prelude.{Bool}
use Rattle.ws_model.specs.declared.event.What.{What}
use Rattle.ws_model.specs.Fate.{is_push, is_done, is_miss}
use Rattle.ws_model.specs.Intents.{is_settled, is_unheard, is_denied, is_noticed}
use Rattle.ws_model.specs.Leases.{is_confirmed}
use Rattle.ws_model.specs.Versions.{is_ping, is_unfetched, is_answer}
use Rattle.ws_plain.specs.declared.sought.Sought.{Sought}
use Rattle.ws_plain.specs.declared.sought.Sought.TheVariants.{Settled, Unheard, Denied, Noticed, Confirmed, Done, Missed, Ping, Unfetched, Answer}

-- whether what happened is what is looked for
abbrev pub seeks : Sought → What → Bool
seeks (Settled n) = is_settled n
seeks (Unheard n) = is_unheard n
seeks (Denied n) = is_denied n
seeks (Noticed n heard) = is_noticed n heard
seeks (Confirmed n) = is_confirmed n
seeks (Done version lease) = is_push is_done version lease
seeks (Missed version lease) = is_push is_miss version lease
seeks (Ping topic) = is_ping topic.now
seeks (Unfetched topic) = is_unfetched topic.now
seeks (Answer topic serial) = is_answer (record { topic = topic.now; serial = serial })
