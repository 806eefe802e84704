use Rattle.std.proofs.Common.{ℕ, List, ap, ◌∙◌}
use Rattle.ws_model.specs.Versions.{Ping, is_owed_fetch}
use Rattle.ws_plain.specs.Past.{past}
use Rattle.ws_plain.proofs.ping.Ping.is_owed.Goals as goal

abbrev ping : List ℕ → ℕ → Ping
ping topic serial = record { topic = topic; serial = serial }

pub returns : goal.returns
returns c =
    c.is_owed_fetch.ensures
    ∙ ap (is_owed_fetch (past c.args.events.now)) (ap (λ topic. ping topic c.self.inside.serial) c.as_slice.ensures ∙ c.self.view_is)
