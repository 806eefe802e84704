use Rattle.std.proofs.Common.{◌≡◌, false}
use Rattle.ws_exchange.specs.Polls.{is_over}
use Rattle.ws_exchange.proofs.tests.polled.Given as goal

abbrev pub invariant-polls : goal.invariant-polls
invariant-polls g l = is_over l.exchange.stage ≡ false
