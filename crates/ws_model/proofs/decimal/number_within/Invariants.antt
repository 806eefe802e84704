use Rattle.std.proofs.Common.{◌≡◌, min, take}
use Rattle.ws_model.specs.Decimal.{number_of}
use Rattle.ws_model.proofs.decimal.number_within.Given as goal

abbrev pub invariant-loop-digit : goal.invariant-loop-digit
invariant-loop-digit l = l.number ≡ min (number_of (take l.digit-index l.digits)) l.most
