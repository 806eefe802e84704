use Rattle.std.proofs.Common.{◌≤◌, length}
use Rattle.ws_disk.proofs.file.read_full.Given as goal

abbrev pub invariant-pieces : goal.invariant-pieces
invariant-pieces l = l.done ≤ length l.into
