use Rattle.std.proofs.Common.{◌≡◌, drop}
use Rattle.std.specs.Prelude.{◌==◌, ◌&&◌, find}
use Rattle.ws_plain.proofs.pairs.fate_among.Given as goal

-- none of those that were seen is the one
abbrev pub invariant-loop-pair : goal.invariant-loop-pair
invariant-loop-pair l =
    find (λ p. (p.version.ver == l.ver) && (p.lease.intent.n == l.lease)) (drop l.pair-index l.pairs)
    ≡ find (λ p. (p.version.ver == l.ver) && (p.lease.intent.n == l.lease)) l.pairs
