-- Comparing lists of bytes.
use Rattle.std.specs.Str.{bytes_eq}
use Rattle.std.specs.Cmp.{IsPartialEquivalence}
use Rattle.std.specs.Cmp.Rules.{comparing}
use Rattle.std.proofs.Common.{rules}

-- two lists of bytes are the same, or not
pub bytes_laws : IsPartialEquivalence bytes_eq
bytes_laws = search (comparing, rules)
