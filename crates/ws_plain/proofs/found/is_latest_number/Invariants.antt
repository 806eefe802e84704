use Rattle.std.proofs.Common.{◌≡◌, drop}
use Rattle.std.specs.Prelude.{◌==◌}
use Rattle.std.specs.List.{list_any}
use Rattle.ws_plain.proofs.found.is_latest_number.Given as goal

-- none of those that were seen is one
abbrev pub invariant-loop-version : goal.invariant-loop-version
invariant-loop-version l = list_any (λ w. w.ver == l.ver) (drop l.version-index l.latest) ≡ list_any (λ w. w.ver == l.ver) l.latest
