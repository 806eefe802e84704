use Rattle.std.proofs.Common.{◌≡◌, ◌≤◌, length, take, reverse}
use Rattle.httparse.specs.Grammar.{skip_ows}
use Rattle.ws_front.proofs.head.cut_blank.Given as goal

-- white space stands behind the place
abbrev pub invariant-blank : goal.invariant-blank
invariant-blank l =
    (l.end ≤ length l.text) × (reverse (skip_ows (reverse (take l.end l.text))) ≡ reverse (skip_ows (reverse l.text)))

abbrev pub decreases-blank : goal.decreases-blank
decreases-blank l = l.end
