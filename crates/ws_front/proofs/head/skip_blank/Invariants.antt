use Rattle.std.proofs.Common.{◌≡◌, ◌-◌, ◌≤◌, length, drop}
use Rattle.httparse.specs.Grammar.{skip_ows}
use Rattle.ws_front.proofs.head.skip_blank.Given as goal

-- white space stands before the place
abbrev pub invariant-blank : goal.invariant-blank
invariant-blank l = (l.start ≤ length l.text) × (skip_ows (drop l.start l.text) ≡ skip_ows l.text)

abbrev pub decreases-blank : goal.decreases-blank
decreases-blank l = length l.text - l.start
