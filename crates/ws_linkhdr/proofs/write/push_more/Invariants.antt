use Rattle.std.proofs.Common.{◌≡◌, ◌++◌, drop}
use Rattle.ws_linkhdr.specs.Text.{more_text}
use Rattle.ws_linkhdr.proofs.write.push_more.Given as goal

-- the text so far and that of what is left are the text of all
abbrev pub invariant-loop-link : goal.invariant-loop-link
invariant-loop-link l = l.text.items ++ more_text (drop l.link-index l.links) ≡ l.fn.text.items ++ more_text l.links
