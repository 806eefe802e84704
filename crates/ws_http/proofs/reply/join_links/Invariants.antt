use Rattle.std.proofs.Common.{◌≡◌, ◌++◌, drop, map}
use Rattle.std.specs.Prelude.{codes}
use Rattle.httparse.specs.Spans.{header_bytes}
use Rattle.ws_http.specs.ResponseFields.{values_of, joined}
use Rattle.ws_http.proofs.ExtentLemmas.{behind_some}
use Rattle.ws_http.proofs.reply.join_links.Given as goal

-- the links so far, and those of the headers that are left, are all of them
abbrev pub invariant-loop-header : goal.invariant-loop-header
invariant-loop-header l =
    l.text.items ++ behind_some l.some (values_of (codes "link") (map (header_bytes l.buf) (drop l.header-index l.headers)))
    ≡ joined (values_of (codes "link") (map (header_bytes l.buf) l.headers))
