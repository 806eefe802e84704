use Rattle.std.proofs.Common.{◌≡◌, ◌+◌, ◌≤◌, drop, map}
use Rattle.httparse.specs.Spans.{header_bytes}
use Rattle.ws_http.specs.Fields.{how_many}
use Rattle.ws_http.proofs.head.count_named.Given as goal

-- those so far, and those of the headers that are left, are all of them
abbrev pub invariant-loop-header : goal.invariant-loop-header
invariant-loop-header l =
    (l.count + how_many l.name (map (header_bytes l.buf) (drop l.header-index l.headers)) ≡ how_many l.name (map (header_bytes l.buf) l.headers))
    × (l.count ≤ l.header-index)
