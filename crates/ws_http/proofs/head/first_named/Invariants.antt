use Rattle.std.proofs.Common.{◌≡◌, drop, map}
use Rattle.httparse.specs.Spans.{header_bytes}
use Rattle.ws_http.specs.Fields.{first_value}
use Rattle.ws_http.proofs.head.first_named.Given as goal

-- the headers that were passed have another name
abbrev pub invariant-loop-header : goal.invariant-loop-header
invariant-loop-header l =
    first_value l.name (map (header_bytes l.buf) (drop l.header-index l.headers)) ≡ first_value l.name (map (header_bytes l.buf) l.headers)
