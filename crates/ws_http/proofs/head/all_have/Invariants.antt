use Rattle.std.proofs.Common.{◌≡◌, drop, map}
use Rattle.httparse.specs.Spans.{header_bytes}
use Rattle.ws_http.specs.Fields.{all_are}
use Rattle.ws_http.proofs.head.all_have.Given as goal

-- the headers that were passed have another name, or the value
abbrev pub invariant-loop-header : goal.invariant-loop-header
invariant-loop-header l =
    all_are l.name l.value (map (header_bytes l.buf) (drop l.header-index l.headers)) ≡ all_are l.name l.value (map (header_bytes l.buf) l.headers)
