use Rattle.std.proofs.Common.{◌≡◌, drop, map}
use Rattle.httparse.specs.Spans.{header_bytes}
use Rattle.ws_http.specs.ResponseFields.{all_lengths}
use Rattle.ws_http.proofs.extent.all_are_length.Given as goal

-- the headers that were passed are no other Content-Length
abbrev pub invariant-loop-header : goal.invariant-loop-header
invariant-loop-header l =
    all_lengths l.number (map (header_bytes l.buf) (drop l.header-index l.headers)) ≡ all_lengths l.number (map (header_bytes l.buf) l.headers)
