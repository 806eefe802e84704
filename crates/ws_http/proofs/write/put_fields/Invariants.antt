use Rattle.std.proofs.Common.{◌≡◌, ◌++◌, drop}
use Rattle.std.specs.List.{flat_map}
use Rattle.ws_http.specs.Texts.{field_line}
use Rattle.ws_http.proofs.write.put_fields.Given as goal

-- the lines so far, and those of the fields that are left, are all of them
abbrev pub invariant-loop-field : goal.invariant-loop-field
invariant-loop-field l =
    l.text.items ++ flat_map field_line (drop l.field-index l.fields) ≡ l.fn.text.items ++ flat_map field_line l.fields
