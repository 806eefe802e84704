-- The bytes of what is written (own).
use Rattle.std.specs.Prelude.{ℕ, List}
use Rattle.std.specs.Cow.{cow_str_bytes}
use Rattle.ws_drive.specs.declared.output.Output.{Output}
use Rattle.ws_drive.specs.declared.output.Output.TheVariants.{Text, Connection}

abbrev pub output_bytes : Output → List ℕ
output_bytes (Text text) = cow_str_bytes text
output_bytes (Connection bytes) = bytes
