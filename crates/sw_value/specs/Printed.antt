-- The line that Print writes.
use Rattle.std.specs.Prelude.{ℕ, Bool, true, false, Option, Some, None, List, [], ◌∷◌, ◌++◌, codes}
use Rattle.std.specs.Prelude.{option_and_then}
use Rattle.std.specs.Option.{option_map}
use Rattle.std.specs.List.{join_with_byte}
use Rattle.std.specs.Fmt.{signed_decimal}
use Rattle.sw_graph.specs.declared.instr.Operand.{Operand}
use Rattle.sw_value.specs.declared.value.Value.{Value, out-Value}
use Rattle.sw_value.specs.declared.value.Value.TheOpen as layer
use Rattle.sw_value.specs.Lists.{each_of}
use Rattle.sw_value.specs.Value.{value_at}

abbrev pub truth_text : Bool → List ℕ
truth_text true = codes "true"
truth_text false = codes "false"

abbrev pub layer_text : layer.Value-F Value → Option (List ℕ)
layer_text (layer.Int n) = Some (signed_decimal n)
layer_text (layer.Bool b) = Some (truth_text b)
layer_text _ = None

-- how a value is printed, if it is one that can be
abbrev pub text_of : Value → Option (List ℕ)
text_of v = layer_text (out-Value v)

abbrev pub text_at : List (Option Value) → Operand → Option (List ℕ)
text_at regs o = option_and_then text_of (value_at regs o.reg)

-- texts with one blank between, and a line feed
abbrev pub line_of : List (List ℕ) → List ℕ
line_of texts = join_with_byte 32 texts ++ 10 ∷ []

-- the line of some operands, if each has a value that can be printed
unfoldable pub printed_line : List (Option Value) → List Operand → Option (List ℕ)
printed_line regs operands = option_map line_of (each_of (text_at regs) operands)
