-- Values, and registers that hold them.
use Rattle.std.specs.Prelude.{ℕ, ◌-◌, Option, Some, None, List, ◌++◌, length, map, replicate}
use Rattle.std.specs.Prelude.{slice_get, slice_set, Bool, ℤ, option_and_then}
use Rattle.sw_graph.specs.declared.instr.Literal.{Literal}
use Rattle.sw_graph.specs.declared.instr.Literal.TheVariants as literal
use Rattle.sw_graph.specs.declared.instr.Operand.{Operand}
use Rattle.sw_value.specs.declared.value.Value.{Value, out-Value}
use Rattle.sw_value.specs.declared.value.Value.TheOpen as layer
use Rattle.sw_value.specs.declared.value.Value.TheVariants as value
use Rattle.sw_value.specs.Lists.{each_of}

-- the value of a literal
abbrev pub value_of : Literal → Value
value_of (literal.Int n) = value.Int n
value_of (literal.Bool b) = value.Bool b

abbrev pub layer_reference : layer.Value-F Value → Option ℕ
layer_reference (layer.Cell c) = Some c
layer_reference _ = None

-- the cell that a value refers to
abbrev pub reference_of : Value → Option ℕ
reference_of v = layer_reference (out-Value v)

abbrev pub layer_integer : layer.Value-F Value → Option ℤ
layer_integer (layer.Int n) = Some n
layer_integer _ = None

-- the integer that a value is
abbrev pub integer_of : Value → Option ℤ
integer_of v = layer_integer (out-Value v)

abbrev pub layer_truth : layer.Value-F Value → Option Bool
layer_truth (layer.Bool b) = Some b
layer_truth _ = None

-- the truth value that a value is
abbrev pub truth_of : Value → Option Bool
truth_of v = layer_truth (out-Value v)

abbrev pub layer_tag : layer.Value-F Value → Option ℕ
layer_tag (layer.Case tag payload) = Some tag
layer_tag _ = None

-- the number of the case that a value is
abbrev pub tag_of : Value → Option ℕ
tag_of v = layer_tag (out-Value v)

abbrev pub layer_field : ℕ → layer.Value-F Value → Option Value
layer_field i (layer.Group parts) = slice_get parts i
layer_field i _ = None

-- part i of a struct
abbrev pub field_of : ℕ → Value → Option Value
field_of i v = layer_field i (out-Value v)

abbrev pub layer_with_field : ℕ → Value → Value → layer.Value-F Value → Value
layer_with_field i part v (layer.Group parts) = value.Group (slice_set parts i part)
layer_with_field i part v _ = v

-- a struct with another value as its part i; what is no struct stays as it is
abbrev pub with_field : ℕ → Value → Value → Value
with_field i part v = layer_with_field i part v (out-Value v)

abbrev pub layer_payload : ℕ → layer.Value-F Value → Option Value
layer_payload i (layer.Case tag payload) = slice_get payload i
layer_payload i _ = None

-- payload i of a case
abbrev pub payload_of : ℕ → Value → Option Value
payload_of i v = layer_payload i (out-Value v)

-- a struct of these parts, or the case with that number and this payload
abbrev pub made : Option ℕ → List Value → Value
made None parts = value.Group parts
made (Some tag) payload = value.Case tag payload

-- the value of a register, if it is there and has one
abbrev pub value_at : List (Option Value) → ℕ → Option Value
value_at regs r = option_and_then (λ v. v) (slice_get regs r)

abbrev pub operand_value : List (Option Value) → Operand → Option Value
operand_value regs o = value_at regs o.reg

-- the cell that an operand refers to, by number
abbrev pub reference_at : List (Option Value) → Operand → Option ℕ
reference_at regs o = option_and_then reference_of (operand_value regs o)

-- the values of all operands, if each has one
abbrev pub values_at : List (Option Value) → List Operand → Option (List Value)
values_at regs operands = each_of (operand_value regs) operands

-- n registers of which the first have these values
unfoldable pub registers : ℕ → List Value → List (Option Value)
registers n values = map Some values ++ replicate (n - length values) None
