-- What operators compute. A result outside 64 bits and a zero divisor are traps.
use Rattle.std.specs.Prelude.{◌^◌, nat_lt, Bool, true, false, Option, Some, None}
use Rattle.std.specs.Prelude.{if◌then◌else◌, not, option_map}
use Rattle.std.specs.Prelude.{ℤ, pos, negsuc, ◌+ℤ◌, ◌-ℤ◌, ◌*ℤ◌, neg_ℤ, int_lt, int_le, int_div}
use Rattle.std.specs.Prelude.{int_rem, Result, Ok, Err}
use Rattle.std.specs.Ordering.{int_eq}
use Rattle.sw_graph.specs.declared.instr.UnOp.{UnOp}
use Rattle.sw_graph.specs.declared.instr.UnOp.TheVariants.{Not, Neg}
use Rattle.sw_graph.specs.declared.instr.BinOp.{BinOp}
use Rattle.sw_graph.specs.declared.instr.BinOp.TheVariants.{Add, Sub, Mul, Div, Rem, Eq, Ne, Lt, Le}
use Rattle.sw_graph.specs.declared.instr.BinOp.TheVariants.{Gt, Ge}
use Rattle.sw_value.specs.declared.state.TrapKind.{TrapKind}
use Rattle.sw_value.specs.declared.state.TrapKind.TheVariants.{Overflow, ZeroDivisor}
use Rattle.sw_value.specs.declared.value.Value.{Value, out-Value}
use Rattle.sw_value.specs.declared.value.Value.TheOpen as layer
use Rattle.sw_value.specs.declared.value.Value.TheVariants.{Int, Bool as Truth}

-- whether an integer has 64 bits
abbrev pub fits : ℤ → Bool
fits (pos n) = nat_lt n (2 ^ 63)
fits (negsuc n) = nat_lt n (2 ^ 63)

-- an integer, unless the one that decides is outside 64 bits
abbrev pub unless_too_large : ℤ → ℤ → Result Value TrapKind
unless_too_large deciding n = if fits deciding then Ok (Int n) else Err Overflow

-- The quotient and the remainder of a division toward zero. The remainder is outside 64 bits where
-- the quotient is.
abbrev pub quotient : ℤ → ℤ → Result Value TrapKind
quotient a b =
    if int_eq b (pos 0) then Err ZeroDivisor else unless_too_large (int_div a b) (int_div a b)

abbrev pub remainder : ℤ → ℤ → Result Value TrapKind
remainder a b =
    if int_eq b (pos 0) then Err ZeroDivisor else unless_too_large (int_div a b) (int_rem a b)

-- what an operator gives of two integers
abbrev pub of_integers : BinOp → ℤ → ℤ → Result Value TrapKind
of_integers Add a b = unless_too_large (a +ℤ b) (a +ℤ b)
of_integers Sub a b = unless_too_large (a -ℤ b) (a -ℤ b)
of_integers Mul a b = unless_too_large (a *ℤ b) (a *ℤ b)
of_integers Div a b = quotient a b
of_integers Rem a b = remainder a b
of_integers Eq a b = Ok (Truth (int_eq a b))
of_integers Ne a b = Ok (Truth (not (int_eq a b)))
of_integers Lt a b = Ok (Truth (int_lt a b))
of_integers Le a b = Ok (Truth (int_le a b))
of_integers Gt a b = Ok (Truth (int_lt b a))
of_integers Ge a b = Ok (Truth (int_le b a))

abbrev pub is_same_truth : Bool → Bool → Bool
is_same_truth true b = b
is_same_truth false b = not b

-- what an operator gives of two truth values, if it takes such
abbrev pub of_truths : BinOp → Bool → Bool → Option Value
of_truths Eq a b = Some (Truth (is_same_truth a b))
of_truths Ne a b = Some (Truth (not (is_same_truth a b)))
of_truths _ a b = None

abbrev pub layer_binary : BinOp → layer.Value-F Value → layer.Value-F Value
    → Option (Result Value TrapKind)
layer_binary op (layer.Int a) (layer.Int b) = Some (of_integers op a b)
layer_binary op (layer.Bool a) (layer.Bool b) = option_map Ok (of_truths op a b)
layer_binary op _ _ = None

-- what an infix operator gives of two values, if it takes such
abbrev pub binary : BinOp → Value → Value → Option (Result Value TrapKind)
binary op v w = layer_binary op (out-Value v) (out-Value w)

abbrev pub layer_unary : UnOp → layer.Value-F Value → Option (Result Value TrapKind)
layer_unary Not (layer.Bool b) = Some (Ok (Truth (not b)))
layer_unary Neg (layer.Int n) = Some (unless_too_large (neg_ℤ n) (neg_ℤ n))
layer_unary _ _ = None

-- what a prefix operator gives of a value, if it takes such
abbrev pub unary : UnOp → Value → Option (Result Value TrapKind)
unary op v = layer_unary op (out-Value v)
