-- What operators compute refers to nothing.
use Rattle.std.proofs.Common.{◌≡◌, ℤ, Bool, true, false, cond, Some, []}
use Rattle.std.proofs.Common.{subst}
use Rattle.std.specs.Prelude.{Result, Ok, Err, not, pos, ◌+ℤ◌, ◌-ℤ◌, ◌*ℤ◌, neg_ℤ, int_lt, int_le}
use Rattle.std.specs.Prelude.{int_div, int_rem}
use Rattle.std.specs.Ordering.{int_eq}
use Rattle.std.specs.Option.{option_map}
use Rattle.sw_list.proofs.ListLemmas.{some_injective}
use Rattle.sw_graph.specs.declared.instr.BinOp.{BinOp}
use Rattle.sw_graph.specs.declared.instr.BinOp.TheVariants.{Add, Sub, Mul, Div, Rem, Eq, Ne, Lt, Le}
use Rattle.sw_graph.specs.declared.instr.BinOp.TheVariants.{Gt, Ge}
use Rattle.sw_graph.specs.declared.instr.Literal.{Literal}
use Rattle.sw_graph.specs.declared.instr.Literal.TheVariants as literal
use Rattle.sw_graph.specs.declared.instr.UnOp.{UnOp}
use Rattle.sw_graph.specs.declared.instr.UnOp.TheVariants.{Not, Neg}
use Rattle.sw_value.specs.declared.state.TrapKind.{TrapKind}
use Rattle.sw_value.specs.declared.state.TrapKind.TheVariants.{ZeroDivisor, Overflow}
use Rattle.sw_value.specs.declared.value.Value.{Value, out-Value}
use Rattle.sw_value.specs.declared.value.Value.TheOpen.{Value-F}
use Rattle.sw_value.specs.declared.value.Value.TheOpen as layer
use Rattle.sw_value.specs.declared.value.Value.TheVariants as value
use Rattle.sw_value.specs.Arithmetic.{fits, unless_too_large, of_integers}
use Rattle.sw_value.specs.Arithmetic.{is_same_truth, of_truths, layer_binary, binary, layer_unary, unary}
use Rattle.sw_value.specs.Value.{value_of}
use Rattle.sw_reach_facts.specs.Reached.{references}
use Rattle.sw_reach_facts.proofs.ReferenceLemmas.{references-int, references-truth}

integer_plain : (n : ℤ) → references (value.Int n) ≡ []
integer_plain n = references-int (value.Int n) n (value.outs-Int n)

truth_plain : (b : Bool) → references (value.Bool b) ≡ []
truth_plain b = references-truth (value.Bool b) b (value.outs-Bool b)

pub literal_plain : (l : Literal) → references (value_of l) ≡ []
literal_plain (literal.Int n) = integer_plain n
literal_plain (literal.Bool b) = truth_plain b

-- a value that is computed, unless there is a trap
abbrev pub IsPlain : Result Value TrapKind → Type 0
IsPlain (Ok v) = references v ≡ []
IsPlain (Err kind) = Unit {0}

small_plain : (deciding n : ℤ) → IsPlain (unless_too_large deciding n)
small_plain deciding n = by (fits deciding) where
  by : (b : Bool) → IsPlain (cond b (Ok (value.Int n)) (Err Overflow))
  by true = integer_plain n
  by false = tt

divided_plain : (b : ℤ) (result : Result Value TrapKind) → IsPlain result
    → IsPlain (cond (int_eq b (pos 0)) (Err ZeroDivisor) result)
divided_plain b result plain = by (int_eq b (pos 0)) where
  by : (zero : Bool) → IsPlain (cond zero (Err ZeroDivisor) result)
  by true = tt
  by false = plain

integers_plain : (op : BinOp) (a b : ℤ) → IsPlain (of_integers op a b)
integers_plain Add a b = small_plain (a +ℤ b) (a +ℤ b)
integers_plain Sub a b = small_plain (a -ℤ b) (a -ℤ b)
integers_plain Mul a b = small_plain (a *ℤ b) (a *ℤ b)
integers_plain Div a b =
    divided_plain b (unless_too_large (int_div a b) (int_div a b))
    (small_plain (int_div a b) (int_div a b))
integers_plain Rem a b =
    divided_plain b (unless_too_large (int_div a b) (int_rem a b))
    (small_plain (int_div a b) (int_rem a b))
integers_plain Eq a b = truth_plain (int_eq a b)
integers_plain Ne a b = truth_plain (not (int_eq a b))
integers_plain Lt a b = truth_plain (int_lt a b)
integers_plain Le a b = truth_plain (int_le a b)
integers_plain Gt a b = truth_plain (int_lt b a)
integers_plain Ge a b = truth_plain (int_le b a)

truths_plain : (op : BinOp) (a b : Bool) (result : Result Value TrapKind)
    → option_map Ok (of_truths op a b) ≡ Some result → IsPlain result
truths_plain Eq a b result is = subst IsPlain (some_injective is) (truth_plain (is_same_truth a b))
truths_plain Ne a b result is =
    subst IsPlain (some_injective is) (truth_plain (not (is_same_truth a b)))
truths_plain op a b result is = cc

pub binary_plain : (op : BinOp) (v w : Value) (result : Result Value TrapKind)
    → binary op v w ≡ Some result → IsPlain result
binary_plain op v w result = by (out-Value v) (out-Value w) where
  by : (l m : Value-F Value) → layer_binary op l m ≡ Some result → IsPlain result
  by (layer.Int a) (layer.Int b) is = subst IsPlain (some_injective is) (integers_plain op a b)
  by (layer.Bool a) (layer.Bool b) is = truths_plain op a b result is
  by l m is = cc

pub unary_plain : (op : UnOp) (v : Value) (result : Result Value TrapKind)
    → unary op v ≡ Some result → IsPlain result
unary_plain op v result = by op (out-Value v) where
  by : (op : UnOp) (l : Value-F Value) → layer_unary op l ≡ Some result → IsPlain result
  by Not (layer.Bool b) is = subst IsPlain (some_injective is) (truth_plain (not b))
  by Neg (layer.Int n) is =
      subst IsPlain (some_injective is) (small_plain (neg_ℤ n) (neg_ℤ n))
  by op l is = cc
