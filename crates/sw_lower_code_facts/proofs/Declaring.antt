-- The code of assignments, of variables that are declared and of patterns has what its steps have.
use Rattle.std.proofs.Common.{ℕ, ◌+◌, Bool, true, false, List, [], ◌∷◌}
use Rattle.std.specs.Prelude.{if◌then◌else◌}
use Rattle.sw_tree.specs.declared.operator.AssignOp.{AssignOp}
use Rattle.sw_tree.specs.declared.operator.AssignOp.TheVariants as assigns
use Rattle.sw_tree.specs.declared.stmt.Pattern.{Pattern}
use Rattle.sw_tree.specs.declared.stmt.Pattern.TheVariants.{Skip, Let}
use Rattle.sw_types.specs.declared.ty.Ty.{Ty}
use Rattle.sw_types.specs.declared.ty.Ty.TheVariants as types
use Rattle.sw_graph.specs.declared.function.RegKind.TheVariants.{Plain, BoxOf}
use Rattle.sw_graph.specs.declared.instr.BinOp.{BinOp}
use Rattle.sw_graph.specs.declared.instr.BinOp.TheVariants as bin
use Rattle.sw_graph.specs.declared.instr.Operand.{Operand}
use Rattle.sw_lower_code.specs.Code.{Code}
use Rattle.sw_lower_rules.specs.Carriers.{ExprCode}
use Rattle.sw_lower_rules.specs.Statements.{assign, assign_by, boxed_var, declare_var, pattern_code}
use Rattle.sw_lower_rules.specs.Statements.{patterns_code, plain_var}
use Rattle.sw_lower_rules.specs.Tables.{Tables}
use Rattle.sw_lower_code_facts.specs.Kept.{ExprHas, Kept}
use Rattle.sw_lower_code_facts.specs.Steps.{KeptByVariables}
use Rattle.sw_lower_code_facts.proofs.Uses.{has_give, has_typed}

module _ (kept : Kept) where
  abbrev Has : {A : Type 0} → Code A → Type 0
  Has code = kept.Has code

  -- one of two codes that take a value
  has_if_at : {A B : Type 0} (is : Bool) (one other : A → Code B) (x : A) → Has (one x)
      → Has (other x) → Has ((if is then one else other) x)
  has_if_at true one other x first second = first
  has_if_at false one other x first second = second

  -- assignments
  has_assign_by : (at : ℕ) (op : BinOp) (place : ExprCode) (given : Operand)
      → ExprHas kept place → Has (assign_by at op place given)
  has_assign_by at op place given has =
      kept.after place.read _ has.read (λ old.
      kept.after _ _ (has_give kept at types.Int _ (λ r. tt)) has.write)

  pub has_assign : (op : AssignOp) (at : ℕ) (place : ExprCode) (given : Operand)
      → ExprHas kept place → Has (assign op at place given)
  has_assign assigns.Set at place given has = has.write given
  has_assign assigns.Add at place given has = has_assign_by at bin.Add place given has
  has_assign assigns.Subtract at place given has = has_assign_by at bin.Sub place given has
  has_assign assigns.Multiply at place given has = has_assign_by at bin.Mul place given has
  has_assign assigns.Divide at place given has = has_assign_by at bin.Div place given has
  has_assign assigns.Remainder at place given has = has_assign_by at bin.Rem place given has

  module _ (variables : KeptByVariables kept) (tables : Tables) where
    -- variables
    has_boxed : (key : ℕ) (given : Operand) (ty : Ty) → Has (boxed_var tables key given ty)
    has_boxed key given ty =
        kept.after _ _ (kept.reg (BoxOf ty)) (λ r.
        kept.after _ _ (kept.emit _ tt) (λ made. variables.bind _))

    has_plain : (key : ℕ) (given : Operand) (ty : Ty) → Has (plain_var tables key given ty)
    has_plain key given ty =
        kept.after _ _ (kept.reg (Plain ty)) (λ r.
        kept.after _ _ (kept.emit _ tt) (λ made. variables.bind _))

    pub has_declare : (key : ℕ) (given : Operand) → Has (declare_var tables key given)
    unfolding declare_var
    has_declare key given =
        kept.after _ _ (has_typed kept tables key) (λ ty.
        has_if_at (tables.isolation.is_boxed key) (boxed_var tables key given)
        (plain_var tables key given) ty (has_boxed key given ty) (has_plain key given ty))

    -- patterns
    has_pattern : (subject : Operand) (number : ℕ) (pattern : Pattern)
        → Has (pattern_code tables subject number pattern)
    has_pattern subject number (Skip at) = kept.done tt
    has_pattern subject number (Let name) =
        kept.after _ _ (has_typed kept tables name.at) (λ ty.
        kept.after _ _ (kept.reg (Plain ty)) (λ r.
        kept.after _ _ (variables.front _ tt) (λ taken. variables.bind _)))

    pub has_patterns : (subject : Operand) (number : ℕ) (patterns : List Pattern)
        → Has (patterns_code tables subject number patterns)
    unfolding patterns_code
    has_patterns subject number [] = kept.done tt
    has_patterns subject number (pattern ∷ patterns) =
        kept.after _ _ (has_pattern subject number pattern) (λ taken.
        has_patterns subject (number + 1) patterns)
