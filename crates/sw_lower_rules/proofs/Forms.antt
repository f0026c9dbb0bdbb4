-- What the plans of some forms are.
use Rattle.std.proofs.Common.{◌≡◌, ℕ, ◌+◌, Bool, Option, List, [], ◌∷◌, length, refl, ap}
use Rattle.std.proofs.Common.{◌∙◌, ℤ, arith}
use Rattle.sw_tree.proofs.FoldEquations as eq
use Rattle.sw_tree.specs.declared.expr.Expr.TheVariants as exprs
use Rattle.sw_types.specs.declared.ty.Ty.{Ty}
use Rattle.sw_types.specs.declared.ty.Ty.TheVariants as types
use Rattle.sw_graph.specs.declared.function.RegKind.TheVariants.{Plain}
use Rattle.sw_graph.specs.declared.instr.BinOp.{BinOp}
use Rattle.sw_graph.specs.declared.instr.Instr.TheVariants as instr
use Rattle.sw_graph.specs.declared.instr.Last.{Last}
use Rattle.sw_graph.specs.declared.instr.Last.TheVariants as last
use Rattle.sw_graph.specs.declared.instr.Literal.{Literal}
use Rattle.sw_graph.specs.declared.instr.Literal.TheVariants as literals
use Rattle.sw_graph.specs.declared.instr.Operand.{Operand}
use Rattle.sw_lower_plans.specs.Plan.{Ended, Piece, Place}
use Rattle.sw_lower_code.specs.Code.{Code, andthen, block_for, close, done, emit, reg, resume}
use Rattle.sw_lower_rules.specs.Expressions.{binary, both, either}
use Rattle.sw_lower_rules.specs.Carriers.{ExprCode}
use Rattle.sw_lower_rules.specs.Statements.{code_steps, expr_code}
use Rattle.sw_lower_rules.specs.Tables.{Tables}
use Rattle.sw_lower_rules.specs.Uses.{operand}

pub result_of_binary : (at : ℕ) (op : BinOp) (ty : Ty) (right : Code Operand) (left : Operand)
    (place : Place)
    → ((binary at op ty right left).plan place).value
    ≡ operand (place.regs + length (right.plan place).regs) at
unfolding andthen done emit reg
result_of_binary at op ty right left place = refl

-- a literal's value, its register and its instruction
abbrev literal_piece : Ty → Literal → ℕ → Place → Piece Operand
literal_piece ty literal at place = record {
  value = operand place.regs at;
  regs = Plain ty ∷ [];
  made = [];
  writes = record {
    block = place.here;
    instr = instr.Const at place.regs literal;
  } ∷ [];
  lasts = [];
  there = place.here;
  vars = [];
}

pub plan_of_int : (tables : Tables) (owner : Option ℕ) (at : ℕ) (value : ℤ) (place : Place)
    → (expr_code tables owner (exprs.Int at value)).read.plan place
    ≡ literal_piece types.Int (literals.Int value) at place
unfolding expr_code andthen done emit reg
plan_of_int tables owner at value place =
    ap (λ (code : ExprCode). code.read.plan place)
    (eq.fold_expr-Int (code_steps tables owner) at value)

pub plan_of_bool : (tables : Tables) (owner : Option ℕ) (at : ℕ) (value : Bool) (place : Place)
    → (expr_code tables owner (exprs.Bool at value)).read.plan place
    ≡ literal_piece types.Bool (literals.Bool value) at place
unfolding expr_code andthen done emit reg
plan_of_bool tables owner at value place =
    ap (λ (code : ExprCode). code.read.plan place)
    (eq.fold_expr-Bool (code_steps tables owner) at value)

-- where a branch of `&&` or `||` leads: its own block and the one after are the next two
branch_first : (here : ℕ) (branch : ℕ → ℕ → Last) (blocks own merge : ℕ)
    (lasts rest : List Ended) → own ≡ blocks → merge ≡ blocks + 1
    → lasts ≡ record { block = here; last = branch own merge } ∷ rest
    → lasts ≡ record { block = here; last = branch blocks (blocks + 1) } ∷ rest
branch_first here branch blocks own merge lasts rest own_is merge_is is =
    is
    ∙ ap (λ n. record { block = here; last = branch n merge } ∷ rest) own_is
    ∙ ap (λ n. record { block = here; last = branch blocks n } ∷ rest) merge_is

pub branch_of_both : (at : ℕ) (right : Code Operand) (left : Operand) (place : Place)
    → (rest : List Ended) × (((both at right left).plan place).lasts ≡ record {
      block = place.here;
      last = last.Branch left place.blocks (place.blocks + 1);
    } ∷ rest)
unfolding andthen done emit reg block_for close resume
branch_of_both at right left place = (
  _,
  branch_first place.here (last.Branch left) place.blocks _ _ _ _ (omega arith) (omega arith)
      refl,
)

pub branch_of_either : (at : ℕ) (right : Code Operand) (left : Operand) (place : Place)
    → (rest : List Ended) × (((either at right left).plan place).lasts ≡ record {
      block = place.here;
      last = last.Branch left (place.blocks + 1) place.blocks;
    } ∷ rest)
unfolding andthen done emit reg block_for close resume
branch_of_either at right left place = (
  _,
  branch_first place.here (λ own merge. last.Branch left merge own) place.blocks _ _ _ _
      (omega arith) (omega arith) refl,
)
