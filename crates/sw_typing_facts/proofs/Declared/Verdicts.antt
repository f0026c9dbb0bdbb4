-- The verdicts of the rules on operators, values, closures and tasks: the types that they give are
-- declared.
use Rattle.std.proofs.Common.{ℕ, ◌<◌, Bool, true, false, List, [], ◌∷◌, Option, Some, None}
use Rattle.std.proofs.Common.{if◌then◌else◌}
use Rattle.std.specs.Prelude.{IfSome}
use Rattle.sw_tree.specs.declared.operator.InfixOp.{InfixOp}
use Rattle.sw_tree.specs.declared.operator.PrefixOp.{PrefixOp}
use Rattle.sw_tree.specs.declared.operator.PrefixOp.TheVariants as prefix_of
use Rattle.sw_types.specs.declared.shape.CaseShape.{CaseShape}
use Rattle.sw_types.specs.declared.shape.Part.{Part}
use Rattle.sw_types.specs.declared.ty.Ty.{Ty}
use Rattle.sw_types.specs.declared.ty.Ty.TheVariants as types
use Rattle.sw_decls.specs.declared.signature.GlobalVar.{GlobalVar}
use Rattle.sw_typing_rules.specs.Calls as calls
use Rattle.sw_typing_rules.specs.Expressions as exps
use Rattle.sw_typing_rules.specs.Operators as operators
use Rattle.sw_typing_rules.specs.Operators.{Arithmetic, Equality, Logic, Order, Sort}
use Rattle.sw_typing_rules.specs.Verdicts.{is_bool, is_int, rows_of, type_in}
use Rattle.sw_typing_rules.specs.Words as senses
use Rattle.sw_typing_rules.specs.declared.row.Row.{Row}
use Rattle.sw_typing_rules.specs.declared.verdict.Verdict.{Verdict}
use Rattle.sw_typing_rules.specs.declared.verdict.Verdict.TheVariants.{Fails, Has, Held}
use Rattle.sw_typing_facts.proofs.Declared.Noted.{JudgedWithin, OwnerWithin, RowsWithin, join}
use Rattle.sw_typing_facts.proofs.Declared.Tables.{GlobalWithin, PartWithin}
use Rattle.sw_typing_facts.proofs.Types.Within.{AreWithin, IfWithin, Within, bool_within, func_within}
use Rattle.sw_typing_facts.proofs.Types.Within.{int_within, named_within, task_within}

-- the type that a rule gives, if it gives one
abbrev pub VerdictWithin : ℕ → Verdict → Type 0
VerdictWithin n (Has ty) = Within n ty
VerdictWithin n (Fails code) = Unit {0}
VerdictWithin n Held = Unit {0}

module _ (n : ℕ) where
  -- what a verdict notes

  pub verdict : (at : ℕ) (says : Verdict) → VerdictWithin n says → RowsWithin n (rows_of at says)
  verdict at (Has ty) is = (is, tt)
  verdict at (Fails code) is = (tt, tt)
  verdict at Held is = tt

  pub verdict_type : (says : Verdict) → VerdictWithin n says → IfWithin n (type_in says)
  verdict_type (Has ty) is = is
  verdict_type (Fails code) is = tt
  verdict_type Held is = tt

  -- rows, and what a verdict says of a node
  pub noted : (at : ℕ) (says : Verdict) (rows : List Row) → RowsWithin n rows
      → VerdictWithin n says → JudgedWithin n (exps.noted at says rows)
  noted at says rows are is =
      (verdict_type says is, join n rows (rows_of at says) are (verdict at says is))

  -- what the rules say

  pub either : (test : Bool) (one other : Verdict) → VerdictWithin n one → VerdictWithin n other
      → VerdictWithin n (if test then one else other)
  either true one other first second = first
  either false one other first second = second

  gives : (sort : Sort) → Within n (operators.gives sort)
  gives Arithmetic = int_within n
  gives Order = bool_within n
  gives Equality = bool_within n
  gives Logic = bool_within n

  -- an operator between two values
  pub infix_types : (op : InfixOp) (left right : Option Ty)
      → VerdictWithin n (operators.infix_types op left right)
  infix_types op None right = tt
  infix_types op (Some left) None = tt
  infix_types op (Some left) (Some right) =
      either (operators.takes (operators.sort_of op) left right)
      (Has (operators.gives (operators.sort_of op))) (Fails 402) (gives (operators.sort_of op)) tt

  -- an operator before a value
  pub prefix_types : (op : PrefixOp) (ty : Option Ty)
      → VerdictWithin n (operators.prefix_types op ty)
  prefix_types op None = tt
  prefix_types prefix_of.Not (Some ty) =
      either (is_bool ty) (Has types.Bool) (Fails 402) (bool_within n) tt
  prefix_types prefix_of.Negate (Some ty) =
      either (is_int ty) (Has types.Int) (Fails 402) (int_within n) tt

  -- a word that means a variable
  pub var_types : (ty : Option Ty) → IfWithin n ty → VerdictWithin n (senses.var_types ty)
  var_types None is = tt
  var_types (Some ty) is = is

  pub part_types : (part : Option Part) (code : ℕ) → IfSome part (PartWithin n)
      → VerdictWithin n (senses.part_types part code)
  part_types None code is = tt
  part_types (Some part) code is = is

  pub global_types : (global : Option GlobalVar) → IfSome global (GlobalWithin n)
      → VerdictWithin n (senses.global_types global)
  global_types None is = tt
  global_types (Some global) is = is

  -- `self`
  pub me_types : (owner : Option ℕ) → OwnerWithin n owner
      → VerdictWithin n (senses.me_types owner)
  me_types None is = tt
  me_types (Some shape) is = named_within n shape is

  -- a closure
  pub fun_types : (marked : Bool) (params : List Ty) (result : Option Ty) → AreWithin n params
      → IfWithin n result → VerdictWithin n (exps.fun_types marked params result)
  fun_types marked params None are is = tt
  fun_types marked params (Some result) are is = func_within n marked params result are is

  -- a task
  pub task_types : (result : Option Ty) → IfWithin n result
      → VerdictWithin n (exps.task_types result)
  task_types None is = tt
  task_types (Some result) is = task_within n result is

  payload_types : (shape : ℕ) (payload : List Ty) → shape < n
      → VerdictWithin n (calls.payload_types shape payload)
  payload_types shape [] is = named_within n shape is
  payload_types shape (ty ∷ tys) is = tt

  pub case_types : (shape : ℕ) (one : Option CaseShape) → IfSome one (λ _. shape < n)
      → VerdictWithin n (calls.case_types shape one)
  case_types shape None is = tt
  case_types shape (Some one) is = payload_types shape one.payload is
