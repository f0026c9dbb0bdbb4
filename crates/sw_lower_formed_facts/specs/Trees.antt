-- What is shown of whole trees: the code of each expression and block that is well typed is safe
-- wherever it stands.
use Rattle.std.specs.Prelude.{◌≡◌, ℕ, Bool, false, List, Some, All, IsOk, slice_get}
use Rattle.sw_graph.specs.declared.function.Function.{Function}
use Rattle.sw_tree.specs.declared.expr.Expr.{Expr}
use Rattle.sw_tree.specs.declared.stmt.Block.{Block}
use Rattle.sw_typing_rules.specs.Expressions.{Judged}
use Rattle.sw_typing_rules.specs.Judges.{Judges, LeavesBlock}
use Rattle.sw_typing_rules.specs.Statements.{Left, State}
use Rattle.sw_typing_rules.specs.Words.{Setting}
use Rattle.sw_typing_rules.specs.declared.scope.Inside.{Inside}
use Rattle.sw_lower_plans.specs.Plan.{Numbers}
use Rattle.sw_lower_code.specs.Whole.{Body, function_of, lower_body}
use Rattle.sw_lower_rules.specs.Statements.{block_code, expr_code}
use Rattle.sw_lower_rules.specs.Tables.{Tables, name_of}
use Rattle.sw_lower_formed_facts.specs.Forms.{BlockOk, ExprOk, VarsHold}
use Rattle.sw_typing_facts.specs.Rows.{RowsHold}

module _ (tables : Tables) (number : Numbers) (functions : List Function) where
  -- The body's code runs to its end, and its function is found by its name.
  pub record IsHere (body : Body) : Type 0 where
    pub made : IsOk (lower_body number body)
    pub found : (f : ℕ) → number (name_of body) ≡ Some f
        → slice_get functions f ≡ Some (function_of number body)

  -- The code of each well-typed expression is safe, where the bodies in it are such.
  abbrev pub ExprsHold : Type 0
  ExprsHold = (setting : Setting) (expected : Bool) (expr : Expr) (judged : Judged)
      → Judges tables.world setting expected expr judged → VarsHold tables.answers setting.vars
      → RowsHold tables.answers judged.rows
      → All IsHere (expr_code tables setting.owner expr).inside
      → ExprOk tables number functions setting.owner (expr_code tables setting.owner expr) judged

  -- And so is that of each block outside of initialisers.
  abbrev pub BlocksHold : Type 0
  BlocksHold = (inside : Inside) (state : State) (block : Block) (left : Left)
      → LeavesBlock tables.world inside state block left → inside.init ≡ false
      → VarsHold tables.answers state.vars → RowsHold tables.answers left.rows
      → All IsHere (block_code tables inside.owner block).inside
      → BlockOk tables number functions inside.owner inside.only state
      (block_code tables inside.owner block) left
