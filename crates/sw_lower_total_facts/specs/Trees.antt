-- What is shown of whole trees.
use Rattle.std.specs.Prelude.{◌≡◌, ℕ, Bool, false, List, [], All}
use Rattle.sw_tree.specs.Keys.{block_keys, expr_keys}
use Rattle.sw_tree.specs.declared.expr.Expr.{Expr}
use Rattle.sw_tree.specs.declared.stmt.Block.{Block}
use Rattle.sw_tree_facts.specs.Unwritten.{block_unwritten, expr_unwritten}
use Rattle.sw_typing_rules.specs.Expressions.{Judged}
use Rattle.sw_typing_rules.specs.Judges.{Judges, LeavesBlock}
use Rattle.sw_typing_rules.specs.Statements.{Left, State}
use Rattle.sw_typing_rules.specs.Words.{Setting}
use Rattle.sw_typing_rules.specs.declared.scope.Inside.{Inside}
use Rattle.sw_typing_rules.specs.declared.scope.Var.{Var}
use Rattle.sw_isolation_rules.specs.Noting.{block_notes, see}
use Rattle.sw_isolation_rules.specs.declared.note.Note.{Note}
use Rattle.sw_isolation_rules.specs.declared.uses.Context.{Context}
use Rattle.sw_lower_plans.specs.Plan.{Numbers}
use Rattle.sw_lower_rules.specs.Statements.{block_code, expr_code}
use Rattle.sw_lower_rules.specs.Tables.{Tables}
use Rattle.sw_lower_formed_facts.specs.Forms.{VarsHold}
use Rattle.sw_typing_facts.specs.Rows.{RowsHold}
use Rattle.sw_lower_total_facts.specs.Bound.{sight_in}
use Rattle.sw_typing_facts.specs.EnumWords.{AreUnmeant, in_block, in_expr}
use Rattle.sw_lower_total_facts.specs.Forms.{BlockProceeds, ExprProceeds}
use Rattle.sw_lower_total_facts.specs.Noted.{StandsInText}
use Rattle.sw_lower_total_facts.specs.Proceeding.{BodyIsNumbered}
use Rattle.sw_tree.specs.Scopes.{block_scoped, expr_scoped}

module _ (tables : Tables) (number : Numbers) (all : List Note) where
  -- what is noted of an expression and of a block
  abbrev pub noted_of : Expr → Context → List ℕ → List Note
  noted_of expr context listed = (see tables.world tables.answers expr).notes context listed

  abbrev pub noted_in : Block → Context → List ℕ → List Note
  noted_in block context listed = block_notes tables.world tables.answers block context listed

  -- where an expression and a block stand
  abbrev pub ExprStands : Context → List ℕ → List Var → Expr → Type 0
  ExprStands context listed vars expr =
      StandsInText all (sight_in tables context.owner vars) (noted_of expr context listed)
      (expr_keys expr)
      (expr_scoped expr)

  abbrev pub BlockStands : Context → List ℕ → List Var → Block → Type 0
  BlockStands context listed vars block =
      StandsInText all (sight_in tables context.owner vars) (noted_in block context listed)
      (block_keys block) (block_scoped block)

  -- The code of each well-typed expression proceeds, where the bodies in it have numbers.
  abbrev pub ExprsProceed : Type 0
  ExprsProceed = (setting : Setting) (expected : Bool) (expr : Expr) (judged : Judged)
      (judges : Judges tables.world setting expected expr judged)
      → AreUnmeant tables.answers (in_expr tables.world setting expected expr judged judges)
      → expr_unwritten expr ≡ [] → VarsHold tables.answers setting.vars
      → RowsHold tables.answers judged.rows
      → All (BodyIsNumbered number) (expr_code tables setting.owner expr).inside
      → (context : Context) (listed : List ℕ) → context.owner ≡ setting.owner
      → ExprStands context listed setting.vars expr
      → ExprProceeds tables number context listed setting.vars (noted_of expr context listed)
      (expr_code tables setting.owner expr)

  -- And so does that of each block outside of initialisers.
  abbrev pub BlocksProceed : Type 0
  BlocksProceed = (inside : Inside) (state : State) (block : Block) (left : Left)
      (leaves : LeavesBlock tables.world inside state block left)
      → AreUnmeant tables.answers (in_block tables.world inside state block left leaves)
      → block_unwritten block ≡ [] → inside.init ≡ false → VarsHold tables.answers state.vars
      → RowsHold tables.answers left.rows
      → All (BodyIsNumbered number) (block_code tables inside.owner block).inside
      → (context : Context) (listed : List ℕ) → context.owner ≡ inside.owner
      → BlockStands context listed state.vars block
      → BlockProceeds tables number context listed inside state (noted_in block context listed)
      (block_code tables inside.owner block)
