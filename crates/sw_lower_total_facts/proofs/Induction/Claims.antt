-- What is claimed of each tree and of each list of trees, by how it is judged: its code asks for
-- nothing that isn't known.
use Rattle.std.proofs.Common.{◌≡◌, ℕ, Bool, true, false, List, [], Option, Some, map, flat_map}
use Rattle.std.proofs.Common.{Contains, option_map, unwrap_or}
use Rattle.std.specs.Prelude.{All}
use Rattle.sw_tree.specs.Folds.{fold_arg, fold_block, fold_case_arm, fold_if_arm, fold_link}
use Rattle.sw_tree.specs.Folds.{fold_stmt}
use Rattle.sw_tree.specs.Keys.{joined}
use Rattle.sw_tree.specs.declared.expr.Arg.{Arg}
use Rattle.sw_tree.specs.declared.expr.Expr.{Expr}
use Rattle.sw_tree.specs.declared.expr.Expr.TheVariants as exprs
use Rattle.sw_tree.specs.declared.expr.Link.{Link}
use Rattle.sw_tree.specs.declared.name.Name.{Name}
use Rattle.sw_tree.specs.declared.stmt.Block.{Block}
use Rattle.sw_tree.specs.declared.stmt.CaseArm.{CaseArm}
use Rattle.sw_tree.specs.declared.stmt.IfArm.{IfArm}
use Rattle.sw_tree.specs.declared.stmt.Stmt.{Stmt}
use Rattle.sw_tree_facts.specs.Unwritten.{block_unwritten, expr_unwritten, unwritten_steps}
use Rattle.sw_types.specs.declared.shape.CaseShape.{CaseShape}
use Rattle.sw_typing_rules.specs.Calls.{Slot}
use Rattle.sw_typing_rules.specs.Expressions.{Judged, Passed}
use Rattle.sw_typing_rules.specs.Judges as is
use Rattle.sw_typing_rules.specs.Statements.{Armed, Left, State}
use Rattle.sw_typing_rules.specs.Words.{Setting}
use Rattle.sw_typing_rules.specs.declared.scope.Inside.{Inside}
use Rattle.sw_typing_rules.specs.declared.scope.Var.{Var}
use Rattle.sw_isolation_rules.specs.Noting.{Seen, see}
use Rattle.sw_isolation_rules.specs.declared.note.Note.{Note}
use Rattle.sw_isolation_rules.specs.declared.uses.Context.{Context}
use Rattle.sw_lower_plans.specs.Plan.{Numbers}
use Rattle.sw_lower_code.specs.Whole.{Body}
use Rattle.sw_lower_rules.specs.Carriers.{CaseCode, ExprCode, IfCode, LinkCode}
use Rattle.sw_lower_rules.specs.Expressions.{args_inside}
use Rattle.sw_lower_rules.specs.Statements.{block_code, code_steps, expr_code, inside_of, stmt_code}
use Rattle.sw_lower_rules.specs.Tables.{Tables}
use Rattle.sw_lower_formed_facts.specs.Forms.{VarsHold}
use Rattle.sw_typing_facts.specs.Rows.{RowsHold}
use Rattle.sw_typing_facts.specs.EnumWords.{AreUnmeant, in_args, in_arms, in_block, in_cases}
use Rattle.sw_typing_facts.specs.EnumWords.{in_expr, in_links, in_otherwise, in_stmt, in_stmts}
use Rattle.sw_lower_total_facts.specs.Forms.{ArgsProceed, BlockProceeds, ExprProceeds, LinksProceed}
use Rattle.sw_lower_total_facts.specs.Forms.{PlaceProceeds, StmtProceeds}
use Rattle.sw_lower_total_facts.specs.Proceeding.{BodyProceeds, BodyIsNumbered}
use Rattle.sw_lower_total_facts.specs.Trees.{noted_in, noted_of}
use Rattle.sw_lower_total_facts.proofs.Standing.NoteForms.{args_notes, case_arms_notes, if_arms_notes}
use Rattle.sw_lower_total_facts.proofs.Standing.NoteForms.{links_notes, noted_stmt, otherwise_notes}
use Rattle.sw_lower_total_facts.proofs.Standing.NoteForms.{stmts_notes}
use Rattle.sw_lower_total_facts.proofs.Standing.Trees.{StandArgs, StandCaseArms, StandIfArms, StandLinks}
use Rattle.sw_lower_total_facts.proofs.Standing.Trees.{StandStmts, StandsBlock, StandsExpr, StandsStmt}
use Rattle.sw_lower_total_facts.proofs.Statements.Blocks.{StmtsProceed}
use Rattle.sw_lower_formed_facts.proofs.Statements.Blocks.{stmts_inside}
use Rattle.sw_lower_total_facts.proofs.Statements.Branches.{ArmsProceed, OtherwiseProceeds}
use Rattle.sw_lower_total_facts.proofs.Statements.Cases.{CasesProceed}
use Rattle.sw_lower_formed_facts.proofs.Statements.Cases.{HeadFits}

-- The bodies of closures and tasks have numbers.
abbrev pub Numbered : Numbers → List Body → Type 0
Numbered number bodies = All (BodyIsNumbered number) bodies

module _ (tables : Tables) (number : Numbers) (all : List Note) where
  -- expressions
  abbrev pub ExprClaim : {setting : Setting} {expected : Bool} {expr : Expr} {judged : Judged}
      → is.Judges tables.world setting expected expr judged → Type 0
  ExprClaim {setting} {expected} {expr} {judged} judges =
      AreUnmeant tables.answers (in_expr tables.world setting expected expr judged judges)
      → expr_unwritten expr ≡ [] → VarsHold tables.answers setting.vars
      → RowsHold tables.answers judged.rows
      → Numbered number (expr_code tables setting.owner expr).inside
      → (context : Context) (listed : List ℕ) → context.owner ≡ setting.owner
      → StandsExpr tables all context listed setting.vars expr
      → ExprProceeds tables number context listed setting.vars
      (noted_of tables number all expr context listed) (expr_code tables setting.owner expr)

  -- arguments
  abbrev pub ArgsClaim : {setting : Setting} {slots : List Slot} {args : List Arg} {passed : Passed}
      → is.Passes tables.world setting slots args passed → Type 0
  ArgsClaim {setting} {slots} {args} {passed} passes =
      AreUnmeant tables.answers (in_args tables.world setting slots args passed passes)
      → joined (map (fold_arg unwritten_steps) args) ≡ [] → VarsHold tables.answers setting.vars
      → RowsHold tables.answers passed.rows
      → Numbered number (args_inside (map (fold_arg (code_steps tables setting.owner)) args))
      → (context : Context) (listed : List ℕ) → context.owner ≡ setting.owner
      → StandArgs tables all context listed setting.vars args
      → ArgsProceed tables number context listed setting.vars
      (args_notes tables.world tables.answers args context listed)
      (map (fold_arg (code_steps tables setting.owner)) args)

  -- the operators of a chain
  abbrev pub LinksClaim : {setting : Setting} {left judged : Judged} {links : List Link}
      → is.Links tables.world setting left links judged → Type 0
  LinksClaim {setting} {left} {judged} {links} of_links =
      AreUnmeant tables.answers (in_links tables.world setting left links judged of_links)
      → joined (map (fold_link unwritten_steps) links) ≡ [] → VarsHold tables.answers setting.vars
      → RowsHold tables.answers judged.rows
      → Numbered number (flat_map (λ (link : LinkCode). link.inside)
      (map (fold_link (code_steps tables setting.owner)) links))
      → (context : Context) (listed : List ℕ) → context.owner ≡ setting.owner
      → StandLinks tables all context listed setting.vars links
      → LinksProceed tables number context listed setting.vars
      (links_notes tables.world tables.answers links context listed)
      (map (fold_link (code_steps tables setting.owner)) links)

  -- an expression that may be assigned
  pub record IsPlace (context : Context) (listed : List ℕ) (vars : List Var) (seen : Seen)
      (code : ExprCode) : Type 0 where
    pub write : PlaceProceeds tables number context listed vars (seen.before context listed) code
    pub among : (note : Note) → Contains (seen.before context listed) note
        → Contains (seen.notes context listed) note
    pub inside : All (BodyProceeds number) code.inside

  -- The base of a member that is assigned stands.
  abbrev pub BaseIn : Context → List ℕ → List Var → Expr → Type 0
  BaseIn context listed vars place = (base : Expr) (name : Name) → place ≡ exprs.Member base name
      → StandsExpr tables all context listed vars base

  -- a place that is assigned
  abbrev pub PlaceClaim : {setting : Setting} {expected : Bool} {expr : Expr} {judged : Judged}
      → is.Judges tables.world setting expected expr judged → Type 0
  PlaceClaim {setting} {expected} {expr} {judged} judges =
      AreUnmeant tables.answers (in_expr tables.world setting expected expr judged judges)
      → expr_unwritten expr ≡ [] → VarsHold tables.answers setting.vars
      → RowsHold tables.answers judged.rows
      → Numbered number (expr_code tables setting.owner expr).inside
      → (context : Context) (listed : List ℕ) → context.owner ≡ setting.owner
      → BaseIn context listed setting.vars expr → judged.settable ≡ true
      → IsPlace context listed setting.vars (see tables.world tables.answers expr)
      (expr_code tables setting.owner expr)

  -- blocks
  abbrev pub BlockClaim : {inside : Inside} {state : State} {block : Block} {left : Left}
      → is.LeavesBlock tables.world inside state block left → Type 0
  BlockClaim {inside} {state} {block} {left} leaves =
      AreUnmeant tables.answers (in_block tables.world inside state block left leaves)
      → block_unwritten block ≡ [] → inside.init ≡ false → VarsHold tables.answers state.vars
      → RowsHold tables.answers left.rows
      → Numbered number (block_code tables inside.owner block).inside
      → (context : Context) (listed : List ℕ) → context.owner ≡ inside.owner
      → StandsBlock tables all context listed state.vars block
      → BlockProceeds tables number context listed inside state
      (noted_in tables number all block context listed) (block_code tables inside.owner block)

  -- the statements of a block
  abbrev pub StmtsClaim : {inside : Inside} {state : State} {list : List Stmt} {left : Left}
      → is.LeavesAll tables.world inside state list left → Type 0
  StmtsClaim {inside} {state} {list} {left} leaves =
      AreUnmeant tables.answers (in_stmts tables.world inside state list left leaves)
      → joined (map (fold_stmt unwritten_steps) list) ≡ [] → inside.init ≡ false
      → VarsHold tables.answers state.vars → RowsHold tables.answers left.rows
      → Numbered number (stmts_inside (map (fold_stmt (code_steps tables inside.owner)) list))
      → (context : Context) (listed : List ℕ) → context.owner ≡ inside.owner
      → StandStmts tables all context listed state.vars list
      → StmtsProceed tables number context listed inside state
      (stmts_notes tables.world tables.answers list context listed)
      (map (fold_stmt (code_steps tables inside.owner)) list)

  -- statements
  abbrev pub StmtClaim : {inside : Inside} {state : State} {stmt : Stmt} {left : Left}
      → is.Leaves tables.world inside state stmt left → Type 0
  StmtClaim {inside} {state} {stmt} {left} leaves =
      AreUnmeant tables.answers (in_stmt tables.world inside state stmt left leaves)
      → fold_stmt unwritten_steps stmt ≡ [] → inside.init ≡ false
      → VarsHold tables.answers state.vars → RowsHold tables.answers left.rows
      → Numbered number (stmt_code tables inside.owner stmt).inside
      → (context : Context) (listed : List ℕ) → context.owner ≡ inside.owner
      → StandsStmt tables all context listed state.vars stmt
      → StmtProceeds tables number context listed inside state
      (noted_stmt tables.world tables.answers context listed stmt)
      (stmt_code tables inside.owner stmt) left

  -- the arms of an `if`
  abbrev pub ArmsClaim : {inside : Inside} {state : State} {arms : List IfArm} {left : Left}
      → is.LeavesArms tables.world inside state arms left → Type 0
  ArmsClaim {inside} {state} {arms} {left} leaves =
      AreUnmeant tables.answers (in_arms tables.world inside state arms left leaves)
      → joined (map (fold_if_arm unwritten_steps) arms) ≡ [] → inside.init ≡ false
      → VarsHold tables.answers state.vars → RowsHold tables.answers left.rows
      → Numbered number (flat_map (λ (arm : IfCode). arm.inside)
      (map (fold_if_arm (code_steps tables inside.owner)) arms))
      → (context : Context) (listed : List ℕ) → context.owner ≡ inside.owner
      → StandIfArms tables all context listed state.vars arms
      → ArmsProceed tables number context listed inside state.vars
      (if_arms_notes tables.world tables.answers arms context listed)
      (map (fold_if_arm (code_steps tables inside.owner)) arms)

  -- an `else` or a `default`
  abbrev pub OtherwiseClaim : {ends : Bool} {inside : Inside} {state : State}
      {other : Option Block} {left : Left}
      → is.LeavesOtherwise tables.world ends inside state other left → Type 0
  OtherwiseClaim {ends} {inside} {state} {other} {left} leaves =
      AreUnmeant tables.answers (in_otherwise tables.world ends inside state other left leaves)
      → unwrap_or (option_map (fold_block unwritten_steps) other) [] ≡ [] → inside.init ≡ false
      → VarsHold tables.answers state.vars → RowsHold tables.answers left.rows
      → Numbered number (inside_of (option_map (fold_block (code_steps tables inside.owner)) other))
      → (context : Context) (listed : List ℕ) → context.owner ≡ inside.owner
      → ((body : Block) → other ≡ Some body
      → StandsBlock tables all context listed state.vars body)
      → OtherwiseProceeds tables number context listed inside state.vars
      (otherwise_notes tables.world tables.answers other context listed)
      (option_map (fold_block (code_steps tables inside.owner)) other)

  -- the arms of a `switch`
  abbrev pub CasesClaim : {inside : Inside} {cases : Option (List CaseShape)} {state : State}
      {arms : List CaseArm} {armed : Armed}
      → is.LeavesCases tables.world inside cases state arms armed → Type 0
  CasesClaim {inside} {cases} {state} {arms} {armed} leaves =
      AreUnmeant tables.answers (in_cases tables.world inside cases state arms armed leaves)
      → joined (map (fold_case_arm unwritten_steps) arms) ≡ [] → inside.init ≡ false
      → VarsHold tables.answers state.vars → RowsHold tables.answers armed.left.rows
      → Numbered number (flat_map (λ (arm : CaseCode). arm.body.inside)
      (map (fold_case_arm (code_steps tables inside.owner)) arms))
      → All (HeadFits cases) armed.heads
      → (context : Context) (listed : List ℕ) → context.owner ≡ inside.owner
      → StandCaseArms tables all context listed state.vars arms
      → CasesProceed tables number context listed inside cases state.vars
      (case_arms_notes tables.world tables.answers arms context listed)
      (map (fold_case_arm (code_steps tables inside.owner)) arms) armed
