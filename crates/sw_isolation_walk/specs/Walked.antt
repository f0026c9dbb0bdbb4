-- What is noted of the parts of a tree.
use Rattle.std.specs.Prelude.{Bool, true, false, List, Option, map, option_map, unwrap_or}
use Rattle.sw_tree.specs.Folds.{fold_arg, fold_block, fold_case_arm, fold_closure, fold_if_arm}
use Rattle.sw_tree.specs.Folds.{fold_link, fold_stmt}
use Rattle.sw_tree.specs.declared.expr.Arg.{Arg}
use Rattle.sw_tree.specs.declared.expr.Closure.{Closure}
use Rattle.sw_tree.specs.declared.expr.Expr.{Expr}
use Rattle.sw_tree.specs.declared.expr.Link.{Link}
use Rattle.sw_tree.specs.declared.operator.AssignOp.{AssignOp}
use Rattle.sw_tree.specs.declared.operator.AssignOp.TheVariants as assigns
use Rattle.sw_tree.specs.declared.stmt.Block.{Block}
use Rattle.sw_tree.specs.declared.stmt.CaseArm.{CaseArm}
use Rattle.sw_tree.specs.declared.stmt.IfArm.{IfArm}
use Rattle.sw_tree.specs.declared.stmt.Stmt.{Stmt}
use Rattle.sw_typing_rules.specs.Worlds.{World}
use Rattle.sw_isolation_rules.specs.Answers.{Answers}
use Rattle.sw_isolation_rules.specs.Noting.{Linked, Notes, NotedClosure, all_of, no_notes}
use Rattle.sw_isolation_rules.specs.Noting.{note_steps}
use Rattle.sw_isolation_rules.specs.Noting.{see}
use Rattle.sw_isolation_rules.specs.declared.note.Note.{Note}
use Rattle.sw_isolation_rules.specs.declared.uses.Context.{Context}

-- whether a place is assigned by `=`
abbrev pub is_set : AssignOp → Bool
is_set assigns.Set = true
is_set assigns.Add = false
is_set assigns.Subtract = false
is_set assigns.Multiply = false
is_set assigns.Divide = false
is_set assigns.Remainder = false

module _ (world : World) (answers : Answers) where
  -- of a place that is assigned by `=`, what stands before its last word
  unfoldable pub before_place : Expr → Notes
  before_place place = (see world answers place).before

  -- the assignment to a place
  unfoldable pub written_place : Expr → Context → List Note
  written_place place context =
      (see world answers place).stores context (see world answers place).key

  abbrev pub args_noted : List Arg → Notes
  args_noted args = all_of (map (fold_arg (note_steps world answers)) args)

  abbrev pub links_noted : List Link → Notes
  links_noted links =
      all_of (map (λ (link : Linked). link.operand)
      (map (fold_link (note_steps world answers)) links))

  abbrev pub closure_seen : Closure → NotedClosure
  closure_seen = fold_closure (note_steps world answers)

  abbrev pub stmts_noted : List Stmt → Notes
  stmts_noted stmts = all_of (map (fold_stmt (note_steps world answers)) stmts)

  abbrev pub if_arm_noted : IfArm → Notes
  if_arm_noted = fold_if_arm (note_steps world answers)

  abbrev pub if_arms_noted : List IfArm → Notes
  if_arms_noted arms = all_of (map (fold_if_arm (note_steps world answers)) arms)

  abbrev pub case_arms_noted : List CaseArm → Notes
  case_arms_noted arms = all_of (map (fold_case_arm (note_steps world answers)) arms)

  abbrev pub otherwise_noted : Option Block → Notes
  otherwise_noted block =
      unwrap_or (option_map (fold_block (note_steps world answers)) block) no_notes
