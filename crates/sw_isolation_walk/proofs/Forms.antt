-- What is noted of each form of node by what is noted of its parts.
use Rattle.std.proofs.Common.{◌≡◌, ℕ, ℤ, Bool, true, List, [], ◌++◌, Option, Some, None, ap}
use Rattle.sw_tree.proofs.FoldEquations as eq
use Rattle.sw_tree.specs.Folds.{Steps, fold_arg, fold_case_arm}
use Rattle.sw_tree.specs.Folds.{fold_link}
use Rattle.sw_tree.specs.declared.expr.Arg.{Arg, out-Arg}
use Rattle.sw_tree.specs.declared.expr.Closure.{Closure, out-Closure}
use Rattle.sw_tree.specs.declared.expr.Expr.{Expr}
use Rattle.sw_tree.specs.declared.expr.Expr.TheVariants as exprs
use Rattle.sw_tree.specs.declared.expr.Link.{Link, out-Link}
use Rattle.sw_tree.specs.declared.name.Name.{Name}
use Rattle.sw_tree.specs.declared.operator.AssignOp.{AssignOp}
use Rattle.sw_tree.specs.declared.operator.PrefixOp.{PrefixOp}
use Rattle.sw_tree.specs.declared.stmt.Block.{Block, out-Block}
use Rattle.sw_tree.specs.declared.stmt.CaseArm.{CaseArm, out-CaseArm}
use Rattle.sw_tree.specs.declared.stmt.IfArm.{IfArm, out-IfArm}
use Rattle.sw_tree.specs.declared.stmt.Stmt.TheVariants as stmts
use Rattle.sw_tree.specs.declared.type_tree.TypeTree.{TypeTree}
use Rattle.sw_typing_rules.specs.Worlds.{World}
use Rattle.sw_isolation_rules.specs.Answers.{Answers}
use Rattle.sw_isolation_rules.specs.Captures.{closed}
use Rattle.sw_isolation_rules.specs.Noting.{Linked, Notes, Seen, NotedClosure, await_notes}
use Rattle.sw_isolation_rules.specs.Noting.{block_notes}
use Rattle.sw_isolation_rules.specs.Noting.{fun_notes, in_await, inner_notes, me_notes}
use Rattle.sw_isolation_rules.specs.Noting.{member_notes}
use Rattle.sw_isolation_rules.specs.Noting.{mention_notes, note_steps, place_notes, see, stmt_notes}
use Rattle.sw_isolation_rules.specs.Noting.{store_notes, task_notes, used_at, var_notes, with_list}
use Rattle.sw_isolation_rules.specs.Noting.{word_notes}
use Rattle.sw_isolation_rules.specs.Uses.{base_of}
use Rattle.sw_isolation_rules.specs.declared.note.Note.{Note}
use Rattle.sw_isolation_rules.specs.declared.uses.Context.{Context}
use Rattle.sw_isolation_walk.specs.Walked.{args_noted, before_place, case_arms_noted, closure_seen}
use Rattle.sw_isolation_walk.specs.Walked.{if_arm_noted, if_arms_noted, links_noted, otherwise_noted}
use Rattle.sw_isolation_walk.specs.Walked.{stmts_noted}

module _ (world : World) (answers : Answers) (context : Context) (listed : List ℕ) where
  abbrev steps : Steps
  steps = note_steps world answers

  abbrev of_seen : Seen → List Note
  of_seen seen = seen.notes context listed

  abbrev before_seen : Seen → List Note
  before_seen seen = seen.before context listed

  abbrev of_notes : Notes → List Note
  of_notes notes = notes context listed

  pub int_is : (at : ℕ) (value : ℤ)
      → (see world answers (exprs.Int at value)).notes context listed ≡ []
  unfolding see
  int_is at value = ap of_seen (eq.fold_expr-Int steps at value)

  pub bool_is : (at : ℕ) (value : Bool)
      → (see world answers (exprs.Bool at value)).notes context listed ≡ []
  unfolding see
  bool_is at value = ap of_seen (eq.fold_expr-Bool steps at value)

  pub use_is : (name : Name)
      → (see world answers (exprs.Use name)).notes context listed
      ≡ word_notes world answers context name.at
  unfolding see
  use_is name = ap of_seen (eq.fold_expr-Use steps name)

  pub me_is : (at : ℕ)
      → (see world answers (exprs.Me at)).notes context listed ≡ me_notes world context at
  unfolding see
  me_is at = ap of_seen (eq.fold_expr-Me steps at)

  pub member_is : (base : Expr) (name : Name)
      → (see world answers (exprs.Member base name)).notes context listed
      ≡ (see world answers base).notes context listed
      ++ member_notes world answers (see world answers base) name.at context
  unfolding see
  member_is base name = ap of_seen (eq.fold_expr-Member steps base name)

  pub call_is : (name : Name) (args : List Arg)
      → (see world answers (exprs.Call name args)).notes context listed
      ≡ word_notes world answers context name.at ++ args_noted world answers args context listed
  unfolding see
  call_is name args = ap of_seen (eq.fold_expr-Call steps name args)

  pub method_is : (base : Expr) (name : Name) (args : List Arg)
      → (see world answers (exprs.Method base name args)).notes context listed
      ≡ (see world answers base).notes context listed
      ++ member_notes world answers (see world answers base) name.at context
      ++ args_noted world answers args context listed
  unfolding see
  method_is base name args = ap of_seen (eq.fold_expr-Method steps base name args)

  pub chain_is : (first : Expr) (rest : List Link)
      → (see world answers (exprs.Chain first rest)).notes context listed
      ≡ (see world answers first).notes context listed
      ++ links_noted world answers rest context listed
  unfolding see
  chain_is first rest = ap of_seen (eq.fold_expr-Chain steps first rest)

  pub prefix_is : (op : PrefixOp) (at : ℕ) (inner : Expr)
      → (see world answers (exprs.Prefix op at inner)).notes context listed
      ≡ (see world answers inner).notes context listed
  unfolding see
  prefix_is op at inner = ap of_seen (eq.fold_expr-Prefix steps op at inner)

  pub await_is : (at : ℕ) (inner : Expr)
      → (see world answers (exprs.Await at inner)).notes context listed
      ≡ (see world answers inner).notes (in_await context) listed
  unfolding see
  await_is at inner = ap of_seen (eq.fold_expr-Await steps at inner)

  pub fun_is : (closure : Closure)
      → (see world answers (exprs.Fun closure)).notes context listed
      ≡ fun_notes world answers (closure_seen world answers closure) context listed
  unfolding see
  fun_is closure = ap of_seen (eq.fold_expr-Fun steps closure)

  pub spawn_is : (at : ℕ) (detached : Bool) (body : Closure)
      → (see world answers (exprs.Spawn at detached body)).notes context listed
      ≡ task_notes world answers at detached (closure_seen world answers body) context listed
  unfolding see
  spawn_is at detached body = ap of_seen (eq.fold_expr-Spawn steps at detached body)

  pub yield_is : (at : ℕ)
      → (see world answers (exprs.Yield at)).notes context listed
      ≡ await_notes context at true
  unfolding see
  yield_is at = ap of_seen (eq.fold_expr-Yield steps at)

  pub use_before : (name : Name)
      → before_place world answers (exprs.Use name) context listed
      ≡ mention_notes world answers context name.at
  unfolding before_place see
  use_before name = ap before_seen (eq.fold_expr-Use steps name)

  pub me_before : (at : ℕ)
      → before_place world answers (exprs.Me at) context listed
      ≡ me_notes world context at
  unfolding before_place see
  me_before at = ap before_seen (eq.fold_expr-Me steps at)

  pub member_before : (base : Expr) (name : Name)
      → before_place world answers (exprs.Member base name) context listed
      ≡ (see world answers base).notes context listed
  unfolding before_place see
  member_before base name = ap before_seen (eq.fold_expr-Member steps base name)

  -- the assignment to a member of a place, by what the member is
  pub member_stores : (base : Expr) (name : Name) (at : ℕ)
      → (see world answers (exprs.Member base name)).stores context at
      ≡ store_notes context at (used_at world answers context
      (base_of answers (see world answers base).key (see world answers base).is_self) name.at)
      ((see world answers base).stores context at)
  unfolding see
  member_stores base name at =
      ap (λ (s : Seen). s.stores context at) (eq.fold_expr-Member steps base name)

  pub arg_is : (arg : Arg)
      → fold_arg (note_steps world answers) arg context listed
      ≡ (see world answers (out-Arg arg).value).notes context listed
  unfolding see
  arg_is arg = ap of_notes (eq.fold_arg-out steps arg)

  pub link_is : (link : Link)
      → (fold_link (note_steps world answers) link).operand context listed
      ≡ (see world answers (out-Link link).operand).notes context listed
  unfolding see
  link_is link = ap (λ (l : Linked). l.operand context listed) (eq.fold_link-out steps link)

  pub if_arm_is : (arm : IfArm)
      → if_arm_noted world answers arm context listed
      ≡ (see world answers (out-IfArm arm).cond).notes context listed
      ++ block_notes world answers (out-IfArm arm).body context listed
  unfolding see block_notes
  if_arm_is arm = ap of_notes (eq.fold_if_arm-out steps arm)

  pub case_arm_is : (arm : CaseArm)
      → fold_case_arm (note_steps world answers) arm context listed
      ≡ block_notes world answers (out-CaseArm arm).body context listed
  unfolding block_notes
  case_arm_is arm = ap of_notes (eq.fold_case_arm-out steps arm)

  pub block_is : (block : Block)
      → block_notes world answers block context listed
      ≡ stmts_noted world answers (out-Block block).stmts context listed
  unfolding block_notes
  block_is block = ap of_notes (eq.fold_block-out steps block)

  pub inside_is : (closure : Closure)
      → (closure_seen world answers closure).inside context listed
      ≡ closed world context (out-Closure closure).at
      (with_list world answers context listed (out-Closure closure).captures)
      (inner_notes world answers (out-Closure closure).captures
      (block_notes world answers (out-Closure closure).body) context listed)
  unfolding block_notes
  inside_is closure =
      ap (λ (w : NotedClosure). w.inside context listed) (eq.fold_closure-out steps closure)

  pub bind_is : (mutable : Bool) (name : Name) (ty : Option TypeTree) (value : Expr)
      → stmt_notes world answers (stmts.Bind mutable name ty value) context listed
      ≡ var_notes mutable name.at ++ (see world answers value).notes context listed
  unfolding see stmt_notes
  bind_is mutable name ty value = ap of_notes (eq.fold_stmt-Bind steps mutable name ty value)

  pub assign_is : (at : ℕ) (op : AssignOp) (place value : Expr)
      → stmt_notes world answers (stmts.Assign at op place value) context listed
      ≡ place_notes world answers op (see world answers place) context listed
      ++ (see world answers value).notes context listed
  unfolding see stmt_notes
  assign_is at op place value = ap of_notes (eq.fold_stmt-Assign steps at op place value)

  pub discard_is : (at : ℕ) (value : Expr)
      → stmt_notes world answers (stmts.Discard at value) context listed
      ≡ (see world answers value).notes context listed
  unfolding see stmt_notes
  discard_is at value = ap of_notes (eq.fold_stmt-Discard steps at value)

  pub if_is : (arms : List IfArm) (otherwise : Option Block)
      → stmt_notes world answers (stmts.If arms otherwise) context listed
      ≡ if_arms_noted world answers arms context listed
      ++ otherwise_noted world answers otherwise context listed
  unfolding stmt_notes
  if_is arms otherwise = ap of_notes (eq.fold_stmt-If steps arms otherwise)

  pub while_is : (at : ℕ) (cond : Expr) (body : Block)
      → stmt_notes world answers (stmts.While at cond body) context listed
      ≡ (see world answers cond).notes context listed
      ++ block_notes world answers body context listed
  unfolding see stmt_notes block_notes
  while_is at cond body = ap of_notes (eq.fold_stmt-While steps at cond body)

  pub switch_is : (at : ℕ) (subject : Expr) (arms : List CaseArm) (otherwise : Option Block)
      → stmt_notes world answers (stmts.Switch at subject arms otherwise) context listed
      ≡ (see world answers subject).notes context listed
      ++ case_arms_noted world answers arms context listed
      ++ otherwise_noted world answers otherwise context listed
  unfolding see stmt_notes
  switch_is at subject arms otherwise =
      ap of_notes (eq.fold_stmt-Switch steps at subject arms otherwise)

  pub return_void_is : (at : ℕ)
      → stmt_notes world answers (stmts.Return at None) context listed ≡ []
  unfolding stmt_notes
  return_void_is at = ap of_notes (eq.fold_stmt-Return steps at None)

  pub return_is : (at : ℕ) (value : Expr)
      → stmt_notes world answers (stmts.Return at (Some value)) context listed
      ≡ (see world answers value).notes context listed
  unfolding see stmt_notes
  return_is at value = ap of_notes (eq.fold_stmt-Return steps at (Some value))

  pub break_is : (at : ℕ)
      → stmt_notes world answers (stmts.Break at) context listed ≡ []
  unfolding stmt_notes
  break_is at = ap of_notes (eq.fold_stmt-Break steps at)

  pub continue_is : (at : ℕ)
      → stmt_notes world answers (stmts.Continue at) context listed ≡ []
  unfolding stmt_notes
  continue_is at = ap of_notes (eq.fold_stmt-Continue steps at)

  pub plain_is : (value : Expr)
      → stmt_notes world answers (stmts.Plain value) context listed
      ≡ (see world answers value).notes context listed
  unfolding see stmt_notes
  plain_is value = ap of_notes (eq.fold_stmt-Plain steps value)
