-- What the nodes of a tree weigh: each its keys, and what is wrong with its scopes.
use Rattle.std.proofs.Common.{◌≡◌, ℕ, ◌+◌, not, List, [], ◌∷◌, map, ap}
use Rattle.sw_tree.proofs.Counting.{Weight, hits, in_all}
use Rattle.sw_tree.proofs.KeyCounts as counts
use Rattle.sw_tree.specs.Folds.{fold_arg, fold_block, fold_case_arm, fold_closure, fold_expr}
use Rattle.sw_tree.specs.Folds.{fold_if_arm, fold_link, fold_stmt}
use Rattle.sw_tree.specs.Scopes.{Scoped, Stated, decl_pairs, declaring, func_pairs, init_pairs}
use Rattle.sw_tree.specs.Scopes.{pattern_names, prop_pairs, scope_steps, sequence}
use Rattle.sw_tree.specs.declared.decl.Decl.{Decl}
use Rattle.sw_tree.specs.declared.decl.FuncTree.{FuncTree}
use Rattle.sw_tree.specs.declared.decl.InitTree.{InitTree}
use Rattle.sw_tree.specs.declared.decl.ParamTree.{ParamTree}
use Rattle.sw_tree.specs.declared.decl.PropTree.{PropTree}
use Rattle.sw_tree.specs.declared.expr.Arg.{Arg}
use Rattle.sw_tree.specs.declared.expr.Closure.{Closure}
use Rattle.sw_tree.specs.declared.expr.ClosureParam.{ClosureParam}
use Rattle.sw_tree.specs.declared.expr.Expr.{Expr}
use Rattle.sw_tree.specs.declared.expr.Link.{Link}
use Rattle.sw_tree.specs.declared.name.Name.{Name}
use Rattle.sw_tree.specs.declared.stmt.Block.{Block}
use Rattle.sw_tree.specs.declared.stmt.CaseArm.{CaseArm}
use Rattle.sw_tree.specs.declared.stmt.IfArm.{IfArm}
use Rattle.sw_tree.specs.declared.stmt.Pattern.{Pattern}
use Rattle.sw_tree.specs.declared.stmt.Stmt.{Stmt}
use Rattle.sw_grammar.specs.Nests.{ClosureInside}
use Rattle.sw_grammar_facts.proofs.Scopes.Weights.{names_hit, one_unless, pairs_fault, weigh}
use Rattle.sw_grammar_facts.proofs.Scopes.Ids.{is_whole}

abbrev pub place : ℕ → Weight
place at k = hits at k + hits at k

abbrev pub stated_of : List Stmt → List Stated
stated_of body = map (fold_stmt scope_steps) body

abbrev pub closure_param : ClosureParam → Weight
closure_param x k = counts.in_closure_param x k + hits x.name.at k

abbrev pub params_names : List ClosureParam → List Name
params_names params = map (λ (param : ClosureParam). param.name) params

-- what stands in a closure, after its parameters
abbrev pub inner : ClosureInside → Scoped
inner it = declaring (params_names it.params) it.captures (sequence (stated_of it.body))

abbrev pub param : ParamTree → Weight
param x k = counts.in_param x k + hits x.name.at k

abbrev pub func : FuncTree → Weight
func x k = counts.in_func x k + pairs_fault (func_pairs x)

abbrev pub prop : PropTree → Weight
prop x k = counts.in_prop x k + pairs_fault (prop_pairs x)

abbrev pub init : InitTree → Weight
init x k = counts.in_init x k + pairs_fault (init_pairs x)

abbrev pub decl : Decl → Weight
decl x k = counts.in_decl x k + pairs_fault (decl_pairs x)

module _ (texts : List (List ℕ)) where
  -- The weights.

  -- one where a name has the id of a (is_whole texts)
  abbrev pub wrong : Name → Weight
  wrong name k = one_unless (not (is_whole texts name.id))

  abbrev pub node : Name → Weight
  node name k = place name.at k + wrong name k

  abbrev pub of_scope : Scoped → Weight
  of_scope = weigh (is_whole texts)

  pub same_scope : {a b : Scoped} → a ≡ b → (k : ℕ) → of_scope a k ≡ of_scope b k
  same_scope same k = ap (λ scoped. of_scope scoped k) same

  abbrev pub expr_scope : Expr → Weight
  expr_scope x = of_scope (fold_expr scope_steps x)

  abbrev pub expr : Expr → Weight
  expr x k = counts.in_expr x k + expr_scope x k

  abbrev pub arg_scope : Arg → Weight
  arg_scope x = of_scope (fold_arg scope_steps x)

  abbrev pub arg : Arg → Weight
  arg x k = counts.in_arg x k + arg_scope x k

  abbrev pub closure : Closure → Weight
  closure x k = counts.in_closure x k + of_scope (fold_closure scope_steps x) k

  abbrev pub link_scope : Link → Weight
  link_scope x = of_scope (fold_link scope_steps x)

  abbrev pub link : Link → Weight
  link x k = counts.in_link x k + link_scope x k

  abbrev pub block_scope : Block → Weight
  block_scope x = of_scope (fold_block scope_steps x)

  abbrev pub block : Block → Weight
  block x k = counts.in_block x k + block_scope x k

  abbrev pub stmts : List Stmt → Weight
  stmts body k = in_all counts.in_stmt body k + of_scope (sequence (stated_of body)) k

  abbrev pub stmt : Stmt → Weight
  stmt x k = counts.in_stmt x k + of_scope (sequence (fold_stmt scope_steps x ∷ [])) k

  abbrev pub arm_scope : CaseArm → Weight
  arm_scope x = of_scope (fold_case_arm scope_steps x)

  abbrev pub case_arm : CaseArm → Weight
  case_arm x k = counts.in_case_arm x k + arm_scope x k

  abbrev pub if_arm_scope : IfArm → Weight
  if_arm_scope x = of_scope (fold_if_arm scope_steps x)

  abbrev pub if_arm : IfArm → Weight
  if_arm x k = counts.in_if_arm x k + if_arm_scope x k

  abbrev pub pattern : Pattern → Weight
  pattern x k = counts.in_pattern x k + names_hit (is_whole texts) (pattern_names x) k

  abbrev pub inside : ClosureInside → Weight
  inside it k =
      in_all counts.in_name it.captures k + in_all wrong it.captures k
      + in_all counts.in_closure_param it.params k + in_all counts.in_stmt it.body k
      + of_scope (inner it) k

  abbrev pub for_block : Name → Block → Weight
  for_block name body k =
      hits name.at k + counts.in_block body k
      + of_scope (declaring (name ∷ []) [] (fold_block scope_steps body)) k
