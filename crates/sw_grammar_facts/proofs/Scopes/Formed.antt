-- What expressions weigh, and statements that declare nothing.
use Rattle.std.proofs.Common.{◌≡◌, ℕ, ◌+◌, ◌≤◌, Bool, false, not, List, [], ◌∷◌, map, Option}
use Rattle.std.proofs.Common.{option_map, refl, sym, ap, ◌∙◌, arith}
use Rattle.sw_tree.proofs.Counting.{hits, in_all, in_all-nil, in_option}
use Rattle.sw_tree.proofs.FoldEquations as eq
use Rattle.sw_tree.proofs.KeyCounts as counts
use Rattle.sw_tree.specs.Folds.{fold_arg, fold_block, fold_case_arm, fold_expr, fold_if_arm}
use Rattle.sw_tree.specs.Folds.{fold_link, fold_stmt}
use Rattle.sw_tree.specs.Names.{value_id}
use Rattle.sw_tree.specs.Scopes.{Scoped, Stated, both, each, maybe, scope_steps, sequence, stated}
use Rattle.sw_tree.specs.declared.expr.Arg.{Arg, roll-Arg}
use Rattle.sw_tree.specs.declared.expr.Expr.{Expr}
use Rattle.sw_tree.specs.declared.expr.Expr.TheVariants as exprs
use Rattle.sw_tree.specs.declared.name.Name.{Name}
use Rattle.sw_tree.specs.declared.stmt.Block.{Block}
use Rattle.sw_tree.specs.declared.stmt.CaseArm.{CaseArm}
use Rattle.sw_tree.specs.declared.stmt.IfArm.{IfArm}
use Rattle.sw_tree.specs.declared.stmt.Stmt.{Stmt}
use Rattle.sw_sugar.specs.Optionals.{name_at, use_at}
use Rattle.sw_sugar.specs.Tasks.{of_task}
use Rattle.sw_grammar_facts.proofs.TaskWeights.{Carried, carried}
use Rattle.sw_grammar_facts.proofs.Scopes.Weights.{one_unless, weigh}
use Rattle.sw_grammar_facts.proofs.Scopes.Weights as scopes
use Rattle.sw_grammar_facts.proofs.Scopes.Ids.{is_whole}
use Rattle.sw_grammar_facts.proofs.Scopes.Parts.{in_all-sum}
use Rattle.sw_grammar_facts.proofs.Scopes.Nodes.{arg, arg_scope, arm_scope, block_scope, expr}
use Rattle.sw_grammar_facts.proofs.Scopes.Nodes.{expr_scope, if_arm_scope, of_scope, same_scope}
use Rattle.sw_grammar_facts.proofs.Scopes.Nodes.{wrong}

abbrev pub switch_scoped : Expr → List CaseArm → Option Block → Scoped
switch_scoped subject arms otherwise =
    both (both (fold_expr scope_steps subject) (each (map (fold_case_arm scope_steps) arms)))
    (maybe (option_map (fold_block scope_steps) otherwise))

-- what an `await` awaits has the scope of its expression
task_carried : (at : ℕ)
    → Carried at (λ made tree. fold_expr scope_steps made ≡ fold_expr scope_steps tree)
task_carried at = record {
  same = λ tree. refl;
  task = λ name.
      eq.fold_expr-Member scope_steps (use_at at name.id) (name_at name.at value_id)
      ∙ eq.fold_expr-Use scope_steps (name_at at name.id)
      ∙ sym (eq.fold_expr-Use scope_steps name);
  member = λ made tree name is.
      eq.fold_expr-Member scope_steps made name ∙ is
      ∙ sym (eq.fold_expr-Member scope_steps tree name);
  method = λ made tree name args is.
      eq.fold_expr-Method scope_steps made name args
      ∙ ap (λ scoped. both scoped (each (map (fold_arg scope_steps) args))) is
      ∙ sym (eq.fold_expr-Method scope_steps tree name args);
  chain = λ made tree rest is.
      eq.fold_expr-Chain scope_steps made rest
      ∙ ap (λ scoped. both scoped (each (map (fold_link scope_steps) rest))) is
      ∙ sym (eq.fold_expr-Chain scope_steps tree rest);
  prefix = λ op at made tree is.
      eq.fold_expr-Prefix scope_steps op at made ∙ is
      ∙ sym (eq.fold_expr-Prefix scope_steps op at tree);
}

pub task_scope : (tasks : List ℕ) (at : ℕ) (tree : Expr)
    → fold_expr scope_steps (of_task tasks at tree) ≡ fold_expr scope_steps tree
task_scope tasks at tree =
    carried tasks at (λ made tree. fold_expr scope_steps made ≡ fold_expr scope_steps tree)
    (task_carried at) tree

module _ (texts : List (List ℕ)) where
  -- Laws of expressions.

  -- a use of a name
  pub use_weighs : (name : Name) (k : ℕ) → expr_scope texts (exprs.Use name) k ≤ wrong texts name k
  use_weighs name k =
      omega (
        arith,
        same_scope texts (eq.fold_expr-Use scope_steps name) k,
        scopes.weigh_using (is_whole texts) name k,
      )

  pub wrong_none : (name : Name) → is_whole texts name.id ≡ false → (k : ℕ) → wrong texts name k ≡ 0
  wrong_none name is k = ap (λ (b : Bool). one_unless (not b)) is

  pub args_weigh : (base : Scoped) (args : List Arg) (k : ℕ)
      → of_scope texts (both base (each (map (fold_arg scope_steps) args))) k
      ≤ of_scope texts base k + in_all (arg_scope texts) args k
  args_weigh base args k =
      omega (
        arith,
        scopes.weigh_both (is_whole texts) base (each (map (fold_arg scope_steps) args)) k,
        scopes.weigh_each (is_whole texts) (fold_arg scope_steps) args k,
      )

  pub method_weighs : (base : Expr) (name : Name) (args : List Arg) (k : ℕ)
      → expr texts (exprs.Method base name args) k ≤ hits name.at k + expr texts base k + in_all (arg texts) args k
  method_weighs base name args k =
      omega (
        arith,
        counts.in_expr-Method base name args k,
        same_scope texts (eq.fold_expr-Method scope_steps base name args) k,
        args_weigh (fold_expr scope_steps base) args k,
        in_all-sum counts.in_arg (arg_scope texts) args k,
      )

  pub arg_weighs : (label : Option Name) (value : Expr) (k : ℕ)
      → arg texts (roll-Arg (record { label = label; value = value })) k ≡ expr texts value k
  arg_weighs label value k =
      omega (
        arith,
        counts.in_arg-roll label value k,
        same_scope texts (eq.fold_arg-roll scope_steps label value) k,
      )

  -- a statement that declares nothing
  pub plain_weighs : (x : Stmt) (scoped : Scoped) → fold_stmt scope_steps x ≡ stated scoped → (k : ℕ)
      → of_scope texts (sequence (fold_stmt scope_steps x ∷ [])) k ≤ of_scope texts scoped k
  plain_weighs x scoped is k =
      omega (
        arith,
        same_scope texts (ap (λ (one : Stated). sequence (one ∷ [])) is) k,
        scopes.weigh_stated (is_whole texts) (stated scoped) k,
        in_all-nil (λ (name : Name). hits name.at) k,
      )

  pub if_parts : (arms : List IfArm) (otherwise : Option Block) (k : ℕ)
      → of_scope texts (both (each (map (fold_if_arm scope_steps) arms))
      (maybe (option_map (fold_block scope_steps) otherwise))) k
      ≤ in_all (if_arm_scope texts) arms k + in_option (block_scope texts) otherwise k
  if_parts arms otherwise k =
      omega (
        arith,
        scopes.weigh_both (is_whole texts) (each (map (fold_if_arm scope_steps) arms))
            (maybe (option_map (fold_block scope_steps) otherwise)) k,
        scopes.weigh_each (is_whole texts) (fold_if_arm scope_steps) arms k,
        scopes.weigh_maybe (is_whole texts) (fold_block scope_steps) otherwise k,
      )

  pub switch_parts : (subject : Expr) (arms : List CaseArm) (otherwise : Option Block) (k : ℕ)
      → of_scope texts (switch_scoped subject arms otherwise) k
      ≤ expr_scope texts subject k + in_all (arm_scope texts) arms k + in_option (block_scope texts) otherwise k
  switch_parts subject arms otherwise k =
      let all = each (map (fold_case_arm scope_steps) arms) in
      omega (
        arith,
        scopes.weigh_both (is_whole texts) (both (fold_expr scope_steps subject) all)
            (maybe (option_map (fold_block scope_steps) otherwise)) k,
        scopes.weigh_both (is_whole texts) (fold_expr scope_steps subject) all k,
        scopes.weigh_each (is_whole texts) (fold_case_arm scope_steps) arms k,
        scopes.weigh_maybe (is_whole texts) (fold_block scope_steps) otherwise k,
      )
