-- An expression or a block has nothing unwritten where no task in it has a parameter and each chain
-- in it has an operator.
use Rattle.std.proofs.Common.{◌≡◌, ◌≢◌, List, [], ◌∷◌, map, refl, sym, ap, subst, ◌∙◌}
use mathlib.Core.List.{append-eq-nil_iff}
use Rattle.sw_tree.proofs.TreeInduction.{Claims, Cases, every_expr, every_block}
use Rattle.sw_tree.specs.declared.expr.Expr.{Expr}
use Rattle.sw_tree.specs.declared.expr.Expr.TheVariants as exprs
use Rattle.sw_tree.specs.declared.expr.Link.{Link}
use Rattle.sw_tree.specs.declared.stmt.Block.{Block}
use Rattle.sw_tree.specs.declared.stmt.Stmt.TheVariants as stmts
use Rattle.sw_tree_facts.proofs.LackingParts.{IsEnough, by_part, parts_joined, part_given}
use Rattle.sw_tree_facts.proofs.UnwrittenEquations as unwritten
use Rattle.sw_tree_facts.proofs.UnwrittenEquations.{stmt_unwritten, arg_unwritten}
use Rattle.sw_tree_facts.proofs.UnwrittenEquations.{closure_unwritten, link_unwritten}
use Rattle.sw_tree_facts.proofs.UnwrittenEquations.{case_arm_unwritten, if_arm_unwritten}
use Rattle.sw_tree_facts.specs.Parts.{of_expr, of_stmt, of_arg, of_closure, of_link, of_block}
use Rattle.sw_tree_facts.specs.Parts.{of_case_arm, of_if_arm, IsPart}
use Rattle.sw_tree_facts.specs.Parts as parts
use Rattle.sw_tree_facts.specs.Unwritten.{bare}

abbrev claims : Claims
claims = record {
  expr = λ x. IsEnough (of_expr x);
  stmt = λ x. IsEnough (of_stmt x);
  arg = λ x. IsEnough (of_arg x);
  closure = λ x. IsEnough (of_closure x);
  link = λ x. IsEnough (of_link x);
  block = λ x. IsEnough (of_block x);
  case_arm = λ x. IsEnough (of_case_arm x);
  if_arm = λ x. IsEnough (of_if_arm x);
}

bare_none : (links : List Link) → links ≢ [] → bare (map link_unwritten links) ≡ []
bare_none [] some = absurd (some refl)
bare_none (link ∷ more) some = refl

cases : Cases claims
cases = record {
  int = λ at value lacks. unwritten.expr_unwritten-Int at value;
  bool = λ at value lacks. unwritten.expr_unwritten-Bool at value;
  use_of = λ name lacks. unwritten.expr_unwritten-Use name;
  me = λ at lacks. unwritten.expr_unwritten-Me at;
  member = λ base name of_base lacks.
      unwritten.expr_unwritten-Member base name
      ∙ by_part of_base (parts.member_base base name) lacks;
  call = λ name args of_args lacks.
      unwritten.expr_unwritten-Call name args
      ∙ parts_joined of_arg args of_args (parts.call_arg name args) lacks;
  method = λ base name args of_base of_args lacks.
      unwritten.expr_unwritten-Method base name args
      ∙ append-eq-nil_iff.1 (
        by_part of_base (parts.method_base base name args) lacks,
        parts_joined of_arg args of_args (parts.method_arg base name args) lacks,
      );
  chain = λ first rest of_first of_rest lacks.
      unwritten.expr_unwritten-Chain first rest
      ∙ append-eq-nil_iff.1 (
        append-eq-nil_iff.1 (
          by_part of_first (parts.chain_first first rest) lacks,
          parts_joined of_link rest of_rest (parts.chain_link first rest) lacks,
        ),
        bare_none rest (lacks.1 first rest (parts.itself (of_expr (exprs.Chain first rest)))),
      );
  prefix = λ op at inner of_inner lacks.
      unwritten.expr_unwritten-Prefix op at inner
      ∙ by_part of_inner (parts.prefix_inner op at inner) lacks;
  await = λ at inner of_inner lacks.
      unwritten.expr_unwritten-Await at inner
      ∙ by_part of_inner (parts.await_inner at inner) lacks;
  fun = λ closure enough lacks.
      unwritten.expr_unwritten-Fun closure ∙ by_part enough (parts.fun_closure closure) lacks;
  spawn = λ at detached body of_body lacks.
      unwritten.expr_unwritten-Spawn at detached body
      ∙ append-eq-nil_iff.1 (
        ap (map (λ param. param.name.at))
            (lacks.0 at detached body (parts.itself (of_expr (exprs.Spawn at detached body)))),
        by_part of_body (parts.spawn_body at detached body) lacks,
      );
  yield = λ at lacks. unwritten.expr_unwritten-Yield at;
  bind = λ mutable name ty value of_value lacks.
      unwritten.stmt_unwritten-Bind mutable name ty value
      ∙ by_part of_value (parts.bind_value mutable name ty value) lacks;
  assign = λ at op place value of_place of_value lacks.
      unwritten.stmt_unwritten-Assign at op place value
      ∙ append-eq-nil_iff.1 (
        by_part of_place (parts.assign_place at op place value) lacks,
        by_part of_value (parts.assign_value at op place value) lacks,
      );
  discard = λ at value of_value lacks.
      unwritten.stmt_unwritten-Discard at value
      ∙ by_part of_value (parts.discard_value at value) lacks;
  if_of = λ arms otherwise of_arms of_otherwise lacks.
      unwritten.stmt_unwritten-If arms otherwise
      ∙ append-eq-nil_iff.1 (
        parts_joined of_if_arm arms of_arms (parts.if_one arms otherwise) lacks,
        part_given of_block otherwise of_otherwise
            (λ block is. subst (λ given. IsPart (of_block block) (of_stmt (stmts.If arms given)))
            (sym is) (parts.if_otherwise arms block)) lacks,
      );
  while_of = λ at cond body of_cond of_body lacks.
      unwritten.stmt_unwritten-While at cond body
      ∙ append-eq-nil_iff.1 (
        by_part of_cond (parts.while_cond at cond body) lacks,
        by_part of_body (parts.while_body at cond body) lacks,
      );
  switch = λ at subject arms otherwise of_subject of_arms of_otherwise lacks.
      unwritten.stmt_unwritten-Switch at subject arms otherwise
      ∙ append-eq-nil_iff.1 (
        append-eq-nil_iff.1 (
          by_part of_subject (parts.switch_subject at subject arms otherwise) lacks,
          parts_joined of_case_arm arms of_arms (parts.switch_one at subject arms otherwise) lacks,
        ),
        part_given of_block otherwise of_otherwise
            (λ block is. subst (λ given. IsPart (of_block block)
            (of_stmt (stmts.Switch at subject arms given)))
            (sym is) (parts.switch_otherwise at subject arms block)) lacks,
      );
  return_of = λ at value of_value lacks.
      unwritten.stmt_unwritten-Return at value
      ∙ part_given of_expr value of_value
      (λ expr is. subst (λ given. IsPart (of_expr expr) (of_stmt (stmts.Return at given)))
      (sym is) (parts.return_value at expr)) lacks;
  break_of = λ at lacks. unwritten.stmt_unwritten-Break at;
  continue_of = λ at lacks. unwritten.stmt_unwritten-Continue at;
  plain = λ value of_value lacks.
      unwritten.stmt_unwritten-Plain value ∙ by_part of_value (parts.plain_value value) lacks;
  arg = λ label value of_value lacks.
      unwritten.arg_unwritten-roll label value
      ∙ by_part of_value (parts.arg_value label value) lacks;
  closure = λ at mark captures params result body of_body lacks.
      unwritten.closure_unwritten-roll at mark captures params result body
      ∙ by_part of_body (parts.closure_body at mark captures params result body) lacks;
  link = λ op at operand of_operand lacks.
      unwritten.link_unwritten-roll op at operand
      ∙ by_part of_operand (parts.link_operand op at operand) lacks;
  block = λ stmts of_stmts lacks.
      unwritten.block_unwritten-roll stmts
      ∙ parts_joined of_stmt stmts of_stmts (parts.block_stmt stmts) lacks;
  case_arm = λ name patterns body of_body lacks.
      unwritten.case_arm_unwritten-roll name patterns body
      ∙ by_part of_body (parts.case_arm_body name patterns body) lacks;
  if_arm = λ at cond body of_cond of_body lacks.
      unwritten.if_arm_unwritten-roll at cond body
      ∙ append-eq-nil_iff.1 (
        by_part of_cond (parts.if_arm_cond at cond body) lacks,
        by_part of_body (parts.if_arm_body at cond body) lacks,
      );
}

pub expr_lacks : (expr : Expr) → IsEnough (of_expr expr)
expr_lacks = every_expr claims cases

pub block_lacks : (block : Block) → IsEnough (of_block block)
block_lacks = every_block claims cases
