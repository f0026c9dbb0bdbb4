-- Places have no size, whether they are read or assigned to.
use Rattle.std.proofs.Common.{◌≡◌, ◌+◌, Bool, true, false, IsTrue, sym, subst, ap, ◌∙◌}
use Rattle.sw_tree.specs.Folds.{fold_expr}
use Rattle.sw_tree.specs.Place.{is_place, place_steps}
use Rattle.sw_tree.specs.declared.expr.Expr.{Expr}
use Rattle.sw_tree.specs.declared.expr.Expr.TheVariants as exprs
use Rattle.sw_tree.proofs.FoldEquations as eq
use Rattle.sw_tree.proofs.TreeInduction.{Cases, Claims, every_expr}
use Rattle.sw_tree_facts.specs.Sizes.{ExprSize, expr_size, read_alone, size_steps}

abbrev IsSizeless : Expr → Type 0
IsSizeless x = IsTrue (fold_expr place_steps x) → fold_expr size_steps x ≡ read_alone 0

abbrev claims : Claims
claims = record {
  expr = IsSizeless;
  stmt = λ x. Unit {0};
  arg = λ x. Unit {0};
  closure = λ x. Unit {0};
  link = λ x. Unit {0};
  block = λ x. Unit {0};
  case_arm = λ x. Unit {0};
  if_arm = λ x. Unit {0};
}

-- what is no place
no_place : (x : Expr) → fold_expr place_steps x ≡ false → IsSizeless x
no_place x none is = absurd (cc (none, is))

-- a member of a place
member : (place : Bool) (size : ExprSize) → (IsTrue place → size ≡ read_alone 0) → IsTrue place
    → record { read = size.read; write = size.read + size.write } ≡ read_alone 0
member place size base is =
    ap (λ (base : ExprSize). record { read = base.read; write = base.read + base.write }) (base is)

cases : Cases claims
cases = record {
  int = λ at value. no_place _ (eq.fold_expr-Int place_steps at value);
  bool = λ at value. no_place _ (eq.fold_expr-Bool place_steps at value);
  use_of = λ name is. eq.fold_expr-Use size_steps name;
  me = λ at is. eq.fold_expr-Me size_steps at;
  member = λ base name of_base is.
      eq.fold_expr-Member size_steps base name
      ∙ member (fold_expr place_steps base) (fold_expr size_steps base) of_base
      (subst IsTrue (eq.fold_expr-Member place_steps base name) is);
  call = λ name args all. no_place _ (eq.fold_expr-Call place_steps name args);
  method = λ base name args of_base all.
      no_place _ (eq.fold_expr-Method place_steps base name args);
  chain = λ first rest of_first all. no_place _ (eq.fold_expr-Chain place_steps first rest);
  prefix = λ op at inner of_inner. no_place _ (eq.fold_expr-Prefix place_steps op at inner);
  await = λ at inner of_inner. no_place _ (eq.fold_expr-Await place_steps at inner);
  fun = λ closure inside. no_place _ (eq.fold_expr-Fun place_steps closure);
  spawn = λ at detached body inside.
      no_place _ (eq.fold_expr-Spawn place_steps at detached body);
  yield = λ at. no_place _ (eq.fold_expr-Yield place_steps at);
  bind = λ mutable name ty value of_value. tt;
  assign = λ at op place value of_place of_value. tt;
  discard = λ at value of_value. tt;
  if_of = λ arms otherwise all last. tt;
  while_of = λ at cond body of_cond of_body. tt;
  switch = λ at subject arms otherwise of_subject all last. tt;
  return_of = λ at value given. tt;
  break_of = λ at. tt;
  continue_of = λ at. tt;
  plain = λ value of_value. tt;
  arg = λ label value of_value. tt;
  closure = λ at mark captures params result body of_body. tt;
  link = λ op at operand of_operand. tt;
  block = λ stmts all. tt;
  case_arm = λ name patterns body of_body. tt;
  if_arm = λ at cond body of_cond of_body. tt;
}

pub places_have_no_size : (expr : Expr) → IsTrue (is_place expr) → expr_size expr ≡ read_alone 0
unfolding expr_size is_place
places_have_no_size expr = every_expr claims cases expr
