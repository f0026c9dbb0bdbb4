-- The key of an expression is one of the keys of its tree.
use Rattle.std.proofs.Common.{◌≡◌, ℕ, suc, ◌+◌, ◌≤◌, Bool, true, false, List}
use Rattle.std.proofs.Common.{[], ◌∷◌, map, nat_eq, Option}
use Rattle.std.proofs.Common.{Contains, refl, sym, subst, arith}
use Rattle.std.proofs.lemmas.Grind.{common_steps}
use Rattle.std.specs.List.{AllByRecursion}
use Rattle.sw_tree.proofs.Counting.{Weight, hits, hits_same, in_all, in_all-cons}
use Rattle.sw_tree.proofs.FoldEquations as equations
use Rattle.sw_tree.proofs.KeyCounts as counts
use Rattle.sw_tree.proofs.KeyCounts.{in_expr, in_closure, in_link}
use Rattle.sw_tree.proofs.TreeInduction.{Claims, Cases, every_expr}
use Rattle.sw_tree.specs.Folds.{fold_closure, fold_link}
use Rattle.sw_tree.specs.Keys.{expr_keys}
use Rattle.sw_tree.specs.NodeKey.{node_steps, last_or, expr_key}
use Rattle.sw_tree.specs.declared.expr.Closure.{Closure, roll-Closure}
use Rattle.sw_tree.specs.declared.expr.ClosureParam.{ClosureParam}
use Rattle.sw_tree.specs.declared.name.Name.{Name}
use Rattle.sw_tree.specs.declared.operator.InfixOp.{InfixOp}
use Rattle.sw_tree.specs.declared.stmt.Block.{Block}
use Rattle.sw_tree.specs.declared.type_tree.TypeTree.{TypeTree}
use Rattle.sw_tree.specs.declared.expr.Expr.{Expr}
use Rattle.sw_tree.specs.declared.expr.Link.{Link, roll-Link}

abbrev HasOwnKey : Expr → Type 0
HasOwnKey e = 1 ≤ in_expr e (expr_key e)

at_key : (e : Expr) (at : ℕ) → expr_key e ≡ at → 1 ≤ in_expr e at → HasOwnKey e
at_key e at is once = subst (λ k. 1 ≤ in_expr e k) (sym is) once

abbrev LinkHasKey : Link → Type 0
LinkHasKey link = 1 ≤ in_link link (fold_link node_steps link)

-- the key of the last link is counted in it, or else that of what stands before
last_counted : (w : Weight) (key : ℕ) (rest : List Link) → 1 ≤ w key
    → AllByRecursion LinkHasKey rest
    → 1 ≤ w (last_or key (map (fold_link node_steps) rest)) + in_all in_link rest
    (last_or key (map (fold_link node_steps) rest))
last_counted w key [] once all = omega arith
last_counted w key (link ∷ rest) once all =
    let key' = fold_link node_steps link in
    let k = last_or key' (map (fold_link node_steps) rest) in
    omega (
      arith,
      last_counted (in_link link) key' rest all.0 all.1,
      in_all-cons in_link link rest k,
    )

abbrev made_closure : ℕ → Option Name → List Name → List ClosureParam → Option TypeTree → Block
    → Closure
made_closure at mark captures params result body =
    roll-Closure (record {
      at = at;
      mark = mark;
      captures = captures;
      params = params;
      result = result;
      body = body;
    })

abbrev made_link : InfixOp → ℕ → Expr → Link
made_link op at operand = roll-Link (record { op = op; at = at; operand = operand })

abbrev claims : Claims
claims = record {
  expr = HasOwnKey;
  stmt = λ _. Unit {0};
  arg = λ _. Unit {0};
  closure = λ closure. 1 ≤ in_closure closure (fold_closure node_steps closure);
  link = LinkHasKey;
  block = λ _. Unit {0};
  case_arm = λ _. Unit {0};
  if_arm = λ _. Unit {0};
}

cases : Cases claims
unfolding expr_key
cases = record {
  int = λ at value. at_key _ at (equations.fold_expr-Int node_steps at value)
      (omega (arith, counts.in_expr-Int at value at, hits_same at));
  bool = λ at value. at_key _ at (equations.fold_expr-Bool node_steps at value)
      (omega (arith, counts.in_expr-Bool at value at, hits_same at));
  use_of = λ name. at_key _ name.at (equations.fold_expr-Use node_steps name)
      (omega (arith, counts.in_expr-Use name name.at, hits_same name.at));
  me = λ at. at_key _ at (equations.fold_expr-Me node_steps at)
      (omega (arith, counts.in_expr-Me at at, hits_same at));
  member = λ base name _. at_key _ name.at (equations.fold_expr-Member node_steps base name)
      (omega (arith, counts.in_expr-Member base name name.at, hits_same name.at));
  call = λ name args _. at_key _ name.at (equations.fold_expr-Call node_steps name args)
      (omega (arith, counts.in_expr-Call name args name.at, hits_same name.at));
  method = λ base name args _ _. at_key _ name.at
      (equations.fold_expr-Method node_steps base name args)
      (omega (arith, counts.in_expr-Method base name args name.at, hits_same name.at));
  chain = λ first rest once all.
      let k = last_or (expr_key first) (map (fold_link node_steps) rest) in
      at_key _ k (equations.fold_expr-Chain node_steps first rest)
      (omega (
        arith,
        counts.in_expr-Chain first rest k,
        last_counted (in_expr first) (expr_key first) rest once all,
      ));
  prefix = λ op at inner _. at_key _ at (equations.fold_expr-Prefix node_steps op at inner)
      (omega (arith, counts.in_expr-Prefix op at inner at, hits_same at));
  await = λ at inner _. at_key _ at (equations.fold_expr-Await node_steps at inner)
      (omega (arith, counts.in_expr-Await at inner at, hits_same at));
  fun = λ closure once. at_key _ _ (equations.fold_expr-Fun node_steps closure)
      (omega (arith, counts.in_expr-Fun closure (fold_closure node_steps closure), once));
  spawn = λ at detached body _. at_key _ at (equations.fold_expr-Spawn node_steps at detached body)
      (omega (arith, counts.in_expr-Spawn at detached body at, hits_same at));
  yield = λ at. at_key _ at (equations.fold_expr-Yield node_steps at)
      (omega (arith, counts.in_expr-Yield at at, hits_same at));
  bind = λ _ _ _ _ _. tt;
  assign = λ _ _ _ _ _ _. tt;
  discard = λ _ _ _. tt;
  if_of = λ _ _ _ _. tt;
  while_of = λ _ _ _ _ _. tt;
  switch = λ _ _ _ _ _ _ _. tt;
  return_of = λ _ _ _. tt;
  break_of = λ _. tt;
  continue_of = λ _. tt;
  plain = λ _ _. tt;
  arg = λ _ _ _. tt;
  closure = λ at mark captures params result body _.
      subst (λ k. 1 ≤ in_closure (made_closure at mark captures params result body) k)
      (sym (equations.fold_closure-roll node_steps at mark captures params result body))
      (omega (arith, counts.in_closure-roll at mark captures params result body at, hits_same at));
  link = λ op at operand _.
      subst (λ k. 1 ≤ in_link (made_link op at operand) k)
      (sym (equations.fold_link-roll node_steps op at operand))
      (omega (arith, counts.in_link-roll op at operand at, hits_same at));
  block = λ _ _. tt;
  case_arm = λ _ _ _ _. tt;
  if_arm = λ _ _ _ _ _. tt;
}

-- what is counted in a list is in it
Contains-count : (ats : List ℕ) (at : ℕ) → 1 ≤ in_all hits ats at → Contains ats at
unfolding in_all hits
Contains-count [] at once = absurd (omega arith)
Contains-count (first ∷ ats) at once =
    by (nat_eq first at) refl (λ more. Contains-count ats at more)
  where
    by : (b : Bool) → nat_eq first at ≡ b → (1 ≤ in_all hits ats at → Contains ats at)
        → Contains (first ∷ ats) at
    by true is rest = (0, omega arith, grind (arith, common_steps))
    by false is rest =
        let none : hits first at ≡ 0 = grind (arith, common_steps) in
        let more = rest (omega (arith, in_all-cons hits first ats at)) in
        (suc more.0, omega (arith, more.1), more.2)

pub own_key : (e : Expr) → Contains (expr_keys e) (expr_key e)
own_key e = Contains-count (expr_keys e) (expr_key e) (every_expr claims cases e)
