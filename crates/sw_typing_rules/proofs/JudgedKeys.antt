-- What is known of an expression has the expression's key.
use Rattle.std.proofs.Common.{◌≡◌, ℕ, Bool, List, Option, None, Some, map, ap, sym, refl, ◌∙◌}
use Rattle.sw_tree.proofs.FoldEquations as eq
use Rattle.sw_tree.specs.Folds.{fold_expr, fold_closure, fold_link}
use Rattle.sw_tree.specs.NodeKey.{expr_key, node_steps, last_or}
use Rattle.sw_tree.specs.declared.expr.Closure.{Closure}
use Rattle.sw_tree.specs.declared.expr.Expr.{Expr}
use Rattle.sw_tree.specs.declared.expr.Link.{Link}
use Rattle.sw_tree.specs.declared.name.Name.{Name}
use Rattle.sw_types.specs.declared.ty.Ty.{Ty}
use Rattle.sw_typing_rules.specs.Expressions.{Judged, Closed, infix_judged, member_by, value_member}
use Rattle.sw_typing_rules.specs.Judges as is
use Rattle.sw_typing_rules.specs.Words.{Setting}
use Rattle.sw_typing_rules.specs.Worlds.{World}

module _ (world : World) where
  value_key : (base : Judged) (ty : Option Ty) (name : Name)
      → (value_member world base ty name).key ≡ name.at
  value_key base None name = refl
  value_key base (Some ty) name = refl

  member_key : (base : Judged) (enum : Option ℕ) (name : Name)
      → (member_by world base enum name).key ≡ name.at
  member_key base None name = value_key base base.ty name
  member_key base (Some shape) name = refl

  links_key : (s : Setting) (left : Judged) (links : List Link) (j : Judged)
      → is.Links world s left links j
      → j.key ≡ last_or left.key (map (fold_link node_steps) links)
  links_key s left links j (is.no_link _ _) = refl
  links_key s left links j (is.one_link _ _ op at operand more right _ d rest) =
      links_key s (infix_judged op at left right) more j rest
      ∙ ap (λ key. last_or key (map (fold_link node_steps) more))
      (sym (eq.fold_link-roll node_steps op at operand))

  closure_key : (s : Setting) (closure : Closure) (c : Closed) → is.Closes world s closure c
      → c.at ≡ fold_closure node_steps closure
  closure_key s closure c (is.closes _ at mark captures params result body left d) =
      sym (eq.fold_closure-roll node_steps at mark captures params result body)

  own_key : (s : Setting) (m : Bool) (e : Expr) (j : Judged) → is.Judges world s m e j
      → j.key ≡ fold_expr node_steps e
  own_key s m e j (is.int _ _ at value) = sym (eq.fold_expr-Int node_steps at value)
  own_key s m e j (is.bool _ _ at value) = sym (eq.fold_expr-Bool node_steps at value)
  own_key s m e j (is.word _ _ name) = sym (eq.fold_expr-Use node_steps name)
  own_key s m e j (is.me _ _ at) = sym (eq.fold_expr-Me node_steps at)
  own_key s m e j (is.member _ _ base name judged d) =
      member_key judged judged.enum name ∙ sym (eq.fold_expr-Member node_steps base name)
  own_key s m e j (is.call _ _ name args passed d) = sym (eq.fold_expr-Call node_steps name args)
  own_key s m e j (is.method _ _ base name args judged passed of_base d) =
      sym (eq.fold_expr-Method node_steps base name args)
  own_key s m e j (is.chain _ _ first rest left _ of_first d) =
      links_key s left rest j d
      ∙ ap (λ key. last_or key (map (fold_link node_steps) rest)) (own_key s _ first left of_first)
      ∙ sym (eq.fold_expr-Chain node_steps first rest)
  own_key s m e j (is.prefix _ _ op at inner judged d) =
      sym (eq.fold_expr-Prefix node_steps op at inner)
  own_key s m e j (is.await _ _ at inner judged d) = sym (eq.fold_expr-Await node_steps at inner)
  own_key s m e j (is.fun _ _ closure closed d) =
      closure_key s closure closed d ∙ sym (eq.fold_expr-Fun node_steps closure)
  own_key s m e j (is.spawn _ _ at detached body closed d) =
      sym (eq.fold_expr-Spawn node_steps at detached body)
  own_key s m e j (is.yield _ _ at) = sym (eq.fold_expr-Yield node_steps at)

  pub judged_key : (s : Setting) (m : Bool) (e : Expr) (j : Judged) → is.Judges world s m e j
      → j.key ≡ expr_key e
  unfolding expr_key
  judged_key = own_key
