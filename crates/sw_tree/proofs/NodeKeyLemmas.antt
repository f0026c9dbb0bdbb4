-- The key of a chain.
use Rattle.std.proofs.Common.{◌≡◌, ℕ, zero, suc, ◌-◌, ◌<◌, List, [], ◌∷◌, map, length, get_or}
use Rattle.std.proofs.Common.{slice_get, Some, None, is_none, true≢false, refl, sym, ap, ◌∙◌, arith}
use Rattle.std.proofs.lemmas.Option.{slice_get-get_or}
use Rattle.sw_tree.proofs.FoldEquations.{fold_expr-Chain, fold_link-out}
use Rattle.sw_tree.specs.Folds.{fold_link}
use Rattle.sw_tree.specs.NodeKey.{node_steps, last_or, expr_key}
use Rattle.sw_tree.specs.declared.expr.Expr.{Expr}
use Rattle.sw_tree.specs.declared.expr.Expr.TheVariants as exprs
use Rattle.sw_tree.specs.declared.expr.Link.{Link, out-Link}

last_or-map : {X : Type 0} (f : X → ℕ) (d : ℕ) (xs : List X) (index : ℕ) (x : X)
    → length xs ≡ suc index → last_or d (map f xs) ≡ f (get_or xs index x)
last_or-map f d [] index x is = absurd (omega arith)
last_or-map f d (y ∷ []) zero x is = refl
last_or-map f d (y ∷ []) (suc index) x is = absurd (omega arith)
last_or-map f d (y ∷ z ∷ zs) zero x is = absurd (omega arith)
last_or-map f d (y ∷ z ∷ zs) (suc index) x is = last_or-map f (f y) (z ∷ zs) index x (omega arith)

-- a chain with a last link has the key of its operator
pub key-last : (whole first : Expr) (rest links : List Link) (link : Link)
    → whole ≡ exprs.Chain first rest
    → links ≡ rest → 0 < length links → link ≡ get_or links (length links - 1) link
    → (out-Link link).at ≡ expr_key whole
unfolding expr_key
key-last whole first rest links link is same some last =
    let at : last_or (expr_key first) (map (fold_link node_steps) links) ≡ fold_link node_steps
    (get_or links (length links - 1) link) =
    last_or-map (fold_link node_steps) (expr_key first) links (length links - 1) link
    (omega arith) in
    sym (ap expr_key is ∙ fold_expr-Chain node_steps first rest
    ∙ ap (λ l. last_or (expr_key first) (map (fold_link node_steps) l)) (sym same) ∙ at
    ∙ ap (fold_link node_steps) (sym last) ∙ fold_link-out node_steps link)

-- and one without links that of its first operand
pub key-alone : (whole first : Expr) (rest links : List Link) → whole ≡ exprs.Chain first rest
    → links ≡ rest → None ≡ slice_get links (length links - 1) → expr_key first ≡ expr_key whole
unfolding expr_key
key-alone whole first rest [] is same none =
    sym (ap expr_key is ∙ fold_expr-Chain node_steps first rest
    ∙ ap (λ l. last_or (expr_key first) (map (fold_link node_steps) l)) (sym same))
key-alone whole first rest (link ∷ links) is same none =
    absurd (is_some_not_none (none
    ∙ slice_get-get_or (link ∷ links) (length (link ∷ links) - 1) link (omega arith)))
  where
    is_some_not_none : {X : Type 0} {x : X} → None ≡ Some x → ⊥
    is_some_not_none e = true≢false (ap is_none e)
