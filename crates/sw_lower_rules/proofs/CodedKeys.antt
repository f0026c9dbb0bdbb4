-- The code of an expression has the expression's key.
use Rattle.std.proofs.Common.{◌≡◌, ℕ, List, [], ◌∷◌, map, Option, ap, sym, refl}
use Rattle.std.proofs.Common.{◌∙◌}
use Rattle.std.specs.List.{AllByRecursion}
use Rattle.sw_tree.proofs.FoldEquations as eq
use Rattle.sw_tree.proofs.TreeInduction.{Claims, Cases, every_expr}
use Rattle.sw_tree.specs.Folds.{Steps, fold_expr, fold_closure, fold_link}
use Rattle.sw_tree.specs.NodeKey.{expr_key, node_steps, last_or}
use Rattle.sw_tree.specs.declared.expr.Expr.{Expr}
use Rattle.sw_tree.specs.declared.expr.Link.{Link}
use Rattle.sw_lower_rules.specs.Carriers.{LinkCode}
use Rattle.sw_lower_rules.specs.Statements.{code_steps, expr_code}
use Rattle.sw_lower_rules.specs.Tables.{Tables}

module _ (tables : Tables) (owner : Option ℕ) where
  abbrev steps : Steps
  steps = code_steps tables owner

  abbrev claims : Claims
  claims = record {
    expr = λ x. (fold_expr steps x).key ≡ fold_expr node_steps x;
    stmt = λ x. Unit {0};
    arg = λ x. Unit {0};
    closure = λ x. (fold_closure steps x).at ≡ fold_closure node_steps x;
    link = λ x. (fold_link steps x).at ≡ fold_link node_steps x;
    block = λ x. Unit {0};
    case_arm = λ x. Unit {0};
    if_arm = λ x. Unit {0};
  }

  links_keys : (links : List Link) → AllByRecursion claims.link links
      → map (λ (link : LinkCode). link.at) (map (fold_link steps) links)
      ≡ map (fold_link node_steps) links
  links_keys [] all = refl
  links_keys (link ∷ links) all =
      ap (λ at. at ∷ map (λ (link : LinkCode). link.at) (map (fold_link steps) links)) all.0
      ∙ ap (λ more. fold_link node_steps link ∷ more) (links_keys links all.1)

  cases : Cases claims
  cases = record {
    int = λ at value. ap (λ s. s.key) (eq.fold_expr-Int steps at value)
        ∙ sym (eq.fold_expr-Int node_steps at value);
    bool = λ at value. ap (λ s. s.key) (eq.fold_expr-Bool steps at value)
        ∙ sym (eq.fold_expr-Bool node_steps at value);
    use_of = λ name. ap (λ s. s.key) (eq.fold_expr-Use steps name)
        ∙ sym (eq.fold_expr-Use node_steps name);
    me = λ at. ap (λ s. s.key) (eq.fold_expr-Me steps at) ∙ sym (eq.fold_expr-Me node_steps at);
    member = λ base name of_base. ap (λ s. s.key) (eq.fold_expr-Member steps base name)
        ∙ sym (eq.fold_expr-Member node_steps base name);
    call = λ name args all. ap (λ s. s.key) (eq.fold_expr-Call steps name args)
        ∙ sym (eq.fold_expr-Call node_steps name args);
    method = λ base name args of_base all.
        ap (λ s. s.key) (eq.fold_expr-Method steps base name args)
        ∙ sym (eq.fold_expr-Method node_steps base name args);
    chain = λ first rest of_first all. ap (λ s. s.key) (eq.fold_expr-Chain steps first rest)
        ∙ (ap (λ keys. last_or (fold_expr steps first).key keys) (links_keys rest all)
        ∙ (ap (λ key. last_or key (map (fold_link node_steps) rest)) of_first
        ∙ sym (eq.fold_expr-Chain node_steps first rest)));
    prefix = λ op at inner of_inner. ap (λ s. s.key) (eq.fold_expr-Prefix steps op at inner)
        ∙ sym (eq.fold_expr-Prefix node_steps op at inner);
    await = λ at inner of_inner. ap (λ s. s.key) (eq.fold_expr-Await steps at inner)
        ∙ sym (eq.fold_expr-Await node_steps at inner);
    fun = λ closure inside. ap (λ s. s.key) (eq.fold_expr-Fun steps closure)
        ∙ (inside ∙ sym (eq.fold_expr-Fun node_steps closure));
    spawn = λ at detached body inside.
        ap (λ s. s.key) (eq.fold_expr-Spawn steps at detached body)
        ∙ sym (eq.fold_expr-Spawn node_steps at detached body);
    yield = λ at. ap (λ s. s.key) (eq.fold_expr-Yield steps at)
        ∙ sym (eq.fold_expr-Yield node_steps at);
    bind = λ mutable name ty value of_value. tt;
    assign = λ at op place value of_place of_value. tt;
    discard = λ at value of_value. tt;
    if_of = λ arms otherwise all last. tt;
    while_of = λ at cond body of_cond of_body. tt;
    switch = λ at subject arms otherwise of_subject all last. tt;
    return_of = λ at value given. tt;
    break_of = λ at. tt;
    continue_of = λ at. tt;
    plain = λ value of_value. tt;
    arg = λ label value of_value. tt;
    closure = λ at mark captures params result body of_body.
        ap (λ w. w.at) (eq.fold_closure-roll steps at mark captures params result body)
        ∙ sym (eq.fold_closure-roll node_steps at mark captures params result body);
    link = λ op at operand of_operand.
        ap (λ l. l.at) (eq.fold_link-roll steps op at operand)
        ∙ sym (eq.fold_link-roll node_steps op at operand);
    block = λ stmts all. tt;
    case_arm = λ name patterns body of_body. tt;
    if_arm = λ at cond body of_cond of_body. tt;
  }

  pub coded_key : (e : Expr) → (expr_code tables owner e).key ≡ expr_key e
  unfolding expr_code expr_key
  coded_key e = every_expr claims cases e
