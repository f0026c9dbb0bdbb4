-- The codes of the breaches of names and written types in bodies.
use Rattle.std.proofs.Common.{◌≡◌, ℕ, List, [], ◌∷◌, ◌++◌, map, flat_map, is_none}
use Rattle.std.proofs.Common.{Option, None, Some, option_map, sym, subst, arith}
use Rattle.sw_tree.proofs.FoldEquations as equations
use Rattle.sw_tree.proofs.TreeInduction.{Claims, Cases, Given, every_block, every_expr}
use Rattle.sw_tree.specs.Folds.{Steps, fold_arg, fold_block, fold_case_arm, fold_closure}
use Rattle.sw_tree.specs.Folds.{fold_expr, fold_if_arm, fold_link, fold_stmt}
use Rattle.sw_tree.specs.declared.expr.Arg.{Arg}
use Rattle.sw_tree.specs.declared.expr.ClosureParam.{ClosureParam}
use Rattle.sw_tree.specs.declared.expr.Expr.{Expr}
use Rattle.sw_tree.specs.declared.expr.Link.{Link}
use Rattle.sw_tree.specs.declared.name.Name.{Name}
use Rattle.sw_tree.specs.declared.stmt.Block.{Block}
use Rattle.sw_tree.specs.declared.stmt.CaseArm.{CaseArm}
use Rattle.sw_tree.specs.declared.stmt.IfArm.{IfArm}
use Rattle.sw_tree.specs.declared.stmt.Stmt.TheVariants as stmts
use Rattle.sw_tree.specs.declared.type_tree.TypeTree.{TypeTree, roll-TypeTree}
use Rattle.sw_tree.specs.declared.type_tree.TypeTree.TheFolds as folds
use Rattle.sw_tree.specs.declared.type_tree.TypeTree.TheOpen as tree
use Rattle.sw_decl_words.specs.TypeWords.{bad_layer, bad_words, type_meaning}
use Rattle.sw_decl_words.specs.declared.placed.Placed.{Placed}
use Rattle.sw_decl_words.specs.declared.words.Meaning.{Meaning}
use Rattle.sw_decl_words.specs.declared.words.Meaning.TheVariants as means
use Rattle.sw_decl_names.specs.Bodies.{DeclaredInside, MarkedClosure, all_found, bad_actor}
use Rattle.sw_decl_names.specs.Bodies.{bad_attribute, bad_mark}
use Rattle.sw_decl_names.specs.Bodies.{bad_type, body_steps, in_body, in_expr, otherwise_found}
use Rattle.sw_decl_names.specs.Bodies.{params_found, pattern_names, scope_found}
use Rattle.sw_decl_names.specs.Repeats.{first_place, is_repeated, repeated, repeats}
use Rattle.sw_decls.proofs.Coded.{AreCoded, coded_each, coded_if, coded_join, coded_made, coded_one}

same : {found made : List Placed} → found ≡ made → AreCoded made → AreCoded found
same is = subst AreCoded (sym is)

same_inside : {inside made : DeclaredInside} → inside ≡ made → AreCoded made.found
    → AreCoded inside.found
same_inside is = subst (λ (one : DeclaredInside). AreCoded one.found) (sym is)

same_marked : {marked made : MarkedClosure} → marked ≡ made → AreCoded made.found
    → AreCoded marked.found
same_marked is = subst (λ (one : MarkedClosure). AreCoded one.found) (sym is)

pub coded_repeats : (names : List Name) → AreCoded (repeats names)
coded_repeats names = coded_each (repeated (first_place names))
    (λ name. coded_if (is_repeated (first_place names) name)
    (record { at = name.at; code = 301 } ∷ [])
    (coded_one name.at 301 (omega arith) (omega arith))) names

coded_actor : (meaning : Option Meaning) (at : ℕ) → AreCoded (bad_actor meaning at)
coded_actor None at = coded_one at 302 (omega arith) (omega arith)
coded_actor (Some (means.Shape kind number)) at = coded_one at 302 (omega arith) (omega arith)
coded_actor (Some (means.GlobalActor number)) at = tt
coded_actor (Some (means.Func key)) at = coded_one at 302 (omega arith) (omega arith)
coded_actor (Some (means.Global number)) at = coded_one at 302 (omega arith) (omega arith)
coded_actor (Some means.Entry) at = coded_one at 302 (omega arith) (omega arith)

module _ (known : ℕ → Option Meaning) where
  pub coded_attribute : (name : Name) → AreCoded (bad_attribute known name)
  coded_attribute name = coded_actor (known name.id) name.at

  coded_mark : (mark : Option Name) → AreCoded (bad_mark known mark)
  coded_mark None = tt
  coded_mark (Some name) = coded_attribute name

  -- a written type whose words have these codes
  abbrev Known : Type 0
  Known = (t : TypeTree) × AreCoded (bad_words known t)

  coded_params : (params : List Known)
      → AreCoded (flat_map (λ more. more) (map (bad_words known) (map (λ q. q.0) params)))
  coded_params [] = tt
  coded_params (param ∷ params) =
      coded_join (bad_words known param.0)
      (flat_map (λ more. more) (map (bad_words known) (map (λ q. q.0) params)))
      param.1 (coded_params params)

  coded_layer : (y : tree.TypeTree-F Known)
      → AreCoded (bad_words known
      (roll-TypeTree (folds.map-TypeTree Known TypeTree (λ q. q.0) y)))
  coded_layer (tree.Named name) =
      subst AreCoded
      (sym (folds.fold-roll-TypeTree (List Placed) (bad_layer known) (tree.Named name)))
      (coded_if (is_none (type_meaning known name.id)) (record { at = name.at; code = 302 } ∷ [])
      (coded_one name.at 302 (omega arith) (omega arith)))
  coded_layer (tree.Unit at) =
      subst AreCoded
      (sym (folds.fold-roll-TypeTree (List Placed) (bad_layer known) (tree.Unit at))) tt
  coded_layer (tree.Arrow at mark params result) =
      subst AreCoded
      (sym (folds.fold-roll-TypeTree (List Placed) (bad_layer known)
      (tree.Arrow at mark (map (λ q. q.0) params) result.0)))
      (coded_join (flat_map (λ more. more) (map (bad_words known) (map (λ q. q.0) params)))
      (bad_words known result.0) (coded_params params) result.1)
  coded_layer (tree.TaskOf at inner) =
      subst AreCoded
      (sym (folds.fold-roll-TypeTree (List Placed) (bad_layer known) (tree.TaskOf at inner.0)))
      inner.1

  pub coded_words : (written : TypeTree) → AreCoded (bad_words known written)
  coded_words = folds.ind-TypeTree (λ t. AreCoded (bad_words known t))
      (λ x y is. subst (λ z. AreCoded (bad_words known (roll-TypeTree z))) is (coded_layer y))

  pub coded_type : (written : Option TypeTree) → AreCoded (bad_type known written)
  coded_type None = tt
  coded_type (Some one) = coded_words one

  coded_closure_params : (params : List ClosureParam) → AreCoded (params_found known params)
  unfolding params_found
  coded_closure_params params =
      coded_join (flat_map (λ (param : ClosureParam). bad_words known param.ty) params)
      (repeats (map (λ (param : ClosureParam). param.name) params))
      (coded_each (λ (param : ClosureParam). bad_words known param.ty)
      (λ param. coded_words param.ty) params)
      (coded_repeats (map (λ (param : ClosureParam). param.name) params))

  coded_scope : (names : List Name) (inside : DeclaredInside) → AreCoded inside.found
      → AreCoded (scope_found names inside)
  coded_scope names inside are =
      coded_join inside.found (repeats (names ++ inside.names)) are
      (coded_repeats (names ++ inside.names))

  abbrev steps : Steps
  steps = body_steps known

  abbrev of_expr : Expr → List Placed
  of_expr = fold_expr steps

  abbrev of_block : Block → DeclaredInside
  of_block = fold_block steps

  abbrev of_scope : Block → List Placed
  of_scope block = scope_found [] (of_block block)

  abbrev of_args : List Arg → List Placed
  of_args args = all_found (map (fold_arg steps) args)

  abbrev of_links : List Link → List Placed
  of_links links = all_found (map (fold_link steps) links)

  abbrev of_if_arms : List IfArm → List Placed
  of_if_arms arms = all_found (map (fold_if_arm steps) arms)

  abbrev of_case_arms : List CaseArm → List Placed
  of_case_arms arms = all_found (map (fold_case_arm steps) arms)

  abbrev of_otherwise : Option Block → List Placed
  of_otherwise otherwise = otherwise_found (option_map of_block otherwise)

  claims : Claims
  claims = record {
    expr = λ expr. AreCoded (of_expr expr);
    stmt = λ stmt. AreCoded (fold_stmt steps stmt).found;
    arg = λ arg. AreCoded (fold_arg steps arg);
    closure = λ closure. AreCoded (fold_closure steps closure).found;
    link = λ link. AreCoded (fold_link steps link);
    block = λ block. AreCoded (of_block block).found;
    case_arm = λ arm. AreCoded (fold_case_arm steps arm);
    if_arm = λ arm. AreCoded (fold_if_arm steps arm);
  }

  coded_otherwise : (otherwise : Option Block) → Given claims.block otherwise
      → AreCoded (of_otherwise otherwise)
  unfolding claims
  coded_otherwise None given = tt
  coded_otherwise (Some block) given = coded_scope [] (of_block block) given

  coded_return : (at : ℕ) (value : Option Expr) → Given claims.expr value
      → claims.stmt (stmts.Return at value)
  unfolding claims
  coded_return at None given = same_inside (equations.fold_stmt-Return steps at None) tt
  coded_return at (Some value) given =
      same_inside (equations.fold_stmt-Return steps at (Some value)) given

  coded_cases : Cases claims
  unfolding claims
  coded_cases = record {
    int = λ at value. same (equations.fold_expr-Int steps at value) tt;
    bool = λ at value. same (equations.fold_expr-Bool steps at value) tt;
    use_of = λ name. same (equations.fold_expr-Use steps name) tt;
    me = λ at. same (equations.fold_expr-Me steps at) tt;
    member = λ base name has_base. same (equations.fold_expr-Member steps base name) has_base;
    call = λ name args has_args. same (equations.fold_expr-Call steps name args)
        (coded_made (fold_arg steps) (λ more. more) args has_args);
    method = λ base name args has_base has_args.
        same (equations.fold_expr-Method steps base name args)
        (coded_join (of_expr base) (of_args args) has_base
        (coded_made (fold_arg steps) (λ more. more) args has_args));
    chain = λ first rest has_first has_rest. same (equations.fold_expr-Chain steps first rest)
        (coded_join (of_expr first) (of_links rest) has_first
        (coded_made (fold_link steps) (λ more. more) rest has_rest));
    prefix = λ op at inner has_inner.
        same (equations.fold_expr-Prefix steps op at inner) has_inner;
    await = λ at inner has_inner. same (equations.fold_expr-Await steps at inner) has_inner;
    fun = λ body has_body. same (equations.fold_expr-Fun steps body) has_body;
    spawn = λ at detached body has_body.
        same (equations.fold_expr-Spawn steps at detached body)
        (coded_join (bad_mark known (fold_closure steps body).mark)
        (fold_closure steps body).found (coded_mark (fold_closure steps body).mark) has_body);
    yield = λ at. same (equations.fold_expr-Yield steps at) tt;
    bind = λ mutable name ty value has_value.
        same_inside (equations.fold_stmt-Bind steps mutable name ty value)
        (coded_join (bad_type known ty) (of_expr value) (coded_type ty) has_value);
    assign = λ at op place value has_place has_value.
        same_inside (equations.fold_stmt-Assign steps at op place value)
        (coded_join (of_expr place) (of_expr value) has_place has_value);
    discard = λ at value has_value.
        same_inside (equations.fold_stmt-Discard steps at value) has_value;
    if_of = λ arms otherwise has_arms has_otherwise.
        same_inside (equations.fold_stmt-If steps arms otherwise)
        (coded_join (of_if_arms arms) (of_otherwise otherwise)
        (coded_made (fold_if_arm steps) (λ more. more) arms has_arms)
        (coded_otherwise otherwise has_otherwise));
    while_of = λ at test body has_test has_body.
        same_inside (equations.fold_stmt-While steps at test body)
        (coded_join (of_expr test) (of_scope body) has_test
        (coded_scope [] (of_block body) has_body));
    switch = λ at subject arms otherwise has_subject has_arms has_otherwise.
        same_inside (equations.fold_stmt-Switch steps at subject arms otherwise)
        (coded_join (of_expr subject ++ of_case_arms arms) (of_otherwise otherwise)
        (coded_join (of_expr subject) (of_case_arms arms) has_subject
        (coded_made (fold_case_arm steps) (λ more. more) arms has_arms))
        (coded_otherwise otherwise has_otherwise));
    return_of = coded_return;
    break_of = λ at. same_inside (equations.fold_stmt-Break steps at) tt;
    continue_of = λ at. same_inside (equations.fold_stmt-Continue steps at) tt;
    plain = λ value has_value. same_inside (equations.fold_stmt-Plain steps value) has_value;
    arg = λ label value has_value. same (equations.fold_arg-roll steps label value) has_value;
    closure = λ at mark captures params result body has_body.
        same_marked (equations.fold_closure-roll steps at mark captures params result body)
        (coded_join (params_found known params) (bad_type known result ++ of_scope body)
        (coded_closure_params params)
        (coded_join (bad_type known result) (of_scope body) (coded_type result)
        (coded_scope [] (of_block body) has_body)));
    link = λ op at operand has_operand.
        same (equations.fold_link-roll steps op at operand) has_operand;
    block = λ body has_body. same_inside (equations.fold_block-roll steps body)
        (coded_made (fold_stmt steps) (λ (one : DeclaredInside). one.found) body has_body);
    case_arm = λ name patterns body has_body.
        same (equations.fold_case_arm-roll steps name patterns body)
        (coded_scope (flat_map pattern_names patterns) (of_block body) has_body);
    if_arm = λ at test body has_test has_body.
        same (equations.fold_if_arm-roll steps at test body)
        (coded_join (of_expr test) (of_scope body) has_test
        (coded_scope [] (of_block body) has_body));
  }

  pub coded_expr : (expr : Expr) → AreCoded (in_expr known expr)
  unfolding claims
  coded_expr = every_expr claims coded_cases

  pub coded_body : (body : Block) → AreCoded (in_body known body)
  unfolding claims
  coded_body body = coded_scope [] (of_block body) (every_block claims coded_cases body)
