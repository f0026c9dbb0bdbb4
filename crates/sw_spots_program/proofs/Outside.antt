-- In a program whose keys tell scopes a closure stands before what it declares.
use Rattle.std.proofs.Common.{◌≡◌, ℕ, ◌<◌, List, [], ◌∷◌, ◌++◌, map, flat_map, Contains, Some}
use Rattle.std.proofs.Common.{option_map, subst, arith}
use Rattle.std.proofs.lemmas.List.Elements.{All-contains, All-from_recursion, recursion_from_All}
use Rattle.std.specs.List.{AllByRecursion}
use Rattle.sw_tree.specs.Folds.{fold_arg, fold_block, fold_case_arm, fold_closure, fold_expr}
use Rattle.sw_tree.specs.Folds.{fold_if_arm, fold_link, fold_stmt}
use Rattle.sw_tree.specs.Keys.{Keys, func_keys, init_keys, prop_keys}
use Rattle.sw_tree.specs.Scopes.{AreScoped, Pair, Scoped, Stated, before, before_words, block_scoped}
use Rattle.sw_tree.specs.Scopes.{declaring, decl_pairs, each, expr_scoped, func_pairs, init_pairs}
use Rattle.sw_tree.specs.Scopes.{maybe, pattern_names, prop_pairs, scope_steps, sequence}
use Rattle.sw_tree.specs.declared.decl.Decl.{Decl}
use Rattle.sw_tree.specs.declared.decl.FuncTree.{FuncTree}
use Rattle.sw_tree.specs.declared.decl.InitTree.{InitTree}
use Rattle.sw_tree.specs.declared.decl.ParamTree.{ParamTree}
use Rattle.sw_tree.specs.declared.decl.PropTree.{PropTree}
use Rattle.sw_tree.specs.declared.expr.Closure.{Closure, out-Closure}
use Rattle.sw_tree.specs.declared.expr.ClosureParam.{ClosureParam}
use Rattle.sw_tree.specs.declared.name.Name.{Name}
use Rattle.sw_tree.specs.declared.stmt.Stmt.{Stmt}
use Rattle.sw_tree.proofs.FoldEquations as eq
use Rattle.sw_tree.proofs.KeyMembers.{contained}
use Rattle.sw_tree.proofs.Counting.{hits, in_all-append}
use Rattle.sw_tree.proofs.ScopeCounts.{ats}
use Rattle.sw_tree_facts.specs.Parts.{IsPart, StandsIn, Tree, of_arg, of_block, of_case_arm, of_closure}
use Rattle.sw_tree_facts.specs.Parts.{of_decl, of_decls, of_expr, of_func, of_if_arm, of_init, of_link}
use Rattle.sw_tree_facts.specs.Parts.{of_prop, of_stmt}
use Rattle.sw_tree_facts.specs.Parts as parts
use Rattle.sw_spots.specs.Making.{IsOne}
use Rattle.sw_spots_tree.specs.Declared.{block_declared}
use Rattle.sw_spots_tree.proofs.Keys.{each_first, each_rest}
use Rattle.sw_spots_program.proofs.Declared.{block_scopes}
use Rattle.sw_spots_program.proofs.Ones.{one_counted}

abbrev IsLess : Pair → Type 0
IsLess pair = pair.0 < pair.1

abbrev Less : List Pair → Type 0
Less pairs = AllByRecursion IsLess pairs

-- the pairs of keys of a tree
abbrev pairs_in : Tree → List Pair
pairs_in (of_expr expr) = (fold_expr scope_steps expr).pairs
pairs_in (of_stmt stmt) = (fold_stmt scope_steps stmt).inside.pairs
pairs_in (of_arg arg) = (fold_arg scope_steps arg).pairs
pairs_in (of_closure closure) = (fold_closure scope_steps closure).pairs
pairs_in (of_link link) = (fold_link scope_steps link).pairs
pairs_in (of_block block) = (fold_block scope_steps block).pairs
pairs_in (of_case_arm arm) = (fold_case_arm scope_steps arm).pairs
pairs_in (of_if_arm arm) = (fold_if_arm scope_steps arm).pairs
pairs_in (of_prop prop) = prop_pairs prop
pairs_in (of_func func) = func_pairs func
pairs_in (of_init init) = init_pairs init
pairs_in (of_decl decl) = decl_pairs decl
pairs_in (of_decls decls) = flat_map decl_pairs decls

abbrev Has : Tree → Type 0
Has tree = Less (pairs_in tree)

-- by the equation of a form
of_form : (one other : Scoped) → one ≡ other → Less one.pairs → Less other.pairs
of_form one other is less = subst (λ (scoped : Scoped). Less scoped.pairs) is less

of_stated : (one other : Stated) → one ≡ other → Less one.inside.pairs → Less other.inside.pairs
of_stated one other is less = subst (λ (stated : Stated). Less stated.inside.pairs) is less

left : (xs ys : List Pair) → Less (xs ++ ys) → Less xs
left xs ys less = each_first IsLess xs ys less

right : (xs ys : List Pair) → Less (xs ++ ys) → Less ys
right xs ys less = each_rest IsLess xs ys less

-- one of a list
one_of : {X : Type 0} (P : X → Type 0) (xs : List X) (x : X) → AllByRecursion P xs → Contains xs x
    → P x
one_of P xs x all has = All-contains P xs x (All-from_recursion P xs all) has

module _ {X : Type 0} (scoped : X → Scoped) where
  each_less : (xs : List X) → Less (each (map scoped xs)).pairs
      → AllByRecursion (λ x. Less (scoped x).pairs) xs
  each_less [] less = tt
  each_less (x ∷ xs) less =
      let more = (each (map scoped xs)).pairs in
      (left (scoped x).pairs more less, each_less xs (right (scoped x).pairs more less))

  in_each : (xs : List X) (x : X) → Less (each (map scoped xs)).pairs → Contains xs x
      → Less (scoped x).pairs
  in_each xs x less has = one_of (λ y. Less (scoped y).pairs) xs x (each_less xs less) has

module _ {X : Type 0} (pairs : X → List Pair) where
  flat_less : (xs : List X) → Less (flat_map pairs xs) → AllByRecursion (λ x. Less (pairs x)) xs
  flat_less [] less = tt
  flat_less (x ∷ xs) less =
      let more = flat_map pairs xs in
      (left (pairs x) more less, flat_less xs (right (pairs x) more less))

  in_flat : (xs : List X) (x : X) → Less (flat_map pairs xs) → Contains xs x → Less (pairs x)
  in_flat xs x less has = one_of (λ y. Less (pairs y)) xs x (flat_less xs less) has

-- statements one after another
stmts_less : (list : List Stmt) → Less (sequence (map (fold_stmt scope_steps) list)).pairs
    → AllByRecursion (λ x. Less (fold_stmt scope_steps x).inside.pairs) list
stmts_less [] less = tt
stmts_less (stmt ∷ list) less =
    let one = fold_stmt scope_steps stmt in
    let more = sequence (map (fold_stmt scope_steps) list) in
    let rest = flat_map (before_words more.free) one.names ++ more.pairs in (
      left one.inside.pairs rest less,
      stmts_less list
          (right (flat_map (before_words more.free) one.names) more.pairs
          (right one.inside.pairs rest less)),
    )

-- where variables are declared
declared_less : (names listed : List Name) (inside : Scoped)
    → Less (declaring names listed inside).pairs → Less inside.pairs
declared_less names listed inside less =
    right (flat_map (before_words inside.free) names) inside.pairs less

-- the members of a type
abbrev members : Name → List PropTree → List InitTree → List FuncTree → List Pair
members word props inits funcs = before word.at
    (flat_map prop_keys props ++ flat_map init_keys inits ++ flat_map func_keys funcs)

module _ (word : Name) (props : List PropTree) (inits : List InitTree) (funcs : List FuncTree)
    (less : Less (members word props inits funcs ++ flat_map prop_pairs props
    ++ flat_map init_pairs inits ++ flat_map func_pairs funcs)) where
  abbrev of_props : List Pair
  of_props = members word props inits funcs ++ flat_map prop_pairs props

  abbrev of_inits : List Pair
  of_inits = of_props ++ flat_map init_pairs inits

  type_props : Less (flat_map prop_pairs props)
  type_props =
      right (members word props inits funcs) (flat_map prop_pairs props)
      (left of_props (flat_map init_pairs inits) (left of_inits (flat_map func_pairs funcs) less))

  type_inits : Less (flat_map init_pairs inits)
  type_inits =
      right of_props (flat_map init_pairs inits) (left of_inits (flat_map func_pairs funcs) less)

  type_funcs : Less (flat_map func_pairs funcs)
  type_funcs = right of_inits (flat_map func_pairs funcs) less

part_less : (part whole : Tree) → IsPart part whole → Has whole → Has part
unfolding block_scoped expr_scoped
part_less part whole (parts.member_base base name) less =
    of_form _ _ (eq.fold_expr-Member scope_steps base name) less
part_less part whole (parts.call_arg name args one has) less =
    in_each (fold_arg scope_steps) args one
    (of_form _ _ (eq.fold_expr-Call scope_steps name args) less) has
part_less part whole (parts.method_base base name args) less =
    left (fold_expr scope_steps base).pairs _
    (of_form _ _ (eq.fold_expr-Method scope_steps base name args) less)
part_less part whole (parts.method_arg base name args one has) less =
    in_each (fold_arg scope_steps) args one
    (right (fold_expr scope_steps base).pairs _
    (of_form _ _ (eq.fold_expr-Method scope_steps base name args) less)) has
part_less part whole (parts.chain_first first rest) less =
    left (fold_expr scope_steps first).pairs _
    (of_form _ _ (eq.fold_expr-Chain scope_steps first rest) less)
part_less part whole (parts.chain_link first rest one has) less =
    in_each (fold_link scope_steps) rest one
    (right (fold_expr scope_steps first).pairs _
    (of_form _ _ (eq.fold_expr-Chain scope_steps first rest) less)) has
part_less part whole (parts.prefix_inner op at inner) less =
    of_form _ _ (eq.fold_expr-Prefix scope_steps op at inner) less
part_less part whole (parts.await_inner at inner) less =
    of_form _ _ (eq.fold_expr-Await scope_steps at inner) less
part_less part whole (parts.fun_closure closure) less =
    of_form _ _ (eq.fold_expr-Fun scope_steps closure) less
part_less part whole (parts.spawn_body at detached body) less =
    of_form _ _ (eq.fold_expr-Spawn scope_steps at detached body) less
part_less part whole (parts.bind_value mutable name ty value) less =
    of_stated _ _ (eq.fold_stmt-Bind scope_steps mutable name ty value) less
part_less part whole (parts.assign_place at op place value) less =
    left (fold_expr scope_steps place).pairs _
    (of_stated _ _ (eq.fold_stmt-Assign scope_steps at op place value) less)
part_less part whole (parts.assign_value at op place value) less =
    right (fold_expr scope_steps place).pairs _
    (of_stated _ _ (eq.fold_stmt-Assign scope_steps at op place value) less)
part_less part whole (parts.discard_value at value) less =
    of_stated _ _ (eq.fold_stmt-Discard scope_steps at value) less
part_less part whole (parts.if_one arms otherwise one has) less =
    in_each (fold_if_arm scope_steps) arms one
    (left (each (map (fold_if_arm scope_steps) arms)).pairs _
    (of_stated _ _ (eq.fold_stmt-If scope_steps arms otherwise) less)) has
part_less part whole (parts.if_otherwise arms otherwise) less =
    right (each (map (fold_if_arm scope_steps) arms)).pairs _
    (of_stated _ _ (eq.fold_stmt-If scope_steps arms (Some otherwise)) less)
part_less part whole (parts.while_cond at cond body) less =
    left (fold_expr scope_steps cond).pairs _
    (of_stated _ _ (eq.fold_stmt-While scope_steps at cond body) less)
part_less part whole (parts.while_body at cond body) less =
    right (fold_expr scope_steps cond).pairs _
    (of_stated _ _ (eq.fold_stmt-While scope_steps at cond body) less)
part_less part whole (parts.switch_subject at subject arms otherwise) less =
    left (fold_expr scope_steps subject).pairs (each (map (fold_case_arm scope_steps) arms)).pairs
    (left ((fold_expr scope_steps subject).pairs ++ (each (map (fold_case_arm scope_steps) arms)).pairs) _
    (of_stated _ _ (eq.fold_stmt-Switch scope_steps at subject arms otherwise) less))
part_less part whole (parts.switch_one at subject arms otherwise one has) less =
    in_each (fold_case_arm scope_steps) arms one
    (right (fold_expr scope_steps subject).pairs (each (map (fold_case_arm scope_steps) arms)).pairs
    (left ((fold_expr scope_steps subject).pairs ++ (each (map (fold_case_arm scope_steps) arms)).pairs) _
    (of_stated _ _ (eq.fold_stmt-Switch scope_steps at subject arms otherwise) less))) has
part_less part whole (parts.switch_otherwise at subject arms otherwise) less =
    right ((fold_expr scope_steps subject).pairs ++ (each (map (fold_case_arm scope_steps) arms)).pairs) _
    (of_stated _ _ (eq.fold_stmt-Switch scope_steps at subject arms (Some otherwise)) less)
part_less part whole (parts.return_value at value) less =
    of_stated _ _ (eq.fold_stmt-Return scope_steps at (Some value)) less
part_less part whole (parts.plain_value value) less =
    of_stated _ _ (eq.fold_stmt-Plain scope_steps value) less
part_less part whole (parts.arg_value label value) less =
    of_form _ _ (eq.fold_arg-roll scope_steps label value) less
part_less part whole (parts.closure_body at mark captures params result body) less =
    let names = map (λ (param : ClosureParam). param.name) params in
    let inside = declaring names captures (fold_block scope_steps body) in
    declared_less names captures (fold_block scope_steps body)
    (right (before at inside.declared) inside.pairs
    (of_form _ _ (eq.fold_closure-roll scope_steps at mark captures params result body) less))
part_less part whole (parts.link_operand op at operand) less =
    of_form _ _ (eq.fold_link-roll scope_steps op at operand) less
part_less part whole (parts.block_stmt stmts one has) less =
    one_of (λ x. Less (fold_stmt scope_steps x).inside.pairs) stmts one
    (stmts_less stmts (of_form _ _ (eq.fold_block-roll scope_steps stmts) less)) has
part_less part whole (parts.case_arm_body name patterns body) less =
    declared_less (flat_map pattern_names patterns) [] (fold_block scope_steps body)
    (of_form _ _ (eq.fold_case_arm-roll scope_steps name patterns body) less)
part_less part whole (parts.if_arm_cond at cond body) less =
    left (fold_expr scope_steps cond).pairs _
    (of_form _ _ (eq.fold_if_arm-roll scope_steps at cond body) less)
part_less part whole (parts.if_arm_body at cond body) less =
    right (fold_expr scope_steps cond).pairs _
    (of_form _ _ (eq.fold_if_arm-roll scope_steps at cond body) less)
part_less part whole (parts.prop_value prop value is) less =
    subst (λ given. Less (maybe (option_map expr_scoped given)).pairs) is less
part_less part whole (parts.func_body func) less =
    declared_less (map (λ (param : ParamTree). param.name) func.params) []
    (fold_block scope_steps func.body) less
part_less part whole (parts.init_body init) less =
    declared_less (map (λ (param : ParamTree). param.name) init.params) []
    (fold_block scope_steps init.body) less
part_less part whole (parts.entry_body word written at is_async body) less = less
part_less part whole (parts.struct_field word conforms fields funcs one has) less =
    in_flat prop_pairs fields one (type_props word fields [] funcs less) has
part_less part whole (parts.struct_func word conforms fields funcs one has) less =
    in_flat func_pairs funcs one (type_funcs word fields [] funcs less) has
part_less part whole (parts.enum_func word conforms cases funcs one has) less =
    in_flat func_pairs funcs one (type_funcs word [] [] funcs less) has
part_less part whole (parts.class_prop written word conforms props inits funcs one has) less =
    in_flat prop_pairs props one (type_props word props inits funcs less) has
part_less part whole (parts.class_init written word conforms props inits funcs one has) less =
    in_flat init_pairs inits one (type_inits word props inits funcs less) has
part_less part whole (parts.class_func written word conforms props inits funcs one has) less =
    in_flat func_pairs funcs one (type_funcs word props inits funcs less) has
part_less part whole (parts.actor_prop word props inits funcs one has) less =
    in_flat prop_pairs props one (type_props word props inits funcs less) has
part_less part whole (parts.actor_init word props inits funcs one has) less =
    in_flat init_pairs inits one (type_inits word props inits funcs less) has
part_less part whole (parts.actor_func word props inits funcs one has) less =
    in_flat func_pairs funcs one (type_funcs word props inits funcs less) has
part_less part whole (parts.decl_func func) less = less
part_less part whole (parts.decl_global prop) less = less
part_less part whole (parts.one_decl all one has) less = in_flat decl_pairs all one less has

-- also at any depth
inner_less : (inner whole : Tree) → StandsIn inner whole → Has whole → Has inner
inner_less inner whole (parts.itself _) less = less
inner_less inner whole (parts.inside _ part _ stands is) less =
    inner_less inner part stands (part_less part whole is less)

-- a key before others is less than each
before_each : (at : ℕ) (others : Keys) → Less (before at others) → AllByRecursion (λ key. at < key) others
before_each at [] less = tt
before_each at (other ∷ others) less = (less.0, before_each at others less.1)

-- A closure has a key below those of the variables that its body declares.
pub closure_before : (decls : List Decl) → AreScoped decls → (closure : Closure)
    → StandsIn (of_closure closure) (of_decls decls) → (key : ℕ)
    → IsOne (block_declared (out-Closure closure).body) key → (out-Closure closure).at < key
unfolding block_declared block_scoped
closure_before decls scoped closure stands key one =
    let out = out-Closure closure in
    let names = map (λ (param : ClosureParam). param.name) out.params in
    let body = fold_block scope_steps out.body in
    let inside = declaring names out.captures body in
    let less = inner_less (of_closure closure) (of_decls decls) stands
    (recursion_from_All IsLess (flat_map decl_pairs decls) scoped) in
    let own = left (before out.at inside.declared) inside.pairs
    (of_form _ _ (eq.fold_closure-out scope_steps closure) less) in
    one_of (λ other. out.at < other) inside.declared key (before_each out.at inside.declared own)
    (contained inside.declared key (omega (
      arith,
      in_all-append hits (ats names) body.declared key,
      block_scopes key out.body,
      one_counted (block_declared out.body) key one,
    )))
