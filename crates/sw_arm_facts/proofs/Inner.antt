-- What stands in a tree without armless `if`s has none, so it is none.
use Rattle.std.proofs.Common.{◌≡◌, ℕ, ◌+◌, List, [], ◌∷◌, map, Contains, Option, Some, None, refl, ap}
use Rattle.std.proofs.Common.{arith}
use Rattle.std.proofs.lemmas.List.Elements.{All-contains, All-from_recursion}
use Rattle.std.proofs.lemmas.List.Sums.{sum_by-cons}
use Rattle.std.specs.List.{AllByRecursion, sum, sum_by}
use Rattle.sw_tree.specs.Folds.{fold_arg, fold_block, fold_case_arm, fold_closure, fold_expr}
use Rattle.sw_tree.specs.Folds.{fold_if_arm, fold_link, fold_stmt}
use Rattle.sw_tree.specs.declared.stmt.Block.{Block}
use Rattle.sw_tree.specs.declared.stmt.Stmt.TheVariants as stmts
use Rattle.sw_tree.proofs.FoldEquations as eq
use Rattle.sw_tree_facts.specs.Parts.{IsPart, StandsIn, Tree, of_stmt}
use Rattle.sw_tree_facts.specs.Parts as parts
use Rattle.sw_arm_facts.proofs.Armless.{armless, armless_steps, decl_armless, func_armless}
use Rattle.sw_arm_facts.proofs.Armless.{init_armless, prop_armless, value_armless}

-- Of a sum that is nothing each part is nothing.
module _ {X : Type 0} (f : X → ℕ) where
  each_none : (xs : List X) → sum_by f xs ≡ 0 → AllByRecursion (λ x. f x ≡ 0) xs
  each_none [] none = tt
  each_none (x ∷ xs) none = (
    omega (arith, none, sum_by-cons f x xs),
    each_none xs (omega (arith, none, sum_by-cons f x xs)),
  )

  one_by : (xs : List X) (x : X) → sum_by f xs ≡ 0 → Contains xs x → f x ≡ 0
  one_by xs x none has =
      All-contains (λ y. f y ≡ 0) xs x
      (All-from_recursion (λ y. f y ≡ 0) xs (each_none xs none)) has

  mapped : (xs : List X) → sum (map f xs) ≡ sum_by f xs
  mapped [] = refl
  mapped (x ∷ xs) =
      omega (arith, sum_by-cons (λ (n : ℕ). n) (f x) (map f xs), sum_by-cons f x xs, mapped xs)

  one_of : (xs : List X) (x : X) → sum (map f xs) ≡ 0 → Contains xs x → f x ≡ 0
  one_of xs x none has = one_by xs x (omega (arith, none, mapped xs)) has

part_none : (part whole : Tree) → IsPart part whole → armless whole ≡ 0 → armless part ≡ 0
part_none part whole (parts.member_base base name) none =
    omega (arith, none, eq.fold_expr-Member armless_steps base name)
part_none part whole (parts.call_arg name args one has) none =
    one_of (fold_arg armless_steps) args one
    (omega (arith, none, eq.fold_expr-Call armless_steps name args)) has
part_none part whole (parts.method_base base name args) none =
    omega (arith, none, eq.fold_expr-Method armless_steps base name args)
part_none part whole (parts.method_arg base name args one has) none =
    one_of (fold_arg armless_steps) args one
    (omega (arith, none, eq.fold_expr-Method armless_steps base name args)) has
part_none part whole (parts.chain_first first rest) none =
    omega (arith, none, eq.fold_expr-Chain armless_steps first rest)
part_none part whole (parts.chain_link first rest one has) none =
    one_of (fold_link armless_steps) rest one
    (omega (arith, none, eq.fold_expr-Chain armless_steps first rest)) has
part_none part whole (parts.prefix_inner op at inner) none =
    omega (arith, none, eq.fold_expr-Prefix armless_steps op at inner)
part_none part whole (parts.await_inner at inner) none =
    omega (arith, none, eq.fold_expr-Await armless_steps at inner)
part_none part whole (parts.fun_closure closure) none =
    omega (arith, none, eq.fold_expr-Fun armless_steps closure)
part_none part whole (parts.spawn_body at detached body) none =
    omega (arith, none, eq.fold_expr-Spawn armless_steps at detached body)
part_none part whole (parts.bind_value mutable name ty value) none =
    omega (arith, none, eq.fold_stmt-Bind armless_steps mutable name ty value)
part_none part whole (parts.assign_place at op place value) none =
    omega (arith, none, eq.fold_stmt-Assign armless_steps at op place value)
part_none part whole (parts.assign_value at op place value) none =
    omega (arith, none, eq.fold_stmt-Assign armless_steps at op place value)
part_none part whole (parts.discard_value at value) none =
    omega (arith, none, eq.fold_stmt-Discard armless_steps at value)
part_none part whole (parts.if_one arms otherwise one has) none =
    one_of (fold_if_arm armless_steps) arms one
    (omega (arith, none, eq.fold_stmt-If armless_steps arms otherwise)) has
part_none part whole (parts.if_otherwise arms otherwise) none =
    omega (arith, none, eq.fold_stmt-If armless_steps arms (Some otherwise))
part_none part whole (parts.while_cond at cond body) none =
    omega (arith, none, eq.fold_stmt-While armless_steps at cond body)
part_none part whole (parts.while_body at cond body) none =
    omega (arith, none, eq.fold_stmt-While armless_steps at cond body)
part_none part whole (parts.switch_subject at subject arms otherwise) none =
    omega (arith, none, eq.fold_stmt-Switch armless_steps at subject arms otherwise)
part_none part whole (parts.switch_one at subject arms otherwise one has) none =
    one_of (fold_case_arm armless_steps) arms one
    (omega (arith, none, eq.fold_stmt-Switch armless_steps at subject arms otherwise)) has
part_none part whole (parts.switch_otherwise at subject arms otherwise) none =
    omega (arith, none, eq.fold_stmt-Switch armless_steps at subject arms (Some otherwise))
part_none part whole (parts.return_value at value) none =
    omega (arith, none, eq.fold_stmt-Return armless_steps at (Some value))
part_none part whole (parts.plain_value value) none =
    omega (arith, none, eq.fold_stmt-Plain armless_steps value)
part_none part whole (parts.arg_value label value) none =
    omega (arith, none, eq.fold_arg-roll armless_steps label value)
part_none part whole (parts.closure_body at mark captures params result body) none =
    omega (arith, none, eq.fold_closure-roll armless_steps at mark captures params result body)
part_none part whole (parts.link_operand op at operand) none =
    omega (arith, none, eq.fold_link-roll armless_steps op at operand)
part_none part whole (parts.block_stmt stmts one has) none =
    one_of (fold_stmt armless_steps) stmts one
    (omega (arith, none, eq.fold_block-roll armless_steps stmts)) has
part_none part whole (parts.case_arm_body name patterns body) none =
    omega (arith, none, eq.fold_case_arm-roll armless_steps name patterns body)
part_none part whole (parts.if_arm_cond at cond body) none =
    omega (arith, none, eq.fold_if_arm-roll armless_steps at cond body)
part_none part whole (parts.if_arm_body at cond body) none =
    omega (arith, none, eq.fold_if_arm-roll armless_steps at cond body)
part_none part whole (parts.prop_value prop value is) none =
    omega (arith, none, ap value_armless is)
part_none part whole (parts.func_body func) none = none
part_none part whole (parts.init_body init) none = none
part_none part whole (parts.entry_body word written at is_async body) none = none
part_none part whole (parts.struct_field word conforms fields funcs one has) none =
    one_by prop_armless fields one (omega (arith, none)) has
part_none part whole (parts.struct_func word conforms fields funcs one has) none =
    one_by func_armless funcs one (omega (arith, none)) has
part_none part whole (parts.enum_func word conforms cases funcs one has) none =
    one_by func_armless funcs one none has
part_none part whole (parts.class_prop written word conforms props inits funcs one has) none =
    one_by prop_armless props one (omega (arith, none)) has
part_none part whole (parts.class_init written word conforms props inits funcs one has) none =
    one_by init_armless inits one (omega (arith, none)) has
part_none part whole (parts.class_func written word conforms props inits funcs one has) none =
    one_by func_armless funcs one (omega (arith, none)) has
part_none part whole (parts.actor_prop word props inits funcs one has) none =
    one_by prop_armless props one (omega (arith, none)) has
part_none part whole (parts.actor_init word props inits funcs one has) none =
    one_by init_armless inits one (omega (arith, none)) has
part_none part whole (parts.actor_func word props inits funcs one has) none =
    one_by func_armless funcs one (omega (arith, none)) has
part_none part whole (parts.decl_func func) none = none
part_none part whole (parts.decl_global prop) none = none
part_none part whole (parts.one_decl all one has) none = one_by decl_armless all one none has

-- also at any depth
inner_none : (inner whole : Tree) → StandsIn inner whole → armless whole ≡ 0 → armless inner ≡ 0
inner_none inner whole (parts.itself _) none = none
inner_none inner whole (parts.inside _ part _ stands is) none =
    inner_none inner part stands (part_none part whole is none)

-- An `if` without arms is one.
pub has_arm : (whole : Tree) → armless whole ≡ 0 → (otherwise : Option Block)
    → StandsIn (of_stmt (stmts.If [] otherwise)) whole → ⊥
has_arm whole none otherwise stands =
    absurd (omega (
      arith,
      inner_none (of_stmt (stmts.If [] otherwise)) whole stands none,
      eq.fold_stmt-If armless_steps [] otherwise,
    ))
