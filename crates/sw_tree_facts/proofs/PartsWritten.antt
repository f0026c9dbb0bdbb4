-- A tree that has nothing unwritten has no part which has something unwritten. So no task in it has
-- a parameter and no chain in it is without an operator.
use Rattle.std.proofs.Common.{◌≡◌, ◌≢◌, List, [], ◌∷◌, map, flat_map, Some, option_map, unwrap_or}
use Rattle.std.proofs.Common.{sym, ap, ◌∙◌}
use mathlib.Core.List.{append-eq-nil_iff, map-eq-nil_iff}
use Rattle.sw_tree.specs.Keys.{Keys}
use Rattle.sw_tree.specs.declared.expr.Expr.TheVariants as exprs
use Rattle.sw_tree_facts.proofs.EmptyLists.{one_joined, one_flat}
use Rattle.sw_tree_facts.proofs.UnwrittenEquations as unwritten
use Rattle.sw_tree_facts.proofs.UnwrittenEquations.{stmt_unwritten, arg_unwritten}
use Rattle.sw_tree_facts.proofs.UnwrittenEquations.{closure_unwritten, link_unwritten}
use Rattle.sw_tree_facts.proofs.UnwrittenEquations.{case_arm_unwritten, if_arm_unwritten}
use Rattle.sw_tree_facts.specs.Parts.{Tree, of_expr, of_stmt, of_arg, of_closure, of_link, of_block}
use Rattle.sw_tree_facts.specs.Parts.{of_case_arm, of_if_arm, of_prop, of_func, of_init, of_decl}
use Rattle.sw_tree_facts.specs.Parts.{of_decls, IsPart, StandsIn, TasksTakeNothing}
use Rattle.sw_tree_facts.specs.Parts.{ChainsHaveOperators}
use Rattle.sw_tree_facts.specs.Parts as parts
use Rattle.sw_tree_facts.specs.Unwritten.{bare, expr_unwritten, block_unwritten, func_unwritten}
use Rattle.sw_tree_facts.specs.Unwritten.{init_unwritten, prop_unwritten, decl_unwritten}

-- what no text writes in a tree
abbrev pub in_tree : Tree → Keys
in_tree (of_expr expr) = expr_unwritten expr
in_tree (of_stmt stmt) = stmt_unwritten stmt
in_tree (of_arg arg) = arg_unwritten arg
in_tree (of_closure closure) = closure_unwritten closure
in_tree (of_link link) = link_unwritten link
in_tree (of_block block) = block_unwritten block
in_tree (of_case_arm arm) = case_arm_unwritten arm
in_tree (of_if_arm arm) = if_arm_unwritten arm
in_tree (of_prop prop) = prop_unwritten prop
in_tree (of_func func) = func_unwritten func
in_tree (of_init init) = init_unwritten init
in_tree (of_decl decl) = decl_unwritten decl
in_tree (of_decls all) = flat_map decl_unwritten all

-- nothing is unwritten in it
abbrev pub IsWritten : Tree → Type 0
IsWritten tree = in_tree tree ≡ []

part_written : (part whole : Tree) → IsPart part whole → IsWritten whole → IsWritten part
part_written part whole (parts.member_base base name) none =
    sym (unwritten.expr_unwritten-Member base name) ∙ none
part_written part whole (parts.call_arg name args one has) none =
    one_joined arg_unwritten args one (sym (unwritten.expr_unwritten-Call name args) ∙ none) has
part_written part whole (parts.method_base base name args) none =
    (append-eq-nil_iff.0 (sym (unwritten.expr_unwritten-Method base name args) ∙ none)).0
part_written part whole (parts.method_arg base name args one has) none =
    one_joined arg_unwritten args one
    (append-eq-nil_iff.0 (sym (unwritten.expr_unwritten-Method base name args) ∙ none)).1 has
part_written part whole (parts.chain_first first rest) none =
    (append-eq-nil_iff.0 (append-eq-nil_iff.0
    (sym (unwritten.expr_unwritten-Chain first rest) ∙ none)).0).0
part_written part whole (parts.chain_link first rest one has) none =
    one_joined link_unwritten rest one
    (append-eq-nil_iff.0 (append-eq-nil_iff.0
    (sym (unwritten.expr_unwritten-Chain first rest) ∙ none)).0).1 has
part_written part whole (parts.prefix_inner op at inner) none =
    sym (unwritten.expr_unwritten-Prefix op at inner) ∙ none
part_written part whole (parts.await_inner at inner) none =
    sym (unwritten.expr_unwritten-Await at inner) ∙ none
part_written part whole (parts.fun_closure closure) none =
    sym (unwritten.expr_unwritten-Fun closure) ∙ none
part_written part whole (parts.spawn_body at detached body) none =
    (append-eq-nil_iff.0 (sym (unwritten.expr_unwritten-Spawn at detached body) ∙ none)).1
part_written part whole (parts.bind_value mutable name ty value) none =
    sym (unwritten.stmt_unwritten-Bind mutable name ty value) ∙ none
part_written part whole (parts.assign_place at op place value) none =
    (append-eq-nil_iff.0 (sym (unwritten.stmt_unwritten-Assign at op place value) ∙ none)).0
part_written part whole (parts.assign_value at op place value) none =
    (append-eq-nil_iff.0 (sym (unwritten.stmt_unwritten-Assign at op place value) ∙ none)).1
part_written part whole (parts.discard_value at value) none =
    sym (unwritten.stmt_unwritten-Discard at value) ∙ none
part_written part whole (parts.if_one arms otherwise one has) none =
    one_joined if_arm_unwritten arms one
    (append-eq-nil_iff.0 (sym (unwritten.stmt_unwritten-If arms otherwise) ∙ none)).0 has
part_written part whole (parts.if_otherwise arms otherwise) none =
    (append-eq-nil_iff.0 (sym (unwritten.stmt_unwritten-If arms (Some otherwise)) ∙ none)).1
part_written part whole (parts.while_cond at cond body) none =
    (append-eq-nil_iff.0 (sym (unwritten.stmt_unwritten-While at cond body) ∙ none)).0
part_written part whole (parts.while_body at cond body) none =
    (append-eq-nil_iff.0 (sym (unwritten.stmt_unwritten-While at cond body) ∙ none)).1
part_written part whole (parts.switch_subject at subject arms otherwise) none =
    (append-eq-nil_iff.0 (append-eq-nil_iff.0
    (sym (unwritten.stmt_unwritten-Switch at subject arms otherwise) ∙ none)).0).0
part_written part whole (parts.switch_one at subject arms otherwise one has) none =
    one_joined case_arm_unwritten arms one
    (append-eq-nil_iff.0 (append-eq-nil_iff.0
    (sym (unwritten.stmt_unwritten-Switch at subject arms otherwise) ∙ none)).0).1 has
part_written part whole (parts.switch_otherwise at subject arms otherwise) none =
    (append-eq-nil_iff.0
    (sym (unwritten.stmt_unwritten-Switch at subject arms (Some otherwise)) ∙ none)).1
part_written part whole (parts.return_value at value) none =
    sym (unwritten.stmt_unwritten-Return at (Some value)) ∙ none
part_written part whole (parts.plain_value value) none =
    sym (unwritten.stmt_unwritten-Plain value) ∙ none
part_written part whole (parts.arg_value label value) none =
    sym (unwritten.arg_unwritten-roll label value) ∙ none
part_written part whole (parts.closure_body at mark captures params result body) none =
    sym (unwritten.closure_unwritten-roll at mark captures params result body) ∙ none
part_written part whole (parts.link_operand op at operand) none =
    sym (unwritten.link_unwritten-roll op at operand) ∙ none
part_written part whole (parts.block_stmt stmts one has) none =
    one_joined stmt_unwritten stmts one (sym (unwritten.block_unwritten-roll stmts) ∙ none) has
part_written part whole (parts.case_arm_body name patterns body) none =
    sym (unwritten.case_arm_unwritten-roll name patterns body) ∙ none
part_written part whole (parts.if_arm_cond at cond body) none =
    (append-eq-nil_iff.0 (sym (unwritten.if_arm_unwritten-roll at cond body) ∙ none)).0
part_written part whole (parts.if_arm_body at cond body) none =
    (append-eq-nil_iff.0 (sym (unwritten.if_arm_unwritten-roll at cond body) ∙ none)).1
part_written part whole (parts.prop_value prop value is) none =
    sym (ap (λ given. unwrap_or (option_map expr_unwritten given) []) is) ∙ none
part_written part whole (parts.func_body func) none = none
part_written part whole (parts.init_body init) none = none
part_written part whole (parts.entry_body word written at is_async body) none = none
part_written part whole (parts.struct_field word conforms fields funcs one has) none =
    one_flat prop_unwritten fields one (append-eq-nil_iff.0 none).0 has
part_written part whole (parts.struct_func word conforms fields funcs one has) none =
    one_flat func_unwritten funcs one (append-eq-nil_iff.0 none).1 has
part_written part whole (parts.enum_func word conforms cases funcs one has) none =
    one_flat func_unwritten funcs one none has
part_written part whole (parts.class_prop written word conforms props inits funcs one has) none =
    one_flat prop_unwritten props one (append-eq-nil_iff.0 (append-eq-nil_iff.0 none).0).0 has
part_written part whole (parts.class_init written word conforms props inits funcs one has) none =
    one_flat init_unwritten inits one (append-eq-nil_iff.0 (append-eq-nil_iff.0 none).0).1 has
part_written part whole (parts.class_func written word conforms props inits funcs one has) none =
    one_flat func_unwritten funcs one (append-eq-nil_iff.0 none).1 has
part_written part whole (parts.actor_prop word props inits funcs one has) none =
    one_flat prop_unwritten props one (append-eq-nil_iff.0 (append-eq-nil_iff.0 none).0).0 has
part_written part whole (parts.actor_init word props inits funcs one has) none =
    one_flat init_unwritten inits one (append-eq-nil_iff.0 (append-eq-nil_iff.0 none).0).1 has
part_written part whole (parts.actor_func word props inits funcs one has) none =
    one_flat func_unwritten funcs one (append-eq-nil_iff.0 none).1 has
part_written part whole (parts.decl_func func) none = none
part_written part whole (parts.decl_global prop) none = none
part_written part whole (parts.one_decl all one has) none =
    one_flat decl_unwritten all one none has

-- also at any depth
inner_written : (inner whole : Tree) → StandsIn inner whole → IsWritten whole → IsWritten inner
inner_written inner whole (parts.itself _) none = none
inner_written inner whole (parts.inside _ part _ stands is) none =
    inner_written inner part stands (part_written part whole is none)

bare_not : (links : List Keys) → bare links ≡ [] → links ≢ []
bare_not [] none = absurd (cc)
bare_not (link ∷ more) none = λ is. cc

pub tasks_take_nothing : (whole : Tree) → IsWritten whole → TasksTakeNothing whole
tasks_take_nothing whole none at detached body stands =
    (map-eq-nil_iff (λ param. param.name.at)).0
    (append-eq-nil_iff.0 (sym (unwritten.expr_unwritten-Spawn at detached body)
    ∙ inner_written (of_expr (exprs.Spawn at detached body)) whole stands none)).0

pub chains_have_operators : (whole : Tree) → IsWritten whole → ChainsHaveOperators whole
chains_have_operators whole none first rest stands is =
    bare_not (map link_unwritten rest)
    (append-eq-nil_iff.0 (sym (unwritten.expr_unwritten-Chain first rest)
    ∙ inner_written (of_expr (exprs.Chain first rest)) whole stands none)).1
    (ap (map link_unwritten) is)
