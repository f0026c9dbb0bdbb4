-- The grammar: what stands in each nest.
use Rattle.std.specs.Prelude.{◌≡◌, ℕ, List, true, refl}
use Rattle.sw_grammar.specs.Around.{around_in, outermost}
use Rattle.sw_grammar.specs.Nests.{Nest, El, shape_of, Form}
use Rattle.sw_grammar.specs.Nests.Nest.{in_types, in_payload, in_result, in_task_type, in_round}
use Rattle.sw_grammar.specs.Nests.Nest.{in_args, in_member, in_empty, in_captures}
use Rattle.sw_grammar.specs.Nests.Nest.{in_closure_params, in_closure, in_task, in_block, in_switch}
use Rattle.sw_grammar.specs.Nests.Nest.{in_if_let, in_patterns, in_params, in_isolation, in_entry}
use Rattle.sw_grammar.specs.Nests.Nest.{in_global_actor, in_struct, in_enum, in_class}
use Rattle.sw_grammar.specs.Types as types
use Rattle.sw_grammar.specs.Exprs as exprs
use Rattle.sw_grammar.specs.Closures as closures
use Rattle.sw_grammar.specs.Stmts as stmts
use Rattle.sw_grammar.specs.Decls as decls

-- what stands in each nest
abbrev pub body : (id_of : List ℕ → ℕ) (n : Nest) → Form (shape_of n) (El n)
body id_of in_types = types.types (outermost id_of)
body id_of in_payload = types.payload (outermost id_of)
body id_of in_result = types.type (outermost id_of)
body id_of in_task_type = types.task_inner (outermost id_of)
body id_of (in_round here) = exprs.round (around_in id_of here)
body id_of (in_args here) = exprs.args (around_in id_of here)
body id_of (in_member here) = exprs.member (around_in id_of here)
body id_of in_empty = exprs.nothing (outermost id_of)
body id_of in_captures = closures.captured_words (outermost id_of)
body id_of (in_closure_params here) = closures.closure_params (around_in id_of here)
body id_of (in_closure here) = stmts.closure_inside (around_in id_of here)
body id_of (in_task here) = stmts.task_inside (around_in id_of here)
body id_of (in_block here) = stmts.statements (around_in id_of here)
body id_of (in_switch here) = stmts.switch_inside (around_in id_of here)
body id_of (in_if_let here) = stmts.if_let_inside (around_in id_of here)
body id_of (in_patterns here) = stmts.patterns_inside (around_in id_of here)
body id_of in_params = decls.params_inside (outermost id_of)
body id_of in_isolation = decls.isolation_inside (outermost id_of)
body id_of in_entry = decls.entry_inside (outermost id_of)
body id_of in_global_actor = decls.global_actor_inside (outermost id_of)
body id_of in_struct = decls.struct_inside (outermost id_of)
body id_of in_enum = decls.enum_inside (outermost id_of)
body id_of in_class = decls.class_inside (outermost id_of)

-- The shapes of the nests are good.
pub good : (n : Nest) → (shape_of n).ok ≡ true
good in_types = refl
good in_payload = refl
good in_result = refl
good in_task_type = refl
good (in_round here) = refl
good (in_args here) = refl
good (in_member here) = refl
good in_empty = refl
good in_captures = refl
good (in_closure_params here) = refl
good (in_closure here) = refl
good (in_task here) = refl
good (in_block here) = refl
good (in_switch here) = refl
good (in_if_let here) = refl
good (in_patterns here) = refl
good in_params = refl
good in_isolation = refl
good in_entry = refl
good in_global_actor = refl
good in_struct = refl
good in_enum = refl
good in_class = refl
