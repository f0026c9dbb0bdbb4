use Rattle.std.proofs.Common.{◌≡◌, ◌++◌, map, take, nat_eq}
use Rattle.std.specs.List.{flat_map}
use Rattle.indexmap.specs.IndexMap.{get}
use Rattle.sw_tree.specs.Folds.{fold_arg, fold_case_arm, fold_if_arm, fold_link, fold_stmt}
use Rattle.sw_decl_names.specs.Bodies.{DeclaredInside, all_found, body_steps}
use Rattle.sw_decl_names.proofs.bodies.+bodies.Given as goal

abbrev pub invariant-in_args-loop-arg : goal.invariant-in_args-loop-arg
invariant-in_args-loop-arg l = l.found ≡ l.fn.found ++ all_found
    (map (fold_arg (body_steps (get nat_eq l.words.meanings))) (take l.arg-index l.args))

abbrev pub invariant-in_links-loop-link : goal.invariant-in_links-loop-link
invariant-in_links-loop-link l = l.found ≡ l.fn.found ++ all_found
    (map (fold_link (body_steps (get nat_eq l.words.meanings))) (take l.link-index l.links))

abbrev pub invariant-in_if_arms-loop-arm : goal.invariant-in_if_arms-loop-arm
invariant-in_if_arms-loop-arm l = l.found ≡ l.fn.found ++ all_found
    (map (fold_if_arm (body_steps (get nat_eq l.words.meanings))) (take l.arm-index l.arms))

abbrev pub invariant-in_case_arms-loop-arm : goal.invariant-in_case_arms-loop-arm
invariant-in_case_arms-loop-arm l = l.found ≡ l.fn.found ++ all_found
    (map (fold_case_arm (body_steps (get nat_eq l.words.meanings))) (take l.arm-index l.arms))

abbrev pub invariant-in_block-loop-stmt : goal.invariant-in_block-loop-stmt
invariant-in_block-loop-stmt l =
    (l.found ≡ l.fn.found ++ flat_map (λ (one : DeclaredInside). one.found)
    (map (fold_stmt (body_steps (get nat_eq l.words.meanings))) (take l.stmt-index l.stmt-items)))
    × (l.names ≡ l.fn.names ++ flat_map (λ (one : DeclaredInside). one.names)
    (map (fold_stmt (body_steps (get nat_eq l.words.meanings))) (take l.stmt-index l.stmt-items)))
