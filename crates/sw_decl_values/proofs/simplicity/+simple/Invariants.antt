use Rattle.std.proofs.Common.{◌≡◌, map, take, nat_eq}
use Rattle.indexmap.specs.IndexMap.{get}
use Rattle.sw_tree.specs.Folds.{fold_arg, fold_link}
use Rattle.sw_decl_words.specs.Evident.{tabled}
use Rattle.sw_decl_values.specs.Simple.{all_simple, worth_steps}
use Rattle.sw_decl_values.proofs.simplicity.+simple.Given as goal

abbrev pub invariant-are_args_simple-loop-arg : goal.invariant-are_args_simple-loop-arg
invariant-are_args_simple-loop-arg l = l.all ≡ all_simple
    (map (fold_arg (worth_steps (tabled l.words l.members) l.owner (get nat_eq l.params.places)))
    (take l.arg-index l.args))

abbrev pub invariant-are_links_simple-loop-link : goal.invariant-are_links_simple-loop-link
invariant-are_links_simple-loop-link l = l.all ≡ all_simple
    (map (fold_link (worth_steps (tabled l.words l.members) l.owner (get nat_eq l.params.places)))
    (take l.link-index l.links))
