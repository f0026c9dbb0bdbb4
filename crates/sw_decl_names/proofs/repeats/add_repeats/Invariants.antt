use Rattle.std.proofs.Common.{◌≡◌, ◌++◌, take, nat_eq}
use Rattle.std.specs.List.{flat_map}
use Rattle.indexmap.specs.IndexMap.{get}
use Rattle.sw_decl_names.specs.Repeats.{repeated}
use Rattle.sw_decl_names.proofs.repeats.add_repeats.Given as goal

abbrev pub invariant-loop-name : goal.invariant-loop-name
invariant-loop-name l = l.found
    ≡ l.fn.found ++ flat_map (repeated (get nat_eq l.places.places)) (take l.name-index l.names)
