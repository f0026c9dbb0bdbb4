use Rattle.std.proofs.Common.{◌≡◌, ◌++◌, take, nat_eq}
use Rattle.std.specs.List.{flat_map}
use Rattle.indexmap.specs.IndexMap.{get}
use Rattle.sw_decl_values.specs.Values.{lacking}
use Rattle.sw_decl_values.proofs.values.add_without_value.Given as goal

abbrev pub invariant-loop-prop : goal.invariant-loop-prop
invariant-loop-prop l = l.found
    ≡ l.fn.found ++ flat_map (lacking (get nat_eq l.places.places)) (take l.prop-index l.props)
