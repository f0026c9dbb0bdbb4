use Rattle.std.proofs.Common.{◌≡◌, ◌++◌, take, nat_eq}
use Rattle.std.specs.List.{flat_map}
use Rattle.indexmap.specs.IndexMap.{get}
use Rattle.sw_decl_members.specs.Members.{in_prop}
use Rattle.sw_decl_members.proofs.members.in_props.Given as goal

abbrev pub invariant-loop-prop : goal.invariant-loop-prop
invariant-loop-prop l = l.found ≡ l.fn.found
    ++ flat_map (in_prop (get nat_eq l.words.meanings)) (take l.prop-index l.props)
