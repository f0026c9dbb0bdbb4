use Rattle.std.proofs.Common.{◌≡◌, ◌++◌, take, Some}
use Rattle.std.specs.List.{flat_map}
use Rattle.sw_decl_words.specs.Evident.{tabled}
use Rattle.sw_decl_values.specs.Profile.{first_value}
use Rattle.sw_decl_values.proofs.profile.add_first_values.Given as goal

abbrev pub invariant-loop-prop : goal.invariant-loop-prop
invariant-loop-prop l = l.found ≡ l.fn.found
    ++ flat_map (first_value (tabled l.words l.members) (Some l.shape)) (take l.prop-index l.props)
