use Rattle.std.proofs.Common.{◌≡◌, map, take, Some}
use Rattle.sw_decl_words.specs.Evident.{tabled}
use Rattle.sw_decl_words.specs.Shaped.{part_of}
use Rattle.sw_decl_words.proofs.shaped.parts_of.Given as goal

abbrev pub invariant-loop-prop : goal.invariant-loop-prop
invariant-loop-prop l = l.parts
    ≡ map (part_of (tabled l.words l.members) (Some l.number)) (take l.prop-index l.props)
