use Rattle.std.proofs.Common.{◌≡◌, take}
use Rattle.sw_decl_words.specs.Evident.{tabled}
use Rattle.sw_decl_words.specs.declared.words.Words.{Words}
use Rattle.sw_decl_values.specs.Profile.{wanted_names}
use Rattle.sw_decl_values.proofs.profile.wanted_names.Given as goal

abbrev pub invariant-loop-prop : goal.invariant-loop-prop
invariant-loop-prop l = (words : Words)
    → l.names ≡ wanted_names (tabled words l.members) l.shape (take l.prop-index l.props)
