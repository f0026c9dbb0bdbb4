use Rattle.std.proofs.Common.{◌≡◌, ◌++◌, ◌≤◌, drop}
use Rattle.sw_decl_words.specs.Evident.{tabled}
use Rattle.sw_decl_values.specs.Profile.{values_from}
use Rattle.sw_decl_values.proofs.profile.add_values.Given as goal

-- the breaches so far, and those of the declarations that are left
abbrev pub invariant-loop-decl : goal.invariant-loop-decl
invariant-loop-decl l = (l.shape ≤ l.decl-index)
    × (l.found ++ values_from (tabled l.words l.members) l.shape (drop l.decl-index l.decls)
    ≡ l.fn.found ++ values_from (tabled l.words l.members) 0 l.decls)
