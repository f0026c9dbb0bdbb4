-- The first values of global variables.
use Rattle.std.specs.Prelude.{List, IsSome, Contains}
use Rattle.sw_tree.specs.declared.decl.Decl.{Decl}
use Rattle.sw_tree.specs.declared.decl.Decl.TheVariants.{Global}
use Rattle.sw_tree.specs.declared.decl.PropTree.{PropTree}

-- each global variable that is declared has a first value
abbrev pub AreValued : List Decl → Type 0
AreValued decls = (prop : PropTree) → Contains decls (Global prop) → IsSome prop.value
