-- The functions, the initialisers, and the properties with first values, of a declaration.
use Rattle.std.proofs.Common.{List, [], ◌∷◌}
use Rattle.sw_tree.specs.declared.decl.Decl.{Decl}
use Rattle.sw_tree.specs.declared.decl.Decl.TheVariants.{Entry, Struct, Enum, Class, Actor}
use Rattle.sw_tree.specs.declared.decl.Decl.TheVariants.{GlobalActor, Func, Global}
use Rattle.sw_tree.specs.declared.decl.FuncTree.{FuncTree}
use Rattle.sw_tree.specs.declared.decl.InitTree.{InitTree}
use Rattle.sw_tree.specs.declared.decl.PropTree.{PropTree}

abbrev pub funcs_in : Decl → List FuncTree
funcs_in (Entry word written at is_async body) = []
funcs_in (Struct word conforms fields funcs) = funcs
funcs_in (Enum word conforms cases funcs) = funcs
funcs_in (Class written word conforms props inits funcs) = funcs
funcs_in (Actor word props inits funcs) = funcs
funcs_in (GlobalActor word made) = []
funcs_in (Func func) = func ∷ []
funcs_in (Global prop) = []

abbrev pub inits_in : Decl → List InitTree
inits_in (Entry word written at is_async body) = []
inits_in (Struct word conforms fields funcs) = []
inits_in (Enum word conforms cases funcs) = []
inits_in (Class written word conforms props inits funcs) = inits
inits_in (Actor word props inits funcs) = inits
inits_in (GlobalActor word made) = []
inits_in (Func func) = []
inits_in (Global prop) = []

abbrev pub props_in : Decl → List PropTree
props_in (Entry word written at is_async body) = []
props_in (Struct word conforms fields funcs) = []
props_in (Enum word conforms cases funcs) = []
props_in (Class written word conforms props inits funcs) = props
props_in (Actor word props inits funcs) = props
props_in (GlobalActor word made) = []
props_in (Func func) = []
props_in (Global prop) = []
