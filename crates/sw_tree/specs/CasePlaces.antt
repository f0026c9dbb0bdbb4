-- The words of the cases of enums, and where they stand. They are no nodes, so the keys of a program
-- have none of their places.
use Rattle.std.specs.Prelude.{◌≢◌, List, [], map}
use Rattle.std.specs.List.{AllByRecursion, AllPairs}
use Rattle.sw_tree.specs.declared.decl.CaseTree.{CaseTree}
use Rattle.sw_tree.specs.declared.decl.Decl.{Decl}
use Rattle.sw_tree.specs.declared.decl.Decl.TheVariants.{Entry, Struct, Enum, Class, Actor}
use Rattle.sw_tree.specs.declared.decl.Decl.TheVariants.{GlobalActor, Func, Global}
use Rattle.sw_tree.specs.declared.name.Name.{Name}

-- the words of the cases of a declaration
abbrev pub case_names : Decl → List Name
case_names (Entry word written at is_async body) = []
case_names (Struct word conforms fields funcs) = []
case_names (Enum word conforms cases funcs) = map (λ (one : CaseTree). one.word) cases
case_names (Class written word conforms props inits funcs) = []
case_names (Actor word props inits funcs) = []
case_names (GlobalActor word made) = []
case_names (Func func) = []
case_names (Global global) = []

-- no two of the names have both their place and their id in common
abbrev pub NamesDiffer : List Name → Type 0
NamesDiffer names = AllPairs (λ one other. one ≢ other) names

-- The words of two cases of one enum differ, in place or in name.
abbrev pub CasesApart : List Decl → Type 0
CasesApart decls = AllByRecursion (λ decl. NamesDiffer (case_names decl)) decls
