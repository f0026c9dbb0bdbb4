-- Where no body of a task in a program has a parameter, none in a declaration has one.
use Rattle.std.proofs.Common.{◌≡◌, ℕ, List, [], ◌++◌, flat_map, Option, Some, Contains, subst}
use Rattle.std.proofs.Common.{option_map, unwrap_or}
use Rattle.sw_list.proofs.Members.{none_in}
use Rattle.sw_tree.specs.declared.decl.Decl.{Decl}
use Rattle.sw_tree.specs.declared.decl.Decl.TheVariants.{Entry, Struct, Enum, Class, Actor}
use Rattle.sw_tree.specs.declared.decl.Decl.TheVariants.{GlobalActor, Func, Global}
use Rattle.sw_tree.specs.declared.decl.FuncTree.{FuncTree}
use Rattle.sw_tree.specs.declared.decl.InitTree.{InitTree}
use Rattle.sw_tree.specs.declared.decl.PropTree.{PropTree}
use Rattle.sw_tree.specs.declared.expr.Expr.{Expr}
use Rattle.sw_tree_facts.specs.Unwritten.{AreWritten, block_unwritten, decl_unwritten}
use Rattle.sw_tree_facts.specs.Unwritten.{expr_unwritten, func_unwritten, init_unwritten}
use Rattle.sw_tree_facts.specs.Unwritten.{prop_unwritten}
use Rattle.sw_typing_facts.proofs.Lists.Listed.{only_in}
use Rattle.sw_typing_facts.proofs.Programs.DeclParts.{funcs_in, inits_in, props_in}
use Rattle.sw_typing_facts.proofs.Programs.DeclStands.{none_left, none_right}
use Rattle.sw_typing_facts.proofs.Programs.NamesApart.{none_of}
use Rattle.sw_typing_facts.proofs.Programs.Standing.{Stands, stands_in}

-- a declaration of a program
pub decl_without : (decls : List Decl) → AreWritten decls → (n g : ℕ) (decl : Decl)
    → Stands decls n g decl → decl_unwritten decl ≡ []
decl_without decls none n g decl stands =
    none_of decl_unwritten decls decl none (stands_in 0 0 decls n g decl stands)

-- a first value
pub value_without : (prop : PropTree) (value : Expr) → prop_unwritten prop ≡ []
    → prop.value ≡ Some value → expr_unwritten value ≡ []
value_without prop value none is =
    subst (λ (found : Option Expr). unwrap_or (option_map expr_unwritten found) [] ≡ []) is none

-- the parts of a class or an actor
module _ (props : List PropTree) (inits : List InitTree) (funcs : List FuncTree)
    (none : flat_map prop_unwritten props ++ flat_map init_unwritten inits
    ++ flat_map func_unwritten funcs ≡ [])
  where
    first_without : flat_map prop_unwritten props ++ flat_map init_unwritten inits ≡ []
    first_without =
        none_left (flat_map prop_unwritten props ++ flat_map init_unwritten inits)
        (flat_map func_unwritten funcs) none

    its_func : (tree : FuncTree) → Contains funcs tree → block_unwritten tree.body ≡ []
    its_func tree has =
        none_of func_unwritten funcs tree
        (none_right (flat_map prop_unwritten props ++ flat_map init_unwritten inits)
        (flat_map func_unwritten funcs) none) has

    its_init : (init : InitTree) → Contains inits init → block_unwritten init.body ≡ []
    its_init init has =
        none_of init_unwritten inits init
        (none_right (flat_map prop_unwritten props) (flat_map init_unwritten inits)
        first_without) has

    its_prop : (prop : PropTree) → Contains props prop → prop_unwritten prop ≡ []
    its_prop prop has =
        none_of prop_unwritten props prop
        (none_left (flat_map prop_unwritten props) (flat_map init_unwritten inits)
        first_without) has

-- a function or a method
pub func_without : (decl : Decl) (tree : FuncTree) → decl_unwritten decl ≡ []
    → Contains (funcs_in decl) tree → block_unwritten tree.body ≡ []
func_without (Entry word written at is_async body) tree none has = absurd (none_in tree has)
func_without (Struct word conforms fields funcs) tree none has =
    none_of func_unwritten funcs tree (none_right (flat_map prop_unwritten fields)
    (flat_map func_unwritten funcs) none) has
func_without (Enum word conforms cases funcs) tree none has =
    none_of func_unwritten funcs tree none has
func_without (Class written word conforms props inits funcs) tree none has =
    its_func props inits funcs none tree has
func_without (Actor word props inits funcs) tree none has =
    its_func props inits funcs none tree has
func_without (GlobalActor word made) tree none has = absurd (none_in tree has)
func_without (Func func) tree none has =
    subst (λ (one : FuncTree). func_unwritten one ≡ []) (only_in func tree has) none
func_without (Global prop) tree none has = absurd (none_in tree has)

-- an initialiser
pub init_without : (decl : Decl) (init : InitTree) → decl_unwritten decl ≡ []
    → Contains (inits_in decl) init → block_unwritten init.body ≡ []
init_without (Entry word written at is_async body) init none has = absurd (none_in init has)
init_without (Struct word conforms fields funcs) init none has = absurd (none_in init has)
init_without (Enum word conforms cases funcs) init none has = absurd (none_in init has)
init_without (Class written word conforms props inits funcs) init none has =
    its_init props inits funcs none init has
init_without (Actor word props inits funcs) init none has =
    its_init props inits funcs none init has
init_without (GlobalActor word made) init none has = absurd (none_in init has)
init_without (Func func) init none has = absurd (none_in init has)
init_without (Global prop) init none has = absurd (none_in init has)

-- a property
pub prop_without : (decl : Decl) (prop : PropTree) → decl_unwritten decl ≡ []
    → Contains (props_in decl) prop → prop_unwritten prop ≡ []
prop_without (Entry word written at is_async body) prop none has = absurd (none_in prop has)
prop_without (Struct word conforms fields funcs) prop none has = absurd (none_in prop has)
prop_without (Enum word conforms cases funcs) prop none has = absurd (none_in prop has)
prop_without (Class written word conforms props inits funcs) prop none has =
    its_prop props inits funcs none prop has
prop_without (Actor word props inits funcs) prop none has =
    its_prop props inits funcs none prop has
prop_without (GlobalActor word made) prop none has = absurd (none_in prop has)
prop_without (Func func) prop none has = absurd (none_in prop has)
prop_without (Global global) prop none has = absurd (none_in prop has)
