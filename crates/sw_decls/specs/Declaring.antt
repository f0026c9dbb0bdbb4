-- What a program declares, and the first breach of the rules on declarations.
use Rattle.std.specs.Prelude.{◌≡◌, ◌==◌, ℕ, Bool, List, [], ◌∷◌, ◌++◌, Option, Some, None}
use Rattle.std.specs.Prelude.{◌+◌, flat_map, nat_eq, unwrap_or, if◌then◌else◌, IsPermutation}
use Rattle.std.specs.List.Sorted.{IsNonDecreasingBy}
use Rattle.indexmap.specs.IndexMap.{get}
use Rattle.sw_tree.specs.Names.{main_actor_id}
use Rattle.sw_tree.specs.declared.decl.Decl.{Decl}
use Rattle.sw_tree.specs.declared.decl.Decl.TheVariants.{Entry, Struct, Enum, Class, Actor}
use Rattle.sw_tree.specs.declared.decl.Decl.TheVariants.{GlobalActor, Func, Global}
use Rattle.sw_tree.specs.declared.decl.InitTree.{InitTree}
use Rattle.sw_types.specs.declared.shape.Shape.{Shape}
use Rattle.sw_decl_words.specs.Evident.{meanings_of}
use Rattle.sw_decl_words.specs.Members.{member_at, member_of}
use Rattle.sw_decl_words.specs.Placed.{IsFirstPlaced}
use Rattle.sw_decl_words.specs.Shaped.{shapes_from}
use Rattle.sw_decl_words.specs.Words.{or_else, top_meaning}
use Rattle.sw_decl_words.specs.declared.placed.Placed.{Placed}
use Rattle.sw_decl_members.specs.Members.{entry_place, in_program}
use Rattle.sw_decl_values.specs.Profile.{values_from}
use Rattle.sw_decls.specs.Holders.{AreHolders, holders}
use Rattle.sw_decls.specs.Hollow.{hollowed}
use Rattle.sw_decls.specs.Signatures.{funcs_from, global_of}
use Rattle.sw_decls.specs.Wide.{wide}
use Rattle.sw_decls.specs.declared.declaring.DeclFault.{DeclFault}
use Rattle.sw_decls.specs.declared.declaring.DeclFault.TheVariants.{Breach, Memory}
use Rattle.sw_decls.specs.declared.declaring.Decls.{Decls}
use Rattle.sw_decls.specs.declared.signature.AsyncDefault.{AsyncDefault}
use Rattle.sw_decls.specs.declared.signature.Signature.{Signature}

-- the shapes of a program
abbrev pub made_shapes : List Decl → List Shape
made_shapes decls = shapes_from (meanings_of decls) 0 decls

-- the breaches of names, written types, entries and values
abbrev pub breaches_of_decls : List Decl → List Placed
breaches_of_decls decls =
    in_program (top_meaning decls) decls ++ values_from (meanings_of decls) 0 decls

-- The types that hold themselves, which the marks tell, and those with too many parts. A type that
-- holds itself counts as one without parts where it is a part.
abbrev pub breaches_of_shapes : List Shape → List Bool → List Placed
breaches_of_shapes shapes marks = holders shapes marks ++ wide (hollowed marks shapes)

-- the breaches of a program, where the marks tell which of its shapes hold themselves
abbrev pub breaches_of : List Decl → List Bool → List Placed
breaches_of decls marks =
    breaches_of_decls decls ++ breaches_of_shapes (made_shapes decls) marks

-- the first breach of a program, where there is one
abbrev pub IsFirstBreach : List Decl → Option Placed → Type 0
IsFirstBreach decls first =
    (marks : List Bool) × (AreHolders (made_shapes decls) marks
    × IsFirstPlaced (breaches_of decls marks) first)

-- The fault is the first breach of a program. Nothing is said of memory.
abbrev pub IsDeclarationFault : List Decl → DeclFault → Type 0
IsDeclarationFault decls (Breach code at) =
    IsFirstBreach decls (Some (record { at = at; code = code }))
IsDeclarationFault decls Memory = Unit {0}

-- the words of the declared global actors
abbrev pub actor_ids : Decl → List ℕ
actor_ids (Entry word written at is_async body) = []
actor_ids (Struct word conforms fields funcs) = []
actor_ids (Enum word conforms cases funcs) = []
actor_ids (Class written word conforms props inits funcs) = []
actor_ids (Actor word props inits funcs) = []
actor_ids (GlobalActor word made) = word.id ∷ []
actor_ids (Func func) = []
actor_ids (Global global) = []

-- where the key of a function stands
abbrev pub key_place : Signature → ℕ
key_place func = func.key.at

-- the number of the first function with this key, of functions that are numbered from here
abbrev pub numbered_from : ℕ → List Signature → ℕ → Option ℕ
numbered_from number [] key = None
numbered_from number (func ∷ funcs) key =
    or_else (if key_place func == key then Some number else None)
    (numbered_from (number + 1) funcs key)

-- the number of the function with this key, if there is one
abbrev pub numbered : List Signature → ℕ → Option ℕ
numbered funcs key = numbered_from 0 funcs key

-- Where the key of the initialiser of a declared class or actor stands: its `init`, or the type's
-- word where none is written. A struct and an enum have none, and their word stands for it.
abbrev pub init_key : ℕ → List InitTree → ℕ
init_key word [] = word
init_key word (init ∷ more) = init.at

abbrev pub maker_keys : Decl → List ℕ
maker_keys (Entry word written at is_async body) = []
maker_keys (Struct word conforms fields funcs) = word.at ∷ []
maker_keys (Enum word conforms cases funcs) = word.at ∷ []
maker_keys (Class written word conforms props inits funcs) = init_key word.at inits ∷ []
maker_keys (Actor word props inits funcs) = init_key word.at inits ∷ []
maker_keys (GlobalActor word made) = []
maker_keys (Func func) = []
maker_keys (Global global) = []

abbrev pub first_or : List ℕ → ℕ → ℕ
first_or [] other = other
first_or (first ∷ more) other = first

-- where the word `main` of the first entry stands; at the start of the text where there is none
abbrev pub entry_key : List Decl → ℕ
entry_key decls = first_or (flat_map entry_place decls) 0

-- what a program declares
pub record IsDeclared (decls : List Decl) (rule : AsyncDefault) (made : Decls) : Type 0 where
  pub shapes : made.shapes ≡ made_shapes decls
  -- global actor 0 is `MainActor` (SE-0316)
  pub actors : made.actors ≡ main_actor_id ∷ flat_map actor_ids decls
  -- the functions of the declarations, in the order of their keys
  pub funcs : IsPermutation (funcs_from (top_meaning decls) rule 0 decls) made.funcs
  pub ordered : IsNonDecreasingBy key_place made.funcs
  pub globals : made.globals ≡ flat_map (global_of (meanings_of decls)) decls
  pub numbers : (key : ℕ) → get nat_eq made.numbers.table key ≡ numbered made.funcs key
  pub entry : made.entry ≡ unwrap_or (numbered made.funcs (entry_key decls)) 0
  -- of each shape the key of its initialiser
  pub makers : made.makers ≡ flat_map maker_keys decls
  -- what words mean at top level, and the members of types by name
  pub words : (id : ℕ) → get nat_eq made.words.meanings id ≡ top_meaning decls id
  pub members : (shape word : ℕ) → member_at made.members shape word ≡ member_of decls shape word
