-- What words mean at top level.
use Rattle.std.specs.Prelude.{ℕ, Bool, nat_lt, not, ◌&&◌, ◌+◌, ◌==◌, List, [], ◌∷◌, Option, Some}
use Rattle.std.specs.Prelude.{None, if◌then◌else◌}
use Rattle.sw_tree.specs.Names.{main_actor_id, reserved_names}
use Rattle.sw_tree.specs.declared.decl.Decl.{Decl}
use Rattle.sw_tree.specs.declared.decl.Decl.TheVariants.{Entry, Struct, Enum, Class, Actor}
use Rattle.sw_tree.specs.declared.decl.Decl.TheVariants.{GlobalActor, Func, Global}
use Rattle.sw_tree.specs.declared.name.Name.{Name}
use Rattle.sw_types.specs.declared.shape.ShapeKind.TheVariants as kind
use Rattle.sw_decl_words.specs.declared.words.Meaning.{Meaning}
use Rattle.sw_decl_words.specs.declared.words.Meaning.TheVariants as means

-- the word that a declaration declares
abbrev pub word_of : Decl → Name
word_of (Entry word written at is_async body) = word
word_of (Struct word conforms fields funcs) = word
word_of (Enum word conforms cases funcs) = word
word_of (Class written word conforms props inits funcs) = word
word_of (Actor word props inits funcs) = word
word_of (GlobalActor word made) = word
word_of (Func func) = func.word
word_of (Global global) = global.word

-- Shapes are numbered in the order of their declarations; a global actor has none.
abbrev pub shapes_made : Decl → ℕ
shapes_made (Entry word written at is_async body) = 0
shapes_made (Struct word conforms fields funcs) = 1
shapes_made (Enum word conforms cases funcs) = 1
shapes_made (Class written word conforms props inits funcs) = 1
shapes_made (Actor word props inits funcs) = 1
shapes_made (GlobalActor word made) = 0
shapes_made (Func func) = 0
shapes_made (Global global) = 0

abbrev pub actors_made : Decl → ℕ
actors_made (Entry word written at is_async body) = 0
actors_made (Struct word conforms fields funcs) = 0
actors_made (Enum word conforms cases funcs) = 0
actors_made (Class written word conforms props inits funcs) = 0
actors_made (Actor word props inits funcs) = 0
actors_made (GlobalActor word made) = 1
actors_made (Func func) = 0
actors_made (Global global) = 0

abbrev pub globals_made : Decl → ℕ
globals_made (Entry word written at is_async body) = 0
globals_made (Struct word conforms fields funcs) = 0
globals_made (Enum word conforms cases funcs) = 0
globals_made (Class written word conforms props inits funcs) = 0
globals_made (Actor word props inits funcs) = 0
globals_made (GlobalActor word made) = 0
globals_made (Func func) = 0
globals_made (Global global) = 1

-- what the word of a declaration means, by the numbers of shapes, global actors and global
-- variables before it
abbrev pub meaning_at : Decl → ℕ → ℕ → ℕ → Meaning
meaning_at (Entry word written at is_async body) number actors globals = means.Entry
meaning_at (Struct word conforms fields funcs) number actors globals =
    means.Shape kind.Struct number
meaning_at (Enum word conforms cases funcs) number actors globals = means.Shape kind.Enum number
meaning_at (Class written word conforms props inits funcs) number actors globals =
    means.Shape kind.Class number
meaning_at (Actor word props inits funcs) number actors globals = means.Shape kind.Actor number
meaning_at (GlobalActor word made) number actors globals = means.GlobalActor actors
meaning_at (Func func) number actors globals = means.Func func.word.at
meaning_at (Global global) number actors globals = means.Global globals

-- the first of two answers that there is
abbrev pub or_else : {A : Type 0} → Option A → Option A → Option A
or_else None other = other
or_else (Some x) other = Some x

-- whether it is one of the predeclared names that can't be declared
abbrev pub is_reserved : ℕ → Bool
is_reserved id = nat_lt id reserved_names

-- whether the declaration of one word gives another its meaning
abbrev pub declares : ℕ → ℕ → Bool
declares word id = not (is_reserved word) && (word == id)

-- what the first declaration of a word makes of it
abbrev pub meaning_from : List Decl → ℕ → ℕ → ℕ → ℕ → Option Meaning
meaning_from [] number actors globals id = None
meaning_from (decl ∷ decls) number actors globals id =
    or_else
    (if declares (word_of decl).id id then Some (meaning_at decl number actors globals) else None)
    (meaning_from decls (number + shapes_made decl) (actors + actors_made decl)
    (globals + globals_made decl) id)

-- what a word means before a program declares any: `MainActor` is global actor 0 (SE-0316)
abbrev pub given_meaning : ℕ → Option Meaning
given_meaning id = if main_actor_id == id then Some (means.GlobalActor 0) else None

-- What a word means at top level. The declared global actors follow `MainActor`.
abbrev pub top_meaning : List Decl → ℕ → Option Meaning
top_meaning decls id = or_else (given_meaning id) (meaning_from decls 0 1 0 id)
