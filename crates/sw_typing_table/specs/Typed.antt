-- The types and meanings of a program's nodes.
use Rattle.std.specs.Prelude.{◌≡◌, ◌==◌, ℕ, List, [], ◌∷◌, Option, Some, None, nat_eq}
use Rattle.std.specs.Prelude.{if◌then◌else◌}
use Rattle.indexmap.specs.IndexMap.{get}
use Rattle.sw_tree.specs.declared.decl.Decl.{Decl}
use Rattle.sw_types.specs.declared.ty.Ty.{Ty}
use Rattle.sw_typing_rules.specs.Programs.{said}
use Rattle.sw_typing_rules.specs.Worlds.{World}
use Rattle.sw_typing_rules.specs.declared.row.Meaning.{Meaning}
use Rattle.sw_typing_rules.specs.declared.row.Row.{Row}
use Rattle.sw_typing_rules.specs.declared.row.Row.TheVariants.{Typed, Means, Ill}
use Rattle.sw_typing_table.specs.declared.typed.Typed as typing

-- the type that is first said of a key
abbrev pub type_in : List Row → ℕ → Option Ty
type_in [] at = None
type_in (Typed key ty ∷ rows) at = if key == at then Some ty else type_in rows at
type_in (Means key meaning ∷ rows) at = type_in rows at
type_in (Ill key code unless ∷ rows) at = type_in rows at

-- the meaning that is first said of a key
abbrev pub meaning_in : List Row → ℕ → Option Meaning
meaning_in [] at = None
meaning_in (Typed key ty ∷ rows) at = meaning_in rows at
meaning_in (Means key meaning ∷ rows) at = if key == at then Some meaning else meaning_in rows at
meaning_in (Ill key code unless ∷ rows) at = meaning_in rows at

-- the types and the meanings are those that are said of the program's nodes
pub record IsTyped (world : World) (decls : List Decl) (typed : typing.Typed) : Type 0 where
  pub types : (at : ℕ) → get nat_eq typed.types at ≡ type_in (said world decls) at
  pub meanings : (at : ℕ) → get nat_eq typed.meanings at ≡ meaning_in (said world decls) at
