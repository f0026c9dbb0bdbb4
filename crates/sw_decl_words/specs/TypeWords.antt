-- What written types mean, by what words mean at top level.
use Rattle.std.specs.Prelude.{ℕ, List, [], ◌∷◌, ◌++◌, Option, Some, None, flat_map, unwrap_or}
use Rattle.std.specs.Prelude.{is_some}
use Rattle.std.specs.Prelude.{if◌then◌else◌, ◌==◌, is_none}
use Rattle.sw_tree.specs.Names.{int_id, bool_id, void_id}
use Rattle.sw_tree.specs.declared.type_tree.TypeTree.{TypeTree, fold-TypeTree}
use Rattle.sw_tree.specs.declared.type_tree.TypeTree.TheOpen as layer
use Rattle.sw_types.specs.declared.ty.Ty.{Ty}
use Rattle.sw_types.specs.declared.ty.Ty.TheVariants as types
use Rattle.sw_decl_words.specs.declared.placed.Placed.{Placed}
use Rattle.sw_decl_words.specs.declared.words.Meaning.{Meaning}
use Rattle.sw_decl_words.specs.declared.words.Meaning.TheVariants.{Shape, GlobalActor, Func, Global}
use Rattle.sw_decl_words.specs.declared.words.Meaning.TheVariants.{Entry}

abbrev pub named_type : Option Meaning → Option Ty
named_type None = None
named_type (Some (Shape kind number)) = Some (types.Named number)
named_type (Some (GlobalActor number)) = None
named_type (Some (Func at)) = None
named_type (Some (Global number)) = None
named_type (Some Entry) = None

module _ (known : ℕ → Option Meaning) where
  -- The type that a word names: `Int`, `Bool`, `Void`, and the declared structs, enums, classes and
  -- actors. `Never`, `Sendable`, `Task` alone and global actors name none.
  abbrev pub type_meaning : ℕ → Option Ty
  type_meaning id =
      if id == int_id then Some types.Int
      else (if id == bool_id then Some types.Bool
      else (if id == void_id then Some types.Unit else named_type (known id)))

  abbrev pub type_layer : layer.TypeTree-F Ty → Ty
  type_layer (layer.Named name) = unwrap_or (type_meaning name.id) types.Unit
  type_layer (layer.Unit at) = types.Unit
  type_layer (layer.Arrow at mark params result) = types.Func (is_some mark) params result
  type_layer (layer.TaskOf at inner) = types.Task inner

  -- the type that a written type means, where a word that names none stands for `Void`
  abbrev pub type_of : TypeTree → Ty
  type_of = fold-TypeTree Ty type_layer

  abbrev pub bad_layer : layer.TypeTree-F (List Placed) → List Placed
  bad_layer (layer.Named name) =
      if is_none (type_meaning name.id) then record { at = name.at; code = 302 } ∷ [] else []
  bad_layer (layer.Unit at) = []
  bad_layer (layer.Arrow at mark params result) = flat_map (λ more. more) params ++ result
  bad_layer (layer.TaskOf at inner) = inner

  -- the words of a written type that name no type
  abbrev pub bad_words : TypeTree → List Placed
  bad_words = fold-TypeTree (List Placed) bad_layer
