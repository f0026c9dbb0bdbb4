-- The shapes of a program.
use Rattle.std.specs.Prelude.{ℕ, ◌+◌, List, [], ◌∷◌, ◌++◌, Option, Some, None, map, unwrap_or}
use Rattle.std.specs.Prelude.{false}
use Rattle.sw_tree.specs.declared.decl.CaseTree.{CaseTree}
use Rattle.sw_tree.specs.declared.decl.Decl.{Decl}
use Rattle.sw_tree.specs.declared.decl.Decl.TheVariants.{Entry, Struct, Enum, Class, Actor}
use Rattle.sw_tree.specs.declared.decl.Decl.TheVariants.{GlobalActor, Func, Global}
use Rattle.sw_tree.specs.declared.decl.PropTree.{PropTree}
use Rattle.sw_tree.specs.declared.decl.Written.{Written}
use Rattle.sw_tree.specs.declared.decl.Written.TheVariants.{Absent, At, Nonisolated, Concurrent}
use Rattle.sw_tree.specs.declared.decl.Written.TheVariants.{Nonsending}
use Rattle.sw_tree.specs.declared.type_tree.TypeTree.{TypeTree}
use Rattle.sw_types.specs.declared.shape.CaseShape.{CaseShape}
use Rattle.sw_types.specs.declared.shape.Part.{Part}
use Rattle.sw_types.specs.declared.shape.Shape.{Shape}
use Rattle.sw_types.specs.declared.shape.ShapeKind.TheVariants as kind
use Rattle.sw_types.specs.declared.ty.Ty.{Ty}
use Rattle.sw_types.specs.declared.ty.Ty.TheVariants as types
use Rattle.sw_decl_words.specs.Evident.{Meanings, evident_type}
use Rattle.sw_decl_words.specs.TypeWords.{type_of}
use Rattle.sw_decl_words.specs.Words.{shapes_made}
use Rattle.sw_decl_words.specs.declared.words.Meaning.{Meaning}
use Rattle.sw_decl_words.specs.declared.words.Meaning.TheVariants as means

abbrev pub actor_of : Option Meaning → Option ℕ
actor_of None = None
actor_of (Some (means.Shape kind number)) = None
actor_of (Some (means.GlobalActor number)) = Some number
actor_of (Some (means.Func at)) = None
actor_of (Some (means.Global number)) = None
actor_of (Some means.Entry) = None

module _ (known : ℕ → Option Meaning) where
  -- the global actor that is written before a declaration (SE-0316)
  abbrev pub written_actor : Written → Option ℕ
  written_actor Absent = None
  written_actor (At name) = actor_of (known name.id)
  written_actor Nonisolated = None
  written_actor Concurrent = None
  written_actor Nonsending = None

  abbrev pub stated_type : Option TypeTree → Ty → Ty
  stated_type None ty = ty
  stated_type (Some tree) ty = type_of known tree

  abbrev pub case_of : CaseTree → CaseShape
  case_of one = record { name = one.word.id; payload = map (type_of known) one.types }

module _ (known : Meanings) where
  -- the type of a property, inside a type, or of a global variable: the written one, or else the
  -- evident one
  abbrev pub prop_type : Option ℕ → PropTree → Ty
  prop_type owner prop =
      stated_type known.top prop.ty (unwrap_or (evident_type known owner prop.value) types.Unit)

  abbrev pub part_of : Option ℕ → PropTree → Part
  part_of owner prop = record {
    name = prop.word.id;
    mutable = prop.mutable;
    ty = prop_type owner prop;
  }

  -- the shape that a declaration makes, if it makes one, with this number
  unfoldable pub shape_of : ℕ → Decl → List Shape
  shape_of number (Entry word written at is_async body) = []
  shape_of number (Struct word conforms fields funcs) = record {
    kind = kind.Struct;
    at = word.at;
    conforms = conforms;
    actor = None;
    parts = map (part_of (Some number)) fields;
    cases = [];
  } ∷ []
  shape_of number (Enum word conforms cases funcs) = record {
    kind = kind.Enum;
    at = word.at;
    conforms = conforms;
    actor = None;
    parts = [];
    cases = map (case_of known.top) cases;
  } ∷ []
  shape_of number (Class written word conforms props inits funcs) = record {
    kind = kind.Class;
    at = word.at;
    conforms = conforms;
    actor = written_actor known.top written;
    parts = map (part_of (Some number)) props;
    cases = [];
  } ∷ []
  shape_of number (Actor word props inits funcs) = record {
    kind = kind.Actor;
    at = word.at;
    conforms = false;
    actor = None;
    parts = map (part_of (Some number)) props;
    cases = [];
  } ∷ []
  shape_of number (GlobalActor word made) = []
  shape_of number (Func func) = []
  shape_of number (Global global) = []

  -- the shapes of declarations, numbered from here
  abbrev pub shapes_from : ℕ → List Decl → List Shape
  shapes_from number [] = []
  shapes_from number (decl ∷ decls) =
      shape_of number decl ++ shapes_from (number + shapes_made decl) decls
