-- What a program declares, as the rules of types look it up.
use Rattle.std.specs.Prelude.{◌≡◌, ℕ, Bool, true, false, List, Option, Some, None}
use Rattle.std.specs.Prelude.{flat_map, nat_eq, slice_get, IsPermutation}
use Rattle.std.specs.List.Sorted.{IsNonDecreasingBy}
use Rattle.indexmap.specs.IndexMap.{get}
use Rattle.sw_tree.specs.declared.decl.Decl.{Decl}
use Rattle.sw_types.specs.declared.shape.CaseShape.{CaseShape}
use Rattle.sw_types.specs.declared.shape.Part.{Part}
use Rattle.sw_types.specs.declared.shape.Shape.{Shape}
use Rattle.sw_types.specs.declared.shape.ShapeKind.{ShapeKind}
use Rattle.sw_types.specs.declared.shape.ShapeKind.TheVariants as kind
use Rattle.sw_decl_words.specs.Evident.{Meanings, meanings_of, tabled}
use Rattle.sw_decl_words.specs.Members.{member_of}
use Rattle.sw_decl_words.specs.Words.{top_meaning}
use Rattle.sw_decls.specs.Declaring.{key_place, made_shapes, maker_keys, numbered}
use Rattle.sw_decls.specs.Signatures.{funcs_from, global_of}
use Rattle.sw_decls.specs.declared.declaring.Decls.{Decls}
use Rattle.sw_decls.specs.declared.signature.AsyncDefault.{AsyncDefault}
use Rattle.sw_decls.specs.declared.signature.GlobalVar.{GlobalVar}
use Rattle.sw_decls.specs.declared.signature.Signature.{Signature}

-- the shapes, functions and global variables of a program by number, the numbers of its functions
-- by key, the keys of the initialisers of its shapes, and what its words mean
pub record World : Type 0 where
  pub shapes : List Shape
  pub funcs : List Signature
  pub globals : List GlobalVar
  pub numbers : ℕ → Option ℕ
  pub makers : List ℕ
  pub known : Meanings

abbrev pub world_of : Decls → World
world_of made = record {
  shapes = made.shapes;
  funcs = made.funcs;
  globals = made.globals;
  numbers = get nat_eq made.numbers.table;
  makers = made.makers;
  known = tabled made.words made.members;
}

-- The world is what a program declares, where asynchronous functions run by the rule that say
-- nothing more. Each definition is that of the tables that `declare` makes.
pub record IsWorldOf (decls : List Decl) (rule : AsyncDefault) (world : World) : Type 0 where
  pub shapes : world.shapes ≡ made_shapes decls
  -- the functions of the declarations, in the order of their keys
  pub funcs : IsPermutation (funcs_from (top_meaning decls) rule 0 decls) world.funcs
  pub ordered : IsNonDecreasingBy key_place world.funcs
  pub globals : world.globals ≡ flat_map (global_of (meanings_of decls)) decls
  pub numbers : (key : ℕ) → world.numbers key ≡ numbered world.funcs key
  pub makers : world.makers ≡ flat_map maker_keys decls
  pub words : (id : ℕ) → world.known.top id ≡ top_meaning decls id
  pub members : (shape word : ℕ) → world.known.members shape word ≡ member_of decls shape word

abbrev pub item : {A : Type 0} → Option ℕ → List A → Option A
item None list = None
item (Some index) list = slice_get list index

abbrev pub and_then : {A B : Type 0} → Option A → (A → Option B) → Option B
and_then None f = None
and_then (Some x) f = f x

abbrev pub is_object_kind : ShapeKind → Bool
is_object_kind kind.Struct = false
is_object_kind kind.Enum = false
is_object_kind kind.Class = true
is_object_kind kind.Actor = true

module _ (world : World) where
  -- the property of a shape, by number
  abbrev pub part_at : ℕ → ℕ → Option Part
  part_at shape number =
      and_then (slice_get world.shapes shape) (λ s. slice_get s.parts number)

  -- the case of a shape, by number
  abbrev pub case_at : ℕ → ℕ → Option CaseShape
  case_at shape number =
      and_then (slice_get world.shapes shape) (λ s. slice_get s.cases number)

  abbrev pub is_object_shape : Option Shape → Bool
  is_object_shape None = false
  is_object_shape (Some shape) = is_object_kind shape.kind

  -- whether the shape is a class or an actor
  abbrev pub is_object : ℕ → Bool
  is_object shape = is_object_shape (slice_get world.shapes shape)
