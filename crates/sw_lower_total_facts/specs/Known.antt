-- What is known of each program that keeps the rules on declarations.
use Rattle.std.specs.Prelude.{◌≡◌, ℕ, true, false, List, Some, IsSome, slice_get}
use Rattle.sw_types.specs.declared.shape.Part.{Part}
use Rattle.sw_types.specs.declared.shape.Shape.{Shape}
use Rattle.sw_types.specs.declared.shape.ShapeKind.{ShapeKind}
use Rattle.sw_types.specs.declared.shape.ShapeKind.TheVariants as shapes
use Rattle.sw_types.specs.declared.ty.Ty.{Ty}
use Rattle.sw_decls.specs.declared.signature.GlobalVar.{GlobalVar}
use Rattle.sw_decls.specs.declared.signature.Signature.{Signature}
use Rattle.sw_isolation_rules.specs.Captures.{is_among}
use Rattle.sw_isolation_rules.specs.Kinds.{is_isolated, shape_iso}
use Rattle.sw_isolation_rules.specs.Lists.{vars_in}
use Rattle.sw_isolation_rules.specs.Uses.{maker_at}
use Rattle.sw_isolation_rules.specs.declared.note.Note.{Note}
use Rattle.sw_lower_plans.specs.Plan.{Numbers}
use Rattle.sw_lower_rules.specs.Tables.{Tables, getter_of, isolation_in, plain}
use Rattle.sw_lower_formed_facts.specs.Ground.{IsDeclaredIn}

-- objects and actors
abbrev pub IsMade : ShapeKind → Type 0
IsMade shapes.Struct = ⊥
IsMade shapes.Enum = ⊥
IsMade shapes.Class = Unit {0}
IsMade shapes.Actor = Unit {0}

-- an initialiser that has a number
pub record HasMaker (tables : Tables) (number : Numbers) (k : ℕ) : Type 0 where
  pub func : Signature
  pub at : maker_at tables.world k ≡ Some func
  pub numbered : IsSome (number (plain func.key.at))

-- What the tables of a program, the numbers of its functions and its notes have in common.
pub record TablesAgree (tables : Tables) (number : Numbers) (all : List Note) : Type 0 where
  pub noted : tables.isolation ≡ isolation_in all
  -- the types of nodes are declared
  pub typed : (key : ℕ) (ty : Ty) → tables.answers.type_at key ≡ Some ty → IsDeclaredIn tables ty
  -- functions, methods and initialisers have numbers
  pub funcs : (n : ℕ) (func : Signature) → slice_get tables.world.funcs n ≡ Some func
      → IsSome (number (plain func.key.at))
  pub makers : (k : ℕ) (shape : Shape) → slice_get tables.world.shapes k ≡ Some shape
      → IsMade shape.kind → HasMaker tables number k
  -- properties have keys, and those that are isolated and `var` have getters; so have global
  -- variables
  pub parts : (k i : ℕ) (shape : Shape) (part : Part)
      → slice_get tables.world.shapes k ≡ Some shape → slice_get shape.parts i ≡ Some part
      → IsMade shape.kind → IsSome (tables.part_key k i)
  pub part_getters : (k i key : ℕ) (shape : Shape) (part : Part)
      → slice_get tables.world.shapes k ≡ Some shape → slice_get shape.parts i ≡ Some part
      → tables.part_key k i ≡ Some key → part.mutable ≡ true
      → is_isolated (shape_iso shape) ≡ true → IsSome (number (getter_of key))
  pub global_getters : (g actor : ℕ) (global : GlobalVar)
      → slice_get tables.world.globals g ≡ Some global → global.mutable ≡ true
      → global.actor ≡ Some actor → IsSome (number (getter_of global.key.at))
  -- the word of a type, which stands for `self`, isn't that of a `var`
  pub selves : (k : ℕ) (shape : Shape) → slice_get tables.world.shapes k ≡ Some shape
      → is_among (vars_in all) shape.at ≡ false
