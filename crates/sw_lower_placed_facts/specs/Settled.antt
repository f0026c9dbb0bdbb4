-- What the notes, the tables and the functions of a program have in common.
use Rattle.std.specs.Prelude.{◌≡◌, ℕ, true, false, List, ◌∷◌, Option, Some, None, Contains}
use Rattle.std.specs.Prelude.{slice_get}
use Rattle.sw_types.specs.declared.shape.Part.{Part}
use Rattle.sw_types.specs.declared.shape.Shape.{Shape}
use Rattle.sw_types.specs.declared.shape.ShapeKind.TheVariants.{Actor}
use Rattle.sw_types.specs.declared.ty.Ty.{Ty}
use Rattle.sw_decls.specs.Signatures.{actor_iso}
use Rattle.sw_decls.specs.declared.signature.GlobalVar.{GlobalVar}
use Rattle.sw_decls.specs.declared.signature.Signature.{Signature}
use Rattle.sw_decl_words.specs.declared.placed.Placed.{Placed}
use Rattle.sw_isolation_rules.specs.Captures.{self_of}
use Rattle.sw_isolation_rules.specs.Kinds.{is_own, shape_iso}
use Rattle.sw_isolation_rules.specs.Uses.{maker_at}
use Rattle.sw_isolation_rules.specs.declared.note.BodyIso.{BodyIso}
use Rattle.sw_isolation_rules.specs.declared.note.Capture.{Capture}
use Rattle.sw_isolation_rules.specs.declared.note.Kinded.{Kinded}
use Rattle.sw_isolation_rules.specs.declared.note.Note.TheVariants.{Body, Kind, Refused}
use Rattle.sw_lower_rules.specs.Carriers.{ClosureCode}
use Rattle.sw_lower_rules.specs.Expressions.{closure_body, iso_of}
use Rattle.sw_lower_rules.specs.Tables.{getter_of, isolation_in, plain}
use Rattle.sw_lower_call_facts.specs.Calls.{MeansFunc}
use Rattle.sw_lower_placed_facts.specs.Allowed.{IsActorMaker, FunctionIs}
use Rattle.sw_lower_placed_facts.specs.Hosts.{Program}

-- The captures of a closure begin with `self`.
pub record BeginsWith (captures : List Capture) (me : ℕ) : Type 0 where
  pub first : Capture
  pub more : List Capture
  pub are : captures ≡ first ∷ more
  pub is : first.variable ≡ me

pub record IsSettled (program : Program) : Type 0 where
  pub isolation : program.tables.isolation ≡ isolation_in program.notes
  -- what is noted of a call and of a body is found by its key
  pub kinds : (one : Kinded) → Contains program.notes (Kind one)
      → program.tables.isolation.kind_at one.at ≡ Some one.kind
  pub noted : (one : BodyIso) → Contains program.notes (Body one)
      → program.tables.isolation.body_at one.key ≡ Some one
  -- nothing is refused
  pub none_refused : (placed : Placed) → Contains program.notes (Refused placed) → ⊥
  -- a closure or a task that is isolated to `self` captures it first
  pub held : (owner : Option ℕ) (closure : ClosureCode) (result : Ty) (me : ℕ)
      → Contains program.inside (closure_body program.tables owner closure result)
      → is_own (iso_of (program.tables.isolation.body_at closure.at)) ≡ true
      → Contains (self_of program.tables.world owner) me
      → BeginsWith (program.tables.isolation.captures_of closure.at) me
  -- the word of a declared type, which stands for `self`, has no type of its own
  pub selves : (k : ℕ) (shape : Shape) → slice_get program.tables.world.shapes k ≡ Some shape
      → program.tables.answers.type_at shape.at ≡ None
  -- the functions of functions, methods, initialisers and getters
  pub funcs : (at n f : ℕ) (func : Signature) → MeansFunc (program.tables.answers.meaning_at at) n
      → slice_get program.tables.world.funcs n ≡ Some func
      → program.numbers (plain func.key.at) ≡ Some f
      → FunctionIs program f func.iso func.is_async func.sends func.result
      × (IsActorMaker program (plain func.key.at) → ⊥)
  pub makers : (k f : ℕ) (shape : Shape) (func : Signature)
      → slice_get program.tables.world.shapes k ≡ Some shape
      → maker_at program.tables.world k ≡ Some func
      → program.numbers (plain func.key.at) ≡ Some f
      → FunctionIs program f func.iso func.is_async func.sends func.result
      × ((shape.kind ≡ Actor → ⊥) → IsActorMaker program (plain func.key.at) → ⊥)
  pub part_getters : (k i key f : ℕ) (shape : Shape) (part : Part)
      → program.tables.part_key k i ≡ Some key → program.numbers (getter_of key) ≡ Some f
      → slice_get program.tables.world.shapes k ≡ Some shape
      → slice_get shape.parts i ≡ Some part
      → FunctionIs program f (shape_iso shape) false false part.ty
  pub global_getters : (g f : ℕ) (global : GlobalVar)
      → slice_get program.tables.world.globals g ≡ Some global
      → program.numbers (getter_of global.key.at) ≡ Some f
      → FunctionIs program f (actor_iso global.actor) false false global.ty
  -- words of types are their own keys
  pub words : (j k : ℕ) (one other : Shape) → slice_get program.tables.world.shapes j ≡ Some one
      → slice_get program.tables.world.shapes k ≡ Some other → one.at ≡ other.at → j ≡ k
