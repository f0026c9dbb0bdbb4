-- Which instructions may stand in a body, by its isolation and by what is noted of a program:
-- calls, accesses, closures and tasks.
use Rattle.std.specs.Prelude.{◌≡◌, ◌≢◌, ℕ, Bool, true, false, ◌||◌, List, [], Some, Contains}
use Rattle.std.specs.Prelude.{Option, slice_get, flat_map}
use Rattle.sw_types.specs.Accepts.{is_marked}
use Rattle.sw_types.specs.Sendable.{is_sendable}
use Rattle.sw_types.specs.declared.isolation.CallKind.{CallKind}
use Rattle.sw_types.specs.declared.isolation.Iso.{Iso}
use Rattle.sw_types.specs.declared.isolation.Iso.TheVariants.{Caller, Own}
use Rattle.sw_types.specs.declared.shape.Part.{Part}
use Rattle.sw_types.specs.declared.shape.Shape.{Shape}
use Rattle.sw_types.specs.declared.shape.ShapeKind.TheVariants.{Actor}
use Rattle.sw_types.specs.declared.ty.Ty.{Ty}
use Rattle.sw_types.specs.declared.ty.Ty.TheVariants as types
use Rattle.sw_graph.specs.Bodies.{is_own}
use Rattle.sw_graph.specs.Mentions.{set_by}
use Rattle.sw_graph.specs.Placed.{SetsApart}
use Rattle.sw_graph.specs.declared.function.Function.{Function}
use Rattle.sw_graph.specs.declared.function.RegKind.{RegKind}
use Rattle.sw_graph.specs.declared.function.RegKind.TheVariants.{Plain}
use Rattle.sw_graph.specs.declared.instr.Instr.{Instr}
use Rattle.sw_graph.specs.declared.instr.Instr.TheVariants.{Call, LoadGlobal, LoadProp, NewActor}
use Rattle.sw_graph.specs.declared.instr.Instr.TheVariants.{NewClosure, NewObject, NewTask}
use Rattle.sw_graph.specs.declared.instr.Instr.TheVariants.{StoreGlobal, StoreProp}
use Rattle.sw_graph.specs.declared.instr.Operand.{Operand}
use Rattle.sw_decls.specs.Signatures.{actor_iso}
use Rattle.sw_decls.specs.declared.signature.GlobalVar.{GlobalVar}
use Rattle.sw_decls.specs.declared.signature.Signature.{Signature}
use Rattle.sw_typing_rules.specs.Worlds.{is_object_kind}
use Rattle.sw_isolation_rules.specs.Kinds.{accessor, is_strong, kind_of}
use Rattle.sw_isolation_rules.specs.Lists.{captures_in, races_in}
use Rattle.sw_isolation_rules.specs.Noting.{closure_iso}
use Rattle.sw_isolation_rules.specs.Races.{capture_races}
use Rattle.sw_isolation_rules.specs.Uses.{may_cross, maker_at, part_storage}
use Rattle.sw_isolation_rules.specs.declared.uses.Callee.{Callee}
use Rattle.sw_isolation_rules.specs.declared.uses.Storage.{Storage}
use Rattle.sw_lower_plans.specs.declared.name.FunctionName.{FunctionName}
use Rattle.sw_lower_rules.specs.Carriers.{ClosureCode}
use Rattle.sw_lower_rules.specs.Expressions.{closure_body, is_async_of, iso_of, task_body}
use Rattle.sw_lower_rules.specs.Tables.{plain}
use Rattle.sw_lower_placed_facts.specs.Hosts.{FirstIsOwn, IsOwnSelf, Program, Host}

-- the type of a register
abbrev pub RegisterHasType : List RegKind → ℕ → Ty → Type 0
RegisterHasType regs r ty = slice_get regs r ≡ Some (Plain ty)

-- Whether storage is another isolation's, where it is used in a body of this isolation.
abbrev pub is_away : Iso → Storage → Bool
is_away iso storage = is_strong (kind_of (accessor storage) iso)

-- what a global variable stores
abbrev pub global_storage : Program → GlobalVar → Storage
global_storage program global = record {
  iso = actor_iso global.actor;
  on_self = false;
  mutable = global.mutable;
  may_cross = may_cross program.tables.world global.ty;
}

-- the initialiser of an actor
pub record IsActorMaker (program : Program) (name : FunctionName) : Type 0 where
  pub k : ℕ
  pub shape : Shape
  pub func : Signature
  pub is_shape : slice_get program.tables.world.shapes k ≡ Some shape
  pub actor : shape.kind ≡ Actor
  pub maker : maker_at program.tables.world k ≡ Some func
  pub named : name ≡ plain func.key.at

-- the function with a number, by its isolation and what it gives
pub record FunctionIs (program : Program) (f : ℕ) (iso : Iso) (is_async sends : Bool) (result : Ty)
    : Type 0 where
  pub function : Function
  pub at : slice_get program.functions f ≡ Some function
  pub iso_is : function.iso ≡ iso
  pub async_is : function.is_async ≡ is_async
  pub sends_is : function.sends ≡ sends
  pub result_is : function.result ≡ result

module _ (program : Program) where
  -- No value is shared that may not be: the notes have no race, and no closure that may be sent
  -- captures what may not cross.
  pub record SharesNone : Type 0 where
    pub races : races_in program.notes ≡ []
    pub captures : flat_map (capture_races program.tables.world program.tables.answers)
        (captures_in program.notes) ≡ []

  -- A body of this isolation and a name are in the notes.
  pub record IsNoted (at : ℕ) (iso : Iso) (is_async : Bool) : Type 0 where
    pub iso_is : iso_of (program.tables.isolation.body_at at) ≡ iso
    pub async_is : is_async_of (program.tables.isolation.body_at at) ≡ is_async

  module _ (host : Host) (regs : List RegKind) where
    -- A call of the function with a number has the kind that the table of kinds gives. One on
    -- `self` has it first. What it gives may cross where the call leaves the body's isolation.
    pub record CallOk (r : ℕ) (kind : CallKind) (f : ℕ) (ss : List Operand) : Type 0 where
      pub name : FunctionName
      pub callee : Callee
      pub sends : Bool
      pub result : Ty
      pub numbered : program.numbers name ≡ Some f
      pub header : FunctionIs program f callee.iso callee.is_async sends result
      pub makes : callee.is_initialiser ≡ true → IsActorMaker program name
      pub makes_none : callee.is_initialiser ≡ false → IsActorMaker program name → ⊥
      pub given : kind ≡ kind_of callee host.iso
      pub on_self : callee.on_self ≡ true → FirstIsOwn host ss
      pub gives : RegisterHasType regs r result
      pub crosses : SharesNone → is_strong kind ≡ true
          → (sends || may_cross program.tables.world result) ≡ true

    -- part i of the object or actor in a register, one of `self` or not
    pub record PartUsed (o : Operand) (i : ℕ) : Type 0 where
      pub k : ℕ
      pub shape : Shape
      pub part : Part
      pub on_self : Bool
      pub held : RegisterHasType regs o.reg (types.Named k)
      pub is_shape : slice_get program.tables.world.shapes k ≡ Some shape
      pub object : is_object_kind shape.kind ≡ true
      pub is_part : slice_get shape.parts i ≡ Some part
      pub own : on_self ≡ true → IsOwnSelf host o

    abbrev pub used_storage : (o : Operand) (i : ℕ) → PartUsed o i → Storage
    used_storage o i used =
        part_storage program.tables.world used.shape used.on_self used.part

    -- Storage of another isolation is read where it is a `let`, and may cross.
    pub record ReadOk (storage : Storage) : Type 0 where
      pub constant : is_away host.iso storage ≡ true → storage.mutable ≡ false
      pub crosses : SharesNone → is_away host.iso storage ≡ true → storage.may_cross ≡ true

    -- Storage is written in its own isolation, where it is a `var`.
    pub record WriteOk (storage : Storage) : Type 0 where
      pub inside : is_away host.iso storage ≡ false
      pub variable : storage.mutable ≡ true

    pub record PartRead (o : Operand) (i : ℕ) : Type 0 where
      pub used : PartUsed o i
      pub ok : ReadOk (used_storage o i used)

    pub record PartWritten (o : Operand) (i : ℕ) : Type 0 where
      pub used : PartUsed o i
      pub ok : WriteOk (used_storage o i used)

    pub record GlobalRead (g : ℕ) : Type 0 where
      pub global : GlobalVar
      pub is : slice_get program.tables.world.globals g ≡ Some global
      pub ok : ReadOk (global_storage program global)

    pub record GlobalWritten (g : ℕ) : Type 0 where
      pub global : GlobalVar
      pub is : slice_get program.tables.world.globals g ≡ Some global
      pub ok : WriteOk (global_storage program global)

    -- A closure's body is one of the program, and noted as isolated as what is around it, or to no
    -- actor where it may be sent. One that is isolated to `self` has it first. One that may be sent
    -- captures what may cross.
    pub record ClosureOk (r f : ℕ) (cs : List Operand) : Type 0 where
      pub owner : Option ℕ
      pub closure : ClosureCode
      pub result : Ty
      pub ty : Ty
      pub has : Contains program.inside (closure_body program.tables owner closure result)
      pub numbered : program.numbers (plain closure.at) ≡ Some f
      pub noted : IsNoted closure.at
          (closure_iso program.tables.answers closure.at host.iso) false
      pub held : closure_iso program.tables.answers closure.at host.iso ≡ Own
          → FirstIsOwn host cs
      pub typed : program.tables.answers.type_at closure.at ≡ Some ty
      pub gives : RegisterHasType regs r ty
      pub crosses : SharesNone → is_marked ty ≡ true
          → (x : Operand) → Contains cs x → (held : Ty) × RegisterHasType regs x.reg held
          × (is_sendable program.tables.world.shapes held ≡ true)

    -- A task's body is one of the program. One that is isolated to `self` has it first, and stands
    -- in a body that is so too. Its result may cross.
    pub record TaskOk (f : ℕ) (cs : List Operand) : Type 0 where
      pub owner : Option ℕ
      pub closure : ClosureCode
      pub result : Ty
      pub iso : Iso
      pub has : Contains program.inside (task_body program.tables owner closure result)
      pub numbered : program.numbers (plain closure.at) ≡ Some f
      pub noted : IsNoted closure.at iso true
      pub apart : iso ≢ Caller
      pub within : iso ≡ Own → is_own host.iso ≡ true
      pub held : iso ≡ Own → FirstIsOwn host cs
      pub crosses : SharesNone → is_sendable program.tables.world.shapes result ≡ true

    -- what an instruction uses
    abbrev pub UseOk : Instr → Type 0
    UseOk (Call at dst kind function args) = CallOk dst kind function args
    UseOk (LoadProp at dst cell part) = PartRead cell part
    UseOk (StoreProp at cell part src) = PartWritten cell part
    UseOk (LoadGlobal at dst global) = GlobalRead global
    UseOk (StoreGlobal at global src) = GlobalWritten global
    UseOk (NewClosure at dst function captures) = ClosureOk dst function captures
    UseOk (NewTask at dst function captures) = TaskOk function captures
    UseOk (NewObject at dst shape args) = ⊥
    UseOk (NewActor at dst shape args) = ⊥
    UseOk _ = Unit {0}

    -- An instruction that may stand in the body: what it uses may be used there, it sets none of
    -- its operands where it makes something, and it leaves the body's own `self`.
    pub record IsAllowed (instr : Instr) : Type 0 where
      pub uses : UseOk instr
      pub sets : SetsApart instr
      pub leaves : (r : ℕ) → set_by instr ≡ Some r → host.has_self ≡ true → r ≢ 0
