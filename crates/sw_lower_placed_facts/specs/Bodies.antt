-- What is shown of each body of a program.
use Rattle.std.specs.Prelude.{◌≡◌, ℕ, true, false, ◌⊎◌, Some, None, Contains, slice_get}
use Rattle.sw_types.specs.declared.shape.Shape.{Shape}
use Rattle.sw_types.specs.declared.shape.ShapeKind.{ShapeKind}
use Rattle.sw_types.specs.declared.shape.ShapeKind.TheVariants.{Actor}
use Rattle.sw_types.specs.declared.ty.Ty.TheVariants as types
use Rattle.sw_graph.specs.Placed.{IsLastOf}
use Rattle.sw_graph.specs.declared.instr.Block.{Block}
use Rattle.sw_graph.specs.declared.instr.Instr.{Instr}
use Rattle.sw_graph.specs.declared.instr.Instr.TheVariants.{StoreGlobal}
use Rattle.sw_graph.specs.declared.instr.Operand.{Operand}
use Rattle.std.specs.Prelude.{List}
use Rattle.sw_decls.specs.Signatures.{actor_iso}
use Rattle.sw_decls.specs.declared.signature.GlobalVar.{GlobalVar}
use Rattle.sw_decls.specs.declared.signature.Signature.{Signature}
use Rattle.sw_graph.specs.Placed.{SetsApart}
use Rattle.sw_typing_rules.specs.Worlds.{is_object_kind}
use Rattle.sw_isolation_rules.specs.Kinds.{shape_iso}
use Rattle.sw_isolation_rules.specs.Uses.{maker_at}
use Rattle.sw_lower_plans.specs.declared.name.FunctionName.{FunctionName}
use Rattle.sw_lower_code.specs.Whole.{Body, function_of}
use Rattle.sw_lower_rules.specs.Bodies.{made_instr}
use Rattle.sw_lower_rules.specs.Tables.{name_of, plain}
use Rattle.sw_lower_placed_facts.specs.Allowed.{IsActorMaker, IsAllowed}
use Rattle.sw_lower_placed_facts.specs.Claims.{IsOrdinary}
use Rattle.sw_lower_placed_facts.specs.Hosts.{Program, Host}

-- The instruction makes an object or an actor of the type with a number, directly before a return.
pub record MakesLast (kind : ShapeKind) (k : ℕ) (block : Block) (index : ℕ) (instr : Instr)
    : Type 0 where
  pub key : ℕ
  pub r : ℕ
  pub operands : List Operand
  pub is : instr ≡ made_instr kind key r k operands
  pub apart : SetsApart instr
  pub last : IsLastOf block index

-- Instruction `index` of block `number` may stand in the body, or it is the one that makes.
abbrev pub MayMake : Program → Host → ShapeKind → ℕ → Body → Type 0
MayMake program host kind k body = (number index : ℕ) (block : Block) (instr : Instr)
    → slice_get (function_of program.numbers body).blocks number ≡ Some block
    → slice_get block.instrs index ≡ Some instr
    → IsAllowed program host (function_of program.numbers body).regs instr
    ⊎ MakesLast kind k block index instr

module _ (program : Program) where
  -- the body of the initialiser of a class or an actor
  pub record IsMaker (body : Body) : Type 0 where
    pub k : ℕ
    pub shape : Shape
    pub func : Signature
    pub is_shape : slice_get program.tables.world.shapes k ≡ Some shape
    pub object : is_object_kind shape.kind ≡ true
    pub maker : maker_at program.tables.world k ≡ Some func
    pub named : name_of body ≡ plain func.key.at
    pub iso : body.iso ≡ shape_iso shape
    pub result : body.result ≡ types.Named k
    pub points : MayMake program (record { iso = body.iso; owner = Some k; has_self = false })
        shape.kind k body
    -- it makes one
    pub number : ℕ
    pub index : ℕ
    pub block : Block
    pub instr : Instr
    pub at_block : slice_get (function_of program.numbers body).blocks number ≡ Some block
    pub at_instr : slice_get block.instrs index ≡ Some instr
    pub makes : MakesLast shape.kind k block index instr

  -- Instruction `index` of block `number` may stand in the body, or it gives global variable g a
  -- value.
  abbrev pub MayGive : Host → ℕ → Body → Type 0
  MayGive host g body = (number index : ℕ) (block : Block) (instr : Instr)
      → slice_get (function_of program.numbers body).blocks number ≡ Some block
      → slice_get block.instrs index ≡ Some instr
      → IsAllowed program host (function_of program.numbers body).regs instr
      ⊎ ((at : ℕ) × (src : Operand) × (instr ≡ StoreGlobal at g src))

  -- the body that gives a global variable its first value
  pub record IsFirstValue (body : Body) : Type 0 where
    pub g : ℕ
    pub global : GlobalVar
    pub is : slice_get program.tables.world.globals g ≡ Some global
    pub named : name_of body ≡ plain global.key.at
    pub iso : body.iso ≡ actor_iso global.actor
    pub points : MayGive (record { iso = body.iso; owner = None; has_self = false }) g body

  -- each body of a program
  pub data IsPlacedBody (body : Body) : Type 0 where
    ordinary : IsOrdinary program body → IsPlacedBody body
    maker : IsMaker body → IsPlacedBody body
    first : IsFirstValue body → IsPlacedBody body

  -- the body with the name of an actor's initialiser
  pub record MakesActor (name : FunctionName) : Type 0 where
    pub body : Body
    pub has : Contains program.bodies body
    pub named : name_of body ≡ name
    pub makes : IsMaker body
    pub actor : makes.shape.kind ≡ Actor

  -- what is shown of all bodies of a program: of each, of those of closures and tasks, and of the
  -- initialisers of actors
  pub record ArePlaced : Type 0 where
    pub each : (body : Body) → Contains program.bodies body → IsPlacedBody body
    pub among : (body : Body) → Contains program.inside body → Contains program.bodies body
    pub inside : (body : Body) → Contains program.inside body → IsOrdinary program body
    pub makers : (name : FunctionName) → IsActorMaker program name → MakesActor name
