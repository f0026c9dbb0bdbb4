-- What is shown of the code of each form, where what is noted of the form is among the notes of the
-- program: its instructions may stand in the body that it is of, and so may those of the bodies in
-- it.
use Rattle.std.specs.Prelude.{◌≡◌, ℕ, ◌<◌, Bool, true, false, List, Option, Some, None, All}
use Rattle.std.specs.Prelude.{Contains}
use Rattle.std.specs.Prelude.{length, slice_get}
use Rattle.sw_graph.specs.Bodies.{is_own}
use Rattle.sw_graph.specs.Placed.{HasSelf}
use Rattle.sw_graph.specs.declared.function.Function.{Function}
use Rattle.sw_graph.specs.declared.instr.Block.{Block as CodeBlock}
use Rattle.sw_graph.specs.declared.instr.Instr.{Instr}
use Rattle.sw_graph.specs.declared.instr.Operand.{Operand}
use Rattle.sw_tree.specs.Keys.{block_keys, expr_keys}
use Rattle.sw_tree.specs.declared.expr.Expr.{Expr}
use Rattle.sw_tree.specs.declared.expr.Expr.TheVariants.{Member}
use Rattle.sw_tree.specs.declared.name.Name.{Name}
use Rattle.sw_tree.specs.declared.stmt.Block.{Block}
use Rattle.sw_typing_rules.specs.Expressions.{Judged}
use Rattle.sw_typing_rules.specs.Judges.{Judges, LeavesBlock}
use Rattle.sw_typing_rules.specs.Statements.{Left, State}
use Rattle.sw_typing_rules.specs.Words.{Setting}
use Rattle.sw_typing_rules.specs.declared.scope.Inside.{Inside}
use Rattle.sw_typing_rules.specs.declared.scope.Var.{Var}
use Rattle.sw_isolation_rules.specs.Captures.{is_mention}
use Rattle.sw_isolation_rules.specs.Noting.{see}
use Rattle.sw_isolation_rules.specs.declared.note.Note.{Note}
use Rattle.sw_isolation_rules.specs.declared.uses.Context.{Context}
use Rattle.sw_lower_plans.specs.Run.{Making}
use Rattle.sw_lower_code.specs.Code.{Code}
use Rattle.sw_lower_code.specs.Whole.{Body, function_of}
use Rattle.sw_lower_rules.specs.Carriers.{BlockCode, ExprCode, StmtCode}
use Rattle.sw_lower_rules.specs.Statements.{block_code, expr_code}
use Rattle.sw_lower_rules.specs.declared.targets.Targets.{Targets}
use Rattle.sw_lower_formed_facts.specs.Forms.{VarsHold}
use Rattle.sw_typing_facts.specs.Rows.{RowsHold}
use Rattle.sw_lower_formed_facts.specs.Trees.{IsHere}
use Rattle.sw_lower_total_facts.specs.Bound.{sight_in}
use Rattle.sw_lower_total_facts.specs.Noted.{StandsInText}
use Rattle.sw_tree.specs.Scopes.{Scoped, block_scoped, expr_scoped}
use Rattle.sw_lower_total_facts.specs.Trees.{noted_in, noted_of}
use Rattle.sw_lower_placed_facts.specs.Allowed.{IsAllowed}
use Rattle.sw_lower_placed_facts.specs.Placing.{PlacesAt, PlacesWith}
use Rattle.sw_lower_placed_facts.specs.Hosts.{IsOwnSelf, IsSeenFrom, IsHost, Program, Host}

-- What is noted, but for what is mentioned, is among the notes of the program.
abbrev pub AreNoted : Program → List Note → Type 0
AreNoted program notes = (note : Note) → Contains notes note → is_mention note ≡ false
    → Contains program.notes note

-- the instructions of a function may stand in its body
abbrev pub PointsAllowed : Program → Host → Function → Type 0
PointsAllowed program host function = (number index : ℕ) (block : CodeBlock) (instr : Instr)
    → slice_get function.blocks number ≡ Some block → slice_get block.instrs index ≡ Some instr
    → IsAllowed program host function.regs instr

module _ (program : Program) where
  -- A body but those of initialisers and of what gives first values. One that is isolated to `self`
  -- takes it first.
  pub record IsOrdinary (body : Body) : Type 0 where
    pub host : Host
    pub iso : host.iso ≡ body.iso
    pub self : is_own body.iso ≡ true → host.has_self ≡ true
    pub selves : host.has_self ≡ true
        → HasSelf program.tables.world.shapes (function_of program.numbers body)
    pub points : PointsAllowed program host (function_of program.numbers body)

  abbrev pub AreOrdinary : List Body → Type 0
  AreOrdinary bodies = All IsOrdinary bodies

  -- where a tree stands, with its notes, its keys and its scopes
  pub record TreeNoted (context : Context) (vars : List Var) (notes : List Note) (keys : List ℕ)
      (scoped : Scoped) : Type 0 where
    pub stands : StandsInText program.notes (sight_in program.tables context.owner vars) notes keys
        scoped
    pub noted : AreNoted program notes

  abbrev pub ExprNoted : Context → List ℕ → List Var → Expr → Type 0
  ExprNoted context listed vars expr =
      TreeNoted context vars
      (noted_of program.tables program.numbers program.notes expr context listed) (expr_keys expr)
      (expr_scoped expr)

  abbrev pub BlockNoted : Context → List ℕ → List Var → Block → Type 0
  BlockNoted context listed vars block =
      TreeNoted context vars
      (noted_in program.tables program.numbers program.notes block context listed)
      (block_keys block) (block_scoped block)

  -- the base of a member
  abbrev pub BaseNoted : Context → List ℕ → List Var → Expr → Type 0
  BaseNoted context listed vars expr = (base : Expr) (name : Name) → expr ≡ Member base name
      → ExprNoted context listed vars base

  module _ (host : Host) where
    -- The value of an expression is in a register that was made, and is the body's own `self` where
    -- the expression is that word. What the bodies in it take is known once its code has run.
    abbrev pub ReadPlaced : ExprCode → Type 0
    ReadPlaced code = (s : Making) → PlacesAt program host s code.read
        (λ x t. (x.reg < length t.made.regs)
        × ((code.is_self ≡ true → IsOwnSelf host x) × AreOrdinary code.inside))

    -- an assignment of a value
    abbrev pub WritePlaced : ExprCode → Type 0
    WritePlaced code = (x : Operand)
        → PlacesWith program host (code.write x) (AreOrdinary code.inside)

    -- An expression in a context, with the variables that are seen. Its value is read where what is
    -- noted of it stands among the notes. A place is assigned where what is noted of that does, and
    -- the base of a member that is one stands.
    pub record ExprPlaced (context : Context) (listed : List ℕ) (vars : List Var) (expr : Expr)
        (settable : Bool) : Type 0 where
      pub read : ExprNoted context listed vars expr
          → ReadPlaced (expr_code program.tables host.owner expr)
      pub write : settable ≡ true → (at : ℕ) → BaseNoted context listed vars expr
          → AreNoted program
          ((see program.tables.world program.tables.answers expr).stores context at)
          → WritePlaced (expr_code program.tables host.owner expr)

    -- code of statements, wherever `break` and `continue` lead, and the bodies in it
    abbrev pub CodePlaced : (Targets → Code (Unit {0})) → List Body → Type 0
    CodePlaced code inside = (targets : Targets)
        → PlacesWith program host (code targets) (AreOrdinary inside)

    abbrev pub OnlyPlaced : Option (Code Operand) → List Body → Type 0
    OnlyPlaced None inside = Unit {0}
    OnlyPlaced (Some read) inside = PlacesWith program host read (AreOrdinary inside)

    pub record StmtPlaced (code : StmtCode) : Type 0 where
      pub code_is : CodePlaced code.code code.inside
      pub only : OnlyPlaced code.only code.inside

    pub record BlockPlaced (code : BlockCode) : Type 0 where
      pub code_is : CodePlaced code.code code.inside
      pub only : OnlyPlaced code.only code.inside

  -- These bodies are among those of the program's closures and tasks.
  abbrev pub AreAmong : List Body → Type 0
  AreAmong some = (body : Body) → Contains some body → Contains program.inside body

  -- The bodies in code are those of the program, and their functions are made.
  pub record AreInside (some : List Body) : Type 0 where
    pub here : All (IsHere program.tables program.numbers program.functions) some
    pub among : AreAmong some

  -- the code of each well-typed expression, where the bodies in it are of the program
  abbrev pub ExprsPlaced : Type 0
  ExprsPlaced = (setting : Setting) (expected : Bool) (expr : Expr) (judged : Judged)
      → Judges program.tables.world setting expected expr judged
      → (host : Host) → IsHost program host → setting.owner ≡ host.owner
      → VarsHold program.tables.answers setting.vars → RowsHold program.tables.answers judged.rows
      → AreInside (expr_code program.tables host.owner expr).inside
      → (context : Context) (listed : List ℕ) → IsSeenFrom host context
      → ExprPlaced host context listed setting.vars expr judged.settable

  -- and of each block outside of initialisers
  abbrev pub BlocksPlaced : Type 0
  BlocksPlaced = (inside : Inside) (state : State) (block : Block) (left : Left)
      → LeavesBlock program.tables.world inside state block left
      → (host : Host) → IsHost program host → inside.owner ≡ host.owner → inside.init ≡ false
      → VarsHold program.tables.answers state.vars → RowsHold program.tables.answers left.rows
      → AreInside (block_code program.tables host.owner block).inside
      → (context : Context) (listed : List ℕ) → IsSeenFrom host context
      → BlockNoted context listed state.vars block
      → BlockPlaced host (block_code program.tables host.owner block)
