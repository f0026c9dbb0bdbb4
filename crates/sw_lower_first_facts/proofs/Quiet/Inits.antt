-- The code of an initialiser whose values are simple.
use Rattle.std.proofs.Common.{◌≡◌, ℕ, Bool, true, List, [], ◌∷◌, Option, Some, map}
use Rattle.std.proofs.Common.{flat_map, Contains, ap, sym, subst, is_some}
use Rattle.std.specs.List.{AllByRecursion}
use Rattle.sw_tree.proofs.FoldEquations as eq
use Rattle.sw_tree.specs.Folds.{Steps, fold_stmt}
use Rattle.sw_tree.specs.declared.stmt.Block.{Block, out-roll-Block, roll-Block}
use Rattle.sw_tree.specs.declared.stmt.Stmt.{Stmt}
use Rattle.sw_types.specs.declared.shape.Part.{Part}
use Rattle.sw_types.specs.declared.shape.Shape.{Shape}
use Rattle.sw_types.specs.declared.shape.ShapeKind.{ShapeKind}
use Rattle.sw_types.specs.declared.shape.ShapeKind.TheVariants as kinds
use Rattle.sw_graph.specs.declared.instr.Operand.{Operand}
use Rattle.sw_typing_rules.specs.Judges as is
use Rattle.sw_typing_rules.specs.Judges.{Leaves, LeavesAll, LeavesBlock}
use Rattle.sw_typing_rules.specs.Statements.{Left, State, in_body}
use Rattle.sw_typing_rules.specs.Statements.{setting_of}
use Rattle.sw_typing_rules.specs.Words.{local}
use Rattle.sw_typing_rules.specs.Worlds.{World}
use Rattle.sw_typing_rules.specs.declared.scope.Var.{Var}
use Rattle.sw_lower_plans.specs.Plan.{Numbers}
use Rattle.sw_lower_code.specs.Code.{each, known}
use Rattle.sw_lower_rules.specs.Bodies.{GivenValue, give_value, init_code, made_instr, value_of}
use Rattle.sw_lower_rules.specs.Carriers.{BlockCode, Given, StmtCode}
use Rattle.sw_lower_rules.specs.Statements.{block_code, code_steps, expr_code}
use Rattle.sw_lower_rules.specs.Tables.{Tables}
use Rattle.sw_lower_rules.specs.Uses.{no_operand}
use Rattle.sw_lower_formed_facts.specs.Forms.{VarsHold}
use Rattle.sw_typing_facts.specs.Rows.{RowsHold}
use Rattle.sw_lower_formed_facts.proofs.Bodies.InitStmts.{in_init, own_assigned, own_gives}
use Rattle.sw_typing_facts.proofs.Lists.Listed.{in_first, in_rest}
use Rattle.sw_typing_facts.proofs.Programs.OwnAssigns.{OwnAssign}
use Rattle.sw_typing_facts.proofs.Said.Rows.{rows_left, rows_right}
use Rattle.sw_lower_first_facts.specs.Quiet.{IsQuiet, WritesQuiet}
use Rattle.sw_lower_first_facts.proofs.Flowing.Joining.{all_joined}
use Rattle.sw_lower_first_facts.proofs.Quiet.Joining.{writes_close, writes_done, writes_each}
use Rattle.sw_lower_first_facts.proofs.Quiet.Joining.{writes_give, writes_then}
use Rattle.sw_lower_first_facts.proofs.Quiet.Simple.{simple_quiet}

module _ (tables : Tables) (numbers : Numbers) where
  -- the values of properties
  abbrev pub GivesQuiet : List Given → Type 0
  GivesQuiet givens = AllByRecursion (λ (one : Given). WritesQuiet tables numbers one.read) givens

  each_value : (givens : List Given) → GivesQuiet givens
      → AllByRecursion (λ given. WritesQuiet tables numbers (give_value given)) givens
  each_value [] all = tt
  each_value (given ∷ givens) all = (
    writes_then tables numbers given.read _ all.0 (λ value. writes_done tables numbers _),
    each_value givens all.1,
  )

  known_alone : {A : Type 0} (fallback : A) (found : Option A)
      → WritesQuiet tables numbers (known fallback found)
  unfolding known
  known_alone fallback found s t value going same ran = tt

  each_part : (values : List GivenValue) (parts : List Part)
      → AllByRecursion (λ (part : Part).
      WritesQuiet tables numbers (known no_operand (value_of values part.name))) parts
  each_part values [] = tt
  each_part values (part ∷ parts) = (known_alone _ _, each_part values parts)

  made_quiet : (kind : ShapeKind) (key r number : ℕ) (operands : List Operand)
      → IsQuiet tables numbers (made_instr kind key r number operands)
  made_quiet kinds.Struct key r number operands = tt
  made_quiet kinds.Enum key r number operands = tt
  made_quiet kinds.Class key r number operands = tt
  made_quiet kinds.Actor key r number operands = tt

  -- An initialiser makes its object of the values.
  pub init_quiet : (key number : ℕ) (shape : Shape) (givens : List Given) → GivesQuiet givens
      → WritesQuiet tables numbers (init_code key number shape givens)
  unfolding init_code
  init_quiet key number shape givens all =
      writes_then tables numbers (each give_value givens) _
      (writes_each tables numbers give_value givens (each_value givens all)) (λ values.
      writes_then tables numbers
      (each (λ (part : Part). known no_operand (value_of values part.name)) shape.parts) _
      (writes_each tables numbers _ shape.parts (each_part values shape.parts)) (λ operands.
      writes_then tables numbers _ _
      (writes_give tables numbers key _ _ (λ r. made_quiet shape.kind key r number operands))
      (λ made. writes_close tables numbers _)))

  module _ (n : ℕ) (params : ℕ → Option ℕ) where
    abbrev world : World
    world = tables.world

    abbrev steps : Steps
    steps = code_steps tables (Some n)

    -- The parameters are the variables that are seen.
    abbrev Agree : List Var → Type 0
    Agree vars = (id : ℕ) → is_some (params id) ≡ is_some (local vars id)

    -- what a statement gives, after which the same is known
    record StmtQuiet (stmt : Stmt) (state : State) (left : Left) : Type 0 where
      gives : GivesQuiet (fold_stmt steps stmt).gives
      still : left.state ≡ state

    assign_quiet : (only : Bool) (state : State) (stmt : Stmt) (left : Left)
        → Leaves world (in_init n only) state stmt left → VarsHold tables.answers state.vars
        → Agree state.vars → RowsHold tables.answers left.rows
        → OwnAssign world.known n params stmt → StmtQuiet stmt state left
    unfolding expr_code
    assign_quiet only state stmt left leaves vars agree rows own =
        let it = own_assigned world n world.known params only state stmt own tables.answers left
        leaves rows in record {
          gives = subst GivesQuiet (sym (own_gives tables n world.known params stmt own)) (
            simple_quiet tables numbers (setting_of (in_init n only) state) params agree vars
                it.expected own.sets.value it.judged it.judges it.rows own.simple,
            tt,
          );
          still = it.still;
        }

    stmts_quiet : (only : Bool) (state : State) (xs : List Stmt) (left : Left)
        → LeavesAll world (in_init n only) state xs left → VarsHold tables.answers state.vars
        → Agree state.vars → RowsHold tables.answers left.rows
        → ((x : Stmt) → Contains xs x → OwnAssign world.known n params x)
        → GivesQuiet (flat_map (λ (one : StmtCode). one.gives) (map (fold_stmt steps) xs))
    stmts_quiet only state xs left (is.no_stmt _ _) vars agree rows own = tt
    stmts_quiet only state xs left (is.one_stmt _ _ stmt more one last d rest) vars agree rows own =
        let first = assign_quiet only state stmt one d vars agree
        (rows_left tables.answers one.rows last.rows rows) (own stmt (in_first stmt more)) in
        all_joined (λ (given : Given). WritesQuiet tables numbers given.read)
        (fold_stmt steps stmt).gives
        (flat_map (λ (one : StmtCode). one.gives) (map (fold_stmt steps) more)) first.gives
        (stmts_quiet only one.state more last rest
        (subst (λ (s : State). VarsHold tables.answers s.vars) (sym first.still) vars)
        (subst (λ (s : State). Agree s.vars) (sym first.still) agree)
        (rows_right tables.answers one.rows last.rows rows)
        (λ x has. own x (in_rest stmt more x has)))

    -- what the block of an initialiser gives
    pub block_quiet : (state : State) (block : Block) (left : Left)
        → LeavesBlock world (in_body (Some n) true) state block left
        → VarsHold tables.answers state.vars → Agree state.vars
        → RowsHold tables.answers left.rows
        → ((x : Stmt) → Contains block.stmts x → OwnAssign world.known n params x)
        → GivesQuiet (block_code tables (Some n) block).gives
    unfolding block_code
    block_quiet state block left (is.block _ _ xs _ d) vars agree rows own =
        let stmts_are : (roll-Block (record { stmts = xs })).stmts ≡ xs =
        ap (λ b. b.stmts) (out-roll-Block (record { stmts = xs })) in
        subst GivesQuiet (sym (ap (λ (c : BlockCode). c.gives) (eq.fold_block-roll steps xs)))
        (stmts_quiet _ state xs left d vars agree rows
        (λ x has. own x (subst (λ list. Contains list x) (sym stmts_are) has)))
