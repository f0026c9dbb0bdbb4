-- The code of statements and blocks, by one step for each form, and the code of whole trees.
use Rattle.std.specs.Prelude.{ℕ, ◌+◌, ◌==◌, List, [], ◌∷◌, ◌++◌, map, flat_map, Option, Some, None}
use Rattle.std.specs.Prelude.{true, false, if◌then◌else◌}
use Rattle.std.specs.Option.{unwrap_or}
use Rattle.sw_tree.specs.Folds.{Steps, fold_block, fold_expr, fold_stmt}
use Rattle.sw_tree.specs.declared.expr.Expr.{Expr}
use Rattle.sw_tree.specs.declared.expr.Expr.TheOpen as layer
use Rattle.sw_tree.specs.declared.operator.AssignOp.{AssignOp}
use Rattle.sw_tree.specs.declared.operator.AssignOp.TheVariants as assigns
use Rattle.sw_tree.specs.declared.stmt.Block.{Block}
use Rattle.sw_tree.specs.declared.stmt.Pattern.{Pattern}
use Rattle.sw_tree.specs.declared.stmt.Pattern.TheVariants.{Skip, Let}
use Rattle.sw_tree.specs.declared.stmt.Stmt.{Stmt}
use Rattle.sw_types.specs.declared.shape.CaseShape.{CaseShape}
use Rattle.sw_types.specs.declared.shape.Shape.{Shape}
use Rattle.sw_types.specs.declared.ty.Ty.{Ty}
use Rattle.sw_types.specs.declared.ty.Ty.TheVariants as types
use Rattle.sw_graph.specs.declared.function.RegKind.TheVariants.{Plain, BoxOf}
use Rattle.sw_graph.specs.declared.instr.BinOp.{BinOp}
use Rattle.sw_graph.specs.declared.instr.BinOp.TheVariants as bin
use Rattle.sw_graph.specs.declared.instr.Instr.TheVariants as instr
use Rattle.sw_graph.specs.declared.instr.Last.TheVariants as last
use Rattle.sw_graph.specs.declared.instr.Operand.{Operand}
use Rattle.sw_lower_code.specs.Code.{Code, all, bind, block_for, close, done, each, emit, front}
use Rattle.sw_lower_code.specs.Code.{known, reg, resume, scope, ◌>>=◌, ◌>>◌}
use Rattle.sw_lower_plans.specs.Plan.{OfCase}
use Rattle.sw_lower_code.specs.Whole.{Body}
use Rattle.sw_lower_rules.specs.Carriers.{ArgCode, BlockCode, CaseCode, ClosureCode, ExprCode}
use Rattle.sw_lower_rules.specs.Carriers.{Given, IfCode, LinkCode, StmtCode}
use Rattle.sw_lower_rules.specs.declared.targets.Targets.{Targets}
use Rattle.sw_lower_rules.specs.Expressions.{block_made, expr_layer, jump}
use Rattle.sw_lower_rules.specs.Tables.{Tables}
use Rattle.sw_lower_rules.specs.Uses.{give, shape_at, shape_of, typed}

-- a statement that is no expression and gives no property a value
abbrev pub statement : (Targets → Code (Unit {0})) → List Body → StmtCode
statement code inside = record { code = code; only = None; gives = []; inside = inside }

-- after a statement that leaves, a new block goes on
abbrev pub in_new_block : Code (Unit {0})
in_new_block = block_made >>= resume

-- the arms of an `if`, one in the `else` of the other
unfoldable pub arms_code : List IfCode → Code (Unit {0}) → Targets → Code (Unit {0})
arms_code [] otherwise targets = otherwise
arms_code (arm ∷ arms) otherwise targets = arm.cond
    >>= λ given. block_made
    >>= λ yes. block_made
    >>= λ no. block_made
    >>= λ merge. close (last.Branch given yes no)
    >> resume yes
    >> arm.body.code targets
    >> jump merge
    >> resume no
    >> arms_code arms otherwise targets
    >> jump merge
    >> resume merge

abbrev pub else_code : Option BlockCode → Targets → Code (Unit {0})
else_code None targets = done tt
else_code (Some block) targets = block.code targets

-- a loop: a block for the condition, one for the body, and one after it
abbrev pub while_code : Code Operand → BlockCode → Code (Unit {0})
while_code cond body = block_made
    >>= λ head. block_made
    >>= λ inner. block_made
    >>= λ after. jump head
    >> resume head
    >> cond
    >>= λ given. close (last.Branch given inner after)
    >> resume inner
    >> body.code (record { breaks = Some after; continues = Some head })
    >> jump head
    >> resume after

-- the number of the case with a name
abbrev pub case_from : ℕ → List CaseShape → ℕ → Option ℕ
case_from number [] name = None
case_from number (one ∷ more) name =
    if one.name == name then Some number else case_from (number + 1) more name

-- an arm with the number of its block
pub record Arm : Type 0 where
  pub arm : CaseCode
  pub block : ℕ

-- the block of the first arm of a case
abbrev pub block_of : List Arm → ℕ → Option ℕ
block_of [] name = None
block_of (one ∷ more) name =
    if one.arm.name.id == name then Some one.block else block_of more name

-- where a `switch` goes, by the numbers of the cases: to the first arm of the case, else to
-- `default`
abbrev pub switch_to : List CaseShape → List Arm → ℕ → List ℕ
switch_to cases arms otherwise =
    map (λ (one : CaseShape). unwrap_or (block_of arms one.name) otherwise) cases

-- a value goes by its operator: `x += e` adds
abbrev pub assign_by : ℕ → BinOp → ExprCode → Operand → Code (Unit {0})
assign_by at op place given = place.read
    >>= λ old. give at types.Int (λ dst. instr.Bin at dst op old given)
    >>= place.write

abbrev pub assign : AssignOp → ℕ → ExprCode → Operand → Code (Unit {0})
assign assigns.Set at place given = place.write given
assign assigns.Add at place given = assign_by at bin.Add place given
assign assigns.Subtract at place given = assign_by at bin.Sub place given
assign assigns.Multiply at place given = assign_by at bin.Mul place given
assign assigns.Divide at place given = assign_by at bin.Div place given
assign assigns.Remainder at place given = assign_by at bin.Rem place given

-- what an initialiser's assignment gives
abbrev pub given_part : Option ℕ → Code Operand → List Given
given_part None read = []
given_part (Some name) read = record { name = name; read = read } ∷ []

abbrev pub block_only : List StmtCode → Option (Code Operand)
block_only [] = None
block_only (one ∷ []) = one.only
block_only (one ∷ other ∷ more) = None

-- What a block declares is seen in it alone.
abbrev pub block_layer : List StmtCode → BlockCode
block_layer stmts = record {
  code = λ targets. scope (all (λ (one : StmtCode). one.code targets) stmts);
  only = block_only stmts;
  gives = flat_map (λ (one : StmtCode). one.gives) stmts;
  inside = flat_map (λ (one : StmtCode). one.inside) stmts;
}

abbrev pub inside_of : Option BlockCode → List Body
inside_of None = []
inside_of (Some block) = block.inside

module _ (tables : Tables) where
  -- A variable is kept in a box where a closure captures it by reference.
  abbrev pub boxed_var : ℕ → Operand → Ty → Code (Unit {0})
  boxed_var key given ty = reg (BoxOf ty)
      >>= λ dst. emit (instr.NewBox key dst given)
      >> bind (record { key = key; reg = dst; boxed = true })

  abbrev pub plain_var : ℕ → Operand → Ty → Code (Unit {0})
  plain_var key given ty = reg (Plain ty)
      >>= λ dst. emit (instr.Copy key dst given)
      >> bind (record { key = key; reg = dst; boxed = false })

  unfoldable pub declare_var : ℕ → Operand → Code (Unit {0})
  declare_var key given = typed tables key
      >>= (if tables.isolation.is_boxed key then boxed_var key given else plain_var key given)

  -- the payloads of a case, from a number on
  abbrev pub pattern_code : Operand → ℕ → Pattern → Code (Unit {0})
  pattern_code subject number (Skip at) = done tt
  pattern_code subject number (Let name) = typed tables name.at
      >>= λ ty. reg (Plain ty)
      >>= λ dst. front (instr.Payload name.at dst subject number)
      >> bind (record { key = name.at; reg = dst; boxed = false })

  unfoldable pub patterns_code : Operand → ℕ → List Pattern → Code (Unit {0})
  patterns_code subject number [] = done tt
  patterns_code subject number (pattern ∷ patterns) =
      pattern_code subject number pattern >> patterns_code subject (number + 1) patterns

  -- the block of an arm
  abbrev pub arm_block : Operand → ℕ → Shape → CaseCode → Code Arm
  arm_block subject number shape arm = known 0 (case_from 0 shape.cases arm.name.id)
      >>= λ tag. block_for (OfCase subject.reg number tag)
      >>= λ block. done (record { arm = arm; block = block })

  abbrev pub switch_targets : Targets → ℕ → Targets
  switch_targets targets merge = record targets { breaks = Some merge }

  -- What the patterns of an arm declare is seen in the arm alone.
  abbrev pub arm_code : Operand → Targets → ℕ → Arm → Code (Unit {0})
  arm_code subject targets merge one = resume one.block
      >> scope (patterns_code subject 0 one.arm.patterns
      >> one.arm.body.code (switch_targets targets merge))
      >> jump merge

  -- Without `default` a `switch` makes no block for it.
  abbrev pub default_block : Option BlockCode → Code (Option ℕ)
  default_block None = done None
  default_block (Some block) = block_made >>= λ number. done (Some number)

  abbrev pub default_code : Option BlockCode → Option ℕ → Targets → ℕ → Code (Unit {0})
  default_code (Some block) (Some number) targets merge =
      resume number >> block.code (switch_targets targets merge) >> jump merge
  default_code _ _ targets merge = done tt

  abbrev pub switch_code : ExprCode → List CaseCode → Option BlockCode → Targets → Code (Unit {0})
  switch_code subject arms otherwise targets = subject.read
      >>= λ given. shape_of tables subject.key
      >>= λ number. shape_at tables number
      >>= λ shape. each (arm_block given number shape) arms
      >>= λ blocks. default_block otherwise
      >>= λ default. block_made
      >>= λ merge. close (last.Switch given
      (switch_to shape.cases blocks (unwrap_or default merge)))
      >> all (arm_code given targets merge) blocks
      >> default_code otherwise default targets merge
      >> resume merge

  abbrev pub return_code : Option (Code Operand) → Code (Unit {0})
  return_code None = close (last.Return None) >> in_new_block
  return_code (Some read) =
      read >>= λ given. close (last.Return (Some given)) >> in_new_block

  -- `break` and `continue`
  abbrev pub leave : Option ℕ → Code (Unit {0})
  leave to = known 0 to >>= λ number. jump number >> in_new_block

  -- an expression whose value isn't used
  abbrev pub ignored : Code Operand → Code (Unit {0})
  ignored read = read >>= λ given. done tt

  abbrev pub stmt_layer : layer.Stmt-F ExprCode StmtCode ArgCode ClosureCode LinkCode BlockCode
      CaseCode IfCode → StmtCode
  stmt_layer (layer.Bind mutable name ty bound) =
      statement (λ targets. bound.read >>= declare_var name.at) bound.inside
  stmt_layer (layer.Assign at op place assigned) = record {
    code = λ targets. assigned.read >>= assign op at place;
    only = None;
    gives = given_part place.own_part assigned.read;
    inside = place.inside ++ assigned.inside;
  }
  stmt_layer (layer.Discard at unused) =
      statement (λ targets. ignored unused.read) unused.inside
  stmt_layer (layer.If arms otherwise) =
      statement (λ targets. arms_code arms (else_code otherwise targets) targets)
      (flat_map (λ (arm : IfCode). arm.inside) arms ++ inside_of otherwise)
  stmt_layer (layer.While at cond body) =
      statement (λ targets. while_code cond.read body) (cond.inside ++ body.inside)
  stmt_layer (layer.Switch at subject arms otherwise) =
      statement (switch_code subject arms otherwise)
      (subject.inside
      ++ flat_map (λ (arm : CaseCode). arm.body.inside) arms ++ inside_of otherwise)
  stmt_layer (layer.Return at None) = statement (λ targets. return_code None) []
  stmt_layer (layer.Return at (Some given)) =
      statement (λ targets. return_code (Some given.read)) given.inside
  stmt_layer (layer.Break at) = statement (λ targets. leave targets.breaks) []
  stmt_layer (layer.Continue at) = statement (λ targets. leave targets.continues) []
  stmt_layer (layer.Plain plain) = record {
    code = λ targets. ignored plain.read;
    only = Some plain.read;
    gives = [];
    inside = plain.inside;
  }

  abbrev pub code_steps : Option ℕ → Steps
  code_steps owner = record {
    E = ExprCode;
    S = StmtCode;
    A = ArgCode;
    C = ClosureCode;
    L = LinkCode;
    B = BlockCode;
    K = CaseCode;
    I = IfCode;
    expr = expr_layer tables owner;
    stmt = stmt_layer;
    arg = λ arg. record { read = arg.value.read; inside = arg.value.inside };
    closure = λ closure.
        record { at = closure.at; params = closure.params; body = closure.body };
    link = λ link. record {
      op = link.op;
      at = link.at;
      read = link.operand.read;
      inside = link.operand.inside;
    };
    block = λ block. block_layer block.stmts;
    case_arm = λ arm. record { name = arm.name; patterns = arm.patterns; body = arm.body };
    if_arm = λ arm. record {
      cond = arm.cond.read;
      body = arm.body;
      inside = arm.cond.inside ++ arm.body.inside;
    };
  }

  -- the code of an expression, of a statement and of a block, in a member of the type with a number
  unfoldable pub expr_code : Option ℕ → Expr → ExprCode
  expr_code owner = fold_expr (code_steps owner)

  unfoldable pub stmt_code : Option ℕ → Stmt → StmtCode
  stmt_code owner = fold_stmt (code_steps owner)

  unfoldable pub block_code : Option ℕ → Block → BlockCode
  block_code owner = fold_block (code_steps owner)
