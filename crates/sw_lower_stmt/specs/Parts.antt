-- The code of the parts of statements: what each function makes, over the trees that it is given.
use Rattle.std.specs.Prelude.{ℕ, ◌==◌, true, false, List, [], ◌∷◌, map, flat_map, Option, Some}
use Rattle.std.specs.Prelude.{None, option_map, unwrap_or, if◌then◌else◌}
use Rattle.sw_tree.specs.Folds.{fold_case_arm, fold_if_arm}
use Rattle.sw_tree.specs.declared.expr.Expr.{Expr}
use Rattle.sw_tree.specs.declared.operator.AssignOp.{AssignOp}
use Rattle.sw_tree.specs.declared.operator.AssignOp.TheVariants as assigns
use Rattle.sw_tree.specs.declared.stmt.Block.{Block}
use Rattle.sw_tree.specs.declared.stmt.CaseArm.{CaseArm, out-CaseArm}
use Rattle.sw_tree.specs.declared.stmt.IfArm.{IfArm}
use Rattle.sw_tree.specs.declared.stmt.Stmt.{Stmt}
use Rattle.sw_types.specs.declared.shape.CaseShape.{CaseShape}
use Rattle.sw_types.specs.declared.shape.Shape.{Shape}
use Rattle.sw_types.specs.declared.ty.Ty.{Ty}
use Rattle.sw_graph.specs.declared.function.RegKind.TheVariants.{Plain, BoxOf}
use Rattle.sw_graph.specs.declared.instr.BinOp.{BinOp}
use Rattle.sw_graph.specs.declared.instr.BinOp.TheVariants as bin
use Rattle.sw_graph.specs.declared.instr.Instr.TheVariants as instr
use Rattle.sw_graph.specs.declared.instr.Last.{Last}
use Rattle.sw_graph.specs.declared.instr.Last.TheVariants as last
use Rattle.sw_graph.specs.declared.instr.Operand.{Operand}
use Rattle.sw_lower_plans.specs.Plan.{OfCase}
use Rattle.sw_lower_code.specs.Code.{Code, all, bind, block_for, close, done, each, emit, known}
use Rattle.sw_lower_code.specs.Code.{reg, resume, ◌>>=◌, ◌>>◌}
use Rattle.sw_lower_rules.specs.Carriers.{BlockCode, CaseCode, Given, IfCode, StmtCode}
use Rattle.sw_lower_rules.specs.Expressions.{block_made, jump}
use Rattle.sw_lower_rules.specs.Statements.{Arm, arm_code, block_code, case_from, code_steps}
use Rattle.sw_lower_rules.specs.Statements.{default_code, expr_code, in_new_block, patterns_code}
use Rattle.sw_lower_rules.specs.Statements.{stmt_code}
use Rattle.sw_lower_rules.specs.Tables.{Tables}
use Rattle.sw_lower_rules.specs.Uses.{shape_at, shape_of}
use Rattle.sw_lower_rules.specs.declared.targets.Targets.{Targets}
use Rattle.sw_lower_stmt.specs.declared.cases.OpenSwitch.{OpenSwitch}

-- the block that goes on ends so, and a new one goes on
unfoldable pub ended : Last → Code (Unit {0})
ended one = close one >> in_new_block

-- where `break` or `continue` leads
abbrev pub left_for : Option ℕ → Code (Unit {0})
left_for to = known 0 to >>= λ number. ended (last.Jump number)

-- a variable in a box, and one in a register of its own
abbrev pub var_in_box : ℕ → Operand → Ty → Code (Unit {0})
var_in_box key given ty = reg (BoxOf ty)
    >>= λ dst. emit (instr.NewBox key dst given)
    >> bind (record { key = key; reg = dst; boxed = true })

abbrev pub var_in_register : ℕ → Operand → Ty → Code (Unit {0})
var_in_register key given ty = reg (Plain ty)
    >>= λ dst. emit (instr.Copy key dst given)
    >> bind (record { key = key; reg = dst; boxed = false })

-- the operator that an assignment computes with
abbrev pub op_of : AssignOp → Option BinOp
op_of assigns.Set = None
op_of assigns.Add = Some bin.Add
op_of assigns.Subtract = Some bin.Sub
op_of assigns.Multiply = Some bin.Mul
op_of assigns.Divide = Some bin.Div
op_of assigns.Remainder = Some bin.Rem

-- An arm of an `if`: what follows goes on where its condition is false. The block in which both
-- ways join is given.
unfoldable pub arm_opened : Targets → IfCode → Code ℕ
arm_opened targets arm = arm.cond
    >>= λ given. block_made
    >>= λ yes. block_made
    >>= λ no. block_made
    >>= λ merge. close (last.Branch given yes no)
    >> resume yes
    >> arm.body.code targets
    >> jump merge
    >> resume no
    >> done merge

-- both ways of an arm join
unfoldable pub joined_in : ℕ → Code (Unit {0})
joined_in merge = jump merge >> resume merge

-- the arms of an `if` join, the last first
unfoldable pub joined_all : List ℕ → Code (Unit {0})
joined_all [] = done tt
joined_all (merge ∷ merges) = joined_all merges >> joined_in merge

-- the number of the block of an arm of a `switch`
unfoldable pub arm_number : Operand → ℕ → Shape → CaseArm → Code ℕ
arm_number subject number shape arm = known 0 (case_from 0 shape.cases (out-CaseArm arm).name.id)
    >>= λ tag. block_for (OfCase subject.reg number tag)

-- what stands in an arm of a `switch`, or in its `default`
abbrev pub switch_body : BlockCode → Targets → ℕ → Code (Unit {0})
switch_body body targets merge = body.code (record targets { breaks = Some merge })

-- what an arm of a `switch` declares, and what stands in it
abbrev pub arm_inside : Tables → Operand → Targets → ℕ → CaseCode → Code (Unit {0})
arm_inside tables subject targets merge arm =
    patterns_code tables subject 0 arm.patterns >> switch_body arm.body targets merge

-- the block of `default`, where there is one
abbrev pub default_number : Option Block → Code (Option ℕ)
default_number None = done None
default_number (Some tree) = block_made >>= λ number. done (Some number)

-- the block of the first arm of a case, by the blocks of all arms
abbrev pub block_named : List CaseArm → List ℕ → ℕ → Option ℕ
block_named [] blocks name = None
block_named (tree ∷ trees) [] name = None
block_named (tree ∷ trees) (block ∷ blocks) name =
    if (out-CaseArm tree).name.id == name then Some block else block_named trees blocks name

-- where a `switch` goes, by the numbers of the cases
abbrev pub goes_to : List CaseShape → List CaseArm → List ℕ → ℕ → List ℕ
goes_to cases trees blocks otherwise =
    map (λ (one : CaseShape). unwrap_or (block_named trees blocks one.name) otherwise) cases

-- the blocks of a `switch`, and the end of the block before it
unfoldable pub blocks_opened : Operand → ℕ → Shape → List CaseArm → Option Block → Code OpenSwitch
blocks_opened subject number shape trees otherwise = each (arm_number subject number shape) trees
    >>= λ blocks. default_number otherwise
    >>= λ default. block_made
    >>= λ merge. close (last.Switch subject
    (goes_to shape.cases trees blocks (unwrap_or default merge)))
    >> done (record { subject = subject; numbers = blocks; default = default; merge = merge })

module _ (tables : Tables) (owner : Option ℕ) where
  abbrev pub stmt_codes : List Stmt → List StmtCode
  stmt_codes trees = map (stmt_code tables owner) trees

  -- what statements give
  abbrev pub gives_of : List Stmt → List Given
  gives_of trees = flat_map (λ (one : StmtCode). one.gives) (stmt_codes trees)

  abbrev pub otherwise_code : Option Block → Option BlockCode
  otherwise_code tree = option_map (block_code tables owner) tree

  abbrev pub read_of : Option Expr → Option (Code Operand)
  read_of tree = option_map (λ (value : Expr). (expr_code tables owner value).read) tree

  unfoldable pub if_arm_code : IfArm → IfCode
  if_arm_code = fold_if_arm (code_steps tables owner)

  abbrev pub if_codes : List IfArm → List IfCode
  if_codes trees = map if_arm_code trees

  unfoldable pub case_code : CaseArm → CaseCode
  case_code = fold_case_arm (code_steps tables owner)

  abbrev pub case_codes : List CaseArm → List CaseCode
  case_codes trees = map case_code trees

  -- the arms of a `switch`, each with the number of its block
  abbrev pub numbered : List CaseArm → List ℕ → List Arm
  numbered [] blocks = []
  numbered (tree ∷ trees) [] = []
  numbered (tree ∷ trees) (block ∷ blocks) =
      record { arm = case_code tree; block = block } ∷ numbered trees blocks

  -- what a `switch` goes over, with its blocks
  unfoldable pub switch_opened : Expr → List CaseArm → Option Block → Code OpenSwitch
  switch_opened subject trees otherwise = (expr_code tables owner subject).read
      >>= λ given. shape_of tables (expr_code tables owner subject).key
      >>= λ number. shape_at tables number
      >>= λ shape. blocks_opened given number shape trees otherwise

  -- the arms of a `switch`, in its blocks
  abbrev pub switch_arms : List CaseArm → Option Block → Targets → OpenSwitch → Code (Unit {0})
  switch_arms trees otherwise targets opened =
      all (arm_code tables opened.subject targets opened.merge) (numbered trees opened.numbers)
      >> default_code tables (otherwise_code otherwise) opened.default targets opened.merge
      >> resume opened.merge
