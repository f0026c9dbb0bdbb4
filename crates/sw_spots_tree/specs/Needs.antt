-- What is asked of a tree whose work is to stand where its code is.
use Rattle.std.specs.Prelude.{ℕ, List, [], map, Option}
use Rattle.sw_tree.specs.declared.expr.Closure.{Closure, out-Closure}
use Rattle.sw_tree.specs.declared.expr.ClosureParam.{ClosureParam}
use Rattle.sw_tree.specs.declared.stmt.Block.{Block}
use Rattle.sw_tree.specs.declared.stmt.Stmt.TheVariants as stmts
use Rattle.sw_tree_facts.specs.Parts.{StandsIn, TasksTakeNothing, Tree, of_closure, of_stmt}
use Rattle.sw_isolation_rules.specs.declared.note.Capture.{Capture}
use Rattle.sw_spots.specs.Making.{IsOne}
use Rattle.sw_spots_tree.specs.Declared.{block_declared}

-- Each `if` in the tree has an arm.
abbrev pub IfsHaveArms : Tree → Type 0
IfsHaveArms whole = (otherwise : Option Block)
    → StandsIn (of_stmt (stmts.If [] otherwise)) whole → ⊥

abbrev pub params_of : Closure → List ℕ
params_of closure = map (λ (param : ClosureParam). param.name.at) (out-Closure closure).params

abbrev pub captured_by : List Capture → List ℕ
captured_by captures = map (λ (one : Capture). one.variable) captures

-- What a closure in the tree captures isn't declared in its body.
abbrev pub ClosuresAreApart : (ℕ → List Capture) → Tree → Type 0
ClosuresAreApart captures_of whole = (closure : Closure) → StandsIn (of_closure closure) whole
    → (key : ℕ) → IsOne (block_declared (out-Closure closure).body) key
    → IsOne (captured_by (captures_of (out-Closure closure).at)) key → ⊥

pub record Needs (captures_of : ℕ → List Capture) (whole : Tree) : Type 0 where
  pub ifs : IfsHaveArms whole
  pub tasks : TasksTakeNothing whole
  pub closures : ClosuresAreApart captures_of whole
