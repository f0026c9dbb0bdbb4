-- What the relations of types say of a node is one thing.
use Rattle.std.proofs.Common.{◌≡◌, Bool, sym, ◌∙◌}
use Rattle.sw_tree.specs.declared.expr.Expr.{Expr}
use Rattle.sw_tree.specs.declared.stmt.Block.{Block}
use Rattle.sw_tree.specs.declared.stmt.Stmt.{Stmt}
use Rattle.sw_typing_rules.specs.Expressions.{Judged}
use Rattle.sw_typing_rules.specs.Judges.{Judges, Leaves, LeavesBlock}
use Rattle.sw_typing_rules.specs.Judging.{judge, leave, leave_block}
use Rattle.sw_typing_rules.specs.Statements.{State, Left}
use Rattle.sw_typing_rules.specs.declared.scope.Inside.{Inside}
use Rattle.sw_typing_rules.specs.Words.{Setting}
use Rattle.sw_typing_rules.specs.Worlds.{World}
use Rattle.sw_typing_rules.proofs.Complete.{judged_is, left_is, block_is}

pub one_judged : (world : World) (setting : Setting) (expected : Bool) (expr : Expr)
    (one other : Judged) → Judges world setting expected expr one
    → Judges world setting expected expr other → one ≡ other
one_judged world setting expected expr one other first second =
    sym (judged_is world setting expected expr one first)
    ∙ judged_is world setting expected expr other second

pub one_left : (world : World) (inside : Inside) (state : State) (stmt : Stmt) (one other : Left)
    → Leaves world inside state stmt one → Leaves world inside state stmt other → one ≡ other
one_left world inside state stmt one other first second =
    sym (left_is world inside state stmt one first) ∙ left_is world inside state stmt other second

pub judge_is : (world : World) (setting : Setting) (expected : Bool) (expr : Expr) (judged : Judged)
    → Judges world setting expected expr judged → judge world expr setting expected ≡ judged
unfolding judge
judge_is = judged_is

pub leave_is : (world : World) (inside : Inside) (state : State) (stmt : Stmt) (left : Left)
    → Leaves world inside state stmt left → leave world stmt inside state ≡ left
unfolding leave
leave_is = left_is

pub leave_block_is : (world : World) (inside : Inside) (state : State) (block : Block) (left : Left)
    → LeavesBlock world inside state block left → leave_block world block inside state ≡ left
unfolding leave_block
leave_block_is = block_is
