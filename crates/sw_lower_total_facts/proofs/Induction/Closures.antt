-- A closure and a task.
use Rattle.std.proofs.Common.{◌≡◌, ℕ, Bool, false, List, [], ◌∷◌, ◌++◌, Option, refl, sym, ap, ◌∙◌}
use Rattle.std.proofs.Common.{map}
use Rattle.sw_tree.specs.declared.expr.ClosureParam.{ClosureParam}
use Rattle.sw_tree.specs.declared.expr.Expr.TheVariants as exprs
use Rattle.sw_tree.specs.declared.name.Name.{Name}
use Rattle.sw_tree.specs.declared.stmt.Block.{Block}
use Rattle.sw_tree.specs.declared.type_tree.TypeTree.{TypeTree}
use Rattle.sw_tree.proofs.FoldEquations as eq
use Rattle.sw_tree_facts.specs.Unwritten.{ClosureBody as Unwritten, block_unwritten, expr_unwritten}
use Rattle.sw_tree_facts.specs.Unwritten.{unwritten_steps}
use Rattle.sw_typing_rules.specs.Judges as is
use Rattle.sw_typing_rules.specs.Statements.{Left, closure_state, in_body}
use Rattle.sw_typing_rules.specs.Words.{Setting}
use Rattle.sw_isolation_rules.specs.declared.note.Note.{Note}
use Rattle.sw_lower_plans.specs.Plan.{Numbers}
use Rattle.sw_lower_rules.specs.Tables.{Tables}
use Rattle.sw_typing_facts.proofs.Programs.DeclStands.{none_left, none_right}
use Rattle.sw_typing_facts.specs.EnumWords.{in_expr}
use Rattle.sw_lower_total_facts.specs.Known.{TablesAgree}
use Rattle.sw_lower_total_facts.proofs.Closures.Trees.{fun_by_block, spawn_by_block}
use Rattle.sw_lower_total_facts.proofs.Induction.Claims.{BlockClaim, ExprClaim}
use Rattle.sw_lower_total_facts.proofs.Mentions.Induction.{block_mentions_seen}
use Rattle.sw_lower_formed_facts.proofs.Expressions.Typed.{has_type}

-- no parameters of tasks in closures and tasks
fun_tasks : (at : ℕ) (mark : Option Name) (captures : List Name) (params : List ClosureParam)
    (result : Option TypeTree) (body : Block)
    → expr_unwritten (exprs.Fun (is.closure_of at mark captures params result body)) ≡ []
    → block_unwritten body ≡ []
unfolding expr_unwritten block_unwritten
fun_tasks at mark captures params result body none =
    sym (ap (λ (found : Unwritten). found.inside)
    (eq.fold_closure-roll unwritten_steps at mark captures params result body))
    ∙ sym (eq.fold_expr-Fun unwritten_steps (is.closure_of at mark captures params result body)) ∙
    none

spawn_tasks : (at : ℕ) (detached : Bool) (key : ℕ) (mark : Option Name) (captures : List Name)
    (params : List ClosureParam) (result : Option TypeTree) (body : Block)
    → expr_unwritten (exprs.Spawn at detached (is.closure_of key mark captures params result
    body)) ≡ []
    → map (λ (param : ClosureParam). param.name.at) params ++ block_unwritten body ≡ []
unfolding expr_unwritten block_unwritten
spawn_tasks at detached key mark captures params result body none =
    sym (ap (λ (found : Unwritten). found.params ++ found.inside)
    (eq.fold_closure-roll unwritten_steps key mark captures params result body))
    ∙ sym (eq.fold_expr-Spawn unwritten_steps at detached
    (is.closure_of key mark captures params result body)) ∙ none

no_params : (params : List ClosureParam)
    → map (λ (param : ClosureParam). param.name.at) params ≡ [] → params ≡ []
no_params [] is = refl
no_params (param ∷ params) is = cc

module _ (tables : Tables) (number : Numbers) (all : List Note)
    (known : TablesAgree tables number all)
  where
    pub fun_case : (setting : Setting) (expected : Bool) (at : ℕ) (mark : Option Name)
        (captures : List Name) (params : List ClosureParam) (result : Option TypeTree)
        (body : Block)
        (left : Left) (of_body : is.LeavesBlock tables.world (in_body setting.owner false)
        (closure_state tables.world setting captures params result) body left)
        → BlockClaim tables number all of_body
        → ExprClaim tables number all (is.fun setting expected _ _
        (is.closes setting at mark captures params result body left of_body))
    unfolding in_expr
    fun_case setting expected at mark captures params result body left of_body body_proceeds unmeant
        none vars rows numbered context listed same stands =
        fun_by_block tables number all known context listed setting vars at mark captures params
        result body left expected
        (has_type tables setting expected _ _ (is.fun _ _ _ _
        (is.closes _ at mark captures params result body left of_body)) vars rows) rows numbered
        stands
        (λ inner own_rows inside here key has. block_mentions_seen tables
        (in_body setting.owner false) (closure_state tables.world setting captures params result)
        body left of_body unmeant inner own_rows _ _ key has)
        (λ inner own_rows inside here. body_proceeds unmeant
        (fun_tasks at mark captures params result body none) refl inner own_rows inside _ _ same
        here)

    pub spawn_case : (setting : Setting) (expected : Bool) (at : ℕ) (detached : Bool) (key : ℕ)
        (mark : Option Name) (captures : List Name) (params : List ClosureParam)
        (result : Option TypeTree) (body : Block) (left : Left)
        (of_body : is.LeavesBlock tables.world (in_body setting.owner false)
        (closure_state tables.world setting captures params result) body left)
        → BlockClaim tables number all of_body
        → ExprClaim tables number all (is.spawn setting expected at detached _ _
        (is.closes setting key mark captures params result body left of_body))
    unfolding in_expr
    spawn_case setting expected at detached key mark captures params result body left of_body
        body_proceeds unmeant none vars rows numbered context listed same stands =
        let empty = spawn_tasks at detached key mark captures params result body none in
        spawn_by_block tables number all known context listed setting vars key mark captures params
        result body left at detached (no_params params (none_left _ _ empty))
        (has_type tables setting expected _ _ (is.spawn _ _ at detached _ _
        (is.closes _ key mark captures params result body left of_body)) vars rows) rows numbered
        stands
        (λ inner own_rows inside here key has. block_mentions_seen tables
        (in_body setting.owner false) (closure_state tables.world setting captures params result)
        body left of_body unmeant inner own_rows _ _ key has)
        (λ inner own_rows inside here. body_proceeds unmeant (none_right _ _ empty) refl inner
        own_rows inside _ _ same here)
