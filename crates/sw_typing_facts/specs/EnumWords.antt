-- The words that name enums before a `.`: they are no nodes, so nothing is said of their meaning.
use Rattle.std.specs.Prelude.{◌≡◌, ℕ, Bool, false, List, [], ◌∷◌, ◌++◌, Option, Some, None, All}
use Rattle.sw_tree.specs.declared.expr.Arg.{Arg}
use Rattle.sw_tree.specs.declared.expr.Closure.{Closure}
use Rattle.sw_tree.specs.declared.expr.Expr.{Expr}
use Rattle.sw_tree.specs.declared.expr.Link.{Link}
use Rattle.sw_tree.specs.declared.stmt.Block.{Block}
use Rattle.sw_tree.specs.declared.stmt.CaseArm.{CaseArm}
use Rattle.sw_tree.specs.declared.stmt.IfArm.{IfArm}
use Rattle.sw_tree.specs.declared.stmt.Stmt.{Stmt}
use Rattle.sw_types.specs.declared.shape.CaseShape.{CaseShape}
use Rattle.sw_typing_rules.specs.Calls.{Slot}
use Rattle.sw_typing_rules.specs.Expressions.{Closed, Judged, Passed}
use Rattle.sw_typing_rules.specs.Judges as is
use Rattle.sw_typing_rules.specs.Judges.{Closes, Judges, Leaves, LeavesAll, LeavesArms, LeavesBlock}
use Rattle.sw_typing_rules.specs.Judges.{LeavesCases, LeavesOtherwise, Links, Passes}
use Rattle.sw_typing_rules.specs.Statements.{Armed, Left, State}
use Rattle.sw_typing_rules.specs.Words.{Setting}
use Rattle.sw_typing_rules.specs.Worlds.{World}
use Rattle.sw_typing_rules.specs.declared.scope.Inside.{Inside}
use Rattle.sw_isolation_rules.specs.Answers.{Answers}

-- the key of a base that names an enum, or those in a base that is a value
abbrev pub base_by : ℕ → Option ℕ → List ℕ → List ℕ
base_by key None inner = inner
base_by key (Some shape) inner = key ∷ []

abbrev pub in_base : Judged → List ℕ → List ℕ
in_base base inner = base_by base.key base.enum inner

module _ (world : World) where
  unfoldable mutual
    pub in_expr : (setting : Setting) (expected : Bool) (expr : Expr) (judged : Judged)
        → Judges world setting expected expr judged → List ℕ
    in_expr setting expected expr judged (is.int _ _ at value) = []
    in_expr setting expected expr judged (is.bool _ _ at value) = []
    in_expr setting expected expr judged (is.word _ _ name) = []
    in_expr setting expected expr judged (is.me _ _ at) = []
    in_expr setting expected expr judged (is.member _ _ base name one of_base) =
        in_base one (in_expr setting false base one of_base)
    in_expr setting expected expr judged (is.call _ _ name args passed of_args) =
        in_args setting _ args passed of_args
    in_expr setting expected expr judged (is.method _ _ base name args one passed of_base of_args) =
        in_base one (in_expr setting false base one of_base)
        ++ in_args setting _ args passed of_args
    in_expr setting expected expr judged (is.chain _ _ first rest left _ of_first of_rest) =
        in_expr setting false first left of_first ++ in_links setting left rest judged of_rest
    in_expr setting expected expr judged (is.prefix _ _ op at inner one of_inner) =
        in_expr setting false inner one of_inner
    in_expr setting expected expr judged (is.await _ _ at inner one of_inner) =
        in_expr setting false inner one of_inner
    in_expr setting expected expr judged (is.fun _ _ closure closed of_closure) =
        in_closure setting closure closed of_closure
    in_expr setting expected expr judged (is.spawn _ _ at detached body closed of_body) =
        in_closure setting body closed of_body
    in_expr setting expected expr judged (is.yield _ _ at) = []

    pub in_args : (setting : Setting) (slots : List Slot) (args : List Arg) (passed : Passed)
        → Passes world setting slots args passed → List ℕ
    in_args setting slots args passed (is.passes_none _ _) = []
    in_args setting slots args passed (is.passes_one _ _ label value more one rest of_value
        of_rest) =
        in_expr setting _ value one of_value ++ in_args setting _ more rest of_rest

    pub in_links : (setting : Setting) (left : Judged) (links : List Link) (judged : Judged)
        → Links world setting left links judged → List ℕ
    in_links setting left links judged (is.no_link _ _) = []
    in_links setting left links judged (is.one_link _ _ op at operand more right _ of_right rest) =
        in_expr setting false operand right of_right ++ in_links setting _ more judged rest

    pub in_closure : (setting : Setting) (closure : Closure) (closed : Closed)
        → Closes world setting closure closed → List ℕ
    in_closure setting closure closed
        (is.closes _ at mark captures params result body left of_body) =
        in_block _ _ body left of_body

    pub in_stmt : (inside : Inside) (state : State) (stmt : Stmt) (left : Left)
        → Leaves world inside state stmt left → List ℕ
    in_stmt inside state stmt left (is.bind _ _ mutable name ty value judged of_value) =
        in_expr _ _ value judged of_value
    in_stmt inside state stmt left
        (is.assign _ _ at op place value placed judged of_place of_value) =
        in_expr _ _ place placed of_place ++ in_expr _ _ value judged of_value
    in_stmt inside state stmt left (is.discard _ _ at value judged of_value) =
        in_expr _ _ value judged of_value
    in_stmt inside state stmt left (is.if_of _ _ arms otherwise one last of_arms of_other) =
        in_arms inside state arms one of_arms ++ in_otherwise _ _ _ otherwise last of_other
    in_stmt inside state stmt left (is.while_of _ _ at cond body judged one of_cond of_body) =
        in_expr _ _ cond judged of_cond ++ in_block _ _ body one of_body
    in_stmt inside state stmt left (is.switch _ _ at subject arms otherwise judged armed last
        of_subject of_cases of_other) =
        in_expr _ _ subject judged of_subject
        ++ in_cases _ _ _ arms armed of_cases ++ in_otherwise _ _ _ otherwise last of_other
    in_stmt inside state stmt left (is.return_nothing _ _ at) = []
    in_stmt inside state stmt left (is.return_of _ _ at value judged of_value) =
        in_expr _ _ value judged of_value
    in_stmt inside state stmt left (is.break_of _ _ at) = []
    in_stmt inside state stmt left (is.continue_of _ _ at) = []
    in_stmt inside state stmt left (is.plain _ _ value judged of_value) =
        in_expr _ _ value judged of_value

    pub in_stmts : (inside : Inside) (state : State) (stmts : List Stmt) (left : Left)
        → LeavesAll world inside state stmts left → List ℕ
    in_stmts inside state stmts left (is.no_stmt _ _) = []
    in_stmts inside state stmts left (is.one_stmt _ _ stmt more one last of_stmt of_more) =
        in_stmt inside state stmt one of_stmt ++ in_stmts inside _ more last of_more

    pub in_block : (inside : Inside) (state : State) (block : Block) (left : Left)
        → LeavesBlock world inside state block left → List ℕ
    in_block inside state block left (is.block _ _ stmts _ of_stmts) =
        in_stmts _ state stmts left of_stmts

    pub in_arms : (inside : Inside) (state : State) (arms : List IfArm) (left : Left)
        → LeavesArms world inside state arms left → List ℕ
    in_arms inside state arms left (is.no_arm _ _) = []
    in_arms inside state arms left (is.one_arm _ _ at cond body more judged one last of_cond of_body
        of_more) =
        in_expr _ _ cond judged of_cond
        ++ in_block _ _ body one of_body ++ in_arms _ _ more last of_more

    pub in_otherwise : (ends : Bool) (inside : Inside) (state : State) (otherwise : Option Block)
        (left : Left) → LeavesOtherwise world ends inside state otherwise left → List ℕ
    in_otherwise ends inside state otherwise left (is.absent _ _) = []
    in_otherwise ends inside state otherwise left (is.absent_default _ _) = []
    in_otherwise ends inside state otherwise left (is.present _ _ _ body one of_body) =
        in_block _ _ body one of_body

    pub in_cases : (inside : Inside) (cases : Option (List CaseShape)) (state : State)
        (arms : List CaseArm) (armed : Armed)
        → LeavesCases world inside cases state arms armed → List ℕ
    in_cases inside cases state arms armed (is.no_case _ _ _) = []
    in_cases inside cases state arms armed (is.one_case _ _ _ name patterns body more one rest
        of_body of_more) =
        in_block _ _ body one of_body ++ in_cases _ _ _ more rest of_more

-- Nothing is said of the meaning of these.
abbrev pub AreUnmeant : Answers → List ℕ → Type 0
AreUnmeant answers keys = All (λ at. answers.meaning_at at ≡ None) keys
