-- The code of each well-typed expression and block asks for nothing that isn't known: the recursion
-- over trees, with what is shown of each form in a file of its own.
pub mod Assigning
pub mod Bases
pub mod Blocks
pub mod Branches
pub mod Calls
pub mod Claims
pub mod Closures
pub mod Declaring
pub mod Forms
pub mod Ignoring
pub mod Leaving
pub mod Loops
pub mod Members
pub mod Operators
pub mod Places
pub mod Switches
pub mod Words
use Rattle.std.proofs.Common.{Bool, true, false, List, Option, refl}
use Rattle.sw_tree.specs.declared.expr.Arg.{Arg}
use Rattle.sw_tree.specs.declared.expr.Expr.{Expr}
use Rattle.sw_tree.specs.declared.expr.Link.{Link}
use Rattle.sw_tree.specs.declared.stmt.Block.{Block}
use Rattle.sw_tree.specs.declared.stmt.CaseArm.{CaseArm}
use Rattle.sw_tree.specs.declared.stmt.IfArm.{IfArm}
use Rattle.sw_tree.specs.declared.stmt.Stmt.{Stmt}
use Rattle.sw_types.specs.declared.shape.CaseShape.{CaseShape}
use Rattle.sw_typing_rules.specs.Calls.{Slot}
use Rattle.sw_typing_rules.specs.Expressions.{Judged, Passed, infix_judged}
use Rattle.sw_typing_rules.specs.Judges as is
use Rattle.sw_typing_rules.specs.Statements.{Armed, Left, State, arm_left, cases_of, closure_state}
use Rattle.sw_typing_rules.specs.Statements.{in_body, in_loop, in_switch, is_one, in_branch}
use Rattle.sw_typing_rules.specs.Statements.{setting_of, with_only}
use Rattle.sw_typing_rules.specs.Words.{Setting}
use Rattle.sw_typing_rules.specs.declared.scope.Inside.{Inside}
use Rattle.sw_isolation_rules.specs.declared.note.Note.{Note}
use Rattle.sw_lower_plans.specs.Plan.{Numbers}
use Rattle.sw_lower_rules.specs.Tables.{Tables}
use Rattle.sw_typing_facts.proofs.Programs.WordKinds.{WordKinds}
use Rattle.sw_lower_total_facts.specs.Known.{TablesAgree}
use Rattle.sw_lower_total_facts.specs.Trees.{BlocksProceed, ExprsProceed}
use Rattle.sw_lower_total_facts.proofs.Expressions.Senses.{ShapesStand}
use Rattle.sw_lower_total_facts.proofs.Induction.Assigning.{assign_case}
use Rattle.sw_lower_total_facts.proofs.Induction.Blocks.{block_case, more_stmts_case, no_stmts_case}
use Rattle.sw_lower_total_facts.proofs.Induction.Branches.{if_case, more_arms_case, no_arms_case}
use Rattle.sw_lower_total_facts.proofs.Induction.Branches.{no_default_case, no_else_case, some_block_case}
use Rattle.sw_lower_total_facts.proofs.Induction.Calls.{call_case, method_case, more_args_case}
use Rattle.sw_lower_total_facts.proofs.Induction.Calls.{no_args_case}
use Rattle.sw_lower_total_facts.proofs.Induction.Claims.{ArgsClaim, ArmsClaim, CasesClaim, LinksClaim}
use Rattle.sw_lower_total_facts.proofs.Induction.Claims.{OtherwiseClaim, PlaceClaim, StmtClaim}
use Rattle.sw_lower_total_facts.proofs.Induction.Claims.{StmtsClaim}
use Rattle.sw_lower_total_facts.proofs.Induction.Closures.{fun_case, spawn_case}
use Rattle.sw_lower_total_facts.proofs.Induction.Declaring.{bind_case}
use Rattle.sw_lower_total_facts.proofs.Induction.Ignoring.{discard_case, plain_case}
use Rattle.sw_lower_total_facts.proofs.Induction.Leaving.{break_case, continue_case, return_case}
use Rattle.sw_lower_total_facts.proofs.Induction.Leaving.{return_nothing_case}
use Rattle.sw_lower_total_facts.proofs.Induction.Loops.{while_case}
use Rattle.sw_lower_total_facts.proofs.Induction.Members.{member_case}
use Rattle.sw_lower_total_facts.proofs.Induction.Operators.{await_case, chain_case, more_links_case}
use Rattle.sw_lower_total_facts.proofs.Induction.Operators.{no_links_case, prefix_case}
use Rattle.sw_lower_total_facts.proofs.Induction.Places.{chain_place, member_is_place, no_place}
use Rattle.sw_lower_total_facts.proofs.Induction.Places.{word_is_place}
use Rattle.sw_lower_total_facts.proofs.Induction.Switches.{more_cases_case, no_cases_case, switch_case}
use Rattle.sw_lower_total_facts.proofs.Induction.Words.{bool_case, int_case, me_case, word_case}
use Rattle.sw_lower_total_facts.proofs.Induction.Words.{yield_case}

module _ (tables : Tables) (number : Numbers) (all : List Note)
    (known : TablesAgree tables number all)
    (stand : ShapesStand tables.world) (kinds : WordKinds tables.world) where
  mutual
    -- expressions
    pub expr_proceeds : ExprsProceed tables number all
    expr_proceeds setting expected expr judged (is.int _ _ at value) =
        int_case tables number all setting expected at value
    expr_proceeds setting expected expr judged (is.bool _ _ at value) =
        bool_case tables number all setting expected at value
    expr_proceeds setting expected expr judged (is.word _ _ name) =
        word_case tables number all known stand setting expected name
    expr_proceeds setting expected expr judged (is.me _ _ at) =
        me_case tables number all known stand setting expected at
    expr_proceeds setting expected expr judged (is.member _ _ base name one of_base) =
        member_case tables number all known stand setting expected base name one of_base
        (expr_proceeds setting false base one of_base)
    expr_proceeds setting expected expr judged (is.call _ _ name args passed of_args) =
        call_case tables number all known stand kinds setting expected name args passed of_args
        (args_proceed setting _ args passed of_args)
    expr_proceeds setting expected expr judged
        (is.method _ _ base name args one passed of_base of_args) =
        method_case tables number all known stand setting expected base name args one passed of_base
        of_args (expr_proceeds setting false base one of_base)
        (args_proceed setting _ args passed of_args)
    expr_proceeds setting expected expr judged
        (is.chain _ _ first rest left _ of_first of_rest) =
        chain_case tables number all setting expected first rest left judged of_first of_rest
        (expr_proceeds setting false first left of_first)
        (links_proceed setting left judged rest of_rest)
    expr_proceeds setting expected expr judged (is.prefix _ _ op at inner one of_inner) =
        prefix_case tables number all setting expected op at inner one of_inner
        (expr_proceeds setting false inner one of_inner)
    expr_proceeds setting expected expr judged (is.await _ _ at inner one of_inner) =
        await_case tables number all setting expected at inner one of_inner
        (expr_proceeds setting false inner one of_inner)
    expr_proceeds setting expected expr judged (is.fun _ _ closure closed
        (is.closes _ at mark captures params result body left of_body)) =
        fun_case tables number all known setting expected at mark captures params result body left
        of_body (block_proceeds_of (in_body setting.owner false)
        (closure_state tables.world setting captures params result) body left of_body)
    expr_proceeds setting expected expr judged (is.spawn _ _ at detached task closed
        (is.closes _ key mark captures params result body left of_body)) =
        spawn_case tables number all known setting expected at detached key mark captures params
        result body left of_body (block_proceeds_of (in_body setting.owner false)
        (closure_state tables.world setting captures params result) body left of_body)
    expr_proceeds setting expected expr judged (is.yield _ _ at) =
        yield_case tables number all setting expected at

    -- arguments
    args_proceed : (setting : Setting) (slots : List Slot) (args : List Arg) (passed : Passed)
        (passes : is.Passes tables.world setting slots args passed)
        → ArgsClaim tables number all passes
    args_proceed setting slots args passed (is.passes_none _ _) =
        no_args_case tables number all setting slots
    args_proceed setting slots args passed
        (is.passes_one _ _ label value more one rest of_value of_rest) =
        more_args_case tables number all setting slots label value more one rest of_value of_rest
        (expr_proceeds setting _ value one of_value) (args_proceed setting _ more rest of_rest)

    -- the operators of a chain
    links_proceed : (setting : Setting) (left judged : Judged) (links : List Link)
        (of_links : is.Links tables.world setting left links judged)
        → LinksClaim tables number all of_links
    links_proceed setting left judged links (is.no_link _ _) =
        no_links_case tables number all setting left
    links_proceed setting left judged links
        (is.one_link _ _ op at operand more right _ of_right rest) =
        more_links_case tables number all setting left op at operand more right judged of_right rest
        (expr_proceeds setting false operand right of_right)
        (links_proceed setting (infix_judged op at left right) judged more rest)

    -- a place that is assigned
    place_proceeds_of : (setting : Setting) (expected : Bool) (expr : Expr) (judged : Judged)
        (judges : is.Judges tables.world setting expected expr judged)
        → PlaceClaim tables number all judges
    place_proceeds_of setting expected expr judged (is.int _ _ at value) =
        no_place tables number all _ _ _ _ (is.int setting expected at value) refl
    place_proceeds_of setting expected expr judged (is.bool _ _ at value) =
        no_place tables number all _ _ _ _ (is.bool setting expected at value) refl
    place_proceeds_of setting expected expr judged (is.word _ _ name) =
        word_is_place tables number all known stand setting expected name
    place_proceeds_of setting expected expr judged (is.me _ _ at) =
        no_place tables number all _ _ _ _ (is.me setting expected at) refl
    place_proceeds_of setting expected expr judged (is.member _ _ base name one of_base) =
        member_is_place tables number all known stand setting expected base name one of_base
        (expr_proceeds setting false base one of_base)
        (place_proceeds_of setting false base one of_base)
    place_proceeds_of setting expected expr judged (is.call _ _ name args passed of_args) =
        no_place tables number all _ _ _ _ (is.call setting expected name args passed of_args) refl
    place_proceeds_of setting expected expr judged
        (is.method _ _ base name args one passed of_base of_args) =
        no_place tables number all _ _ _ _
        (is.method setting expected base name args one passed of_base of_args) refl
    place_proceeds_of setting expected expr judged
        (is.chain _ _ first rest left _ of_first of_rest) =
        chain_place tables number all setting expected first rest left judged of_first of_rest
    place_proceeds_of setting expected expr judged (is.prefix _ _ op at inner one of_inner) =
        no_place tables number all _ _ _ _ (is.prefix setting expected op at inner one of_inner)
        refl
    place_proceeds_of setting expected expr judged (is.await _ _ at inner one of_inner) =
        no_place tables number all _ _ _ _ (is.await setting expected at inner one of_inner) refl
    place_proceeds_of setting expected expr judged (is.fun _ _ closure closed of_closure) =
        no_place tables number all _ _ _ _ (is.fun setting expected closure closed of_closure) refl
    place_proceeds_of setting expected expr judged
        (is.spawn _ _ at detached task closed of_closure) =
        no_place tables number all _ _ _ _
        (is.spawn setting expected at detached task closed of_closure) refl
    place_proceeds_of setting expected expr judged (is.yield _ _ at) =
        no_place tables number all _ _ _ _ (is.yield setting expected at) refl

    -- blocks, and their statements
    pub block_proceeds_of : BlocksProceed tables number all
    block_proceeds_of inside state block left (is.block _ _ list _ of_stmts) =
        block_case tables number all inside state list left of_stmts
        (stmts_proceed (with_only inside (is_one list)) state list left of_stmts)

    stmts_proceed : (inside : Inside) (state : State) (list : List Stmt) (left : Left)
        (leaves : is.LeavesAll tables.world inside state list left)
        → StmtsClaim tables number all leaves
    stmts_proceed inside state list left (is.no_stmt _ _) =
        no_stmts_case tables number all inside state
    stmts_proceed inside state list left (is.one_stmt _ _ stmt more one last of_stmt of_more) =
        more_stmts_case tables number all inside state stmt more one last of_stmt of_more
        (stmt_proceeds inside state stmt one of_stmt)
        (stmts_proceed inside one.state more last of_more)

    stmt_proceeds : (inside : Inside) (state : State) (stmt : Stmt) (left : Left)
        (leaves : is.Leaves tables.world inside state stmt left)
        → StmtClaim tables number all leaves
    stmt_proceeds inside state stmt left (is.bind _ _ mutable name ty value judged of_value) =
        bind_case tables number all inside state mutable name ty value judged of_value
        (expr_proceeds (setting_of inside state) _ value judged of_value)
    stmt_proceeds inside state stmt left
        (is.assign _ _ at op place value placed judged of_place of_value) =
        assign_case tables number all inside state at op place value placed judged of_place of_value
        (expr_proceeds (setting_of inside state) false place placed of_place)
        (place_proceeds_of (setting_of inside state) false place placed of_place)
        (expr_proceeds (setting_of inside state) _ value judged of_value)
    stmt_proceeds inside state stmt left (is.discard _ _ at value judged of_value) =
        discard_case tables number all inside state at value judged of_value
        (expr_proceeds (setting_of inside state) false value judged of_value)
    stmt_proceeds inside state stmt left (is.if_of _ _ arms other one last of_arms of_other) =
        if_case tables number all inside state arms other one last of_arms of_other
        (arms_proceed inside state arms one of_arms)
        (other_proceeds false inside one.state other last of_other)
    stmt_proceeds inside state stmt left
        (is.while_of _ _ at cond body judged one of_cond of_body) =
        while_case tables number all inside state at cond body judged one of_cond of_body
        (expr_proceeds (setting_of inside state) false cond judged of_cond)
        (block_proceeds_of (in_loop inside) state body one of_body)
    stmt_proceeds inside state stmt left
        (is.switch _ _ at subject arms other judged armed last of_subject of_cases of_other) =
        switch_case tables number all inside state at subject arms other judged armed last
        of_subject of_cases of_other
        (expr_proceeds (setting_of inside state) false subject judged of_subject)
        (cases_proceed (in_switch inside) (cases_of tables.world judged.ty) state arms armed
        of_cases)
        (other_proceeds true (in_switch inside) armed.left.state other last of_other)
    stmt_proceeds inside state stmt left (is.return_nothing _ _ at) =
        return_nothing_case tables number all inside state at
    stmt_proceeds inside state stmt left (is.return_of _ _ at value judged of_value) =
        return_case tables number all inside state at value judged of_value
        (expr_proceeds (setting_of inside state) _ value judged of_value)
    stmt_proceeds inside state stmt left (is.break_of _ _ at) =
        break_case tables number all inside state at
    stmt_proceeds inside state stmt left (is.continue_of _ _ at) =
        continue_case tables number all inside state at
    stmt_proceeds inside state stmt left (is.plain _ _ value judged of_value) =
        plain_case tables number all inside state value judged of_value
        (expr_proceeds (setting_of inside state) _ value judged of_value)

    -- the arms of an `if`
    arms_proceed : (inside : Inside) (state : State) (arms : List IfArm) (left : Left)
        (leaves : is.LeavesArms tables.world inside state arms left)
        → ArmsClaim tables number all leaves
    arms_proceed inside state arms left (is.no_arm _ _) =
        no_arms_case tables number all inside state
    arms_proceed inside state arms left
        (is.one_arm _ _ at cond body more judged one last of_cond of_body rest) =
        more_arms_case tables number all inside state at cond body more judged one last of_cond
        of_body rest (expr_proceeds (setting_of inside state) false cond judged of_cond)
        (block_proceeds_of (in_branch inside) state body one of_body)
        (arms_proceed inside (arm_left state judged one).state more last rest)

    -- an `else` or a `default`
    other_proceeds : (ends : Bool) (inside : Inside) (state : State) (other : Option Block)
        (left : Left) (leaves : is.LeavesOtherwise tables.world ends inside state other left)
        → OtherwiseClaim tables number all leaves
    other_proceeds ends inside state other left (is.absent _ _) =
        no_else_case tables number all inside state
    other_proceeds ends inside state other left (is.absent_default _ _) =
        no_default_case tables number all inside state
    other_proceeds ends inside state other left (is.present _ _ _ body one of_body) =
        some_block_case tables number all ends inside state body one of_body
        (block_proceeds_of (in_branch inside) state body one of_body)

    -- the arms of a `switch`
    cases_proceed : (inside : Inside) (cases : Option (List CaseShape)) (state : State)
        (arms : List CaseArm) (armed : Armed)
        (leaves : is.LeavesCases tables.world inside cases state arms armed)
        → CasesClaim tables number all leaves
    cases_proceed inside cases state arms armed (is.no_case _ _ _) =
        no_cases_case tables number all inside cases state
    cases_proceed inside cases state arms armed
        (is.one_case _ _ _ name patterns body more one rest of_body of_more) =
        more_cases_case tables number all known inside cases state name patterns body more one rest
        of_body of_more
        (block_proceeds_of (in_branch inside) (is.arm_state cases state (is.head_of name patterns))
        body one of_body)
        (cases_proceed inside cases
        (is.case_of cases state (is.head_of name patterns) one).state more rest of_more)
