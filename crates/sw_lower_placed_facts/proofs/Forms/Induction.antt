-- The code of each well-typed expression and block is placed: the recursion over trees.
use Rattle.std.proofs.Common.{Bool, true, false, List, Option}
use Rattle.sw_tree.specs.declared.expr.Arg.{Arg}
use Rattle.sw_tree.specs.declared.expr.Link.{Link}
use Rattle.sw_tree.specs.declared.stmt.Block.{Block}
use Rattle.sw_tree.specs.declared.stmt.CaseArm.{CaseArm}
use Rattle.sw_tree.specs.declared.stmt.IfArm.{IfArm}
use Rattle.sw_tree.specs.declared.stmt.Stmt.{Stmt}
use Rattle.sw_types.specs.declared.shape.CaseShape.{CaseShape}
use Rattle.sw_typing_rules.specs.Calls.{Slot}
use Rattle.sw_typing_rules.specs.Expressions.{Judged, Passed, infix_judged}
use Rattle.sw_typing_rules.specs.Judges as is
use Rattle.sw_typing_rules.specs.Statements.{Armed, Left, State, arm_left, cases_of, closure_state}
use Rattle.sw_typing_rules.specs.Statements.{in_body, in_loop, in_switch, is_one, in_branch}
use Rattle.sw_typing_rules.specs.Statements.{setting_of, with_only}
use Rattle.sw_typing_rules.specs.Words.{Setting}
use Rattle.sw_typing_rules.specs.declared.scope.Inside.{Inside}
use Rattle.sw_lower_placed_facts.specs.Claims.{BlocksPlaced, ExprsPlaced}
use Rattle.sw_lower_placed_facts.specs.Hosts.{Program}
use Rattle.sw_lower_placed_facts.proofs.Forms.BranchClaims.{block_claim, if_claim, more_arms_claim}
use Rattle.sw_lower_placed_facts.proofs.Forms.BranchClaims.{more_stmts_claim, no_arms_claim}
use Rattle.sw_lower_placed_facts.proofs.Forms.BranchClaims.{no_default_claim, no_else_claim}
use Rattle.sw_lower_placed_facts.proofs.Forms.BranchClaims.{no_stmts_claim, some_block_claim, while_claim}
use Rattle.sw_lower_placed_facts.proofs.Forms.CallClaims.{call_claim, method_claim}
use Rattle.sw_lower_placed_facts.proofs.Forms.Chains.{await_claim, chain_claim, more_args_claim}
use Rattle.sw_lower_placed_facts.proofs.Forms.Chains.{more_links_claim, no_args_claim, no_links_claim}
use Rattle.sw_lower_placed_facts.proofs.Forms.Chains.{prefix_claim}
use Rattle.sw_lower_placed_facts.proofs.Forms.Claims.{ArgsClaim, ArmsClaim, BlockClaim, CasesClaim}
use Rattle.sw_lower_placed_facts.proofs.Forms.Claims.{LinksClaim, OtherwiseClaim, StmtClaim, StmtsClaim}
use Rattle.sw_lower_placed_facts.proofs.Forms.ClosureClaims.{fun_claim, spawn_claim}
use Rattle.sw_lower_placed_facts.proofs.Forms.MemberClaims.{member_claim}
use Rattle.sw_lower_placed_facts.proofs.Forms.StatementClaims.{assign_claim, bind_claim, break_claim}
use Rattle.sw_lower_placed_facts.proofs.Forms.StatementClaims.{continue_claim, discard_claim}
use Rattle.sw_lower_placed_facts.proofs.Forms.StatementClaims.{plain_claim, return_claim}
use Rattle.sw_lower_placed_facts.proofs.Forms.StatementClaims.{return_nothing_claim}
use Rattle.sw_lower_placed_facts.proofs.Forms.SwitchClaims.{more_cases_claim, no_cases_claim}
use Rattle.sw_lower_placed_facts.proofs.Forms.SwitchClaims.{switch_claim}
use Rattle.sw_lower_placed_facts.proofs.Forms.Typed.{Sound}
use Rattle.sw_lower_placed_facts.proofs.Forms.Words.{bool_claim, int_claim, me_claim, word_claim}
use Rattle.sw_lower_placed_facts.proofs.Forms.Words.{yield_claim}

module _ (program : Program) (sound : Sound program) where
  mutual
    -- expressions
    expr_placed : ExprsPlaced program
    expr_placed setting expected expr judged (is.int _ _ at value) =
        int_claim program setting expected at value
    expr_placed setting expected expr judged (is.bool _ _ at value) =
        bool_claim program setting expected at value
    expr_placed setting expected expr judged (is.word _ _ name) =
        word_claim program sound.settled sound.known setting expected name
    expr_placed setting expected expr judged (is.me _ _ at) =
        me_claim program sound.settled setting expected at
    expr_placed setting expected expr judged (is.member _ _ base name one of_base) =
        member_claim program sound setting expected base name one of_base
        (expr_placed setting false base one of_base)
    expr_placed setting expected expr judged (is.call _ _ name args passed of_args) =
        call_claim program sound setting expected name args passed of_args
        (args_placed setting _ args passed of_args)
    expr_placed setting expected expr judged
        (is.method _ _ base name args one passed of_base of_args) =
        method_claim program sound setting expected base name args one passed of_base of_args
        (expr_placed setting false base one of_base)
        (args_placed setting _ args passed of_args)
    expr_placed setting expected expr judged (is.chain _ _ first rest left _ of_first of_rest) =
        chain_claim program setting expected first rest left judged of_first of_rest
        (expr_placed setting false first left of_first)
        (links_placed setting left judged rest of_rest)
    expr_placed setting expected expr judged (is.prefix _ _ op at inner one of_inner) =
        prefix_claim program setting expected op at inner one of_inner
        (expr_placed setting false inner one of_inner)
    expr_placed setting expected expr judged (is.await _ _ at inner one of_inner) =
        await_claim program setting expected at inner one of_inner
        (expr_placed setting false inner one of_inner)
    expr_placed setting expected expr judged (is.fun _ _ closure closed
        (is.closes _ at mark captures params result body left of_body)) =
        fun_claim program sound setting at mark captures params result body left of_body expected
        (block_placed (in_body setting.owner false)
        (closure_state program.tables.world setting captures params result) body left of_body)
    expr_placed setting expected expr judged (is.spawn _ _ at detached task closed
        (is.closes _ key mark captures params result body left of_body)) =
        spawn_claim program sound setting key mark captures params result body left of_body
        expected at detached
        (block_placed (in_body setting.owner false)
        (closure_state program.tables.world setting captures params result) body left of_body)
    expr_placed setting expected expr judged (is.yield _ _ at) =
        yield_claim program setting expected at

    -- arguments
    args_placed : (setting : Setting) (slots : List Slot) (args : List Arg) (passed : Passed)
        (passes : is.Passes program.tables.world setting slots args passed)
        → ArgsClaim program passes
    args_placed setting slots args passed (is.passes_none _ _) =
        no_args_claim program setting slots
    args_placed setting slots args passed
        (is.passes_one _ _ label value more one rest of_value of_rest) =
        more_args_claim program setting slots label value more one rest of_value of_rest
        (expr_placed setting _ value one of_value) (args_placed setting _ more rest of_rest)

    -- the operators of a chain
    links_placed : (setting : Setting) (left judged : Judged) (links : List Link)
        (of_links : is.Links program.tables.world setting left links judged)
        → LinksClaim program of_links
    links_placed setting left judged links (is.no_link _ _) = no_links_claim program setting left
    links_placed setting left judged links
        (is.one_link _ _ op at operand more right _ of_right rest) =
        more_links_claim program setting left op at operand more right judged of_right rest
        (expr_placed setting false operand right of_right)
        (links_placed setting (infix_judged op at left right) judged more rest)

    -- blocks, and their statements
    block_placed : (inside : Inside) (state : State) (block : Block) (left : Left)
        (leaves : is.LeavesBlock program.tables.world inside state block left)
        → BlockClaim program leaves
    block_placed inside state block left (is.block _ _ list _ of_stmts) =
        block_claim program sound inside state list left of_stmts
        (stmts_placed (with_only inside (is_one list)) state list left of_stmts)

    stmts_placed : (inside : Inside) (state : State) (list : List Stmt) (left : Left)
        (leaves : is.LeavesAll program.tables.world inside state list left)
        → StmtsClaim program leaves
    stmts_placed inside state list left (is.no_stmt _ _) =
        no_stmts_claim program sound inside state
    stmts_placed inside state list left (is.one_stmt _ _ stmt more one last of_stmt of_more) =
        more_stmts_claim program sound inside state stmt more one last of_stmt of_more
        (stmt_placed inside state stmt one of_stmt)
        (stmts_placed inside one.state more last of_more)

    stmt_placed : (inside : Inside) (state : State) (stmt : Stmt) (left : Left)
        (leaves : is.Leaves program.tables.world inside state stmt left)
        → StmtClaim program leaves
    stmt_placed inside state stmt left (is.bind _ _ mutable name ty value judged of_value) =
        bind_claim program sound inside state mutable name ty value judged of_value
        (expr_placed (setting_of inside state) _ value judged of_value)
    stmt_placed inside state stmt left
        (is.assign _ _ at op place value placed judged of_place of_value) =
        assign_claim program sound inside state at op place value placed judged of_place of_value
        (expr_placed (setting_of inside state) false place placed of_place)
        (expr_placed (setting_of inside state) _ value judged of_value)
    stmt_placed inside state stmt left (is.discard _ _ at value judged of_value) =
        discard_claim program sound inside state at value judged of_value
        (expr_placed (setting_of inside state) false value judged of_value)
    stmt_placed inside state stmt left (is.if_of _ _ arms other one last of_arms of_other) =
        if_claim program sound inside state arms other one last of_arms of_other
        (arms_placed inside state arms one of_arms)
        (other_placed false inside one.state other last of_other)
    stmt_placed inside state stmt left
        (is.while_of _ _ at cond body judged one of_cond of_body) =
        while_claim program sound inside state at cond body judged one of_cond of_body
        (expr_placed (setting_of inside state) false cond judged of_cond)
        (block_placed (in_loop inside) state body one of_body)
    stmt_placed inside state stmt left
        (is.switch _ _ at subject arms other judged armed last of_subject of_cases of_other) =
        switch_claim program sound inside state at subject arms other judged armed last of_subject
        of_cases of_other
        (expr_placed (setting_of inside state) false subject judged of_subject)
        (cases_placed (in_switch inside) (cases_of program.tables.world judged.ty) state arms armed
        of_cases)
        (other_placed true (in_switch inside) armed.left.state other last of_other)
    stmt_placed inside state stmt left (is.return_nothing _ _ at) =
        return_nothing_claim program sound inside state at
    stmt_placed inside state stmt left (is.return_of _ _ at value judged of_value) =
        return_claim program sound inside state at value judged of_value
        (expr_placed (setting_of inside state) _ value judged of_value)
    stmt_placed inside state stmt left (is.break_of _ _ at) =
        break_claim program sound inside state at
    stmt_placed inside state stmt left (is.continue_of _ _ at) =
        continue_claim program sound inside state at
    stmt_placed inside state stmt left (is.plain _ _ value judged of_value) =
        plain_claim program sound inside state value judged of_value
        (expr_placed (setting_of inside state) _ value judged of_value)

    -- the arms of an `if`
    arms_placed : (inside : Inside) (state : State) (arms : List IfArm) (left : Left)
        (leaves : is.LeavesArms program.tables.world inside state arms left)
        → ArmsClaim program leaves
    arms_placed inside state arms left (is.no_arm _ _) = no_arms_claim program sound inside state
    arms_placed inside state arms left
        (is.one_arm _ _ at cond body more judged one last of_cond of_body rest) =
        more_arms_claim program sound inside state at cond body more judged one last of_cond of_body
        rest (expr_placed (setting_of inside state) false cond judged of_cond)
        (block_placed (in_branch inside) state body one of_body)
        (arms_placed inside (arm_left state judged one).state more last rest)

    -- an `else` or a `default`
    other_placed : (ends : Bool) (inside : Inside) (state : State) (other : Option Block)
        (left : Left) (leaves : is.LeavesOtherwise program.tables.world ends inside state other
        left)
        → OtherwiseClaim program leaves
    other_placed ends inside state other left (is.absent _ _) =
        no_else_claim program sound inside state
    other_placed ends inside state other left (is.absent_default _ _) =
        no_default_claim program sound inside state
    other_placed ends inside state other left (is.present _ _ _ body one of_body) =
        some_block_claim program sound inside state ends body one of_body
        (block_placed (in_branch inside) state body one of_body)

    -- the arms of a `switch`
    cases_placed : (inside : Inside) (cases : Option (List CaseShape)) (state : State)
        (arms : List CaseArm) (armed : Armed)
        (leaves : is.LeavesCases program.tables.world inside cases state arms armed)
        → CasesClaim program leaves
    cases_placed inside cases state arms armed (is.no_case _ _ _) =
        no_cases_claim program sound inside cases state
    cases_placed inside cases state arms armed
        (is.one_case _ _ _ name patterns body more one rest of_body of_more) =
        more_cases_claim program sound inside cases state name patterns body more one rest of_body
        of_more
        (block_placed (in_branch inside) (is.arm_state cases state (is.head_of name patterns)) body
        one of_body)
        (cases_placed inside cases
        (is.case_of cases state (is.head_of name patterns) one).state more rest of_more)

-- the code of each well-typed expression
pub exprs_placed : (program : Program) → Sound program → ExprsPlaced program
exprs_placed program sound = expr_placed program sound

-- and of each block outside of initialisers
pub blocks_placed : (program : Program) → Sound program → BlocksPlaced program
blocks_placed program sound inside state block left leaves host is_host same init =
    block_placed program sound inside state block left leaves init host is_host same
