-- The code of each well-typed block goes on as the rules on types say, and the functions of the
-- bodies in it return their results.
use Rattle.std.proofs.Common.{◌≡◌, ℕ, Bool, true, false, List, [], ◌∷◌, ◌++◌, Option, Some, None}
use Rattle.std.proofs.Common.{refl, sym, ap, ◌∙◌, subst}
use Rattle.std.proofs.lemmas.Bool.{false≢true}
use Rattle.std.proofs.lemmas.Option.{same_Some}
use Rattle.std.proofs.lemmas.List.Elements.{All-append, All-head, All-nil, All-tail}
use Rattle.std.specs.Prelude.{All, ◌&&◌, ◌||◌, flat_map, is_some, map, option_map}
use Rattle.sw_tree.proofs.FoldEquations as eq
use Rattle.sw_tree.specs.Folds.{Steps, fold_arg, fold_block, fold_case_arm, fold_if_arm, fold_link}
use Rattle.sw_tree.specs.Folds.{fold_stmt}
use Rattle.sw_tree.specs.declared.expr.Arg.{Arg}
use Rattle.sw_tree.specs.declared.expr.Expr.{Expr}
use Rattle.sw_tree.specs.declared.expr.Link.{Link}
use Rattle.sw_tree.specs.declared.stmt.Block.{Block}
use Rattle.sw_tree.specs.declared.stmt.CaseArm.{CaseArm}
use Rattle.sw_tree.specs.declared.stmt.IfArm.{IfArm}
use Rattle.sw_tree.specs.declared.stmt.Stmt.{Stmt}
use Rattle.sw_types.specs.declared.shape.CaseShape.{CaseShape}
use Rattle.sw_graph.specs.declared.function.Function.{Function}
use Rattle.sw_typing_rules.specs.Calls.{Slot}
use Rattle.sw_typing_rules.specs.Expressions.{Judged, Passed, base_rows, infix_judged, rows_by}
use Rattle.sw_typing_rules.specs.Judges as is
use Rattle.sw_typing_rules.specs.Statements.{Armed, Head, Left, State, arm_left, arm_payload}
use Rattle.sw_typing_rules.specs.Statements.{arm_vars, beside, cases_of, closure_state}
use Rattle.sw_typing_rules.specs.Statements.{condition_rows, in_body, in_loop, in_switch}
use Rattle.sw_typing_rules.specs.Statements.{is_one, in_branch, patterns_fit, setting_of}
use Rattle.sw_typing_rules.specs.Statements.{vars_rows, with_only, written}
use Rattle.sw_typing_rules.specs.Words.{Setting}
use Rattle.sw_typing_rules.specs.declared.scope.Inside.{Inside}
use Rattle.sw_lower_plans.specs.Plan.{Numbers}
use Rattle.sw_lower_code.specs.Whole.{Body}
use Rattle.sw_lower_rules.specs.Carriers.{ArgCode, BlockCode, CaseCode, ExprCode, IfCode, LinkCode}
use Rattle.sw_lower_rules.specs.Carriers.{StmtCode}
use Rattle.sw_lower_rules.specs.Expressions.{args_inside, closure_body, fun_code, spawn_code}
use Rattle.sw_lower_rules.specs.Statements.{assign, block_code, code_steps, declare_var, expr_code}
use Rattle.sw_lower_rules.specs.Statements.{ignored, inside_of, return_code, stmt_code}
use Rattle.sw_lower_rules.specs.declared.targets.Targets.{Targets}
use Rattle.sw_lower_code.specs.Code.{Code, andthen}
use Rattle.sw_lower_rules.specs.Tables.{Tables}
use Rattle.sw_lower_formed_facts.specs.Forms.{VarHolds, VarsHold}
use Rattle.sw_typing_facts.specs.Rows.{RowsHold}
use Rattle.sw_lower_formed_facts.specs.Trees.{ExprsHold, IsHere}
use Rattle.sw_lower_formed_facts.proofs.Bodies.ClosureRows.{inner_rows, inner_vars}
use Rattle.sw_typing_facts.proofs.Lists.Joined.{all_left, all_right}
use Rattle.sw_typing_facts.proofs.Said.Rows.{rows_left, rows_right}
use Rattle.sw_lower_formed_facts.proofs.Statements.Cases.{switch_fit as fitting}
use Rattle.sw_lower_formed_facts.proofs.Statements.Sequences.{arm_vars_hold, arms_vars, bind_rows}
use Rattle.sw_lower_formed_facts.proofs.Statements.Sequences.{cases_vars, one_still, plain_rows}
use Rattle.sw_lower_formed_facts.proofs.Statements.Sequences.{return_rows, some_still, vars_after}
use Rattle.sw_lower_formed_facts.proofs.Expressions.Typed.{member_rows}
use Rattle.sw_lower_total_facts.proofs.Trees.Enums.{enum_alone}
use Rattle.sw_lower_formed_facts.proofs.Expressions.Typed.{has_type, rows_before, type_of_expr}
use Rattle.sw_lower_code_facts.proofs.Declaring.{has_assign, has_declare}
use Rattle.sw_lower_return_facts.specs.Flows.{CodeFlows}
use Rattle.sw_lower_return_facts.specs.Forms.{BlockReturns, BodyReturns, StmtReturns}
use Rattle.sw_lower_return_facts.specs.Forms.{StmtsReturn}
use Rattle.sw_lower_return_facts.proofs.Bodies.Closures.{fun_returns, spawn_returns}
use Rattle.sw_lower_return_facts.proofs.Expressions.Induction.{expr_flows, flowing, variables_flow}
use Rattle.sw_lower_return_facts.proofs.Flow.Then.{flows_then}
use Rattle.sw_lower_return_facts.proofs.Forms.Parts.{ArmsReturn, CasesReturn, DefaultReturns}
use Rattle.sw_lower_return_facts.proofs.Forms.Parts.{ElseReturns, block_returns, more_stmts_return}
use Rattle.sw_lower_return_facts.proofs.Forms.Parts.{no_stmts_return}
use Rattle.sw_lower_return_facts.proofs.Forms.Stating.{bind_ways, plain_left_ways, value_ways}
use Rattle.sw_lower_return_facts.proofs.Statements.Branches.{else_ways, more_arms_flow, no_arms_flow}
use Rattle.sw_lower_return_facts.proofs.Statements.Leaving.{break_ways, continue_ways, return_ways}
use Rattle.sw_lower_return_facts.proofs.Statements.Loops.{while_ways}
use Rattle.sw_typing_rules.proofs.Steps.{and_left, and_right}
use Rattle.sw_lower_return_facts.proofs.Statements.Passing.{or_left, or_right}
use Rattle.sw_lower_return_facts.proofs.Statements.Sequences.{ignored_ways, plain_ways}
use Rattle.sw_lower_return_facts.proofs.Statements.Switches.{switch_ways}
use Rattle.sw_lower_return_facts.proofs.Typing.Covering.{covered_by, switch_fit}
use Rattle.sw_lower_return_facts.proofs.Typing.Giving.{bind_back, plain_back, value_back, void_never}
use Rattle.sw_lower_return_facts.proofs.Typing.Truth.{makes_true}

module _ (tables : Tables) (number : Numbers) (functions : List Function)
    (exprs : ExprsHold tables number functions) where
  abbrev Here : List Body → Type 0
  Here bodies = All (IsHere tables number functions) bodies

  abbrev Return : List Body → Type 0
  Return bodies = All (BodyReturns number) bodies

  abbrev steps : Option ℕ → Steps
  steps owner = code_steps tables owner

  here_left : (xs ys : List Body) → Here (xs ++ ys) → Here xs
  here_left xs ys here = all_left (IsHere tables number functions) xs ys here

  here_right : (xs ys : List Body) → Here (xs ++ ys) → Here ys
  here_right xs ys here = all_right (IsHere tables number functions) xs ys here

  both : (xs ys : List Body) → Return xs → Return ys → Return (xs ++ ys)
  both xs ys one other = All-append (BodyReturns number) xs ys one other

  none : Return []
  none = All-nil (BodyReturns number)

  -- by the code that a form gives
  expr_by : (code form : ExprCode) → code ≡ form → Here code.inside
      → (Here form.inside → Return form.inside) → Return code.inside
  expr_by code form is here ok =
      subst (λ (one : ExprCode). Return one.inside) (sym is)
      (ok (subst (λ (one : ExprCode). Here one.inside) is here))

  stmt_by : (only : Bool) (state : State) (left : Left) (code form : StmtCode)
      → code ≡ form → Here code.inside
      → (Here form.inside → StmtReturns number only state form left)
      → StmtReturns number only state code left
  stmt_by only state left code form is here ok =
      subst (λ one. StmtReturns number only state one left) (sym is)
      (ok (subst (λ (one : StmtCode). Here one.inside) is here))

  -- the base of a member, which may be the word of an enum
  base_returns : (setting : Setting) (base : Expr) (judged : Judged)
      → is.Judges tables.world setting false base judged
      → RowsHold tables.answers (rows_by judged.enum judged.rows)
      → (RowsHold tables.answers judged.rows → Return (expr_code tables setting.owner base).inside)
      → (named : Option ℕ) → judged.enum ≡ named
      → Return (expr_code tables setting.owner base).inside
  base_returns setting base judged judges rows returns None is_none =
      returns (subst (λ named. RowsHold tables.answers (rows_by named judged.rows)) is_none rows)
  base_returns setting base judged judges rows returns (Some k) is_enum =
      subst Return (sym (enum_alone tables setting false base judged judges k is_enum)) none

  -- the patterns of an arm fit
  abbrev IsFit : Option (List CaseShape) → Head → Type 0
  IsFit cases head = patterns_fit head.patterns (arm_payload cases head.name) ≡ true

  mutual
    unfolding expr_code stmt_code block_code closure_body

    -- the bodies in an expression
    pub expr_returns : (setting : Setting) (expected : Bool) (expr : Expr) (judged : Judged)
        → is.Judges tables.world setting expected expr judged → VarsHold tables.answers setting.vars
        → RowsHold tables.answers judged.rows → Here (expr_code tables setting.owner expr).inside
        → Return (expr_code tables setting.owner expr).inside
    expr_returns setting expected expr judged (is.int _ _ at value) vars rows here =
        expr_by _ _ (eq.fold_expr-Int (steps setting.owner) at value) here (λ form. none)
    expr_returns setting expected expr judged (is.bool _ _ at value) vars rows here =
        expr_by _ _ (eq.fold_expr-Bool (steps setting.owner) at value) here (λ form. none)
    expr_returns setting expected expr judged (is.word _ _ name) vars rows here =
        expr_by _ _ (eq.fold_expr-Use (steps setting.owner) name) here (λ form. none)
    expr_returns setting expected expr judged (is.me _ _ at) vars rows here =
        expr_by _ _ (eq.fold_expr-Me (steps setting.owner) at) here (λ form. none)
    expr_returns setting expected expr judged (is.member _ _ base name one of_base) vars rows here =
        expr_by _ _ (eq.fold_expr-Member (steps setting.owner) base name) here
        (λ form. base_returns setting base one of_base
        (member_rows tables.world tables.answers one name rows)
        (λ noted. expr_returns setting false base one of_base vars noted form) one.enum refl)
    expr_returns setting expected expr judged (is.call _ _ name args passed of_args) vars rows
        here =
        expr_by _ _ (eq.fold_expr-Call (steps setting.owner) name args) here
        (λ form. args_return setting _ args passed of_args vars
        (rows_left tables.answers passed.rows _ (rows_left tables.answers _ _ rows)) form)
    expr_returns setting expected expr judged
        (is.method _ _ base name args one passed of_base of_args) vars rows here =
        expr_by _ _ (eq.fold_expr-Method (steps setting.owner) base name args) here
        (λ form. let noted = rows_left tables.answers _ _ rows in
        both (expr_code tables setting.owner base).inside _
        (base_returns setting base one of_base (rows_left tables.answers (base_rows one) _ noted)
        (λ own. expr_returns setting false base one of_base vars own
        (here_left (expr_code tables setting.owner base).inside _ form)) one.enum refl)
        (args_return setting _ args passed of_args vars
        (rows_left tables.answers passed.rows _ (rows_right tables.answers (base_rows one) _ noted))
        (here_right (expr_code tables setting.owner base).inside _ form)))
    expr_returns setting expected expr judged (is.chain _ _ first rest left _ of_first of_rest) vars
        rows here =
        expr_by _ _ (eq.fold_expr-Chain (steps setting.owner) first rest) here
        (λ form. both (expr_code tables setting.owner first).inside _
        (expr_returns setting false first left of_first vars
        (rows_before tables setting left judged rest of_rest rows)
        (here_left (expr_code tables setting.owner first).inside _ form))
        (links_return setting left judged rest of_rest vars rows
        (here_right (expr_code tables setting.owner first).inside _ form)))
    expr_returns setting expected expr judged (is.prefix _ _ op at inner one of_inner) vars rows
        here =
        expr_by _ _ (eq.fold_expr-Prefix (steps setting.owner) op at inner) here
        (λ form. expr_returns setting false inner one of_inner vars
        (rows_left tables.answers one.rows _ rows) form)
    expr_returns setting expected expr judged (is.await _ _ at inner one of_inner) vars rows here =
        expr_by _ _ (eq.fold_expr-Await (steps setting.owner) at inner) here
        (λ form. expr_returns setting false inner one of_inner vars
        (rows_left tables.answers one.rows _ rows) form)
    expr_returns setting expected expr judged
        (is.fun _ _ closure closed (is.closes _ at mark captures
        params result body left of_body)) vars rows here =
        expr_by _ _
        (eq.fold_expr-Fun (steps setting.owner) closure
        ∙ ap (fun_code tables setting.owner)
        (eq.fold_closure-roll (steps setting.owner) at mark captures params result body)) here
        (λ form. fun_returns tables number setting.owner
        (record { at = at; params = params; body = block_code tables setting.owner body }) setting
        mark captures (closure_state tables.world setting captures params result) left
        (block_returns_of (in_body setting.owner false)
        (closure_state tables.world setting captures params result) body left of_body refl
        (inner_vars tables.answers tables.world setting at mark captures params left vars
        (rows_left tables.answers closed.rows _ rows))
        (inner_rows tables.answers tables.world setting at mark captures params left
        (rows_left tables.answers closed.rows _ rows))
        (All-tail (IsHere tables number functions) _ _ form)) expected
        (has_type tables setting expected expr judged (is.fun _ _ closure closed (is.closes _ at
        mark captures params result body left of_body)) vars rows) rows)
    expr_returns setting expected expr judged (is.spawn _ _ at detached task closed (is.closes _ key
        mark captures params result body left of_body)) vars rows here =
        expr_by _ _
        (eq.fold_expr-Spawn (steps setting.owner) at detached task
        ∙ ap (spawn_code tables setting.owner at)
        (eq.fold_closure-roll (steps setting.owner) key mark captures params result body)) here
        (λ form. spawn_returns tables number setting.owner
        (record { at = key; params = params; body = block_code tables setting.owner body }) setting
        mark captures (closure_state tables.world setting captures params result) left
        (block_returns_of (in_body setting.owner false)
        (closure_state tables.world setting captures params result) body left of_body refl
        (inner_vars tables.answers tables.world setting key mark captures params left vars
        (rows_left tables.answers closed.rows _ rows))
        (inner_rows tables.answers tables.world setting key mark captures params left
        (rows_left tables.answers closed.rows _ rows))
        (All-tail (IsHere tables number functions) _ _ form)) at
        (has_type tables setting expected expr judged (is.spawn _ _ at detached task closed
        (is.closes _ key mark captures params result body left of_body)) vars rows) rows)
    expr_returns setting expected expr judged (is.yield _ _ at) vars rows here =
        expr_by _ _ (eq.fold_expr-Yield (steps setting.owner) at) here (λ form. none)

    args_return : (setting : Setting) (slots : List Slot) (args : List Arg) (passed : Passed)
        → is.Passes tables.world setting slots args passed → VarsHold tables.answers setting.vars
        → RowsHold tables.answers passed.rows
        → Here (args_inside (map (fold_arg (steps setting.owner)) args))
        → Return (args_inside (map (fold_arg (steps setting.owner)) args))
    args_return setting slots args passed (is.passes_none _ _) vars rows here = none
    args_return setting slots args passed
        (is.passes_one _ _ label value more one rest of_value of_rest) vars rows here =
        let head_is = eq.fold_arg-roll (steps setting.owner) label value in
        let now = subst (λ (arg : ArgCode). Here (arg.inside
        ++ args_inside (map (fold_arg (steps setting.owner)) more))) head_is here in
        subst (λ (arg : ArgCode). Return (arg.inside
        ++ args_inside (map (fold_arg (steps setting.owner)) more))) (sym head_is)
        (both (expr_code tables setting.owner value).inside _
        (expr_returns setting _ value one of_value vars
        (rows_left tables.answers one.rows rest.rows rows)
        (here_left (expr_code tables setting.owner value).inside _ now))
        (args_return setting _ more rest of_rest vars
        (rows_right tables.answers one.rows rest.rows rows)
        (here_right (expr_code tables setting.owner value).inside _ now)))

    links_return : (setting : Setting) (left judged : Judged) (links : List Link)
        → is.Links tables.world setting left links judged → VarsHold tables.answers setting.vars
        → RowsHold tables.answers judged.rows
        → Here (flat_map (λ (link : LinkCode). link.inside)
        (map (fold_link (steps setting.owner)) links))
        → Return (flat_map (λ (link : LinkCode). link.inside)
        (map (fold_link (steps setting.owner)) links))
    links_return setting left judged links (is.no_link _ _) vars rows here = none
    links_return setting left judged links
        (is.one_link _ _ op at operand more right _ of_right rest) vars rows here =
        let head_is = eq.fold_link-roll (steps setting.owner) op at operand in
        let now = subst (λ (link : LinkCode). Here (link.inside
        ++ flat_map (λ (one : LinkCode). one.inside)
        (map (fold_link (steps setting.owner)) more))) head_is here in
        let noted =
        rows_before tables setting (infix_judged op at left right) judged more rest rows in
        subst (λ (link : LinkCode). Return (link.inside
        ++ flat_map (λ (one : LinkCode). one.inside)
        (map (fold_link (steps setting.owner)) more))) (sym head_is)
        (both (expr_code tables setting.owner operand).inside _
        (expr_returns setting false operand right of_right vars
        (rows_right tables.answers left.rows right.rows
        (rows_left tables.answers (left.rows ++ right.rows) _ noted))
        (here_left (expr_code tables setting.owner operand).inside _ now))
        (links_return setting (infix_judged op at left right) judged more rest vars rows
        (here_right (expr_code tables setting.owner operand).inside _ now)))

    -- a block outside of initialisers
    pub block_returns_of : (inside : Inside) (state : State) (block : Block) (left : Left)
        → is.LeavesBlock tables.world inside state block left → inside.init ≡ false
        → VarsHold tables.answers state.vars → RowsHold tables.answers left.rows
        → Here (block_code tables inside.owner block).inside
        → BlockReturns number inside.only state (block_code tables inside.owner block) left
    block_returns_of inside state block left (is.block _ _ stmts _ of_stmts) init vars rows here =
        let code_is = eq.fold_block-roll (steps inside.owner) stmts in
        subst (λ code. BlockReturns number inside.only state code left) (sym code_is)
        (block_returns number inside.only state (map (fold_stmt (steps inside.owner)) stmts) left
        (subst (λ one. StmtsReturn number (inside.only && one) state
        (map (fold_stmt (steps inside.owner)) stmts) left)
        (sym (one_still (fold_stmt (steps inside.owner)) stmts))
        (stmts_return (with_only inside (is_one stmts)) state stmts left of_stmts init vars rows
        (subst (λ (code : BlockCode). Here code.inside) code_is here))))

    stmts_return : (inside : Inside) (state : State) (trees : List Stmt) (left : Left)
        → is.LeavesAll tables.world inside state trees left → inside.init ≡ false
        → VarsHold tables.answers state.vars → RowsHold tables.answers left.rows
        → Here (flat_map (λ (one : StmtCode). one.inside)
        (map (fold_stmt (steps inside.owner)) trees))
        → StmtsReturn number inside.only state (map (fold_stmt (steps inside.owner)) trees) left
    stmts_return inside state trees left (is.no_stmt _ _) init vars rows here =
        no_stmts_return number inside.only state
    stmts_return inside state trees left (is.one_stmt _ _ stmt more one last of_stmt of_more) init
        vars rows here =
        let first = rows_left tables.answers one.rows last.rows rows in
        more_stmts_return number inside.only state (stmt_code tables inside.owner stmt)
        (map (fold_stmt (steps inside.owner)) more) one last
        (stmt_returns inside state stmt one of_stmt init vars first
        (here_left (stmt_code tables inside.owner stmt).inside _ here))
        (stmts_return inside one.state more last of_more init
        (vars_after tables.world tables.answers inside state stmt one of_stmt
        (λ judged expected value judges value_rows. type_of_expr tables (setting_of inside state)
        expected value judged judges vars value_rows) vars first)
        (rows_right tables.answers one.rows last.rows rows)
        (here_right (stmt_code tables inside.owner stmt).inside _ here))

    stmt_returns : (inside : Inside) (state : State) (stmt : Stmt) (left : Left)
        → is.Leaves tables.world inside state stmt left → inside.init ≡ false
        → VarsHold tables.answers state.vars → RowsHold tables.answers left.rows
        → Here (stmt_code tables inside.owner stmt).inside
        → StmtReturns number inside.only state (stmt_code tables inside.owner stmt) left
    stmt_returns inside state stmt left (is.bind _ _ mutable name ty value judged of_value) init
        vars rows here =
        stmt_by inside.only state _ _ _
        (eq.fold_stmt-Bind (steps inside.owner) mutable name ty value) here
        (λ form. record {
          ways = λ gives none.
              let code : Targets → Code (Unit {0}) = λ targets.
              andthen (expr_code tables inside.owner value).read (declare_var tables name.at) in
              bind_ways state mutable name (written tables.world ty) judged code
              (plain_ways code (λ targets. flows_then (expr_code tables inside.owner value).read
              (declare_var tables name.at) (expr_flows tables inside.owner value).read
              (has_declare flowing variables_flow tables name.at)));
          back = bind_back state mutable name (written tables.world ty) judged;
          only_flows = λ read is. cc;
          inside = expr_returns (setting_of inside state) _ value judged of_value vars
              (bind_rows tables.answers state mutable name (written tables.world ty) judged rows)
              form;
        })
    stmt_returns inside state stmt left
        (is.assign _ _ at op place value placed judged of_place of_value) init vars rows here =
        stmt_by inside.only state _ _ _
        (eq.fold_stmt-Assign (steps inside.owner) at op place value) here
        (λ form. record {
          ways = λ gives none. plain_ways (λ targets. andthen
              (expr_code tables inside.owner value).read
              (assign op at (expr_code tables inside.owner place))) (λ targets.
              flows_then _ _ (expr_flows tables inside.owner value).read (λ given.
              has_assign flowing op at (expr_code tables inside.owner place) given
              (expr_flows tables inside.owner place)));
          back = λ gives. gives;
          only_flows = λ read is. cc;
          inside = both (expr_code tables inside.owner place).inside _
              (expr_returns (setting_of inside state) false place placed of_place vars
              (rows_left tables.answers placed.rows _ rows)
              (here_left (expr_code tables inside.owner place).inside _ form))
              (expr_returns (setting_of inside state) _ value judged of_value vars
              (rows_left tables.answers judged.rows _
              (rows_right tables.answers _ _ (rows_right tables.answers placed.rows _ rows)))
              (here_right (expr_code tables inside.owner place).inside _ form));
        })
    stmt_returns inside state stmt left (is.discard _ _ at value judged of_value) init vars rows
        here =
        stmt_by inside.only state _ _ _ (eq.fold_stmt-Discard (steps inside.owner) at value) here
        (λ form. record {
          ways = λ gives none. ignored_ways tables (expr_code tables inside.owner value).read
              (expr_flows tables inside.owner value).read;
          back = λ gives. gives;
          only_flows = λ read is. cc;
          inside =
              expr_returns (setting_of inside state) false value judged of_value vars rows form;
        })
    stmt_returns inside state stmt left (is.if_of _ _ arms other one last of_arms of_other) init
        vars rows here =
        stmt_by inside.only state _ _ _ (eq.fold_stmt-If (steps inside.owner) arms other) here
        (λ form.
        let of_if = arms_return inside state arms one of_arms init vars
        (rows_left tables.answers one.rows last.rows rows) (here_left _ _ form) in
        let of_else = else_returns inside one.state other last of_other init
        (subst (VarsHold tables.answers)
        (sym (arms_vars tables.world inside state arms one of_arms)) vars)
        (rows_right tables.answers one.rows last.rows rows)
        (here_right (flat_map (λ (arm : IfCode). arm.inside)
        (map (fold_if_arm (steps inside.owner)) arms)) _ form) in
        record {
          ways = λ gives none.
              of_if.ways (of_else.back gives) last.ends last.breaks _ (of_else.ways gives);
          back = λ gives. of_if.back (of_else.back gives);
          only_flows = λ read is. cc;
          inside = both _ _ of_if.inside of_else.inside;
        })
    stmt_returns inside state stmt left
        (is.while_of _ _ at cond body judged one of_cond of_body) init
        vars rows here =
        stmt_by inside.only state _ _ _ (eq.fold_stmt-While (steps inside.owner) at cond body) here
        (λ form.
        let of_loop = block_returns_of (in_loop inside) state body one of_body init vars
        (rows_right tables.answers (condition_rows judged) one.rows rows)
        (here_right (expr_code tables inside.owner cond).inside _ form) in
        record {
          ways = λ gives none.
              while_ways (expr_code tables inside.owner cond).read
              (block_code tables inside.owner body)
              one.ends one.breaks (of_loop.ways gives (λ is. absurd (false≢true is))) judged.is_true
              (expr_flows tables inside.owner cond).read
              (makes_true tables (setting_of inside state) false cond judged of_cond);
          back = of_loop.back;
          only_flows = λ read is. cc;
          inside = both (expr_code tables inside.owner cond).inside _
              (expr_returns (setting_of inside state) false cond judged of_cond vars
              (rows_left tables.answers judged.rows _
              (rows_left tables.answers (condition_rows judged) one.rows rows))
              (here_left (expr_code tables inside.owner cond).inside _ form)) of_loop.inside;
        })
    stmt_returns inside state stmt left (is.switch _ _ at subject arms other judged armed last
        of_subject of_cases of_other) init vars rows here =
        stmt_by inside.only state _ _ _
        (eq.fold_stmt-Switch (steps inside.owner) at subject arms other) here
        (λ form.
        let code = expr_code tables inside.owner subject in
        let codes = map (fold_case_arm (steps inside.owner)) arms in
        let default = option_map (fold_block (steps inside.owner)) other in
        let in_arms = flat_map (λ (arm : CaseCode). arm.body.inside) codes in
        let inner = rows_left tables.answers (armed.left.rows ++ last.rows) _
        (rows_right tables.answers judged.rows _ rows) in
        let subject_rows = rows_left tables.answers judged.rows _ rows in
        let before = here_left (code.inside ++ in_arms) (inside_of default) form in
        let subject_here = here_left code.inside in_arms before in
        let ok = exprs (setting_of inside state) false subject judged of_subject vars subject_rows
        subject_here in
        let fit = switch_fit tables.answers (cases_of tables.world judged.ty) at judged armed.heads
        (is_some other) (beside armed.left last) (ap is_some ok.has) rows in
        let of_all =
        cases_return (in_switch inside) (cases_of tables.world judged.ty) state arms armed
        of_cases init vars (rows_left tables.answers armed.left.rows last.rows inner)
        (here_right code.inside in_arms before)
        (fitting (cases_of tables.world judged.ty) armed.heads (is_some other) fit).each in
        let of_default =
        default_returns (in_switch inside) armed.left.state other last of_other init
        (subst (VarsHold tables.answers)
        (sym (cases_vars tables.world (in_switch inside) (cases_of tables.world judged.ty) state
        arms armed of_cases)) vars)
        (rows_right tables.answers armed.left.rows last.rows inner)
        (here_right (code.inside ++ in_arms) (inside_of default) form) in
        let ends = armed.left.ends && last.ends in
        let breaks = armed.left.breaks || last.breaks in
        record {
          ways = λ gives none.
              let all = of_all.ways (of_default.back gives) ends breaks
              (and_left armed.left.ends last.ends) (or_left armed.left.breaks last.breaks) in
              let part = of_default.ways gives ends breaks
              (and_right armed.left.ends last.ends) (or_right armed.left.breaks last.breaks) in
              switch_ways tables ends breaks code codes default all part
              (expr_flows tables inside.owner subject).read
              (covered_by tables ok.ty judged.ty (tables.answers.type_at code.key) ok.has ok.typed
              other default (some_still (fold_block (steps inside.owner)) other) armed.heads codes
              of_all.names fit ends breaks);
          back = λ gives. of_all.back (of_default.back gives);
          only_flows = λ read is. cc;
          inside = both (code.inside ++ in_arms) (inside_of default)
              (both code.inside in_arms
              (expr_returns (setting_of inside state) false subject judged of_subject vars
              subject_rows subject_here) of_all.inside) of_default.inside;
        })
    stmt_returns inside state stmt left (is.return_nothing _ _ at) init vars rows here =
        stmt_by inside.only state _ _ _ (eq.fold_stmt-Return (steps inside.owner) at None) here
        (λ form. record {
          ways = λ gives none.
              absurd (void_never tables.answers state.returned state at rows refl gives);
          back = λ gives.
              absurd (void_never tables.answers state.returned state at rows refl gives);
          only_flows = λ read is. cc;
          inside = none;
        })
    stmt_returns inside state stmt left (is.return_of _ _ at value judged of_value) init vars rows
        here =
        stmt_by inside.only state _ _ _ (eq.fold_stmt-Return (steps inside.owner) at (Some value))
        here (λ form. record {
          ways = λ gives none. value_ways state.returned state at judged
              (λ targets. return_code tables (Some (expr_code tables inside.owner value).read))
              (return_ways tables (expr_code tables inside.owner value).read
              (expr_flows tables inside.owner value).read);
          back = value_back tables.answers state.returned state at judged rows refl;
          only_flows = λ read is. cc;
          inside = expr_returns (setting_of inside state) _ value judged of_value vars
              (return_rows tables.answers state.returned state at judged rows) form;
        })
    stmt_returns inside state stmt left (is.break_of _ _ at) init vars rows here =
        stmt_by inside.only state _ _ _ (eq.fold_stmt-Break (steps inside.owner) at) here
        (λ form. record {
          ways = λ gives none. break_ways tables;
          back = λ gives. gives;
          only_flows = λ read is. cc;
          inside = none;
        })
    stmt_returns inside state stmt left (is.continue_of _ _ at) init vars rows here =
        stmt_by inside.only state _ _ _ (eq.fold_stmt-Continue (steps inside.owner) at) here
        (λ form. record {
          ways = λ gives none. continue_ways tables;
          back = λ gives. gives;
          only_flows = λ read is. cc;
          inside = none;
        })
    stmt_returns inside state stmt left (is.plain _ _ value judged of_value) init vars rows here =
        stmt_by inside.only state _ _ _ (eq.fold_stmt-Plain (steps inside.owner) value) here
        (λ form. record {
          ways = λ gives none. plain_left_ways inside.only state judged
              (expr_code tables inside.owner value).read
              (λ targets. ignored tables (expr_code tables inside.owner value).read) none
              (ignored_ways tables (expr_code tables inside.owner value).read
              (expr_flows tables inside.owner value).read);
          back = plain_back tables.answers inside.only state judged rows;
          only_flows = λ read is. subst CodeFlows
              (same_Some (expr_code tables inside.owner value).read read is)
              (expr_flows tables inside.owner value).read;
          inside = expr_returns (setting_of inside state) _ value judged of_value vars
              (plain_rows tables.answers inside.only state judged rows) form;
        })

    arms_return : (inside : Inside) (state : State) (arms : List IfArm) (left : Left)
        → is.LeavesArms tables.world inside state arms left → inside.init ≡ false
        → VarsHold tables.answers state.vars → RowsHold tables.answers left.rows
        → Here (flat_map (λ (arm : IfCode). arm.inside)
        (map (fold_if_arm (steps inside.owner)) arms))
        → ArmsReturn number state (map (fold_if_arm (steps inside.owner)) arms) left
    arms_return inside state arms left (is.no_arm _ _) init vars rows here =
        record { ways = λ gives. no_arms_flow; back = λ gives. gives; inside = none }
    arms_return inside state arms left (is.one_arm _ _ at cond body more judged one last of_cond
        of_body rest) init vars rows here =
        let head_is = eq.fold_if_arm-roll (steps inside.owner) at cond body in
        let now = subst (λ (arm : IfCode). Here (arm.inside
        ++ flat_map (λ (other : IfCode). other.inside)
        (map (fold_if_arm (steps inside.owner)) more))) head_is here in
        let both_inside = (expr_code tables inside.owner cond).inside
        ++ (block_code tables inside.owner body).inside in
        let own = here_left both_inside _ now in
        let noted = rows_left tables.answers (arm_left state judged one).rows last.rows rows in
        let of_block = block_returns_of (in_branch inside) state body one of_body init vars
        (rows_right tables.answers (condition_rows judged) one.rows noted)
        (here_right (expr_code tables inside.owner cond).inside _ own) in
        let others = arms_return inside (arm_left state judged one).state more last rest init vars
        (rows_right tables.answers (arm_left state judged one).rows last.rows rows)
        (here_right both_inside _ now) in
        subst (λ arm. ArmsReturn number state
        (arm ∷ map (fold_if_arm (steps inside.owner)) more) left) (sym head_is)
        (record {
          ways = λ gives. more_arms_flow _ (map (fold_if_arm (steps inside.owner)) more) one.ends
              one.breaks last.ends last.breaks (expr_flows tables inside.owner cond).read
              (of_block.ways (others.back gives) (λ is. absurd (false≢true is)))
              (others.ways gives);
          back = λ gives. of_block.back (others.back gives);
          inside = both both_inside _
              (both (expr_code tables inside.owner cond).inside _
              (expr_returns (setting_of inside state) false cond judged of_cond vars
              (rows_left tables.answers judged.rows _
              (rows_left tables.answers (condition_rows judged) one.rows noted))
              (here_left (expr_code tables inside.owner cond).inside _ own)) of_block.inside)
              others.inside;
        })

    else_returns : (inside : Inside) (state : State) (other : Option Block) (left : Left)
        → is.LeavesOtherwise tables.world false inside state other left → inside.init ≡ false
        → VarsHold tables.answers state.vars → RowsHold tables.answers left.rows
        → Here (inside_of (option_map (fold_block (steps inside.owner)) other))
        → ElseReturns number state (option_map (fold_block (steps inside.owner)) other) left
    else_returns inside state other left (is.absent _ _) init vars rows here =
        record { ways = λ gives. else_ways; back = λ gives. gives; inside = none }
    else_returns inside state other left (is.present _ _ _ body one of_body) init vars rows here =
        let of_block =
        block_returns_of (in_branch inside) state body one of_body init vars rows here in
        record {
          ways = λ gives. of_block.ways gives (λ is. absurd (false≢true is));
          back = of_block.back;
          inside = of_block.inside;
        }

    default_returns : (inside : Inside) (state : State) (other : Option Block) (left : Left)
        → is.LeavesOtherwise tables.world true inside state other left → inside.init ≡ false
        → VarsHold tables.answers state.vars → RowsHold tables.answers left.rows
        → Here (inside_of (option_map (fold_block (steps inside.owner)) other))
        → DefaultReturns number state (option_map (fold_block (steps inside.owner)) other) left
    default_returns inside state other left (is.absent_default _ _) init vars rows here =
        record { ways = λ gives ends breaks one two. tt; back = λ gives. gives; inside = none }
    default_returns inside state other left (is.present _ _ _ body one of_body) init vars rows
        here =
        let of_block =
        block_returns_of (in_branch inside) state body one of_body init vars rows here in
        record {
          ways = λ gives ends breaks ends_too breaks_too. record {
            own_ends = one.ends;
            own_breaks = one.breaks;
            flows = of_block.ways gives (λ is. absurd (false≢true is));
            ends_too = ends_too;
            breaks_too = breaks_too;
          };
          back = of_block.back;
          inside = of_block.inside;
        }

    cases_return : (inside : Inside) (cases : Option (List CaseShape)) (state : State)
        (arms : List CaseArm) (armed : Armed)
        → is.LeavesCases tables.world inside cases state arms armed → inside.init ≡ false
        → VarsHold tables.answers state.vars → RowsHold tables.answers armed.left.rows
        → Here (flat_map (λ (arm : CaseCode). arm.body.inside)
        (map (fold_case_arm (steps inside.owner)) arms))
        → All (IsFit cases) armed.heads
        → CasesReturn number state (map (fold_case_arm (steps inside.owner)) arms) armed
    cases_return inside cases state arms armed (is.no_case _ _ _) init vars rows here fit = record {
      ways = λ gives ends breaks one two. tt;
      back = λ gives. gives;
      inside = none;
      names = refl;
    }
    cases_return inside cases state arms armed (is.one_case _ _ _ name patterns body more one rest
        of_body of_more) init vars rows here fit =
        let head_is = eq.fold_case_arm-roll (steps inside.owner) name patterns body in
        let now = subst (λ (arm : CaseCode). Here (arm.body.inside
        ++ flat_map (λ (other : CaseCode). other.body.inside)
        (map (fold_case_arm (steps inside.owner)) more))) head_is here in
        let left = is.case_of cases state (is.head_of name patterns) one in
        let noted = rows_left tables.answers left.rows rest.left.rows rows in
        let new = arm_vars (is.head_of name patterns) (arm_payload cases name.id) in
        let of_block = block_returns_of (in_branch inside)
        (is.arm_state cases state (is.head_of name patterns)) body one of_body init
        (All-append (VarHolds tables.answers) state.vars new vars
        (arm_vars_hold tables.answers (is.head_of name patterns) (arm_payload cases name.id)
        (All-head (IsFit cases) (is.head_of name patterns) rest.heads fit)
        (rows_left tables.answers (vars_rows new) one.rows noted)))
        (rows_right tables.answers (vars_rows new) one.rows noted)
        (here_left (block_code tables inside.owner body).inside _ now) in
        let others = cases_return inside cases left.state more rest of_more init vars
        (rows_right tables.answers left.rows rest.left.rows rows)
        (here_right (block_code tables inside.owner body).inside _ now)
        (All-tail (IsFit cases) (is.head_of name patterns) rest.heads fit) in
        subst (λ arm. CasesReturn number state
        (arm ∷ map (fold_case_arm (steps inside.owner)) more) armed) (sym head_is)
        (record {
          ways = λ gives ends breaks ends_too breaks_too. (
            record {
              own_ends = one.ends;
              own_breaks = one.breaks;
              flows = of_block.ways (others.back gives) (λ is. absurd (false≢true is));
              ends_too = λ is. and_left one.ends rest.left.ends (ends_too is);
              breaks_too = λ is. breaks_too (or_left one.breaks rest.left.breaks is);
            },
            others.ways gives ends breaks
                (λ is. and_right one.ends rest.left.ends (ends_too is))
                (λ is. breaks_too (or_right one.breaks rest.left.breaks is)),
          );
          back = λ gives. of_block.back (others.back gives);
          inside =
              both (block_code tables inside.owner body).inside _ of_block.inside others.inside;
          names = ap (λ names. name.id ∷ names) others.names;
        })
