-- What is known of each expression, and what each statement leaves: a function over whole trees by
-- the rules.
use Rattle.std.specs.Prelude.{ℕ, Bool, true, false, List, [], ◌∷◌, Option, Some, None}
use Rattle.std.specs.Prelude.{is_some}
use Rattle.sw_tree.specs.Folds.{Steps, fold_expr, fold_stmt, fold_block}
use Rattle.sw_tree.specs.declared.expr.Expr.{Expr}
use Rattle.sw_tree.specs.declared.expr.Expr.TheOpen as layer
use Rattle.sw_tree.specs.declared.name.Name.{Name}
use Rattle.sw_tree.specs.declared.operator.InfixOp.{InfixOp}
use Rattle.sw_tree.specs.declared.stmt.Block.{Block}
use Rattle.sw_tree.specs.declared.stmt.Stmt.{Stmt}
use Rattle.sw_types.specs.declared.shape.CaseShape.{CaseShape}
use Rattle.sw_typing_rules.specs.Calls.{Slot, slots_of}
use Rattle.sw_typing_rules.specs.Expressions.{Judged, Closed, Passed, none_passed, one_passed}
use Rattle.sw_typing_rules.specs.Expressions.{first_marked, later, call_judged, int_judged}
use Rattle.sw_typing_rules.specs.Expressions.{bool_judged}
use Rattle.sw_typing_rules.specs.Expressions.{me_judged, prefix_judged, infix_judged, await_judged}
use Rattle.sw_typing_rules.specs.Expressions.{yield_judged, fun_judged, spawn_judged, word_judged}
use Rattle.sw_typing_rules.specs.Expressions.{member_judged, call_callee, method_callee, base_rows}
use Rattle.sw_typing_rules.specs.Statements.{State, Left, Head, Armed, setting_of, scoped}
use Rattle.sw_typing_rules.specs.declared.scope.Inside.{Inside}
use Rattle.sw_typing_rules.specs.Statements.{goes_on, then_left, beside, no_branch, no_arms}
use Rattle.sw_typing_rules.specs.Statements.{more_arms, in_branch, in_loop, in_switch, in_body}
use Rattle.sw_typing_rules.specs.Statements.{is_one}
use Rattle.sw_typing_rules.specs.Statements.{with_only, marked_type, bind_left, place_type}
use Rattle.sw_typing_rules.specs.Statements.{assign_left, discard_left, arm_left, while_left}
use Rattle.sw_typing_rules.specs.Statements.{break_left, continue_left, return_void, return_value}
use Rattle.sw_typing_rules.specs.Statements.{plain_left, expects, marked_result, switch_left}
use Rattle.sw_typing_rules.specs.Statements.{case_left, arm_payload, arm_vars, with_vars, cases_of}
use Rattle.sw_typing_rules.specs.Statements.{written, closure_state, closed}
use Rattle.sw_typing_rules.specs.Words.{Setting}
use Rattle.sw_typing_rules.specs.Worlds.{World}

-- An expression is judged where it stands, and by whether a `@Sendable` function is expected there.
abbrev pub OfExpr : Type 0
OfExpr = Setting → Bool → Judged

-- what a statement leaves, by where it stands and by the state before it
abbrev pub OfStmt : Type 0
OfStmt = Inside → State → Left

-- an argument, an operator with its right operand, and an arm, each with what its parts give
pub record OfArg : Type 0 where
  pub label : Option Name
  pub value : OfExpr

pub record OfLink : Type 0 where
  pub op : InfixOp
  pub at : ℕ
  pub operand : OfExpr

pub record OfIfArm : Type 0 where
  pub cond : OfExpr
  pub body : OfStmt

pub record OfCaseArm : Type 0 where
  pub head : Head
  pub body : OfStmt

-- the arguments of a call, each with the parameter that takes it
abbrev pub pass : Setting → List Slot → List OfArg → Passed
pass setting slots [] = none_passed
pass setting slots (arg ∷ args) =
    one_passed arg.label (arg.value setting (first_marked slots)) (pass setting (later slots) args)

-- the operators of a chain, after what stands before them
abbrev pub link_all : Setting → Judged → List OfLink → Judged
link_all setting left [] = left
link_all setting left (link ∷ links) =
    link_all setting (infix_judged link.op link.at left (link.operand setting false)) links

-- statements in order
abbrev pub do_all : Inside → State → List OfStmt → Left
do_all inside state [] = goes_on state [] true
do_all inside state (stmt ∷ stmts) =
    then_left (stmt inside state) (do_all inside (stmt inside state).state stmts)

abbrev pub do_arm : Inside → State → OfIfArm → Left
do_arm inside state arm =
    arm_left state (arm.cond (setting_of inside state) false) (arm.body (in_branch inside) state)

abbrev pub do_arms : Inside → State → List OfIfArm → Left
do_arms inside state [] = no_branch state
do_arms inside state (arm ∷ arms) =
    beside (do_arm inside state arm) (do_arms inside (do_arm inside state arm).state arms)

-- An `else` or a `default`, if there is one. The first argument is true for a `switch`: one without
-- a `default` has no way but those of its cases, while an `if` without an `else` may go on.
abbrev pub do_otherwise : Bool → Inside → State → Option OfStmt → Left
do_otherwise true inside state None = no_branch state
do_otherwise false inside state None = goes_on state [] true
do_otherwise ends inside state (Some body) = scoped state (body (in_branch inside) state)

abbrev pub do_case : Inside → Option (List CaseShape) → State → OfCaseArm → Left
do_case inside cases state arm =
    case_left state arm.head (arm_payload cases arm.head.name)
    (arm.body (in_branch inside)
    (with_vars state (arm_vars arm.head (arm_payload cases arm.head.name))))

abbrev pub do_cases : Inside → Option (List CaseShape) → State → List OfCaseArm → Armed
do_cases inside cases state [] = no_arms state
do_cases inside cases state (arm ∷ arms) =
    more_arms arm.head (do_case inside cases state arm)
    (do_cases inside cases (do_case inside cases state arm).state arms)

module _ (world : World) where
  abbrev pub expr_layer : layer.Expr-F OfExpr OfStmt OfArg (Setting
      → Closed) OfLink OfStmt OfCaseArm
      OfIfArm → OfExpr
  expr_layer (layer.Int at value) setting expected = int_judged at
  expr_layer (layer.Bool at value) setting expected = bool_judged at value
  expr_layer (layer.Use name) setting expected = word_judged world setting name
  expr_layer (layer.Me at) setting expected = me_judged setting.owner at
  expr_layer (layer.Member base name) setting expected =
      member_judged world (base setting false) name
  expr_layer (layer.Call name args) setting expected =
      call_judged (call_callee world setting name) name.at []
      (pass setting (slots_of (call_callee world setting name)) args)
  expr_layer (layer.Method base name args) setting expected =
      call_judged (method_callee world (base setting false) name) name.at
      (base_rows (base setting false))
      (pass setting (slots_of (method_callee world (base setting false) name)) args)
  expr_layer (layer.Chain first rest) setting expected =
      link_all setting (first setting false) rest
  expr_layer (layer.Prefix op at inner) setting expected =
      prefix_judged op at (inner setting false)
  expr_layer (layer.Await at inner) setting expected = await_judged at (inner setting false)
  expr_layer (layer.Fun closure) setting expected = fun_judged expected (closure setting)
  expr_layer (layer.Spawn at detached body) setting expected = spawn_judged at (body setting)
  expr_layer (layer.Yield at) setting expected = yield_judged at

  abbrev pub stmt_layer : layer.Stmt-F OfExpr OfStmt OfArg (Setting
      → Closed) OfLink OfStmt OfCaseArm
      OfIfArm → OfStmt
  stmt_layer (layer.Bind mutable name ty value) inside state =
      bind_left state mutable name (written world ty)
      (value (setting_of inside state) (marked_type (written world ty)))
  stmt_layer (layer.Assign at op place value) inside state =
      assign_left inside state at op (place (setting_of inside state) false)
      (value (setting_of inside state)
      (marked_type (place_type inside (place (setting_of inside state) false))))
  stmt_layer (layer.Discard at value) inside state =
      discard_left state (value (setting_of inside state) false)
  stmt_layer (layer.If arms otherwise) inside state =
      beside (do_arms inside state arms)
      (do_otherwise false inside (do_arms inside state arms).state otherwise)
  stmt_layer (layer.While at cond body) inside state =
      while_left state (cond (setting_of inside state) false) (body (in_loop inside) state)
  stmt_layer (layer.Switch at subject arms otherwise) inside state =
      let judged = subject (setting_of inside state) false in
      let cases = cases_of world judged.ty in
      let armed = do_cases (in_switch inside) cases state arms in
      switch_left cases at judged armed.heads (is_some otherwise)
      (beside armed.left (do_otherwise true (in_switch inside) armed.left.state otherwise))
  stmt_layer (layer.Return at None) inside state = return_void state.returned state at
  stmt_layer (layer.Return at (Some value)) inside state =
      return_value state.returned state at
      (value (setting_of inside state) (marked_result state.returned))
  stmt_layer (layer.Break at) inside state = break_left inside state at
  stmt_layer (layer.Continue at) inside state = continue_left inside state at
  stmt_layer (layer.Plain value) inside state =
      plain_left inside.only state
      (value (setting_of inside state) (expects inside.only state))

  abbrev pub closure_layer : layer.Closure-F OfExpr OfStmt OfArg (Setting → Closed) OfLink OfStmt
      OfCaseArm OfIfArm → Setting → Closed
  closure_layer closure setting =
      closed world setting closure.at closure.mark closure.captures closure.params
      (closure.body (in_body setting.owner false)
      (closure_state world setting closure.captures closure.params closure.result))

  abbrev pub typing_steps : Steps
  typing_steps = record {
    E = OfExpr;
    S = OfStmt;
    A = OfArg;
    C = Setting → Closed;
    L = OfLink;
    B = OfStmt;
    K = OfCaseArm;
    I = OfIfArm;
    expr = expr_layer;
    stmt = stmt_layer;
    arg = λ arg. record { label = arg.label; value = arg.value };
    closure = closure_layer;
    link = λ link. record { op = link.op; at = link.at; operand = link.operand };
    block = λ block inside state. do_all (with_only inside (is_one block.stmts)) state block.stmts;
    case_arm = λ arm. record {
      head = record { name = arm.name.id; patterns = arm.patterns };
      body = arm.body;
    };
    if_arm = λ arm. record { cond = arm.cond; body = arm.body };
  }

  -- what is known of an expression
  unfoldable pub judge : Expr → Setting → Bool → Judged
  judge = fold_expr typing_steps

  -- what a statement leaves
  unfoldable pub leave : Stmt → Inside → State → Left
  leave = fold_stmt typing_steps

  -- what the statements of a block leave
  unfoldable pub leave_block : Block → Inside → State → Left
  leave_block = fold_block typing_steps
