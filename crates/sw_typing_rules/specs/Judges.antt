-- The relations of types: what is known of an expression, and what a statement leaves, with one
-- constructor for each form of node. Each gives the outcome of its row by those of the parts.
use Rattle.std.specs.Prelude.{ℕ, ℤ, Bool, true, false, List, [], ◌∷◌, Option, Some, None, is_some}
use Rattle.sw_tree.specs.declared.expr.Arg.{Arg, roll-Arg}
use Rattle.sw_tree.specs.declared.expr.Closure.{Closure, roll-Closure}
use Rattle.sw_tree.specs.declared.expr.ClosureParam.{ClosureParam}
use Rattle.sw_tree.specs.declared.expr.Expr.{Expr}
use Rattle.sw_tree.specs.declared.expr.Expr.TheVariants as exprs
use Rattle.sw_tree.specs.declared.expr.Link.{Link, roll-Link}
use Rattle.sw_tree.specs.declared.name.Name.{Name}
use Rattle.sw_tree.specs.declared.operator.AssignOp.{AssignOp}
use Rattle.sw_tree.specs.declared.operator.InfixOp.{InfixOp}
use Rattle.sw_tree.specs.declared.operator.PrefixOp.{PrefixOp}
use Rattle.sw_tree.specs.declared.stmt.Block.{Block, roll-Block}
use Rattle.sw_tree.specs.declared.stmt.CaseArm.{CaseArm, roll-CaseArm}
use Rattle.sw_tree.specs.declared.stmt.IfArm.{IfArm, roll-IfArm}
use Rattle.sw_tree.specs.declared.stmt.Pattern.{Pattern}
use Rattle.sw_tree.specs.declared.stmt.Stmt.{Stmt}
use Rattle.sw_tree.specs.declared.stmt.Stmt.TheVariants as stmts
use Rattle.sw_tree.specs.declared.type_tree.TypeTree.{TypeTree}
use Rattle.sw_types.specs.declared.shape.CaseShape.{CaseShape}
use Rattle.sw_typing_rules.specs.Calls.{Slot, slots_of}
use Rattle.sw_typing_rules.specs.Expressions.{Judged, Closed, Passed, none_passed, one_passed}
use Rattle.sw_typing_rules.specs.Expressions.{first_marked, later, call_judged, int_judged}
use Rattle.sw_typing_rules.specs.Expressions.{bool_judged}
use Rattle.sw_typing_rules.specs.Expressions.{me_judged, prefix_judged, infix_judged, await_judged}
use Rattle.sw_typing_rules.specs.Expressions.{yield_judged, fun_judged, spawn_judged, word_judged}
use Rattle.sw_typing_rules.specs.Expressions.{member_judged, call_callee, method_callee, base_rows}
use Rattle.sw_typing_rules.specs.Statements.{State, Left, Head, Armed, setting_of, scoped}
use Rattle.sw_typing_rules.specs.declared.scope.Inside.{Inside}
use Rattle.sw_typing_rules.specs.Statements.{goes_on, then_left, beside, no_branch, no_arms}
use Rattle.sw_typing_rules.specs.Statements.{more_arms, in_branch, in_loop, in_switch, in_body}
use Rattle.sw_typing_rules.specs.Statements.{is_one}
use Rattle.sw_typing_rules.specs.Statements.{with_only, marked_type, bind_left, place_type}
use Rattle.sw_typing_rules.specs.Statements.{assign_left, discard_left, arm_left, while_left}
use Rattle.sw_typing_rules.specs.Statements.{break_left, continue_left, return_void, return_value}
use Rattle.sw_typing_rules.specs.Statements.{plain_left, expects, marked_result, switch_left}
use Rattle.sw_typing_rules.specs.Statements.{case_left, arm_payload, arm_vars, with_vars, cases_of}
use Rattle.sw_typing_rules.specs.Statements.{written, closure_state, closed}
use Rattle.sw_typing_rules.specs.Words.{Setting}
use Rattle.sw_typing_rules.specs.Worlds.{World}

abbrev pub closure_of : ℕ → Option Name → List Name → List ClosureParam → Option TypeTree → Block
    → Closure
closure_of at mark captures params result body = roll-Closure (record {
  at = at;
  mark = mark;
  captures = captures;
  params = params;
  result = result;
  body = body;
})

abbrev pub head_of : Name → List Pattern → Head
head_of name patterns = record { name = name.id; patterns = patterns }

-- the variables of an arm are those of its patterns
abbrev pub arm_state : Option (List CaseShape) → State → Head → State
arm_state cases state head = with_vars state (arm_vars head (arm_payload cases head.name))

abbrev pub case_of : Option (List CaseShape) → State → Head → Left → Left
case_of cases state head left = case_left state head (arm_payload cases head.name) left

module _ (world : World) where
  mutual
    -- what is known of an expression where it stands, by whether a `@Sendable` function is expected
    pub data Judges : Setting → Bool → Expr → Judged → Type 0 where
      int : (setting : Setting) (expected : Bool) (at : ℕ) (value : ℤ)
          → Judges setting expected (exprs.Int at value) (int_judged at)
      bool : (setting : Setting) (expected : Bool) (at : ℕ) (value : Bool)
          → Judges setting expected (exprs.Bool at value) (bool_judged at value)
      word : (setting : Setting) (expected : Bool) (name : Name)
          → Judges setting expected (exprs.Use name) (word_judged world setting name)
      me : (setting : Setting) (expected : Bool) (at : ℕ)
          → Judges setting expected (exprs.Me at) (me_judged setting.owner at)
      member : (setting : Setting) (expected : Bool) (base : Expr) (name : Name) (judged : Judged)
          → Judges setting false base judged
          → Judges setting expected (exprs.Member base name) (member_judged world judged name)
      -- each argument goes to its parameter
      call : (setting : Setting) (expected : Bool) (name : Name) (args : List Arg) (passed : Passed)
          → Passes setting (slots_of (call_callee world setting name)) args passed
          → Judges setting expected (exprs.Call name args) (call_judged
          (call_callee world setting name) name.at [] passed)
      method : (setting : Setting) (expected : Bool) (base : Expr) (name : Name)
          (args : List Arg) (judged : Judged)
          (passed : Passed)
          → Judges setting false base judged
          → Passes setting (slots_of (method_callee world judged name)) args passed
          → Judges setting expected (exprs.Method base name args)
          (call_judged (method_callee world judged name) name.at (base_rows judged) passed)
      -- the left operand of each operator is what stands before it
      chain : (setting : Setting) (expected : Bool) (first : Expr) (rest : List Link)
          (left judged : Judged)
          → Judges setting false first left
          → Links setting left rest judged
          → Judges setting expected (exprs.Chain first rest) judged
      prefix : (setting : Setting) (expected : Bool) (op : PrefixOp) (at : ℕ) (inner : Expr)
          (judged : Judged)
          → Judges setting false inner judged
          → Judges setting expected (exprs.Prefix op at inner) (prefix_judged op at judged)
      await : (setting : Setting) (expected : Bool) (at : ℕ) (inner : Expr) (judged : Judged)
          → Judges setting false inner judged
          → Judges setting expected (exprs.Await at inner) (await_judged at judged)
      fun : (setting : Setting) (expected : Bool) (closure : Closure) (closed : Closed)
          → Closes setting closure closed
          → Judges setting expected (exprs.Fun closure) (fun_judged expected closed)
      spawn : (setting : Setting) (expected : Bool) (at : ℕ) (detached : Bool) (body : Closure)
          (closed : Closed)
          → Closes setting body closed
          → Judges setting expected (exprs.Spawn at detached body) (spawn_judged at closed)
      yield : (setting : Setting) (expected : Bool) (at : ℕ)
          → Judges setting expected (exprs.Yield at) (yield_judged at)

    -- what is known of arguments, each with the parameter that takes it
    pub data Passes : Setting → List Slot → List Arg → Passed → Type 0 where
      passes_none : (setting : Setting) (slots : List Slot)
          → Passes setting slots [] none_passed
      passes_one : (setting : Setting) (slots : List Slot) (label : Option Name) (value : Expr)
          (args : List Arg) (judged : Judged) (passed : Passed)
          → Judges setting (first_marked slots) value judged
          → Passes setting (later slots) args passed
          → Passes setting slots (roll-Arg (record { label = label; value = value }) ∷ args)
          (one_passed label judged passed)

    -- what is known of a chain after its operators, by what is known of what stands before them
    pub data Links : Setting → Judged → List Link → Judged → Type 0 where
      no_link : (setting : Setting) (left : Judged)
          → Links setting left [] left
      one_link : (setting : Setting) (left : Judged) (op : InfixOp) (at : ℕ) (operand : Expr)
          (links : List Link) (right judged : Judged)
          → Judges setting false operand right
          → Links setting (infix_judged op at left right) links judged
          → Links setting left (roll-Link (record { op = op; at = at; operand = operand }) ∷ links)
          judged

    -- what is known of a closure or of the body of a task
    pub data Closes : Setting → Closure → Closed → Type 0 where
      closes : (setting : Setting) (at : ℕ) (mark : Option Name) (captures : List Name)
          (params : List ClosureParam) (result : Option TypeTree) (body : Block) (left : Left)
          → LeavesBlock (in_body setting.owner false)
          (closure_state world setting captures params result) body left
          → Closes setting (closure_of at mark captures params result body)
          (closed world setting at mark captures params left)

    -- what a statement leaves
    pub data Leaves : Inside → State → Stmt → Left → Type 0 where
      bind : (inside : Inside) (state : State) (mutable : Bool) (name : Name) (ty : Option TypeTree)
          (value : Expr) (judged : Judged)
          → Judges (setting_of inside state) (marked_type (written world ty)) value judged
          → Leaves inside state (stmts.Bind mutable name ty value)
          (bind_left state mutable name (written world ty) judged)
      assign : (inside : Inside) (state : State) (at : ℕ) (op : AssignOp) (place value : Expr)
          (placed judged : Judged)
          → Judges (setting_of inside state) false place placed
          → Judges (setting_of inside state) (marked_type (place_type inside placed)) value judged
          → Leaves inside state (stmts.Assign at op place value)
          (assign_left inside state at op placed judged)
      discard : (inside : Inside) (state : State) (at : ℕ) (value : Expr) (judged : Judged)
          → Judges (setting_of inside state) false value judged
          → Leaves inside state (stmts.Discard at value) (discard_left state judged)
      if_of : (inside : Inside) (state : State) (arms : List IfArm) (otherwise : Option Block)
          (left last : Left)
          → LeavesArms inside state arms left
          → LeavesOtherwise false inside left.state otherwise last
          → Leaves inside state (stmts.If arms otherwise) (beside left last)
      while_of : (inside : Inside) (state : State) (at : ℕ) (cond : Expr) (body : Block)
          (judged : Judged)
          (left : Left)
          → Judges (setting_of inside state) false cond judged
          → LeavesBlock (in_loop inside) state body left
          → Leaves inside state (stmts.While at cond body) (while_left state judged left)
      switch : (inside : Inside) (state : State) (at : ℕ) (subject : Expr) (arms : List CaseArm)
          (otherwise : Option Block) (judged : Judged) (armed : Armed) (last : Left)
          → Judges (setting_of inside state) false subject judged
          → LeavesCases (in_switch inside) (cases_of world judged.ty) state arms armed
          → LeavesOtherwise true (in_switch inside) armed.left.state otherwise last
          → Leaves inside state (stmts.Switch at subject arms otherwise)
          (switch_left (cases_of world judged.ty) at judged armed.heads (is_some otherwise)
          (beside armed.left last))
      return_nothing : (inside : Inside) (state : State) (at : ℕ)
          → Leaves inside state (stmts.Return at None) (return_void state.returned state at)
      return_of : (inside : Inside) (state : State) (at : ℕ) (value : Expr) (judged : Judged)
          → Judges (setting_of inside state) (marked_result state.returned) value judged
          → Leaves inside state (stmts.Return at (Some value))
          (return_value state.returned state at judged)
      break_of : (inside : Inside) (state : State) (at : ℕ)
          → Leaves inside state (stmts.Break at) (break_left inside state at)
      continue_of : (inside : Inside) (state : State) (at : ℕ)
          → Leaves inside state (stmts.Continue at) (continue_left inside state at)
      plain : (inside : Inside) (state : State) (value : Expr) (judged : Judged)
          → Judges (setting_of inside state) (expects inside.only state) value judged
          → Leaves inside state (stmts.Plain value) (plain_left inside.only state judged)

    -- what statements in order leave
    pub data LeavesAll : Inside → State → List Stmt → Left → Type 0 where
      no_stmt : (inside : Inside) (state : State)
          → LeavesAll inside state [] (goes_on state [] true)
      one_stmt : (inside : Inside) (state : State) (stmt : Stmt) (stmts : List Stmt)
          (left last : Left)
          → Leaves inside state stmt left
          → LeavesAll inside left.state stmts last
          → LeavesAll inside state (stmt ∷ stmts) (then_left left last)

    -- what the statements of a block leave
    pub data LeavesBlock : Inside → State → Block → Left → Type 0 where
      block : (inside : Inside) (state : State) (stmts : List Stmt) (left : Left)
          → LeavesAll (with_only inside (is_one stmts)) state stmts left
          → LeavesBlock inside state (roll-Block (record { stmts = stmts })) left

    -- what the arms of an `if` leave
    pub data LeavesArms : Inside → State → List IfArm → Left → Type 0 where
      no_arm : (inside : Inside) (state : State)
          → LeavesArms inside state [] (no_branch state)
      one_arm : (inside : Inside) (state : State) (at : ℕ) (cond : Expr) (body : Block)
          (arms : List IfArm)
          (judged : Judged) (left last : Left)
          → Judges (setting_of inside state) false cond judged
          → LeavesBlock (in_branch inside) state body left
          → LeavesArms inside (arm_left state judged left).state arms last
          → LeavesArms inside state
          (roll-IfArm (record { at = at; cond = cond; body = body }) ∷ arms)
          (beside (arm_left state judged left) last)

    -- What an `else` leaves, or a `default`, for which the first argument is true, if there is one.
    pub data LeavesOtherwise : Bool → Inside → State → Option Block → Left → Type 0 where
      -- without an `else` the ways of an `if` go on
      absent : (inside : Inside) (state : State)
          → LeavesOtherwise false inside state None (goes_on state [] true)
      -- without a `default` a `switch` has no way but those of its cases
      absent_default : (inside : Inside) (state : State)
          → LeavesOtherwise true inside state None (no_branch state)
      present : (ends : Bool) (inside : Inside) (state : State) (body : Block) (left : Left)
          → LeavesBlock (in_branch inside) state body left
          → LeavesOtherwise ends inside state (Some body) (scoped state left)

    -- what the arms of a `switch` leave, where its subject has these cases
    pub data LeavesCases : Inside → Option (List CaseShape) → State → List CaseArm → Armed
        → Type 0 where
      no_case : (inside : Inside) (cases : Option (List CaseShape)) (state : State)
          → LeavesCases inside cases state [] (no_arms state)
      one_case : (inside : Inside) (cases : Option (List CaseShape)) (state : State)
          (name : Name) (patterns : List Pattern) (body : Block) (arms : List CaseArm) (left : Left)
          (armed : Armed)
          → LeavesBlock (in_branch inside) (arm_state cases state (head_of name patterns)) body left
          → LeavesCases inside cases (case_of cases state (head_of name patterns) left).state arms
          armed
          → LeavesCases inside cases state
          (roll-CaseArm (record { name = name; patterns = patterns; body = body }) ∷ arms)
          (more_arms (head_of name patterns) (case_of cases state (head_of name patterns) left)
          armed)
