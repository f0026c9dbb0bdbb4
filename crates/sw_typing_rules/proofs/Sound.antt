-- The relations of types hold of what the function over trees gives.
use Rattle.std.proofs.Common.{ℕ, Bool, true, false, List, [], ◌∷◌, Option, Some, None, map}
use Rattle.std.proofs.Common.{option_map, sym, subst}
use Rattle.std.specs.List.{AllByRecursion}
use Rattle.sw_tree.specs.declared.expr.Arg.{Arg, roll-Arg}
use Rattle.sw_tree.specs.declared.expr.Expr.{Expr}
use Rattle.sw_tree.specs.declared.expr.Expr.TheVariants as exprs
use Rattle.sw_tree.specs.declared.expr.Link.{Link, roll-Link}
use Rattle.sw_tree.specs.declared.stmt.Block.{Block, roll-Block}
use Rattle.sw_tree.specs.declared.stmt.CaseArm.{CaseArm, roll-CaseArm}
use Rattle.sw_tree.specs.declared.stmt.IfArm.{IfArm, roll-IfArm}
use Rattle.sw_tree.specs.declared.stmt.Stmt.{Stmt}
use Rattle.sw_tree.specs.declared.stmt.Stmt.TheVariants as stmts
use Rattle.sw_types.specs.declared.shape.CaseShape.{CaseShape}
use Rattle.sw_typing_rules.specs.Calls.{Slot, slots_of}
use Rattle.sw_typing_rules.specs.Expressions.{Judged, Closed, Passed, one_passed}
use Rattle.sw_typing_rules.specs.Expressions.{first_marked, later}
use Rattle.sw_typing_rules.specs.Expressions.{infix_judged}
use Rattle.sw_typing_rules.specs.Expressions.{call_callee, method_callee}
use Rattle.sw_typing_rules.specs.Statements.{State, Left, Armed, setting_of}
use Rattle.sw_typing_rules.specs.declared.scope.Inside.{Inside}
use Rattle.sw_typing_rules.specs.Statements.{beside}
use Rattle.sw_typing_rules.specs.Statements.{more_arms, in_branch, in_loop, in_switch, in_body}
use Rattle.sw_typing_rules.specs.Statements.{is_one}
use Rattle.sw_typing_rules.specs.Statements.{with_only, marked_type, place_type}
use Rattle.sw_typing_rules.specs.Statements.{expects, marked_result, switch_left}
use Rattle.sw_typing_rules.specs.Statements.{cases_of}
use Rattle.sw_typing_rules.specs.Statements.{written, closure_state}
use Rattle.sw_typing_rules.specs.Words.{Setting}
use Rattle.sw_typing_rules.specs.Worlds.{World}
use Rattle.sw_tree.proofs.FoldEquations as eq
use Rattle.sw_tree.specs.Folds.{fold_expr, fold_stmt, fold_arg, fold_closure, fold_link, fold_block}
use Rattle.sw_tree.specs.Folds.{fold_case_arm, fold_if_arm}
use Rattle.sw_typing_rules.specs.Judges.{closure_of, head_of, arm_state, case_of}
use Rattle.sw_typing_rules.specs.Judges as is
use Rattle.sw_typing_rules.specs.Judging.{OfExpr, OfStmt, OfArg, OfLink, OfIfArm, OfCaseArm}
use Rattle.sw_typing_rules.specs.Judging.{pass, link_all, do_all, do_arm, do_arms, do_otherwise}
use Rattle.sw_typing_rules.specs.Judging.{do_case, do_cases, typing_steps, judge, leave}
use Rattle.sw_typing_rules.specs.Judging.{leave_block}
use Rattle.sw_tree.proofs.TreeInduction.{Claims, Cases, Given, every_expr, every_stmt, every_block}
use Rattle.sw_typing_rules.proofs.Complete.{is_one-map, is_some-map}

module _ (world : World) where
  abbrev pub claims : Claims
  claims = record {
    expr = λ e. (s : Setting) (m : Bool)
        → is.Judges world s m e (fold_expr (typing_steps world) e s m);
    stmt = λ x. (i : Inside) (s : State)
        → is.Leaves world i s x (fold_stmt (typing_steps world) x i s);
    arg = λ a. (s : Setting) (slots : List Slot) (args : List Arg) (p : Passed)
        → is.Passes world s (later slots) args p
        → is.Passes world s slots (a ∷ args)
        (one_passed (fold_arg (typing_steps world) a).label
        ((fold_arg (typing_steps world) a).value s (first_marked slots)) p);
    closure = λ c. (s : Setting)
        → is.Closes world s c (fold_closure (typing_steps world) c s);
    link = λ l. (s : Setting) (left : Judged) (links : List Link) (j : Judged)
        → is.Links world s (infix_judged (fold_link (typing_steps world) l).op
        (fold_link (typing_steps world) l).at left
        ((fold_link (typing_steps world) l).operand s false)) links j
        → is.Links world s left (l ∷ links) j;
    block = λ b. (i : Inside) (s : State)
        → is.LeavesBlock world i s b (fold_block (typing_steps world) b i s);
    case_arm = λ k. (i : Inside) (cases : Option (List CaseShape)) (s : State)
        (arms : List CaseArm) (armed : Armed)
        → is.LeavesCases world i cases
        (do_case i cases s (fold_case_arm (typing_steps world) k)).state arms armed
        → is.LeavesCases world i cases s (k ∷ arms)
        (more_arms (fold_case_arm (typing_steps world) k).head
        (do_case i cases s (fold_case_arm (typing_steps world) k)) armed);
    if_arm = λ a. (i : Inside) (s : State) (arms : List IfArm) (l : Left)
        → is.LeavesArms world i (do_arm i s (fold_if_arm (typing_steps world) a)).state arms l
        → is.LeavesArms world i s (a ∷ arms)
        (beside (do_arm i s (fold_if_arm (typing_steps world) a)) l);
  }

  all_pass : (args : List Arg) → AllByRecursion claims.arg args → (s : Setting)
      (slots : List Slot)
      → is.Passes world s slots args (pass s slots (map (fold_arg (typing_steps world)) args))
  all_pass [] given s slots = is.passes_none s slots
  all_pass (arg ∷ args) given s slots =
      given.0 s slots args (pass s (later slots) (map (fold_arg (typing_steps world)) args))
      (all_pass args given.1 s (later slots))

  all_link : (links : List Link) → AllByRecursion claims.link links → (s : Setting)
      (left : Judged)
      → is.Links world s left links (link_all s left (map (fold_link (typing_steps world)) links))
  all_link [] given s left = is.no_link s left
  all_link (link ∷ links) given s left =
      given.0 s left links _ (all_link links given.1 s
      (infix_judged (fold_link (typing_steps world) link).op
      (fold_link (typing_steps world) link).at left
      ((fold_link (typing_steps world) link).operand s false)))

  all_leave : (stmts : List Stmt) → AllByRecursion claims.stmt stmts → (i : Inside) (s : State)
      → is.LeavesAll world i s stmts (do_all i s (map (fold_stmt (typing_steps world)) stmts))
  all_leave [] given i s = is.no_stmt i s
  all_leave (stmt ∷ stmts) given i s =
      is.one_stmt i s stmt stmts _ _ (given.0 i s)
      (all_leave stmts given.1 i (fold_stmt (typing_steps world) stmt i s).state)

  all_arms : (arms : List IfArm) → AllByRecursion claims.if_arm arms → (i : Inside) (s : State)
      → is.LeavesArms world i s arms (do_arms i s (map (fold_if_arm (typing_steps world)) arms))
  all_arms [] given i s = is.no_arm i s
  all_arms (arm ∷ arms) given i s =
      given.0 i s arms _ (all_arms arms given.1 i
      (do_arm i s (fold_if_arm (typing_steps world) arm)).state)

  all_cases : (arms : List CaseArm) → AllByRecursion claims.case_arm arms → (i : Inside)
      (cases : Option (List CaseShape)) (s : State)
      → is.LeavesCases world i cases s arms
      (do_cases i cases s (map (fold_case_arm (typing_steps world)) arms))
  all_cases [] given i cases s = is.no_case i cases s
  all_cases (arm ∷ arms) given i cases s =
      given.0 i cases s arms _ (all_cases arms given.1 i cases
      (do_case i cases s (fold_case_arm (typing_steps world) arm)).state)

  otherwise_leaves : (ends : Bool) (i : Inside) (s : State) (otherwise : Option Block)
      → Given claims.block otherwise
      → is.LeavesOtherwise world ends i s otherwise
      (do_otherwise ends i s (option_map (fold_block (typing_steps world)) otherwise))
  otherwise_leaves true i s None given = is.absent_default i s
  otherwise_leaves false i s None given = is.absent i s
  otherwise_leaves true i s (Some body) given = is.present true i s body _ (given (in_branch i) s)
  otherwise_leaves false i s (Some body) given = is.present false i s body _ (given (in_branch i) s)

  abbrev pub at_expr : Expr → Setting → Bool → OfExpr → Type 0
  at_expr e s m f = is.Judges world s m e (f s m)

  abbrev pub at_stmt : Stmt → Inside → State → OfStmt → Type 0
  at_stmt x i s f = is.Leaves world i s x (f i s)

  return_leaves : (at : ℕ) (value : Option Expr) → Given claims.expr value
      → claims.stmt (stmts.Return at value)
  return_leaves at None given i s = subst (at_stmt (stmts.Return at None) i s)
      (sym (eq.fold_stmt-Return (typing_steps world) at None)) (is.return_nothing i s at)
  return_leaves at (Some value) given i s = subst (at_stmt (stmts.Return at (Some value)) i s)
      (sym (eq.fold_stmt-Return (typing_steps world) at (Some value)))
      (is.return_of i s at value _ (given (setting_of i s) (marked_result s.returned)))

  pub cases : Cases claims
  cases = record {
    int = λ at value s m. subst (at_expr (exprs.Int at value) s m)
        (sym (eq.fold_expr-Int (typing_steps world) at value)) (is.int s m at value);
    bool = λ at value s m. subst (at_expr (exprs.Bool at value) s m)
        (sym (eq.fold_expr-Bool (typing_steps world) at value)) (is.bool s m at value);
    use_of = λ name s m. subst (at_expr (exprs.Use name) s m)
        (sym (eq.fold_expr-Use (typing_steps world) name)) (is.word s m name);
    me = λ at s m. subst (at_expr (exprs.Me at) s m)
        (sym (eq.fold_expr-Me (typing_steps world) at)) (is.me s m at);
    member = λ base name given s m. subst (at_expr (exprs.Member base name) s m)
        (sym (eq.fold_expr-Member (typing_steps world) base name))
        (is.member s m base name _ (given s false));
    call = λ name args given s m. subst (at_expr (exprs.Call name args) s m)
        (sym (eq.fold_expr-Call (typing_steps world) name args))
        (is.call s m name args _ (all_pass args given s (slots_of (call_callee world s name))));
    method = λ base name args of_base given s m. subst (at_expr (exprs.Method base name args) s m)
        (sym (eq.fold_expr-Method (typing_steps world) base name args))
        (is.method s m base name args _ _ (of_base s false) (all_pass args given s
        (slots_of (method_callee world (fold_expr (typing_steps world) base s false) name))));
    chain = λ first rest of_first given s m. subst (at_expr (exprs.Chain first rest) s m)
        (sym (eq.fold_expr-Chain (typing_steps world) first rest))
        (is.chain s m first rest _ _ (of_first s false)
        (all_link rest given s (fold_expr (typing_steps world) first s false)));
    prefix = λ op at inner given s m. subst (at_expr (exprs.Prefix op at inner) s m)
        (sym (eq.fold_expr-Prefix (typing_steps world) op at inner))
        (is.prefix s m op at inner _ (given s false));
    await = λ at inner given s m. subst (at_expr (exprs.Await at inner) s m)
        (sym (eq.fold_expr-Await (typing_steps world) at inner))
        (is.await s m at inner _ (given s false));
    fun = λ closure given s m. subst (at_expr (exprs.Fun closure) s m)
        (sym (eq.fold_expr-Fun (typing_steps world) closure))
        (is.fun s m closure _ (given s));
    spawn = λ at detached body given s m. subst (at_expr (exprs.Spawn at detached body) s m)
        (sym (eq.fold_expr-Spawn (typing_steps world) at detached body))
        (is.spawn s m at detached body _ (given s));
    yield = λ at s m. subst (at_expr (exprs.Yield at) s m)
        (sym (eq.fold_expr-Yield (typing_steps world) at)) (is.yield s m at);
    bind = λ mutable name ty value given i s. subst (at_stmt (stmts.Bind mutable name ty value) i s)
        (sym (eq.fold_stmt-Bind (typing_steps world) mutable name ty value))
        (is.bind i s mutable name ty value _
        (given (setting_of i s) (marked_type (written world ty))));
    assign = λ at op place value of_place of_value i s.
        subst (at_stmt (stmts.Assign at op place value) i s)
        (sym (eq.fold_stmt-Assign (typing_steps world) at op place value))
        (is.assign i s at op place value _ _ (of_place (setting_of i s) false)
        (of_value (setting_of i s) (marked_type (place_type i
        (fold_expr (typing_steps world) place (setting_of i s) false)))));
    discard = λ at value given i s. subst (at_stmt (stmts.Discard at value) i s)
        (sym (eq.fold_stmt-Discard (typing_steps world) at value))
        (is.discard i s at value _ (given (setting_of i s) false));
    if_of = λ arms otherwise of_arms given i s. subst (at_stmt (stmts.If arms otherwise) i s)
        (sym (eq.fold_stmt-If (typing_steps world) arms otherwise))
        (is.if_of i s arms otherwise _ _ (all_arms arms of_arms i s)
        (otherwise_leaves false i (do_arms i s (map (fold_if_arm (typing_steps world)) arms)).state
        otherwise given));
    while_of = λ at cond body of_cond given i s. subst (at_stmt (stmts.While at cond body) i s)
        (sym (eq.fold_stmt-While (typing_steps world) at cond body))
        (is.while_of i s at cond body _ _ (of_cond (setting_of i s) false) (given (in_loop i) s));
    switch = λ at subject arms otherwise of_subject of_arms given i s.
        let judged = fold_expr (typing_steps world) subject (setting_of i s) false in
        let armed = do_cases (in_switch i) (cases_of world judged.ty) s
        (map (fold_case_arm (typing_steps world)) arms) in
        subst (at_stmt (stmts.Switch at subject arms otherwise) i s)
        (sym (eq.fold_stmt-Switch (typing_steps world) at subject arms otherwise))
        (subst (λ b. is.Leaves world i s (stmts.Switch at subject arms otherwise)
        (switch_left (cases_of world judged.ty) at judged armed.heads b
        (beside armed.left (do_otherwise true (in_switch i) armed.left.state
        (option_map (fold_block (typing_steps world)) otherwise)))))
        (sym (is_some-map (fold_block (typing_steps world)) otherwise))
        (is.switch i s at subject arms otherwise judged armed _ (of_subject (setting_of i s) false)
        (all_cases arms of_arms (in_switch i) (cases_of world judged.ty) s)
        (otherwise_leaves true (in_switch i) armed.left.state otherwise given)));
    return_of = return_leaves;
    break_of = λ at i s. subst (at_stmt (stmts.Break at) i s)
        (sym (eq.fold_stmt-Break (typing_steps world) at)) (is.break_of i s at);
    continue_of = λ at i s. subst (at_stmt (stmts.Continue at) i s)
        (sym (eq.fold_stmt-Continue (typing_steps world) at)) (is.continue_of i s at);
    plain = λ value given i s. subst (at_stmt (stmts.Plain value) i s)
        (sym (eq.fold_stmt-Plain (typing_steps world) value))
        (is.plain i s value _ (given (setting_of i s) (expects i.only s)));
    arg = λ label value given s slots args p more.
        subst (λ (f : OfArg). is.Passes world s slots
        (roll-Arg (record { label = label; value = value }) ∷ args)
        (one_passed f.label (f.value s (first_marked slots)) p))
        (sym (eq.fold_arg-roll (typing_steps world) label value))
        (is.passes_one s slots label value args _ p (given s (first_marked slots)) more);
    closure = λ at mark captures params result body given s.
        subst (λ (f : Setting → Closed). is.Closes world s
        (closure_of at mark captures params result body) (f s))
        (sym (eq.fold_closure-roll (typing_steps world) at mark captures params result body))
        (is.closes s at mark captures params result body _
        (given (in_body s.owner false) (closure_state world s captures params result)));
    link = λ op at operand given s left links j.
        subst (λ (f : OfLink). is.Links world s (infix_judged f.op f.at left (f.operand s false))
        links j
        → is.Links world s left (roll-Link (record { op = op; at = at; operand = operand }) ∷ links)
        j)
        (sym (eq.fold_link-roll (typing_steps world) op at operand))
        (is.one_link s left op at operand links _ j (given s false));
    block = λ stmts given i s.
        subst (λ (f : OfStmt). is.LeavesBlock world i s (roll-Block (record { stmts = stmts }))
        (f i s))
        (sym (eq.fold_block-roll (typing_steps world) stmts))
        (subst (λ one. is.LeavesBlock world i s (roll-Block (record { stmts = stmts }))
        (do_all (with_only i one) s (map (fold_stmt (typing_steps world)) stmts)))
        (sym (is_one-map (fold_stmt (typing_steps world)) stmts))
        (is.block i s stmts _ (all_leave stmts given (with_only i (is_one stmts)) s)));
    case_arm = λ name patterns body given i cases s arms armed.
        subst (λ (f : OfCaseArm). is.LeavesCases world i cases
        (do_case i cases s f).state arms armed
        → is.LeavesCases world i cases s
        (roll-CaseArm (record { name = name; patterns = patterns; body = body }) ∷ arms)
        (more_arms f.head (do_case i cases s f) armed))
        (sym (eq.fold_case_arm-roll (typing_steps world) name patterns body))
        (is.one_case i cases s name patterns body arms _ armed
        (given (in_branch i) (arm_state cases s (head_of name patterns))));
    if_arm = λ at cond body of_cond given i s arms l.
        subst (λ (f : OfIfArm). is.LeavesArms world i (do_arm i s f).state arms l
        → is.LeavesArms world i s (roll-IfArm (record { at = at; cond = cond; body = body }) ∷ arms)
        (beside (do_arm i s f) l))
        (sym (eq.fold_if_arm-roll (typing_steps world) at cond body))
        (is.one_arm i s at cond body arms _ _ l (of_cond (setting_of i s) false)
        (given (in_branch i) s));
  }

  pub judges : (setting : Setting) (expected : Bool) (expr : Expr)
      → is.Judges world setting expected expr (judge world expr setting expected)
  unfolding judge
  judges setting expected expr = every_expr claims cases expr setting expected

  pub leaves : (inside : Inside) (state : State) (stmt : Stmt)
      → is.Leaves world inside state stmt (leave world stmt inside state)
  unfolding leave
  leaves inside state stmt = every_stmt claims cases stmt inside state

  pub leaves_block : (inside : Inside) (state : State) (block : Block)
      → is.LeavesBlock world inside state block (leave_block world block inside state)
  unfolding leave_block
  leaves_block inside state block = every_block claims cases block inside state
