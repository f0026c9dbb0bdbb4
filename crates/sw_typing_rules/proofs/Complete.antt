-- What the relations of types say is what the function over trees gives.
use Rattle.std.proofs.Common.{◌≡◌, ℕ, Bool, true, false, List, [], ◌∷◌, Option, Some, None, is_some}
use Rattle.std.proofs.Common.{map}
use Rattle.std.proofs.Common.{option_map, ap, refl, ◌∙◌}
use Rattle.sw_tree.specs.declared.expr.Arg.{Arg}
use Rattle.sw_tree.specs.declared.expr.Closure.{Closure}
use Rattle.sw_tree.specs.declared.expr.Expr.{Expr}
use Rattle.sw_tree.specs.declared.expr.Link.{Link}
use Rattle.sw_tree.specs.declared.stmt.Block.{Block}
use Rattle.sw_tree.specs.declared.stmt.CaseArm.{CaseArm}
use Rattle.sw_tree.specs.declared.stmt.IfArm.{IfArm}
use Rattle.sw_tree.specs.declared.stmt.Stmt.{Stmt}
use Rattle.sw_types.specs.declared.shape.CaseShape.{CaseShape}
use Rattle.sw_typing_rules.specs.Calls.{Slot, slots_of}
use Rattle.sw_typing_rules.specs.Expressions.{Judged, Closed, Passed, one_passed}
use Rattle.sw_typing_rules.specs.Expressions.{first_marked, later, call_judged}
use Rattle.sw_typing_rules.specs.Expressions.{prefix_judged, infix_judged, await_judged}
use Rattle.sw_typing_rules.specs.Expressions.{fun_judged, spawn_judged}
use Rattle.sw_typing_rules.specs.Expressions.{member_judged, call_callee, method_callee, base_rows}
use Rattle.sw_typing_rules.specs.Statements.{State, Left, Head, Armed, setting_of, scoped}
use Rattle.sw_typing_rules.specs.declared.scope.Inside.{Inside}
use Rattle.sw_typing_rules.specs.Statements.{then_left, beside}
use Rattle.sw_typing_rules.specs.Statements.{more_arms, in_branch, in_loop, in_switch, in_body}
use Rattle.sw_typing_rules.specs.Statements.{is_one}
use Rattle.sw_typing_rules.specs.Statements.{with_only, marked_type, bind_left, place_type}
use Rattle.sw_typing_rules.specs.Statements.{assign_left, discard_left, arm_left, while_left}
use Rattle.sw_typing_rules.specs.Statements.{return_value}
use Rattle.sw_typing_rules.specs.Statements.{plain_left, expects, marked_result, switch_left}
use Rattle.sw_typing_rules.specs.Statements.{cases_of}
use Rattle.sw_typing_rules.specs.Statements.{written, closure_state, closed}
use Rattle.sw_typing_rules.specs.Words.{Setting}
use Rattle.sw_typing_rules.specs.Worlds.{World}
use Rattle.sw_tree.proofs.FoldEquations as eq
use Rattle.sw_tree.specs.Folds.{fold_expr, fold_stmt, fold_arg, fold_closure, fold_link, fold_block}
use Rattle.sw_tree.specs.Folds.{fold_case_arm, fold_if_arm}
use Rattle.sw_typing_rules.specs.Judges.{closure_of, head_of, arm_state, case_of}
use Rattle.sw_typing_rules.specs.Judges as is
use Rattle.sw_typing_rules.specs.Judging.{OfStmt, OfArg, OfLink, OfCaseArm}
use Rattle.sw_typing_rules.specs.Judging.{pass, link_all, do_all, do_arm, do_arms, do_otherwise}
use Rattle.sw_typing_rules.specs.Judging.{do_case, do_cases, typing_steps, judge, leave}
use Rattle.sw_typing_rules.specs.Judging.{leave_block}

pub is_one-map : {A B : Type 0} (f : A → B) (xs : List A) → is_one (map f xs) ≡ is_one xs
is_one-map f [] = refl
is_one-map f (x ∷ []) = refl
is_one-map f (x ∷ y ∷ more) = refl

pub is_some-map : {A B : Type 0} (f : A → B) (x : Option A) → is_some (option_map f x) ≡ is_some x
is_some-map f None = refl
is_some-map f (Some x) = refl

pub otherwise_some : (ends : Bool) (inside : Inside) (state : State) (body : OfStmt)
    → do_otherwise ends inside state (Some body) ≡ scoped state (body (in_branch inside) state)
otherwise_some true inside state body = refl
otherwise_some false inside state body = refl

module _ (world : World) where
  abbrev pub armed_left : Inside → ℕ → Judged → Option OfStmt → Armed → Left
  armed_left inside at judged otherwise armed =
      switch_left (cases_of world judged.ty) at judged armed.heads (is_some otherwise)
      (beside armed.left (do_otherwise true (in_switch inside) armed.left.state otherwise))

  abbrev pub switched : Inside → State → ℕ → List OfCaseArm → Option OfStmt → Judged → Left
  switched inside state at arms otherwise judged =
      armed_left inside at judged otherwise
      (do_cases (in_switch inside) (cases_of world judged.ty) state arms)

  abbrev pub beside_arms : Inside → Left → List IfArm → Left
  beside_arms inside left more =
      beside left (do_arms inside left.state (map (fold_if_arm (typing_steps world)) more))

  abbrev pub more_cases : Inside → Option (List CaseShape) → Head → Left → List CaseArm → Armed
  more_cases inside cases head left more =
      more_arms head left
      (do_cases inside cases left.state (map (fold_case_arm (typing_steps world)) more))

module _ (world : World) where
  mutual
    unfolding judge leave leave_block

    pub judged_is : (setting : Setting) (expected : Bool) (expr : Expr) (judged : Judged)
        → is.Judges world setting expected expr judged
        → fold_expr (typing_steps world) expr setting expected ≡ judged
    judged_is s m e j (is.int _ _ at value) =
        ap (λ f. f s m) (eq.fold_expr-Int (typing_steps world) at value)
    judged_is s m e j (is.bool _ _ at value) =
        ap (λ f. f s m) (eq.fold_expr-Bool (typing_steps world) at value)
    judged_is s m e j (is.word _ _ name) =
        ap (λ f. f s m) (eq.fold_expr-Use (typing_steps world) name)
    judged_is s m e j (is.me _ _ at) =
        ap (λ f. f s m) (eq.fold_expr-Me (typing_steps world) at)
    judged_is s m e j (is.member _ _ base name judged given) =
        ap (λ f. f s m) (eq.fold_expr-Member (typing_steps world) base name)
        ∙ ap (λ x. member_judged world x name) (judged_is s false base judged given)
    judged_is s m e j (is.call _ _ name args passed given) =
        ap (λ f. f s m) (eq.fold_expr-Call (typing_steps world) name args)
        ∙ ap (call_judged (call_callee world s name) name.at [])
        (passed_is s (slots_of (call_callee world s name)) args passed given)
    judged_is s m e j (is.method _ _ base name args judged passed of_base given) =
        ap (λ f. f s m) (eq.fold_expr-Method (typing_steps world) base name args)
        ∙ ap (λ x. call_judged (method_callee world x name) name.at (base_rows x)
        (pass s (slots_of (method_callee world x name)) (map (fold_arg (typing_steps world)) args)))
        (judged_is s false base judged of_base)
        ∙ ap (call_judged (method_callee world judged name) name.at (base_rows judged))
        (passed_is s (slots_of (method_callee world judged name)) args passed given)
    judged_is s m e j (is.chain _ _ first rest left _ of_first of_rest) =
        ap (λ f. f s m) (eq.fold_expr-Chain (typing_steps world) first rest)
        ∙ ap (λ x. link_all s x (map (fold_link (typing_steps world)) rest))
        (judged_is s false first left of_first)
        ∙ linked_is s left rest j of_rest
    judged_is s m e j (is.prefix _ _ op at inner judged given) =
        ap (λ f. f s m) (eq.fold_expr-Prefix (typing_steps world) op at inner)
        ∙ ap (prefix_judged op at) (judged_is s false inner judged given)
    judged_is s m e j (is.await _ _ at inner judged given) =
        ap (λ f. f s m) (eq.fold_expr-Await (typing_steps world) at inner)
        ∙ ap (await_judged at) (judged_is s false inner judged given)
    judged_is s m e j (is.fun _ _ closure closed given) =
        ap (λ f. f s m) (eq.fold_expr-Fun (typing_steps world) closure)
        ∙ ap (fun_judged m) (closed_is s closure closed given)
    judged_is s m e j (is.spawn _ _ at detached body closed given) =
        ap (λ f. f s m) (eq.fold_expr-Spawn (typing_steps world) at detached body)
        ∙ ap (spawn_judged at) (closed_is s body closed given)
    judged_is s m e j (is.yield _ _ at) =
        ap (λ f. f s m) (eq.fold_expr-Yield (typing_steps world) at)

    pub passed_is : (setting : Setting) (slots : List Slot) (args : List Arg) (passed : Passed)
        → is.Passes world setting slots args passed
        → pass setting slots (map (fold_arg (typing_steps world)) args) ≡ passed
    passed_is s slots args p (is.passes_none _ _) = refl
    passed_is s slots args p (is.passes_one _ _ label value more judged passed of_value of_more) =
        ap (λ (arg : OfArg). one_passed arg.label (arg.value s (first_marked slots))
        (pass s (later slots) (map (fold_arg (typing_steps world)) more)))
        (eq.fold_arg-roll (typing_steps world) label value)
        ∙ ap (λ x. one_passed label x
        (pass s (later slots) (map (fold_arg (typing_steps world)) more)))
        (judged_is s (first_marked slots) value judged of_value)
        ∙ ap (one_passed label judged) (passed_is s (later slots) more passed of_more)

    pub linked_is : (setting : Setting) (left : Judged) (links : List Link) (judged : Judged)
        → is.Links world setting left links judged
        → link_all setting left (map (fold_link (typing_steps world)) links) ≡ judged
    linked_is s left links j (is.no_link _ _) = refl
    linked_is s left links j (is.one_link _ _ op at operand more right _ of_right of_more) =
        ap (λ (link : OfLink). link_all s (infix_judged link.op link.at left (link.operand s false))
        (map (fold_link (typing_steps world)) more))
        (eq.fold_link-roll (typing_steps world) op at operand)
        ∙ ap (λ x. link_all s (infix_judged op at left x)
        (map (fold_link (typing_steps world)) more))
        (judged_is s false operand right of_right)
        ∙ linked_is s (infix_judged op at left right) more j of_more

    pub closed_is : (setting : Setting) (closure : Closure) (closed : Closed)
        → is.Closes world setting closure closed
        → fold_closure (typing_steps world) closure setting ≡ closed
    closed_is s closure c (is.closes _ at mark captures params result body left given) =
        ap (λ f. f s)
        (eq.fold_closure-roll (typing_steps world) at mark captures params result body)
        ∙ ap (closed world s at mark captures params)
        (block_is (in_body s.owner false) (closure_state world s captures params result) body left
        given)

    pub left_is : (inside : Inside) (state : State) (stmt : Stmt) (left : Left)
        → is.Leaves world inside state stmt left
        → fold_stmt (typing_steps world) stmt inside state ≡ left
    left_is i s x l (is.bind _ _ mutable name ty value judged given) =
        ap (λ f. f i s) (eq.fold_stmt-Bind (typing_steps world) mutable name ty value)
        ∙ ap (bind_left s mutable name (written world ty))
        (judged_is (setting_of i s) (marked_type (written world ty)) value judged given)
    left_is i s x l (is.assign _ _ at op place value placed judged of_place of_value) =
        ap (λ f. f i s) (eq.fold_stmt-Assign (typing_steps world) at op place value)
        ∙ ap (λ p. assign_left i s at op p (fold_expr (typing_steps world) value (setting_of i s)
        (marked_type (place_type i p)))) (judged_is (setting_of i s) false place placed of_place)
        ∙ ap (assign_left i s at op placed)
        (judged_is (setting_of i s) (marked_type (place_type i placed)) value judged of_value)
    left_is i s x l (is.discard _ _ at value judged given) =
        ap (λ f. f i s) (eq.fold_stmt-Discard (typing_steps world) at value)
        ∙ ap (discard_left s) (judged_is (setting_of i s) false value judged given)
    left_is i s x l (is.if_of _ _ arms otherwise left last of_arms of_otherwise) =
        ap (λ f. f i s) (eq.fold_stmt-If (typing_steps world) arms otherwise)
        ∙ ap (λ a. beside a (do_otherwise false i a.state
        (option_map (fold_block (typing_steps world)) otherwise))) (arms_is i s arms left of_arms)
        ∙ ap (beside left) (otherwise_is false i left.state otherwise last of_otherwise)
    left_is i s x l (is.while_of _ _ at cond body judged left of_cond of_body) =
        ap (λ f. f i s) (eq.fold_stmt-While (typing_steps world) at cond body)
        ∙ ap (λ c. while_left s c (fold_block (typing_steps world) body (in_loop i) s))
        (judged_is (setting_of i s) false cond judged of_cond)
        ∙ ap (while_left s judged) (block_is (in_loop i) s body left of_body)
    left_is i s x l (is.switch _ _ at subject arms otherwise judged armed last of_subject of_arms
        of_otherwise) =
        ap (λ f. f i s) (eq.fold_stmt-Switch (typing_steps world) at subject arms otherwise)
        ∙ ap (λ j. switched world i s at (map (fold_case_arm (typing_steps world)) arms)
        (option_map (fold_block (typing_steps world)) otherwise) j)
        (judged_is (setting_of i s) false subject judged of_subject)
        ∙ ap (λ a. armed_left world i at judged
        (option_map (fold_block (typing_steps world)) otherwise) a)
        (cases_is (in_switch i) (cases_of world judged.ty) s arms armed of_arms)
        ∙ ap (λ o. switch_left (cases_of world judged.ty) at judged armed.heads
        (is_some (option_map (fold_block (typing_steps world)) otherwise)) (beside armed.left o))
        (otherwise_is true (in_switch i) armed.left.state otherwise last of_otherwise)
        ∙ ap (λ b. switch_left (cases_of world judged.ty) at judged armed.heads b
        (beside armed.left last)) (is_some-map (fold_block (typing_steps world)) otherwise)
    left_is i s x l (is.return_nothing _ _ at) =
        ap (λ f. f i s) (eq.fold_stmt-Return (typing_steps world) at None)
    left_is i s x l (is.return_of _ _ at value judged given) =
        ap (λ f. f i s) (eq.fold_stmt-Return (typing_steps world) at (Some value))
        ∙ ap (return_value s.returned s at)
        (judged_is (setting_of i s) (marked_result s.returned) value judged given)
    left_is i s x l (is.break_of _ _ at) =
        ap (λ f. f i s) (eq.fold_stmt-Break (typing_steps world) at)
    left_is i s x l (is.continue_of _ _ at) =
        ap (λ f. f i s) (eq.fold_stmt-Continue (typing_steps world) at)
    left_is i s x l (is.plain _ _ value judged given) =
        ap (λ f. f i s) (eq.fold_stmt-Plain (typing_steps world) value)
        ∙ ap (plain_left i.only s)
        (judged_is (setting_of i s) (expects i.only s) value judged given)

    pub all_is : (inside : Inside) (state : State) (stmts : List Stmt) (left : Left)
        → is.LeavesAll world inside state stmts left
        → do_all inside state (map (fold_stmt (typing_steps world)) stmts) ≡ left
    all_is i s xs l (is.no_stmt _ _) = refl
    all_is i s xs l (is.one_stmt _ _ stmt stmts left last of_stmt of_stmts) =
        ap (λ x. then_left x (do_all i x.state (map (fold_stmt (typing_steps world)) stmts)))
        (left_is i s stmt left of_stmt)
        ∙ ap (then_left left) (all_is i left.state stmts last of_stmts)

    pub block_is : (inside : Inside) (state : State) (block : Block) (left : Left)
        → is.LeavesBlock world inside state block left
        → fold_block (typing_steps world) block inside state ≡ left
    block_is i s b l (is.block _ _ stmts _ given) =
        ap (λ f. f i s) (eq.fold_block-roll (typing_steps world) stmts)
        ∙ ap (λ one. do_all (with_only i one) s (map (fold_stmt (typing_steps world)) stmts))
        (is_one-map (fold_stmt (typing_steps world)) stmts)
        ∙ all_is (with_only i (is_one stmts)) s stmts l given

    pub arms_is : (inside : Inside) (state : State) (arms : List IfArm) (left : Left)
        → is.LeavesArms world inside state arms left
        → do_arms inside state (map (fold_if_arm (typing_steps world)) arms) ≡ left
    arms_is i s arms l (is.no_arm _ _) = refl
    arms_is i s arms l (is.one_arm _ _ at cond body more judged left last of_cond of_body of_more) =
        ap (λ a. beside (do_arm i s a) (do_arms i (do_arm i s a).state
        (map (fold_if_arm (typing_steps world)) more)))
        (eq.fold_if_arm-roll (typing_steps world) at cond body)
        ∙ ap (λ c. beside_arms world i (arm_left s c (fold_block (typing_steps world) body
        (in_branch i) s)) more) (judged_is (setting_of i s) false cond judged of_cond)
        ∙ ap (λ b. beside_arms world i (arm_left s judged b) more)
        (block_is (in_branch i) s body left of_body)
        ∙ ap (beside (arm_left s judged left))
        (arms_is i (arm_left s judged left).state more last of_more)

    pub otherwise_is : (ends : Bool) (inside : Inside) (state : State) (otherwise : Option Block)
        (left : Left) → is.LeavesOtherwise world ends inside state otherwise left
        → do_otherwise ends inside state (option_map (fold_block (typing_steps world)) otherwise)
        ≡ left
    otherwise_is ends i s o l (is.absent _ _) = refl
    otherwise_is ends i s o l (is.absent_default _ _) = refl
    otherwise_is ends i s o l (is.present _ _ _ body left given) =
        otherwise_some ends i s (fold_block (typing_steps world) body)
        ∙ ap (scoped s) (block_is (in_branch i) s body left given)

    pub cases_is : (inside : Inside) (cases : Option (List CaseShape)) (state : State)
        (arms : List CaseArm) (armed : Armed)
        → is.LeavesCases world inside cases state arms armed
        → do_cases inside cases state (map (fold_case_arm (typing_steps world)) arms) ≡ armed
    cases_is i cases s arms a (is.no_case _ _ _) = refl
    cases_is i cases s arms a
        (is.one_case _ _ _ name patterns body more left armed of_body of_more) =
        ap (λ k. more_arms k.head (do_case i cases s k) (do_cases i cases
        (do_case i cases s k).state
        (map (fold_case_arm (typing_steps world)) more)))
        (eq.fold_case_arm-roll (typing_steps world) name patterns body)
        ∙ ap (λ b. more_cases world i cases (head_of name patterns)
        (case_of cases s (head_of name patterns) b) more)
        (block_is (in_branch i) (arm_state cases s (head_of name patterns)) body left of_body)
        ∙ ap (more_arms (head_of name patterns) (case_of cases s (head_of name patterns) left))
        (cases_is i cases (case_of cases s (head_of name patterns) left).state more armed of_more)
