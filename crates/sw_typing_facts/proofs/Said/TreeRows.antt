-- How often a thing is said of a key inside a tree, and how often the key is that of a word before
-- a `.` that names an enum: as often together as the key stands in the tree, at most.
use Rattle.std.proofs.Common.{◌≡◌, ℕ, ◌+◌, ◌≤◌, Bool, true, false, List, [], ◌++◌, Option, Some}
use Rattle.std.proofs.Common.{arith, is_some, ◌||◌, refl}
use Rattle.sw_tree.specs.declared.expr.Arg.{Arg, roll-Arg}
use Rattle.sw_tree.specs.declared.expr.Closure.{Closure}
use Rattle.sw_tree.specs.declared.expr.Expr.{Expr}
use Rattle.sw_tree.specs.declared.expr.Link.{Link, roll-Link}
use Rattle.sw_tree.specs.declared.stmt.Block.{Block}
use Rattle.sw_tree.specs.declared.stmt.CaseArm.{CaseArm, roll-CaseArm}
use Rattle.sw_tree.specs.declared.stmt.IfArm.{IfArm, roll-IfArm}
use Rattle.sw_tree.specs.declared.stmt.Stmt.{Stmt}
use Rattle.sw_tree.proofs.Counting.{Weight, count, hits, in_all, in_option, in_all-append}
use Rattle.sw_tree.proofs.Counting.{in_all-cons, in_all-nil}
use Rattle.sw_tree.proofs.KeyCounts as keys
use Rattle.sw_tree.proofs.KeyCounts.{in_expr, in_stmt, in_arg, in_closure, in_link, in_block}
use Rattle.sw_tree.proofs.KeyCounts.{in_case_arm, in_if_arm}
use Rattle.sw_types.specs.declared.shape.CaseShape.{CaseShape}
use Rattle.sw_types.specs.declared.ty.Ty.TheVariants as types
use Rattle.sw_typing_rules.specs.Calls.{Slot, slots_of}
use Rattle.sw_typing_rules.specs.Expressions as exps
use Rattle.sw_typing_rules.specs.Expressions.{Judged, Closed, Passed, infix_judged, call_callee}
use Rattle.sw_typing_rules.specs.Expressions.{method_callee, base_rows, later, first_marked}
use Rattle.sw_typing_rules.specs.Judges as is
use Rattle.sw_typing_rules.specs.Judges.{head_of, arm_state, case_of}
use Rattle.sw_typing_rules.specs.Operators as operators
use Rattle.sw_typing_rules.specs.Statements as left
use Rattle.sw_typing_rules.specs.Statements.{State, Left, Armed, setting_of, in_branch, in_loop}
use Rattle.sw_typing_rules.specs.Statements.{in_switch, in_body, with_only, is_one, written}
use Rattle.sw_typing_rules.specs.Statements.{marked_type, place_type, marked_result, expects}
use Rattle.sw_typing_rules.specs.Statements.{cases_of, arm_payload, closure_state, beside}
use Rattle.sw_typing_rules.specs.Words as senses
use Rattle.sw_typing_rules.specs.Words.{Setting}
use Rattle.sw_typing_rules.specs.Worlds.{World}
use Rattle.sw_typing_rules.specs.declared.row.Row.{Row}
use Rattle.sw_typing_rules.specs.declared.scope.Inside.{Inside}
use Rattle.sw_typing_rules.specs.declared.verdict.Verdict.TheVariants.{Has}
use Rattle.sw_typing_facts.specs.EnumWords as words
use Rattle.sw_typing_facts.proofs.Said.Counts as rows
use Rattle.sw_typing_facts.proofs.Said.Counts.{Counts}
use Rattle.sw_typing_facts.proofs.Said.EnumBases.{base_count, enum_key, member_count, none}

-- the weight of an item that is there
in_some : {X : Type 0} (w : X → Weight) (x : X) (k : ℕ) → in_option w (Some x) k ≡ w x k
unfolding in_option
in_some w x k = refl

module _ (w : Row → Weight) (counts : Counts w) (world : World) where
  mutual
    unfolding words.in_expr

    -- an expression
    pub expr_rows : (s : Setting) (m : Bool) (e : Expr) (j : Judged)
        (d : is.Judges world s m e j) (k : ℕ)
        → in_all w j.rows k + count (words.in_expr world s m e j d) k ≤ in_expr e k
    expr_rows s m e j (is.int _ _ at value) k =
        omega (
          arith,
          rows.verdict w counts at (Has types.Int) k,
          keys.in_expr-Int at value k,
          none k,
        )
    expr_rows s m e j (is.bool _ _ at value) k =
        omega (
          arith,
          rows.verdict w counts at (Has types.Bool) k,
          keys.in_expr-Bool at value k,
          none k,
        )
    expr_rows s m e j (is.word _ _ name) k =
        let sense = senses.sense world s name.id in
        omega (
          arith,
          rows.meant w counts name.at (senses.word_meaning sense) (senses.word_types world sense)
              [] k,
          in_all-nil w k,
          keys.in_expr-Use name k,
          none k,
        )
    expr_rows s m e j (is.me _ _ at) k =
        omega (
          arith,
          rows.verdict w counts at (senses.me_types s.owner) k,
          keys.in_expr-Me at k,
          none k,
        )
    expr_rows s m e j (is.member _ _ base name judged d) k =
        omega (
          arith,
          member_count w counts world judged judged.enum name
              (words.in_expr world s false base judged d) k
              (in_expr base k) (expr_rows s false base judged d k)
              (λ shape is. enum_key world s false base judged d shape is k) refl,
          keys.in_expr-Member base name k,
        )
    expr_rows s m e j (is.call _ _ name args passed d) k =
        let callee = call_callee world s name in
        omega (
          arith,
          rows.call w counts callee name.at [] passed k,
          in_all-nil w k,
          args_rows s (slots_of callee) args passed d k,
          keys.in_expr-Call name args k,
        )
    expr_rows s m e j (is.method _ _ base name args judged passed of_base d) k =
        let callee = method_callee world judged name in
        omega (
          arith,
          rows.call w counts callee name.at (base_rows judged) passed k,
          base_count w counts world judged judged.enum
              (words.in_expr world s false base judged of_base) k
              (in_expr base k) (expr_rows s false base judged of_base k)
              (λ shape is. enum_key world s false base judged of_base shape is k) refl,
          args_rows s (slots_of callee) args passed d k,
          in_all-append hits
              (words.in_base judged (words.in_expr world s false base judged of_base))
              (words.in_args world s (slots_of callee) args passed d) k,
          keys.in_expr-Method base name args k,
        )
    expr_rows s m e j (is.chain _ _ first rest l _ of_first d) k =
        omega (
          arith,
          links_rows s l rest j d k,
          expr_rows s false first l of_first k,
          in_all-append hits (words.in_expr world s false first l of_first)
              (words.in_links world s l rest j d) k,
          keys.in_expr-Chain first rest k,
        )
    expr_rows s m e j (is.prefix _ _ op at inner judged d) k =
        omega (
          arith,
          rows.noted w counts at (operators.prefix_types op judged.ty) judged.rows k,
          expr_rows s false inner judged d k,
          keys.in_expr-Prefix op at inner k,
        )
    expr_rows s m e j (is.await _ _ at inner judged d) k =
        omega (
          arith,
          rows.noted w counts at (senses.var_types judged.ty) judged.rows k,
          expr_rows s false inner judged d k,
          keys.in_expr-Await at inner k,
        )
    expr_rows s m e j (is.fun _ _ closure closed d) k =
        omega (
          arith,
          rows.noted w counts closed.at
              (exps.fun_types (closed.marked || m) closed.params closed.result) closed.rows k,
          closure_rows s closure closed d k,
          keys.in_expr-Fun closure k,
        )
    expr_rows s m e j (is.spawn _ _ at detached body closed d) k =
        omega (
          arith,
          rows.noted w counts at (exps.task_types closed.result) closed.rows k,
          closure_rows s body closed d k,
          keys.in_expr-Spawn at detached body k,
        )
    expr_rows s m e j (is.yield _ _ at) k =
        omega (
          arith,
          rows.verdict w counts at (Has types.Unit) k,
          keys.in_expr-Yield at k,
          none k,
        )

    -- the arguments of a call
    args_rows : (s : Setting) (slots : List Slot) (args : List Arg) (p : Passed)
        (d : is.Passes world s slots args p) (k : ℕ)
        → in_all w p.rows k + count (words.in_args world s slots args p d) k ≤ in_all in_arg args k
    args_rows s slots args p (is.passes_none _ _) k =
        omega (arith, in_all-nil w k, in_all-nil in_arg k, none k)
    args_rows s slots args p (is.passes_one _ _ label value more judged passed d rest) k =
        let arg = roll-Arg (record { label = label; value = value }) in
        omega (
          arith,
          in_all-append w judged.rows passed.rows k,
          expr_rows s (first_marked slots) value judged d k,
          args_rows s (later slots) more passed rest k,
          in_all-append hits (words.in_expr world s (first_marked slots) value judged d)
              (words.in_args world s (later slots) more passed rest) k,
          in_all-cons in_arg arg more k,
          keys.in_arg-roll label value k,
        )

    -- the operators of a chain, after what stands before them
    links_rows : (s : Setting) (l : Judged) (links : List Link) (j : Judged)
        (d : is.Links world s l links j) (k : ℕ)
        → in_all w j.rows k + count (words.in_links world s l links j d) k
        ≤ in_all w l.rows k + in_all in_link links k
    links_rows s l links j (is.no_link _ _) k = omega (arith, in_all-nil in_link k, none k)
    links_rows s l links j (is.one_link _ _ op at operand more right _ d rest) k =
        let link = roll-Link (record { op = op; at = at; operand = operand }) in
        omega (
          arith,
          links_rows s (infix_judged op at l right) more j rest k,
          rows.noted w counts at (operators.infix_types op l.ty right.ty) (l.rows ++ right.rows) k,
          in_all-append w l.rows right.rows k,
          expr_rows s false operand right d k,
          in_all-append hits (words.in_expr world s false operand right d)
              (words.in_links world s (infix_judged op at l right) more j rest) k,
          in_all-cons in_link link more k,
          keys.in_link-roll op at operand k,
        )

    -- a closure, with its own key
    closure_rows : (s : Setting) (closure : Closure) (c : Closed) (d : is.Closes world s closure c)
        (k : ℕ)
        → in_all w c.rows k + hits c.at k + count (words.in_closure world s closure c d) k
        ≤ in_closure closure k
    closure_rows s closure c (is.closes _ at mark captures params result body l d) k =
        omega (
          arith,
          rows.closed w counts world s at mark captures params l k,
          block_rows (in_body s.owner false) (closure_state world s captures params result) body l
              d k,
          keys.in_closure-roll at mark captures params result body k,
        )

    -- a statement
    stmt_rows : (i : Inside) (s : State) (x : Stmt) (l : Left) (d : is.Leaves world i s x l)
        (k : ℕ) → in_all w l.rows k + count (words.in_stmt world i s x l d) k ≤ in_stmt x k
    stmt_rows i s x l (is.bind _ _ mutable name ty value judged d) k =
        omega (
          arith,
          rows.bind w counts s mutable name (written world ty) judged k,
          expr_rows (setting_of i s) (marked_type (written world ty)) value judged d k,
          keys.in_stmt-Bind mutable name ty value k,
        )
    stmt_rows i s x l (is.assign _ _ at op place value placed judged of_place d) k =
        omega (
          arith,
          rows.assign w counts i s at op placed judged k,
          expr_rows (setting_of i s) false place placed of_place k,
          expr_rows (setting_of i s) (marked_type (place_type i placed)) value judged d k,
          in_all-append hits (words.in_expr world (setting_of i s) false place placed of_place)
              (words.in_expr world (setting_of i s) (marked_type (place_type i placed)) value judged
              d) k,
          keys.in_stmt-Assign at op place value k,
        )
    stmt_rows i s x l (is.discard _ _ at value judged d) k =
        omega (
          arith,
          expr_rows (setting_of i s) false value judged d k,
          keys.in_stmt-Discard at value k,
        )
    stmt_rows i s x l (is.if_of _ _ arms otherwise a last of_arms d) k =
        omega (
          arith,
          in_all-append w a.rows last.rows k,
          arms_rows i s arms a of_arms k,
          otherwise_rows false i a.state otherwise last d k,
          in_all-append hits (words.in_arms world i s arms a of_arms)
              (words.in_otherwise world false i a.state otherwise last d) k,
          keys.in_stmt-If arms otherwise k,
        )
    stmt_rows i s x l (is.while_of _ _ at cond block judged inner of_cond d) k =
        omega (
          arith,
          in_all-append w (left.condition_rows judged) inner.rows k,
          rows.condition w counts judged k,
          expr_rows (setting_of i s) false cond judged of_cond k,
          block_rows (in_loop i) s block inner d k,
          in_all-append hits (words.in_expr world (setting_of i s) false cond judged of_cond)
              (words.in_block world (in_loop i) s block inner d) k,
          keys.in_stmt-While at cond block k,
        )
    stmt_rows i s x l
        (is.switch _ _ at subject arms otherwise judged armed last of_subject of_arms d) k =
        omega (
          arith,
          rows.switch w counts (cases_of world judged.ty) at judged armed.heads (is_some otherwise)
              (beside armed.left last) k,
          in_all-append w armed.left.rows last.rows k,
          expr_rows (setting_of i s) false subject judged of_subject k,
          cases_rows (in_switch i) (cases_of world judged.ty) s arms armed of_arms k,
          otherwise_rows true (in_switch i) armed.left.state otherwise last d k,
          in_all-append hits (words.in_expr world (setting_of i s) false subject judged of_subject
              ++ words.in_cases world (in_switch i) (cases_of world judged.ty) s arms armed of_arms)
              (words.in_otherwise world true (in_switch i) armed.left.state otherwise last d) k,
          in_all-append hits (words.in_expr world (setting_of i s) false subject judged of_subject)
              (words.in_cases world (in_switch i) (cases_of world judged.ty) s arms armed of_arms)
              k,
          keys.in_stmt-Switch at subject arms otherwise k,
        )
    stmt_rows i s x l (is.return_nothing _ _ at) k =
        omega (arith, rows.void w counts s.returned s at k, none k)
    stmt_rows i s x l (is.return_of _ _ at value judged d) k =
        omega (
          arith,
          rows.given w counts s.returned s at judged k,
          expr_rows (setting_of i s) (marked_result s.returned) value judged d k,
          keys.in_stmt-Return at (Some value) k,
          in_some in_expr value k,
        )
    stmt_rows i s x l (is.break_of _ _ at) k =
        omega (arith, rows.leaving w counts i.leaves at k, none k)
    stmt_rows i s x l (is.continue_of _ _ at) k =
        omega (arith, rows.leaving w counts i.loops at k, none k)
    stmt_rows i s x l (is.plain _ _ value judged d) k =
        omega (
          arith,
          rows.plain w counts i.only s judged k,
          expr_rows (setting_of i s) (expects i.only s) value judged d k,
          keys.in_stmt-Plain value k,
        )

    -- statements in order
    stmts_rows : (i : Inside) (s : State) (xs : List Stmt) (l : Left)
        (d : is.LeavesAll world i s xs l) (k : ℕ)
        → in_all w l.rows k + count (words.in_stmts world i s xs l d) k ≤ in_all in_stmt xs k
    stmts_rows i s xs l (is.no_stmt _ _) k = omega (arith, in_all-nil w k, none k)
    stmts_rows i s xs l (is.one_stmt _ _ stmt stmts one last d rest) k =
        omega (
          arith,
          in_all-append w one.rows last.rows k,
          stmt_rows i s stmt one d k,
          stmts_rows i one.state stmts last rest k,
          in_all-append hits (words.in_stmt world i s stmt one d)
              (words.in_stmts world i one.state stmts last rest) k,
          in_all-cons in_stmt stmt stmts k,
        )

    -- a block
    pub block_rows : (i : Inside) (s : State) (b : Block) (l : Left)
        (d : is.LeavesBlock world i s b l) (k : ℕ)
        → in_all w l.rows k + count (words.in_block world i s b l d) k ≤ in_block b k
    block_rows i s b l (is.block _ _ stmts _ d) k =
        omega (
          arith,
          stmts_rows (with_only i (is_one stmts)) s stmts l d k,
          keys.in_block-roll stmts k,
        )

    -- the arms of an `if`
    arms_rows : (i : Inside) (s : State) (arms : List IfArm) (l : Left)
        (d : is.LeavesArms world i s arms l) (k : ℕ)
        → in_all w l.rows k + count (words.in_arms world i s arms l d) k ≤ in_all in_if_arm arms k
    arms_rows i s arms l (is.no_arm _ _) k = omega (arith, in_all-nil w k, none k)
    arms_rows i s arms l (is.one_arm _ _ at cond block more judged inner last of_cond d rest) k =
        let one = left.arm_left s judged inner in
        let arm = roll-IfArm (record { at = at; cond = cond; body = block }) in
        omega (
          arith,
          in_all-append w one.rows last.rows k,
          in_all-append w (left.condition_rows judged) inner.rows k,
          rows.condition w counts judged k,
          expr_rows (setting_of i s) false cond judged of_cond k,
          block_rows (in_branch i) s block inner d k,
          arms_rows i one.state more last rest k,
          in_all-append hits (words.in_expr world (setting_of i s) false cond judged of_cond
              ++ words.in_block world (in_branch i) s block inner d)
              (words.in_arms world i one.state more last rest) k,
          in_all-append hits (words.in_expr world (setting_of i s) false cond judged of_cond)
              (words.in_block world (in_branch i) s block inner d) k,
          in_all-cons in_if_arm arm more k,
          keys.in_if_arm-roll at cond block k,
        )

    -- an `else` or a `default`
    otherwise_rows : (ends : Bool) (i : Inside) (s : State) (o : Option Block) (l : Left)
        (d : is.LeavesOtherwise world ends i s o l) (k : ℕ)
        → in_all w l.rows k + count (words.in_otherwise world ends i s o l d) k
        ≤ in_option in_block o k
    otherwise_rows ends i s o l (is.absent _ _) k = omega (arith, in_all-nil w k, none k)
    otherwise_rows ends i s o l (is.absent_default _ _) k =
        omega (arith, in_all-nil w k, none k)
    otherwise_rows ends i s o l (is.present _ _ _ block inner d) k =
        omega (arith, block_rows (in_branch i) s block inner d k, in_some in_block block k)

    -- the arms of a `switch`
    cases_rows : (i : Inside) (cases : Option (List CaseShape)) (s : State) (arms : List CaseArm)
        (a : Armed) (d : is.LeavesCases world i cases s arms a) (k : ℕ)
        → in_all w a.left.rows k + count (words.in_cases world i cases s arms a d) k
        ≤ in_all in_case_arm arms k
    cases_rows i cases s arms a (is.no_case _ _ _) k = omega (arith, in_all-nil w k, none k)
    cases_rows i cases s arms a
        (is.one_case _ _ _ name patterns block more inner armed d rest) k =
        let head = head_of name patterns in
        let own = left.vars_rows (left.arm_vars head (arm_payload cases name.id)) in
        let one = case_of cases s head inner in
        let arm = roll-CaseArm (record { name = name; patterns = patterns; body = block }) in
        omega (
          arith,
          in_all-append w one.rows armed.left.rows k,
          in_all-append w own inner.rows k,
          rows.arm w counts patterns name.id (arm_payload cases name.id) k,
          block_rows (in_branch i) (arm_state cases s head) block inner d k,
          cases_rows i cases one.state more armed rest k,
          in_all-append hits (words.in_block world (in_branch i) (arm_state cases s head) block
              inner d) (words.in_cases world i cases one.state more armed rest) k,
          in_all-cons in_case_arm arm more k,
          keys.in_case_arm-roll name patterns block k,
        )
