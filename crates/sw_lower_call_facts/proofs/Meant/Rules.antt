-- The functions that are meant in a program are those of its top level and methods.
use Rattle.std.proofs.Common.{ℕ, Bool, true, false, List, [], ◌∷◌, ◌++◌, Option, Some, None}
use Rattle.std.proofs.Common.{Contains, flat_map, map, if◌then◌else◌, not, ◌&&◌}
use Rattle.std.proofs.Common.{is_some}
use Rattle.std.proofs.lemmas.List.Elements.{All-contains, All-from_recursion}
use Rattle.sw_tree.specs.declared.decl.Decl.{Decl}
use Rattle.sw_tree.specs.declared.expr.Arg.{Arg}
use Rattle.sw_tree.specs.declared.expr.Closure.{Closure}
use Rattle.sw_tree.specs.declared.expr.ClosureParam.{ClosureParam}
use Rattle.sw_tree.specs.declared.expr.Expr.{Expr}
use Rattle.sw_tree.specs.declared.expr.Link.{Link}
use Rattle.sw_tree.specs.declared.name.Name.{Name}
use Rattle.sw_tree.specs.declared.operator.AssignOp.{AssignOp}
use Rattle.sw_tree.specs.declared.stmt.Block.{Block}
use Rattle.sw_tree.specs.declared.stmt.CaseArm.{CaseArm}
use Rattle.sw_tree.specs.declared.stmt.IfArm.{IfArm}
use Rattle.sw_tree.specs.declared.stmt.Stmt.{Stmt}
use Rattle.sw_types.specs.Accepts.{is_marked}
use Rattle.sw_types.specs.declared.shape.CaseShape.{CaseShape}
use Rattle.sw_types.specs.declared.ty.Ty.{Ty}
use Rattle.sw_typing_rules.specs.Calls as calls
use Rattle.sw_typing_rules.specs.Calls.{Callee, Slot, Takes, Untyped, Prints, Uncallable}
use Rattle.sw_typing_rules.specs.Calls.{slots_of, callee_meaning}
use Rattle.sw_typing_rules.specs.Expressions as exps
use Rattle.sw_typing_rules.specs.Expressions.{Judged, Closed, Passed, call_judged, infix_judged}
use Rattle.sw_typing_rules.specs.Expressions.{call_callee, method_callee, base_rows, later}
use Rattle.sw_typing_rules.specs.Expressions.{first_marked}
use Rattle.sw_typing_rules.specs.Judges as is
use Rattle.sw_typing_rules.specs.Judges.{head_of, arm_state, case_of}
use Rattle.sw_typing_rules.specs.Operators as operators
use Rattle.sw_typing_rules.specs.Programs.{Says, of_body, of_value, params_of, body_noted}
use Rattle.sw_typing_rules.specs.Programs.{body_state, value_noted, value_setting}
use Rattle.sw_typing_rules.specs.Statements as left
use Rattle.sw_typing_rules.specs.Statements.{State, Left, Armed, setting_of, in_branch, in_loop}
use Rattle.sw_typing_rules.specs.Statements.{in_switch, in_body, with_only, is_one, written}
use Rattle.sw_typing_rules.specs.Statements.{marked_type, place_type, marked_result, expects}
use Rattle.sw_typing_rules.specs.Statements.{cases_of, arm_payload, closure_state, beside}
use Rattle.sw_typing_rules.specs.Verdicts.{meaning_rows, ill_if, is_unit}
use Rattle.sw_typing_rules.specs.Words as senses
use Rattle.sw_typing_rules.specs.Words.{Setting, Sense, Variable, OwnProperty, OwnMethod, OwnCase}
use Rattle.sw_typing_rules.specs.Words.{Top, Printing, Nothing}
use Rattle.sw_typing_rules.specs.Worlds.{World}
use Rattle.sw_typing_rules.specs.declared.row.Meaning.TheVariants as means
use Rattle.sw_typing_rules.specs.declared.row.Row.{Row}
use Rattle.sw_typing_rules.specs.declared.row.Row.TheVariants.{Ill}
use Rattle.sw_typing_rules.specs.declared.scope.Inside.{Inside}
use Rattle.sw_typing_rules.specs.declared.scope.Returned.{Returned}
use Rattle.sw_typing_rules.specs.declared.scope.Returned.TheVariants.{Wants, Open, Gives}
use Rattle.sw_typing_rules.specs.declared.scope.Var.{Var}
use Rattle.sw_typing_rules.specs.declared.verdict.Verdict.TheVariants.{Held}
use Rattle.sw_typing_rules.proofs.Doubts.{decided_keep}
use Rattle.sw_typing_rules.specs.Doubts.{bare_in}
use Rattle.sw_lower_call_facts.specs.Meant.{RowSo}
use Rattle.sw_lower_call_facts.proofs.Meant.Noted.{RowsSo, call, doubted, each, ill, join}
use Rattle.sw_lower_call_facts.proofs.Meant.Noted.{meanings, noted, refused, rows_by, variables}
use Rattle.sw_lower_call_facts.proofs.Meant.Noted.{vars}
use Rattle.sw_lower_call_facts.proofs.Meant.Callees.{case_meant, found_meant, method_called}
use Rattle.sw_lower_call_facts.proofs.Meant.Callees.{word_called, word_meant}

module _ (world : World) where
  -- statements

  bind : (state : State) (mutable : Bool) (name : Name) (ty : Option Ty) (value : Judged)
      → RowsSo world value.rows → RowsSo world (left.bind_left state mutable name ty value).rows
  bind state mutable name None value are =
      join world value.rows _ are (variables world name.at value.ty)
  bind state mutable name (Some ty) value are =
      join world value.rows _ are
      (join world (left.refused name.at value.ty ty) _ (refused world name.at value.ty ty)
      (variables world name.at (Some ty)))

  misassigned : (op : AssignOp) (at : ℕ) (place value : Option Ty)
      → RowsSo world (left.misassigned op at place value)
  misassigned op at None value = tt
  misassigned op at (Some place) None = tt
  misassigned op at (Some place) (Some value) =
      ill world (not (operators.assigns op place value)) at 402

  assign : (inside : Inside) (state : State) (at : ℕ) (op : AssignOp) (place value : Judged)
      → RowsSo world place.rows → RowsSo world value.rows
      → RowsSo world (left.assign_left inside state at op place value).rows
  assign inside state at op place value first second =
      join world place.rows _ first
      (join world (ill_if (left.fixed inside place) place.key 404) _
      (ill world (left.fixed inside place) place.key 404)
      (join world value.rows _ second (misassigned op at (place_type inside place) value.ty)))

  condition : (cond : Judged) → RowsSo world cond.rows → RowsSo world (left.condition_rows cond)
  condition cond are =
      join world cond.rows _ are
      (ill world (is_some cond.ty && not (left.is_condition cond.ty)) cond.key 402)

  void : (returned : Returned) (state : State) (at : ℕ)
      → RowsSo world (left.return_void returned state at).rows
  void (Wants ty) state at = ill world (not (is_unit ty)) at 402
  void (Open places) state at = tt
  void (Gives None) state at = tt
  void (Gives (Some ty)) state at = ill world (not (is_unit ty)) at 402

  accepted : (state : State) (at : ℕ) (value : Judged) (ty : Ty) → RowsSo world value.rows
      → RowsSo world (left.accepted_left state at value ty).rows
  accepted state at value ty are = join world value.rows _ are (refused world at value.ty ty)

  ill_each : (places : List ℕ) → RowsSo world (map (λ at. Ill at 402 None) places)
  ill_each [] = tt
  ill_each (at ∷ places) = (tt, ill_each places)

  unless : (test : Bool) (rows : List Row) → RowsSo world rows
      → RowsSo world (if test then [] else rows)
  unless true rows are = tt
  unless false rows are = are

  bare : (places : List ℕ) (ty : Option Ty) → RowsSo world (left.bare_rows places ty)
  bare places None = tt
  bare places (Some ty) = unless (is_unit ty) (map (λ at. Ill at 402 None) places) (ill_each places)

  first_value : (state : State) (places : List ℕ) (value : Judged) → RowsSo world value.rows
      → RowsSo world (left.first_value_left state places value).rows
  first_value state places value are = join world value.rows _ are (bare places value.ty)

  value_of : (returned : Returned) (state : State) (at : ℕ) (value : Judged)
      → RowsSo world value.rows
      → RowsSo world (left.return_value returned state at value).rows
  value_of (Wants ty) state at value are = accepted state at value ty are
  value_of (Open places) state at value are = first_value state places value are
  value_of (Gives None) state at value are = are
  value_of (Gives (Some ty)) state at value are = accepted state at value ty are

  unit : (test : Bool) (state : State) (value : Judged) (ty : Ty) → RowsSo world value.rows
      → RowsSo world (if test then left.discard_left state value
      else left.accepted_left state value.key value ty).rows
  unit true state value ty are = are
  unit false state value ty are = accepted state value.key value ty are

  result : (returned : Returned) (state : State) (value : Judged) → RowsSo world value.rows
      → RowsSo world (left.result_left returned state value).rows
  result (Wants ty) state value are = unit (is_unit ty) state value ty are
  result (Open places) state value are = first_value state places value are
  result (Gives ty) state value are = are

  plain : (only : Bool) (state : State) (value : Judged) → RowsSo world value.rows
      → RowsSo world (left.plain_left only state value).rows
  plain false state value are = are
  plain true state value are = result state.returned state value are

  switch : (cases : Option (List CaseShape)) (at : ℕ) (subject : Judged) (heads : List left.Head)
      (otherwise : Bool) (inner : Left) → RowsSo world subject.rows → RowsSo world inner.rows
      → RowsSo world (left.switch_left cases at subject heads otherwise inner).rows
  switch cases at subject heads otherwise inner first second =
      join world subject.rows _ first
      (join world inner.rows _ second (doubted world _ at 405 (bare_in at inner.state.returned)))

  body : (at : ℕ) (l : Left) → RowsSo world l.rows → RowsSo world (left.body_rows at l)
  body at l are = join world l.rows _ are (ill world (left.lacks_result l) at 406)

  capture : (name : Name) (one : Option Var) → RowsSo world (left.capture_rows name one)
  capture name None = (tt, tt)
  capture name (Some one) =
      join world (meaning_rows name.at (Some (means.Local one.at))) _
      (meanings world name.at (Some (means.Local one.at)) tt) (variables world name.at one.ty)

  value_member : (base : Judged) (ty : Option Ty) (name : Name) → RowsSo world base.rows
      → RowsSo world (exps.value_member world base ty name).rows
  value_member base None name are = noted world name.at Held base.rows are
  value_member base (Some ty) name are =
      let found = senses.found_in world ty name.id in
      join world base.rows _ are (noted world name.at (senses.found_types world found)
      (meaning_rows name.at (senses.found_meaning found))
      (meanings world name.at (senses.found_meaning found) (found_meant world found)))

  member_by : (base : Judged) (enum : Option ℕ) (name : Name) → RowsSo world base.rows
      → RowsSo world (exps.member_by world base enum name).rows
  member_by base None name are = value_member base base.ty name are
  member_by base (Some shape) name are =
      let number = calls.case_in world shape name.id in
      noted world name.at (calls.enum_types world shape number)
      (meaning_rows name.at (calls.case_meaning shape number))
      (meanings world name.at (calls.case_meaning shape number) (case_meant world shape number))

  closed : (s : Setting) (at : ℕ) (mark : Option Name) (captures : List Name)
      (params : List ClosureParam) (l : Left) → RowsSo world l.rows
      → RowsSo world (left.closed world s at mark captures params l).rows
  closed s at mark captures params l are =
      join world (flat_map (λ (name : Name). left.capture_rows name (senses.local s.vars name.id))
      captures) _
      (each world (λ (name : Name). left.capture_rows name (senses.local s.vars name.id))
      (λ name. capture name (senses.local s.vars name.id)) captures)
      (join world (left.vars_rows (map (left.param_var world) params)) _
      (vars world (map (left.param_var world) params))
      (decided_keep (RowSo world) (λ _ _ _ _. (tt, tt)) _ (left.body_rows at l) (body at l are)))

  mutual
    meant_expr : (s : Setting) (m : Bool) (e : Expr) (j : Judged) → is.Judges world s m e j
        → RowsSo world j.rows
    meant_expr s m e j (is.int _ _ at value) = (tt, tt)
    meant_expr s m e j (is.bool _ _ at value) = (tt, tt)
    meant_expr s m e j (is.word _ _ name) =
        let sense = senses.sense world s name.id in
        noted world name.at (senses.word_types world sense)
        (meaning_rows name.at (senses.word_meaning sense))
        (meanings world name.at (senses.word_meaning sense) (word_meant world sense))
    meant_expr s m e j (is.me _ _ at) = noted world at (senses.me_types s.owner) [] tt
    meant_expr s m e j (is.member _ _ base name judged d) =
        member_by judged judged.enum name (meant_expr s false base judged d)
    meant_expr s m e j (is.call _ _ name args passed d) =
        call world (call_callee world s name) name.at [] passed (word_called world s name.id) tt
        (meant_args s (slots_of (call_callee world s name)) args passed d)
    meant_expr s m e j (is.method _ _ base name args judged passed of_base d) =
        call world (method_callee world judged name) name.at (base_rows judged) passed
        (method_called world judged.enum judged.ty name.id)
        (rows_by world judged.enum judged.rows (meant_expr s false base judged of_base))
        (meant_args s (slots_of (method_callee world judged name)) args passed d)
    meant_expr s m e j (is.chain _ _ first rest l _ of_first d) =
        meant_links s l rest j d (meant_expr s false first l of_first)
    meant_expr s m e j (is.prefix _ _ op at inner judged d) =
        noted world at (operators.prefix_types op judged.ty) judged.rows
        (meant_expr s false inner judged d)
    meant_expr s m e j (is.await _ _ at inner judged d) =
        noted world at (senses.var_types judged.ty) judged.rows (meant_expr s false inner judged d)
    meant_expr s m e j (is.fun _ _ closure closed d) =
        noted world closed.at _ closed.rows (meant_closure s closure closed d)
    meant_expr s m e j (is.spawn _ _ at detached body closed d) =
        noted world at (exps.task_types closed.result) closed.rows (meant_closure s body closed d)
    meant_expr s m e j (is.yield _ _ at) = (tt, tt)

    meant_args : (s : Setting) (slots : List Slot) (args : List Arg) (p : Passed)
        → is.Passes world s slots args p → RowsSo world p.rows
    meant_args s slots args p (is.passes_none _ _) = tt
    meant_args s slots args p (is.passes_one _ _ label value more judged passed d rest) =
        join world judged.rows passed.rows (meant_expr s (first_marked slots) value judged d)
        (meant_args s (later slots) more passed rest)

    meant_links : (s : Setting) (l : Judged) (links : List Link) (j : Judged)
        → is.Links world s l links j → RowsSo world l.rows → RowsSo world j.rows
    meant_links s l links j (is.no_link _ _) are = are
    meant_links s l links j (is.one_link _ _ op at operand more right _ d rest) are =
        meant_links s (infix_judged op at l right) more j rest
        (noted world at (operators.infix_types op l.ty right.ty) (l.rows ++ right.rows)
        (join world l.rows right.rows are (meant_expr s false operand right d)))

    meant_closure : (s : Setting) (closure : Closure) (c : Closed) → is.Closes world s closure c
        → RowsSo world c.rows
    meant_closure s closure c (is.closes _ at mark captures params result block l d) =
        closed s at mark captures params l
        (meant_block (in_body s.owner false) (closure_state world s captures params result) block
        l d)

    meant_stmt : (i : Inside) (s : State) (x : Stmt) (l : Left) → is.Leaves world i s x l
        → RowsSo world l.rows
    meant_stmt i s x l (is.bind _ _ mutable name ty value judged d) =
        bind s mutable name (written world ty) judged
        (meant_expr (setting_of i s) (marked_type (written world ty)) value judged d)
    meant_stmt i s x l (is.assign _ _ at op place value placed judged of_place d) =
        assign i s at op placed judged
        (meant_expr (setting_of i s) false place placed of_place)
        (meant_expr (setting_of i s) (marked_type (place_type i placed)) value judged d)
    meant_stmt i s x l (is.discard _ _ at value judged d) =
        meant_expr (setting_of i s) false value judged d
    meant_stmt i s x l (is.if_of _ _ arms otherwise a last of_arms d) =
        join world a.rows last.rows (meant_arms i s arms a of_arms)
        (meant_otherwise false i a.state otherwise last d)
    meant_stmt i s x l (is.while_of _ _ at cond block judged inner of_cond d) =
        join world (left.condition_rows judged) inner.rows
        (condition judged (meant_expr (setting_of i s) false cond judged of_cond))
        (meant_block (in_loop i) s block inner d)
    meant_stmt i s x l
        (is.switch _ _ at subject arms otherwise judged armed last of_subject of_arms d) =
        switch (cases_of world judged.ty) at judged armed.heads (is_some otherwise)
        (beside armed.left last) (meant_expr (setting_of i s) false subject judged of_subject)
        (join world armed.left.rows last.rows
        (meant_cases (in_switch i) (cases_of world judged.ty) s arms armed of_arms)
        (meant_otherwise true (in_switch i) armed.left.state otherwise last d))
    meant_stmt i s x l (is.return_nothing _ _ at) = void s.returned s at
    meant_stmt i s x l (is.return_of _ _ at value judged d) =
        value_of s.returned s at judged
        (meant_expr (setting_of i s) (marked_result s.returned) value judged d)
    meant_stmt i s x l (is.break_of _ _ at) = ill world (not i.leaves) at 408
    meant_stmt i s x l (is.continue_of _ _ at) = ill world (not i.loops) at 408
    meant_stmt i s x l (is.plain _ _ value judged d) =
        plain i.only s judged (meant_expr (setting_of i s) (expects i.only s) value judged d)

    meant_all : (i : Inside) (s : State) (xs : List Stmt) (l : Left) → is.LeavesAll world i s xs l
        → RowsSo world l.rows
    meant_all i s xs l (is.no_stmt _ _) = tt
    meant_all i s xs l (is.one_stmt _ _ stmt stmts one last d rest) =
        join world one.rows last.rows (meant_stmt i s stmt one d)
        (meant_all i one.state stmts last rest)

    meant_block : (i : Inside) (s : State) (b : Block) (l : Left) → is.LeavesBlock world i s b l
        → RowsSo world l.rows
    meant_block i s b l (is.block _ _ stmts _ d) =
        meant_all (with_only i (is_one stmts)) s stmts l d

    meant_arms : (i : Inside) (s : State) (arms : List IfArm) (l : Left)
        → is.LeavesArms world i s arms l → RowsSo world l.rows
    meant_arms i s arms l (is.no_arm _ _) = tt
    meant_arms i s arms l (is.one_arm _ _ at cond block more judged inner last of_cond d rest) =
        let one = left.arm_left s judged inner in
        join world one.rows last.rows
        (join world (left.condition_rows judged) inner.rows
        (condition judged (meant_expr (setting_of i s) false cond judged of_cond))
        (meant_block (in_branch i) s block inner d))
        (meant_arms i one.state more last rest)

    meant_otherwise : (ends : Bool) (i : Inside) (s : State) (o : Option Block) (l : Left)
        → is.LeavesOtherwise world ends i s o l → RowsSo world l.rows
    meant_otherwise ends i s o l (is.absent _ _) = tt
    meant_otherwise ends i s o l (is.absent_default _ _) = tt
    meant_otherwise ends i s o l (is.present _ _ _ block inner d) =
        meant_block (in_branch i) s block inner d

    meant_cases : (i : Inside) (cases : Option (List CaseShape)) (s : State) (arms : List CaseArm)
        (a : Armed) → is.LeavesCases world i cases s arms a → RowsSo world a.left.rows
    meant_cases i cases s arms a (is.no_case _ _ _) = tt
    meant_cases i cases s arms a
        (is.one_case _ _ _ name patterns block more inner armed d rest) =
        let head = head_of name patterns in
        let own = left.vars_rows (left.arm_vars head (arm_payload cases name.id)) in
        let one = case_of cases s head inner in
        join world one.rows armed.left.rows
        (join world own inner.rows (vars world (left.arm_vars head (arm_payload cases name.id)))
        (meant_block (in_branch i) (arm_state cases s head) block inner d))
        (meant_cases i cases one.state more armed rest)

  row_in : (rows : List Row) (row : Row) → RowsSo world rows → Contains rows row → RowSo world row
  row_in rows row are has =
      All-contains (RowSo world) rows row (All-from_recursion (RowSo world) rows are) has

  -- What is said of a node means no other functions.
  pub row_so : (decls : List Decl) (row : Row) → Says world decls row → RowSo world row
  row_so decls row (of_body made l _ _ d has) =
      row_in (body_noted world made l) row
      (join world (left.vars_rows (params_of world made)) _ (vars world (params_of world made))
      (body made.at l
      (meant_block (in_body made.owner made.init) (body_state world made) made.block l d))) has
  row_so decls row (of_value value judged _ _ d has) =
      row_in (value_noted value judged) row
      (join world judged.rows _
      (meant_expr (value_setting value) (is_marked value.wanted) value.value judged d)
      (refused world value.at judged.ty value.wanted)) has
