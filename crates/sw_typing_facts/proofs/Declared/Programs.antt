-- Each type that is said of a program is declared.
use Rattle.std.proofs.Common.{ℕ, ◌+◌, ◌≤◌, ◌<◌, Bool, true, false, List, [], ◌∷◌, ◌++◌, Option}
use Rattle.std.proofs.Common.{Some, None, Contains, arith, flat_map, is_some, map, not, ◌||◌}
use Rattle.std.proofs.lemmas.List.Elements.{All-contains, All-from_recursion}
use Rattle.std.specs.List.{AllByRecursion}
use Rattle.sw_tree.specs.declared.decl.Decl.{Decl}
use Rattle.sw_tree.specs.declared.decl.Decl.TheVariants.{Entry, Struct, Enum, Class, Actor}
use Rattle.sw_tree.specs.declared.decl.Decl.TheVariants.{GlobalActor, Func, Global}
use Rattle.sw_tree.specs.declared.decl.FuncTree.{FuncTree}
use Rattle.sw_tree.specs.declared.decl.InitTree.{InitTree}
use Rattle.sw_tree.specs.declared.decl.ParamTree.{ParamTree}
use Rattle.sw_tree.specs.declared.decl.PropTree.{PropTree}
use Rattle.sw_tree.specs.declared.expr.Arg.{Arg}
use Rattle.sw_tree.specs.declared.expr.Closure.{Closure}
use Rattle.sw_tree.specs.declared.expr.Expr.{Expr}
use Rattle.sw_tree.specs.declared.expr.Link.{Link}
use Rattle.sw_tree.specs.declared.stmt.Block.{Block}
use Rattle.sw_tree.specs.declared.stmt.CaseArm.{CaseArm}
use Rattle.sw_tree.specs.declared.stmt.IfArm.{IfArm}
use Rattle.sw_tree.specs.declared.stmt.Stmt.{Stmt}
use Rattle.sw_types.specs.Accepts.{is_marked}
use Rattle.sw_types.specs.declared.shape.CaseShape.{CaseShape}
use Rattle.sw_types.specs.declared.ty.Ty.{Ty}
use Rattle.sw_types.specs.declared.ty.Ty.TheVariants as types
use Rattle.sw_decl_words.proofs.WithinLemmas.{shapes_of_all, stated_within, written_within}
use Rattle.sw_decl_words.specs.Words.{shapes_made}
use Rattle.sw_decls.specs.declared.signature.AsyncDefault.{AsyncDefault}
use Rattle.sw_typing_rules.specs.Calls.{Slot, slots_of}
use Rattle.sw_typing_rules.specs.Expressions.{Closed, Judged, Passed, base_rows, call_callee}
use Rattle.sw_typing_rules.specs.Expressions.{first_marked, fun_types, infix_judged, later}
use Rattle.sw_typing_rules.specs.Expressions.{method_callee, task_types}
use Rattle.sw_typing_rules.specs.Judges as is
use Rattle.sw_typing_rules.specs.Judges.{arm_state, case_of, head_of}
use Rattle.sw_typing_rules.specs.Operators as operators
use Rattle.sw_typing_rules.specs.Programs.{BodyOf, HasType, Says, ValueOf, bodies_from, bodies_of}
use Rattle.sw_typing_rules.specs.Programs.{body_noted, body_state, first_value, func_body}
use Rattle.sw_typing_rules.specs.Programs.{init_body, of_body, of_value, param_var, params_of}
use Rattle.sw_typing_rules.specs.Programs.{prop_value, value_noted, value_setting, values_from}
use Rattle.sw_typing_rules.specs.Programs.{values_of}
use Rattle.sw_typing_rules.specs.Statements as left
use Rattle.sw_typing_rules.specs.Statements.{Armed, Left, State, arm_vars, beside, cases_of}
use Rattle.sw_typing_rules.specs.Statements.{closure_state, expects, in_body, in_loop, in_switch}
use Rattle.sw_typing_rules.specs.Statements.{is_one, marked_result, marked_type, in_branch}
use Rattle.sw_typing_rules.specs.Statements.{place_type, setting_of, with_only, written}
use Rattle.sw_typing_rules.specs.Words as senses
use Rattle.sw_typing_rules.specs.Words.{Setting}
use Rattle.sw_typing_rules.specs.Worlds.{IsWorldOf, World}
use Rattle.sw_typing_rules.specs.declared.row.Row.{Row}
use Rattle.sw_typing_rules.specs.declared.row.Row.TheVariants.{Typed}
use Rattle.sw_typing_rules.specs.declared.scope.Inside.{Inside}
use Rattle.sw_typing_facts.proofs.Declared.Arms as arm_rule
use Rattle.sw_typing_facts.proofs.Declared.Calls as call_rule
use Rattle.sw_typing_facts.proofs.Declared.Closures as closure_rule
use Rattle.sw_typing_facts.proofs.Declared.Noted as row_rule
use Rattle.sw_typing_facts.proofs.Declared.Noted.{CasesWithin, ClosedWithin, JudgedWithin, LeftWithin}
use Rattle.sw_typing_facts.proofs.Declared.Noted.{OwnerWithin, RowWithin, RowsWithin, StateWithin}
use Rattle.sw_typing_facts.proofs.Declared.Noted.{VarWithin, VarsWithin, size}
use Rattle.sw_typing_facts.proofs.Declared.Senses as word_rule
use Rattle.sw_typing_facts.proofs.Declared.Statements as stmt_rule
use Rattle.sw_typing_facts.proofs.Declared.Tables.{Declared, TablesWithin, shapes_count}
use Rattle.sw_typing_facts.proofs.Declared.Tables.{tables_within}
use Rattle.sw_typing_facts.proofs.Declared.Verdicts as verdict_rule
use Rattle.sw_typing_facts.proofs.Types.Within.{Within, all_append, all_map, bool_within, int_within}
use Rattle.sw_typing_facts.proofs.Types.Within.{unit_within}

module _ (world : World) (tables : TablesWithin world) where
  beside_within : (one next : Left) → LeftWithin (size world) one → LeftWithin (size world) next
      → LeftWithin (size world) (beside one next)
  beside_within one next first second =
      (second.0, row_rule.join (size world) one.rows next.rows first.1 second.1)

  mutual
    -- what is known of an expression
    pub expr_within : (s : Setting) (m : Bool) (e : Expr) (j : Judged) → is.Judges world s m e j
        → OwnerWithin (size world) s.owner → VarsWithin (size world) s.vars
        → JudgedWithin (size world) j
    expr_within s m e j (is.int _ _ at value) o v =
        (int_within (size world), (int_within (size world), tt))
    expr_within s m e j (is.bool _ _ at value) o v =
        (bool_within (size world), (bool_within (size world), tt))
    expr_within s m e j (is.word _ _ name) o v = word_rule.word_of world tables s name v
    expr_within s m e j (is.me _ _ at) o v =
        verdict_rule.noted (size world) at (senses.me_types s.owner) [] tt
        (verdict_rule.me_types (size world) s.owner o)
    expr_within s m e j (is.member _ _ base name judged d) o v =
        word_rule.member_by world tables judged judged.enum name
        (expr_within s false base judged d o v)
    expr_within s m e j (is.call _ _ name args passed d) o v =
        call_rule.call (size world) (call_callee world s name) name.at [] passed
        (call_rule.call_callee world tables s name v) tt
        (args_within s (slots_of (call_callee world s name)) args passed d o v)
    expr_within s m e j (is.method _ _ base name args judged passed of_base d) o v =
        call_rule.call (size world) (method_callee world judged name) name.at (base_rows judged)
        passed
        (call_rule.method_by world tables judged.enum judged.ty name.id)
        (call_rule.rows_by world tables judged.enum judged.rows
        (expr_within s false base judged of_base o v).1)
        (args_within s (slots_of (method_callee world judged name)) args passed d o v)
    expr_within s m e j (is.chain _ _ first rest l _ of_first d) o v =
        links_within s l rest j d o v (expr_within s false first l of_first o v)
    expr_within s m e j (is.prefix _ _ op at inner judged d) o v =
        verdict_rule.noted (size world) at (operators.prefix_types op judged.ty) judged.rows
        (expr_within s false inner judged d o v).1
        (verdict_rule.prefix_types (size world) op judged.ty)
    expr_within s m e j (is.await _ _ at inner judged d) o v =
        let are = expr_within s false inner judged d o v in
        verdict_rule.noted (size world) at (senses.var_types judged.ty) judged.rows are.1
        (verdict_rule.var_types (size world) judged.ty are.0)
    expr_within s m e j (is.fun _ _ closure closed d) o v =
        let are = closure_within s closure closed d o v in
        verdict_rule.noted (size world) closed.at
        (fun_types (closed.marked || m) closed.params closed.result) closed.rows are.1
        (verdict_rule.fun_types (size world) (closed.marked || m) closed.params closed.result
        are.0.0 are.0.1)
    expr_within s m e j (is.spawn _ _ at detached body closed d) o v =
        let are = closure_within s body closed d o v in
        verdict_rule.noted (size world) at (task_types closed.result) closed.rows are.1
        (verdict_rule.task_types (size world) closed.result are.0.1)
    expr_within s m e j (is.yield _ _ at) o v =
        (unit_within (size world), (unit_within (size world), tt))

    args_within : (s : Setting) (slots : List Slot) (args : List Arg) (p : Passed)
        → is.Passes world s slots args p → OwnerWithin (size world) s.owner
        → VarsWithin (size world) s.vars → RowsWithin (size world) p.rows
    args_within s slots args p (is.passes_none _ _) o v = tt
    args_within s slots args p (is.passes_one _ _ label value more judged passed d rest) o v =
        row_rule.join (size world) judged.rows passed.rows
        (expr_within s (first_marked slots) value judged d o v).1
        (args_within s (later slots) more passed rest o v)

    links_within : (s : Setting) (l : Judged) (links : List Link) (j : Judged)
        → is.Links world s l links j → OwnerWithin (size world) s.owner
        → VarsWithin (size world) s.vars → JudgedWithin (size world) l
        → JudgedWithin (size world) j
    links_within s l links j (is.no_link _ _) o v are = are
    links_within s l links j (is.one_link _ _ op at operand more right _ d rest) o v are =
        links_within s (infix_judged op at l right) more j rest o v
        (verdict_rule.noted (size world) at (operators.infix_types op l.ty right.ty)
        (l.rows ++ right.rows)
        (row_rule.join (size world) l.rows right.rows are.1
        (expr_within s false operand right d o v).1)
        (verdict_rule.infix_types (size world) op l.ty right.ty))

    closure_within : (s : Setting) (closure : Closure) (c : Closed)
        → is.Closes world s closure c → OwnerWithin (size world) s.owner
        → VarsWithin (size world) s.vars → ClosedWithin (size world) c
    closure_within s closure c (is.closes _ at mark captures params result block l d) o v =
        closure_rule.closed world tables s at mark captures params l v
        (block_within (in_body s.owner false) (closure_state world s captures params result) block
        l d o (closure_rule.closure_state world tables s captures params result v))

    -- what a statement leaves
    pub stmt_within : (i : Inside) (s : State) (x : Stmt) (l : Left) → is.Leaves world i s x l
        → OwnerWithin (size world) i.owner → StateWithin (size world) s
        → LeftWithin (size world) l
    stmt_within i s x l (is.bind _ _ mutable name ty value judged d) o t =
        stmt_rule.bind (size world) s mutable name (written world ty) judged t
        (stmt_rule.written_type world tables ty)
        (expr_within (setting_of i s) (marked_type (written world ty)) value judged d o t.0)
    stmt_within i s x l (is.assign _ _ at op place value placed judged of_place d) o t =
        stmt_rule.assign (size world) i s at op placed judged t
        (expr_within (setting_of i s) false place placed of_place o t.0)
        (expr_within (setting_of i s) (marked_type (place_type i placed)) value judged d o t.0)
    stmt_within i s x l (is.discard _ _ at value judged d) o t =
        (t, (expr_within (setting_of i s) false value judged d o t.0).1)
    stmt_within i s x l (is.if_of _ _ arms otherwise a last of_arms d) o t =
        let are = arms_within i s arms a of_arms o t in
        beside_within a last are (otherwise_within false i a.state otherwise last d o are.0)
    stmt_within i s x l (is.while_of _ _ at cond block judged inner of_cond d) o t =
        let are = block_within (in_loop i) s block inner d o t in (
          (t.0, are.0.1),
          row_rule.join (size world) (left.condition_rows judged) inner.rows
              (stmt_rule.condition (size world) judged
              (expr_within (setting_of i s) false cond judged of_cond o t.0)) are.1,
        )
    stmt_within i s x l
        (is.switch _ _ at subject arms otherwise judged armed last of_subject of_arms d) o t =
        let are = cases_within (in_switch i) (cases_of world judged.ty) s arms armed of_arms o t
        (arm_rule.cases_of world tables judged.ty) in
        stmt_rule.switch (size world) (cases_of world judged.ty) at judged armed.heads
        (is_some otherwise) (beside armed.left last)
        (expr_within (setting_of i s) false subject judged of_subject o t.0)
        (beside_within armed.left last are
        (otherwise_within true (in_switch i) armed.left.state otherwise last d o are.0))
    stmt_within i s x l (is.return_nothing _ _ at) o t =
        stmt_rule.void (size world) s.returned s at t
    stmt_within i s x l (is.return_of _ _ at value judged d) o t =
        stmt_rule.value_of (size world) s.returned s at judged t
        (expr_within (setting_of i s) (marked_result s.returned) value judged d o t.0)
    stmt_within i s x l (is.break_of _ _ at) o t =
        (t, row_rule.ill (size world) (not i.leaves) at 408)
    stmt_within i s x l (is.continue_of _ _ at) o t =
        (t, row_rule.ill (size world) (not i.loops) at 408)
    stmt_within i s x l (is.plain _ _ value judged d) o t =
        stmt_rule.plain (size world) i.only s judged t
        (expr_within (setting_of i s) (expects i.only s) value judged d o t.0)

    all_within : (i : Inside) (s : State) (xs : List Stmt) (l : Left)
        → is.LeavesAll world i s xs l → OwnerWithin (size world) i.owner
        → StateWithin (size world) s → LeftWithin (size world) l
    all_within i s xs l (is.no_stmt _ _) o t = (t, tt)
    all_within i s xs l (is.one_stmt _ _ stmt stmts one last d rest) o t =
        let are = stmt_within i s stmt one d o t in
        let more = all_within i one.state stmts last rest o are.0 in
        (more.0, row_rule.join (size world) one.rows last.rows are.1 more.1)

    -- what the statements of a block leave
    pub block_within : (i : Inside) (s : State) (b : Block) (l : Left)
        → is.LeavesBlock world i s b l → OwnerWithin (size world) i.owner
        → StateWithin (size world) s → LeftWithin (size world) l
    block_within i s b l (is.block _ _ stmts _ d) o t =
        all_within (with_only i (is_one stmts)) s stmts l d o t

    arms_within : (i : Inside) (s : State) (arms : List IfArm) (l : Left)
        → is.LeavesArms world i s arms l → OwnerWithin (size world) i.owner
        → StateWithin (size world) s → LeftWithin (size world) l
    arms_within i s arms l (is.no_arm _ _) o t = (t, tt)
    arms_within i s arms l (is.one_arm _ _ at cond block more judged inner last of_cond d rest) o
        t =
        let one = left.arm_left s judged inner in
        let own = block_within (in_branch i) s block inner d o t in
        let are : LeftWithin (size world) one = (
          (t.0, own.0.1),
          row_rule.join (size world) (left.condition_rows judged) inner.rows
              (stmt_rule.condition (size world) judged
              (expr_within (setting_of i s) false cond judged of_cond o t.0)) own.1,
        ) in
        beside_within one last are (arms_within i one.state more last rest o are.0)

    otherwise_within : (ends : Bool) (i : Inside) (s : State) (x : Option Block) (l : Left)
        → is.LeavesOtherwise world ends i s x l → OwnerWithin (size world) i.owner
        → StateWithin (size world) s → LeftWithin (size world) l
    otherwise_within ends i s x l (is.absent _ _) o t = (t, tt)
    otherwise_within ends i s x l (is.absent_default _ _) o t = (t, tt)
    otherwise_within ends i s x l (is.present _ _ _ block inner d) o t =
        let are = block_within (in_branch i) s block inner d o t in ((t.0, are.0.1), are.1)

    cases_within : (i : Inside) (cases : Option (List CaseShape)) (s : State)
        (arms : List CaseArm) (a : Armed) → is.LeavesCases world i cases s arms a
        → OwnerWithin (size world) i.owner → StateWithin (size world) s
        → CasesWithin (size world) cases → LeftWithin (size world) a.left
    cases_within i cases s arms a (is.no_case _ _ _) o t c = (t, tt)
    cases_within i cases s arms a
        (is.one_case _ _ _ name patterns block more inner armed d rest) o t c =
        let head = head_of name patterns in
        let own = arm_vars head (left.arm_payload cases name.id) in
        let one = case_of cases s head inner in
        let vars = arm_rule.arm_vars (size world) cases head c in
        let inside = block_within (in_branch i) (arm_state cases s head) block inner d o
        (all_append (VarWithin (size world)) s.vars own t.0 vars, t.1) in
        let are : LeftWithin (size world) one = (
          (t.0, inside.0.1),
          row_rule.join (size world) (left.vars_rows own) inner.rows
              (row_rule.vars_rows (size world) own vars) inside.1,
        ) in
        beside_within one armed.left are
        (cases_within i cases one.state more armed rest o are.0 c)

  -- the bodies and first values of a program

  -- a body's type around it, and its written result
  abbrev BodyWithin : BodyOf → Type 0
  BodyWithin body = OwnerWithin (size world) body.owner × Within (size world) body.wanted

  -- the type around a first value
  abbrev ValueWithin : ValueOf → Type 0
  ValueWithin value = OwnerWithin (size world) value.owner

  funcs_are : (owner : Option ℕ) (funcs : List FuncTree) → OwnerWithin (size world) owner
      → AllByRecursion BodyWithin (map (func_body world owner) funcs)
  funcs_are owner funcs o =
      all_map BodyWithin (func_body world owner)
      (λ func. (
        o,
        stated_within world.known.top (size world) tables.words func.result types.Unit
            (unit_within (size world)),
      )) funcs

  made_are : (shape : ℕ) (inits : List InitTree) (funcs : List FuncTree) → shape < size world
      → AllByRecursion BodyWithin
      (map (init_body shape) inits ++ map (func_body world (Some shape)) funcs)
  made_are shape inits funcs o =
      all_append BodyWithin (map (init_body shape) inits) _
      (all_map BodyWithin (init_body shape) (λ init. (o, unit_within (size world))) inits)
      (funcs_are (Some shape) funcs o)

  bodies_are : (shape : ℕ) (decl : Decl) → shape + shapes_made decl ≤ size world
      → AllByRecursion BodyWithin (bodies_of world shape decl)
  unfolding bodies_of
  bodies_are shape (Entry word written at is_async body) few =
      ((tt, unit_within (size world)), tt)
  bodies_are shape (Struct word conforms fields funcs) few =
      funcs_are (Some shape) funcs (omega arith)
  bodies_are shape (Enum word conforms cases funcs) few =
      funcs_are (Some shape) funcs (omega arith)
  bodies_are shape (Class written word conforms props inits funcs) few =
      made_are shape inits funcs (omega arith)
  bodies_are shape (Actor word props inits funcs) few =
      made_are shape inits funcs (omega arith)
  bodies_are shape (GlobalActor word made) few = tt
  bodies_are shape (Func func) few = funcs_are None (func ∷ []) tt
  bodies_are shape (Global global) few = tt

  all_bodies : (shape : ℕ) (decls : List Decl) → shape + shapes_of_all decls ≤ size world
      → AllByRecursion BodyWithin (bodies_from world shape decls)
  all_bodies shape [] few = tt
  all_bodies shape (decl ∷ decls) few =
      all_append BodyWithin (bodies_of world shape decl)
      (bodies_from world (shape + shapes_made decl) decls) (bodies_are shape decl (omega arith))
      (all_bodies (shape + shapes_made decl) decls (omega arith))

  value_is : (owner : Option ℕ) (prop : PropTree) (value : Option Expr)
      → OwnerWithin (size world) owner
      → AllByRecursion ValueWithin (first_value world owner prop value)
  value_is owner prop None o = tt
  value_is owner prop (Some value) o = (o, tt)

  props_are : (owner : Option ℕ) (props : List PropTree) → OwnerWithin (size world) owner
      → AllByRecursion ValueWithin (flat_map (prop_value world owner) props)
  props_are owner [] o = tt
  props_are owner (prop ∷ props) o =
      all_append ValueWithin (prop_value world owner prop) _ (value_is owner prop prop.value o)
      (props_are owner props o)

  values_are : (shape : ℕ) (decl : Decl) → shape + shapes_made decl ≤ size world
      → AllByRecursion ValueWithin (values_of world shape decl)
  unfolding values_of
  values_are shape (Entry word written at is_async body) few = tt
  values_are shape (Struct word conforms fields funcs) few = tt
  values_are shape (Enum word conforms cases funcs) few = tt
  values_are shape (Class written word conforms props inits funcs) few =
      props_are (Some shape) props (omega arith)
  values_are shape (Actor word props inits funcs) few =
      props_are (Some shape) props (omega arith)
  values_are shape (GlobalActor word made) few = tt
  values_are shape (Func func) few = tt
  values_are shape (Global global) few = value_is None global global.value tt

  all_values : (shape : ℕ) (decls : List Decl) → shape + shapes_of_all decls ≤ size world
      → AllByRecursion ValueWithin (values_from world shape decls)
  all_values shape [] few = tt
  all_values shape (decl ∷ decls) few =
      all_append ValueWithin (values_of world shape decl)
      (values_from world (shape + shapes_made decl) decls) (values_are shape decl (omega arith))
      (all_values (shape + shapes_made decl) decls (omega arith))

  -- what is said of a program

  params_are : (params : List ParamTree) → VarsWithin (size world) (map (param_var world) params)
  params_are =
      all_map (VarWithin (size world)) (param_var world)
      (λ param. written_within world.known.top (size world) tables.words param.ty)

  is_within_one : {A : Type 0} (P : A → Type 0) (list : List A) (x : A) → AllByRecursion P list
      → Contains list x → P x
  is_within_one P list x are has = All-contains P list x (All-from_recursion P list are) has

  row_within : (decls : List Decl) (row : Row) → shapes_of_all decls ≤ size world
      → Says world decls row → RowWithin (size world) row
  row_within decls row few (of_body made l _ has_body d has) =
      let is = is_within_one BodyWithin (bodies_from world 0 decls) made
      (all_bodies 0 decls (omega arith)) has_body in
      is_within_one (RowWithin (size world)) (body_noted world made l) row
      (row_rule.join (size world) (left.vars_rows (params_of world made)) _
      (row_rule.vars_rows (size world) (params_of world made) (params_are made.params))
      (closure_rule.body (size world) made.at l
      (block_within (in_body made.owner made.init) (body_state world made) made.block l d is.0
      (params_are made.params, is.1)).1)) has
  row_within decls row few (of_value value judged _ has_value d has) =
      is_within_one (RowWithin (size world)) (value_noted value judged) row
      (row_rule.join (size world) judged.rows _
      (expr_within (value_setting value) (is_marked value.wanted) value.value judged d
      (is_within_one ValueWithin (values_from world 0 decls) value
      (all_values 0 decls (omega arith)) has_value) tt).1
      (row_rule.refused (size world) value.at judged.ty value.wanted)) has

-- Each type that is said of a node of a program names declared types alone.
pub types_declared : (world : World) (decls : List Decl) (rule : AsyncDefault)
    → IsWorldOf decls rule world
    → (at : ℕ) (ty : Ty) → HasType world decls at ty → Declared world ty
types_declared world decls default is at ty has =
    row_within world (tables_within world decls default is) decls (Typed at ty)
    (omega (arith, shapes_count world decls default is)) has
