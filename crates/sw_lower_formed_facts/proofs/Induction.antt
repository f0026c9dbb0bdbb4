-- The code of each well-typed expression and block is safe wherever it stands.
use Rattle.std.proofs.Common.{◌≡◌, ℕ, Bool, true, false, List, [], ◌∷◌, ◌++◌, Option, Some, None}
use Rattle.std.proofs.Common.{refl, sym, ap, ◌∙◌, subst}
use Rattle.std.proofs.lemmas.List.Elements.{All-append, All-head, All-tail}
use Rattle.std.specs.Prelude.{All, ◌&&◌, flat_map, is_some, map, option_map, slice_get}
use Rattle.sw_tree.proofs.FoldEquations as eq
use Rattle.sw_tree.specs.Folds.{fold_arg, fold_block, fold_case_arm, fold_if_arm, fold_link}
use Rattle.sw_tree.specs.Folds.{fold_stmt}
use Rattle.sw_tree.specs.declared.expr.Arg.{Arg}
use Rattle.sw_tree.specs.declared.expr.Expr.{Expr}
use Rattle.sw_tree.specs.declared.expr.Expr.TheOpen as layer
use Rattle.sw_tree.specs.declared.expr.Link.{Link}
use Rattle.sw_tree.specs.declared.stmt.Block.{Block}
use Rattle.sw_tree.specs.declared.stmt.CaseArm.{CaseArm}
use Rattle.sw_tree.specs.declared.stmt.IfArm.{IfArm}
use Rattle.sw_tree.specs.declared.stmt.Stmt.{Stmt}
use Rattle.sw_types.specs.declared.shape.CaseShape.{CaseShape}
use Rattle.sw_types.specs.declared.shape.Shape.{Shape}
use Rattle.sw_types.specs.declared.ty.Ty.{Ty}
use Rattle.sw_graph.specs.declared.function.Function.{Function}
use Rattle.sw_typing_rules.specs.Calls.{Slot}
use Rattle.sw_typing_rules.specs.Expressions.{Judged, Passed, base_rows, infix_judged}
use Rattle.sw_typing_rules.specs.Judges as is
use Rattle.sw_typing_rules.specs.Statements.{Armed, Left, State, arm_left, arm_payload, arm_vars}
use Rattle.sw_typing_rules.specs.Statements.{beside, cases_of, closure_state, condition_rows, fixed}
use Rattle.sw_typing_rules.specs.Statements.{in_body, in_loop, in_switch, is_one, in_branch}
use Rattle.sw_typing_rules.specs.Statements.{setting_of, switch_left, vars_rows, with_only, written}
use Rattle.sw_typing_rules.specs.Verdicts.{ill_if}
use Rattle.sw_typing_rules.specs.Words.{Setting}
use Rattle.sw_typing_rules.specs.declared.scope.Inside.{Inside}
use Rattle.sw_lower_plans.specs.Plan.{Numbers}
use Rattle.sw_lower_code.specs.Whole.{Body}
use Rattle.sw_lower_rules.specs.Carriers.{ArgCode, BlockCode, CaseCode, ExprCode, IfCode, LinkCode}
use Rattle.sw_lower_rules.specs.Carriers.{StmtCode}
use Rattle.sw_lower_rules.specs.Expressions.{args_inside, fun_code, spawn_code, closure_body}
use Rattle.sw_lower_rules.specs.Statements.{block_code, code_steps, expr_code, inside_of, stmt_code}
use Rattle.sw_lower_rules.specs.Statements.{stmt_layer}
use Rattle.sw_lower_rules.specs.Tables.{Tables}
use Rattle.sw_lower_formed_facts.specs.Forms.{ArgsOk, BlockOk, ExprOk, StmtOk, VarHolds, VarsHold}
use Rattle.sw_typing_facts.specs.Rows.{RowsHold}
use Rattle.sw_lower_formed_facts.specs.Ground.{Ground}
use Rattle.sw_lower_formed_facts.specs.Trees.{BlocksHold, ExprsHold, IsHere}
use Rattle.sw_lower_formed_facts.proofs.Bodies.Closures.{fun_ok, spawn_ok}
use Rattle.sw_lower_formed_facts.proofs.Expressions.Arguments.{HaveTypes, arg_ok, no_arg_ok}
use Rattle.sw_lower_formed_facts.proofs.Expressions.Calls.{call_ok}
use Rattle.sw_lower_formed_facts.proofs.Expressions.Chains.{ChainOk, chain_ok, more_links_ok, no_links_ok}
use Rattle.sw_lower_formed_facts.proofs.Expressions.Literals.{bool_ok, int_ok, yield_ok}
use Rattle.sw_lower_formed_facts.proofs.Expressions.Members.{member_ok}
use Rattle.sw_lower_formed_facts.proofs.Expressions.Methods.{method_ok}
use Rattle.sw_lower_formed_facts.proofs.Expressions.Operators.{await_ok, prefix_ok}
use Rattle.sw_lower_formed_facts.proofs.Expressions.Typed.{has_type, member_rows, rows_before, type_of_expr}
use Rattle.sw_lower_formed_facts.proofs.Expressions.Typed.{valued_rows}
use Rattle.sw_lower_formed_facts.proofs.Expressions.Words.{me_ok, word_ok}
use Rattle.sw_typing_facts.proofs.Lists.Joined.{all_left, all_right}
use Rattle.sw_typing_facts.proofs.Programs.Enums.{OnlyEnums}
use Rattle.sw_typing_facts.proofs.Programs.WordKinds.{WordKinds}
use Rattle.sw_typing_facts.proofs.Said.EnumNames.{links_enum, member_no_enum}
use Rattle.sw_typing_facts.proofs.Said.Rows.{rows_left, rows_right}
use Rattle.sw_lower_formed_facts.proofs.Statements.Assigning.{assign_ok}
use Rattle.sw_lower_formed_facts.proofs.Statements.Blocks.{StmtsOk, block_ok, more_stmts_ok, no_stmts_ok}
use Rattle.sw_lower_formed_facts.proofs.Statements.Branches.{ArmsOk, OtherwiseOk, if_ok, more_arms_ok}
use Rattle.sw_lower_formed_facts.proofs.Statements.Branches.{no_arms_ok, no_default_ok, no_else_ok}
use Rattle.sw_lower_formed_facts.proofs.Statements.Branches.{some_block_ok}
use Rattle.sw_lower_formed_facts.proofs.Statements.Cases.{CasesDiffer, HeadFits, switch_well}
use Rattle.sw_lower_formed_facts.proofs.Statements.Declaring.{bind_ok}
use Rattle.sw_lower_formed_facts.proofs.Statements.Ignoring.{discard_ok, plain_ok}
use Rattle.sw_lower_formed_facts.proofs.Statements.Leaving.{break_ok, continue_ok, return_nothing_ok}
use Rattle.sw_lower_formed_facts.proofs.Statements.Leaving.{return_ok}
use Rattle.sw_lower_formed_facts.proofs.Statements.Loops.{while_ok}
use Rattle.sw_lower_formed_facts.proofs.Statements.Sequences.{arm_vars_hold, arms_vars, bind_rows}
use Rattle.sw_lower_formed_facts.proofs.Statements.Sequences.{cases_vars, one_still, plain_rows}
use Rattle.sw_lower_formed_facts.proofs.Statements.Sequences.{return_rows, some_still, vars_after}
use Rattle.sw_lower_formed_facts.proofs.Statements.Switches.{CasesOk, more_cases_ok, no_cases_ok, switch_ok}

module _ (tables : Tables) (number : Numbers) (functions : List Function)
    (ground : Ground tables number functions) (kinds : WordKinds tables.world)
    (enums : OnlyEnums tables.world.shapes)
    (differ : (k : ℕ) (shape : Shape) → slice_get tables.world.shapes k ≡ Some shape
    → CasesDiffer shape.cases) where
  abbrev Here : List Body → Type 0
  Here bodies = All (IsHere tables number functions) bodies

  -- by the code that a form gives
  expr_by : (owner : Option ℕ) (judged : Judged) (code form : ExprCode) → code ≡ form
      → Here code.inside → (Here form.inside → ExprOk tables number functions owner form judged)
      → ExprOk tables number functions owner code judged
  expr_by owner judged code form is here ok =
      subst (λ one. ExprOk tables number functions owner one judged) (sym is)
      (ok (subst (λ (one : ExprCode). Here one.inside) is here))

  stmt_by : (owner : Option ℕ) (only : Bool) (state : State) (left : Left) (code form : StmtCode)
      → code ≡ form → Here code.inside
      → (Here form.inside → StmtOk tables number functions owner only state form left)
      → StmtOk tables number functions owner only state code left
  stmt_by owner only state left code form is here ok =
      subst (λ one. StmtOk tables number functions owner only state one left) (sym is)
      (ok (subst (λ (one : StmtCode). Here one.inside) is here))

  -- A word that names an enum has no bodies in it.
  enum_alone : (setting : Setting) (expected : Bool) (expr : Expr) (judged : Judged)
      → is.Judges tables.world setting expected expr judged → (k : ℕ) → judged.enum ≡ Some k
      → (expr_code tables setting.owner expr).inside ≡ []
  unfolding expr_code
  enum_alone setting expected expr judged (is.int _ _ at value) k is = cc
  enum_alone setting expected expr judged (is.bool _ _ at value) k is = cc
  enum_alone setting expected expr judged (is.word _ _ name) k is =
      ap (λ (code : ExprCode). code.inside)
      (eq.fold_expr-Use (code_steps tables setting.owner) name)
  enum_alone setting expected expr judged (is.me _ _ at) k is = cc
  enum_alone setting expected expr judged (is.member _ _ base name one of_base) k is =
      absurd (member_no_enum tables.world one name k is)
  enum_alone setting expected expr judged (is.call _ _ name args passed of_args) k is = cc
  enum_alone setting expected expr judged (is.method _ _ base name args one passed of_base of_args)
      k is = cc
  enum_alone setting expected expr judged (is.chain _ _ first rest left _ of_first of_rest)
      k is =
      let alone = links_enum tables.world setting left judged rest of_rest k is in
      ap (λ (code : ExprCode). code.inside)
      (eq.fold_expr-Chain (code_steps tables setting.owner) first rest)
      ∙ ap (λ more. (expr_code tables setting.owner first).inside
      ++ flat_map (λ (link : LinkCode). link.inside)
      (map (fold_link (code_steps tables setting.owner)) more)) alone.0
      ∙ ap (λ bodies. bodies ++ []) (enum_alone setting false first left of_first k alone.1)
  enum_alone setting expected expr judged (is.prefix _ _ op at inner one of_inner) k is = cc
  enum_alone setting expected expr judged (is.await _ _ at inner one of_inner) k is = cc
  enum_alone setting expected expr judged (is.fun _ _ closure closed of_closure) k is = cc
  enum_alone setting expected expr judged (is.spawn _ _ at detached body closed of_body) k is = cc
  enum_alone setting expected expr judged (is.yield _ _ at) k is = cc

  mutual
    unfolding expr_code stmt_code block_code closure_body

    -- The code of each well-typed expression is safe wherever it stands.
    pub expr_ok : ExprsHold tables number functions
    expr_ok setting expected expr judged (is.int _ _ at value) vars rows here =
        expr_by setting.owner _ _ _ (eq.fold_expr-Int (code_steps tables setting.owner) at value)
        here (λ form. int_ok tables number functions ground setting.owner at value rows)
    expr_ok setting expected expr judged (is.bool _ _ at value) vars rows here =
        expr_by setting.owner _ _ _ (eq.fold_expr-Bool (code_steps tables setting.owner) at value)
        here (λ form. bool_ok tables number functions ground setting.owner at value rows)
    expr_ok setting expected expr judged (is.word _ _ name) vars rows here =
        expr_by setting.owner _ _ _ (eq.fold_expr-Use (code_steps tables setting.owner) name) here
        (λ form. word_ok tables number functions ground setting.owner setting name vars refl rows)
    expr_ok setting expected expr judged (is.me _ _ at) vars rows here =
        expr_by setting.owner _ _ _ (eq.fold_expr-Me (code_steps tables setting.owner) at) here
        (λ form. me_ok tables number functions ground setting.owner at rows)
    expr_ok setting expected expr judged (is.member _ _ base name one of_base) vars rows here =
        expr_by setting.owner _ _ _
        (eq.fold_expr-Member (code_steps tables setting.owner) base name) here
        (λ form. member_ok tables number functions ground setting.owner enums
        (expr_code tables setting.owner base) one name
        (λ none. expr_ok setting false base one of_base vars
        (valued_rows tables.world tables.answers one none
        (member_rows tables.world tables.answers one name rows)) form)
        (enum_alone setting false base one of_base) rows)
    expr_ok setting expected expr judged (is.call _ _ name args passed of_args) vars rows here =
        expr_by setting.owner _ _ _ (eq.fold_expr-Call (code_steps tables setting.owner) name args)
        here
        (λ form. let ok = args_ok setting _ args passed of_args vars
        (rows_left tables.answers passed.rows _ (rows_left tables.answers _ _ rows)) form in
        call_ok tables number functions ground setting.owner kinds setting name
        (map (fold_arg (code_steps tables setting.owner)) args) passed ok.0 ok.1 ok.2 vars refl
        rows)
    expr_ok setting expected expr judged (is.method _ _ base name args one passed of_base of_args)
        vars rows here =
        expr_by setting.owner _ _ _
        (eq.fold_expr-Method (code_steps tables setting.owner) base name args) here
        (λ form. let noted = rows_left tables.answers _ _ rows in
        let ok = args_ok setting _ args passed of_args vars
        (rows_left tables.answers passed.rows _ (rows_right tables.answers (base_rows one) _ noted))
        (all_right (IsHere tables number functions) (expr_code tables setting.owner base).inside _
        form) in
        method_ok tables number functions ground setting.owner enums
        (expr_code tables setting.owner base) one name
        (map (fold_arg (code_steps tables setting.owner)) args) passed ok.0 ok.1 ok.2
        (λ none. expr_ok setting false base one of_base vars
        (valued_rows tables.world tables.answers one none
        (rows_left tables.answers (base_rows one) _ noted))
        (all_left (IsHere tables number functions) (expr_code tables setting.owner base).inside _
        form))
        (enum_alone setting false base one of_base) rows)
    expr_ok setting expected expr judged (is.chain _ _ first rest left _ of_first of_rest) vars rows
        here =
        expr_by setting.owner _ _ _
        (eq.fold_expr-Chain (code_steps tables setting.owner) first rest) here
        (λ form. let ok = expr_ok setting false first left of_first vars
        (rows_before tables setting left judged rest of_rest rows)
        (all_left (IsHere tables number functions) (expr_code tables setting.owner first).inside _
        form) in
        chain_ok tables number functions ground setting.owner (expr_code tables setting.owner first)
        (map (fold_link (code_steps tables setting.owner)) rest) left judged ok.ty ok ok.has
        (links_ok setting left judged rest of_rest vars rows
        (all_right (IsHere tables number functions) (expr_code tables setting.owner first).inside _
        form) (expr_code tables setting.owner first).key ok.ty ok.has ok.typed))
    expr_ok setting expected expr judged (is.prefix _ _ op at inner one of_inner) vars rows here =
        expr_by setting.owner _ _ _
        (eq.fold_expr-Prefix (code_steps tables setting.owner) op at inner) here
        (λ form. prefix_ok tables number functions ground setting.owner op at
        (expr_code tables setting.owner inner) one
        (expr_ok setting false inner one of_inner vars (rows_left tables.answers one.rows _ rows)
        form) rows)
    expr_ok setting expected expr judged (is.await _ _ at inner one of_inner) vars rows here =
        expr_by setting.owner _ _ _
        (eq.fold_expr-Await (code_steps tables setting.owner) at inner) here
        (λ form. await_ok tables number functions ground setting.owner at
        (expr_code tables setting.owner inner) one
        (expr_ok setting false inner one of_inner vars (rows_left tables.answers one.rows _ rows)
        form) rows)
    expr_ok setting expected expr judged (is.fun _ _ closure closed (is.closes _ at mark captures
        params result body left of_body)) vars rows here =
        expr_by setting.owner _ _ _
        (eq.fold_expr-Fun (code_steps tables setting.owner) closure
        ∙ ap (fun_code tables setting.owner)
        (eq.fold_closure-roll (code_steps tables setting.owner) at mark captures params result
        body))
        here
        (λ form. fun_ok tables number functions ground setting.owner
        (record { at = at; params = params; body = block_code tables setting.owner body }) setting
        mark captures result left expected
        (has_type tables setting expected expr judged (is.fun _ _ closure closed
        (is.closes _ at mark captures params result body left of_body)) vars rows)
        (All-head (IsHere tables number functions) _ _ form).made
        (All-head (IsHere tables number functions) _ _ form).found vars rows
        (λ inner inner_rows. block_ok_of (in_body setting.owner false)
        (closure_state tables.world setting captures params result) body left of_body refl inner
        inner_rows (All-tail (IsHere tables number functions) _ _ form)))
    expr_ok setting expected expr judged (is.spawn _ _ at detached task closed (is.closes _ key mark
        captures params result body left of_body)) vars rows here =
        expr_by setting.owner _ _ _
        (eq.fold_expr-Spawn (code_steps tables setting.owner) at detached task
        ∙ ap (spawn_code tables setting.owner at)
        (eq.fold_closure-roll (code_steps tables setting.owner) key mark captures params result
        body)) here
        (λ form. spawn_ok tables number functions ground setting.owner
        (record { at = key; params = params; body = block_code tables setting.owner body }) setting
        mark captures result left at
        (has_type tables setting expected expr judged (is.spawn _ _ at detached task closed
        (is.closes _ key mark captures params result body left of_body)) vars rows)
        (All-head (IsHere tables number functions) _ _ form).made
        (All-head (IsHere tables number functions) _ _ form).found vars rows
        (λ inner inner_rows. block_ok_of (in_body setting.owner false)
        (closure_state tables.world setting captures params result) body left of_body refl inner
        inner_rows (All-tail (IsHere tables number functions) _ _ form)))
    expr_ok setting expected expr judged (is.yield _ _ at) vars rows here =
        expr_by setting.owner _ _ _ (eq.fold_expr-Yield (code_steps tables setting.owner) at) here
        (λ form. yield_ok tables number functions ground setting.owner at rows)

    -- arguments, with their types
    args_ok : (setting : Setting) (slots : List Slot) (args : List Arg) (passed : Passed)
        → is.Passes tables.world setting slots args passed → VarsHold tables.answers setting.vars
        → RowsHold tables.answers passed.rows
        → Here (args_inside (map (fold_arg (code_steps tables setting.owner)) args))
        → (tys : List Ty) × HaveTypes passed.given tys
        × ArgsOk tables number functions setting.owner
        (map (fold_arg (code_steps tables setting.owner)) args) tys
    args_ok setting slots args passed (is.passes_none _ _) vars rows here =
        ([], tt, no_arg_ok tables number functions setting.owner)
    args_ok setting slots args passed (is.passes_one _ _ label value more one rest of_value of_rest)
        vars rows here =
        let head_is = eq.fold_arg-roll (code_steps tables setting.owner) label value in
        let now = subst (λ (arg : ArgCode). Here (arg.inside
        ++ args_inside (map (fold_arg (code_steps tables setting.owner)) more))) head_is here in
        let ok = expr_ok setting _ value one of_value vars
        (rows_left tables.answers one.rows rest.rows rows)
        (all_left (IsHere tables number functions) (expr_code tables setting.owner value).inside _
        now) in
        let others = args_ok setting _ more rest of_rest vars
        (rows_right tables.answers one.rows rest.rows rows)
        (all_right (IsHere tables number functions) (expr_code tables setting.owner value).inside _
        now) in (
          ok.ty ∷ others.0,
          (ok.has, others.1),
          subst (λ arg. ArgsOk tables number functions setting.owner
              (arg ∷ map (fold_arg (code_steps tables setting.owner)) more) (ok.ty ∷ others.0))
              (sym head_is)
              (arg_ok tables number functions setting.owner
              (expr_code tables setting.owner value) one _
              ok.ty others.0 ok ok.has others.2),
        )

    -- the operators of a chain
    links_ok : (setting : Setting) (left judged : Judged) (links : List Link)
        → is.Links tables.world setting left links judged → VarsHold tables.answers setting.vars
        → RowsHold tables.answers judged.rows
        → Here (flat_map (λ (link : LinkCode). link.inside)
        (map (fold_link (code_steps tables setting.owner)) links))
        → (key : ℕ) (from : Ty) → left.ty ≡ Some from → tables.answers.type_at key ≡ Some from
        → ChainOk tables number functions ground setting.owner key
        (map (fold_link (code_steps tables setting.owner)) links) from judged
    links_ok setting left judged links (is.no_link _ _) vars rows here key from has typed =
        no_links_ok tables number functions ground setting.owner key from left has typed
    links_ok setting left judged links (is.one_link _ _ op at operand more right _ of_right rest)
        vars rows here key from has typed =
        let head_is = eq.fold_link-roll (code_steps tables setting.owner) op at operand in
        let now = subst (λ (link : LinkCode). Here (link.inside
        ++ flat_map (λ (one : LinkCode). one.inside)
        (map (fold_link (code_steps tables setting.owner)) more))) head_is here in
        let noted =
        rows_before tables setting (infix_judged op at left right) judged more rest rows in
        let ok = expr_ok setting false operand right of_right vars
        (rows_right tables.answers left.rows right.rows
        (rows_left tables.answers (left.rows ++ right.rows) _ noted))
        (all_left (IsHere tables number functions) (expr_code tables setting.owner operand).inside _
        now) in
        subst (λ link. ChainOk tables number functions ground setting.owner key
        (link ∷ map (fold_link (code_steps tables setting.owner)) more) from judged) (sym head_is)
        (more_links_ok tables number functions ground setting.owner key op at
        (expr_code tables setting.owner operand)
        (map (fold_link (code_steps tables setting.owner)) more) from left right judged has ok noted
        (λ next_has next_typed. links_ok setting (infix_judged op at left right) judged more rest
        vars rows
        (all_right (IsHere tables number functions) (expr_code tables setting.owner operand).inside
        _ now) at _ next_has next_typed))

    -- The code of each well-typed block outside of initialisers is safe wherever it stands.
    pub block_ok_of : BlocksHold tables number functions
    block_ok_of inside state block left (is.block _ _ stmts _ of_stmts) init vars rows here =
        let code_is = eq.fold_block-roll (code_steps tables inside.owner) stmts in
        subst (λ code. BlockOk tables number functions inside.owner inside.only state code left)
        (sym code_is)
        (block_ok tables number functions inside.owner inside.only state
        (map (fold_stmt (code_steps tables inside.owner)) stmts) left
        (subst (λ one. StmtsOk tables number functions inside.owner (inside.only && one) state
        (map (fold_stmt (code_steps tables inside.owner)) stmts) left)
        (sym (one_still (fold_stmt (code_steps tables inside.owner)) stmts))
        (stmts_ok (with_only inside (is_one stmts)) state stmts left of_stmts init vars rows
        (subst (λ (code : BlockCode). Here code.inside) code_is here))))

    stmts_ok : (inside : Inside) (state : State) (trees : List Stmt) (left : Left)
        → is.LeavesAll tables.world inside state trees left → inside.init ≡ false
        → VarsHold tables.answers state.vars → RowsHold tables.answers left.rows
        → Here (flat_map (λ (one : StmtCode). one.inside)
        (map (fold_stmt (code_steps tables inside.owner)) trees))
        → StmtsOk tables number functions inside.owner inside.only state
        (map (fold_stmt (code_steps tables inside.owner)) trees) left
    stmts_ok inside state trees left (is.no_stmt _ _) init vars rows here =
        no_stmts_ok tables number functions inside.owner inside.only state
    stmts_ok inside state trees left (is.one_stmt _ _ stmt more one last of_stmt of_more) init vars
        rows here =
        let first = rows_left tables.answers one.rows last.rows rows in
        more_stmts_ok tables number functions inside.owner inside.only state
        (stmt_code tables inside.owner stmt)
        (map (fold_stmt (code_steps tables inside.owner)) more) one last
        (stmt_ok inside state stmt one of_stmt init vars first
        (all_left (IsHere tables number functions) (stmt_code tables inside.owner stmt).inside _
        here))
        (stmts_ok inside one.state more last of_more init
        (vars_after tables.world tables.answers inside state stmt one of_stmt
        (λ judged expected value judges value_rows. type_of_expr tables (setting_of inside state)
        expected value judged judges vars value_rows) vars first)
        (rows_right tables.answers one.rows last.rows rows)
        (all_right (IsHere tables number functions) (stmt_code tables inside.owner stmt).inside _
        here))

    stmt_ok : (inside : Inside) (state : State) (stmt : Stmt) (left : Left)
        → is.Leaves tables.world inside state stmt left → inside.init ≡ false
        → VarsHold tables.answers state.vars → RowsHold tables.answers left.rows
        → Here (stmt_code tables inside.owner stmt).inside
        → StmtOk tables number functions inside.owner inside.only state
        (stmt_code tables inside.owner stmt) left
    stmt_ok inside state stmt left (is.bind _ _ mutable name ty value judged of_value) init vars
        rows
        here =
        stmt_by inside.owner inside.only state _ _ _
        (eq.fold_stmt-Bind (code_steps tables inside.owner) mutable name ty value) here
        (λ form. bind_ok tables number functions ground inside.owner inside.only state mutable name
        (written tables.world ty) (expr_code tables inside.owner value) judged
        (expr_ok (setting_of inside state) _ value judged of_value vars
        (bind_rows tables.answers state mutable name (written tables.world ty) judged rows) form)
        rows)
    stmt_ok inside state stmt left (is.assign _ _ at op place value placed judged of_place of_value)
        init vars rows here =
        stmt_by inside.owner inside.only state _ _ _
        (eq.fold_stmt-Assign (code_steps tables inside.owner) at op place value) here
        (λ form. assign_ok tables number functions ground inside.owner inside.only inside state at
        op
        (expr_code tables inside.owner place) (expr_code tables inside.owner value) placed judged
        init
        (expr_ok (setting_of inside state) false place placed of_place vars
        (rows_left tables.answers placed.rows _ rows)
        (all_left (IsHere tables number functions) (expr_code tables inside.owner place).inside _
        form))
        (expr_ok (setting_of inside state) _ value judged of_value vars
        (rows_left tables.answers judged.rows _
        (rows_right tables.answers (ill_if (fixed inside placed) placed.key 404) _
        (rows_right tables.answers placed.rows _ rows)))
        (all_right (IsHere tables number functions) (expr_code tables inside.owner place).inside _
        form)) rows)
    stmt_ok inside state stmt left (is.discard _ _ at value judged of_value) init vars rows here =
        stmt_by inside.owner inside.only state _ _ _
        (eq.fold_stmt-Discard (code_steps tables inside.owner) at value) here
        (λ form. discard_ok tables number functions inside.owner inside.only state
        (expr_code tables inside.owner value) judged
        (expr_ok (setting_of inside state) false value judged of_value vars rows form))
    stmt_ok inside state stmt left (is.if_of _ _ arms other one last of_arms of_other) init vars
        rows
        here =
        stmt_by inside.owner inside.only state _ _ _
        (eq.fold_stmt-If (code_steps tables inside.owner) arms other) here
        (λ form. if_ok tables number functions inside.owner inside.only state
        (map (fold_if_arm (code_steps tables inside.owner)) arms)
        (option_map (fold_block (code_steps tables inside.owner)) other) one last
        (arms_ok inside state arms one of_arms init vars
        (rows_left tables.answers one.rows last.rows rows)
        (all_left (IsHere tables number functions) (flat_map (λ (arm : IfCode). arm.inside)
        (map (fold_if_arm (code_steps tables inside.owner)) arms)) _ form))
        (other_ok false inside one.state other last of_other init
        (subst (VarsHold tables.answers)
        (sym (arms_vars tables.world inside state arms one of_arms)) vars)
        (rows_right tables.answers one.rows last.rows rows)
        (all_right (IsHere tables number functions) (flat_map (λ (arm : IfCode). arm.inside)
        (map (fold_if_arm (code_steps tables inside.owner)) arms)) _ form)))
    stmt_ok inside state stmt left (is.while_of _ _ at cond body judged one of_cond of_body) init
        vars
        rows here =
        stmt_by inside.owner inside.only state _ _ _
        (eq.fold_stmt-While (code_steps tables inside.owner) at cond body) here
        (λ form. while_ok tables number functions inside.owner inside.only state
        (expr_code tables inside.owner cond) judged (block_code tables inside.owner body) one
        (expr_ok (setting_of inside state) false cond judged of_cond vars
        (rows_left tables.answers judged.rows _
        (rows_left tables.answers (condition_rows judged) one.rows rows))
        (all_left (IsHere tables number functions) (expr_code tables inside.owner cond).inside _
        form)) rows
        (block_ok_of (in_loop inside) state body one of_body init vars
        (rows_right tables.answers (condition_rows judged) one.rows rows)
        (all_right (IsHere tables number functions) (expr_code tables inside.owner cond).inside _
        form)))
    stmt_ok inside state stmt left (is.switch _ _ at subject arms other judged armed last of_subject
        of_cases of_other) init vars rows here =
        stmt_by inside.owner inside.only state _ _ _
        (eq.fold_stmt-Switch (code_steps tables inside.owner) at subject arms other) here
        (λ form.
        let inner = rows_left tables.answers (armed.left.rows ++ last.rows) _
        (rows_right tables.answers judged.rows _ rows) in
        let in_arms = flat_map (λ (arm : CaseCode). arm.body.inside)
        (map (fold_case_arm (code_steps tables inside.owner)) arms) in
        let before = all_left (IsHere tables number functions)
        ((expr_code tables inside.owner subject).inside ++ in_arms)
        (inside_of (option_map (fold_block (code_steps tables inside.owner)) other)) form in
        subst (λ has. StmtOk tables number functions inside.owner inside.only state
        (stmt_layer tables (layer.Switch at (expr_code tables inside.owner subject)
        (map (fold_case_arm (code_steps tables inside.owner)) arms)
        (option_map (fold_block (code_steps tables inside.owner)) other)))
        (switch_left (cases_of tables.world judged.ty) at judged armed.heads has
        (beside armed.left last)))
        (some_still (fold_block (code_steps tables inside.owner)) other)
        (switch_ok tables number functions ground inside.owner differ inside.only state at
        (expr_code tables inside.owner subject) judged
        (map (fold_case_arm (code_steps tables inside.owner)) arms)
        (option_map (fold_block (code_steps tables inside.owner)) other) armed last
        (expr_ok (setting_of inside state) false subject judged of_subject vars
        (rows_left tables.answers judged.rows _ rows)
        (all_left (IsHere tables number functions) (expr_code tables inside.owner subject).inside
        in_arms before))
        (subst (λ has. RowsHold tables.answers (switch_left (cases_of tables.world judged.ty) at
        judged armed.heads has (beside armed.left last)).rows)
        (sym (some_still (fold_block (code_steps tables inside.owner)) other)) rows)
        (cases_ok (in_switch inside) (cases_of tables.world judged.ty) state arms armed of_cases
        init
        vars (rows_left tables.answers armed.left.rows last.rows inner)
        (all_right (IsHere tables number functions) (expr_code tables inside.owner subject).inside
        in_arms before)
        (switch_well tables.answers (cases_of tables.world judged.ty) at judged armed.heads
        (is_some other) (beside armed.left last)
        (type_of_expr tables (setting_of inside state) false subject judged of_subject vars
        (rows_left tables.answers judged.rows _ rows)).0
        (type_of_expr tables (setting_of inside state) false subject judged of_subject vars
        (rows_left tables.answers judged.rows _ rows)).1 rows).each)
        (other_ok true (in_switch inside) armed.left.state other last of_other init
        (subst (VarsHold tables.answers)
        (sym (cases_vars tables.world (in_switch inside)
        (cases_of tables.world judged.ty) state arms
        armed of_cases)) vars)
        (rows_right tables.answers armed.left.rows last.rows inner)
        (all_right (IsHere tables number functions)
        ((expr_code tables inside.owner subject).inside ++ in_arms)
        (inside_of (option_map (fold_block (code_steps tables inside.owner)) other)) form))))
    stmt_ok inside state stmt left (is.return_nothing _ _ at) init vars rows here =
        stmt_by inside.owner inside.only state _ _ _
        (eq.fold_stmt-Return (code_steps tables inside.owner) at None) here
        (λ form. return_nothing_ok tables number functions inside.owner inside.only state at)
    stmt_ok inside state stmt left (is.return_of _ _ at value judged of_value) init vars rows here =
        stmt_by inside.owner inside.only state _ _ _
        (eq.fold_stmt-Return (code_steps tables inside.owner) at (Some value)) here
        (λ form. return_ok tables number functions inside.owner inside.only state at
        (expr_code tables inside.owner value) judged
        (expr_ok (setting_of inside state) _ value judged of_value vars
        (return_rows tables.answers state.returned state at judged rows) form) rows)
    stmt_ok inside state stmt left (is.break_of _ _ at) init vars rows here =
        stmt_by inside.owner inside.only state _ _ _
        (eq.fold_stmt-Break (code_steps tables inside.owner) at) here
        (λ form. break_ok tables number functions inside.owner inside.only inside state at)
    stmt_ok inside state stmt left (is.continue_of _ _ at) init vars rows here =
        stmt_by inside.owner inside.only state _ _ _
        (eq.fold_stmt-Continue (code_steps tables inside.owner) at) here
        (λ form. continue_ok tables number functions inside.owner inside.only inside state at)
    stmt_ok inside state stmt left (is.plain _ _ value judged of_value) init vars rows here =
        stmt_by inside.owner inside.only state _ _ _
        (eq.fold_stmt-Plain (code_steps tables inside.owner) value) here
        (λ form. plain_ok tables number functions inside.owner inside.only state
        (expr_code tables inside.owner value) judged
        (expr_ok (setting_of inside state) _ value judged of_value vars
        (plain_rows tables.answers inside.only state judged rows) form) rows)

    arms_ok : (inside : Inside) (state : State) (arms : List IfArm) (left : Left)
        → is.LeavesArms tables.world inside state arms left → inside.init ≡ false
        → VarsHold tables.answers state.vars → RowsHold tables.answers left.rows
        → Here (flat_map (λ (arm : IfCode). arm.inside)
        (map (fold_if_arm (code_steps tables inside.owner)) arms))
        → ArmsOk tables number functions inside.owner state
        (map (fold_if_arm (code_steps tables inside.owner)) arms) left
    arms_ok inside state arms left (is.no_arm _ _) init vars rows here =
        no_arms_ok tables number functions inside.owner state
    arms_ok inside state arms left (is.one_arm _ _ at cond body more judged one last of_cond of_body
        rest) init vars rows here =
        let head_is = eq.fold_if_arm-roll (code_steps tables inside.owner) at cond body in
        let now = subst (λ (arm : IfCode). Here (arm.inside
        ++ flat_map (λ (other : IfCode). other.inside)
        (map (fold_if_arm (code_steps tables inside.owner)) more))) head_is here in
        let both = (expr_code tables inside.owner cond).inside
        ++ (block_code tables inside.owner body).inside in
        let own = all_left (IsHere tables number functions) both _ now in
        let noted = rows_left tables.answers (arm_left state judged one).rows last.rows rows in
        subst (λ arm. ArmsOk tables number functions inside.owner state
        (arm ∷ map (fold_if_arm (code_steps tables inside.owner)) more) left) (sym head_is)
        (more_arms_ok tables number functions inside.owner state
        (expr_code tables inside.owner cond)
        judged (block_code tables inside.owner body) one
        (map (fold_if_arm (code_steps tables inside.owner)) more) last
        (expr_ok (setting_of inside state) false cond judged of_cond vars
        (rows_left tables.answers judged.rows _
        (rows_left tables.answers (condition_rows judged) one.rows noted))
        (all_left (IsHere tables number functions) (expr_code tables inside.owner cond).inside _
        own)) noted
        (block_ok_of (in_branch inside) state body one of_body init vars
        (rows_right tables.answers (condition_rows judged) one.rows noted)
        (all_right (IsHere tables number functions) (expr_code tables inside.owner cond).inside _
        own))
        (arms_ok inside (arm_left state judged one).state more last rest init vars
        (rows_right tables.answers (arm_left state judged one).rows last.rows rows)
        (all_right (IsHere tables number functions) both _ now)))

    other_ok : (ends : Bool) (inside : Inside) (state : State) (other : Option Block) (left : Left)
        → is.LeavesOtherwise tables.world ends inside state other left → inside.init ≡ false
        → VarsHold tables.answers state.vars → RowsHold tables.answers left.rows
        → Here (inside_of (option_map (fold_block (code_steps tables inside.owner)) other))
        → OtherwiseOk tables number functions inside.owner state
        (option_map (fold_block (code_steps tables inside.owner)) other) left
    other_ok ends inside state other left (is.absent _ _) init vars rows here =
        no_else_ok tables number functions inside.owner state
    other_ok ends inside state other left (is.absent_default _ _) init vars rows here =
        no_default_ok tables number functions inside.owner state
    other_ok ends inside state other left (is.present _ _ _ body one of_body) init vars rows here =
        some_block_ok tables number functions inside.owner state
        (block_code tables inside.owner body)
        one (block_ok_of (in_branch inside) state body one of_body init vars rows here)

    cases_ok : (inside : Inside) (cases : Option (List CaseShape)) (state : State)
        (arms : List CaseArm) (armed : Armed)
        → is.LeavesCases tables.world inside cases state arms armed → inside.init ≡ false
        → VarsHold tables.answers state.vars → RowsHold tables.answers armed.left.rows
        → Here (flat_map (λ (arm : CaseCode). arm.body.inside)
        (map (fold_case_arm (code_steps tables inside.owner)) arms))
        → All (HeadFits cases) armed.heads
        → CasesOk tables number functions inside.owner cases state
        (map (fold_case_arm (code_steps tables inside.owner)) arms) armed
    cases_ok inside cases state arms armed (is.no_case _ _ _) init vars rows here fit =
        no_cases_ok tables number functions inside.owner cases state
    cases_ok inside cases state arms armed (is.one_case _ _ _ name patterns body more one rest
        of_body of_more) init vars rows here fit =
        let head_is = eq.fold_case_arm-roll (code_steps tables inside.owner) name patterns body in
        let now = subst (λ (arm : CaseCode). Here (arm.body.inside
        ++ flat_map (λ (other : CaseCode). other.body.inside)
        (map (fold_case_arm (code_steps tables inside.owner)) more))) head_is here in
        let left = is.case_of cases state (is.head_of name patterns) one in
        let noted = rows_left tables.answers left.rows rest.left.rows rows in
        let new = arm_vars (is.head_of name patterns) (arm_payload cases name.id) in
        subst (λ arm. CasesOk tables number functions inside.owner cases state
        (arm ∷ map (fold_case_arm (code_steps tables inside.owner)) more) armed) (sym head_is)
        (more_cases_ok tables number functions inside.owner cases state (record {
          name = name;
          patterns = patterns;
          body = block_code tables inside.owner body;
        }) one (map (fold_case_arm (code_steps tables inside.owner)) more) rest
        (block_ok_of (in_branch inside) (is.arm_state cases state (is.head_of name patterns)) body
        one
        of_body init
        (All-append (VarHolds tables.answers) state.vars new vars
        (arm_vars_hold tables.answers (is.head_of name patterns) (arm_payload cases name.id)
        (All-head (HeadFits cases) (is.head_of name patterns) rest.heads fit)
        (rows_left tables.answers (vars_rows new) one.rows noted)))
        (rows_right tables.answers (vars_rows new) one.rows noted)
        (all_left (IsHere tables number functions) (block_code tables inside.owner body).inside _
        now)) noted
        (cases_ok inside cases left.state more rest of_more init vars
        (rows_right tables.answers left.rows rest.left.rows rows)
        (all_right (IsHere tables number functions) (block_code tables inside.owner body).inside _
        now) (All-tail (HeadFits cases) (is.head_of name patterns) rest.heads fit)))
