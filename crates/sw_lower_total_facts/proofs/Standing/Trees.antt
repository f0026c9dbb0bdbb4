-- Where a tree stands, its parts stand.
use Rattle.std.proofs.Common.{ℕ, Bool, List, [], ◌∷◌, ◌++◌, map, flat_map, Option, Some}
use Rattle.std.proofs.Common.{Contains, nat_eq, ap, sym, subst, ◌∙◌}
use Rattle.std.specs.List.{IsDistinct}
use Rattle.std.specs.Prelude.{◌≢◌}
use Rattle.std.proofs.lemmas.List.Elements.{Contains-append_right}
use Rattle.sw_tree.specs.Keys.{Keys, arg_keys, block_keys, case_arm_keys, expr_keys, if_arm_keys}
use Rattle.sw_tree.specs.Keys.{joined, link_keys, pattern_keys, stmt_keys}
use Rattle.sw_tree.specs.declared.expr.Arg.{Arg, roll-Arg}
use Rattle.sw_tree.specs.declared.expr.ClosureParam.{ClosureParam}
use Rattle.sw_tree.specs.declared.expr.Expr.{Expr}
use Rattle.sw_tree.specs.declared.expr.Expr.TheVariants as exprs
use Rattle.sw_tree.specs.declared.expr.Link.{Link, roll-Link}
use Rattle.sw_tree.specs.declared.name.Name.{Name}
use Rattle.sw_tree.specs.declared.operator.AssignOp.{AssignOp}
use Rattle.sw_tree.specs.declared.operator.AssignOp.TheVariants as assigns
use Rattle.sw_tree.specs.declared.operator.InfixOp.{InfixOp}
use Rattle.sw_tree.specs.declared.operator.PrefixOp.{PrefixOp}
use Rattle.sw_tree.specs.declared.stmt.Block.{Block, roll-Block}
use Rattle.sw_tree.specs.declared.stmt.CaseArm.{CaseArm, roll-CaseArm}
use Rattle.sw_tree.specs.declared.stmt.IfArm.{IfArm, roll-IfArm}
use Rattle.sw_tree.specs.declared.stmt.Pattern.{Pattern}
use Rattle.sw_tree.specs.declared.stmt.Stmt.{Stmt}
use Rattle.sw_tree.specs.declared.stmt.Stmt.TheVariants as stmts
use Rattle.sw_tree.specs.declared.type_tree.TypeTree.{TypeTree}
use Rattle.sw_types.specs.declared.ty.Ty.{Ty}
use Rattle.sw_typing_rules.specs.Judges.{Leaves, closure_of, head_of}
use Rattle.sw_typing_rules.specs.Statements.{Left, State, arm_vars, closure_vars, param_var}
use Rattle.sw_typing_rules.specs.declared.scope.Inside.{Inside}
use Rattle.sw_typing_rules.specs.declared.scope.Var.{Var}
use Rattle.sw_isolation_rules.specs.Captures.{self_of}
use Rattle.sw_isolation_rules.specs.Noting.{block_notes, in_await, with_list}
use Rattle.sw_isolation_rules.specs.declared.note.Note.{Note}
use Rattle.sw_isolation_rules.specs.declared.uses.Context.{Context}
use Rattle.sw_tree.proofs.KeyEquations as keys
use Rattle.sw_lower_rules.specs.Tables.{Tables}
use Rattle.sw_lower_total_facts.specs.Bound.{sight_in}
use Rattle.sw_lower_total_facts.specs.Noted.{StandsInText, keys_of}
use Rattle.sw_tree.specs.Scopes.{Scoped, block_scoped, declaring, each, expr_scoped}
use Rattle.sw_lower_total_facts.proofs.Mentions.Closures.{names_of, params_named}
use Rattle.sw_lower_total_facts.proofs.Mentions.Declared.{AreNamed, patterns_named}
use Rattle.sw_lower_total_facts.proofs.Mentions.Declared.{stmt_declares}
use Rattle.sw_tree.proofs.ScopeCounts.{params_are, patterns_are}
use Rattle.sw_tree.proofs.Members.{of_map}
use Rattle.sw_lower_total_facts.proofs.Standing.Closures.{fun_body, head_keys, list_keys, param_keys}
use Rattle.sw_lower_total_facts.proofs.Standing.Closures.{spawn_body}
use Rattle.sw_lower_total_facts.proofs.Standing.Expressions as exps
use Rattle.sw_lower_total_facts.proofs.Standing.NoteForms.{args_notes, case_arms_notes, expr_notes}
use Rattle.sw_lower_total_facts.proofs.Standing.NoteForms.{fun_inside, if_arms_notes, links_notes}
use Rattle.sw_lower_total_facts.proofs.Standing.NoteForms.{noted_stmt, notes_in, stmts_notes, task_inside}
use Rattle.sw_lower_total_facts.proofs.Standing.Parts.{IsPart, later_apart, not_later, part_stands}
use Rattle.sw_lower_total_facts.proofs.Standing.ScopeForms.{all_scoped, arg_scoped, case_arm_scoped}
use Rattle.sw_lower_total_facts.proofs.Standing.ScopeForms.{if_arm_scoped, link_scoped, patterns_names}
use Rattle.sw_lower_total_facts.proofs.Standing.ScopeForms.{stmt_scoped, stmt_stated}
use Rattle.sw_lower_total_facts.proofs.Standing.Seen.{closed_stands, declared_stands, named_among}
use Rattle.sw_lower_total_facts.proofs.Standing.Seen.{stmt_among}
use Rattle.sw_lower_total_facts.proofs.Standing.Statements as stats

module _ (tables : Tables) (all : List Note) where
  -- where trees stand, in a context and with the variables that are seen there
  module _ (context : Context) (listed : List ℕ) (vars : List Var) where
    abbrev pub StandsHere : List Note → Keys → Scoped → Type 0
    StandsHere notes keys scoped =
        StandsInText all (sight_in tables context.owner vars) notes keys scoped

    abbrev pub StandsExpr : Expr → Type 0
    StandsExpr expr =
        StandsHere (expr_notes tables.world tables.answers context listed expr) (expr_keys expr)
        (expr_scoped expr)

    abbrev pub StandsBlock : Block → Type 0
    StandsBlock block =
        StandsHere (notes_in tables.world tables.answers context listed block) (block_keys block)
        (block_scoped block)

    abbrev pub StandsStmt : Stmt → Type 0
    StandsStmt stmt =
        StandsHere (noted_stmt tables.world tables.answers context listed stmt) (stmt_keys stmt)
        (stmt_scoped stmt)

    -- where lists of trees stand
    abbrev pub StandArgs : List Arg → Type 0
    StandArgs args =
        StandsHere (args_notes tables.world tables.answers args context listed)
        (joined (map arg_keys args)) (each (map arg_scoped args))

    abbrev pub StandLinks : List Link → Type 0
    StandLinks links =
        StandsHere (links_notes tables.world tables.answers links context listed)
        (joined (map link_keys links)) (each (map link_scoped links))

    abbrev pub StandStmts : List Stmt → Type 0
    StandStmts list =
        StandsHere (stmts_notes tables.world tables.answers list context listed)
        (joined (map stmt_keys list)) (all_scoped list)

    abbrev pub StandIfArms : List IfArm → Type 0
    StandIfArms arms =
        StandsHere (if_arms_notes tables.world tables.answers arms context listed)
        (joined (map if_arm_keys arms)) (each (map if_arm_scoped arms))

    abbrev pub StandCaseArms : List CaseArm → Type 0
    StandCaseArms arms =
        StandsHere (case_arms_notes tables.world tables.answers arms context listed)
        (joined (map case_arm_keys arms)) (each (map case_arm_scoped arms))

    -- a part of what stands here
    here : (notes : List Note) (keys : Keys) (scoped : Scoped) (part : List Note)
        (part_keys : Keys) (part_scoped : Scoped)
        → IsPart notes keys scoped part part_keys part_scoped → StandsHere notes keys scoped
        → StandsHere part part_keys part_scoped
    here = part_stands all (sight_in tables context.owner vars)

    pub member_base_stands : (base : Expr) (name : Name) → StandsExpr (exprs.Member base name)
        → StandsExpr base
    member_base_stands base name =
        here _ _ _ _ _ _ (exps.member_base tables.world tables.answers context listed base name)

    pub call_args_stand : (name : Name) (args : List Arg) → StandsExpr (exprs.Call name args)
        → StandArgs args
    call_args_stand name args =
        here _ _ _ _ _ _ (exps.call_args tables.world tables.answers context listed name args)

    pub method_base_stands : (base : Expr) (name : Name) (args : List Arg)
        → StandsExpr (exprs.Method base name args) → StandsExpr base
    method_base_stands base name args =
        here _ _ _ _ _ _
        (exps.method_base tables.world tables.answers context listed base name args)

    pub method_args_stand : (base : Expr) (name : Name) (args : List Arg)
        → StandsExpr (exprs.Method base name args) → StandArgs args
    method_args_stand base name args =
        here _ _ _ _ _ _
        (exps.method_args tables.world tables.answers context listed base name args)

    pub chain_first_stands : (first : Expr) (rest : List Link)
        → StandsExpr (exprs.Chain first rest) → StandsExpr first
    chain_first_stands first rest =
        here _ _ _ _ _ _ (exps.chain_first tables.world tables.answers context listed first rest)

    pub chain_rest_stand : (first : Expr) (rest : List Link)
        → StandsExpr (exprs.Chain first rest) → StandLinks rest
    chain_rest_stand first rest =
        here _ _ _ _ _ _ (exps.chain_rest tables.world tables.answers context listed first rest)

    pub prefix_inner_stands : (op : PrefixOp) (at : ℕ) (inner : Expr)
        → StandsExpr (exprs.Prefix op at inner) → StandsExpr inner
    prefix_inner_stands op at inner =
        here _ _ _ _ _ _ (exps.prefix_inner tables.world tables.answers context listed op at inner)

    pub await_inner_stands : (at : ℕ) (inner : Expr) → StandsExpr (exprs.Await at inner)
        → StandsInText all (sight_in tables context.owner vars)
        (expr_notes tables.world tables.answers (in_await context) listed inner) (expr_keys inner)
        (expr_scoped inner)
    await_inner_stands at inner =
        here _ _ _ _ _ _ (exps.await_inner tables.world tables.answers context listed at inner)

    -- the first argument and those after it
    pub args_first_stands : (label : Option Name) (value : Expr) (args : List Arg)
        → StandArgs (roll-Arg (record { label = label; value = value }) ∷ args)
        → StandsExpr value
    args_first_stands label value args =
        here _ _ _ _ _ _
        (exps.args_first tables.world tables.answers context listed label value args)

    pub args_more_stand : (arg : Arg) (args : List Arg) → StandArgs (arg ∷ args) → StandArgs args
    args_more_stand arg args =
        here _ _ _ _ _ _ (exps.args_more tables.world tables.answers context listed arg args)

    -- the first operator's operand, and the operators after it
    pub links_first_stands : (op : InfixOp) (at : ℕ) (operand : Expr) (links : List Link)
        → StandLinks (roll-Link (record { op = op; at = at; operand = operand }) ∷ links)
        → StandsExpr operand
    links_first_stands op at operand links =
        here _ _ _ _ _ _
        (exps.links_first tables.world tables.answers context listed op at operand links)

    pub links_more_stand : (link : Link) (links : List Link) → StandLinks (link ∷ links)
        → StandLinks links
    links_more_stand link links =
        here _ _ _ _ _ _ (exps.links_more tables.world tables.answers context listed link links)

    -- the parts of statements
    pub bind_value_stands : (mutable : Bool) (name : Name) (ty : Option TypeTree) (value : Expr)
        → StandsStmt (stmts.Bind mutable name ty value) → StandsExpr value
    bind_value_stands mutable name ty value =
        here _ _ _ _ _ _
        (stats.bind_value tables.world tables.answers context listed mutable name ty value)

    pub assign_value_stands : (at : ℕ) (op : AssignOp) (place value : Expr)
        → StandsStmt (stmts.Assign at op place value) → StandsExpr value
    assign_value_stands at op place value =
        here _ _ _ _ _ _
        (stats.assign_value tables.world tables.answers context listed at op place value)

    pub set_base_stands : (at : ℕ) (base : Expr) (name : Name) (value : Expr)
        → StandsStmt (stmts.Assign at assigns.Set (exprs.Member base name) value)
        → StandsExpr base
    set_base_stands at base name value =
        here _ _ _ _ _ _
        (stats.set_base tables.world tables.answers context listed at base name value)

    -- a place that is read too
    pub change_place_stands : (at : ℕ) (op : AssignOp) (place value : Expr) → op ≢ assigns.Set
        → StandsStmt (stmts.Assign at op place value) → StandsExpr place
    change_place_stands at op place value other =
        here _ _ _ _ _ _
        (stats.change_place tables.world tables.answers context listed at op place value other)

    pub discard_value_stands : (at : ℕ) (value : Expr) → StandsStmt (stmts.Discard at value)
        → StandsExpr value
    discard_value_stands at value =
        here _ _ _ _ _ _ (stats.discard_value tables.world tables.answers context listed at value)

    pub return_value_stands : (at : ℕ) (value : Expr) → StandsStmt (stmts.Return at (Some value))
        → StandsExpr value
    return_value_stands at value =
        here _ _ _ _ _ _ (stats.return_value tables.world tables.answers context listed at value)

    pub plain_value_stands : (value : Expr) → StandsStmt (stmts.Plain value) → StandsExpr value
    plain_value_stands value =
        here _ _ _ _ _ _ (stats.plain_value tables.world tables.answers context listed value)

    pub while_cond_stands : (at : ℕ) (cond : Expr) (body : Block)
        → StandsStmt (stmts.While at cond body) → StandsExpr cond
    while_cond_stands at cond body =
        here _ _ _ _ _ _ (stats.while_cond tables.world tables.answers context listed at cond body)

    pub while_body_stands : (at : ℕ) (cond : Expr) (body : Block)
        → StandsStmt (stmts.While at cond body) → StandsBlock body
    while_body_stands at cond body =
        here _ _ _ _ _ _ (stats.while_body tables.world tables.answers context listed at cond body)

    pub if_arms_stand : (arms : List IfArm) (otherwise : Option Block)
        → StandsStmt (stmts.If arms otherwise) → StandIfArms arms
    if_arms_stand arms otherwise =
        here _ _ _ _ _ _ (stats.if_arms tables.world tables.answers context listed arms otherwise)

    pub if_otherwise_stands : (arms : List IfArm) (body : Block)
        → StandsStmt (stmts.If arms (Some body)) → StandsBlock body
    if_otherwise_stands arms body =
        here _ _ _ _ _ _ (stats.if_otherwise tables.world tables.answers context listed arms body)

    pub if_arm_cond_stands : (at : ℕ) (cond : Expr) (body : Block) (arms : List IfArm)
        → StandIfArms (roll-IfArm (record { at = at; cond = cond; body = body }) ∷ arms)
        → StandsExpr cond
    if_arm_cond_stands at cond body arms =
        here _ _ _ _ _ _
        (stats.if_arm_cond tables.world tables.answers context listed at cond body arms)

    pub if_arm_body_stands : (at : ℕ) (cond : Expr) (body : Block) (arms : List IfArm)
        → StandIfArms (roll-IfArm (record { at = at; cond = cond; body = body }) ∷ arms)
        → StandsBlock body
    if_arm_body_stands at cond body arms =
        here _ _ _ _ _ _
        (stats.if_arm_body tables.world tables.answers context listed at cond body arms)

    pub if_arms_more_stand : (arm : IfArm) (arms : List IfArm) → StandIfArms (arm ∷ arms)
        → StandIfArms arms
    if_arms_more_stand arm arms =
        here _ _ _ _ _ _ (stats.if_arms_more tables.world tables.answers context listed arm arms)

    pub switch_subject_stands : (at : ℕ) (subject : Expr) (arms : List CaseArm)
        (otherwise : Option Block) → StandsStmt (stmts.Switch at subject arms otherwise)
        → StandsExpr subject
    switch_subject_stands at subject arms otherwise =
        here _ _ _ _ _ _
        (stats.switch_subject tables.world tables.answers context listed at subject arms otherwise)

    pub switch_arms_stand : (at : ℕ) (subject : Expr) (arms : List CaseArm)
        (otherwise : Option Block) → StandsStmt (stmts.Switch at subject arms otherwise)
        → StandCaseArms arms
    switch_arms_stand at subject arms otherwise =
        here _ _ _ _ _ _
        (stats.switch_arms tables.world tables.answers context listed at subject arms otherwise)

    pub switch_otherwise_stands : (at : ℕ) (subject : Expr) (arms : List CaseArm) (body : Block)
        → StandsStmt (stmts.Switch at subject arms (Some body)) → StandsBlock body
    switch_otherwise_stands at subject arms body =
        here _ _ _ _ _ _
        (stats.switch_otherwise tables.world tables.answers context listed at subject arms body)

    pub case_arms_more_stand : (arm : CaseArm) (arms : List CaseArm) → StandCaseArms (arm ∷ arms)
        → StandCaseArms arms
    case_arms_more_stand arm arms =
        here _ _ _ _ _ _ (stats.case_arms_more tables.world tables.answers context listed arm arms)

    -- the statements of a block, and the first of statements
    pub block_stmts_stand : (list : List Stmt)
        → StandsBlock (roll-Block (record { stmts = list })) → StandStmts list
    block_stmts_stand list =
        here _ _ _ _ _ _ (stats.block_stmts tables.world tables.answers context listed list)

    pub stmts_first_stands : (stmt : Stmt) (list : List Stmt) → StandStmts (stmt ∷ list)
        → StandsStmt stmt
    stmts_first_stands stmt list =
        here _ _ _ _ _ _ (stats.stmts_first tables.world tables.answers context listed stmt list)

    -- The statements after the first stand where its variables are seen too.
    pub stmts_more_stand : (stmt : Stmt) (list : List Stmt) (more : List Var)
        → AreNamed more (stmt_stated stmt).names
        → ((key : ℕ) → Contains (keys_of more) key → Contains (stmt_keys stmt) key)
        → StandStmts (stmt ∷ list)
        → StandsInText all (sight_in tables context.owner (vars ++ more))
        (stmts_notes tables.world tables.answers list context listed) (joined (map stmt_keys list))
        (all_scoped list)
    stmts_more_stand stmt list more named among stands =
        declared_stands all (self_of tables.world context.owner) vars more (stmt_stated stmt).names
        _ _ _ named
        (λ key has.
        not_later (stmt_keys stmt) (joined (map stmt_keys list)) key stands.apart (among key has))
        (here _ _ _ _ _ _
        (stats.stmts_more tables.world tables.answers context listed stmt list) stands)

    -- The body of an arm stands where the variables of its patterns are seen too.
    pub case_arm_body_stands : (name : Name) (patterns : List Pattern) (body : Block)
        (arms : List CaseArm) (payload : Option (List Ty))
        → StandCaseArms
        (roll-CaseArm (record { name = name; patterns = patterns; body = body }) ∷ arms)
        → StandsInText all
        (sight_in tables context.owner (vars ++ arm_vars (head_of name patterns) payload))
        (notes_in tables.world tables.answers context listed body) (block_keys body)
        (block_scoped body)
    case_arm_body_stands name patterns body arms payload stands =
        declared_stands all (self_of tables.world context.owner) vars
        (arm_vars (head_of name patterns) payload) (patterns_names patterns) _ _ _
        (patterns_named patterns _)
        (λ key has.
        not_later (flat_map pattern_keys patterns) (block_keys body) key whole.apart
        (subst (λ list. Contains list key) (patterns_are patterns)
        (named_among (arm_vars (head_of name patterns) payload) (patterns_names patterns)
        (patterns_named patterns _) key has)))
        (here _ _ _ _ _ _
        (stats.case_arm_body tables.world tables.answers context listed name patterns body arms)
        stands) where
          whole : StandsHere (notes_in tables.world tables.answers context listed body)
              (flat_map pattern_keys patterns ++ block_keys body)
              (declaring (patterns_names patterns) [] (block_scoped body))
          whole = here _ _ _ _ _ _
              (stats.case_arm_whole tables.world tables.answers context listed name patterns body
              arms) stands

    -- Parameters are declared before the body.
    params_apart : (at : ℕ) (captures : List Name) (params : List ClosureParam) (body : Block)
        → IsDistinct nat_eq (head_keys at captures params ++ block_keys body) → (key : ℕ)
        → Contains (keys_of (map (param_var tables.world) params)) key
        → ¬ Contains (block_keys body) key
    params_apart at captures params body apart key has =
        not_later (head_keys at captures params) (block_keys body) key apart
        (Contains-append_right (at ∷ list_keys captures) (param_keys params) key
        (subst (λ list. Contains list key) (params_are params)
        (named_among (map (param_var tables.world) params) (names_of params)
        (params_named tables.world params) key has)))

    -- The bodies of closures and tasks stand in contexts of their own.
    pub fun_body_stands : (at : ℕ) (mark : Option Name) (captures : List Name)
        (params : List ClosureParam) (result : Option TypeTree) (body : Block)
        → StandsExpr (exprs.Fun (closure_of at mark captures params result body))
        → StandsInText all
        (sight_in tables context.owner (closure_vars tables.world vars captures params))
        (block_notes tables.world tables.answers body
        (fun_inside tables.world tables.answers context listed at)
        (with_list tables.world tables.answers context listed captures))
        (block_keys body) (block_scoped body)
    fun_body_stands at mark captures params result body stands =
        closed_stands tables.world all (self_of tables.world context.owner) vars at captures params
        _ _ _
        (here _ _ _ _ _ _
        (fun_body tables.world tables.answers listed context at mark captures params result body)
        stands)
        (params_apart at captures params body
        (subst (IsDistinct nat_eq)
        (keys.expr_keys-Fun (closure_of at mark captures params result body)
        ∙ keys.closure_keys-roll at mark captures params result body) stands.apart))

    pub spawn_body_stands : (place : ℕ) (detached : Bool) (at : ℕ) (mark : Option Name)
        (captures : List Name) (params : List ClosureParam) (result : Option TypeTree)
        (body : Block)
        → StandsExpr
        (exprs.Spawn place detached (closure_of at mark captures params result body))
        → StandsInText all
        (sight_in tables context.owner (closure_vars tables.world vars captures params))
        (block_notes tables.world tables.answers body
        (task_inside tables.world tables.answers context listed mark detached)
        (with_list tables.world tables.answers context listed captures))
        (block_keys body) (block_scoped body)
    spawn_body_stands place detached at mark captures params result body stands =
        closed_stands tables.world all (self_of tables.world context.owner) vars at captures params
        _ _ _
        (here _ _ _ _ _ _
        (spawn_body tables.world tables.answers listed context place detached at mark captures
        params result body) stands)
        (params_apart at captures params body
        (later_apart place (head_keys at captures params ++ block_keys body)
        (subst (IsDistinct nat_eq)
        (keys.expr_keys-Spawn place detached (closure_of at mark captures params result body)
        ∙ ap (λ more. place ∷ more) (keys.closure_keys-roll at mark captures params result body))
        stands.apart)))

  -- the statements after one, with the variables that are seen then
  pub stmts_after_stand : (context : Context) (listed : List ℕ) (inside : Inside) (state : State)
      (stmt : Stmt) (list : List Stmt) (left : Left) → Leaves tables.world inside state stmt left
      → StandStmts context listed state.vars (stmt ∷ list)
      → StandStmts context listed left.state.vars list
  stmts_after_stand context listed inside state stmt list left leaves stands =
      let declares = stmt_declares tables.world inside state stmt left leaves in
      subst (λ vars. StandStmts context listed vars list) (sym declares.are)
      (stmts_more_stand context listed state.vars stmt list declares.more declares.named
      (λ key has.
      let (name, among, is) = of_map (λ (name : Name). name.at) (stmt_stated stmt).names key
      (named_among declares.more (stmt_stated stmt).names declares.named key has) in
      subst (Contains (stmt_keys stmt)) is
      (stmt_among tables.world inside state stmt left leaves name among)) stands)
