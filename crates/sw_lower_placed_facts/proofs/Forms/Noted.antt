-- What is noted of a tree stands among the notes of the program, and so does what is noted of its
-- parts.
use Rattle.std.proofs.Common.{◌≡◌, ℕ, Bool, List, ◌∷◌, ◌++◌, map, Option, Some, None}
use Rattle.std.proofs.Common.{subst}
use Rattle.sw_tree.specs.Keys.{arg_keys, case_arm_keys, if_arm_keys, joined}
use Rattle.sw_tree.specs.Keys.{link_keys, stmt_keys}
use Rattle.sw_tree.specs.declared.expr.Arg.{Arg, roll-Arg}
use Rattle.sw_tree.specs.declared.expr.Expr.{Expr}
use Rattle.sw_tree.specs.declared.expr.Expr.TheVariants as exprs
use Rattle.sw_tree.specs.declared.expr.Link.{Link, roll-Link}
use Rattle.sw_tree.specs.declared.name.Name.{Name}
use Rattle.sw_tree.specs.declared.operator.AssignOp.{AssignOp}
use Rattle.sw_tree.specs.declared.operator.InfixOp.{InfixOp}
use Rattle.sw_tree.specs.declared.operator.PrefixOp.{PrefixOp}
use Rattle.sw_tree.specs.declared.stmt.Block.{Block, roll-Block}
use Rattle.sw_tree.specs.declared.stmt.CaseArm.{CaseArm, roll-CaseArm}
use Rattle.sw_tree.specs.declared.stmt.IfArm.{IfArm, roll-IfArm}
use Rattle.sw_tree.specs.declared.stmt.Pattern.{Pattern}
use Rattle.sw_tree.specs.declared.stmt.Stmt.{Stmt}
use Rattle.sw_tree.specs.declared.stmt.Stmt.TheVariants as stmts
use Rattle.sw_tree.specs.declared.type_tree.TypeTree.{TypeTree}
use Rattle.sw_types.specs.declared.ty.Ty.{Ty}
use Rattle.sw_typing_rules.specs.Worlds.{World}
use Rattle.sw_typing_rules.specs.Judges.{Leaves, head_of}
use Rattle.sw_typing_rules.specs.Statements.{Left, State, arm_vars}
use Rattle.sw_typing_rules.specs.declared.scope.Inside.{Inside}
use Rattle.sw_typing_rules.specs.declared.scope.Var.{Var}
use Rattle.sw_isolation_rules.specs.Answers.{Answers}
use Rattle.sw_isolation_rules.specs.Noting.{in_await, member_notes, place_notes, see, var_notes}
use Rattle.sw_isolation_rules.specs.Noting.{word_notes}
use Rattle.sw_isolation_rules.specs.declared.note.Note.{Note}
use Rattle.sw_isolation_rules.specs.declared.uses.Context.{Context}
use Rattle.sw_tree.specs.Scopes.{each}
use Rattle.sw_lower_total_facts.proofs.Standing.NoteForms as noted
use Rattle.sw_lower_total_facts.proofs.Standing.NoteForms.{args_notes, case_arms_notes, expr_notes}
use Rattle.sw_lower_total_facts.proofs.Standing.NoteForms.{if_arms_notes, links_notes, noted_stmt}
use Rattle.sw_lower_total_facts.proofs.Standing.NoteForms.{notes_in, otherwise_notes, stmts_notes}
use Rattle.sw_lower_total_facts.proofs.Standing.ScopeForms.{all_scoped, arg_scoped, case_arm_scoped}
use Rattle.sw_lower_total_facts.proofs.Standing.ScopeForms.{if_arm_scoped, link_scoped, stmt_scoped}
use Rattle.sw_lower_total_facts.proofs.Standing.Trees as standing
use Rattle.sw_lower_placed_facts.specs.Claims.{AreNoted, BlockNoted, ExprNoted, TreeNoted}
use Rattle.sw_lower_placed_facts.specs.Hosts.{Program}
use Rattle.sw_lower_placed_facts.proofs.Uses.Noted.{noted_left, noted_right}

-- by the equation of a form
pub noted_by : (program : Program) (notes form : List Note) → notes ≡ form
    → AreNoted program notes → AreNoted program form
noted_by program notes form is noted = subst (AreNoted program) is noted

module _ (program : Program) (context : Context) (listed : List ℕ) (vars : List Var) where
  abbrev world : World
  world = program.tables.world

  abbrev answers : Answers
  answers = program.tables.answers

  abbrev pub StmtNoted : Stmt → Type 0
  StmtNoted stmt =
      TreeNoted program context vars (noted_stmt world answers context listed stmt)
      (stmt_keys stmt) (stmt_scoped stmt)

  -- lists of trees
  abbrev pub ArgsNoted : List Arg → Type 0
  ArgsNoted args =
      TreeNoted program context vars (args_notes world answers args context listed)
      (joined (map arg_keys args)) (each (map arg_scoped args))

  abbrev pub LinksNoted : List Link → Type 0
  LinksNoted links =
      TreeNoted program context vars (links_notes world answers links context listed)
      (joined (map link_keys links)) (each (map link_scoped links))

  abbrev pub StmtsNoted : List Stmt → Type 0
  StmtsNoted list =
      TreeNoted program context vars (stmts_notes world answers list context listed)
      (joined (map stmt_keys list)) (all_scoped list)

  abbrev pub ArmsNoted : List IfArm → Type 0
  ArmsNoted arms =
      TreeNoted program context vars (if_arms_notes world answers arms context listed)
      (joined (map if_arm_keys arms)) (each (map if_arm_scoped arms))

  abbrev pub CasesNoted : List CaseArm → Type 0
  CasesNoted arms =
      TreeNoted program context vars (case_arms_notes world answers arms context listed)
      (joined (map case_arm_keys arms)) (each (map case_arm_scoped arms))

  abbrev pub OtherwiseNoted : Option Block → Type 0
  OtherwiseNoted None = Unit {0}
  OtherwiseNoted (Some block) = BlockNoted program context listed vars block

  abbrev HasExpr : Expr → Type 0
  HasExpr expr = ExprNoted program context listed vars expr

  abbrev its : Expr → List Note
  its expr = expr_notes world answers context listed expr

  abbrev in_block : Block → List Note
  in_block block = notes_in world answers context listed block

  -- the notes of a form
  abbrev form : (notes other : List Note) → notes ≡ other → AreNoted program notes
      → AreNoted program other
  form notes other is noted = noted_by program notes other is noted

  abbrev left : (one other : List Note) → AreNoted program (one ++ other) → AreNoted program one
  left one other noted = noted_left program one other noted

  abbrev right : (one other : List Note) → AreNoted program (one ++ other)
      → AreNoted program other
  right one other noted = noted_right program one other noted

  -- parts of expressions
  pub member_base_noted : (base : Expr) (name : Name) → HasExpr (exprs.Member base name)
      → HasExpr base
  member_base_noted base name whole = record {
    stands = standing.member_base_stands program.tables program.notes context listed vars base name
        whole.stands;
    noted = left (its base) (member_notes world answers (see world answers base) name.at context)
        (form _ _ (noted.notes-Member world answers context listed base name) whole.noted);
  }

  pub call_args_noted : (name : Name) (args : List Arg) → HasExpr (exprs.Call name args)
      → ArgsNoted args
  call_args_noted name args whole = record {
    stands = standing.call_args_stand program.tables program.notes context listed vars name args
        whole.stands;
    noted = right (word_notes world answers context name.at)
        (args_notes world answers args context listed)
        (form _ _ (noted.notes-Call world answers context listed name args) whole.noted);
  }

  pub method_base_noted : (base : Expr) (name : Name) (args : List Arg)
      → HasExpr (exprs.Method base name args) → HasExpr base
  method_base_noted base name args whole = record {
    stands = standing.method_base_stands program.tables program.notes context listed vars base name
        args whole.stands;
    noted = left (its base) (member_notes world answers (see world answers base) name.at context)
        (left _ (args_notes world answers args context listed)
        (form _ _ (noted.notes-Method world answers context listed base name args) whole.noted));
  }

  pub method_args_noted : (base : Expr) (name : Name) (args : List Arg)
      → HasExpr (exprs.Method base name args) → ArgsNoted args
  method_args_noted base name args whole = record {
    stands = standing.method_args_stand program.tables program.notes context listed vars base name
        args whole.stands;
    noted = right (its base ++ member_notes world answers (see world answers base) name.at context)
        (args_notes world answers args context listed)
        (form _ _ (noted.notes-Method world answers context listed base name args) whole.noted);
  }

  pub chain_first_noted : (first : Expr) (rest : List Link) → HasExpr (exprs.Chain first rest)
      → HasExpr first
  chain_first_noted first rest whole = record {
    stands = standing.chain_first_stands program.tables program.notes context listed vars first rest
        whole.stands;
    noted = left (its first) (links_notes world answers rest context listed)
        (form _ _ (noted.notes-Chain world answers context listed first rest) whole.noted);
  }

  pub chain_rest_noted : (first : Expr) (rest : List Link) → HasExpr (exprs.Chain first rest)
      → LinksNoted rest
  chain_rest_noted first rest whole = record {
    stands = standing.chain_rest_stand program.tables program.notes context listed vars first rest
        whole.stands;
    noted = right (its first) (links_notes world answers rest context listed)
        (form _ _ (noted.notes-Chain world answers context listed first rest) whole.noted);
  }

  pub prefix_inner_noted : (op : PrefixOp) (at : ℕ) (inner : Expr)
      → HasExpr (exprs.Prefix op at inner) → HasExpr inner
  prefix_inner_noted op at inner whole = record {
    stands = standing.prefix_inner_stands program.tables program.notes context listed vars op at
        inner whole.stands;
    noted = form _ _ (noted.notes-Prefix world answers context listed op at inner) whole.noted;
  }

  pub await_inner_noted : (at : ℕ) (inner : Expr) → HasExpr (exprs.Await at inner)
      → ExprNoted program (in_await context) listed vars inner
  await_inner_noted at inner whole = record {
    stands = standing.await_inner_stands program.tables program.notes context listed vars at inner
        whole.stands;
    noted = form _ _ (noted.notes-Await world answers context listed at inner) whole.noted;
  }

  -- the first of a list and those after it
  pub args_first_noted : (label : Option Name) (value : Expr) (args : List Arg)
      → ArgsNoted (roll-Arg (record { label = label; value = value }) ∷ args) → HasExpr value
  args_first_noted label value args whole = record {
    stands = standing.args_first_stands program.tables program.notes context listed vars label value
        args whole.stands;
    noted = form _ _ (noted.notes-arg world answers context listed label value)
        (left _ (args_notes world answers args context listed) whole.noted);
  }

  pub args_more_noted : (arg : Arg) (args : List Arg) → ArgsNoted (arg ∷ args) → ArgsNoted args
  args_more_noted arg args whole = record {
    stands = standing.args_more_stand program.tables program.notes context listed vars arg args
        whole.stands;
    noted = right _ (args_notes world answers args context listed) whole.noted;
  }

  pub links_first_noted : (op : InfixOp) (at : ℕ) (operand : Expr) (links : List Link)
      → LinksNoted (roll-Link (record { op = op; at = at; operand = operand }) ∷ links)
      → HasExpr operand
  links_first_noted op at operand links whole = record {
    stands = standing.links_first_stands program.tables program.notes context listed vars op at
        operand links whole.stands;
    noted = form _ _ (noted.notes-link world answers context listed op at operand)
        (left _ (links_notes world answers links context listed) whole.noted);
  }

  pub links_more_noted : (link : Link) (links : List Link) → LinksNoted (link ∷ links)
      → LinksNoted links
  links_more_noted link links whole = record {
    stands = standing.links_more_stand program.tables program.notes context listed vars link links
        whole.stands;
    noted = right _ (links_notes world answers links context listed) whole.noted;
  }

  -- parts of statements
  pub bind_value_noted : (mutable : Bool) (name : Name) (ty : Option TypeTree) (value : Expr)
      → StmtNoted (stmts.Bind mutable name ty value) → HasExpr value
  bind_value_noted mutable name ty value whole = record {
    stands = standing.bind_value_stands program.tables program.notes context listed vars mutable
        name ty value whole.stands;
    noted = right (var_notes mutable name.at) (its value)
        (form _ _ (noted.notes-Bind world answers context listed mutable name ty value)
        whole.noted);
  }

  pub assign_value_noted : (at : ℕ) (op : AssignOp) (place value : Expr)
      → StmtNoted (stmts.Assign at op place value) → HasExpr value
  assign_value_noted at op place value whole = record {
    stands = standing.assign_value_stands program.tables program.notes context listed vars at op
        place value whole.stands;
    noted = right (place_notes world answers op (see world answers place) context listed)
        (its value)
        (form _ _ (noted.notes-Assign world answers context listed at op place value) whole.noted);
  }

  pub discard_value_noted : (at : ℕ) (value : Expr) → StmtNoted (stmts.Discard at value)
      → HasExpr value
  discard_value_noted at value whole = record {
    stands = standing.discard_value_stands program.tables program.notes context listed vars at value
        whole.stands;
    noted = form _ _ (noted.notes-Discard world answers context listed at value) whole.noted;
  }

  pub return_value_noted : (at : ℕ) (value : Expr) → StmtNoted (stmts.Return at (Some value))
      → HasExpr value
  return_value_noted at value whole = record {
    stands = standing.return_value_stands program.tables program.notes context listed vars at value
        whole.stands;
    noted = form _ _ (noted.notes-Return world answers context listed at value) whole.noted;
  }

  pub plain_value_noted : (value : Expr) → StmtNoted (stmts.Plain value) → HasExpr value
  plain_value_noted value whole = record {
    stands = standing.plain_value_stands program.tables program.notes context listed vars value
        whole.stands;
    noted = form _ _ (noted.notes-Plain world answers context listed value) whole.noted;
  }

  pub while_cond_noted : (at : ℕ) (cond : Expr) (body : Block)
      → StmtNoted (stmts.While at cond body) → HasExpr cond
  while_cond_noted at cond body whole = record {
    stands = standing.while_cond_stands program.tables program.notes context listed vars at cond
        body whole.stands;
    noted = left (its cond) (in_block body) (form _ _
        (noted.notes-While world answers context listed at cond body) whole.noted);
  }

  pub while_body_noted : (at : ℕ) (cond : Expr) (body : Block)
      → StmtNoted (stmts.While at cond body) → BlockNoted program context listed vars body
  while_body_noted at cond body whole = record {
    stands = standing.while_body_stands program.tables program.notes context listed vars at cond
        body whole.stands;
    noted = right (its cond) (in_block body) (form _ _
        (noted.notes-While world answers context listed at cond body) whole.noted);
  }

  pub if_arms_noted : (arms : List IfArm) (otherwise : Option Block)
      → StmtNoted (stmts.If arms otherwise) → ArmsNoted arms
  if_arms_noted arms otherwise whole = record {
    stands = standing.if_arms_stand program.tables program.notes context listed vars arms otherwise
        whole.stands;
    noted = left (if_arms_notes world answers arms context listed)
        (otherwise_notes world answers otherwise context listed)
        (form _ _ (noted.notes-If world answers context listed arms otherwise) whole.noted);
  }

  pub if_body_noted : (arms : List IfArm) (body : Block) → StmtNoted (stmts.If arms (Some body))
      → BlockNoted program context listed vars body
  if_body_noted arms body whole = record {
    stands = standing.if_otherwise_stands program.tables program.notes context listed vars arms body
        whole.stands;
    noted = right (if_arms_notes world answers arms context listed) (in_block body)
        (form _ _ (noted.notes-If world answers context listed arms (Some body)) whole.noted);
  }

  pub switch_subject_noted : (at : ℕ) (subject : Expr) (arms : List CaseArm)
      (otherwise : Option Block) → StmtNoted (stmts.Switch at subject arms otherwise)
      → HasExpr subject
  switch_subject_noted at subject arms otherwise whole = record {
    stands = standing.switch_subject_stands program.tables program.notes context listed vars at
        subject arms otherwise whole.stands;
    noted = left (its subject) (case_arms_notes world answers arms context listed)
        (left _ (otherwise_notes world answers otherwise context listed)
        (form _ _ (noted.notes-Switch world answers context listed at subject arms otherwise)
        whole.noted));
  }

  pub switch_arms_noted : (at : ℕ) (subject : Expr) (arms : List CaseArm) (otherwise : Option Block)
      → StmtNoted (stmts.Switch at subject arms otherwise) → CasesNoted arms
  switch_arms_noted at subject arms otherwise whole = record {
    stands = standing.switch_arms_stand program.tables program.notes context listed vars at subject
        arms otherwise whole.stands;
    noted = right (its subject) (case_arms_notes world answers arms context listed)
        (left _ (otherwise_notes world answers otherwise context listed)
        (form _ _ (noted.notes-Switch world answers context listed at subject arms otherwise)
        whole.noted));
  }

  pub switch_body_noted : (at : ℕ) (subject : Expr) (arms : List CaseArm) (body : Block)
      → StmtNoted (stmts.Switch at subject arms (Some body))
      → BlockNoted program context listed vars body
  switch_body_noted at subject arms body whole = record {
    stands = standing.switch_otherwise_stands program.tables program.notes context listed vars at
        subject arms body whole.stands;
    noted = right _ (in_block body) (form _ _
        (noted.notes-Switch world answers context listed at subject arms (Some body)) whole.noted);
  }

  -- the first arm and those after it
  pub arm_cond_noted : (at : ℕ) (cond : Expr) (body : Block) (arms : List IfArm)
      → ArmsNoted (roll-IfArm (record { at = at; cond = cond; body = body }) ∷ arms) → HasExpr cond
  arm_cond_noted at cond body arms whole = record {
    stands = standing.if_arm_cond_stands program.tables program.notes context listed vars at cond
        body arms whole.stands;
    noted = left (its cond) (in_block body)
        (form _ _ (noted.notes-if_arm world answers context listed at cond body)
        (left _ (if_arms_notes world answers arms context listed) whole.noted));
  }

  pub arm_body_noted : (at : ℕ) (cond : Expr) (body : Block) (arms : List IfArm)
      → ArmsNoted (roll-IfArm (record { at = at; cond = cond; body = body }) ∷ arms)
      → BlockNoted program context listed vars body
  arm_body_noted at cond body arms whole = record {
    stands = standing.if_arm_body_stands program.tables program.notes context listed vars at cond
        body arms whole.stands;
    noted = right (its cond) (in_block body)
        (form _ _ (noted.notes-if_arm world answers context listed at cond body)
        (left _ (if_arms_notes world answers arms context listed) whole.noted));
  }

  pub arms_more_noted : (arm : IfArm) (arms : List IfArm) → ArmsNoted (arm ∷ arms) → ArmsNoted arms
  arms_more_noted arm arms whole = record {
    stands = standing.if_arms_more_stand program.tables program.notes context listed vars arm arms
        whole.stands;
    noted = right _ (if_arms_notes world answers arms context listed) whole.noted;
  }

  pub cases_more_noted : (arm : CaseArm) (arms : List CaseArm) → CasesNoted (arm ∷ arms)
      → CasesNoted arms
  cases_more_noted arm arms whole = record {
    stands = standing.case_arms_more_stand program.tables program.notes context listed vars arm arms
        whole.stands;
    noted = right _ (case_arms_notes world answers arms context listed) whole.noted;
  }

  pub case_body_noted : (name : Name) (patterns : List Pattern) (body : Block) (arms : List CaseArm)
      (payload : Option (List Ty)) → CasesNoted
      (roll-CaseArm (record { name = name; patterns = patterns; body = body }) ∷ arms)
      → BlockNoted program context listed (vars ++ arm_vars (head_of name patterns) payload) body
  case_body_noted name patterns body arms payload whole = record {
    stands = standing.case_arm_body_stands program.tables program.notes context listed vars name
        patterns body arms payload whole.stands;
    noted = form _ _ (noted.notes-case_arm world answers context listed name patterns body)
        (left _ (case_arms_notes world answers arms context listed) whole.noted);
  }

  -- the statements of a block
  pub block_stmts_noted : (list : List Stmt) → BlockNoted program context listed vars
      (roll-Block (record { stmts = list })) → StmtsNoted list
  block_stmts_noted list whole = record {
    stands = standing.block_stmts_stand program.tables program.notes context listed vars list
        whole.stands;
    noted = form _ _ (noted.notes-block world answers context listed list) whole.noted;
  }

  pub stmts_first_noted : (stmt : Stmt) (list : List Stmt) → StmtsNoted (stmt ∷ list)
      → StmtNoted stmt
  stmts_first_noted stmt list whole = record {
    stands = standing.stmts_first_stands program.tables program.notes context listed vars stmt list
        whole.stands;
    noted = left _ (stmts_notes world answers list context listed) whole.noted;
  }

  -- an `else` and a `default`
  pub if_otherwise_noted : (arms : List IfArm) (otherwise : Option Block)
      → StmtNoted (stmts.If arms otherwise) → OtherwiseNoted otherwise
  if_otherwise_noted arms None whole = tt
  if_otherwise_noted arms (Some body) whole = if_body_noted arms body whole

  pub switch_otherwise_noted : (at : ℕ) (subject : Expr) (arms : List CaseArm)
      (otherwise : Option Block) → StmtNoted (stmts.Switch at subject arms otherwise)
      → OtherwiseNoted otherwise
  switch_otherwise_noted at subject arms None whole = tt
  switch_otherwise_noted at subject arms (Some body) whole =
      switch_body_noted at subject arms body whole

-- the statements after one, with the variables that are seen then
pub stmts_after_noted : (program : Program) (context : Context) (listed : List ℕ)
    (inside : Inside) (state : State) (stmt : Stmt) (list : List Stmt) (after : Left)
    → Leaves program.tables.world inside state stmt after
    → StmtsNoted program context listed state.vars (stmt ∷ list)
    → StmtsNoted program context listed after.state.vars list
stmts_after_noted program context listed inside state stmt list after leaves whole = record {
  stands = standing.stmts_after_stand program.tables program.notes context listed inside state
      stmt list after leaves whole.stands;
  noted = noted_right program _
      (stmts_notes program.tables.world program.tables.answers list context listed) whole.noted;
}
