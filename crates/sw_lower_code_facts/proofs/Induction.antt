-- What the steps of code have, the code of each expression and of each block has, and so do the
-- bodies in it.
use Rattle.std.proofs.Common.{ℕ, map, Option, Some, None, option_map, List, [], ◌∷◌, ◌++◌, flat_map}
use Rattle.std.proofs.Common.{sym, subst}
use Rattle.std.proofs.lemmas.List.Elements.{All-append, All-nil}
use Rattle.std.specs.List.{AllByRecursion}
use Rattle.std.specs.Prelude.{All}
use Rattle.sw_tree.specs.Folds.{Steps, fold_arg, fold_block, fold_case_arm, fold_closure, fold_expr}
use Rattle.sw_tree.specs.Folds.{fold_if_arm, fold_link, fold_stmt}
use Rattle.sw_tree.specs.declared.expr.Expr.{Expr}
use Rattle.sw_tree.specs.declared.expr.Expr.TheOpen as layer
use Rattle.sw_tree.specs.declared.operator.AssignOp.{AssignOp}
use Rattle.sw_tree.specs.declared.stmt.Block.{Block}
use Rattle.sw_tree.proofs.FoldEquations as eq
use Rattle.sw_tree.proofs.TreeInduction.{Cases, Claims, every_block, every_expr}
use Rattle.sw_tree.proofs.TreeInduction.{Given as GivenTree}
use Rattle.sw_types.specs.declared.ty.Ty.TheVariants as types
use Rattle.sw_graph.specs.declared.instr.Operand.{Operand}
use Rattle.sw_lower_code.specs.Code.{Code}
use Rattle.sw_lower_code.specs.Whole.{Body}
use Rattle.sw_lower_rules.specs.Carriers.{ArgCode, BlockCode, CaseCode, ClosureCode, ExprCode, IfCode}
use Rattle.sw_lower_rules.specs.Carriers.{LinkCode, StmtCode}
use Rattle.sw_lower_rules.specs.Expressions.{args_inside, value}
use Rattle.sw_lower_rules.specs.Statements.{block_code, code_steps, expr_code, given_part, inside_of}
use Rattle.sw_lower_rules.specs.Statements.{statement}
use Rattle.sw_lower_rules.specs.Tables.{Tables}
use Rattle.sw_lower_rules.specs.declared.targets.Targets.{Targets}
use Rattle.sw_lower_code_facts.specs.Kept.{ArgHas, GivesHave, Kept, KeptByForms, LinkHas}
use Rattle.sw_lower_code_facts.specs.Said.{ArgSo, BlockSo, BodySo, ExprSo, ForSome, ForTargets, IfSo}
use Rattle.sw_lower_code_facts.specs.Said.{LinkSo, Said, StmtSo}
use Rattle.sw_lower_code_facts.proofs.Expressions.{await_has, call_has, chain_has, member_has}
use Rattle.sw_lower_code_facts.proofs.Expressions.{method_has, prefix_has, self_has, value_has, word_has}
use Rattle.sw_lower_code_facts.proofs.Inside.{block_so, each_inside, each_so, fun_so, spawn_so}
use Rattle.sw_lower_code_facts.proofs.Uses.{has_give}

-- what is so of each item after a function is so of the list after it
pub each_mapped : {A B : Type 0} (P : B → Type 0) (f : A → B) (xs : List A)
    → AllByRecursion (λ x. P (f x)) xs → AllByRecursion P (map f xs)
each_mapped P f [] one = tt
each_mapped P f (x ∷ xs) one = (one.0, each_mapped P f xs one.1)

-- a part of what is so of each item
each_part : {A : Type 0} (P Q : A → Type 0) → ((x : A) → P x → Q x) → (xs : List A)
    → AllByRecursion P xs → AllByRecursion Q xs
each_part P Q one [] all = tt
each_part P Q one (x ∷ xs) all = (one x all.0, each_part P Q one xs all.1)

module _ (kept : Kept) (tables : Tables) (owner : Option ℕ) (forms : KeptByForms kept tables owner)
    (said : Said kept tables) where
  abbrev Bodies : Body → Type 0
  Bodies body = BodySo said body

  abbrev In : List Body → Type 0
  In bodies = forms.Inside bodies

  -- what is claimed of each type of code, by what is required of the bodies in it
  abbrev ExprGoes : ExprCode → Type 0
  ExprGoes code = In code.inside → ExprSo said code

  abbrev StmtGoes : StmtCode → Type 0
  StmtGoes stmt = In stmt.inside → StmtSo said stmt

  abbrev ArgGoes : ArgCode → Type 0
  ArgGoes arg = In arg.inside → ArgSo said arg

  abbrev LinkGoes : LinkCode → Type 0
  LinkGoes link = In link.inside → LinkSo said link

  abbrev BlockGoes : BlockCode → Type 0
  BlockGoes block = In block.inside → BlockSo said block

  abbrev CaseGoes : CaseCode → Type 0
  CaseGoes arm = BlockGoes arm.body

  abbrev IfGoes : IfCode → Type 0
  IfGoes arm = In arm.inside → IfSo said arm

  abbrev SomeGoes : Option BlockCode → Type 0
  SomeGoes otherwise =
      In (inside_of otherwise) → ForSome said.Says otherwise × All Bodies (inside_of otherwise)

  -- lists of parts
  all_so : {X : Type 0} (f : X → List Body) (So : X → Type 0) (xs : List X)
      → AllByRecursion (λ x. In (f x) → So x) xs → In (flat_map f xs) → AllByRecursion So xs
  all_so f So xs goes are = each_so forms.Inside forms.first forms.rest f So xs goes are

  -- a value in which no body is
  simple : (at : ℕ) (read : Code Operand) → kept.Has read → ExprGoes (value at read [])
  simple at read has are =
      record { has = value_has kept at read [] has; inside = All-nil Bodies }

  -- a statement that is no expression and gives no property a value
  stmt_so : (code : Targets → Code (Unit {0})) (inside : List Body) → ForTargets said.Says code
      → All Bodies inside → StmtSo said (statement code inside)
  stmt_so code inside so all = record { code = so; only = tt; gives = tt; inside = all }

  -- what an assignment gives
  part_has : (name : Option ℕ) (read : Code Operand) → kept.Has read
      → GivesHave kept (given_part name read)
  part_has None read has = tt
  part_has (Some name) read has = (has, tt)

  abbrev steps : Steps
  steps = code_steps tables owner

  abbrev claims : Claims
  claims = record {
    expr = λ x. ExprGoes (fold_expr steps x);
    stmt = λ x. StmtGoes (fold_stmt steps x);
    arg = λ x. ArgGoes (fold_arg steps x);
    closure = λ x. BlockGoes (fold_closure steps x).body;
    link = λ x. LinkGoes (fold_link steps x);
    block = λ x. BlockGoes (fold_block steps x);
    case_arm = λ x. CaseGoes (fold_case_arm steps x);
    if_arm = λ x. IfGoes (fold_if_arm steps x);
  }

  given_block : (otherwise : Option Block) → GivenTree claims.block otherwise
      → SomeGoes (option_map (fold_block steps) otherwise)
  given_block None given are = (tt, All-nil Bodies)
  given_block (Some block) given are = let so = given are in (so.code, so.inside)

  -- forms of expressions
  args_have : (args : List ArgCode) → AllByRecursion (ArgSo said) args
      → AllByRecursion (ArgHas kept) args
  args_have = each_part (ArgSo said) (ArgHas kept) (λ arg so. so.read)

  args_bodies : (args : List ArgCode) → AllByRecursion (ArgSo said) args
      → All Bodies (args_inside args)
  args_bodies =
      each_inside Bodies (λ (arg : ArgCode). arg.inside) (ArgSo said) (λ arg so. so.inside)

  args_so : (args : List ArgCode) → AllByRecursion ArgGoes args → In (args_inside args)
      → AllByRecursion (ArgSo said) args
  args_so = all_so (λ (arg : ArgCode). arg.inside) (ArgSo said)

  call_goes : (at : ℕ) (args : List ArgCode) → AllByRecursion ArgGoes args
      → ExprGoes (steps.expr (layer.Call (record { at = at; id = 0 }) args))
  call_goes at args goes are =
      let all = args_so args goes are in
      record {
        has = call_has kept tables owner forms at args (args_inside args) (args_have args all);
        inside = args_bodies args all;
      }

  method_goes : (base : ExprCode) (at : ℕ) (args : List ArgCode) → ExprGoes base
      → AllByRecursion ArgGoes args
      → ExprGoes (steps.expr (layer.Method base (record { at = at; id = 0 }) args))
  method_goes base at args of_base goes are =
      let so = of_base (forms.first base.inside (args_inside args) are) in
      let all = args_so args goes (forms.rest base.inside (args_inside args) are) in
      record {
        has = method_has kept tables owner forms at base args (base.inside ++ args_inside args)
            so.has (args_have args all);
        inside = All-append Bodies base.inside (args_inside args) so.inside
            (args_bodies args all);
      }

  chain_goes : (first : ExprCode) (rest : List LinkCode) → ExprGoes first
      → AllByRecursion LinkGoes rest → ExprGoes (steps.expr (layer.Chain first rest))
  chain_goes first rest of_first goes are =
      let so = of_first (forms.first first.inside _ are) in
      let all = all_so (λ (link : LinkCode). link.inside) (LinkSo said) rest goes
      (forms.rest first.inside _ are) in
      record {
        has = chain_has kept tables owner forms first rest so.has
            (each_part (LinkSo said) (LinkHas kept) (λ link one. one.read) rest all);
        inside = All-append Bodies first.inside _ so.inside
            (each_inside Bodies (λ (link : LinkCode). link.inside) (LinkSo said)
            (λ link one. one.inside) rest all);
      }

  -- forms of statements
  assign_goes : (at : ℕ) (op : AssignOp) (place assigned : ExprCode) → ExprGoes place
      → ExprGoes assigned → StmtGoes (steps.stmt (layer.Assign at op place assigned))
  assign_goes at op place assigned of_place of_value are =
      let to = of_place (forms.first place.inside assigned.inside are) in
      let so = of_value (forms.rest place.inside assigned.inside are) in
      record {
        code = λ targets. said.assigned op at place assigned.read to.has so.has.read;
        only = tt;
        gives = part_has place.own_part assigned.read so.has.read;
        inside = All-append Bodies place.inside assigned.inside to.inside so.inside;
      }

  if_goes : (arms : List IfCode) (otherwise : Option BlockCode) → AllByRecursion IfGoes arms
      → SomeGoes otherwise → StmtGoes (steps.stmt (layer.If arms otherwise))
  if_goes arms otherwise goes last are =
      let inside = flat_map (λ (arm : IfCode). arm.inside) arms in
      let all = all_so (λ (arm : IfCode). arm.inside) (IfSo said) arms goes
      (forms.first inside (inside_of otherwise) are) in
      let so = last (forms.rest inside (inside_of otherwise) are) in
      stmt_so _ _
      (λ targets. said.branches arms otherwise targets
      (each_part (IfSo said)
      (λ (arm : IfCode). kept.Has arm.cond × ForTargets said.Says arm.body.code)
      (λ arm one. (one.cond, one.body.code)) arms all) so.0)
      (All-append Bodies inside (inside_of otherwise)
      (each_inside Bodies (λ (arm : IfCode). arm.inside) (IfSo said) (λ arm one. one.inside)
      arms all) so.1)

  while_goes : (at : ℕ) (cond : ExprCode) (body : BlockCode) → ExprGoes cond → BlockGoes body
      → StmtGoes (steps.stmt (layer.While at cond body))
  while_goes at cond body of_cond of_body are =
      let test = of_cond (forms.first cond.inside body.inside are) in
      let so = of_body (forms.rest cond.inside body.inside are) in
      stmt_so _ _ (λ targets. said.loop cond.read body test.has.read so.code)
      (All-append Bodies cond.inside body.inside test.inside so.inside)

  switch_goes : (at : ℕ) (subject : ExprCode) (arms : List CaseCode)
      (otherwise : Option BlockCode) → ExprGoes subject → AllByRecursion CaseGoes arms
      → SomeGoes otherwise → StmtGoes (steps.stmt (layer.Switch at subject arms otherwise))
  switch_goes at subject arms otherwise of_subject goes last are =
      let inside = flat_map (λ (arm : CaseCode). arm.body.inside) arms in
      let before = subject.inside ++ inside in
      let front = forms.first before (inside_of otherwise) are in
      let from = of_subject (forms.first subject.inside inside front) in
      let all = all_so (λ (arm : CaseCode). arm.body.inside) (λ arm. BlockSo said arm.body) arms
      goes (forms.rest subject.inside inside front) in
      let so = last (forms.rest before (inside_of otherwise) are) in
      stmt_so _ _
      (λ targets. said.switch subject arms otherwise targets from.has.read
      (each_part (λ (arm : CaseCode). BlockSo said arm.body)
      (λ (arm : CaseCode). ForTargets said.Says arm.body.code) (λ arm one. one.code) arms all)
      so.0)
      (All-append Bodies before (inside_of otherwise)
      (All-append Bodies subject.inside inside from.inside
      (each_inside Bodies (λ (arm : CaseCode). arm.body.inside)
      (λ arm. BlockSo said arm.body) (λ arm one. one.inside) arms all)) so.1)

  plain_goes : (plain : ExprCode) → ExprGoes plain → StmtGoes (steps.stmt (layer.Plain plain))
  plain_goes plain goes are =
      let so = goes are in
      record {
        code = λ targets. said.unused plain.read so.has.read;
        only = so.has.read;
        gives = tt;
        inside = so.inside;
      }

  return_case : (at : ℕ) (value : Option Expr) → GivenTree claims.expr value
      → StmtGoes (steps.stmt (layer.Return at (option_map (fold_expr steps) value)))
  return_case at None given are =
      stmt_so _ [] (λ targets. said.return_nothing) (All-nil Bodies)
  return_case at (Some value) given are =
      let so = given are in
      stmt_so _ _ (λ targets. said.return_value _ so.has.read) so.inside

  cases : Cases claims
  cases = record {
    int = λ at value. subst ExprGoes (sym (eq.fold_expr-Int steps at value))
        (simple at _ (has_give kept at types.Int _ (λ r. tt)));
    bool = λ at value. subst ExprGoes (sym (eq.fold_expr-Bool steps at value))
        (simple at _ (has_give kept at types.Bool _ (λ r. tt)));
    use_of = λ name. subst ExprGoes (sym (eq.fold_expr-Use steps name)) (λ are.
        record { has = word_has kept tables owner forms name.at; inside = All-nil Bodies });
    me = λ at. subst ExprGoes (sym (eq.fold_expr-Me steps at)) (λ are.
        record { has = self_has kept tables owner forms at; inside = All-nil Bodies });
    member = λ base name of_base.
        subst ExprGoes (sym (eq.fold_expr-Member steps base name))
        (λ are. let so = of_base are in
        record {
          has = member_has kept tables owner forms (fold_expr steps base) name.at name.id so.has;
          inside = so.inside;
        });
    call = λ name args all.
        subst ExprGoes (sym (eq.fold_expr-Call steps name args))
        (call_goes name.at (map (fold_arg steps) args)
        (each_mapped ArgGoes (fold_arg steps) args all));
    method = λ base name args of_base all.
        subst ExprGoes (sym (eq.fold_expr-Method steps base name args))
        (method_goes (fold_expr steps base) name.at (map (fold_arg steps) args) of_base
        (each_mapped ArgGoes (fold_arg steps) args all));
    chain = λ first rest of_first all.
        subst ExprGoes (sym (eq.fold_expr-Chain steps first rest))
        (chain_goes (fold_expr steps first) (map (fold_link steps) rest) of_first
        (each_mapped LinkGoes (fold_link steps) rest all));
    prefix = λ op at inner of_inner.
        subst ExprGoes (sym (eq.fold_expr-Prefix steps op at inner))
        (λ are. let so = of_inner are in
        record { has = prefix_has kept op at (fold_expr steps inner) so.has; inside = so.inside });
    await = λ at inner of_inner. subst ExprGoes (sym (eq.fold_expr-Await steps at inner))
        (λ are. let so = of_inner are in
        record {
          has = await_has kept tables owner forms at (fold_expr steps inner) so.has;
          inside = so.inside;
        });
    fun = λ closure inside. subst ExprGoes (sym (eq.fold_expr-Fun steps closure))
        (fun_so said owner forms (fold_closure steps closure) inside);
    spawn = λ at detached body inside.
        subst ExprGoes (sym (eq.fold_expr-Spawn steps at detached body))
        (spawn_so said owner forms at (fold_closure steps body) inside);
    yield = λ at. subst ExprGoes (sym (eq.fold_expr-Yield steps at))
        (simple at _ (has_give kept at types.Unit _ (λ r. tt)));
    bind = λ mutable name ty value of_value.
        subst StmtGoes (sym (eq.fold_stmt-Bind steps mutable name ty value))
        (λ are. let so = of_value are in
        stmt_so _ _ (λ targets. said.declared name.at _ so.has.read) so.inside);
    assign = λ at op place value of_place of_value.
        subst StmtGoes (sym (eq.fold_stmt-Assign steps at op place value))
        (assign_goes at op (fold_expr steps place) (fold_expr steps value) of_place of_value);
    discard = λ at value of_value.
        subst StmtGoes (sym (eq.fold_stmt-Discard steps at value))
        (λ are. let so = of_value are in
        stmt_so _ _ (λ targets. said.unused _ so.has.read) so.inside);
    if_of = λ arms otherwise all last.
        subst StmtGoes (sym (eq.fold_stmt-If steps arms otherwise))
        (if_goes (map (fold_if_arm steps) arms) (option_map (fold_block steps) otherwise)
        (each_mapped IfGoes (fold_if_arm steps) arms all) (given_block otherwise last));
    while_of = λ at cond body of_cond of_body.
        subst StmtGoes (sym (eq.fold_stmt-While steps at cond body))
        (while_goes at (fold_expr steps cond) (fold_block steps body) of_cond of_body);
    switch = λ at subject arms otherwise of_subject all last.
        subst StmtGoes (sym (eq.fold_stmt-Switch steps at subject arms otherwise))
        (switch_goes at (fold_expr steps subject) (map (fold_case_arm steps) arms)
        (option_map (fold_block steps) otherwise) of_subject
        (each_mapped CaseGoes (fold_case_arm steps) arms all) (given_block otherwise last));
    return_of = λ at value given.
        subst StmtGoes (sym (eq.fold_stmt-Return steps at value)) (return_case at value given);
    break_of = λ at. subst StmtGoes (sym (eq.fold_stmt-Break steps at))
        (λ are. stmt_so _ [] (λ targets. said.left targets.breaks) (All-nil Bodies));
    continue_of = λ at. subst StmtGoes (sym (eq.fold_stmt-Continue steps at))
        (λ are. stmt_so _ [] (λ targets. said.left targets.continues) (All-nil Bodies));
    plain = λ value of_value. subst StmtGoes (sym (eq.fold_stmt-Plain steps value))
        (plain_goes (fold_expr steps value) of_value);
    arg = λ label value of_value.
        subst ArgGoes (sym (eq.fold_arg-roll steps label value))
        (λ are. let so = of_value are in record { read = so.has.read; inside = so.inside });
    closure = λ at mark captures params result body of_body.
        subst (λ (closure : ClosureCode). BlockGoes closure.body)
        (sym (eq.fold_closure-roll steps at mark captures params result body)) of_body;
    link = λ op at operand of_operand.
        subst LinkGoes (sym (eq.fold_link-roll steps op at operand))
        (λ are. let so = of_operand are in record { read = so.has.read; inside = so.inside });
    block = λ stmts all. subst BlockGoes (sym (eq.fold_block-roll steps stmts))
        (λ are. block_so said (map (fold_stmt steps) stmts)
        (all_so (λ (one : StmtCode). one.inside) (StmtSo said) (map (fold_stmt steps) stmts)
        (each_mapped StmtGoes (fold_stmt steps) stmts all) are));
    case_arm = λ name patterns body of_body.
        subst CaseGoes (sym (eq.fold_case_arm-roll steps name patterns body)) of_body;
    if_arm = λ at cond body of_cond of_body.
        subst IfGoes (sym (eq.fold_if_arm-roll steps at cond body))
        (λ are.
        let test = of_cond (forms.first (fold_expr steps cond).inside _ are) in
        let so = of_body (forms.rest (fold_expr steps cond).inside _ are) in
        record {
          cond = test.has.read;
          body = so;
          inside = All-append Bodies (fold_expr steps cond).inside _ test.inside so.inside;
        });
  }

  pub every_expr_code : (expr : Expr) → forms.Inside (expr_code tables owner expr).inside
      → ExprSo said (expr_code tables owner expr)
  unfolding expr_code
  every_expr_code expr = every_expr claims cases expr

  pub every_block_code : (block : Block) → forms.Inside (block_code tables owner block).inside
      → BlockSo said (block_code tables owner block)
  unfolding block_code
  every_block_code block = every_block claims cases block
