-- The code of each expression and of each block is short, and so is that of the bodies in it, which
-- are few.
use Rattle.std.proofs.Common.{◌≡◌, ℕ, ◌+◌, ◌*◌, ◌≤◌, map, Option, Some, None, option_map, List, [], ◌∷◌}
use Rattle.std.proofs.Common.{◌++◌, flat_map, sym, subst, refl, arith}
use Rattle.std.specs.List.{AllByRecursion, sum}
use Rattle.sw_tree.specs.Folds.{Steps, fold_arg, fold_block, fold_case_arm, fold_closure, fold_expr}
use Rattle.sw_tree.specs.Folds.{fold_if_arm, fold_link, fold_stmt}
use Rattle.sw_tree.specs.NodeKey.{last_or}
use Rattle.sw_tree.specs.declared.expr.Arg.{Arg}
use Rattle.sw_tree.specs.declared.expr.Expr.{Expr}
use Rattle.sw_tree.specs.declared.expr.Expr.TheOpen as layer
use Rattle.sw_tree.specs.declared.expr.Link.{Link}
use Rattle.sw_tree.specs.declared.operator.AssignOp.{AssignOp}
use Rattle.sw_tree.specs.declared.stmt.Block.{Block}
use Rattle.sw_tree.specs.declared.stmt.CaseArm.{CaseArm}
use Rattle.sw_tree.specs.declared.stmt.IfArm.{IfArm}
use Rattle.sw_tree.specs.declared.stmt.Pattern.{Pattern}
use Rattle.sw_tree.specs.declared.stmt.Stmt.{Stmt}
use Rattle.sw_tree.proofs.FoldEquations as eq
use Rattle.sw_tree.proofs.TreeInduction.{Cases, Claims, every_block, every_expr}
use Rattle.sw_tree.proofs.TreeInduction.{Given as GivenTree}
use Rattle.sw_tree_facts.specs.Sizes.{block_size, expr_size, read_alone, size_steps}
use Rattle.sw_tree_facts.specs.Sizes.{some_size}
use Rattle.sw_types.specs.declared.ty.Ty.{Ty}
use Rattle.sw_types.specs.declared.ty.Ty.TheVariants as types
use Rattle.sw_graph.specs.declared.instr.Operand.{Operand}
use Rattle.sw_lower_code.specs.Code.{Code, each}
use Rattle.sw_lower_code.specs.Whole.{Body}
use Rattle.sw_lower_rules.specs.Carriers.{ArgCode, BlockCode, CaseCode, ClosureCode, ExprCode}
use Rattle.sw_lower_rules.specs.Carriers.{IfCode, LinkCode, StmtCode}
use Rattle.sw_lower_rules.specs.Expressions.{args_inside, closure_body, fun_result, spawn_result}
use Rattle.sw_lower_rules.specs.Expressions.{value}
use Rattle.sw_lower_rules.specs.Statements.{block_code, code_steps, else_code, expr_code}
use Rattle.sw_lower_rules.specs.Statements.{inside_of, statement}
use Rattle.sw_lower_rules.specs.Tables.{Tables}
use Rattle.sw_lower_code_facts.proofs.Uses.{has_give}
use Rattle.sw_lower_size_facts.specs.Short.{AreShort, IsShort}
use Rattle.sw_lower_size_facts.proofs.Expressions.{ArgShort, ExprShort, LinkShort, await_short}
use Rattle.sw_lower_size_facts.proofs.Expressions.{call_short, links_short, member_short}
use Rattle.sw_lower_size_facts.proofs.Expressions.{method_short, op_short, prefix_short, quiet_fun}
use Rattle.sw_lower_size_facts.proofs.Expressions.{quiet_self, quiet_short, quiet_task, quiet_word}
use Rattle.sw_lower_size_facts.proofs.Expressions.{unwritten_short, word_short, written_short}
use Rattle.sw_lower_size_facts.proofs.Lists.{all_short, each_part, each_short, head_short}
use Rattle.sw_lower_size_facts.proofs.Lists.{more_short, none_short, parts_short}
use Rattle.sw_lower_size_facts.proofs.Lists.{two_parts}
use Rattle.sw_lower_size_facts.proofs.Statements.{BlockShort, ForSome, ForTargets, IfShort}
use Rattle.sw_lower_size_facts.proofs.Statements.{StmtShort, all_give, arms_short, assign_short}
use Rattle.sw_lower_size_facts.proofs.Statements.{body_short, declared_short, gives_none}
use Rattle.sw_lower_size_facts.proofs.Statements.{ignored_short, leave_short, only_short, part_gives}
use Rattle.sw_lower_size_facts.proofs.Statements.{return_nothing, return_short, while_short}
use Rattle.sw_lower_size_facts.proofs.Steps.{makes_more, makes_scope, makes_then, quiet}
use Rattle.sw_lower_size_facts.proofs.Switches.{CaseShort, switch_short}

-- a closure's block, which is one smaller than the closure
record ClosureShort (size : ℕ) (closure : ClosureCode) : Type 0 where
  pub block : ℕ
  pub fits : 1 + block ≡ size
  pub body : BlockShort block closure.body

module _ (tables : Tables) (owner : Option ℕ) where
  abbrev steps : Steps
  steps = code_steps tables owner

  abbrev claims : Claims
  claims = record {
    expr = λ x. ExprShort (fold_expr size_steps x) (fold_expr steps x);
    stmt = λ x. StmtShort (fold_stmt size_steps x) (fold_stmt steps x);
    arg = λ x. ArgShort (fold_arg size_steps x) (fold_arg steps x);
    closure = λ x. ClosureShort (fold_closure size_steps x) (fold_closure steps x);
    link = λ x. LinkShort (fold_link size_steps x) (fold_link steps x);
    block = λ x. BlockShort (fold_block size_steps x) (fold_block steps x);
    case_arm = λ x. CaseShort (fold_case_arm size_steps x) (fold_case_arm steps x)
        × AreShort (fold_case_arm size_steps x) (fold_case_arm size_steps x)
        (fold_case_arm steps x).body.inside;
    if_arm = λ x. IfShort (fold_if_arm size_steps x) (fold_if_arm steps x);
  }

  -- by what a step gives, of sizes and of code
  by_both : {N X : Type 0} (P : N → X → Type 0) {n m : N} {x y : X} → n ≡ m → x ≡ y → P m y
      → P n x
  by_both P {n} {m} {x} {y} sizes codes short =
      subst (λ n. P n x) (sym sizes) (subst (λ x. P m x) (sym codes) short)

  -- an expression that is no place
  value_short : (key : ℕ) (read : Code Operand) (inside : List Body) (size : ℕ)
      → IsShort size read → AreShort size size inside
      → ExprShort (read_alone size) (value key read inside)
  value_short key read inside size short bodies =
      record { read = short; write = unwritten_short; inside = bodies }

  simple : (key : ℕ) (read : Code Operand) → IsShort 0 read
      → ExprShort (read_alone 0) (value key read [])
  simple key read short = value_short key read [] 0 short (none_short 0 0)

  -- arguments and operators
  args_read_short : (args : List Arg) → AllByRecursion claims.arg args
      → IsShort (sum (map (fold_arg size_steps) args))
      (each (λ (arg : ArgCode). arg.read) (map (fold_arg steps) args))
  args_read_short args all =
      each_short (fold_arg steps) (fold_arg size_steps) (λ (arg : ArgCode). arg.read) args
      (each_part claims.arg (λ x. IsShort (fold_arg size_steps x) (fold_arg steps x).read)
      (λ x short. short.read) args all)

  args_inside_short : (args : List Arg) → AllByRecursion claims.arg args
      → AreShort (sum (map (fold_arg size_steps) args)) (sum (map (fold_arg size_steps) args))
      (args_inside (map (fold_arg steps) args))
  args_inside_short args all =
      parts_short (fold_arg steps) (fold_arg size_steps) (λ (arg : ArgCode). arg.inside) args
      (each_part claims.arg
      (λ x. AreShort (fold_arg size_steps x) (fold_arg size_steps x) (fold_arg steps x).inside)
      (λ x short. short.inside) args all)

  links_inside_short : (links : List Link) → AllByRecursion claims.link links
      → AreShort (sum (map (fold_link size_steps) links)) (sum (map (fold_link size_steps) links))
      (flat_map (λ (link : LinkCode). link.inside) (map (fold_link steps) links))
  links_inside_short links all =
      parts_short (fold_link steps) (fold_link size_steps) (λ (link : LinkCode). link.inside) links
      (each_part claims.link
      (λ x. AreShort (fold_link size_steps x) (fold_link size_steps x) (fold_link steps x).inside)
      (λ x short. short.inside) links all)

  chain_short : (first : Expr) (rest : List Link) → claims.expr first
      → AllByRecursion claims.link rest
      → ExprShort (size_steps.expr (layer.Chain (fold_expr size_steps first)
      (map (fold_link size_steps) rest)))
      (steps.expr (layer.Chain (fold_expr steps first) (map (fold_link steps) rest)))
  chain_short first rest of_first all =
      let a = (fold_expr size_steps first).read in
      let b = sum (map (fold_link size_steps) rest) in
      value_short
      (last_or (fold_expr steps first).key
      (map (λ (link : LinkCode). link.at) (map (fold_link steps) rest))) _ _ (a + b)
      (makes_then (3 * a) (3 * b) (3 * (a + b)) (fold_expr steps first).read _ of_first.read
      (λ left. links_short (fold_link steps) (fold_link size_steps) rest all left) (omega arith))
      (two_parts (fold_expr steps first).inside _ a b (a + b) of_first.inside
      (links_inside_short rest all) (omega arith))

  -- closures and tasks
  closure_short : (closure : ClosureCode) (size : ℕ) (result : Ty) → ClosureShort size closure
      → AreShort size size (closure_body tables owner closure result ∷ closure.body.inside)
  unfolding closure_body
  closure_short closure size result short =
      let fits = short.fits in
      head_short (closure_body tables owner closure result) closure.body.inside short.block size
      size
      (makes_more (3 * short.block) (3 * size) _ (body_short short.block result closure.body
      short.body) (omega (arith, fits)))
      (more_short closure.body.inside short.block short.block short.block size short.body.inside
      (omega arith) (omega (arith, fits))) (omega (arith, fits))

  fun_short : (closure : ClosureCode) (size : ℕ) → ClosureShort size closure
      → ExprShort (read_alone size) (steps.expr (layer.Fun closure))
  fun_short closure size short =
      value_short closure.at _ _ size (quiet_short size _ (quiet_fun tables owner closure))
      (closure_short closure size (fun_result tables owner closure.at) short)

  spawn_short : (at : ℕ) (detached : _) (closure : ClosureCode) (size : ℕ)
      → ClosureShort size closure
      → ExprShort (read_alone size) (steps.expr (layer.Spawn at detached closure))
  spawn_short at detached closure size short =
      value_short at _ _ size (quiet_short size _ (quiet_task tables owner at closure))
      (closure_short (record closure { params = [] }) size (spawn_result tables owner at)
      (record { block = short.block; fits = short.fits; body = short.body }))

  -- a statement that is no expression and gives no property a value
  stmt_short : (size : ℕ) (code : _) (inside : List Body) → ForTargets size code
      → AreShort size size inside → StmtShort size (statement code inside)
  stmt_short size code inside short bodies =
      record { code = short; only = tt; gives = gives_none size; inside = bodies }

  assign_goes : (at : ℕ) (op : AssignOp) (place assigned : Expr) → claims.expr place
      → claims.expr assigned
      → StmtShort (size_steps.stmt (layer.Assign at op (fold_expr size_steps place)
      (fold_expr size_steps assigned)))
      (steps.stmt (layer.Assign at op (fold_expr steps place) (fold_expr steps assigned)))
  assign_goes at op place assigned of_place of_value =
      let to = fold_expr size_steps place in
      let a = to.read + to.write in
      let b = (fold_expr size_steps assigned).read in
      let read = (fold_expr steps assigned).read in
      record {
        code = λ targets. makes_then (3 * b) (3 * a) (3 * (a + b)) read _ of_value.read
            (λ given. assign_short op at (fold_expr steps place) given to of_place.read
            of_place.write) (omega arith);
        only = tt;
        gives = makes_more (3 * b) (3 * (a + b)) _
            (part_gives b (fold_expr steps place).own_part read of_value.read) (omega arith);
        inside = two_parts (fold_expr steps place).inside (fold_expr steps assigned).inside
            to.read b (a + b) of_place.inside of_value.inside (omega arith);
      }

  -- a block that may be left out
  given_block : (otherwise : Option Block) → GivenTree claims.block otherwise
      → ForSome (some_size (option_map (fold_block size_steps) otherwise))
      (option_map (fold_block steps) otherwise)
  given_block None given = tt
  given_block (Some block) given = given

  some_inside : (size : ℕ) (otherwise : Option BlockCode) → ForSome size otherwise
      → AreShort size size (inside_of otherwise)
  some_inside size None short = none_short size size
  some_inside size (Some block) short = short.inside

  some_else : (size : ℕ) (otherwise : Option BlockCode) (targets : _) → ForSome size otherwise
      → IsShort size (else_code otherwise targets)
  some_else size None targets short = quiet_short size _ (quiet.done tt)
  some_else size (Some block) targets short = short.code targets

  if_goes : (arms : List IfArm) (otherwise : Option Block) → AllByRecursion claims.if_arm arms
      → GivenTree claims.block otherwise
      → StmtShort (size_steps.stmt (layer.If (map (fold_if_arm size_steps) arms)
      (option_map (fold_block size_steps) otherwise)))
      (steps.stmt (layer.If (map (fold_if_arm steps) arms)
      (option_map (fold_block steps) otherwise)))
  if_goes arms otherwise all last =
      let other = option_map (fold_block steps) otherwise in
      let a = sum (map (fold_if_arm size_steps) arms) in
      let b = some_size (option_map (fold_block size_steps) otherwise) in
      let rest = given_block otherwise last in
      stmt_short (a + b) _ _
      (λ targets. arms_short (fold_if_arm steps) (fold_if_arm size_steps) arms _ b targets all
      (some_else b other targets rest))
      (two_parts _ (inside_of other) a b (a + b)
      (parts_short (fold_if_arm steps) (fold_if_arm size_steps) (λ (arm : IfCode). arm.inside) arms
      (each_part claims.if_arm
      (λ x. AreShort (fold_if_arm size_steps x) (fold_if_arm size_steps x)
      (fold_if_arm steps x).inside) (λ x short. short.inside) arms all))
      (some_inside b other rest) (omega arith))

  while_goes : (at : ℕ) (cond : Expr) (body : Block) → claims.expr cond → claims.block body
      → StmtShort (size_steps.stmt (layer.While at (fold_expr size_steps cond)
      (fold_block size_steps body)))
      (steps.stmt (layer.While at (fold_expr steps cond) (fold_block steps body)))
  while_goes at cond body of_cond of_body =
      let a = (fold_expr size_steps cond).read in
      let b = fold_block size_steps body in
      stmt_short (1 + a + b) _ _
      (λ targets. while_short a b (fold_expr steps cond).read (fold_block steps body) of_cond.read
      of_body)
      (two_parts (fold_expr steps cond).inside (fold_block steps body).inside a b (1 + a + b)
      of_cond.inside of_body.inside (omega arith))

  switch_goes : (at : ℕ) (subject : Expr) (arms : List CaseArm) (otherwise : Option Block)
      → claims.expr subject → AllByRecursion claims.case_arm arms
      → GivenTree claims.block otherwise
      → StmtShort (size_steps.stmt (layer.Switch at (fold_expr size_steps subject)
      (map (fold_case_arm size_steps) arms) (option_map (fold_block size_steps) otherwise)))
      (steps.stmt (layer.Switch at (fold_expr steps subject) (map (fold_case_arm steps) arms)
      (option_map (fold_block steps) otherwise)))
  switch_goes at subject arms otherwise of_subject all last =
      let other = option_map (fold_block steps) otherwise in
      let a = (fold_expr size_steps subject).read in
      let b = sum (map (fold_case_arm size_steps) arms) in
      let c = some_size (option_map (fold_block size_steps) otherwise) in
      let rest = given_block otherwise last in
      let first = (fold_expr steps subject).inside in
      let under = flat_map (λ (arm : CaseCode). arm.body.inside)
      (map (fold_case_arm steps) arms) in
      stmt_short (1 + a + b + c) _ _
      (λ targets. switch_short tables (fold_case_arm steps) (fold_case_arm size_steps) arms
      (fold_expr steps subject) other a c targets of_subject.read
      (each_part claims.case_arm
      (λ x. CaseShort (fold_case_arm size_steps x) (fold_case_arm steps x)) (λ x short. short.0)
      arms all) rest)
      (two_parts (first ++ under) (inside_of other) (a + b) c (1 + a + b + c)
      (two_parts first under a b (a + b) of_subject.inside
      (parts_short (fold_case_arm steps) (fold_case_arm size_steps)
      (λ (arm : CaseCode). arm.body.inside) arms
      (each_part claims.case_arm
      (λ x. AreShort (fold_case_arm size_steps x) (fold_case_arm size_steps x)
      (fold_case_arm steps x).body.inside) (λ x short. short.1) arms all)) (omega arith))
      (some_inside c other rest) (omega arith))

  plain_goes : (size : ℕ) (plain : ExprCode) → IsShort size plain.read
      → AreShort size size plain.inside → StmtShort size (steps.stmt (layer.Plain plain))
  plain_goes size plain short bodies = record {
    code = λ targets. ignored_short tables size plain.read short;
    only = short;
    gives = gives_none size;
    inside = bodies;
  }

  returned : (at : ℕ) (value : Option Expr) → GivenTree claims.expr value
      → StmtShort (size_steps.stmt (layer.Return at (option_map (fold_expr size_steps) value)))
      (steps.stmt (layer.Return at (option_map (fold_expr steps) value)))
  returned at None given =
      stmt_short 1 _ [] (λ targets. return_nothing tables) (none_short 1 1)
  returned at (Some value) given =
      let a = (fold_expr size_steps value).read in
      let inside = (fold_expr steps value).inside in
      stmt_short (1 + a) _ inside (λ targets. return_short tables a _ given.read)
      (more_short inside a a (1 + a) (1 + a) given.inside (omega arith) (omega arith))

  -- blocks
  block_goes : (stmts : List Stmt) → AllByRecursion claims.stmt stmts
      → BlockShort (sum (map (fold_stmt size_steps) stmts))
      (steps.block (record { stmts = map (fold_stmt steps) stmts }))
  block_goes stmts all =
      let size = sum (map (fold_stmt size_steps) stmts) in
      record {
        code = λ targets. makes_scope (3 * size) _
            (all_short (fold_stmt steps) (fold_stmt size_steps)
            (λ (one : StmtCode). one.code targets) stmts
            (each_part claims.stmt
            (λ x. IsShort (fold_stmt size_steps x) ((fold_stmt steps x).code targets))
            (λ x short. short.code targets) stmts all));
        only = only_short (fold_stmt steps) (fold_stmt size_steps) stmts all;
        gives = all_give (fold_stmt steps) (fold_stmt size_steps) stmts all;
        inside = parts_short (fold_stmt steps) (fold_stmt size_steps)
            (λ (one : StmtCode). one.inside) stmts
            (each_part claims.stmt
            (λ x. AreShort (fold_stmt size_steps x) (fold_stmt size_steps x)
            (fold_stmt steps x).inside) (λ x short. short.inside) stmts all);
      }

  case_goes : (patterns : List Pattern) (body : Block) → claims.block body
      → (arm : CaseCode) → arm.body ≡ fold_block steps body → (size : ℕ)
      → 1 + fold_block size_steps body ≤ size
      → CaseShort size arm × AreShort size size arm.body.inside
  case_goes patterns body of_body arm is size fits =
      let b = fold_block size_steps body in
      let short : BlockShort b arm.body = subst (λ (block : BlockCode). BlockShort b block)
      (sym is) of_body in (
        record { block = b; fits = fits; body = short },
        more_short arm.body.inside b b size size short.inside (omega (arith, fits))
            (omega (arith, fits)),
      )

  cases : Cases claims
  cases = record {
    int = λ at literal. by_both ExprShort (eq.fold_expr-Int size_steps at literal)
        (eq.fold_expr-Int steps at literal)
        (simple at _ (has_give quiet at types.Int _ (λ r. tt)));
    bool = λ at literal. by_both ExprShort (eq.fold_expr-Bool size_steps at literal)
        (eq.fold_expr-Bool steps at literal)
        (simple at _ (has_give quiet at types.Bool _ (λ r. tt)));
    use_of = λ name. by_both ExprShort (eq.fold_expr-Use size_steps name)
        (eq.fold_expr-Use steps name) (record {
          read = quiet_word tables owner name.at;
          write = word_short tables owner name.at;
          inside = none_short 0 0;
        });
    me = λ at. by_both ExprShort (eq.fold_expr-Me size_steps at) (eq.fold_expr-Me steps at)
        (record {
          read = quiet_self tables owner at;
          write = unwritten_short;
          inside = none_short 0 0;
        });
    member = λ base name short.
        let size = fold_expr size_steps base in
        by_both ExprShort (eq.fold_expr-Member size_steps base name)
        (eq.fold_expr-Member steps base name) (record {
          read = member_short tables owner name.at (fold_expr steps base) size.read short.read;
          write = λ given. written_short tables owner name.at (fold_expr steps base) given size
              short.read short.write;
          inside = short.inside;
        });
    call = λ name args all.
        let size = sum (map (fold_arg size_steps) args) in
        by_both ExprShort (eq.fold_expr-Call size_steps name args)
        (eq.fold_expr-Call steps name args)
        (value_short name.at _ _ size
        (call_short tables owner name.at (map (fold_arg steps) args) size
        (args_read_short args all)) (args_inside_short args all));
    method = λ base name args of_base all.
        let a = (fold_expr size_steps base).read in
        let b = sum (map (fold_arg size_steps) args) in
        by_both ExprShort (eq.fold_expr-Method size_steps base name args)
        (eq.fold_expr-Method steps base name args)
        (value_short name.at _ _ (a + b)
        (method_short tables owner name.at (fold_expr steps base) (map (fold_arg steps) args) a b
        of_base.read (args_read_short args all))
        (two_parts (fold_expr steps base).inside _ a b (a + b) of_base.inside
        (args_inside_short args all) (omega arith)));
    chain = λ first rest of_first all.
        by_both ExprShort (eq.fold_expr-Chain size_steps first rest)
        (eq.fold_expr-Chain steps first rest) (chain_short first rest of_first all);
    prefix = λ op at inner short.
        let size = (fold_expr size_steps inner).read in
        by_both ExprShort (eq.fold_expr-Prefix size_steps op at inner)
        (eq.fold_expr-Prefix steps op at inner)
        (value_short at _ _ size (prefix_short size op at _ short.read) short.inside);
    await = λ at inner short.
        let size = (fold_expr size_steps inner).read in
        by_both ExprShort (eq.fold_expr-Await size_steps at inner)
        (eq.fold_expr-Await steps at inner)
        (value_short at _ _ size
        (await_short tables owner size at (fold_expr steps inner) short.read) short.inside);
    fun = λ closure short. by_both ExprShort (eq.fold_expr-Fun size_steps closure)
        (eq.fold_expr-Fun steps closure)
        (fun_short (fold_closure steps closure) (fold_closure size_steps closure) short);
    spawn = λ at detached body short.
        by_both ExprShort (eq.fold_expr-Spawn size_steps at detached body)
        (eq.fold_expr-Spawn steps at detached body)
        (spawn_short at detached (fold_closure steps body) (fold_closure size_steps body) short);
    yield = λ at. by_both ExprShort (eq.fold_expr-Yield size_steps at)
        (eq.fold_expr-Yield steps at) (simple at _ (has_give quiet at types.Unit _ (λ r. tt)));
    bind = λ mutable name ty value short.
        let size = (fold_expr size_steps value).read in
        by_both StmtShort (eq.fold_stmt-Bind size_steps mutable name ty value)
        (eq.fold_stmt-Bind steps mutable name ty value)
        (stmt_short size _ _ (λ targets. declared_short tables name.at size _ short.read)
        short.inside);
    assign = λ at op place value of_place of_value.
        by_both StmtShort (eq.fold_stmt-Assign size_steps at op place value)
        (eq.fold_stmt-Assign steps at op place value)
        (assign_goes at op place value of_place of_value);
    discard = λ at value short.
        let size = (fold_expr size_steps value).read in
        by_both StmtShort (eq.fold_stmt-Discard size_steps at value)
        (eq.fold_stmt-Discard steps at value)
        (stmt_short size _ _ (λ targets. ignored_short tables size _ short.read) short.inside);
    if_of = λ arms otherwise all last.
        by_both StmtShort (eq.fold_stmt-If size_steps arms otherwise)
        (eq.fold_stmt-If steps arms otherwise) (if_goes arms otherwise all last);
    while_of = λ at cond body of_cond of_body.
        by_both StmtShort (eq.fold_stmt-While size_steps at cond body)
        (eq.fold_stmt-While steps at cond body) (while_goes at cond body of_cond of_body);
    switch = λ at subject arms otherwise of_subject all last.
        by_both StmtShort (eq.fold_stmt-Switch size_steps at subject arms otherwise)
        (eq.fold_stmt-Switch steps at subject arms otherwise)
        (switch_goes at subject arms otherwise of_subject all last);
    return_of = λ at value given. by_both StmtShort (eq.fold_stmt-Return size_steps at value)
        (eq.fold_stmt-Return steps at value) (returned at value given);
    break_of = λ at. by_both StmtShort (eq.fold_stmt-Break size_steps at)
        (eq.fold_stmt-Break steps at)
        (stmt_short 1 _ [] (λ targets. leave_short tables targets.breaks) (none_short 1 1));
    continue_of = λ at. by_both StmtShort (eq.fold_stmt-Continue size_steps at)
        (eq.fold_stmt-Continue steps at)
        (stmt_short 1 _ [] (λ targets. leave_short tables targets.continues) (none_short 1 1));
    plain = λ value short. by_both StmtShort (eq.fold_stmt-Plain size_steps value)
        (eq.fold_stmt-Plain steps value)
        (plain_goes (fold_expr size_steps value).read (fold_expr steps value) short.read
        short.inside);
    arg = λ label value short. by_both ArgShort (eq.fold_arg-roll size_steps label value)
        (eq.fold_arg-roll steps label value)
        (record { read = short.read; inside = short.inside });
    closure = λ at mark captures params result body short.
        by_both ClosureShort (eq.fold_closure-roll size_steps at mark captures params result body)
        (eq.fold_closure-roll steps at mark captures params result body)
        (record { block = fold_block size_steps body; fits = refl; body = short });
    link = λ op at operand short.
        let size = (fold_expr size_steps operand).read in
        let code = fold_expr steps operand in
        by_both LinkShort (eq.fold_link-roll size_steps op at operand)
        (eq.fold_link-roll steps op at operand) (record {
          read = λ left. op_short size op at code.read left short.read;
          inside = more_short code.inside size size (1 + size) (1 + size) short.inside
              (omega arith) (omega arith);
        });
    block = λ stmts all. by_both BlockShort (eq.fold_block-roll size_steps stmts)
        (eq.fold_block-roll steps stmts) (block_goes stmts all);
    case_arm = λ name patterns body short.
        by_both (λ (size : ℕ) (arm : CaseCode).
        CaseShort size arm × AreShort size size arm.body.inside)
        (eq.fold_case_arm-roll size_steps name patterns body)
        (eq.fold_case_arm-roll steps name patterns body)
        (case_goes patterns body short _ refl _ (omega arith));
    if_arm = λ at cond body of_cond of_body.
        let a = (fold_expr size_steps cond).read in
        let b = fold_block size_steps body in
        by_both IfShort (eq.fold_if_arm-roll size_steps at cond body)
        (eq.fold_if_arm-roll steps at cond body) (record {
          test = a;
          block = b;
          fits = omega arith;
          cond = of_cond.read;
          body = of_body;
          inside = two_parts (fold_expr steps cond).inside (fold_block steps body).inside a b
              (1 + a + b) of_cond.inside of_body.inside (omega arith);
        });
  }

  pub every_expr_short : (expr : Expr)
      → ExprShort (expr_size expr) (expr_code tables owner expr)
  unfolding expr_code expr_size
  every_expr_short expr = every_expr claims cases expr

  pub every_block_short : (block : Block)
      → BlockShort (block_size block) (block_code tables owner block)
  unfolding block_code block_size
  every_block_short block = every_block claims cases block
