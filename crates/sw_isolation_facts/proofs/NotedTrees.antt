-- What is so of the notes of each form is so of all that is noted of a tree, by the tree's keys.
use Rattle.std.proofs.Common.{◌≡◌, ℕ, Bool, List, [], ◌∷◌, ◌++◌, map, Option, Some, None}
use Rattle.std.proofs.Common.{arith, option_map, subst, sym, unwrap_or}
use Rattle.std.specs.List.{AllByRecursion}
use Rattle.sw_tree.specs.Folds.{Steps, fold_arg, fold_block, fold_case_arm, fold_closure, fold_expr}
use Rattle.sw_tree.specs.Folds.{fold_if_arm, fold_link, fold_stmt}
use Rattle.sw_tree.specs.declared.expr.Arg.{Arg, roll-Arg}
use Rattle.sw_tree.specs.declared.expr.Expr.{Expr}
use Rattle.sw_tree.specs.declared.expr.Expr.TheOpen as layer
use Rattle.sw_tree.specs.declared.expr.Expr.TheVariants as exprs
use Rattle.sw_tree.specs.declared.expr.Link.{Link, roll-Link}
use Rattle.sw_tree.specs.declared.operator.AssignOp.{AssignOp}
use Rattle.sw_tree.specs.declared.operator.AssignOp.TheVariants as assigns
use Rattle.sw_tree.specs.declared.stmt.Block.{Block, roll-Block}
use Rattle.sw_tree.specs.declared.stmt.CaseArm.{CaseArm, roll-CaseArm}
use Rattle.sw_tree.specs.declared.stmt.IfArm.{IfArm, roll-IfArm}
use Rattle.sw_tree.specs.declared.stmt.Stmt.{Stmt}
use Rattle.sw_tree.specs.declared.stmt.Stmt.TheVariants as stmts
use Rattle.sw_tree.proofs.Counting.{Weight, hits, in_all, in_all-cons, in_option}
use Rattle.sw_tree.proofs.FoldEquations as eq
use Rattle.sw_tree.proofs.KeyCounts as keys
use Rattle.sw_tree.proofs.KeyCounts.{in_arg, in_block, in_case_arm, in_closure, in_expr, in_if_arm}
use Rattle.sw_tree.proofs.KeyCounts.{in_link, in_stmt}
use Rattle.sw_tree.proofs.TreeInduction.{Cases, Claims, Given, every_arg, every_block, every_case_arm}
use Rattle.sw_tree.proofs.TreeInduction.{every_expr, every_if_arm, every_link, every_stmt}
use Rattle.sw_typing_rules.specs.Judges.{closure_of}
use Rattle.sw_typing_rules.specs.Worlds.{World}
use Rattle.sw_isolation_rules.specs.Answers.{Answers}
use Rattle.sw_isolation_rules.specs.Captures.{me_mentions, word_mentions}
use Rattle.sw_isolation_rules.specs.Noting.{Linked, NotedClosure, Notes, Seen, all_of, block_notes}
use Rattle.sw_isolation_rules.specs.Noting.{fun_notes, in_await, member_notes, mention_notes, no_notes}
use Rattle.sw_isolation_rules.specs.Noting.{note_steps, place_notes, see, stmt_notes, task_notes}
use Rattle.sw_isolation_rules.specs.Noting.{value, var_notes, word_notes}
use Rattle.sw_isolation_rules.specs.Uses.{base_of, no_base}
use Rattle.sw_isolation_rules.specs.declared.uses.Context.{Context}
use Rattle.sw_isolation_facts.specs.NotedByKeys.{Goes, IsWithin, NotedByKeys, none, together}

module _ (world : World) (answers : Answers) (noted : NotedByKeys world answers) where
  abbrev NotesGo : Notes → Weight → Type 0
  NotesGo notes keys = Goes noted.Fits noted.Has notes keys

  pub record SeenGoes (seen : Seen) (keys : Weight) : Type 0 where
    pub notes : NotesGo seen.notes keys
    pub before : NotesGo seen.before keys
    pub stores : (context : Context) (at : ℕ) → noted.Stored (seen.stores context at)

  -- a closure and the body of a task, where they stand
  record WithinGoes (closure : NotedClosure) (keys : Weight) : Type 0 where
    fun : NotesGo (fun_notes world answers closure) keys
    task : (at : ℕ) (detached : Bool) → NotesGo (task_notes world answers at detached closure) keys

  -- fewer keys than fit, and notes of fewer keys
  part : (notes : Notes) (some all : Weight) → NotesGo notes some → IsWithin some all
      → NotesGo notes all
  part notes some all go within context listed fits =
      noted.more (notes context listed) some all within
      (go context listed (noted.fewer context some all within fits))

  -- notes after each other
  both : (one other : Notes) (some more all : Weight) → NotesGo one some → NotesGo other more
      → IsWithin (together some more) all
      → NotesGo (λ context listed. one context listed ++ other context listed) all
  both one other some more all first second within context listed fits =
      noted.join (one context listed) (other context listed) some more all within
      (first context listed
      (noted.fewer context some all (λ key. omega (arith, within key)) fits))
      (second context listed
      (noted.fewer context more all (λ key. omega (arith, within key)) fits))

  none_go : (keys : Weight) → NotesGo no_notes keys
  none_go keys context listed fits = noted.nothing keys

  value_goes : (at : ℕ) (notes : Notes) (keys : Weight) → NotesGo notes keys
      → SeenGoes (value at notes) keys
  value_goes at notes keys go = record {
    notes = go;
    before = none_go keys;
    stores = λ context place. noted.stored_nothing;
  }

  -- what is in a list of trees
  module _ {X : Type 0} (notes_of : X → Notes) (keys_of : X → Weight) where
    many : (xs : List X) → AllByRecursion (λ x. NotesGo (notes_of x) (keys_of x)) xs
        → NotesGo (all_of (map notes_of xs)) (in_all keys_of xs)
    many [] all = none_go _
    many (x ∷ xs) all =
        both (notes_of x) (all_of (map notes_of xs)) (keys_of x) (in_all keys_of xs)
        (in_all keys_of (x ∷ xs)) all.0 (many xs all.1)
        (λ key. omega (arith, in_all-cons keys_of x xs key))

  pub word_goes : (at : ℕ) → NotesGo (λ context listed. word_notes world answers context at) (hits at)
  word_goes at context listed fits =
      noted.join (mention_notes world answers context at) _ none (hits at) (hits at)
      (λ key. omega arith)
      (noted.mentions (word_mentions world answers context.owner at))
      (noted.used context no_base at)

  pub member_goes : (base : Seen) (at : ℕ)
      → NotesGo (λ context listed. member_notes world answers base at context) (hits at)
  member_goes base at context listed fits =
      noted.used context (base_of answers base.key base.is_self) at

  -- what is noted of a place, and then of the assignment to it
  assigned : (place : Seen) (notes : Notes) (keys : Weight) → SeenGoes place keys
      → NotesGo notes keys
      → NotesGo (λ context listed. notes context listed ++ place.stores context place.key) keys
  assigned place notes keys goes go context listed fits =
      noted.join (notes context listed) (place.stores context place.key) keys none keys
      (λ key. omega arith) (go context listed fits)
      (noted.of_stored (place.stores context place.key) (goes.stores context place.key))

  pub place_goes : (op : AssignOp) (place : Seen) (keys : Weight) → SeenGoes place keys
      → NotesGo (place_notes world answers op place) keys
  place_goes assigns.Set place keys goes = assigned place place.before keys goes goes.before
  place_goes assigns.Add place keys goes = assigned place place.notes keys goes goes.notes
  place_goes assigns.Subtract place keys goes = assigned place place.notes keys goes goes.notes
  place_goes assigns.Multiply place keys goes = assigned place place.notes keys goes goes.notes
  place_goes assigns.Divide place keys goes = assigned place place.notes keys goes goes.notes
  place_goes assigns.Remainder place keys goes = assigned place place.notes keys goes goes.notes

  abbrev steps : Steps
  steps = note_steps world answers

  abbrev claims : Claims
  claims = record {
    expr = λ x. SeenGoes (fold_expr steps x) (in_expr x);
    stmt = λ x. NotesGo (fold_stmt steps x) (in_stmt x);
    arg = λ x. NotesGo (fold_arg steps x) (in_arg x);
    closure = λ x. WithinGoes (fold_closure steps x) (in_closure x);
    link = λ x. NotesGo (fold_link steps x).operand (in_link x);
    block = λ x. NotesGo (fold_block steps x) (in_block x);
    case_arm = λ x. NotesGo (fold_case_arm steps x) (in_case_arm x);
    if_arm = λ x. NotesGo (fold_if_arm steps x) (in_if_arm x);
  }

  -- by the equation of a form
  expr_at : (x : Expr) (s : Seen) → fold_expr steps x ≡ s → SeenGoes s (in_expr x)
      → claims.expr x
  expr_at x s is goes = subst (λ one. SeenGoes one (in_expr x)) (sym is) goes

  stmt_at : (x : Stmt) (s : Notes) → fold_stmt steps x ≡ s → NotesGo s (in_stmt x)
      → claims.stmt x
  stmt_at x s is go = subst (λ one. NotesGo one (in_stmt x)) (sym is) go

  operands : (links : List Link) → AllByRecursion claims.link links
      → NotesGo (all_of (map (λ (link : Linked). link.operand) (map (fold_link steps) links)))
      (in_all in_link links)
  operands [] all = none_go _
  operands (link ∷ links) all =
      both (fold_link steps link).operand
      (all_of (map (λ (link : Linked). link.operand) (map (fold_link steps) links))) (in_link link)
      (in_all in_link links) (in_all in_link (link ∷ links)) all.0 (operands links all.1)
      (λ key. omega (arith, in_all-cons in_link link links key))

  otherwise_goes : (otherwise : Option Block) → Given claims.block otherwise
      → NotesGo (unwrap_or (option_map (fold_block steps) otherwise) no_notes)
      (in_option in_block otherwise)
  unfolding in_option
  otherwise_goes None go = none_go _
  otherwise_goes (Some block) go = go

  returned_goes : (at : ℕ) (given : Option Expr) → Given claims.expr given
      → NotesGo (steps.stmt (layer.Return at (option_map (fold_expr steps) given)))
      (in_option in_expr given)
  unfolding in_option
  returned_goes at None goes = none_go _
  returned_goes at (Some given) goes = goes.notes

  cases : Cases claims
  cases = record {
    int = λ at literal. expr_at (exprs.Int at literal) _ (eq.fold_expr-Int steps at literal)
        (value_goes at no_notes _ (none_go _));
    bool = λ at literal. expr_at (exprs.Bool at literal) _ (eq.fold_expr-Bool steps at literal)
        (value_goes at no_notes _ (none_go _));
    use_of = λ name. expr_at (exprs.Use name) _ (eq.fold_expr-Use steps name) (record {
      notes = part (λ context listed. word_notes world answers context name.at) (hits name.at)
          (in_expr (exprs.Use name)) (word_goes name.at)
          (λ key. omega (arith, keys.in_expr-Use name key));
      before = λ context listed fits.
          noted.more _ none (in_expr (exprs.Use name)) (λ key. omega arith)
          (noted.mentions (word_mentions world answers context.owner name.at));
      stores = λ context place.
          noted.stored context no_base name.at place [] noted.stored_nothing;
    });
    me = λ at. expr_at (exprs.Me at) _ (eq.fold_expr-Me steps at) (record {
      notes = λ context listed fits.
          noted.more _ none (in_expr (exprs.Me at)) (λ key. omega arith)
          (noted.mentions (me_mentions world context.owner at));
      before = λ context listed fits.
          noted.more _ none (in_expr (exprs.Me at)) (λ key. omega arith)
          (noted.mentions (me_mentions world context.owner at));
      stores = λ context place. noted.stored_nothing;
    });
    member = λ base name of_base.
        expr_at (exprs.Member base name) _ (eq.fold_expr-Member steps base name) (record {
          notes = both (fold_expr steps base).notes
              (λ context listed. member_notes world answers (fold_expr steps base) name.at context)
              (in_expr base) (hits name.at) (in_expr (exprs.Member base name)) of_base.notes
              (member_goes (fold_expr steps base) name.at)
              (λ key. omega (arith, keys.in_expr-Member base name key));
          before = part (fold_expr steps base).notes (in_expr base)
              (in_expr (exprs.Member base name)) of_base.notes
              (λ key. omega (arith, keys.in_expr-Member base name key));
          stores = λ context place.
              noted.stored context
              (base_of answers (fold_expr steps base).key (fold_expr steps base).is_self) name.at
              place ((fold_expr steps base).stores context place) (of_base.stores context place);
        });
    call = λ name args all.
        expr_at (exprs.Call name args) _ (eq.fold_expr-Call steps name args)
        (value_goes name.at _ _
        (both (λ context listed. word_notes world answers context name.at)
        (all_of (map (fold_arg steps) args)) (hits name.at) (in_all in_arg args)
        (in_expr (exprs.Call name args)) (word_goes name.at)
        (many (fold_arg steps) in_arg args all)
        (λ key. omega (arith, keys.in_expr-Call name args key))));
    method = λ base name args of_base all.
        expr_at (exprs.Method base name args) _ (eq.fold_expr-Method steps base name args)
        (value_goes name.at _ _
        (both (λ context listed. (fold_expr steps base).notes context listed
        ++ member_notes world answers (fold_expr steps base) name.at context)
        (all_of (map (fold_arg steps) args)) (together (in_expr base) (hits name.at))
        (in_all in_arg args) (in_expr (exprs.Method base name args))
        (both (fold_expr steps base).notes
        (λ context listed. member_notes world answers (fold_expr steps base) name.at context)
        (in_expr base) (hits name.at) (together (in_expr base) (hits name.at)) of_base.notes
        (member_goes (fold_expr steps base) name.at) (λ key. omega arith))
        (many (fold_arg steps) in_arg args all)
        (λ key. omega (arith, keys.in_expr-Method base name args key))));
    chain = λ first rest of_first all.
        expr_at (exprs.Chain first rest) _ (eq.fold_expr-Chain steps first rest)
        (value_goes _ _ _
        (both (fold_expr steps first).notes
        (all_of (map (λ (link : Linked). link.operand) (map (fold_link steps) rest)))
        (in_expr first) (in_all in_link rest) (in_expr (exprs.Chain first rest)) of_first.notes
        (operands rest all) (λ key. omega (arith, keys.in_expr-Chain first rest key))));
    prefix = λ op at inner of_inner.
        expr_at (exprs.Prefix op at inner) _ (eq.fold_expr-Prefix steps op at inner)
        (value_goes at _ _
        (part (fold_expr steps inner).notes (in_expr inner) (in_expr (exprs.Prefix op at inner))
        of_inner.notes (λ key. omega (arith, keys.in_expr-Prefix op at inner key))));
    await = λ at inner of_inner.
        expr_at (exprs.Await at inner) _ (eq.fold_expr-Await steps at inner)
        (value_goes at _ _
        (part (λ context listed. (fold_expr steps inner).notes (in_await context) listed)
        (in_expr inner) (in_expr (exprs.Await at inner))
        (λ context listed fits.
        of_inner.notes (in_await context) listed (noted.awaited context (in_expr inner) fits))
        (λ key. omega (arith, keys.in_expr-Await at inner key))));
    fun = λ closure within.
        expr_at (exprs.Fun closure) _ (eq.fold_expr-Fun steps closure)
        (value_goes _ _ _
        (part (fun_notes world answers (fold_closure steps closure)) (in_closure closure)
        (in_expr (exprs.Fun closure)) within.fun
        (λ key. omega (arith, keys.in_expr-Fun closure key))));
    spawn = λ at detached body within.
        expr_at (exprs.Spawn at detached body) _ (eq.fold_expr-Spawn steps at detached body)
        (value_goes at _ _
        (part (task_notes world answers at detached (fold_closure steps body)) (in_closure body)
        (in_expr (exprs.Spawn at detached body)) (within.task at detached)
        (λ key. omega (arith, keys.in_expr-Spawn at detached body key))));
    yield = λ at. expr_at (exprs.Yield at) _ (eq.fold_expr-Yield steps at)
        (value_goes at _ _ (λ context listed fits.
        noted.more _ none (in_expr (exprs.Yield at)) (λ key. omega arith)
        (noted.awaits context at)));
    bind = λ mutable name ty bound of_bound.
        stmt_at (stmts.Bind mutable name ty bound) _ (eq.fold_stmt-Bind steps mutable name ty bound)
        (both (λ context listed. var_notes mutable name.at) (fold_expr steps bound).notes (hits name.at) (in_expr bound)
        (in_stmt (stmts.Bind mutable name ty bound))
        (λ context listed fits. noted.variable mutable name.at) of_bound.notes
        (λ key. omega (arith, keys.in_stmt-Bind mutable name ty bound key)));
    assign = λ at op place given of_place of_given.
        stmt_at (stmts.Assign at op place given) _ (eq.fold_stmt-Assign steps at op place given)
        (both (place_notes world answers op (fold_expr steps place)) (fold_expr steps given).notes (in_expr place) (in_expr given)
        (in_stmt (stmts.Assign at op place given))
        (place_goes op (fold_expr steps place) (in_expr place) of_place) of_given.notes
        (λ key. omega (arith, keys.in_stmt-Assign at op place given key)));
    discard = λ at given of_given.
        stmt_at (stmts.Discard at given) _ (eq.fold_stmt-Discard steps at given)
        (part (fold_expr steps given).notes (in_expr given) (in_stmt (stmts.Discard at given))
        of_given.notes (λ key. omega (arith, keys.in_stmt-Discard at given key)));
    if_of = λ arms otherwise all last.
        stmt_at (stmts.If arms otherwise) _ (eq.fold_stmt-If steps arms otherwise)
        (both (all_of (map (fold_if_arm steps) arms))
        (unwrap_or (option_map (fold_block steps) otherwise) no_notes) (in_all in_if_arm arms)
        (in_option in_block otherwise) (in_stmt (stmts.If arms otherwise))
        (many (fold_if_arm steps) in_if_arm arms all) (otherwise_goes otherwise last)
        (λ key. omega (arith, keys.in_stmt-If arms otherwise key)));
    while_of = λ at cond body of_cond of_body.
        stmt_at (stmts.While at cond body) _ (eq.fold_stmt-While steps at cond body)
        (both (fold_expr steps cond).notes (fold_block steps body) (in_expr cond) (in_block body)
        (in_stmt (stmts.While at cond body)) of_cond.notes of_body
        (λ key. omega (arith, keys.in_stmt-While at cond body key)));
    switch = λ at subject arms otherwise of_subject all last.
        stmt_at (stmts.Switch at subject arms otherwise) _
        (eq.fold_stmt-Switch steps at subject arms otherwise)
        (both (λ context listed. (fold_expr steps subject).notes context listed
        ++ all_of (map (fold_case_arm steps) arms) context listed)
        (unwrap_or (option_map (fold_block steps) otherwise) no_notes)
        (together (in_expr subject) (in_all in_case_arm arms)) (in_option in_block otherwise)
        (in_stmt (stmts.Switch at subject arms otherwise))
        (both (fold_expr steps subject).notes (all_of (map (fold_case_arm steps) arms))
        (in_expr subject) (in_all in_case_arm arms)
        (together (in_expr subject) (in_all in_case_arm arms)) of_subject.notes
        (many (fold_case_arm steps) in_case_arm arms all) (λ key. omega arith))
        (otherwise_goes otherwise last)
        (λ key. omega (arith, keys.in_stmt-Switch at subject arms otherwise key)));
    return_of = λ at given goes.
        stmt_at (stmts.Return at given) _ (eq.fold_stmt-Return steps at given)
        (part (steps.stmt (layer.Return at (option_map (fold_expr steps) given)))
        (in_option in_expr given) (in_stmt (stmts.Return at given)) (returned_goes at given goes)
        (λ key. omega (arith, keys.in_stmt-Return at given key)));
    break_of = λ at. stmt_at (stmts.Break at) _ (eq.fold_stmt-Break steps at) (none_go _);
    continue_of = λ at.
        stmt_at (stmts.Continue at) _ (eq.fold_stmt-Continue steps at) (none_go _);
    plain = λ given of_given.
        stmt_at (stmts.Plain given) _ (eq.fold_stmt-Plain steps given)
        (part (fold_expr steps given).notes (in_expr given) (in_stmt (stmts.Plain given))
        of_given.notes (λ key. omega (arith, keys.in_stmt-Plain given key)));
    arg = λ label given of_given.
        let x = roll-Arg (record { label = label; value = given }) in
        subst (λ one. NotesGo one (in_arg x)) (sym (eq.fold_arg-roll steps label given))
        (part (fold_expr steps given).notes (in_expr given) (in_arg x) of_given.notes
        (λ key. omega (arith, keys.in_arg-roll label given key)));
    closure = λ at mark captures params result body of_body.
        let x = closure_of at mark captures params result body in
        let notes = fold_block steps body in
        let within : IsWithin (together (hits at) (in_block body)) (in_closure x) =
        λ key. omega (arith, keys.in_closure-roll at mark captures params result body key) in
        subst (λ (one : NotedClosure). WithinGoes one (in_closure x))
        (sym (eq.fold_closure-roll steps at mark captures params result body)) (record {
          fun = part _ (together (hits at) (in_block body)) (in_closure x)
              (noted.fun at mark captures notes (in_block body) of_body) within;
          task = λ place detached.
              part _ (together (hits at) (in_block body)) (in_closure x)
              (noted.task place detached at mark captures notes (in_block body) of_body) within;
        });
    link = λ op at operand of_operand.
        let x = roll-Link (record { op = op; at = at; operand = operand }) in
        subst (λ (one : Linked). NotesGo one.operand (in_link x))
        (sym (eq.fold_link-roll steps op at operand))
        (part (fold_expr steps operand).notes (in_expr operand) (in_link x) of_operand.notes
        (λ key. omega (arith, keys.in_link-roll op at operand key)));
    block = λ list all.
        let x = roll-Block (record { stmts = list }) in
        subst (λ one. NotesGo one (in_block x)) (sym (eq.fold_block-roll steps list))
        (part (all_of (map (fold_stmt steps) list)) (in_all in_stmt list) (in_block x)
        (many (fold_stmt steps) in_stmt list all)
        (λ key. omega (arith, keys.in_block-roll list key)));
    case_arm = λ name patterns body of_body.
        let x = roll-CaseArm (record { name = name; patterns = patterns; body = body }) in
        subst (λ one. NotesGo one (in_case_arm x))
        (sym (eq.fold_case_arm-roll steps name patterns body))
        (part (fold_block steps body) (in_block body) (in_case_arm x) of_body
        (λ key. omega (arith, keys.in_case_arm-roll name patterns body key)));
    if_arm = λ at cond body of_cond of_body.
        let x = roll-IfArm (record { at = at; cond = cond; body = body }) in
        subst (λ one. NotesGo one (in_if_arm x)) (sym (eq.fold_if_arm-roll steps at cond body))
        (both (fold_expr steps cond).notes (fold_block steps body) (in_expr cond) (in_block body)
        (in_if_arm x) of_cond.notes of_body
        (λ key. omega (arith, keys.in_if_arm-roll at cond body key)));
  }

  pub expr_goes : (e : Expr) → SeenGoes (see world answers e) (in_expr e)
  unfolding see
  expr_goes e = every_expr claims cases e

  pub stmt_goes : (x : Stmt) → NotesGo (stmt_notes world answers x) (in_stmt x)
  unfolding stmt_notes
  stmt_goes x = every_stmt claims cases x

  pub arg_goes : (x : Arg) → NotesGo (fold_arg steps x) (in_arg x)
  arg_goes x = every_arg claims cases x

  pub link_goes : (x : Link) → NotesGo (fold_link steps x).operand (in_link x)
  link_goes x = every_link claims cases x

  pub block_goes : (x : Block) → NotesGo (block_notes world answers x) (in_block x)
  unfolding block_notes
  block_goes x = every_block claims cases x

  pub case_arm_goes : (x : CaseArm) → NotesGo (fold_case_arm steps x) (in_case_arm x)
  case_arm_goes x = every_case_arm claims cases x

  pub if_arm_goes : (x : IfArm) → NotesGo (fold_if_arm steps x) (in_if_arm x)
  if_arm_goes x = every_if_arm claims cases x
