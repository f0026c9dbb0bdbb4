-- The work of whole trees, by one step for each form.
use Rattle.std.specs.Prelude.{ℕ, true, false, List, [], map, Option, Some, None, if◌then◌else◌}
use Rattle.sw_tree.specs.Folds.{Steps, fold_block, fold_expr, fold_stmt}
use Rattle.sw_tree.specs.NodeKey.{last_or}
use Rattle.sw_tree.specs.declared.expr.ClosureParam.{ClosureParam}
use Rattle.sw_tree.specs.declared.expr.Expr.{Expr}
use Rattle.sw_tree.specs.declared.expr.Expr.TheOpen as layer
use Rattle.sw_tree.specs.declared.name.Name.{Name}
use Rattle.sw_tree.specs.declared.stmt.Block.{Block}
use Rattle.sw_tree.specs.declared.stmt.Stmt.{Stmt}
use Rattle.sw_types.specs.declared.shape.CaseShape.{CaseShape}
use Rattle.sw_types.specs.declared.shape.Shape.{Shape}
use Rattle.sw_typing_rules.specs.Worlds.{item}
use Rattle.sw_isolation_rules.specs.Noting.{task_result}
use Rattle.sw_isolation_rules.specs.Uses.{named_shape}
use Rattle.sw_isolation_rules.specs.declared.note.Capture.{Capture}
use Rattle.sw_value.specs.declared.value.Value.TheVariants as value
use Rattle.sw_tree_work.specs.Facts.{Facts, func_result}
use Rattle.sw_tree_work.specs.Forms.{CaseWork, ClosureWork, ExprWork, IfWork, LinkWork, StmtWork}
use Rattle.sw_tree_work.specs.Forms.{arms_work, assign, block_of, body_work, captured, else_work}
use Rattle.sw_tree_work.specs.Forms.{given_part, in_order, link_work, prefixed, statement, value_at}
use Rattle.sw_tree_work.specs.Forms.{ways, while_work}
use Rattle.sw_tree_work.specs.Meanings.{call_read, member_read, member_write, method_read}
use Rattle.sw_tree_work.specs.Meanings.{read_self, word_read, word_write}
use Rattle.sw_tree_work.specs.Work.{Again, Before, Close, Declare, Drop, Finish, Literal, Return}
use Rattle.sw_tree_work.specs.Work.{Spawn, Switch, Then, Yield}

module _ (facts : Facts) where
  -- a closure reads what it captures by value, and a task does so too
  abbrev pub captures_of : ClosureWork → List Capture
  captures_of closure = facts.captures_of closure.at

  abbrev pub fun_read : ClosureWork → Before
  fun_read closure rest =
      captured (captures_of closure)
      (Close closure.at (captures_of closure) closure.params
      (body_work (func_result (facts.answers.type_at closure.at)) closure.body) rest)

  abbrev pub spawn_read : ℕ → ClosureWork → Before
  spawn_read at closure rest =
      captured (captures_of closure)
      (Spawn at (facts.iso_at closure.at) (captures_of closure)
      (body_work (task_result (facts.answers.type_at at)) closure.body) rest)

  module _ (owner : Option ℕ) where
    abbrev pub word_work : ℕ → ExprWork
    word_work at = record (value_at at (word_read facts owner at (facts.answers.meaning_at at))) {
      write = word_write facts owner at (facts.answers.meaning_at at);
    }

    abbrev pub self_work : ℕ → ExprWork
    self_work at = record (value_at at (read_self facts owner)) { is_self = true }

    abbrev pub member_work : ExprWork → Name → ExprWork
    member_work base name = record {
      key = name.at;
      is_self = false;
      own_part = if base.is_self then Some name.id else None;
      read = member_read facts owner name.at base (facts.answers.meaning_at name.at);
      write = member_write facts owner base (facts.answers.meaning_at name.at);
    }

    -- operators of one rank, from the left
    abbrev pub chain_work : ExprWork → List LinkWork → ExprWork
    chain_work first rest =
        value_at (last_or first.key (map (λ (link : LinkWork). link.at) rest))
        (λ after. first.read (in_order link_work rest after))

    abbrev pub expr_layer : layer.Expr-F ExprWork StmtWork Before ClosureWork LinkWork StmtWork
        CaseWork IfWork → ExprWork
    expr_layer (layer.Int at literal) = value_at at (Then (Literal (value.Int literal)))
    expr_layer (layer.Bool at literal) = value_at at (Then (Literal (value.Bool literal)))
    expr_layer (layer.Use name) = word_work name.at
    expr_layer (layer.Me at) = self_work at
    expr_layer (layer.Member base name) = member_work base name
    expr_layer (layer.Call name args) =
        value_at name.at
        (call_read facts owner name.at args (facts.answers.meaning_at name.at))
    expr_layer (layer.Method base name args) =
        value_at name.at
        (method_read facts owner name.at base args (facts.answers.meaning_at name.at))
    expr_layer (layer.Chain first rest) = chain_work first rest
    expr_layer (layer.Prefix op at inner) =
        value_at at (λ rest. inner.read (Then (prefixed op at) rest))
    expr_layer (layer.Await at inner) = value_at at inner.read
    expr_layer (layer.Fun closure) = value_at closure.at (fun_read closure)
    expr_layer (layer.Spawn at detached body) = value_at at (spawn_read at body)
    expr_layer (layer.Yield at) = value_at at (Then Yield)

  abbrev pub cases_in : Option Shape → List CaseShape
  cases_in None = []
  cases_in (Some shape) = shape.cases

  -- the cases of the enum that an expression has a value of
  abbrev pub cases_of : ExprWork → List CaseShape
  cases_of subject =
      cases_in (item (named_shape (facts.answers.type_at subject.key)) facts.world.shapes)

  abbrev pub bind_work : ℕ → ExprWork → Before
  bind_work key bound rest = bound.read (Then (Declare key (facts.is_boxed key)) rest)

  abbrev pub switch_work : ExprWork → List CaseWork → Option StmtWork → Before
  switch_work subject arms otherwise rest =
      subject.read (Switch (cases_of subject) (ways arms otherwise rest))

  abbrev pub unused : ExprWork → Before
  unused one rest = one.read (Then Drop rest)

  -- What stands after `return`, `break` and `continue` in a block is never done.
  abbrev pub stmt_layer : layer.Stmt-F ExprWork StmtWork Before ClosureWork LinkWork StmtWork
      CaseWork IfWork → StmtWork
  stmt_layer (layer.Bind mutable name ty bound) = statement (λ breaks. bind_work name.at bound)
  stmt_layer (layer.Assign at op place assigned) = record {
    work = λ breaks rest. assigned.read (assign op at place rest);
    only = None;
    gives = given_part place.own_part assigned.read;
  }
  stmt_layer (layer.Discard at one) = statement (λ breaks. unused one)
  stmt_layer (layer.If arms otherwise) = statement (arms_work arms (else_work otherwise))
  stmt_layer (layer.While at cond body) = statement (λ breaks. while_work cond.read body)
  stmt_layer (layer.Switch at subject arms otherwise) =
      statement (λ breaks. switch_work subject arms otherwise)
  stmt_layer (layer.Return at None) = statement (λ breaks rest. Finish)
  stmt_layer (layer.Return at (Some given)) = statement (λ breaks rest. given.read Return)
  stmt_layer (layer.Break at) = statement (λ breaks rest. breaks)
  stmt_layer (layer.Continue at) = statement (λ breaks rest. Again)
  stmt_layer (layer.Plain one) =
      record { work = λ breaks. unused one; only = Some one.read; gives = [] }

  abbrev pub work_steps : Option ℕ → Steps
  work_steps owner = record {
    E = ExprWork;
    S = StmtWork;
    A = Before;
    C = ClosureWork;
    L = LinkWork;
    B = StmtWork;
    K = CaseWork;
    I = IfWork;
    expr = expr_layer owner;
    stmt = stmt_layer;
    arg = λ arg. arg.value.read;
    closure = λ closure. record {
      at = closure.at;
      params = map (λ (param : ClosureParam). param.name.at) closure.params;
      body = closure.body;
    };
    link = λ link. record { op = link.op; at = link.at; read = link.operand.read };
    block = λ block. block_of block.stmts;
    case_arm = λ arm. record { name = arm.name.id; patterns = arm.patterns; body = arm.body };
    if_arm = λ arm. record { cond = arm.cond.read; body = arm.body };
  }

  -- the work of an expression, of a statement and of a block, in a member of the type with a number
  unfoldable pub expr_work : Option ℕ → Expr → ExprWork
  expr_work owner = fold_expr (work_steps owner)

  unfoldable pub stmt_work : Option ℕ → Stmt → StmtWork
  stmt_work owner = fold_stmt (work_steps owner)

  unfoldable pub block_work : Option ℕ → Block → StmtWork
  block_work owner = fold_block (work_steps owner)
