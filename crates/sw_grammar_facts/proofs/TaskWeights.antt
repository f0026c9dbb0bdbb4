-- What an `await` awaits is like what stands in the text: of a word that stands for a task it has
-- the task's value. So each relation of trees that the parts with a first primary carry to the
-- whole holds of the two, where it holds of that value and the word.
use Rattle.std.proofs.Common.{◌≡◌, ℕ, ◌+◌, ◌≤◌, ◌==◌, Bool, true, false, if◌then◌else◌, List}
use Rattle.std.proofs.Common.{arith, sym, subst}
use Rattle.std.specs.List.{list_any}
use Rattle.sw_tree.proofs.Counting.{Weight, in_all}
use Rattle.sw_tree.proofs.TreeInduction.{Cases, Claims, every_expr}
use Rattle.sw_tree.specs.Names.{value_id}
use Rattle.sw_tree.specs.declared.expr.Arg.{Arg}
use Rattle.sw_tree.specs.declared.expr.Expr.{Expr}
use Rattle.sw_tree.specs.declared.expr.Expr.TheVariants as exprs
use Rattle.sw_tree.specs.declared.expr.Link.{Link}
use Rattle.sw_tree.specs.declared.name.Name.{Name}
use Rattle.sw_tree.specs.declared.operator.PrefixOp.{PrefixOp}
use Rattle.sw_sugar.proofs.TaskForms as forms
use Rattle.sw_sugar.specs.Optionals.{name_at, use_at}
use Rattle.sw_sugar.specs.Tasks.{of_task, task_value}

-- The place is that of the use of the word.
pub record Carried (place : ℕ) (R : Expr → Expr → Type 0) : Type 0 where
  pub same : (tree : Expr) → R tree tree
  pub task : (name : Name) → R (task_value place name) (exprs.Use name)
  pub member : (made tree : Expr) (name : Name) → R made tree
      → R (exprs.Member made name) (exprs.Member tree name)
  pub method : (made tree : Expr) (name : Name) (args : List Arg) → R made tree
      → R (exprs.Method made name args) (exprs.Method tree name args)
  pub chain : (made tree : Expr) (rest : List Link) → R made tree
      → R (exprs.Chain made rest) (exprs.Chain tree rest)
  pub prefix : (op : PrefixOp) (at : ℕ) (made tree : Expr) → R made tree
      → R (exprs.Prefix op at made) (exprs.Prefix op at tree)

module _ (tasks : List ℕ) (place : ℕ) (R : Expr → Expr → Type 0) (is : Carried place R) where
  abbrev Holds : Expr → Type 0
  Holds tree = R (of_task tasks place tree) tree

  -- a tree that stays
  stays : (tree : Expr) → of_task tasks place tree ≡ tree → Holds tree
  stays tree same = subst (λ made. R made tree) (sym same) (is.same tree)

  by_word : (name : Name) (b : Bool)
      → R (if b then task_value place name else exprs.Use name) (exprs.Use name)
  by_word name true = is.task name
  by_word name false = is.same (exprs.Use name)

  of_use : (name : Name) → Holds (exprs.Use name)
  of_use name =
      subst (λ made. R made (exprs.Use name)) (sym (forms.use_is tasks place name))
      (by_word name (list_any (λ task. task == name.id) tasks))

  claims : Claims
  claims = record {
    expr = Holds;
    stmt = λ _. Unit {0};
    arg = λ _. Unit {0};
    closure = λ _. Unit {0};
    link = λ _. Unit {0};
    block = λ _. Unit {0};
    case_arm = λ _. Unit {0};
    if_arm = λ _. Unit {0};
  }

  cases : Cases claims
  unfolding claims
  cases = record {
    int = λ at value. stays (exprs.Int at value) (forms.int_is tasks place at value);
    bool = λ at value. stays (exprs.Bool at value) (forms.bool_is tasks place at value);
    use_of = of_use;
    me = λ at. stays (exprs.Me at) (forms.me_is tasks place at);
    member = λ base name holds.
        subst (λ made. R made (exprs.Member base name)) (sym (forms.member_is tasks place base name))
        (is.member (of_task tasks place base) base name holds);
    call = λ name args _. stays (exprs.Call name args) (forms.call_is tasks place name args);
    method = λ base name args holds _.
        subst (λ made. R made (exprs.Method base name args))
        (sym (forms.method_is tasks place base name args))
        (is.method (of_task tasks place base) base name args holds);
    chain = λ first rest holds _.
        subst (λ made. R made (exprs.Chain first rest))
        (sym (forms.chain_is tasks place first rest))
        (is.chain (of_task tasks place first) first rest holds);
    prefix = λ op at inner holds.
        subst (λ made. R made (exprs.Prefix op at inner))
        (sym (forms.prefix_is tasks place op at inner))
        (is.prefix op at (of_task tasks place inner) inner holds);
    await = λ at inner _. stays (exprs.Await at inner) (forms.await_is tasks place at inner);
    fun = λ closure _. stays (exprs.Fun closure) (forms.fun_is tasks place closure);
    spawn = λ at detached body _.
        stays (exprs.Spawn at detached body) (forms.spawn_is tasks place at detached body);
    yield = λ at. stays (exprs.Yield at) (forms.yield_is tasks place at);
    bind = λ mutable name ty value _. tt;
    assign = λ at op place value _ _. tt;
    discard = λ at value _. tt;
    if_of = λ arms otherwise _ _. tt;
    while_of = λ at cond body _ _. tt;
    switch = λ at subject arms otherwise _ _ _. tt;
    return_of = λ at value _. tt;
    break_of = λ at. tt;
    continue_of = λ at. tt;
    plain = λ value _. tt;
    arg = λ label value _. tt;
    closure = λ at mark captures params result body _. tt;
    link = λ op at operand _. tt;
    block = λ stmts _. tt;
    case_arm = λ name patterns body _. tt;
    if_arm = λ at cond body _ _. tt;
  }

  pub carried : (tree : Expr) → R (of_task tasks place tree) tree
  unfolding claims
  carried tree = every_expr claims cases tree

-- no more weighs what is made than what is there and a place
abbrev WeighsMore : (Expr → Weight) → Weight → Expr → Expr → Type 0
WeighsMore expr place made tree = (k : ℕ) → expr made k ≤ place k + expr tree k

-- a weight that is the sum of those of the parts
pub record Summed (expr : Expr → Weight) : Type 0 where
  pub name : Name → Weight
  pub operator : ℕ → Weight
  pub arg : Arg → Weight
  pub link : Link → Weight
  pub expr-Use : (it : Name) (k : ℕ) → expr (exprs.Use it) k ≡ name it k
  pub expr-Member : (base : Expr) (it : Name) (k : ℕ)
      → expr (exprs.Member base it) k ≡ name it k + expr base k
  pub expr-Method : (base : Expr) (it : Name) (args : List Arg) (k : ℕ)
      → expr (exprs.Method base it args) k ≡ name it k + expr base k + in_all arg args k
  pub expr-Chain : (first : Expr) (rest : List Link) (k : ℕ)
      → expr (exprs.Chain first rest) k ≡ expr first k + in_all link rest k
  pub expr-Prefix : (op : PrefixOp) (at : ℕ) (inner : Expr) (k : ℕ)
      → expr (exprs.Prefix op at inner) k ≡ operator at k + expr inner k

-- Where the names of a task's value weigh no more than its word and the place, what an `await`
-- awaits weighs no more than its expression and the place.
pub summed_task : (expr : Expr → Weight) (sums : Summed expr) (place : Weight) (tasks : List ℕ)
    (at : ℕ)
    → ((it : Name) (k : ℕ) → sums.name (name_at at it.id) k + sums.name (name_at it.at value_id) k
    ≤ place k + sums.name it k)
    → (tree : Expr) (k : ℕ) → expr (of_task tasks at tree) k ≤ place k + expr tree k
summed_task expr sums place tasks at words tree = carried tasks at (WeighsMore expr place) (record {
  same = λ tree k. omega arith;
  task = λ it k.
      omega (
        arith,
        words it k,
        sums.expr-Member (use_at at it.id) (name_at it.at value_id) k,
        sums.expr-Use (name_at at it.id) k,
        sums.expr-Use it k,
      );
  member = λ made tree it less k.
      omega (arith, less k, sums.expr-Member made it k, sums.expr-Member tree it k);
  method = λ made tree it args less k.
      omega (arith, less k, sums.expr-Method made it args k, sums.expr-Method tree it args k);
  chain = λ made tree rest less k.
      omega (arith, less k, sums.expr-Chain made rest k, sums.expr-Chain tree rest k);
  prefix = λ op at made tree less k.
      omega (arith, less k, sums.expr-Prefix op at made k, sums.expr-Prefix op at tree k);
}) tree
