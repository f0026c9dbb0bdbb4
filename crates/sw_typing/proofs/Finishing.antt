-- The ends of the arms of the walk over expressions: what a step notes after what its parts noted
-- is what is known of the whole.
use Rattle.std.proofs.Common.{◌≡◌, ◌++◌, ◌||◌, ℕ, Bool, false, List, [], Option, Result}
use Rattle.std.proofs.Common.{append_assoc, ap, length, subst, sym, take, ◌∙◌, IfOk, OnOk}
use Rattle.std.proofs.lemmas.Result.{on_ok_weaker}
use Rattle.sw_tree.proofs.FoldEquations as eq
use Rattle.sw_tree.specs.declared.expr.Arg.{Arg}
use Rattle.sw_tree.specs.declared.expr.Closure.{Closure}
use Rattle.sw_tree.specs.declared.expr.Expr.{Expr}
use Rattle.sw_tree.specs.declared.expr.Expr.TheVariants as exprs
use Rattle.sw_tree.specs.declared.expr.Link.{Link}
use Rattle.sw_tree.specs.declared.name.Name.{Name}
use Rattle.sw_tree.specs.declared.operator.PrefixOp.{PrefixOp}
use Rattle.sw_tree.specs.declared.stmt.Block.{Block, out-Block}
use Rattle.sw_tree.specs.declared.stmt.Stmt.{Stmt}
use Rattle.sw_typing_rules.specs.Calls.{Callee, call_types, callee_meaning, slots_of}
use Rattle.sw_typing_rules.specs.Expressions.{Judged, Passed, base_rows, call_judged, fun_types}
use Rattle.sw_typing_rules.specs.Expressions.{noted, task_types}
use Rattle.sw_typing_rules.specs.Judging.{OfExpr, typing_steps}
use Rattle.sw_typing_rules.specs.Operators.{prefix_types}
use Rattle.sw_typing_rules.specs.Statements.{State, is_one, with_only}
use Rattle.sw_typing_rules.specs.Verdicts.{meaning_rows, rows_of}
use Rattle.sw_typing_rules.specs.Words.{Setting, var_types}
use Rattle.sw_typing_rules.specs.Worlds.{World}
use Rattle.sw_typing_rules.specs.declared.row.Row.{Row}
use Rattle.sw_typing_rules.specs.declared.scope.Inside.{Inside}
use Rattle.sw_typing_rules.specs.declared.scope.Var.{Var}
use Rattle.sw_typing_rules.specs.declared.verdict.Given.{Given}
use Rattle.sw_typing_steps.specs.Steps.{enclosed_of, judged_since, known_of, setting_in, state_of}
use Rattle.sw_typing_steps.specs.Steps.{with_rows}
use Rattle.sw_typing_steps.specs.declared.known.Enclosed.{Enclosed}
use Rattle.sw_typing_steps.specs.declared.known.Known.{Known}
use Rattle.sw_typing_steps.specs.declared.table.Table.{Table}
use Rattle.sw_typing.proofs.Forms.{fun_is, method_is, spawn_is}
use Rattle.sw_typing.proofs.Keeping.{stmts_keep}
use Rattle.sw_typing.proofs.Since.{chain_is, take_is}
use Rattle.sw_typing.specs.Walked.{args_passed, called_member, closure_known, expr_known}
use Rattle.sw_typing.specs.Walked.{links_known, stmts_left}

-- a step that notes its own rows after those of the parts
pub noted_rows : {X E : Type 0} (r : Result X E) (now mid old : Table) (own inner whole : List Row)
    → mid.rows ≡ old.rows ++ inner → whole ≡ inner ++ own → OnOk r (now ≡ with_rows mid own)
    → OnOk r (now.rows ≡ old.rows ++ whole)
noted_rows r now mid old own inner whole p q h =
    on_ok_weaker r (λ (n : now ≡ with_rows mid own). ap (λ (t : Table). t.rows) n
    ∙ ap (λ rows. rows ++ own) p ∙ append_assoc old.rows inner own
    ∙ ap (λ rows. old.rows ++ rows) (sym q)) h

-- what is known by an equal judgement
pub known_by : {A E : Type 0} (r : Result A E) (one other : A) → one ≡ other
    → IfOk r (λ known. known ≡ one) → IfOk r (λ known. known ≡ other)
known_by r one other p h = subst (λ k. IfOk r (λ known. known ≡ k)) p h

module _ (world : World) where
  pub prefix_whole : (tree part get : Expr) (op : PrefixOp) (at : ℕ) (s : Setting)
      (expected : Bool) (inner : Known) → tree ≡ exprs.Prefix op at part → get ≡ part
      → inner ≡ known_of (expr_known world get s false)
      → (expr_known world tree s expected).rows
      ≡ (expr_known world get s false).rows ++ rows_of at (prefix_types op inner.ty)
  prefix_whole tree part get op at s expected inner p g q =
      ap (λ t. (expr_known world t s expected).rows) p
      ∙ ap (λ (f : OfExpr). (f s expected).rows)
      (eq.fold_expr-Prefix (typing_steps world) op at part)
      ∙ ap (λ x. (expr_known world x s false).rows
      ++ rows_of at (prefix_types op (expr_known world x s false).ty)) (sym g)
      ∙ ap (λ (k : Known). (expr_known world get s false).rows ++ rows_of at (prefix_types op k.ty))
      (sym q)

  pub await_whole : (tree part get : Expr) (at : ℕ) (s : Setting) (expected : Bool)
      (inner : Known) → tree ≡ exprs.Await at part → get ≡ part
      → inner ≡ known_of (expr_known world get s false)
      → (expr_known world tree s expected).rows
      ≡ (expr_known world get s false).rows ++ rows_of at (var_types inner.ty)
  await_whole tree part get at s expected inner p g q =
      ap (λ t. (expr_known world t s expected).rows) p
      ∙ ap (λ (f : OfExpr). (f s expected).rows) (eq.fold_expr-Await (typing_steps world) at part)
      ∙ ap (λ x. (expr_known world x s false).rows
      ++ rows_of at (var_types (expr_known world x s false).ty)) (sym g)
      ∙ ap (λ (k : Known). (expr_known world get s false).rows ++ rows_of at (var_types k.ty))
      (sym q)

  abbrev fun_own : Bool → Enclosed → List Row
  fun_own expected closed =
      rows_of closed.at (fun_types (closed.marked || expected) closed.params closed.result)

  abbrev fun_known_of : Bool → Enclosed → Known
  fun_known_of expected closed = known_of (noted closed.at
      (fun_types (closed.marked || expected) closed.params closed.result) [])

  pub fun_whole : (tree : Expr) (part get : Closure) (s : Setting) (expected : Bool)
      (closed : Enclosed) → tree ≡ exprs.Fun part → get ≡ part
      → closed ≡ enclosed_of (closure_known world get s)
      → (expr_known world tree s expected).rows
      ≡ (closure_known world get s).rows ++ fun_own expected closed
  fun_whole tree part get s expected closed p g q =
      ap (λ t. (expr_known world t s expected).rows) p
      ∙ ap (λ (j : Judged). j.rows) (fun_is world part s expected)
      ∙ ap (λ x. (closure_known world x s).rows
      ++ fun_own expected (enclosed_of (closure_known world x s))) (sym g)
      ∙ ap (λ k. (closure_known world get s).rows ++ fun_own expected k) (sym q)

  pub fun_same : (tree : Expr) (part get : Closure) (s : Setting) (expected : Bool)
      (closed : Enclosed) → tree ≡ exprs.Fun part → get ≡ part
      → closed ≡ enclosed_of (closure_known world get s)
      → fun_known_of expected closed ≡ known_of (expr_known world tree s expected)
  fun_same tree part get s expected closed p g q =
      ap (fun_known_of expected) q
      ∙ ap (λ x. fun_known_of expected (enclosed_of (closure_known world x s))) g
      ∙ ap known_of (sym (fun_is world part s expected))
      ∙ ap (λ t. known_of (expr_known world t s expected)) (sym p)

  pub spawn_whole : (tree : Expr) (at : ℕ) (detached : Bool) (part get : Closure) (s : Setting)
      (expected : Bool) (closed : Enclosed) → tree ≡ exprs.Spawn at detached part → get ≡ part
      → closed ≡ enclosed_of (closure_known world get s)
      → (expr_known world tree s expected).rows
      ≡ (closure_known world get s).rows ++ rows_of at (task_types closed.result)
  spawn_whole tree at detached part get s expected closed p g q =
      ap (λ t. (expr_known world t s expected).rows) p
      ∙ ap (λ (j : Judged). j.rows) (spawn_is world at detached part s expected)
      ∙ ap (λ x. (closure_known world x s).rows
      ++ rows_of at (task_types (closure_known world x s).result)) (sym g)
      ∙ ap (λ (k : Enclosed). (closure_known world get s).rows ++ rows_of at (task_types k.result))
      (sym q)

  pub spawn_same : (tree : Expr) (at : ℕ) (detached : Bool) (part get : Closure) (s : Setting)
      (expected : Bool) (closed : Enclosed) → tree ≡ exprs.Spawn at detached part → get ≡ part
      → closed ≡ enclosed_of (closure_known world get s)
      → known_of (noted at (task_types closed.result) [])
      ≡ known_of (expr_known world tree s expected)
  spawn_same tree at detached part get s expected closed p g q =
      ap (λ (k : Enclosed). known_of (noted at (task_types k.result) [])) q
      ∙ ap (λ x. known_of (noted at (task_types (closure_known world x s).result) [])) g
      ∙ ap known_of (sym (spawn_is world at detached part s expected))
      ∙ ap (λ t. known_of (expr_known world t s expected)) (sym p)

  -- a method, by what it calls and what its arguments give
  module _ (tree base get : Expr) (name : Name) (args slice : List Arg) (owner : Option ℕ)
      (expected : Bool) (called : Callee) (given : List Given) (mid old : Table)
      (p : tree ≡ exprs.Method base name args) (g : get ≡ base) (a : slice ≡ args)
      (k : called ≡ called_member world get (setting_in owner old) name)
      (v : mid.vars ≡ old.vars)
      (f : given ≡ (args_passed world slice (setting_in owner mid) (slots_of called)).given) where
    abbrev here : Setting
    here = setting_in owner old

    abbrev calls : Callee
    calls = called_member world base here name

    abbrev passes : Passed
    passes = args_passed world args here (slots_of calls)

    whole : expr_known world tree here expected
        ≡ call_judged calls name.at (base_rows (expr_known world base here false)) passes
    whole = ap (λ t. expr_known world t here expected) p
        ∙ method_is world base name args here expected

    called_is : called ≡ calls
    called_is = k ∙ ap (λ x. called_member world x here name) g

    passed_is : args_passed world slice (setting_in owner mid) (slots_of called) ≡ passes
    passed_is = ap (λ x. args_passed world x (setting_in owner mid) (slots_of called)) a
        ∙ ap (λ vars. args_passed world args (record { owner = owner; vars = vars })
        (slots_of called)) v
        ∙ ap (λ x. args_passed world args here (slots_of x)) called_is

    given_is : given ≡ passes.given
    given_is = f ∙ ap (λ (x : Passed). x.given) passed_is

    pub method_same : known_of (noted name.at (call_types called given) [])
        ≡ known_of (expr_known world tree here expected)
    method_same = ap (λ x. known_of (noted name.at (call_types x given) [])) called_is
        ∙ ap (λ x. known_of (noted name.at (call_types calls x) [])) given_is
        ∙ ap known_of (sym whole)

    pub method_whole : (expr_known world tree here expected).rows
        ≡ (base_rows (expr_known world get here false)
        ++ (args_passed world slice (setting_in owner mid) (slots_of called)).rows)
        ++ (meaning_rows name.at (callee_meaning called)
        ++ rows_of name.at (call_types called given))
    method_whole = ap (λ (j : Judged). j.rows) whole
        ∙ ap (λ rows. rows ++ rows_of name.at (call_types calls passes.given))
        (sym (append_assoc (base_rows (expr_known world base here false)) passes.rows
        (meaning_rows name.at (callee_meaning calls))))
        ∙ append_assoc (base_rows (expr_known world base here false) ++ passes.rows)
        (meaning_rows name.at (callee_meaning calls))
        (rows_of name.at (call_types calls passes.given))
        ∙ ap (λ x. (base_rows (expr_known world x here false) ++ passes.rows)
        ++ (meaning_rows name.at (callee_meaning calls)
        ++ rows_of name.at (call_types calls passes.given))) (sym g)
        ∙ ap (λ (x : Passed). (base_rows (expr_known world get here false) ++ x.rows)
        ++ (meaning_rows name.at (callee_meaning calls)
        ++ rows_of name.at (call_types calls passes.given))) (sym passed_is)
        ∙ ap (λ x. (base_rows (expr_known world get here false)
        ++ (args_passed world slice (setting_in owner mid) (slots_of called)).rows)
        ++ (meaning_rows name.at (callee_meaning x)
        ++ rows_of name.at (call_types x passes.given))) (sym called_is)
        ∙ ap (λ x. (base_rows (expr_known world get here false)
        ++ (args_passed world slice (setting_in owner mid) (slots_of called)).rows)
        ++ (meaning_rows name.at (callee_meaning called)
        ++ rows_of name.at (call_types called x))) (sym given_is)

    pub method_rows : {X E : Type 0} (r : Result X E) (now last : Table)
        → last.rows ≡ mid.rows
        ++ (args_passed world slice (setting_in owner mid) (slots_of called)).rows
        → mid.rows ≡ old.rows ++ base_rows (expr_known world get here false)
        → OnOk r (now ≡ with_rows last (meaning_rows name.at (callee_meaning called)
        ++ rows_of name.at (call_types called given)))
        → OnOk r (now.rows ≡ old.rows ++ (expr_known world tree here expected).rows)
    method_rows r now last e1 e2 h =
        let base_noted = base_rows (expr_known world get here false) in
        let args_noted =
        (args_passed world slice (setting_in owner mid) (slots_of called)).rows in
        noted_rows r now last old (meaning_rows name.at (callee_meaning called)
        ++ rows_of name.at (call_types called given)) (base_noted ++ args_noted)
        (expr_known world tree here expected).rows
        (e1 ∙ ap (λ rows. rows ++ args_noted) e2 ∙ append_assoc old.rows base_noted args_noted)
        method_whole h

  -- a chain, by its first operand and the rest
  pub chain_same : (tree part get : Expr) (rest slice : List Link) (owner : Option ℕ)
      (expected : Bool) (first : Known) (start : ℕ) (mid old : Table)
      → tree ≡ exprs.Chain part rest → get ≡ part → slice ≡ rest
      → first ≡ known_of (expr_known world get (setting_in owner old) false)
      → mid.rows ≡ old.rows ++ (expr_known world get (setting_in owner old) false).rows
      → start ≡ length old.rows → mid.vars ≡ old.vars
      → links_known world slice (setting_in owner mid) (judged_since first start mid)
      ≡ expr_known world tree (setting_in owner old) expected
  chain_same tree part get rest slice owner expected first start mid old p g a f q r v =
      chain_is world owner slice first (expr_known world get (setting_in owner old) false) start mid
      old f q r v
      ∙ ap (λ x. links_known world x (setting_in owner old)
      (expr_known world get (setting_in owner old) false)) a
      ∙ ap (λ x. links_known world rest (setting_in owner old)
      (expr_known world x (setting_in owner old) false)) g
      ∙ sym (ap (λ (f : OfExpr). f (setting_in owner old) expected)
      (eq.fold_expr-Chain (typing_steps world) part rest))
      ∙ ap (λ t. expr_known world t (setting_in owner old) expected) (sym p)

  pub chain_rows : {X E : Type 0} (r : Result X E) (now mid old : Table) (links all first : Judged)
      (start : ℕ) (value : Known) → value ≡ known_of first → mid.rows ≡ old.rows ++ first.rows
      → start ≡ length old.rows → links ≡ all
      → OnOk r (now.rows ≡ take start mid.rows ++ links.rows)
      → OnOk r (now.rows ≡ old.rows ++ all.rows)
  chain_rows r now mid old links all first start value k q s e h =
      on_ok_weaker r (λ (n : now.rows ≡ take start mid.rows ++ links.rows).
      n ∙ ap (λ rows. rows ++ links.rows) (take_is value first start mid old k q s)
      ∙ ap (λ (j : Judged). old.rows ++ j.rows) e) h

  -- the variables after a block
  pub block_vars : (block : Block) (i within : Inside) (s : State) (stmts : List Stmt) (depth : ℕ)
      (mid : Table) (now : List Var) → now ≡ take depth mid.vars → depth ≡ length s.vars
      → state_of mid ≡ (stmts_left world stmts within s).state → stmts ≡ (out-Block block).stmts
      → within ≡ with_only i (is_one (out-Block block).stmts) → now ≡ s.vars
  block_vars block i within s stmts depth mid now p d q e w =
      p ∙ ap (λ n. take n mid.vars) d
      ∙ ap (λ (x : State). take (length s.vars) x.vars) q
      ∙ ap (λ x. take (length s.vars) (stmts_left world x within s).state.vars) e
      ∙ ap (λ x. take (length s.vars) (stmts_left world (out-Block block).stmts x s).state.vars) w
      ∙ stmts_keep world block i s
