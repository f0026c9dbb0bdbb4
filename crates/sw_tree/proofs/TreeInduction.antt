-- Induction over trees: what holds of each form of node where it holds of its parts holds of all.
use Rattle.std.proofs.Common.{ℕ, ℤ, Bool, List, [], ◌∷◌, map, Option, None, Some, sym, subst}
use Rattle.std.specs.List.{AllByRecursion}
use Rattle.sw_tree.specs.declared.expr.Arg.{Arg, roll-Arg}
use Rattle.sw_tree.specs.declared.expr.Closure.{Closure, roll-Closure}
use Rattle.sw_tree.specs.declared.expr.ClosureParam.{ClosureParam}
use Rattle.sw_tree.specs.declared.expr.Expr.{Expr, roll-Expr}
use Rattle.sw_tree.specs.declared.expr.Expr.TheFolds as folds
use Rattle.sw_tree.specs.declared.expr.Expr.TheOpen as layer
use Rattle.sw_tree.specs.declared.expr.Expr.TheVariants as exprs
use Rattle.sw_tree.specs.declared.expr.Link.{Link, roll-Link}
use Rattle.sw_tree.specs.declared.name.Name.{Name}
use Rattle.sw_tree.specs.declared.operator.AssignOp.{AssignOp}
use Rattle.sw_tree.specs.declared.operator.InfixOp.{InfixOp}
use Rattle.sw_tree.specs.declared.operator.PrefixOp.{PrefixOp}
use Rattle.sw_tree.specs.declared.stmt.Block.{Block, roll-Block}
use Rattle.sw_tree.specs.declared.stmt.CaseArm.{CaseArm, roll-CaseArm}
use Rattle.sw_tree.specs.declared.stmt.IfArm.{IfArm, roll-IfArm}
use Rattle.sw_tree.specs.declared.stmt.Pattern.{Pattern}
use Rattle.sw_tree.specs.declared.stmt.Stmt.{Stmt, roll-Stmt}
use Rattle.sw_tree.specs.declared.stmt.Stmt.TheVariants as stmts
use Rattle.sw_tree.specs.declared.type_tree.TypeTree.{TypeTree}

-- what is claimed at each type
pub record Claims : Type 1 where
  pub expr : Expr → Type 0
  pub stmt : Stmt → Type 0
  pub arg : Arg → Type 0
  pub closure : Closure → Type 0
  pub link : Link → Type 0
  pub block : Block → Type 0
  pub case_arm : CaseArm → Type 0
  pub if_arm : IfArm → Type 0

abbrev pub Given : {X : Type 0} → (X → Type 0) → Option X → Type 0
Given P None = Unit {0}
Given P (Some x) = P x

-- that it holds of each form of node where it holds of its parts
pub record Cases (P : Claims) : Type 0 where
  pub int : (at : ℕ) (value : ℤ) → P.expr (exprs.Int at value)
  pub bool : (at : ℕ) (value : Bool) → P.expr (exprs.Bool at value)
  pub use_of : (name : Name) → P.expr (exprs.Use name)
  pub me : (at : ℕ) → P.expr (exprs.Me at)
  pub member : (base : Expr) (name : Name) → P.expr base → P.expr (exprs.Member base name)
  pub call : (name : Name) (args : List Arg) → AllByRecursion P.arg args
      → P.expr (exprs.Call name args)
  pub method : (base : Expr) (name : Name) (args : List Arg) → P.expr base
      → AllByRecursion P.arg args
      → P.expr (exprs.Method base name args)
  pub chain : (first : Expr) (rest : List Link) → P.expr first → AllByRecursion P.link rest
      → P.expr (exprs.Chain first rest)
  pub prefix : (op : PrefixOp) (at : ℕ) (inner : Expr) → P.expr inner
      → P.expr (exprs.Prefix op at inner)
  pub await : (at : ℕ) (inner : Expr) → P.expr inner → P.expr (exprs.Await at inner)
  pub fun : (closure : Closure) → P.closure closure → P.expr (exprs.Fun closure)
  pub spawn : (at : ℕ) (detached : Bool) (body : Closure) → P.closure body
      → P.expr (exprs.Spawn at detached body)
  pub yield : (at : ℕ) → P.expr (exprs.Yield at)
  pub bind : (mutable : Bool) (name : Name) (ty : Option TypeTree) (value : Expr) → P.expr value
      → P.stmt (stmts.Bind mutable name ty value)
  pub assign : (at : ℕ) (op : AssignOp) (place value : Expr) → P.expr place → P.expr value
      → P.stmt (stmts.Assign at op place value)
  pub discard : (at : ℕ) (value : Expr) → P.expr value → P.stmt (stmts.Discard at value)
  pub if_of : (arms : List IfArm) (otherwise : Option Block) → AllByRecursion P.if_arm arms
      → Given P.block otherwise → P.stmt (stmts.If arms otherwise)
  pub while_of : (at : ℕ) (cond : Expr) (body : Block) → P.expr cond → P.block body
      → P.stmt (stmts.While at cond body)
  pub switch : (at : ℕ) (subject : Expr) (arms : List CaseArm) (otherwise : Option Block)
      → P.expr subject
      → AllByRecursion P.case_arm arms → Given P.block otherwise
      → P.stmt (stmts.Switch at subject arms otherwise)
  pub return_of : (at : ℕ) (value : Option Expr) → Given P.expr value
      → P.stmt (stmts.Return at value)
  pub break_of : (at : ℕ) → P.stmt (stmts.Break at)
  pub continue_of : (at : ℕ) → P.stmt (stmts.Continue at)
  pub plain : (value : Expr) → P.expr value → P.stmt (stmts.Plain value)
  pub arg : (label : Option Name) (value : Expr) → P.expr value
      → P.arg (roll-Arg (record { label = label; value = value }))
  pub closure : (at : ℕ) (mark : Option Name) (captures : List Name) (params : List ClosureParam)
      (result : Option TypeTree) (body : Block) → P.block body
      → P.closure (roll-Closure
      (record {
        at = at;
        mark = mark;
        captures = captures;
        params = params;
        result = result;
        body = body;
      }))
  pub link : (op : InfixOp) (at : ℕ) (operand : Expr) → P.expr operand
      → P.link (roll-Link (record { op = op; at = at; operand = operand }))
  pub block : (stmts : List Stmt) → AllByRecursion P.stmt stmts
      → P.block (roll-Block (record { stmts = stmts }))
  pub case_arm : (name : Name) (patterns : List Pattern) (body : Block) → P.block body
      → P.case_arm (roll-CaseArm (record { name = name; patterns = patterns; body = body }))
  pub if_arm : (at : ℕ) (cond : Expr) (body : Block) → P.expr cond → P.block body
      → P.if_arm (roll-IfArm (record { at = at; cond = cond; body = body }))

each_of : {X : Type 0} (P : X → Type 0) (xs : List ((x : X) × P x))
    → AllByRecursion P (map (λ x. x.0) xs)
each_of P [] = tt
each_of P (x ∷ xs) = (x.1, each_of P xs)

module _ (P : Claims) (cases : Cases P) where
  abbrev E : Type 0
  E = (x : Expr) × P.expr x

  abbrev S : Type 0
  S = (x : Stmt) × P.stmt x

  abbrev A : Type 0
  A = (x : Arg) × P.arg x

  abbrev C : Type 0
  C = (x : Closure) × P.closure x

  abbrev L : Type 0
  L = (x : Link) × P.link x

  abbrev B : Type 0
  B = (x : Block) × P.block x

  abbrev K : Type 0
  K = (x : CaseArm) × P.case_arm x

  abbrev I : Type 0
  I = (x : IfArm) × P.if_arm x

  of_expr : (y : layer.Expr-F E S A C L B K I)
      → P.expr (roll-Expr (folds.map-Expr E S A C L B K I Expr Stmt Arg Closure Link Block CaseArm
      IfArm
      (λ q. q.0) (λ q. q.0) (λ q. q.0) (λ q. q.0) (λ q. q.0) (λ q. q.0) (λ q. q.0) (λ q. q.0) y))
  of_expr (layer.Int at value) =
      subst P.expr (sym (exprs.rolls-Int at value)) (cases.int at value)
  of_expr (layer.Bool at value) =
      subst P.expr (sym (exprs.rolls-Bool at value)) (cases.bool at value)
  of_expr (layer.Use name) =
      subst P.expr (sym (exprs.rolls-Use name)) (cases.use_of name)
  of_expr (layer.Me at) =
      subst P.expr (sym (exprs.rolls-Me at)) (cases.me at)
  of_expr (layer.Member base name) =
      subst P.expr (sym (exprs.rolls-Member base.0 name)) (cases.member base.0 name base.1)
  of_expr (layer.Call name args) =
      subst P.expr (sym (exprs.rolls-Call name (map (λ q. q.0) args)))
      (cases.call name (map (λ q. q.0) args) (each_of P.arg args))
  of_expr (layer.Method base name args) =
      subst P.expr (sym (exprs.rolls-Method base.0 name (map (λ q. q.0) args)))
      (cases.method base.0 name (map (λ q. q.0) args) base.1 (each_of P.arg args))
  of_expr (layer.Chain first rest) =
      subst P.expr (sym (exprs.rolls-Chain first.0 (map (λ q. q.0) rest)))
      (cases.chain first.0 (map (λ q. q.0) rest) first.1 (each_of P.link rest))
  of_expr (layer.Prefix op at inner) =
      subst P.expr (sym (exprs.rolls-Prefix op at inner.0)) (cases.prefix op at inner.0 inner.1)
  of_expr (layer.Await at inner) =
      subst P.expr (sym (exprs.rolls-Await at inner.0)) (cases.await at inner.0 inner.1)
  of_expr (layer.Fun closure) =
      subst P.expr (sym (exprs.rolls-Fun closure.0)) (cases.fun closure.0 closure.1)
  of_expr (layer.Spawn at detached body) =
      subst P.expr (sym (exprs.rolls-Spawn at detached body.0))
      (cases.spawn at detached body.0 body.1)
  of_expr (layer.Yield at) =
      subst P.expr (sym (exprs.rolls-Yield at)) (cases.yield at)

  of_stmt : (y : layer.Stmt-F E S A C L B K I)
      → P.stmt (roll-Stmt (folds.map-Stmt E S A C L B K I Expr Stmt Arg Closure Link Block CaseArm
      IfArm
      (λ q. q.0) (λ q. q.0) (λ q. q.0) (λ q. q.0) (λ q. q.0) (λ q. q.0) (λ q. q.0) (λ q. q.0) y))
  of_stmt (layer.Bind mutable name ty value) =
      subst P.stmt (sym (stmts.rolls-Bind mutable name ty value.0))
      (cases.bind mutable name ty value.0 value.1)
  of_stmt (layer.Assign at op place value) =
      subst P.stmt (sym (stmts.rolls-Assign at op place.0 value.0))
      (cases.assign at op place.0 value.0 place.1 value.1)
  of_stmt (layer.Discard at value) =
      subst P.stmt (sym (stmts.rolls-Discard at value.0)) (cases.discard at value.0 value.1)
  of_stmt (layer.If arms None) =
      subst P.stmt (sym (stmts.rolls-If (map (λ q. q.0) arms) None))
      (cases.if_of (map (λ q. q.0) arms) None (each_of P.if_arm arms) tt)
  of_stmt (layer.If arms (Some otherwise)) =
      subst P.stmt (sym (stmts.rolls-If (map (λ q. q.0) arms) (Some otherwise.0)))
      (cases.if_of (map (λ q. q.0) arms) (Some otherwise.0) (each_of P.if_arm arms) otherwise.1)
  of_stmt (layer.While at cond body) =
      subst P.stmt (sym (stmts.rolls-While at cond.0 body.0))
      (cases.while_of at cond.0 body.0 cond.1 body.1)
  of_stmt (layer.Switch at subject arms None) =
      subst P.stmt (sym (stmts.rolls-Switch at subject.0 (map (λ q. q.0) arms) None))
      (cases.switch at subject.0 (map (λ q. q.0) arms) None subject.1
      (each_of P.case_arm arms) tt)
  of_stmt (layer.Switch at subject arms (Some otherwise)) =
      subst P.stmt (sym (stmts.rolls-Switch at subject.0 (map (λ q. q.0) arms) (Some otherwise.0)))
      (cases.switch at subject.0 (map (λ q. q.0) arms) (Some otherwise.0) subject.1
      (each_of P.case_arm arms) otherwise.1)
  of_stmt (layer.Return at None) =
      subst P.stmt (sym (stmts.rolls-Return at None)) (cases.return_of at None tt)
  of_stmt (layer.Return at (Some value)) =
      subst P.stmt (sym (stmts.rolls-Return at (Some value.0)))
      (cases.return_of at (Some value.0) value.1)
  of_stmt (layer.Break at) =
      subst P.stmt (sym (stmts.rolls-Break at)) (cases.break_of at)
  of_stmt (layer.Continue at) =
      subst P.stmt (sym (stmts.rolls-Continue at)) (cases.continue_of at)
  of_stmt (layer.Plain value) =
      subst P.stmt (sym (stmts.rolls-Plain value.0)) (cases.plain value.0 value.1)

  of_arg : (y : layer.Arg-F E S A C L B K I)
      → P.arg (roll-Arg (folds.map-Arg E S A C L B K I Expr Stmt Arg Closure Link Block CaseArm
      IfArm
      (λ q. q.0) (λ q. q.0) (λ q. q.0) (λ q. q.0) (λ q. q.0) (λ q. q.0) (λ q. q.0) (λ q. q.0) y))
  of_arg y = cases.arg y.label y.value.0 y.value.1

  of_closure : (y : layer.Closure-F E S A C L B K I)
      → P.closure (roll-Closure
      (folds.map-Closure E S A C L B K I Expr Stmt Arg Closure Link Block CaseArm IfArm
      (λ q. q.0) (λ q. q.0) (λ q. q.0) (λ q. q.0) (λ q. q.0) (λ q. q.0) (λ q. q.0) (λ q. q.0) y))
  of_closure y = cases.closure y.at y.mark y.captures y.params y.result y.body.0 y.body.1

  of_link : (y : layer.Link-F E S A C L B K I)
      → P.link (roll-Link (folds.map-Link E S A C L B K I Expr Stmt Arg Closure Link Block CaseArm
      IfArm
      (λ q. q.0) (λ q. q.0) (λ q. q.0) (λ q. q.0) (λ q. q.0) (λ q. q.0) (λ q. q.0) (λ q. q.0) y))
  of_link y = cases.link y.op y.at y.operand.0 y.operand.1

  of_block : (y : layer.Block-F E S A C L B K I)
      → P.block (roll-Block (folds.map-Block E S A C L B K I Expr Stmt Arg Closure Link Block
      CaseArm IfArm
      (λ q. q.0) (λ q. q.0) (λ q. q.0) (λ q. q.0) (λ q. q.0) (λ q. q.0) (λ q. q.0) (λ q. q.0) y))
  of_block y = cases.block (map (λ q. q.0) y.stmts) (each_of P.stmt y.stmts)

  of_case_arm : (y : layer.CaseArm-F E S A C L B K I)
      → P.case_arm (roll-CaseArm
      (folds.map-CaseArm E S A C L B K I Expr Stmt Arg Closure Link Block CaseArm IfArm
      (λ q. q.0) (λ q. q.0) (λ q. q.0) (λ q. q.0) (λ q. q.0) (λ q. q.0) (λ q. q.0) (λ q. q.0) y))
  of_case_arm y = cases.case_arm y.name y.patterns y.body.0 y.body.1

  of_if_arm : (y : layer.IfArm-F E S A C L B K I)
      → P.if_arm (roll-IfArm (folds.map-IfArm E S A C L B K I Expr Stmt Arg Closure Link Block
      CaseArm IfArm
      (λ q. q.0) (λ q. q.0) (λ q. q.0) (λ q. q.0) (λ q. q.0) (λ q. q.0) (λ q. q.0) (λ q. q.0) y))
  of_if_arm y = cases.if_arm y.at y.cond.0 y.body.0 y.cond.1 y.body.1

  pub every_expr : (x : Expr) → P.expr x
  every_expr =
      folds.ind-Expr P.expr P.stmt P.arg P.closure P.link P.block P.case_arm P.if_arm
      (λ x y is. subst (λ z. P.expr (roll-Expr z)) is (of_expr y))
      (λ x y is. subst (λ z. P.stmt (roll-Stmt z)) is (of_stmt y))
      (λ x y is. subst (λ z. P.arg (roll-Arg z)) is (of_arg y))
      (λ x y is. subst (λ z. P.closure (roll-Closure z)) is (of_closure y))
      (λ x y is. subst (λ z. P.link (roll-Link z)) is (of_link y))
      (λ x y is. subst (λ z. P.block (roll-Block z)) is (of_block y))
      (λ x y is. subst (λ z. P.case_arm (roll-CaseArm z)) is (of_case_arm y))
      (λ x y is. subst (λ z. P.if_arm (roll-IfArm z)) is (of_if_arm y))

  pub every_stmt : (x : Stmt) → P.stmt x
  every_stmt =
      folds.ind-Stmt P.expr P.stmt P.arg P.closure P.link P.block P.case_arm P.if_arm
      (λ x y is. subst (λ z. P.expr (roll-Expr z)) is (of_expr y))
      (λ x y is. subst (λ z. P.stmt (roll-Stmt z)) is (of_stmt y))
      (λ x y is. subst (λ z. P.arg (roll-Arg z)) is (of_arg y))
      (λ x y is. subst (λ z. P.closure (roll-Closure z)) is (of_closure y))
      (λ x y is. subst (λ z. P.link (roll-Link z)) is (of_link y))
      (λ x y is. subst (λ z. P.block (roll-Block z)) is (of_block y))
      (λ x y is. subst (λ z. P.case_arm (roll-CaseArm z)) is (of_case_arm y))
      (λ x y is. subst (λ z. P.if_arm (roll-IfArm z)) is (of_if_arm y))

  pub every_arg : (x : Arg) → P.arg x
  every_arg =
      folds.ind-Arg P.expr P.stmt P.arg P.closure P.link P.block P.case_arm P.if_arm
      (λ x y is. subst (λ z. P.expr (roll-Expr z)) is (of_expr y))
      (λ x y is. subst (λ z. P.stmt (roll-Stmt z)) is (of_stmt y))
      (λ x y is. subst (λ z. P.arg (roll-Arg z)) is (of_arg y))
      (λ x y is. subst (λ z. P.closure (roll-Closure z)) is (of_closure y))
      (λ x y is. subst (λ z. P.link (roll-Link z)) is (of_link y))
      (λ x y is. subst (λ z. P.block (roll-Block z)) is (of_block y))
      (λ x y is. subst (λ z. P.case_arm (roll-CaseArm z)) is (of_case_arm y))
      (λ x y is. subst (λ z. P.if_arm (roll-IfArm z)) is (of_if_arm y))

  pub every_link : (x : Link) → P.link x
  every_link =
      folds.ind-Link P.expr P.stmt P.arg P.closure P.link P.block P.case_arm P.if_arm
      (λ x y is. subst (λ z. P.expr (roll-Expr z)) is (of_expr y))
      (λ x y is. subst (λ z. P.stmt (roll-Stmt z)) is (of_stmt y))
      (λ x y is. subst (λ z. P.arg (roll-Arg z)) is (of_arg y))
      (λ x y is. subst (λ z. P.closure (roll-Closure z)) is (of_closure y))
      (λ x y is. subst (λ z. P.link (roll-Link z)) is (of_link y))
      (λ x y is. subst (λ z. P.block (roll-Block z)) is (of_block y))
      (λ x y is. subst (λ z. P.case_arm (roll-CaseArm z)) is (of_case_arm y))
      (λ x y is. subst (λ z. P.if_arm (roll-IfArm z)) is (of_if_arm y))

  pub every_block : (x : Block) → P.block x
  every_block =
      folds.ind-Block P.expr P.stmt P.arg P.closure P.link P.block P.case_arm P.if_arm
      (λ x y is. subst (λ z. P.expr (roll-Expr z)) is (of_expr y))
      (λ x y is. subst (λ z. P.stmt (roll-Stmt z)) is (of_stmt y))
      (λ x y is. subst (λ z. P.arg (roll-Arg z)) is (of_arg y))
      (λ x y is. subst (λ z. P.closure (roll-Closure z)) is (of_closure y))
      (λ x y is. subst (λ z. P.link (roll-Link z)) is (of_link y))
      (λ x y is. subst (λ z. P.block (roll-Block z)) is (of_block y))
      (λ x y is. subst (λ z. P.case_arm (roll-CaseArm z)) is (of_case_arm y))
      (λ x y is. subst (λ z. P.if_arm (roll-IfArm z)) is (of_if_arm y))

  pub every_case_arm : (x : CaseArm) → P.case_arm x
  every_case_arm =
      folds.ind-CaseArm P.expr P.stmt P.arg P.closure P.link P.block P.case_arm P.if_arm
      (λ x y is. subst (λ z. P.expr (roll-Expr z)) is (of_expr y))
      (λ x y is. subst (λ z. P.stmt (roll-Stmt z)) is (of_stmt y))
      (λ x y is. subst (λ z. P.arg (roll-Arg z)) is (of_arg y))
      (λ x y is. subst (λ z. P.closure (roll-Closure z)) is (of_closure y))
      (λ x y is. subst (λ z. P.link (roll-Link z)) is (of_link y))
      (λ x y is. subst (λ z. P.block (roll-Block z)) is (of_block y))
      (λ x y is. subst (λ z. P.case_arm (roll-CaseArm z)) is (of_case_arm y))
      (λ x y is. subst (λ z. P.if_arm (roll-IfArm z)) is (of_if_arm y))

  pub every_if_arm : (x : IfArm) → P.if_arm x
  every_if_arm =
      folds.ind-IfArm P.expr P.stmt P.arg P.closure P.link P.block P.case_arm P.if_arm
      (λ x y is. subst (λ z. P.expr (roll-Expr z)) is (of_expr y))
      (λ x y is. subst (λ z. P.stmt (roll-Stmt z)) is (of_stmt y))
      (λ x y is. subst (λ z. P.arg (roll-Arg z)) is (of_arg y))
      (λ x y is. subst (λ z. P.closure (roll-Closure z)) is (of_closure y))
      (λ x y is. subst (λ z. P.link (roll-Link z)) is (of_link y))
      (λ x y is. subst (λ z. P.block (roll-Block z)) is (of_block y))
      (λ x y is. subst (λ z. P.case_arm (roll-CaseArm z)) is (of_case_arm y))
      (λ x y is. subst (λ z. P.if_arm (roll-IfArm z)) is (of_if_arm y))
