-- Literals, operators before a value, `await`, `Task.yield()` and arguments ask for nothing that
-- isn't known.
use Rattle.std.proofs.Common.{ℕ, ℤ, Bool, Option, List, [], ◌∷◌, ◌++◌, refl}
use Rattle.std.proofs.lemmas.List.Elements.{All-append, All-nil}
use Rattle.sw_tree.specs.declared.operator.PrefixOp.{PrefixOp}
use Rattle.sw_tree.specs.declared.operator.PrefixOp.TheVariants as prefix_of
use Rattle.sw_types.specs.declared.ty.Ty.TheVariants as types
use Rattle.sw_graph.specs.declared.instr.Instr.TheVariants as instr
use Rattle.sw_graph.specs.declared.instr.Literal.TheVariants as literals
use Rattle.sw_graph.specs.declared.instr.Operand.{Operand}
use Rattle.sw_graph.specs.declared.instr.UnOp.TheVariants as un
use Rattle.sw_typing_rules.specs.declared.scope.Var.{Var}
use Rattle.sw_isolation_rules.specs.Noting.{in_await}
use Rattle.sw_isolation_rules.specs.declared.note.Note.{Note}
use Rattle.sw_isolation_rules.specs.declared.uses.Context.{Context}
use Rattle.sw_lower_plans.specs.Plan.{Numbers}
use Rattle.sw_lower_code.specs.Code.{Code, done, each, ◌>>=◌}
use Rattle.sw_lower_rules.specs.Carriers.{ArgCode, ExprCode}
use Rattle.sw_lower_rules.specs.Expressions.{args_inside, args_read, awaited, prefixed, value}
use Rattle.sw_lower_rules.specs.Tables.{Tables}
use Rattle.sw_lower_rules.specs.Uses.{give, operand}
use Rattle.sw_lower_total_facts.specs.Bound.{seen_in}
use Rattle.sw_lower_total_facts.specs.Forms.{ArgsProceed, ExprProceeds, Reads}
use Rattle.sw_lower_total_facts.specs.Proceeding.{BodyProceeds}
use Rattle.sw_lower_total_facts.proofs.Proceeding.Ready.{ready_in}
use Rattle.sw_lower_total_facts.proofs.Proceeding.Using.{goes_done, goes_give, goes_left, goes_right}
use Rattle.sw_lower_total_facts.proofs.Proceeding.Using.{goes_then}

module _ (tables : Tables) (number : Numbers) (context : Context) (listed : List ℕ)
    (vars : List Var) where
  abbrev seen : List ℕ
  seen = seen_in tables context.owner vars

  -- an expression without bodies
  pub plain_proceeds : (notes : List Note) (at : ℕ) (read : Code Operand)
      → Reads tables number context listed vars notes read
      → ExprProceeds tables number context listed vars notes (value at read [])
  plain_proceeds notes at read goes =
      record { read = goes; inside = All-nil (BodyProceeds number) }

  -- a literal
  pub int_proceeds : (notes : List Note) (at : ℕ) (literal : ℤ)
      → ExprProceeds tables number context listed vars notes
      (value at (give at types.Int (λ r. instr.Const at r (literals.Int literal))) [])
  int_proceeds notes at literal =
      plain_proceeds notes at (give at types.Int (λ r. instr.Const at r (literals.Int literal)))
      (goes_give tables number context listed seen notes at types.Int
      (λ r. instr.Const at r (literals.Int literal)))

  pub bool_proceeds : (notes : List Note) (at : ℕ) (literal : Bool)
      → ExprProceeds tables number context listed vars notes
      (value at (give at types.Bool (λ r. instr.Const at r (literals.Bool literal))) [])
  bool_proceeds notes at literal =
      plain_proceeds notes at (give at types.Bool (λ r. instr.Const at r (literals.Bool literal)))
      (goes_give tables number context listed seen notes at types.Bool
      (λ r. instr.Const at r (literals.Bool literal)))

  -- `Task.yield()`
  pub yield_proceeds : (notes : List Note) (at : ℕ)
      → ExprProceeds tables number context listed vars notes
      (value at (give at types.Unit (λ r. instr.Yield at r)) [])
  yield_proceeds notes at =
      plain_proceeds notes at (give at types.Unit (λ r. instr.Yield at r))
      (goes_give tables number context listed seen notes at types.Unit (λ r. instr.Yield at r))

  -- an operator before a value
  pub prefix_proceeds : (notes : List Note) (op : PrefixOp) (at : ℕ) (inner : ExprCode)
      → ExprProceeds tables number context listed vars notes inner
      → ExprProceeds tables number context listed vars notes
      (value at (inner.read >>= prefixed op at) inner.inside)
  prefix_proceeds notes op at inner proceeds = record {
    read = goes_then tables number context listed seen notes inner.read (prefixed op at)
        proceeds.read (λ x. by op x);
    inside = proceeds.inside;
  } where
    by : (one : PrefixOp) (x : Operand)
        → Reads tables number context listed vars notes (prefixed one at x)
    by prefix_of.Not x =
        goes_give tables number context listed seen notes at types.Bool
        (λ r. instr.Un at r un.Not x)
    by prefix_of.Negate x =
        goes_give tables number context listed seen notes at types.Int
        (λ r. instr.Un at r un.Neg x)

  -- `await`, which covers what stands in it
  pub await_proceeds : (owner : Option ℕ) (notes : List Note) (at : ℕ) (inner : ExprCode)
      → ExprProceeds tables number (in_await context) listed vars notes inner
      → ExprProceeds tables number context listed vars notes
      (value at (awaited tables owner at inner) inner.inside)
  await_proceeds owner notes at inner proceeds = record {
    read = goes_then tables number context listed seen notes inner.read
        (λ given. done (operand given.reg at))
        (λ s ready. proceeds.read s
        (ready_in tables number context listed (in_await context) seen notes s refl refl ready))
        (λ given. goes_done tables number context listed seen notes (operand given.reg at));
    inside = proceeds.inside;
  }

  -- no arguments
  pub no_args_proceed : (notes : List Note)
      → ArgsProceed tables number context listed vars notes []
  unfolding each
  no_args_proceed notes = record {
    read = goes_done tables number context listed seen notes [];
    inside = All-nil (BodyProceeds number);
  }

  -- an argument before others
  pub arg_proceeds : (one more : List Note) (code : ExprCode) (args : List ArgCode)
      → ExprProceeds tables number context listed vars one code
      → ArgsProceed tables number context listed vars more args
      → ArgsProceed tables number context listed vars (one ++ more)
      (record { read = code.read; inside = code.inside } ∷ args)
  unfolding each
  arg_proceeds one more code args proceeds rest = record {
    read = goes_then tables number context listed seen (one ++ more) code.read
        (λ y. args_read args >>= λ ys. done (y ∷ ys))
        (goes_left tables number context listed seen one more code.read proceeds.read)
        (λ y. goes_then tables number context listed seen (one ++ more) (args_read args)
        (λ ys. done (y ∷ ys))
        (goes_right tables number context listed seen one more (args_read args) rest.read)
        (λ ys. goes_done tables number context listed seen (one ++ more) (y ∷ ys)));
    inside = All-append (BodyProceeds number) code.inside (args_inside args) proceeds.inside
        rest.inside;
  }
