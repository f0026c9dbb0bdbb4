-- The code of a tree is that of its form.
use Rattle.std.proofs.Common.{◌≡◌, ℕ, Bool, true, List, sym, subst}
use Rattle.sw_tree.specs.declared.expr.Expr.{Expr}
use Rattle.sw_graph.specs.declared.instr.Operand.{Operand}
use Rattle.sw_typing_rules.specs.declared.scope.Var.{Var}
use Rattle.sw_isolation_rules.specs.Noting.{see}
use Rattle.sw_isolation_rules.specs.declared.uses.Context.{Context}
use Rattle.sw_lower_plans.specs.Run.{Making}
use Rattle.sw_lower_code.specs.Code.{Code}
use Rattle.sw_lower_code.specs.Whole.{Body}
use Rattle.sw_lower_rules.specs.Carriers.{ExprCode, StmtCode}
use Rattle.sw_lower_rules.specs.Expressions.{value}
use Rattle.sw_lower_rules.specs.Statements.{expr_code}
use Rattle.sw_lower_placed_facts.specs.Claims.{AreInside, AreNoted, AreOrdinary, BaseNoted, ExprNoted}
use Rattle.sw_lower_placed_facts.specs.Claims.{ExprPlaced, ReadPlaced, StmtPlaced, WritePlaced}
use Rattle.sw_lower_placed_facts.specs.Hosts.{Program, Host}
use Rattle.sw_lower_placed_facts.proofs.Forms.Values.{Gives, value_placed}
use Rattle.sw_lower_placed_facts.proofs.Placing.Steps.{places_none}

module _ (program : Program) where
  -- The bodies in a tree's code are those in that of its form.
  pub inside_form : (code form : ExprCode) → code ≡ form → AreInside program code.inside
      → AreInside program form.inside
  inside_form code form is inside =
      subst (λ (one : ExprCode). AreInside program one.inside) is inside

  pub inside_stmt : (code form : StmtCode) → code ≡ form → AreInside program code.inside
      → AreInside program form.inside
  inside_stmt code form is inside =
      subst (λ (one : StmtCode). AreInside program one.inside) is inside

  pub stmt_by : (host : Host) (code form : StmtCode) → code ≡ form
      → AreInside program code.inside
      → (AreInside program form.inside → StmtPlaced program host form)
      → StmtPlaced program host code
  stmt_by host code form is inside placed =
      subst (StmtPlaced program host) (sym is) (placed (inside_stmt code form is inside))

  module _ (host : Host) (context : Context) (listed : List ℕ) (vars : List Var) where
    -- an expression that may be a place
    pub place_by : (expr : Expr) (settable : Bool) (form : ExprCode)
        → expr_code program.tables host.owner expr ≡ form
        → (ExprNoted program context listed vars expr → ReadPlaced program host form)
        → (settable ≡ true → (at : ℕ) → BaseNoted program context listed vars expr
        → AreNoted program
        ((see program.tables.world program.tables.answers expr).stores context at)
        → WritePlaced program host form)
        → ExprPlaced program host context listed vars expr settable
    place_by expr settable form is read write = record {
      read = λ noted. subst (ReadPlaced program host) (sym is) (read noted);
      write = λ set at base stores.
          subst (WritePlaced program host) (sym is) (write set at base stores);
    }

    -- an expression that is no place
    pub value_by : (expr : Expr) (settable : Bool) (key : ℕ) (read : Code Operand)
        (inside : List Body) → expr_code program.tables host.owner expr ≡ value key read inside
        → (ExprNoted program context listed vars expr → (s : Making)
        → Gives program host s read (AreOrdinary program inside))
        → ExprPlaced program host context listed vars expr settable
    value_by expr settable key read inside is gives =
        place_by expr settable (value key read inside) is
        (λ noted. value_placed program host key read inside (gives noted))
        (λ set at base stores x s. places_none s tt (λ done t. AreOrdinary program inside))
