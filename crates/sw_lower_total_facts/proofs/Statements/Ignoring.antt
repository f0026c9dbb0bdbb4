-- An expression as a statement.
use Rattle.std.proofs.Common.{◌≡◌, ℕ, Bool, List, [], Some, refl, subst}
use Rattle.std.proofs.lemmas.Option.{same_Some}
use Rattle.sw_graph.specs.declared.instr.Operand.{Operand}
use Rattle.sw_typing_rules.specs.Expressions.{Judged}
use Rattle.sw_typing_rules.specs.Statements.{State, discard_left, plain_left}
use Rattle.sw_typing_rules.specs.declared.scope.Inside.{Inside}
use Rattle.sw_typing_rules.specs.declared.scope.Var.{Var}
use Rattle.sw_isolation_rules.specs.declared.note.Note.{Note}
use Rattle.sw_isolation_rules.specs.declared.uses.Context.{Context}
use Rattle.sw_lower_plans.specs.Plan.{Numbers}
use Rattle.sw_lower_code.specs.Code.{Code, done}
use Rattle.sw_lower_rules.specs.Carriers.{ExprCode}
use Rattle.sw_lower_rules.specs.Statements.{ignored, statement}
use Rattle.sw_lower_rules.specs.Tables.{Tables}
use Rattle.sw_lower_formed_facts.proofs.Statements.Sequences.{plain_vars}
use Rattle.sw_lower_total_facts.specs.Binding.{BindsNothing, ExprBindsNothing}
use Rattle.sw_lower_total_facts.specs.Forms.{CodeProceeds, ExprProceeds, StmtProceeds}
use Rattle.sw_lower_total_facts.specs.Proceeding.{Proceeds}
use Rattle.sw_lower_total_facts.proofs.Binding.Codes.{nothing_done, nothing_then}
use Rattle.sw_lower_total_facts.proofs.Proceeding.Steps.{proceeds_done}
use Rattle.sw_lower_total_facts.proofs.Statements.Beginning.{proceeds_by, then_begins}
use Rattle.sw_lower_total_facts.proofs.Statements.Stating.{binds_still, stmt_still}

module _ (tables : Tables) (number : Numbers) (context : Context) (listed : List ℕ) where
  nothing_ignored : (read : Code Operand) → BindsNothing read
      → BindsNothing (ignored tables read)
  nothing_ignored read nothing =
      nothing_then read (λ given. done tt) nothing (λ given. nothing_done tt)

  ignored_proceeds : (inside : Inside) (vars : List Var) (notes : List Note) (value : ExprCode)
      → ExprProceeds tables number context listed vars notes value → ExprBindsNothing value
      → CodeProceeds tables number context listed inside vars notes
      (λ targets. ignored tables value.read)
  ignored_proceeds inside vars notes value one nothing =
      proceeds_by tables number context listed inside vars notes
      (λ targets. ignored tables value.read)
      (λ targets s begins.
      then_begins tables number context listed inside vars notes targets value.read
      (λ given. done tt) s nothing.read begins (one.read s begins.ready)
      (λ given t begins_t more is ran. proceeds_done tt t))

  -- a value that is discarded
  pub discard_proceeds : (inside : Inside) (state : State) (notes : List Note) (value : ExprCode)
      (judged : Judged) → ExprProceeds tables number context listed state.vars notes value
      → ExprBindsNothing value
      → StmtProceeds tables number context listed inside state notes
      (statement (λ targets. ignored tables value.read) value.inside) (discard_left state judged)
  discard_proceeds inside state notes value judged one nothing =
      stmt_still tables number context listed inside state notes
      (λ targets. ignored tables value.read) value.inside (discard_left state judged) refl
      (ignored_proceeds inside state.vars notes value one nothing)
      (λ targets. nothing_ignored value.read nothing.read) one.inside

  -- an expression as a statement
  pub plain_proceeds : (inside : Inside) (only : Bool) (state : State) (notes : List Note)
      (value : ExprCode) (judged : Judged)
      → ExprProceeds tables number context listed state.vars notes value
      → ExprBindsNothing value
      → StmtProceeds tables number context listed inside state notes (record {
        code = λ targets. ignored tables value.read;
        only = Some value.read;
        gives = [];
        inside = value.inside;
      }) (plain_left only state judged)
  plain_proceeds inside only state notes value judged one nothing = record {
    code_proceeds = ignored_proceeds inside state.vars notes value one nothing;
    binds = binds_still tables number context listed state.vars
        (plain_left only state judged).state.vars (λ targets. ignored tables value.read)
        (plain_vars only state judged) (λ targets. nothing_ignored value.read nothing.read);
    only = λ read is s ready.
        let same : value.read ≡ read = same_Some value.read read is in
        subst (λ code. Proceeds s code) same (one.read s ready);
    inside_proceed = one.inside;
  }
