-- Statements that leave a body, a loop or a `switch`.
use Rattle.std.proofs.Common.{ℕ, List, [], Option, Some, None, refl, arith}
use Rattle.std.proofs.lemmas.Bool.{not-false}
use Rattle.std.proofs.lemmas.List.Elements.{All-nil}
use Rattle.std.specs.Prelude.{not}
use Rattle.sw_graph.specs.declared.instr.Last.TheVariants.{Jump, Return}
use Rattle.sw_graph.specs.declared.instr.Operand.{Operand}
use Rattle.sw_typing_rules.specs.Expressions.{Judged}
use Rattle.sw_typing_rules.specs.Statements.{State, break_left, continue_left, return_value}
use Rattle.sw_typing_rules.specs.Statements.{return_void}
use Rattle.sw_typing_rules.specs.declared.scope.Inside.{Inside}
use Rattle.sw_typing_rules.specs.declared.scope.Var.{Var}
use Rattle.sw_isolation_rules.specs.declared.note.Note.{Note}
use Rattle.sw_isolation_rules.specs.declared.uses.Context.{Context}
use Rattle.sw_lower_plans.specs.Plan.{Anywhere, Numbers}
use Rattle.sw_lower_plans.specs.Run.{Making}
use Rattle.sw_lower_code.specs.Code.{close, known, resume, ◌>>◌}
use Rattle.sw_lower_rules.specs.Carriers.{ExprCode}
use Rattle.sw_lower_rules.specs.Expressions.{block_made, jump}
use Rattle.sw_lower_rules.specs.Statements.{in_new_block, leave, return_code, statement}
use Rattle.sw_lower_rules.specs.Tables.{Tables}
use Rattle.sw_lower_rules.specs.declared.targets.Targets.{Targets}
use Rattle.sw_typing_facts.specs.Rows.{RowsHold}
use Rattle.sw_typing_facts.proofs.Said.Rows.{not_ill}
use Rattle.sw_lower_formed_facts.proofs.Statements.Sequences.{value_vars, void_vars}
use Rattle.sw_lower_total_facts.specs.Binding.{BindsNothing, ExprBindsNothing}
use Rattle.sw_lower_total_facts.specs.Forms.{ExprProceeds, HasTarget, StmtProceeds}
use Rattle.sw_lower_total_facts.specs.Proceeding.{BodyProceeds, Proceeds}
use Rattle.sw_lower_total_facts.proofs.Binding.Codes.{nothing_block, nothing_close, nothing_known}
use Rattle.sw_lower_total_facts.proofs.Binding.Codes.{nothing_resume, nothing_then}
use Rattle.sw_lower_total_facts.proofs.Proceeding.Steps.{proceeds_known, proceeds_resume}
use Rattle.sw_lower_total_facts.proofs.Statements.Beginning.{Begins, proceeds_by, then_begins, then_block}
use Rattle.sw_lower_total_facts.proofs.Statements.Beginning.{then_close}
use Rattle.sw_lower_total_facts.proofs.Statements.Stating.{stmt_still}

nothing_new_block : BindsNothing in_new_block
nothing_new_block = nothing_then block_made resume (nothing_block Anywhere) nothing_resume

module _ (tables : Tables) (number : Numbers) (context : Context) (listed : List ℕ) where
  module _ (inside : Inside) (vars : List Var) (notes : List Note) (targets : Targets) where
    new_block_proceeds : (s : Making)
        → Begins tables number context listed inside vars notes targets s
        → Proceeds s in_new_block
    new_block_proceeds s begins =
        then_block tables number context listed inside vars notes targets Anywhere resume s begins
        (λ block t begins_t made is.
        proceeds_resume block t (omega (arith, made.is, made.more)))

    end_proceeds : (given : Option Operand) (s : Making)
        → Begins tables number context listed inside vars notes targets s
        → Proceeds s (close (Return given) >> in_new_block)
    end_proceeds given s begins =
        then_close tables number context listed inside vars notes targets (Return given)
        in_new_block s begins (λ t begins_t more is. new_block_proceeds t begins_t)

    leave_proceeds : (to : Option ℕ) (s : Making) → HasTarget s to
        → Begins tables number context listed inside vars notes targets s
        → Proceeds s (leave tables to)
    leave_proceeds to s target begins =
        then_begins tables number context listed inside vars notes targets (known 0 to)
        (λ block. jump block >> in_new_block) s (nothing_known 0 to) begins
        (proceeds_known 0 to target.block s target.is)
        (λ block t begins_t more is ran.
        then_close tables number context listed inside vars notes targets (Jump block)
        in_new_block t begins_t (λ u begins_u further ended. new_block_proceeds u begins_u))

  nothing_end : (given : Option Operand) → BindsNothing (close (Return given) >> in_new_block)
  nothing_end given =
      nothing_then (close (Return given)) (λ _. in_new_block) (nothing_close (Return given))
      (λ _. nothing_new_block)

  nothing_leave : (to : Option ℕ) → BindsNothing (leave tables to)
  nothing_leave to =
      nothing_then (known 0 to) (λ block. jump block >> in_new_block) (nothing_known 0 to)
      (λ block. nothing_then (jump block) (λ _. in_new_block) (nothing_close (Jump block))
      (λ _. nothing_new_block))

  -- `return` without a value
  pub return_nothing_proceeds : (inside : Inside) (state : State) (at : ℕ)
      → StmtProceeds tables number context listed inside state []
      (statement (λ targets. return_code tables None) []) (return_void state.returned state at)
  return_nothing_proceeds inside state at =
      stmt_still tables number context listed inside state [] (λ targets. return_code tables None)
      [] (return_void state.returned state at) (void_vars state.returned state at)
      (proceeds_by tables number context listed inside state.vars []
      (λ targets. return_code tables None)
      (λ targets s begins. end_proceeds inside state.vars [] targets None s begins))
      (λ targets. nothing_end None) (All-nil (BodyProceeds number))

  -- `return` with a value
  pub return_proceeds : (inside : Inside) (state : State) (notes : List Note) (at : ℕ)
      (value : ExprCode) (judged : Judged)
      → ExprProceeds tables number context listed state.vars notes value → ExprBindsNothing value
      → StmtProceeds tables number context listed inside state notes
      (statement (λ targets. return_code tables (Some value.read)) value.inside)
      (return_value state.returned state at judged)
  return_proceeds inside state notes at value judged one nothing =
      stmt_still tables number context listed inside state notes
      (λ targets. return_code tables (Some value.read)) value.inside
      (return_value state.returned state at judged) (value_vars state.returned state at judged)
      (proceeds_by tables number context listed inside state.vars notes
      (λ targets. return_code tables (Some value.read))
      (λ targets s begins.
      then_begins tables number context listed inside state.vars notes targets value.read
      (λ given. close (Return (Some given)) >> in_new_block) s nothing.read begins
      (one.read s begins.ready)
      (λ given t begins_t more is ran.
      end_proceeds inside state.vars notes targets (Some given) t begins_t)))
      (λ targets. nothing_then value.read (λ given. close (Return (Some given)) >> in_new_block)
      nothing.read (λ given. nothing_end (Some given))) one.inside

  -- `break`
  pub break_proceeds : (inside : Inside) (state : State) (at : ℕ)
      → RowsHold tables.answers (break_left inside state at).rows
      → StmtProceeds tables number context listed inside state []
      (statement (λ targets. leave tables targets.breaks) []) (break_left inside state at)
  break_proceeds inside state at rows =
      let leaves = not-false inside.leaves (not_ill tables.answers (not inside.leaves) at 408
      rows) in
      stmt_still tables number context listed inside state []
      (λ targets. leave tables targets.breaks) [] (break_left inside state at) refl
      (proceeds_by tables number context listed inside state.vars []
      (λ targets. leave tables targets.breaks)
      (λ targets s begins.
      leave_proceeds inside state.vars [] targets targets.breaks s (begins.has.breaks leaves)
      begins))
      (λ targets. nothing_leave targets.breaks) (All-nil (BodyProceeds number))

  -- `continue`
  pub continue_proceeds : (inside : Inside) (state : State) (at : ℕ)
      → RowsHold tables.answers (continue_left inside state at).rows
      → StmtProceeds tables number context listed inside state []
      (statement (λ targets. leave tables targets.continues) []) (continue_left inside state at)
  continue_proceeds inside state at rows =
      let loops = not-false inside.loops (not_ill tables.answers (not inside.loops) at 408
      rows) in
      stmt_still tables number context listed inside state []
      (λ targets. leave tables targets.continues) [] (continue_left inside state at) refl
      (proceeds_by tables number context listed inside state.vars []
      (λ targets. leave tables targets.continues)
      (λ targets s begins.
      leave_proceeds inside state.vars [] targets targets.continues s
      (begins.has.continues loops) begins))
      (λ targets. nothing_leave targets.continues) (All-nil (BodyProceeds number))
