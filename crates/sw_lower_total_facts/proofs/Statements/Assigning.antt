-- Assignments, elsewhere than in initialisers.
use Rattle.std.proofs.Common.{◌≡◌, ℕ, true, false, List, ◌++◌, Some, refl}
use Rattle.std.proofs.lemmas.List.Elements.{All-append, Contains-append_left}
use Rattle.std.specs.Prelude.{All, Contains}
use Rattle.sw_tree.specs.declared.operator.AssignOp.{AssignOp}
use Rattle.sw_tree.specs.declared.operator.AssignOp.TheVariants as assigns
use Rattle.sw_types.specs.declared.ty.Ty.{Ty}
use Rattle.sw_types.specs.declared.ty.Ty.TheVariants as types
use Rattle.sw_graph.specs.declared.instr.BinOp.{BinOp}
use Rattle.sw_graph.specs.declared.instr.BinOp.TheVariants as bin
use Rattle.sw_graph.specs.declared.instr.Instr.TheVariants.{Bin}
use Rattle.sw_graph.specs.declared.instr.Operand.{Operand}
use Rattle.sw_typing_rules.specs.Expressions.{Judged}
use Rattle.sw_typing_rules.specs.Statements.{State, assign_left}
use Rattle.sw_typing_rules.specs.declared.scope.Inside.{Inside}
use Rattle.sw_typing_rules.specs.declared.scope.Var.{Var}
use Rattle.sw_isolation_rules.specs.Noting.{Seen, place_notes}
use Rattle.sw_isolation_rules.specs.declared.note.Note.{Note}
use Rattle.sw_isolation_rules.specs.declared.uses.Context.{Context}
use Rattle.sw_lower_plans.specs.Plan.{Numbers}
use Rattle.sw_lower_plans.specs.Run.{Making}
use Rattle.sw_lower_code.specs.Code.{Code, ◌>>=◌}
use Rattle.sw_lower_rules.specs.Carriers.{ExprCode}
use Rattle.sw_lower_rules.specs.Statements.{assign, assign_by}
use Rattle.sw_lower_rules.specs.Tables.{Tables}
use Rattle.sw_lower_rules.specs.Uses.{give}
use Rattle.sw_lower_rules.specs.declared.targets.Targets.{Targets}
use Rattle.sw_lower_code_facts.proofs.Declaring.{has_assign}
use Rattle.sw_lower_code_facts.proofs.Uses.{has_give}
use Rattle.sw_typing_facts.specs.Rows.{RowsHold}
use Rattle.sw_lower_formed_facts.proofs.Statements.Assigning.{assign_code, settles}
use Rattle.sw_lower_total_facts.specs.Binding.{BindsNothing, ExprBindsNothing}
use Rattle.sw_lower_total_facts.specs.Bound.{seen_in}
use Rattle.sw_lower_total_facts.specs.Forms.{ExprProceeds, PlaceProceeds, Reads, StmtProceeds}
use Rattle.sw_lower_total_facts.specs.Proceeding.{BodyProceeds, Proceeds}
use Rattle.sw_lower_total_facts.proofs.Binding.Codes.{nothing_then}
use Rattle.sw_lower_total_facts.proofs.Binding.Expressions.{nothing_bound}
use Rattle.sw_lower_total_facts.proofs.Proceeding.Give.{proceeds_give}
use Rattle.sw_lower_total_facts.proofs.Proceeding.Ready.{ready_less}
use Rattle.sw_lower_total_facts.proofs.Statements.Beginning.{Begins, begins_right, proceeds_by}
use Rattle.sw_lower_total_facts.proofs.Statements.Beginning.{then_begins}
use Rattle.sw_lower_total_facts.proofs.Statements.Stating.{binds_still, no_only}

nothing_assign : (op : AssignOp) (at : ℕ) (place : ExprCode) (given : Operand)
    → ExprBindsNothing place → BindsNothing (assign op at place given)
nothing_assign op at place given nothing =
    has_assign nothing_bound op at place given
    (record { read = nothing.read; write = nothing.write })

module _ (tables : Tables) (number : Numbers) (context : Context) (listed : List ℕ) where
  -- A place that is assigned by an operator is read.
  abbrev pub ReadsFor : AssignOp → List Var → List Note → Code Operand → Type 0
  ReadsFor assigns.Set vars notes code = Unit {0}
  ReadsFor _ vars notes code = Reads tables number context listed vars notes code

  -- Code with fewer notes proceeds where all of these are known.
  pub reads_less : {A : Type 0} (vars : List Var) (fewer notes : List Note) (code : Code A)
      → ((note : Note) → Contains fewer note → Contains notes note)
      → Reads tables number context listed vars fewer code
      → Reads tables number context listed vars notes code
  reads_less vars fewer notes code among one s ready =
      one s (ready_less tables number context listed (seen_in tables context.owner vars) notes fewer
      s among ready)

  module _ (inside : Inside) (vars : List Var) (notes : List Note) (place : ExprCode)
      (nothing : ExprBindsNothing place)
      (write : PlaceProceeds tables number context listed vars notes place) where
    assign_by_proceeds : (at : ℕ) (op : BinOp) (given : Operand)
        → Reads tables number context listed vars notes place.read → (targets : Targets)
        (s : Making) → Begins tables number context listed inside vars notes targets s
        → Proceeds s (assign_by at op place given)
    assign_by_proceeds at op given read targets s begins =
        then_begins tables number context listed inside vars notes targets place.read
        (λ old. give at types.Int (λ r. Bin at r op old given) >>= place.write) s nothing.read
        begins (read s begins.ready)
        (λ old t begins_t more is ran.
        then_begins tables number context listed inside vars notes targets
        (give at types.Int (λ r. Bin at r op old given)) place.write t
        (has_give nothing_bound at types.Int (λ r. Bin at r op old given) (λ r. tt)) begins_t
        (proceeds_give at types.Int (λ r. Bin at r op old given) t begins_t.ready.going)
        (λ new u begins_u further made known. write new u begins_u.ready))

    assign_op_proceeds : (op : AssignOp) (at : ℕ) (given : Operand)
        → ReadsFor op vars notes place.read → (targets : Targets) (s : Making)
        → Begins tables number context listed inside vars notes targets s
        → Proceeds s (assign op at place given)
    assign_op_proceeds assigns.Set at given read targets s begins = write given s begins.ready
    assign_op_proceeds assigns.Add at given read targets s begins =
        assign_by_proceeds at bin.Add given read targets s begins
    assign_op_proceeds assigns.Subtract at given read targets s begins =
        assign_by_proceeds at bin.Sub given read targets s begins
    assign_op_proceeds assigns.Multiply at given read targets s begins =
        assign_by_proceeds at bin.Mul given read targets s begins
    assign_op_proceeds assigns.Divide at given read targets s begins =
        assign_by_proceeds at bin.Div given read targets s begins
    assign_op_proceeds assigns.Remainder at given read targets s begins =
        assign_by_proceeds at bin.Rem given read targets s begins

  -- What is noted before a place is assigned is noted of the assignment, and so is what is noted of
  -- the place where it is read.
  before_noted : (op : AssignOp) (seen : Seen) (notes : List Note)
      → ((note : Note) → Contains (seen.before context listed) note
      → Contains (seen.notes context listed) note) → (note : Note)
      → Contains (seen.before context listed) note
      → Contains (place_notes tables.world tables.answers op seen context listed ++ notes) note
  before_noted op seen notes among note has =
      Contains-append_left (place_notes tables.world tables.answers op seen context listed) notes
      note (by op) where
        read : Contains (seen.notes context listed ++ seen.stores context seen.key) note
        read = Contains-append_left (seen.notes context listed) (seen.stores context seen.key) note
            (among note has)

        by : (one : AssignOp)
            → Contains (place_notes tables.world tables.answers one seen context listed) note
        by assigns.Set =
            Contains-append_left (seen.before context listed) (seen.stores context seen.key) note
            has
        by assigns.Add = read
        by assigns.Subtract = read
        by assigns.Multiply = read
        by assigns.Divide = read
        by assigns.Remainder = read

  reads_noted : (op : AssignOp) (vars : List Var) (seen : Seen) (notes : List Note)
      (code : Code Operand) → ReadsFor op vars (seen.notes context listed) code
      → ReadsFor op vars (place_notes tables.world tables.answers op seen context listed ++ notes)
      code
  reads_noted op vars seen notes code read = by op read where
    more : Reads tables number context listed vars (seen.notes context listed) code
        → Reads tables number context listed vars
        ((seen.notes context listed ++ seen.stores context seen.key) ++ notes) code
    more one =
        reads_less vars (seen.notes context listed)
        ((seen.notes context listed ++ seen.stores context seen.key) ++ notes) code
        (λ note has.
        Contains-append_left (seen.notes context listed ++ seen.stores context seen.key) notes note
        (Contains-append_left (seen.notes context listed) (seen.stores context seen.key) note has))
        one

    by : (one : AssignOp) → ReadsFor one vars (seen.notes context listed) code
        → ReadsFor one vars
        (place_notes tables.world tables.answers one seen context listed ++ notes) code
    by assigns.Set one = tt
    by assigns.Add one = more one
    by assigns.Subtract one = more one
    by assigns.Multiply one = more one
    by assigns.Divide one = more one
    by assigns.Remainder one = more one

  -- an assignment to a place that has a type
  pub assign_proceeds : (inside : Inside) (state : State) (notes : List Note) (at : ℕ)
      (op : AssignOp) (seen : Seen) (place given : ExprCode) (placed judged : Judged) (ty : Ty)
      → inside.init ≡ false → placed.ty ≡ Some ty
      → ((note : Note) → Contains (seen.before context listed) note
      → Contains (seen.notes context listed) note)
      → ReadsFor op state.vars (seen.notes context listed) place.read
      → (placed.settable ≡ true
      → PlaceProceeds tables number context listed state.vars (seen.before context listed) place)
      → All (BodyProceeds number) place.inside → ExprBindsNothing place
      → ExprProceeds tables number context listed state.vars notes given
      → ExprBindsNothing given
      → RowsHold tables.answers (assign_left inside state at op placed judged).rows
      → StmtProceeds tables number context listed inside state
      (place_notes tables.world tables.answers op seen context listed ++ notes)
      (assign_code op at place given) (assign_left inside state at op placed judged)
  assign_proceeds inside state notes at op seen place given placed judged ty init has among read
      write inner nothing one given_nothing rows = record {
        code_proceeds = proceeds_by tables number context listed inside state.vars all_notes
            (λ targets. given.read >>= assign op at place)
            (λ targets s begins.
            then_begins tables number context listed inside state.vars all_notes targets given.read
            (assign op at place) s given_nothing.read begins
            (one.read s
            (begins_right tables number context listed inside state.vars first notes targets s
            begins).ready)
            (λ x t begins_t more is ran.
            assign_op_proceeds inside state.vars all_notes place nothing
            (λ y. reads_less state.vars (seen.before context listed) all_notes (place.write y)
            (before_noted op seen notes among) (write settable y)) op at x
            (reads_noted op state.vars seen notes place.read read) targets t begins_t));
        binds = binds_still tables number context listed state.vars state.vars
            (λ targets. given.read >>= assign op at place) refl
            (λ targets. nothing_then given.read (assign op at place) given_nothing.read
            (λ x. nothing_assign op at place x nothing));
        only = no_only tables number context listed state.vars all_notes;
        inside_proceed = All-append (BodyProceeds number) place.inside given.inside inner
            one.inside;
      } where
        first : List Note
        first = place_notes tables.world tables.answers op seen context listed

        all_notes : List Note
        all_notes = first ++ notes

        settable : placed.settable ≡ true
        settable =
            (settles tables.answers inside state at op placed judged ty init has rows).settable
