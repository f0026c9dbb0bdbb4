-- `while`.
use Rattle.std.proofs.Common.{ℕ, ◌<◌, List, ◌++◌, refl, arith}
use Rattle.std.proofs.lemmas.List.Elements.{All-append}
use Rattle.std.specs.Prelude.{length}
use Rattle.sw_graph.specs.declared.instr.Last.TheVariants.{Branch, Jump}
use Rattle.sw_graph.specs.declared.instr.Operand.{Operand}
use Rattle.sw_typing_rules.specs.Expressions.{Judged}
use Rattle.sw_typing_rules.specs.Statements.{Left, State, in_loop, while_left}
use Rattle.sw_typing_rules.specs.declared.scope.Inside.{Inside}
use Rattle.sw_isolation_rules.specs.declared.note.Note.{Note}
use Rattle.sw_isolation_rules.specs.declared.uses.Context.{Context}
use Rattle.sw_lower_plans.specs.Plan.{Anywhere, Numbers}
use Rattle.sw_lower_plans.specs.Run.{Making}
use Rattle.sw_lower_code.specs.Code.{Code, close, resume, ◌>>=◌, ◌>>◌}
use Rattle.sw_lower_rules.specs.Carriers.{BlockCode, ExprCode}
use Rattle.sw_lower_rules.specs.Expressions.{block_made, jump}
use Rattle.sw_lower_rules.specs.Statements.{statement, while_code}
use Rattle.sw_lower_rules.specs.Tables.{Tables}
use Rattle.sw_lower_rules.specs.declared.targets.Targets.{Targets}
use Rattle.sw_lower_formed_facts.proofs.Statements.Loops.{loop_targets}
use Rattle.sw_lower_total_facts.specs.Binding.{BindsNothing, ExprBindsNothing}
use Rattle.sw_lower_total_facts.specs.Forms.{BlockProceeds, ExprProceeds, HasTargets, StmtProceeds}
use Rattle.sw_lower_total_facts.specs.Proceeding.{BodyProceeds, Proceeds}
use Rattle.sw_lower_total_facts.proofs.Binding.Codes.{nothing_block, nothing_close, nothing_resume}
use Rattle.sw_lower_total_facts.proofs.Binding.Codes.{nothing_then}
use Rattle.sw_lower_total_facts.proofs.Proceeding.Steps.{proceeds_resume}
use Rattle.sw_lower_total_facts.proofs.Statements.Beginning.{Begins, begins_in, begins_left, begins_right}
use Rattle.sw_lower_total_facts.proofs.Statements.Beginning.{by_begins, proceeds_by, then_begins}
use Rattle.sw_lower_total_facts.proofs.Statements.Beginning.{then_block, then_close, then_resume}
use Rattle.sw_lower_total_facts.proofs.Statements.Stating.{stmt_still}

abbrev around : ℕ → ℕ → ℕ → BlockCode → Code (Unit {0})
around head inner after body = resume inner
    >> body.code (loop_targets head after)
    >> jump head
    >> resume after

nothing_around : (head inner after : ℕ) (body : BlockCode)
    → ((targets : Targets) → BindsNothing (body.code targets))
    → BindsNothing (around head inner after body)
nothing_around head inner after body nothing =
    nothing_then (resume inner)
    (λ _. body.code (loop_targets head after) >> jump head >> resume after) (nothing_resume inner)
    (λ _. nothing_then (body.code (loop_targets head after)) (λ _. jump head >> resume after)
    (nothing (loop_targets head after))
    (λ _. nothing_then (jump head) (λ _. resume after) (nothing_close (Jump head))
    (λ _. nothing_resume after)))

nothing_while : (cond : Code Operand) (body : BlockCode) → BindsNothing cond
    → ((targets : Targets) → BindsNothing (body.code targets)) → BindsNothing (while_code cond body)
nothing_while cond body of_cond of_body =
    nothing_then block_made (λ head. block_made >>= λ inner. block_made >>= λ after.
    looped head inner after) (nothing_block Anywhere)
    (λ head. nothing_then block_made (λ inner. block_made >>= λ after. looped head inner after)
    (nothing_block Anywhere)
    (λ inner. nothing_then block_made (λ after. looped head inner after) (nothing_block Anywhere)
    (λ after. nothing_then (jump head)
    (λ _. resume head >> cond >>= λ given. tested given head inner after)
    (nothing_close (Jump head))
    (λ _. nothing_then (resume head) (λ _. cond >>= λ given. tested given head inner after)
    (nothing_resume head)
    (λ _. nothing_then cond (λ given. tested given head inner after) of_cond
    (λ given. nothing_then (close (Branch given inner after))
    (λ _. around head inner after body) (nothing_close (Branch given inner after))
    (λ _. nothing_around head inner after body of_body))))))) where
      tested : Operand → ℕ → ℕ → ℕ → Code (Unit {0})
      tested given head inner after =
          close (Branch given inner after) >> around head inner after body

      looped : ℕ → ℕ → ℕ → Code (Unit {0})
      looped head inner after =
          jump head >> resume head >> cond >>= λ given. tested given head inner after

module _ (tables : Tables) (number : Numbers) (context : Context) (listed : List ℕ)
    (inside : Inside) (state : State) (cond_notes notes : List Note) (cond : ExprCode)
    (body : BlockCode)
    (cond_proceeds : ExprProceeds tables number context listed state.vars cond_notes cond)
    (nothing_cond : ExprBindsNothing cond)
    (body_proceeds : BlockProceeds tables number context listed (in_loop inside) state notes body)
    (nothing_body : (targets : Targets) → BindsNothing (body.code targets)) (targets : Targets)
  where
    abbrev Here : Making → Type 0
    Here s =
        Begins tables number context listed inside state.vars (cond_notes ++ notes) targets s

    targets_made : (head after : ℕ) (s : Making) → head < length s.made.blocks
        → after < length s.made.blocks
        → HasTargets (in_loop inside) s (loop_targets head after)
    targets_made head after s head_made after_made = record {
      breaks = λ is. record { block = after; is = refl; made = after_made };
      continues = λ is. record { block = head; is = refl; made = head_made };
    }

    around_proceeds : (head inner after : ℕ) (s : Making) → head < length s.made.blocks
        → inner < length s.made.blocks → after < length s.made.blocks → Here s
        → Proceeds s (around head inner after body)
    around_proceeds head inner after s head_made inner_made after_made begins =
        then_resume tables number context listed inside state.vars (cond_notes ++ notes)
        targets inner
        (body.code (loop_targets head after) >> jump head >> resume after) s inner_made begins
        (λ t begins_t more is.
        then_begins tables number context listed inside state.vars (cond_notes ++ notes) targets
        (body.code (loop_targets head after)) (λ _. jump head >> resume after) t
        (nothing_body (loop_targets head after)) begins_t
        (by_begins tables number context listed (in_loop inside) state.vars notes body.code
        (loop_targets head after) t body_proceeds.code_proceeds
        (begins_in tables number context listed inside (in_loop inside) state.vars notes targets
        (loop_targets head after) t
        (targets_made head after t (omega (arith, head_made, more))
        (omega (arith, after_made, more)))
        (begins_right tables number context listed inside state.vars cond_notes notes targets t
        begins_t)))
        (λ _ u begins_u further ended ran.
        then_close tables number context listed inside state.vars (cond_notes ++ notes) targets
        (Jump head) (resume after) u begins_u
        (λ v begins_v last closed.
        proceeds_resume after v (omega (arith, after_made, more, further, last)))))

    while_code_proceeds : (s : Making) → Here s → Proceeds s (while_code cond.read body)
    while_code_proceeds s begins =
        then_block tables number context listed inside state.vars (cond_notes ++ notes) targets
        Anywhere (λ head. block_made >>= λ inner. block_made >>= λ after. looped head inner after) s
        begins
        (λ head a begins_a head_is a_is.
        then_block tables number context listed inside state.vars (cond_notes ++ notes) targets
        Anywhere (λ inner. block_made >>= λ after. looped head inner after) a begins_a
        (λ inner b begins_b inner_is b_is.
        then_block tables number context listed inside state.vars (cond_notes ++ notes) targets
        Anywhere (λ after. looped head inner after) b begins_b
        (λ after c begins_c after_is c_is.
        then_close tables number context listed inside state.vars (cond_notes ++ notes) targets
        (Jump head) (resume head >> cond.read >>= λ given. tested given head inner after) c begins_c
        (λ d begins_d more_d d_is.
        then_resume tables number context listed inside state.vars (cond_notes ++ notes)
        targets head
        (cond.read >>= λ given. tested given head inner after) d
        (omega (arith, head_is.is, head_is.more, inner_is.more, after_is.more, more_d)) begins_d
        (λ e begins_e more_e e_is.
        then_begins tables number context listed inside state.vars (cond_notes ++ notes) targets
        cond.read (λ given. tested given head inner after) e nothing_cond.read begins_e
        (cond_proceeds.read e
        (begins_left tables number context listed inside state.vars cond_notes notes targets e
        begins_e).ready)
        (λ given f begins_f more_f f_is ran.
        then_close tables number context listed inside state.vars (cond_notes ++ notes) targets
        (Branch given inner after) (around head inner after body) f begins_f
        (λ g begins_g more_g g_is.
        around_proceeds head inner after g
        (omega (
          arith,
          head_is.is,
          head_is.more,
          inner_is.more,
          after_is.more,
          more_d,
          more_e,
          more_f,
          more_g,
        ))
        (omega (arith, inner_is.is, inner_is.more, after_is.more, more_d, more_e, more_f, more_g))
        (omega (arith, after_is.is, after_is.more, more_d, more_e, more_f, more_g))
        begins_g))))))) where
          tested : Operand → ℕ → ℕ → ℕ → Code (Unit {0})
          tested given head inner after =
              close (Branch given inner after) >> around head inner after body

          looped : ℕ → ℕ → ℕ → Code (Unit {0})
          looped head inner after =
              jump head >> resume head >> cond.read >>= λ given. tested given head inner after

module _ (tables : Tables) (number : Numbers) (context : Context) (listed : List ℕ) where
  -- a loop
  pub while_proceeds : (inside : Inside) (state : State) (cond_notes notes : List Note)
      (cond : ExprCode) (judged : Judged) (body : BlockCode) (left : Left)
      → ExprProceeds tables number context listed state.vars cond_notes cond
      → ExprBindsNothing cond
      → BlockProceeds tables number context listed (in_loop inside) state notes body
      → ((targets : Targets) → BindsNothing (body.code targets))
      → StmtProceeds tables number context listed inside state (cond_notes ++ notes)
      (statement (λ targets. while_code cond.read body) (cond.inside ++ body.inside))
      (while_left state judged left)
  while_proceeds inside state cond_notes notes cond judged body left one nothing body_one
      body_nothing =
      stmt_still tables number context listed inside state (cond_notes ++ notes)
      (λ targets. while_code cond.read body) (cond.inside ++ body.inside)
      (while_left state judged left) refl
      (proceeds_by tables number context listed inside state.vars (cond_notes ++ notes)
      (λ targets. while_code cond.read body)
      (λ targets s begins.
      while_code_proceeds tables number context listed inside state cond_notes notes cond body one
      nothing body_one body_nothing targets s begins))
      (λ targets. nothing_while cond.read body nothing.read body_nothing)
      (All-append (BodyProceeds number) cond.inside body.inside one.inside
      body_one.inside_proceed)
