-- `if`, its arms and its `else`.
use Rattle.std.proofs.Common.{◌≡◌, ℕ, ◌<◌, List, [], ◌∷◌, ◌++◌, Option, Some, None, refl, arith}
use Rattle.std.proofs.Common.{append_assoc, sym, subst}
use Rattle.std.proofs.lemmas.List.Elements.{All-append, All-nil, Contains-append_left}
use Rattle.std.proofs.lemmas.List.Elements.{Contains-append_right}
use Rattle.std.specs.Prelude.{All, Contains, length}
use Rattle.sw_graph.specs.declared.instr.Last.TheVariants.{Branch, Jump}
use Rattle.sw_graph.specs.declared.instr.Operand.{Operand}
use Rattle.sw_typing_rules.specs.Statements.{Left, State, in_branch}
use Rattle.sw_typing_rules.specs.declared.scope.Inside.{Inside}
use Rattle.sw_typing_rules.specs.declared.scope.Var.{Var}
use Rattle.sw_isolation_rules.specs.declared.note.Note.{Note}
use Rattle.sw_isolation_rules.specs.declared.uses.Context.{Context}
use Rattle.sw_lower_plans.specs.Plan.{Anywhere, Numbers}
use Rattle.sw_lower_plans.specs.Run.{Making}
use Rattle.sw_lower_code.specs.Code.{Code, close, resume, ◌>>=◌, ◌>>◌}
use Rattle.sw_lower_rules.specs.Carriers.{BlockCode, ExprCode, IfCode}
use Rattle.sw_lower_rules.specs.Expressions.{block_made, jump}
use Rattle.sw_lower_rules.specs.Statements.{arms_code, else_code, inside_of, statement}
use Rattle.sw_lower_rules.specs.Tables.{Tables}
use Rattle.sw_lower_rules.specs.declared.targets.Targets.{Targets}
use Rattle.sw_lower_formed_facts.proofs.Statements.Branches.{arms_inside, if_arm, ways}
use Rattle.sw_lower_total_facts.specs.Binding.{BindsNothing, ExprBindsNothing}
use Rattle.sw_lower_total_facts.specs.Forms.{BlockProceeds, CodeProceeds, ExprProceeds, StmtProceeds}
use Rattle.sw_lower_total_facts.specs.Proceeding.{BodyProceeds, Proceeds}
use Rattle.sw_lower_total_facts.proofs.Binding.Codes.{nothing_block, nothing_close, nothing_done}
use Rattle.sw_lower_total_facts.proofs.Binding.Codes.{nothing_resume, nothing_then}
use Rattle.sw_lower_total_facts.proofs.Proceeding.Steps.{proceeds_done, proceeds_resume}
use Rattle.sw_lower_total_facts.proofs.Statements.Beginning.{Begins, begins_in, begins_less, begins_right}
use Rattle.sw_lower_total_facts.proofs.Statements.Beginning.{by_begins, proceeds_by, targets_for}
use Rattle.sw_lower_total_facts.proofs.Statements.Beginning.{then_begins, then_block, then_close}
use Rattle.sw_lower_total_facts.proofs.Statements.Beginning.{then_resume}
use Rattle.sw_lower_total_facts.proofs.Statements.Stating.{stmt_still}

nothing_meet : (merge : ℕ) → BindsNothing (jump merge >> resume merge)
nothing_meet merge =
    nothing_then (jump merge) (λ _. resume merge) (nothing_close (Jump merge))
    (λ _. nothing_resume merge)

nothing_ways : (given : Operand) (one other : Code (Unit {0})) → BindsNothing one
    → BindsNothing other → BindsNothing (ways given one other)
nothing_ways given one other of_one of_other =
    nothing_then block_made
    (λ first. block_made >>= λ second. block_made >>= λ merge. then first second merge)
    (nothing_block Anywhere)
    (λ first. nothing_then block_made
    (λ second. block_made >>= λ merge. then first second merge) (nothing_block Anywhere)
    (λ second. nothing_then block_made (λ merge. then first second merge) (nothing_block Anywhere)
    (λ merge. nothing_then (close (Branch given first second))
    (λ _. resume first >> one >> jump merge >> rest second merge)
    (nothing_close (Branch given first second))
    (λ _. nothing_then (resume first) (λ _. one >> jump merge >> rest second merge)
    (nothing_resume first)
    (λ _. nothing_then one (λ _. jump merge >> rest second merge) of_one
    (λ _. nothing_then (jump merge) (λ _. rest second merge) (nothing_close (Jump merge))
    (λ _. nothing_rest second merge))))))) where
      rest : ℕ → ℕ → Code (Unit {0})
      rest second merge = resume second >> other >> jump merge >> resume merge

      then : ℕ → ℕ → ℕ → Code (Unit {0})
      then first second merge =
          close (Branch given first second) >> resume first >> one >> jump merge
          >> rest second merge

      nothing_rest : (second merge : ℕ) → BindsNothing (rest second merge)
      nothing_rest second merge =
          nothing_then (resume second) (λ _. other >> jump merge >> resume merge)
          (nothing_resume second)
          (λ _. nothing_then other (λ _. jump merge >> resume merge) of_other
          (λ _. nothing_meet merge))

module _ (tables : Tables) (number : Numbers) (context : Context) (listed : List ℕ) where
  module _ (inside : Inside) (vars : List Var) (notes : List Note) (targets : Targets)
      (one other : Code (Unit {0})) (nothing_one : BindsNothing one)
      (nothing_other : BindsNothing other)
      (one_proceeds : (s : Making)
      → Begins tables number context listed inside vars notes targets s → Proceeds s one)
      (other_proceeds : (s : Making)
      → Begins tables number context listed inside vars notes targets s → Proceeds s other) where
    abbrev Here : Making → Type 0
    Here s = Begins tables number context listed inside vars notes targets s

    abbrev last_way : ℕ → ℕ → Code (Unit {0})
    last_way second merge = resume second >> other >> jump merge >> resume merge

    last_way_proceeds : (second merge : ℕ) (s : Making) → second < length s.made.blocks
        → merge < length s.made.blocks → Here s → Proceeds s (last_way second merge)
    last_way_proceeds second merge s made merge_made begins =
        then_resume tables number context listed inside vars notes targets second
        (other >> jump merge >> resume merge) s made begins
        (λ t begins_t more is.
        then_begins tables number context listed inside vars notes targets other
        (λ _. jump merge >> resume merge) t nothing_other begins_t (other_proceeds t begins_t)
        (λ _ u begins_u more_u ended ran.
        then_close tables number context listed inside vars notes targets (Jump merge)
        (resume merge) u begins_u
        (λ v begins_v more_v closed.
        proceeds_resume merge v (omega (arith, merge_made, more, more_u, more_v)))))

    first_way_proceeds : (first second merge : ℕ) (s : Making) → first < length s.made.blocks
        → second < length s.made.blocks → merge < length s.made.blocks → Here s
        → Proceeds s (resume first >> one >> jump merge >> last_way second merge)
    first_way_proceeds first second merge s made second_made merge_made begins =
        then_resume tables number context listed inside vars notes targets first
        (one >> jump merge >> last_way second merge) s made begins
        (λ t begins_t more is.
        then_begins tables number context listed inside vars notes targets one
        (λ _. jump merge >> last_way second merge) t nothing_one begins_t
        (one_proceeds t begins_t)
        (λ _ u begins_u more_u ended ran.
        then_close tables number context listed inside vars notes targets (Jump merge)
        (last_way second merge) u begins_u
        (λ v begins_v more_v closed.
        last_way_proceeds second merge v (omega (arith, second_made, more, more_u, more_v))
        (omega (arith, merge_made, more, more_u, more_v)) begins_v)))

    -- Two ways that meet again proceed where each of them does.
    ways_proceed : (given : Operand) (s : Making) → Here s → Proceeds s (ways given one other)
    ways_proceed given s begins =
        then_block tables number context listed inside vars notes targets Anywhere
        (λ first. block_made >>= λ second. block_made >>= λ merge. then first second merge) s
        begins
        (λ first a begins_a first_is a_is.
        then_block tables number context listed inside vars notes targets Anywhere
        (λ second. block_made >>= λ merge. then first second merge) a begins_a
        (λ second b begins_b second_is b_is.
        then_block tables number context listed inside vars notes targets Anywhere
        (λ merge. then first second merge) b begins_b
        (λ merge c begins_c merge_is c_is.
        then_close tables number context listed inside vars notes targets
        (Branch given first second)
        (resume first >> one >> jump merge >> last_way second merge) c begins_c
        (λ d begins_d more d_is.
        first_way_proceeds first second merge d
        (omega (arith, first_is.is, first_is.more, second_is.more, merge_is.more, more))
        (omega (arith, second_is.is, second_is.more, merge_is.more, more))
        (omega (arith, merge_is.is, merge_is.more, more)) begins_d)))) where
          then : ℕ → ℕ → ℕ → Code (Unit {0})
          then first second merge =
              close (Branch given first second) >> resume first >> one >> jump merge
              >> last_way second merge

  -- Arms of an `if`, whatever comes after them.
  pub record ArmsProceed (inside : Inside) (vars : List Var) (notes : List Note)
      (arms : List IfCode) : Type 0 where
    pub code_proceeds : (more : List Note) (otherwise : Targets → Code (Unit {0}))
        → ((targets : Targets) → BindsNothing (otherwise targets))
        → CodeProceeds tables number context listed inside vars more otherwise
        → CodeProceeds tables number context listed inside vars (notes ++ more)
        (λ targets. arms_code arms (otherwise targets) targets)
    pub nothing : (otherwise : Code (Unit {0})) (targets : Targets) → BindsNothing otherwise
        → BindsNothing (arms_code arms otherwise targets)
    pub inside_proceed : All (BodyProceeds number) (arms_inside arms)

  -- no arms
  pub no_arms_proceed : (inside : Inside) (vars : List Var) → ArmsProceed inside vars [] []
  unfolding arms_code
  no_arms_proceed inside vars = record {
    code_proceeds = λ more otherwise nothing one. one;
    nothing = λ otherwise targets one. one;
    inside_proceed = All-nil (BodyProceeds number);
  }

  -- an arm before others
  pub more_arms_proceed : (inside : Inside) (state : State) (cond_notes notes more : List Note)
      (cond : ExprCode) (body : BlockCode) (arms : List IfCode)
      → ExprProceeds tables number context listed state.vars cond_notes cond
      → ExprBindsNothing cond
      → BlockProceeds tables number context listed (in_branch inside) state notes body
      → ((targets : Targets) → BindsNothing (body.code targets))
      → ArmsProceed inside state.vars more arms
      → ArmsProceed inside state.vars ((cond_notes ++ notes) ++ more) (if_arm cond body ∷ arms)
  unfolding arms_code
  more_arms_proceed inside state cond_notes notes more cond body arms one nothing_cond body_one
      nothing_body rest = record {
        code_proceeds = λ later otherwise nothing last.
            proceeds_by tables number context listed inside state.vars (own ++ later)
            (λ targets. arms_code (if_arm cond body ∷ arms) (otherwise targets) targets)
            (λ targets s begins.
            then_begins tables number context listed inside state.vars (own ++ later) targets
            cond.read
            (λ given. ways given (body.code targets) (arms_code arms (otherwise targets) targets)) s
            nothing_cond.read begins
            (one.read s
            (begins_less tables number context listed inside state.vars (own ++ later) cond_notes
            targets s (λ note has. in_cond later note has) begins).ready)
            (λ given t begins_t grown is ran.
            ways_proceed inside state.vars (own ++ later) targets (body.code targets)
            (arms_code arms (otherwise targets) targets) (nothing_body targets)
            (rest.nothing (otherwise targets) targets (nothing targets))
            (λ u begins_u.
            by_begins tables number context listed (in_branch inside) state.vars notes body.code
            targets u
            body_one.code_proceeds
            (begins_in tables number context listed inside (in_branch inside) state.vars notes
            targets
            targets u (targets_for inside (in_branch inside) u targets refl refl begins_u.has)
            (begins_less tables number context listed inside state.vars (own ++ later) notes targets
            u
            (λ note has. in_body later note has) begins_u)))
            (λ u begins_u.
            by_begins tables number context listed inside state.vars (more ++ later)
            (λ to. arms_code arms (otherwise to) to) targets u
            (rest.code_proceeds later otherwise nothing last)
            (begins_right tables number context listed inside state.vars (cond_notes ++ notes)
            (more ++ later) targets u
            (begins_less tables number context listed inside state.vars (own ++ later)
            ((cond_notes ++ notes) ++ (more ++ later)) targets u
            (λ note has. in_rest later note has) begins_u)))
            given t begins_t));
        nothing = λ otherwise targets last.
            nothing_then cond.read
            (λ given. ways given (body.code targets) (arms_code arms otherwise targets))
            nothing_cond.read
            (λ given. nothing_ways given (body.code targets) (arms_code arms otherwise targets)
            (nothing_body targets) (rest.nothing otherwise targets last));
        inside_proceed = All-append (BodyProceeds number) (cond.inside ++ body.inside)
            (arms_inside arms)
            (All-append (BodyProceeds number) cond.inside body.inside one.inside
            body_one.inside_proceed) rest.inside_proceed;
      } where
        own : List Note
        own = (cond_notes ++ notes) ++ more

        in_first : (later : List Note) (note : Note) → Contains (cond_notes ++ notes) note
            → Contains (own ++ later) note
        in_first later note has =
            Contains-append_left own later note
            (Contains-append_left (cond_notes ++ notes) more note has)

        in_cond : (later : List Note) (note : Note) → Contains cond_notes note
            → Contains (own ++ later) note
        in_cond later note has =
            in_first later note (Contains-append_left cond_notes notes note has)

        in_body : (later : List Note) (note : Note) → Contains notes note
            → Contains (own ++ later) note
        in_body later note has =
            in_first later note (Contains-append_right cond_notes notes note has)

        in_rest : (later : List Note) (note : Note)
            → Contains ((cond_notes ++ notes) ++ (more ++ later)) note
            → Contains (own ++ later) note
        in_rest later note has =
            subst (λ list. Contains list note)
            (sym (append_assoc (cond_notes ++ notes) more later)) has

  -- an `else` or a `default`, which may be left out
  pub record OtherwiseProceeds (inside : Inside) (vars : List Var) (notes : List Note)
      (otherwise : Option BlockCode) : Type 0 where
    pub code_proceeds : CodeProceeds tables number context listed inside vars notes
        (else_code otherwise)
    pub nothing : (targets : Targets) → BindsNothing (else_code otherwise targets)
    pub inside_proceed : All (BodyProceeds number) (inside_of otherwise)

  -- none
  pub no_otherwise_proceeds : (inside : Inside) (vars : List Var)
      → OtherwiseProceeds inside vars [] None
  no_otherwise_proceeds inside vars = record {
    code_proceeds = λ targets s ready boxes has. proceeds_done tt s;
    nothing = λ targets. nothing_done tt;
    inside_proceed = All-nil (BodyProceeds number);
  }

  -- a block
  pub some_block_proceeds : (inside : Inside) (state : State) (notes : List Note)
      (block : BlockCode)
      → BlockProceeds tables number context listed (in_branch inside) state notes block
      → ((targets : Targets) → BindsNothing (block.code targets))
      → OtherwiseProceeds inside state.vars notes (Some block)
  some_block_proceeds inside state notes block one nothing = record {
    code_proceeds = λ targets s ready boxes has.
        one.code_proceeds targets s ready boxes
        (targets_for inside (in_branch inside) s targets refl refl has);
    nothing = nothing;
    inside_proceed = one.inside_proceed;
  }

  -- an `if`, which leaves the variables as they are
  pub if_proceeds : (inside : Inside) (state : State) (notes more : List Note)
      (arms : List IfCode) (otherwise : Option BlockCode) (left : Left)
      → left.state.vars ≡ state.vars → ArmsProceed inside state.vars notes arms
      → OtherwiseProceeds inside state.vars more otherwise
      → StmtProceeds tables number context listed inside state (notes ++ more)
      (statement (λ targets. arms_code arms (else_code otherwise targets) targets)
      (arms_inside arms ++ inside_of otherwise)) left
  if_proceeds inside state notes more arms otherwise left same one last =
      stmt_still tables number context listed inside state (notes ++ more)
      (λ targets. arms_code arms (else_code otherwise targets) targets)
      (arms_inside arms ++ inside_of otherwise) left same
      (one.code_proceeds more (else_code otherwise) last.nothing last.code_proceeds)
      (λ targets. one.nothing (else_code otherwise targets) targets (last.nothing targets))
      (All-append (BodyProceeds number) (arms_inside arms) (inside_of otherwise)
      one.inside_proceed last.inside_proceed)
