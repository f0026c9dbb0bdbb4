-- A `switch` proceeds where its subject, its arms and its `default` do.
use Rattle.std.proofs.Common.{◌≡◌, ◌≢◌, ℕ, suc, ◌+◌, ◌<◌, ◌≤◌, List, [], ◌∷◌, ◌++◌, Option, Some}
use Rattle.std.proofs.Common.{None, length, ap, sym, ◌∙◌, subst, refl, arith, inl, is_some, true}
use Rattle.std.proofs.lemmas.List.{length-map}
use Rattle.std.proofs.lemmas.List.Elements.{All-append, All-contains, All-head, All-tail}
use Rattle.std.proofs.lemmas.List.Elements.{All-weaker, Contains-append_left, Contains-append_right}
use Rattle.std.proofs.lemmas.Option.{same_Some}
use Rattle.std.specs.Option.{unwrap_or}
use Rattle.std.specs.Prelude.{All, Contains, Ok, slice_get}
use Rattle.sw_tree.proofs.Members.{in_map}
use Rattle.sw_types.specs.declared.shape.CaseShape.{CaseShape}
use Rattle.sw_types.specs.declared.shape.Shape.{Shape}
use Rattle.sw_types.specs.declared.ty.Ty.{Ty}
use Rattle.sw_graph.specs.declared.instr.Last.TheVariants.{Jump, Switch}
use Rattle.sw_graph.specs.declared.instr.Operand.{Operand}
use Rattle.sw_typing_rules.specs.Expressions.{Judged}
use Rattle.sw_typing_rules.specs.Statements.{Armed, Head, Left, State, arm_payload, arm_vars}
use Rattle.sw_typing_rules.specs.Statements.{beside, cases_of, in_switch, in_branch, pattern_types}
use Rattle.sw_typing_rules.specs.Statements.{patterns_fit, switch_left}
use Rattle.sw_typing_rules.specs.declared.scope.Inside.{Inside}
use Rattle.sw_typing_rules.specs.declared.scope.Var.{Var}
use Rattle.sw_isolation_rules.specs.Uses.{named_shape}
use Rattle.sw_isolation_rules.specs.declared.note.Note.{Note}
use Rattle.sw_isolation_rules.specs.declared.uses.Context.{Context}
use Rattle.sw_lower_plans.specs.Plan.{Anywhere, Numbers, OfCase}
use Rattle.sw_lower_plans.specs.Run.{IsGoing, Making, instrs_at}
use Rattle.sw_lower_code.specs.Code.{Code, all, block_for, close, done, each, known, resume, scope}
use Rattle.sw_lower_code.specs.Code.{◌>>=◌, ◌>>◌}
use Rattle.sw_lower_rules.specs.Carriers.{BlockCode, CaseCode, ExprCode}
use Rattle.sw_lower_rules.specs.Expressions.{block_made, jump}
use Rattle.sw_lower_rules.specs.Statements.{Arm, arm_block, arm_code, case_from, default_block}
use Rattle.sw_lower_rules.specs.Statements.{default_code, inside_of, patterns_code, statement}
use Rattle.sw_lower_rules.specs.Statements.{switch_code, switch_targets, switch_to}
use Rattle.sw_lower_rules.specs.Tables.{Tables}
use Rattle.sw_lower_rules.specs.Uses.{no_shape, shape_at, shape_of}
use Rattle.sw_lower_rules.specs.declared.targets.Targets.{Targets}
use Rattle.sw_typing_facts.specs.Rows.{RowsHold}
use Rattle.sw_lower_formed_facts.proofs.Statements.Cases.{SwitchFits, enum_cases, HeadFits, switch_well}
use Rattle.sw_lower_formed_facts.proofs.Statements.Switches.{cases_inside, head_in, heads_of}
use Rattle.sw_typing_facts.proofs.Types.Forms.{is_Named}
use Rattle.sw_lower_code_facts.proofs.Uses.{has_shape_at, has_shape_of}
use Rattle.sw_lower_total_facts.specs.Binding.{BindsNothing, ExprBindsNothing}
use Rattle.sw_lower_total_facts.specs.Bound.{seen_in}
use Rattle.sw_lower_total_facts.specs.Forms.{ExprProceeds, StmtProceeds}
use Rattle.sw_lower_total_facts.specs.Frames.{CodeStays}
use Rattle.sw_lower_total_facts.specs.Proceeding.{BodyProceeds, Proceeds}
use Rattle.sw_lower_total_facts.proofs.Binding.Codes.{each_of, nothing_all, nothing_block, nothing_close}
use Rattle.sw_lower_total_facts.proofs.Binding.Codes.{nothing_done, nothing_each, nothing_known}
use Rattle.sw_lower_total_facts.proofs.Binding.Codes.{nothing_resume, nothing_scope, nothing_then}
use Rattle.sw_lower_total_facts.proofs.Binding.Expressions.{nothing_bound}
use Rattle.sw_lower_total_facts.proofs.Frames.Joining.{keeps_scope, keeps_then, ran_both}
use Rattle.sw_lower_total_facts.proofs.Frames.Induction.{stays_jump, stays_patterns}
use Rattle.sw_lower_total_facts.proofs.Proceeding.Each.{goes_each}
use Rattle.sw_lower_total_facts.proofs.Proceeding.Steps.{gives_known, proceeds_block, proceeds_close}
use Rattle.sw_lower_total_facts.proofs.Proceeding.Steps.{proceeds_done, proceeds_known, proceeds_resume}
use Rattle.sw_lower_total_facts.proofs.Proceeding.Then.{proceeds_scope, proceeds_then, ran_of}
use Rattle.sw_lower_total_facts.proofs.Statements.Beginning.{Begins, begins_in, begins_less, by_begins}
use Rattle.sw_lower_total_facts.proofs.Statements.Beginning.{proceeds_by, then_begins, then_block}
use Rattle.sw_lower_total_facts.proofs.Statements.Beginning.{then_close, then_resume}
use Rattle.sw_lower_total_facts.proofs.Statements.Blocks.{begins_then}
use Rattle.sw_lower_total_facts.proofs.Statements.Branches.{OtherwiseProceeds}
use Rattle.sw_lower_total_facts.proofs.Statements.Cases.{CaseProceeds, CasesProceed, case_found, IsNamed}
use Rattle.sw_lower_total_facts.proofs.Statements.Cases.{case_more, named_of}
use Rattle.sw_lower_total_facts.proofs.Statements.Fronts.{front_of_empty}
use Rattle.sw_lower_total_facts.proofs.Statements.Patterns.{AreTyped, fit_types, patterns_bound}
use Rattle.sw_lower_total_facts.proofs.Statements.Patterns.{patterns_proceed, typed_patterns}
use Rattle.sw_lower_total_facts.proofs.Statements.Stating.{stmt_still}
use Rattle.sw_lower_total_facts.proofs.Statements.Writing.{AreAt, arms_made, arms_of, default_made}
use Rattle.sw_lower_total_facts.proofs.Statements.Writing.{empty_end, resumed, writes_arms, writes_block}
use Rattle.sw_lower_total_facts.proofs.Statements.Writing.{writes_close, writes_default}

-- The blocks from one number on, up to another, are empty.
abbrev EmptyFrom : ℕ → ℕ → Making → Type 0
EmptyFrom low count s = (number : ℕ) → low ≤ number → number < count
    → instrs_at number s.made.blocks ≡ []

module _ (tables : Tables) (given : Operand) (targets : Targets) (merge : ℕ) where
  -- an arm from its patterns on
  abbrev own_code : Arm → Code (Unit {0})
  own_code one = scope (patterns_code tables given 0 one.arm.patterns
      >> one.arm.body.code (switch_targets tables targets merge))

  nothing_arm : (one : Arm) → BindsNothing (arm_code tables given targets merge one)
  nothing_arm one =
      nothing_then (resume one.block) (λ _. own_code one >> jump merge) (nothing_resume one.block)
      (λ _. nothing_then (own_code one) (λ _. jump merge)
      (nothing_scope (patterns_code tables given 0 one.arm.patterns
      >> one.arm.body.code (switch_targets tables targets merge)))
      (λ _. nothing_close (Jump merge)))

  nothing_arms : (blocks : List Arm)
      → BindsNothing (all (arm_code tables given targets merge) blocks)
  nothing_arms blocks =
      nothing_all (arm_code tables given targets merge) blocks
      (each_of (λ one. BindsNothing (arm_code tables given targets merge one)) blocks nothing_arm)

  -- An arm writes into its own block and into such that it makes.
  arm_stays : (one : Arm) (count : ℕ) (s t : Making) (value : Unit {0})
      → ((to : Targets) → CodeStays (one.arm.body.code to)) → IsGoing s
      → count ≤ length s.made.blocks
      → (arm_code tables given targets merge one).run s ≡ Ok (value, t) → (number : ℕ)
      → number < count → number ≢ one.block
      → instrs_at number t.made.blocks ≡ instrs_at number s.made.blocks
  arm_stays one count s t value stays going made ran number below apart =
      let both = ran_both (resume one.block) (λ _. own_code one >> jump merge) s t value ran in
      let m = both.1 in
      let begun = resumed one.block s m both.0 both.2 in
      let going_m = (ran_of (resume one.block) s going both.0 m both.2).1.there in
      let kept = keeps_then count one.block (own_code one) (λ _. jump merge)
      (keeps_scope count one.block (patterns_code tables given 0 one.arm.patterns
      >> one.arm.body.code (switch_targets tables targets merge))
      (keeps_then count one.block (patterns_code tables given 0 one.arm.patterns)
      (λ _. one.arm.body.code (switch_targets tables targets merge))
      (stays_patterns tables given 0 one.arm.patterns count one.block)
      (λ _. stays (switch_targets tables targets merge) count one.block)))
      (λ _. stays_jump merge count one.block) m t value going_m
      (subst (λ unfinished. count ≤ length unfinished.blocks) (sym begun.made) made)
      (inl begun.here) both.3 in
      kept.others number below apart
      ∙ ap (λ unfinished. instrs_at number unfinished.blocks) begun.made

module _ (tables : Tables) (number : Numbers) (context : Context) (listed : List ℕ) where
  module _ (inside : Inside) (vars : List Var) (notes : List Note) (targets : Targets)
      (given : Operand) (merge : ℕ) where
    abbrev Here : Making → Type 0
    Here s = Begins tables number context listed inside vars notes targets s

    -- in a `switch`, with the block after it for `break`
    switch_begins : (other : Inside) (s : Making) → other.loops ≡ inside.loops
        → merge < length s.made.blocks → Here s
        → Begins tables number context listed other vars notes
        (switch_targets tables targets merge) s
    switch_begins other s same made begins =
        begins_in tables number context listed inside other vars notes targets
        (switch_targets tables targets merge) s (record {
          breaks = λ is. record { block = merge; is = refl; made = made };
          continues = λ is. begins.has.continues (sym same ∙ is);
        }) begins

    -- the patterns and the body of an arm
    own_proceeds : (cases : Option (List CaseShape)) (one : Arm)
        → CaseProceeds tables number context listed (in_switch inside) cases vars notes one.arm
        → HeadFits cases (head_in one.arm) → (s : Making) → merge < length s.made.blocks
        → instrs_at s.here s.made.blocks ≡ [] → Here s
        → Proceeds s (own_code tables given targets merge one)
    own_proceeds cases one case fits s made empty begins =
        proceeds_scope (patterns_code tables given 0 one.arm.patterns >> body) s
        (proceeds_then (patterns_code tables given 0 one.arm.patterns) (λ _. body) s
        begins.ready.going
        (patterns_proceed tables given 0 one.arm.patterns typed s begins.ready.going
        (front_of_empty s begins.ready.going empty))
        (λ _ t is ran.
        by_begins tables number context listed own_inside seen notes one.arm.body.code
        (switch_targets tables targets merge) t case.body
        (begins_then tables number context listed own_inside vars seen [] notes
        (switch_targets tables targets merge) (patterns_code tables given 0 one.arm.patterns) s t
        tt (switch_begins own_inside s refl made begins) ran
        (patterns_bound tables number context listed given one.arm.patterns vars tys s t typed
        case.unboxed begins.boxes ran)))) where
          own_inside : Inside
          own_inside = in_branch (in_switch inside)

          body : Code (Unit {0})
          body = one.arm.body.code (switch_targets tables targets merge)

          tys : List Ty
          tys = pattern_types one.arm.patterns (arm_payload cases one.arm.name.id)

          seen : List Var
          seen = vars ++ arm_vars (head_in one.arm) (arm_payload cases one.arm.name.id)

          typed : AreTyped tables one.arm.patterns
          typed = typed_patterns tables one.arm.patterns tys
              (fit_types one.arm.patterns (arm_payload cases one.arm.name.id) fits) case.typed

    -- an arm whose block is empty
    arm_proceeds : (cases : Option (List CaseShape)) (one : Arm)
        → CaseProceeds tables number context listed (in_switch inside) cases vars notes one.arm
        → HeadFits cases (head_in one.arm) → (s : Making) → one.block < length s.made.blocks
        → merge < length s.made.blocks → instrs_at one.block s.made.blocks ≡ [] → Here s
        → Proceeds s (arm_code tables given targets merge one)
    arm_proceeds cases one case fits s block_made merge_made empty begins =
        then_resume tables number context listed inside vars notes targets one.block
        (own_code tables given targets merge one >> jump merge) s block_made begins
        (λ t begins_t more is.
        let begun = resumed one.block s t tt is in
        then_begins tables number context listed inside vars notes targets
        (own_code tables given targets merge one) (λ _. jump merge) t (nothing_scope _) begins_t
        (own_proceeds cases one case fits t (omega (arith, merge_made, more))
        (ap (λ here. instrs_at here t.made.blocks) begun.here
        ∙ ap (λ unfinished. instrs_at one.block unfinished.blocks) begun.made ∙ empty) begins_t)
        (λ _ u begins_u further ended ran. proceeds_close (Jump merge) u))

    -- The arms proceed, whose blocks were made one after the other, and are empty.
    arms_proceed : (cases : Option (List CaseShape)) (count : ℕ) (blocks : List Arm) (low : ℕ)
        → AreAt low blocks → low + length blocks ≤ count
        → All (CaseProceeds tables number context listed (in_switch inside) cases vars notes)
        (arms_of blocks)
        → All (HeadFits cases) (heads_of (arms_of blocks)) → (s : Making)
        → count ≤ length s.made.blocks → merge < length s.made.blocks → EmptyFrom low count s
        → Here s → Proceeds s (all (arm_code tables given targets merge) blocks)
    unfolding all
    arms_proceed cases count [] low at fewer case fits s made merge_made empty begins =
        proceeds_done tt s
    arms_proceed cases count (one ∷ more) low at fewer case fits s made merge_made empty begins =
        then_begins tables number context listed inside vars notes targets
        (arm_code tables given targets merge one)
        (λ _. all (arm_code tables given targets merge) more) s
        (nothing_arm tables given targets merge one) begins
        (arm_proceeds cases one first (All-head (HeadFits cases) (head_in one.arm) heads fits) s
        (omega (arith, at.0, fewer, made)) merge_made
        (ap (λ block. instrs_at block s.made.blocks) at.0
        ∙ empty low (omega arith) (omega (arith, fewer))) begins)
        (λ value t begins_t grown is ran.
        arms_proceed cases count more (suc low) at.1 (omega (arith, fewer))
        (All-tail (CaseProceeds tables number context listed (in_switch inside) cases vars notes)
        one.arm (arms_of more) case)
        (All-tail (HeadFits cases) (head_in one.arm) heads fits) t
        (omega (arith, made, grown)) (omega (arith, merge_made, grown))
        (λ place above below.
        arm_stays tables given targets merge one count s t value first.stays begins.ready.going made
        is place below (λ same. omega (arith, same, at.0, above))
        ∙ empty place (omega (arith, above)) below) begins_t) where
          heads : List Head
          heads = heads_of (arms_of more)

          first : CaseProceeds tables number context listed (in_switch inside) cases vars notes
              one.arm
          first = All-head
              (CaseProceeds tables number context listed (in_switch inside) cases vars notes)
              one.arm (arms_of more) case

  nothing_default : (inside : Inside) (vars : List Var) (notes : List Note)
      (otherwise : Option BlockCode) (default : Option ℕ) (targets : Targets) (merge : ℕ)
      → OtherwiseProceeds tables number context listed inside vars notes otherwise
      → BindsNothing (default_code tables otherwise default targets merge)
  nothing_default inside vars notes None None targets merge one = nothing_done tt
  nothing_default inside vars notes None (Some to) targets merge one = nothing_done tt
  nothing_default inside vars notes (Some block) None targets merge one = nothing_done tt
  nothing_default inside vars notes (Some block) (Some to) targets merge one =
      nothing_then (resume to)
      (λ _. block.code (switch_targets tables targets merge) >> jump merge) (nothing_resume to)
      (λ _. nothing_then (block.code (switch_targets tables targets merge)) (λ _. jump merge)
      (one.nothing (switch_targets tables targets merge)) (λ _. nothing_close (Jump merge)))

  -- the `default` of a `switch`
  default_proceeds : (inside : Inside) (vars : List Var) (notes fewer : List Note)
      (targets : Targets) (given : Operand) (merge : ℕ)
      → ((note : Note) → Contains fewer note → Contains notes note)
      → (otherwise : Option BlockCode) (default : Option ℕ)
      → OtherwiseProceeds tables number context listed (in_switch inside) vars fewer otherwise
      → (s : Making) → ((to : ℕ) → default ≡ Some to → to < length s.made.blocks)
      → merge < length s.made.blocks
      → Begins tables number context listed inside vars notes targets s
      → Proceeds s (default_code tables otherwise default targets merge)
  default_proceeds inside vars notes fewer targets given merge among None None one s made merge_made
      begins = proceeds_done tt s
  default_proceeds inside vars notes fewer targets given merge among None (Some to) one s made
      merge_made begins = proceeds_done tt s
  default_proceeds inside vars notes fewer targets given merge among (Some block) None one s made
      merge_made begins = proceeds_done tt s
  default_proceeds inside vars notes fewer targets given merge among (Some block) (Some to) one s
      made merge_made begins =
      then_resume tables number context listed inside vars notes targets to
      (block.code (switch_targets tables targets merge) >> jump merge) s (made to refl) begins
      (λ t begins_t more is.
      then_begins tables number context listed inside vars notes targets
      (block.code (switch_targets tables targets merge)) (λ _. jump merge) t
      (one.nothing (switch_targets tables targets merge)) begins_t
      (by_begins tables number context listed (in_switch inside) vars fewer block.code
      (switch_targets tables targets merge) t one.code_proceeds
      (begins_less tables number context listed (in_switch inside) vars notes fewer
      (switch_targets tables targets merge) t among
      (switch_begins inside vars notes targets given merge (in_switch inside) t refl
      (omega (arith, merge_made, more)) begins_t)))
      (λ _ u begins_u further ended ran. proceeds_close (Jump merge) u))

  -- the shape of what an expression gives
  shape_of_proceeds : (key place : ℕ) (s : Making)
      → named_shape (tables.answers.type_at key) ≡ Some place → Proceeds s (shape_of tables key)
  unfolding shape_of
  shape_of_proceeds key place s is =
      proceeds_known 0 (named_shape (tables.answers.type_at key)) place s is

  gives_shape_of : (key k : ℕ) (s t : Making) → (shape_of tables key).run s ≡ Ok (k, t)
      → named_shape (tables.answers.type_at key) ≡ Some k
  unfolding shape_of
  gives_shape_of key k s t ran =
      (gives_known 0 (named_shape (tables.answers.type_at key)) k s t ran).0

  shape_at_proceeds : (k : ℕ) (shape : Shape) (s : Making)
      → slice_get tables.world.shapes k ≡ Some shape → Proceeds s (shape_at tables k)
  unfolding shape_at
  shape_at_proceeds k shape s is =
      proceeds_known no_shape (slice_get tables.world.shapes k) shape s is

  gives_shape_at : (k : ℕ) (shape : Shape) (s t : Making)
      → (shape_at tables k).run s ≡ Ok (shape, t)
      → slice_get tables.world.shapes k ≡ Some shape
  unfolding shape_at
  gives_shape_at k shape s t ran =
      (gives_known no_shape (slice_get tables.world.shapes k) shape s t ran).0

  -- the blocks of arms whose cases are found
  arm_block_proceeds : (given : Operand) (k : ℕ) (shape : Shape) (arm : CaseCode) (tag : ℕ)
      (s : Making) → IsGoing s → case_from 0 shape.cases arm.name.id ≡ Some tag
      → Proceeds s (arm_block tables given k shape arm)
  arm_block_proceeds given k shape arm tag s going found =
      proceeds_then (known 0 (case_from 0 shape.cases arm.name.id))
      (λ place. block_for (OfCase given.reg k place) >>= λ block. done (armed block)) s going
      (proceeds_known 0 (case_from 0 shape.cases arm.name.id) tag s found)
      (λ place t is ran.
      proceeds_then (block_for (OfCase given.reg k place)) (λ block. done (armed block)) t
      ran.1.there (proceeds_block (OfCase given.reg k place) t)
      (λ block u made grown. proceeds_done (armed block) u)) where
        armed : ℕ → Arm
        armed block = record { arm = arm; block = block }

  nothing_arm_block : (given : Operand) (k : ℕ) (shape : Shape) (arm : CaseCode)
      → BindsNothing (arm_block tables given k shape arm)
  nothing_arm_block given k shape arm =
      nothing_then (known 0 (case_from 0 shape.cases arm.name.id))
      (λ place. block_for (OfCase given.reg k place) >>= λ block. done (armed block))
      (nothing_known 0 (case_from 0 shape.cases arm.name.id))
      (λ place. nothing_then (block_for (OfCase given.reg k place)) (λ block. done (armed block))
      (nothing_block (OfCase given.reg k place)) (λ block. nothing_done (armed block))) where
        armed : ℕ → Arm
        armed block = record { arm = arm; block = block }

  nothing_arm_blocks : (given : Operand) (k : ℕ) (shape : Shape) (arms : List CaseCode)
      → BindsNothing (each (arm_block tables given k shape) arms)
  nothing_arm_blocks given k shape arms =
      nothing_each (arm_block tables given k shape) arms
      (each_of (λ arm. BindsNothing (arm_block tables given k shape arm)) arms
      (nothing_arm_block given k shape))

  default_block_proceeds : (otherwise : Option BlockCode) (s : Making) → IsGoing s
      → Proceeds s (default_block tables otherwise)
  default_block_proceeds None s going = proceeds_done None s
  default_block_proceeds (Some block) s going =
      proceeds_then block_made (λ to. done (Some to)) s going (proceeds_block Anywhere s)
      (λ to t is ran. proceeds_done (Some to) t)

  nothing_default_block : (otherwise : Option BlockCode)
      → BindsNothing (default_block tables otherwise)
  nothing_default_block None = nothing_done None
  nothing_default_block (Some block) =
      nothing_then block_made (λ to. done (Some to)) (nothing_block Anywhere)
      (λ to. nothing_done (Some to))

  -- what a `switch` does once its subject has a value, which is of the type with a number
  module _ (arms : List CaseCode) (otherwise : Option BlockCode) (targets : Targets)
      (given : Operand) (k : ℕ) (shape : Shape) where
    abbrev last_parts : List Arm → Option ℕ → ℕ → Code (Unit {0})
    last_parts blocks default merge = all (arm_code tables given targets merge) blocks
        >> default_code tables otherwise default targets merge
        >> resume merge

    abbrev parts : List Arm → Option ℕ → ℕ → Code (Unit {0})
    parts blocks default merge =
        close (Switch given (switch_to shape.cases blocks (unwrap_or default merge)))
        >> last_parts blocks default merge

    abbrev switched : Code (Unit {0})
    switched = each (arm_block tables given k shape) arms
        >>= λ blocks. default_block tables otherwise
        >>= λ default. block_made
        >>= λ merge. parts blocks default merge

    module _ (inside : Inside) (vars : List Var) (more : List Note)
        (one : OtherwiseProceeds tables number context listed inside vars more otherwise) where
      nothing_last : (blocks : List Arm) (default : Option ℕ) (merge : ℕ)
          → BindsNothing (last_parts blocks default merge)
      nothing_last blocks default merge =
          nothing_then (all (arm_code tables given targets merge) blocks)
          (λ _. default_code tables otherwise default targets merge >> resume merge)
          (nothing_arms tables given targets merge blocks)
          (λ _. nothing_then (default_code tables otherwise default targets merge)
          (λ _. resume merge)
          (nothing_default inside vars more otherwise default targets merge one)
          (λ _. nothing_resume merge))

      nothing_switched : BindsNothing switched
      nothing_switched =
          nothing_then (each (arm_block tables given k shape) arms)
          (λ blocks. default_block tables otherwise
          >>= λ default. block_made
          >>= λ merge. parts blocks default merge) (nothing_arm_blocks given k shape arms)
          (λ blocks. nothing_then (default_block tables otherwise)
          (λ default. block_made >>= λ merge. parts blocks default merge)
          (nothing_default_block otherwise)
          (λ default. nothing_then block_made (λ merge. parts blocks default merge)
          (nothing_block Anywhere)
          (λ merge. nothing_then
          (close (Switch given (switch_to shape.cases blocks (unwrap_or default merge))))
          (λ _. last_parts blocks default merge)
          (nothing_close (Switch given (switch_to shape.cases blocks (unwrap_or default merge))))
          (λ _. nothing_last blocks default merge))))

  -- All of that proceeds.
  module _ (inside : Inside) (vars : List Var) (notes fewer more : List Note)
      (among : (note : Note) → Contains fewer note → Contains notes note)
      (among_more : (note : Note) → Contains more note → Contains notes note)
      (cases : Option (List CaseShape)) (arms : List CaseCode) (armed : Armed)
      (otherwise : Option BlockCode)
      (arms_ok : CasesProceed tables number context listed (in_switch inside) cases vars fewer arms
      armed)
      (fits : All (HeadFits cases) (heads_of arms))
      (otherwise_ok : OtherwiseProceeds tables number context listed (in_switch inside) vars more
      otherwise)
      (targets : Targets) (given : Operand) (k : ℕ) (shape : Shape)
      (cases_are : cases ≡ Some shape.cases) where
    abbrev Now : Making → Type 0
    Now s = Begins tables number context listed inside vars notes targets s

    abbrev last_code : List Arm → Option ℕ → ℕ → Code (Unit {0})
    last_code = last_parts arms otherwise targets given k shape

    abbrev code_of : List Arm → Option ℕ → ℕ → Code (Unit {0})
    code_of = parts arms otherwise targets given k shape

    -- the case of an arm is found
    arm_found : (arm : CaseCode) → Contains arms arm
        → (tag : ℕ) × (case_from 0 shape.cases arm.name.id ≡ Some tag)
    arm_found arm has =
        case_found 0 shape.cases arm.name.id arm.patterns
        (subst (λ some. patterns_fit arm.patterns (arm_payload some arm.name.id) ≡ true) cases_are
        (All-contains (HeadFits cases) (heads_of arms) (head_in arm) fits
        (in_map head_in arms arm has)))

    blocks_proceed : (s : Making) → Now s
        → Proceeds s (each (arm_block tables given k shape) arms)
    blocks_proceed s begins =
        goes_each tables number context listed (seen_in tables context.owner vars) notes
        (arm_block tables given k shape) arms
        (λ arm has t ready.
        let found = arm_found arm has in
        arm_block_proceeds given k shape arm found.0 t ready.going found.1) s begins.ready

    last_proceeds : (blocks : List Arm) (default : Option ℕ) (merge low : ℕ) (s : Making)
        → arms_of blocks ≡ arms → AreAt low blocks → low + length blocks ≤ length s.made.blocks
        → ((to : ℕ) → default ≡ Some to → to < length s.made.blocks)
        → merge < length s.made.blocks
        → ((place : ℕ) → low ≤ place → instrs_at place s.made.blocks ≡ []) → Now s
        → Proceeds s (last_code blocks default merge)
    last_proceeds blocks default merge low s are at fewer_blocks default_below merge_below empty
        begins =
        then_begins tables number context listed inside vars notes targets
        (all (arm_code tables given targets merge) blocks)
        (λ _. default_code tables otherwise default targets merge >> resume merge) s
        (nothing_arms tables given targets merge blocks) begins
        (arms_proceed inside vars notes targets given merge cases (length s.made.blocks) blocks low
        at fewer_blocks
        (All-weaker
        (CaseProceeds tables number context listed (in_switch inside) cases vars fewer)
        (CaseProceeds tables number context listed (in_switch inside) cases vars notes)
        (case_more tables number context listed (in_switch inside) cases vars fewer notes among)
        (arms_of blocks)
        (subst
        (All (CaseProceeds tables number context listed (in_switch inside) cases vars fewer))
        (sym are) arms_ok.each))
        (subst (λ list. All (HeadFits cases) (heads_of list)) (sym are) fits) s (omega arith)
        merge_below (λ place above below. empty place above) begins)
        (λ _ t begins_t more_t t_is t_ran.
        then_begins tables number context listed inside vars notes targets
        (default_code tables otherwise default targets merge) (λ _. resume merge) t
        (nothing_default (in_switch inside) vars more otherwise default targets merge otherwise_ok)
        begins_t
        (default_proceeds inside vars notes more targets given merge among_more otherwise default
        otherwise_ok t
        (λ to is. let below = default_below to is in omega (arith, below, more_t))
        (omega (arith, merge_below, more_t)) begins_t)
        (λ _ u begins_u more_u u_is u_ran.
        proceeds_resume merge u (omega (arith, merge_below, more_t, more_u))))

    switched_proceeds : (s : Making) → Now s
        → Proceeds s (switched arms otherwise targets given k shape)
    switched_proceeds s begins =
        then_begins tables number context listed inside vars notes targets
        (each (arm_block tables given k shape) arms)
        (λ blocks. default_block tables otherwise
        >>= λ default. block_made
        >>= λ merge. code_of blocks default merge) s (nothing_arm_blocks given k shape arms) begins
        (blocks_proceed s begins)
        (λ blocks a begins_a more_a a_is a_ran.
        let made = arms_made tables given k shape arms blocks s a a_ran in
        let many = ap length made.are in
        then_begins tables number context listed inside vars notes targets
        (default_block tables otherwise)
        (λ default. block_made >>= λ merge. code_of blocks default merge) a
        (nothing_default_block otherwise) begins_a
        (default_block_proceeds otherwise a begins_a.ready.going)
        (λ default b begins_b more_b b_is b_ran.
        then_block tables number context listed inside vars notes targets Anywhere
        (λ merge. code_of blocks default merge) b begins_b
        (λ merge c begins_c merge_is c_is.
        then_close tables number context listed inside vars notes targets
        (Switch given (switch_to shape.cases blocks (unwrap_or default merge)))
        (last_code blocks default merge) c begins_c
        (λ d begins_d more_d d_is.
        last_proceeds blocks default merge (length s.made.blocks) d made.are made.at
        (omega (
          arith,
          made.more,
          many,
          length-map blocks (λ (one : Arm). one.arm),
          more_b,
          merge_is.more,
          more_d,
        ))
        (λ to is.
        let below = default_made tables otherwise default a b b_ran to is in
        omega (arith, below, merge_is.more, more_d))
        (omega (arith, merge_is.is, merge_is.more, more_d))
        (λ place above.
        writes_close (Switch given (switch_to shape.cases blocks (unwrap_or default merge))) c d tt
        d_is place
        ∙ writes_block Anywhere b c merge c_is place
        ∙ writes_default tables otherwise a b default b_is place
        ∙ writes_arms tables given k shape arms s a blocks a_is place
        ∙ empty_end s.made.blocks place above) begins_d))))

  -- `switch`, whose subject has a type
  pub switch_proceeds : (inside : Inside) (state : State) (subject_notes notes more : List Note)
      (at : ℕ) (subject : ExprCode) (judged : Judged) (ty : Ty) (arms : List CaseCode)
      (otherwise : Option BlockCode) (armed : Armed) (last : Left) → judged.ty ≡ Some ty
      → tables.answers.type_at subject.key ≡ Some ty → last.state.vars ≡ state.vars
      → ExprProceeds tables number context listed state.vars subject_notes subject
      → ExprBindsNothing subject
      → RowsHold tables.answers (switch_left (cases_of tables.world judged.ty) at judged armed.heads
      (is_some otherwise) (beside armed.left last)).rows
      → CasesProceed tables number context listed (in_switch inside)
      (cases_of tables.world judged.ty) state.vars notes arms armed
      → OtherwiseProceeds tables number context listed (in_switch inside) state.vars more otherwise
      → StmtProceeds tables number context listed inside state (subject_notes ++ notes ++ more)
      (statement (switch_code tables subject arms otherwise)
      (subject.inside ++ cases_inside arms ++ inside_of otherwise))
      (switch_left (cases_of tables.world judged.ty) at judged armed.heads (is_some otherwise)
      (beside armed.left last))
  switch_proceeds inside state subject_notes notes more at subject judged ty arms otherwise armed
      last has typed same one nothing hold arms_ok otherwise_ok =
      stmt_still tables number context listed inside state all_notes
      (switch_code tables subject arms otherwise)
      (subject.inside ++ cases_inside arms ++ inside_of otherwise)
      (switch_left cases at judged armed.heads (is_some otherwise) (beside armed.left last)) same
      (proceeds_by tables number context listed inside state.vars all_notes
      (switch_code tables subject arms otherwise)
      (λ targets s begins.
      then_begins tables number context listed inside state.vars all_notes targets subject.read
      (numbered targets) s nothing.read begins
      (one.read s
      (begins_less tables number context listed inside state.vars all_notes subject_notes targets s
      among_subject begins).ready)
      (λ given a begins_a more_a a_is a_ran.
      then_begins tables number context listed inside state.vars all_notes targets
      (shape_of tables subject.key) (shaped targets given) a (has_shape_of nothing_bound tables subject.key)
      begins_a
      (shape_of_proceeds subject.key named.place a (ap named_shape typed ∙ named.named))
      (λ k b begins_b more_b b_is b_ran.
      let k_is = gives_shape_of subject.key k a b b_is in
      then_begins tables number context listed inside state.vars all_notes targets
      (shape_at tables k) (switched arms otherwise targets given k) b
      (has_shape_at nothing_bound tables k) begins_b
      (shape_at_proceeds k named.shape b (found_at k k_is))
      (λ shape c begins_c more_c c_is c_ran.
      switched_proceeds inside state.vars all_notes notes more among among_more cases arms armed
      otherwise arms_ok fits otherwise_ok targets given k shape
      (cases_are k shape k_is (gives_shape_at k shape b c c_is)) c begins_c)))))
      (λ targets. nothing_then subject.read (numbered targets) nothing.read
      (λ given. nothing_then (shape_of tables subject.key) (shaped targets given)
      (has_shape_of nothing_bound tables subject.key)
      (λ k. nothing_then (shape_at tables k) (switched arms otherwise targets given k)
      (has_shape_at nothing_bound tables k) (λ shape. nothing_switched arms otherwise targets
      given k shape (in_switch inside) state.vars
      more otherwise_ok))))
      (All-append (BodyProceeds number) (subject.inside ++ cases_inside arms)
      (inside_of otherwise)
      (All-append (BodyProceeds number) subject.inside (cases_inside arms) one.inside
      arms_ok.inside_proceed) otherwise_ok.inside_proceed) where
        all_notes : List Note
        all_notes = subject_notes ++ notes ++ more

        cases : Option (List CaseShape)
        cases = cases_of tables.world judged.ty

        among_subject : (note : Note) → Contains subject_notes note → Contains all_notes note
        among_subject note is =
            Contains-append_left (subject_notes ++ notes) more note
            (Contains-append_left subject_notes notes note is)

        among : (note : Note) → Contains notes note → Contains all_notes note
        among note is =
            Contains-append_left (subject_notes ++ notes) more note
            (Contains-append_right subject_notes notes note is)

        among_more : (note : Note) → Contains more note → Contains all_notes note
        among_more note is = Contains-append_right (subject_notes ++ notes) more note is

        fit : SwitchFits cases armed.heads
        fit = switch_well tables.answers cases at judged armed.heads (is_some otherwise)
            (beside armed.left last) ty has hold

        fits : All (HeadFits cases) (heads_of arms)
        fits = subst (All (HeadFits cases)) arms_ok.heads fit.each

        of_ty : cases_of tables.world (Some ty) ≡ Some fit.list
        of_ty = ap (cases_of tables.world) (sym has) ∙ fit.has

        named : IsNamed tables.world ty
        named = named_of tables.world ty fit.list of_ty

        found_at : (k : ℕ) → named_shape (tables.answers.type_at subject.key) ≡ Some k
            → slice_get tables.world.shapes k ≡ Some named.shape
        found_at k is =
            ap (slice_get tables.world.shapes)
            (same_Some k named.place (sym is ∙ ap named_shape typed ∙ named.named))
            ∙ named.found

        cases_are : (k : ℕ) (shape : Shape)
            → named_shape (tables.answers.type_at subject.key) ≡ Some k
            → slice_get tables.world.shapes k ≡ Some shape → cases ≡ Some shape.cases
        cases_are k shape is found =
            fit.has ∙ ap Some (sym (enum_cases tables.world ty k shape fit.list
            (is_Named ty k (ap named_shape (sym typed) ∙ is)) found of_ty).cases_are)

        shaped : Targets → Operand → ℕ → Code (Unit {0})
        shaped targets given k = shape_at tables k >>= switched arms otherwise targets given k

        numbered : Targets → Operand → Code (Unit {0})
        numbered targets given = shape_of tables subject.key >>= shaped targets given
