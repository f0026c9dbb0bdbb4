-- A `switch` is safe where its subject, its arms and its `default` are.
use Rattle.std.proofs.Common.{◌≡◌, ℕ, ◌+◌, List, [], ◌∷◌, ◌++◌, ap, sym, ◌∙◌, subst, refl, arith}
use Rattle.std.proofs.Common.{Bool, false, Option, Some, None, length, inl, inr, ◌⊎◌, map, flat_map}
use Rattle.std.proofs.Common.{is_some, append_assoc}
use Rattle.std.proofs.lemmas.List.{length-map}
use Rattle.std.proofs.lemmas.List.Elements.{All-append, All-cons, All-head, All-nil, All-tail}
use Rattle.std.proofs.lemmas.Option.{same_Some}
use Rattle.std.specs.Option.{option_map, unwrap_or}
use Rattle.std.specs.Prelude.{All, slice_get}
use Rattle.sw_types.specs.declared.shape.CaseShape.{CaseShape}
use Rattle.sw_types.specs.declared.shape.Shape.{Shape}
use Rattle.sw_types.specs.declared.ty.Ty.{Ty}
use Rattle.sw_graph.specs.Kinds.{is_enum, shape_of as enum_of}
use Rattle.sw_graph.specs.declared.function.Function.{Function}
use Rattle.sw_graph.specs.declared.function.RegKind.TheVariants.{Plain}
use Rattle.sw_graph.specs.declared.instr.Last.{Last}
use Rattle.sw_graph.specs.declared.instr.Last.TheVariants.{Switch}
use Rattle.sw_graph.specs.declared.instr.Operand.{Operand}
use Rattle.sw_typing_rules.specs.Expressions.{Judged}
use Rattle.sw_typing_rules.specs.Judges.{arm_state, case_of, head_of}
use Rattle.sw_typing_rules.specs.Statements.{Armed, Head, Left, State, arm_payload, arm_vars}
use Rattle.sw_typing_rules.specs.Statements.{beside, cases_of, more_arms, no_arms, pattern_types}
use Rattle.sw_typing_rules.specs.Statements.{pattern_vars, patterns_fit, payload_of, switch_left}
use Rattle.sw_typing_rules.specs.Statements.{vars_rows}
use Rattle.sw_typing_rules.specs.declared.scope.Returned.{Returned}
use Rattle.sw_isolation_rules.specs.Uses.{named_shape}
use Rattle.sw_lower_plans.specs.Plan.{Anywhere, Numbers, OfCase}
use Rattle.sw_lower_code.specs.Code.{Code, all, block_for, close, done, each, known, resume, scope}
use Rattle.sw_lower_code.specs.Code.{◌>>=◌, ◌>>◌}
use Rattle.sw_lower_code.specs.Whole.{Body}
use Rattle.sw_lower_rules.specs.Carriers.{BlockCode, CaseCode, ExprCode}
use Rattle.sw_lower_rules.specs.Expressions.{block_made, jump}
use Rattle.sw_lower_rules.specs.Statements.{Arm, arm_block, arm_code, block_of, case_from}
use Rattle.sw_lower_rules.specs.Statements.{default_block, default_code, else_code, inside_of}
use Rattle.sw_lower_rules.specs.Statements.{patterns_code, statement, switch_code, switch_targets}
use Rattle.sw_lower_rules.specs.Statements.{switch_to}
use Rattle.sw_lower_rules.specs.Tables.{Tables}
use Rattle.sw_lower_rules.specs.Uses.{no_shape, shape_at, shape_of}
use Rattle.sw_lower_rules.specs.declared.targets.Targets.{Targets}
use Rattle.sw_lower_formed_facts.specs.Fitting.{LeadsOk}
use Rattle.sw_lower_formed_facts.specs.Forms.{BlockOk, BodiesFit, BodyFits, ExprOk, IsTarget, ReturnsBack}
use Rattle.sw_lower_formed_facts.specs.Forms.{ReturnsOk, StmtOk, TargetsOk}
use Rattle.sw_typing_facts.specs.Rows.{RowsHold}
use Rattle.sw_lower_formed_facts.specs.Ground.{Ground, IsOfGraph, Knows}
use Rattle.sw_lower_formed_facts.specs.Safe.{MadeLast, Follows, IsIn, IsValue, Keeps, Position, SafeAt}
use Rattle.sw_lower_formed_facts.specs.Safe.{ValueAfter, here, seeing}
use Rattle.sw_lower_formed_facts.specs.Whole.{Whole, made_at}
use Rattle.sw_lower_formed_facts.proofs.Positions.Asking.{known_then}
use Rattle.sw_lower_formed_facts.proofs.Positions.Entering.{Grown, MadeAt, block_then, grown_keeps}
use Rattle.sw_lower_formed_facts.proofs.Positions.Entering.{jump_target, leads_to, made_target, resume_in}
use Rattle.sw_lower_formed_facts.proofs.Positions.Entering.{resume_then, target_still, targets_still}
use Rattle.sw_lower_formed_facts.proofs.Positions.Following.{follows_then, keeps_self, keeps_then}
use Rattle.sw_lower_formed_facts.proofs.Positions.Following.{knows_still, value_stays}
use Rattle.sw_lower_formed_facts.proofs.Positions.Steps.{safe_done, safe_scope}
use Rattle.sw_lower_formed_facts.proofs.Positions.Then.{safe_then, safe_weaker}
use Rattle.sw_lower_formed_facts.proofs.Positions.Using.{close_in, reads_one}
use Rattle.sw_typing_facts.proofs.Said.Rows.{rows_left}
use Rattle.sw_lower_formed_facts.proofs.Statements.Branches.{KeptOk, OtherwiseOk}
use Rattle.sw_lower_formed_facts.proofs.Statements.Cases.{CasesDiffer, FoundCase, HaveTypes, SwitchFits}
use Rattle.sw_lower_formed_facts.proofs.Statements.Cases.{block_of_arm, enum_cases, enum_shape, found_case}
use Rattle.sw_lower_formed_facts.proofs.Statements.Cases.{patterns_typed, switch_way, HeadFits, switch_well}
use Rattle.sw_lower_formed_facts.proofs.Statements.Declaring.{Declares}
use Rattle.sw_lower_formed_facts.proofs.Statements.Patterns.{CaseBlock, patterns_in}
use Rattle.sw_lower_formed_facts.proofs.Statements.Stating.{Kept, keeps_seeing, stmt_keeps}
use Rattle.sw_typing_facts.proofs.Types.Forms.{is_Named}

-- the head of an arm
abbrev pub head_in : CaseCode → Head
head_in arm = head_of arm.name arm.patterns

-- what stands before the blocks of arms
abbrev pub heads_of : List CaseCode → List Head
heads_of arms = map head_in arms

-- the bodies in arms
abbrev pub cases_inside : List CaseCode → List Body
cases_inside arms = flat_map (λ (arm : CaseCode). arm.body.inside) arms

abbrev arm_of : Arm → CaseCode
arm_of one = one.arm

abbrev arms_of : List Arm → List CaseCode
arms_of blocks = map arm_of blocks

module _ (tables : Tables) (number : Numbers) (functions : List Function) (owner : Option ℕ) where
  -- an arm, by what a body gives after it
  pub record CaseOk (cases : Option (List CaseShape)) (after : Returned) (arm : CaseCode)
      : Type 0 where
    pub body : KeptOk tables number functions owner after arm.body.code arm.body.inside
    pub typed : RowsHold tables.answers
        (vars_rows (arm_vars (head_in arm) (arm_payload cases arm.name.id)))

  -- the arms of a `switch`
  pub record CasesOk (cases : Option (List CaseShape)) (state : State) (arms : List CaseCode)
      (armed : Armed) : Type 0 where
    pub each : (after : Returned)
        → ReturnsBack tables number functions armed.left.state.returned after
        → All (CaseOk cases after) arms
    pub back : ReturnsBack tables number functions state.returned armed.left.state.returned
    pub heads : armed.heads ≡ heads_of arms

  -- no arms
  pub no_cases_ok : (cases : Option (List CaseShape)) (state : State)
      → CasesOk cases state [] (no_arms state)
  no_cases_ok cases state = record {
    each = λ after back. All-nil (CaseOk cases after);
    back = λ result returns. returns;
    heads = refl;
  }

  -- an arm before others
  pub more_cases_ok : (cases : Option (List CaseShape)) (state : State) (arm : CaseCode)
      (left : Left) (arms : List CaseCode) (armed : Armed)
      → BlockOk tables number functions owner false (arm_state cases state (head_in arm)) arm.body
      left
      → RowsHold tables.answers (case_of cases state (head_in arm) left).rows
      → CasesOk cases (case_of cases state (head_in arm) left).state arms armed
      → CasesOk cases state (arm ∷ arms)
      (more_arms (head_in arm) (case_of cases state (head_in arm) left) armed)
  more_cases_ok cases state arm left arms armed ok hold more = record {
    each = λ after back.
        All-cons (CaseOk cases after) arm arms (record {
          body = λ w of p knows targets targets_ok returns.
              ok.code_ok w of p knows targets targets_ok
              (more.back w.result (back w.result returns));
          typed = rows_left tables.answers
              (vars_rows (arm_vars (head_in arm) (arm_payload cases arm.name.id))) left.rows hold;
        }) (more.each after back);
    back = λ result returns. ok.back result (more.back result returns);
    heads = ap (λ heads. head_in arm ∷ heads) more.heads;
  }

module _ (tables : Tables) (number : Numbers) (functions : List Function)
    (ground : Ground tables number functions) (owner : Option ℕ) where
  -- where the subject of a `switch` has its value
  module _ (w : Whole) (of : IsOfGraph tables functions w) (b : Position) (inside : IsIn w b)
      (knows : Knows tables owner number w b) (given : Operand) (from : Ty)
      (value : IsValue w b from given) (k : ℕ) (shape : Shape)
      (sort_is : enum_of tables.world.shapes is_enum (Some (Plain from)) ≡ Some shape)
      (differ : CasesDiffer shape.cases) where
    -- the block of an arm was made for its case
    record CaseMade (one : Arm) : Type 0 where
      tag : ℕ
      found : case_from 0 shape.cases one.arm.name.id ≡ Some tag
      made : MadeAt w b (OfCase given.reg k tag) one.block

    -- nothing but blocks was made
    abbrev Still : Position → Type 0
    Still q = Keeps w b q × (here q ≡ here b)

    arm_made : (arm : CaseCode) (q : Position) → Still q
        → SafeAt w q (arm_block tables given k shape arm)
        (λ one s. (one.arm ≡ arm) × (CaseMade one × Still s))
    arm_made arm q still =
        known_then w q 0 (case_from 0 shape.cases arm.name.id)
        (λ tag. block_for (OfCase given.reg k tag) >>= λ block. done (armed block))
        (λ one s. (one.arm ≡ arm) × (CaseMade one × Still s))
        (λ tag found.
        block_then w b q (OfCase given.reg k tag) (λ block. done (armed block))
        (λ one s. (one.arm ≡ arm) × (CaseMade one × Still s)) still.0 still.1
        (λ block s in_s made keeps there.
        safe_done w s (armed block) (λ one t. (one.arm ≡ arm) × (CaseMade one × Still t)) (
          refl,
          (record { tag = tag; found = found; made = made }, (keeps, there)),
        ))) where
          armed : ℕ → Arm
          armed block = record { arm = arm; block = block }

    abbrev ArmsMade : List CaseCode → List Arm → Position → Type 0
    ArmsMade arms blocks s = (arms_of blocks ≡ arms) × (All CaseMade blocks × Still s)

    arms_made : (arms : List CaseCode) (q : Position) → Still q
        → SafeAt w q (each (arm_block tables given k shape) arms) (ArmsMade arms)
    unfolding each
    arms_made [] q still =
        safe_done w q [] (ArmsMade []) (refl, (All-nil CaseMade, still))
    arms_made (arm ∷ arms) q still =
        safe_then w q (arm_block tables given k shape arm)
        (λ one. each (arm_block tables given k shape) arms >>= λ more. done (one ∷ more))
        (λ one s. (one.arm ≡ arm) × (CaseMade one × Still s)) (ArmsMade (arm ∷ arms))
        (arm_made arm q still)
        (λ one s in_s first.
        safe_then w s (each (arm_block tables given k shape) arms) (λ more. done (one ∷ more))
        (ArmsMade arms) (ArmsMade (arm ∷ arms)) (arms_made arms s first.1.1)
        (λ more t in_t rest.
        safe_done w t (one ∷ more) (ArmsMade (arm ∷ arms)) (
          ap (λ x. x ∷ arms_of more) first.0 ∙ ap (λ xs. arm ∷ xs) rest.0,
          (All-cons CaseMade one more first.1.0 rest.1.0, rest.1.1),
        )))

    -- the block of `default`
    abbrev IsDefault : Option BlockCode → Option ℕ → Type 0
    IsDefault None None = Unit {0}
    IsDefault (Some block) (Some to) = MadeAt w b Anywhere to
    IsDefault _ _ = ⊥

    default_made : (otherwise : Option BlockCode) (q : Position) → Still q
        → SafeAt w q (default_block tables otherwise)
        (λ default s. IsDefault otherwise default × Still s)
    default_made None q still =
        safe_done w q None (λ default s. IsDefault None default × Still s) (tt, still)
    default_made (Some block) q still =
        block_then w b q Anywhere (λ to. done (Some to))
        (λ default s. IsDefault (Some block) default × Still s) still.0 still.1
        (λ to s in_s made keeps there.
        safe_done w s (Some to) (λ default t. IsDefault (Some block) default × Still t)
        (made, (keeps, there)))

    default_target : (otherwise : Option BlockCode) (default : Option ℕ) (merge : ℕ)
        (q : Position) → IsDefault otherwise default → MadeAt w b Anywhere merge → Keeps w b q
        → IsTarget w q (unwrap_or default merge)
    default_target None None merge q is made keeps = made_target w b q merge made keeps.follows
    default_target None (Some to) merge q is made keeps = absurd is
    default_target (Some block) None merge q is made keeps = absurd is
    default_target (Some block) (Some to) merge q is made keeps =
        made_target w b q to is keeps.follows

    -- Each way of the switch leads to the block of its case, or to the one of the other cases.
    switch_leads : (blocks : List Arm) (otherwise : ℕ) (q : Position) → All CaseMade blocks
        → Keeps w b q → IsTarget w q otherwise → (index to : ℕ)
        → slice_get (switch_to shape.cases blocks otherwise) index ≡ Some to
        → LeadsOk w (here q) (Switch given (switch_to shape.cases blocks otherwise)) index to
    switch_leads blocks otherwise q made keeps target index to is =
        let way = switch_way shape.cases blocks otherwise index to is in
        by way.case way.at (block_of blocks way.case.name) refl way.is where
          last : Last
          last = Switch given (switch_to shape.cases blocks otherwise)

          by : (case : CaseShape) → slice_get shape.cases index ≡ Some case
              → (found : Option ℕ) → block_of blocks case.name ≡ found
              → to ≡ unwrap_or found otherwise → LeadsOk w (here q) last index to
          by case at None found same =
              leads_to tables functions w of q last index to
              (subst (IsTarget w q) (sym same) target)
          by case at (Some block) found same =
              let arm = block_of_arm CaseMade blocks case.name block made found in
              let for = arm.holds in
              let one = found_case 0 shape.cases arm.one.arm.name.id for.tag for.found in
              let place : one.place ≡ index =
              differ one.place index one.case case one.at at (one.name ∙ arm.named) in record {
                one = record { entry = OfCase given.reg k for.tag; from = here b };
                made = ap (made_at w) (same ∙ sym arm.is) ∙ for.made;
                entry = (refl, omega (arith, place, one.is));
                passes = keeps.follows.under;
              }

    close_switch : (blocks : List Arm) (otherwise : ℕ) (q : Position) → All CaseMade blocks
        → Keeps w b q → IsTarget w q otherwise
        → SafeAt w q (close (Switch given (switch_to shape.cases blocks otherwise)))
        (λ _. MadeLast w q)
    close_switch blocks otherwise q made keeps target =
        let here_too = value_stays w b q from given keeps.follows value in
        close_in tables functions w of q (Switch given (switch_to shape.cases blocks otherwise))
        (ap (λ kind. option_map (λ (one : Shape). length one.cases)
        (enum_of tables.world.shapes is_enum kind)) here_too.kind
        ∙ ap (option_map (λ (one : Shape). length one.cases)) sort_is
        ∙ ap Some (sym (length-map shape.cases
        (λ (one : CaseShape). unwrap_or (block_of blocks one.name) otherwise))))
        (reads_one w q.writes (here q) given.reg here_too.set)
        (switch_leads blocks otherwise q made keeps target)

    module _ (cases : Option (List CaseShape)) (cases_are : cases ≡ Some shape.cases)
        (after : Returned) (returns : ReturnsOk after w.result) (targets : Targets)
        (targets_ok : TargetsOk w b targets) (merge : ℕ) (made_merge : MadeAt w b Anywhere merge)
      where
        -- after code in a block of its own
        abbrev Past : List Body → Unit {0} → Position → Type 0
        Past bodies _ s = Grown b s × BodiesFit tables number functions bodies

        targets_in : (q : Position) → Follows w b q
            → TargetsOk w q (switch_targets tables targets merge)
        targets_in q follows = record {
          breaks = λ to is.
              subst (IsTarget w q) (same_Some merge to is)
              (made_target w b q merge made_merge follows);
          continues = λ to is. target_still w b q to follows (targets_ok.continues to is);
        }

        -- the patterns and the body of an arm
        patterned : (arm : CaseCode) (block tag : ℕ)
            → case_from 0 shape.cases arm.name.id ≡ Some tag
            → MadeAt w b (OfCase given.reg k tag) block
            → CaseOk tables number functions owner cases after arm
            → HeadFits cases (head_in arm) → (s : Position) → Keeps w b s → here s ≡ block
            → SafeAt w s (scope (patterns_code tables given 0 arm.patterns
            >> arm.body.code (switch_targets tables targets merge)))
            (λ _ t. Kept tables number functions owner arm.body.inside w s t)
        patterned arm block tag found made ok fits s keeps there =
            safe_scope w s (patterns_code tables given 0 arm.patterns >> body)
            (λ _ t. Kept tables number functions owner arm.body.inside w s t)
            (safe_then w s (patterns_code tables given 0 arm.patterns) (λ _. body)
            (λ _ q. Declares tables owner number w s q)
            (λ _ q. Kept tables number functions owner arm.body.inside w s (seeing s.making.vars q))
            (patterns_in tables number functions ground owner w of given from one.case block enters
            arm.patterns 0 one.case.payload from_start typed.many rows s there
            (value_stays w b s from given keeps.follows value)
            (knows_still tables owner number w b s keeps knows))
            (λ _ q in_q declares.
            safe_weaker w q body
            (λ _ t. Kept tables number functions owner arm.body.inside w q t)
            (λ _ t. Kept tables number functions owner arm.body.inside w s
            (seeing s.making.vars t))
            (ok.body w of q declares.knows (switch_targets tables targets merge)
            (targets_in q (follows_then w b s q keeps.follows declares.follows)) returns)
            (λ _ t in_t kept. (
              keeps_seeing w s t (follows_then w s q t declares.follows kept.0.follows),
              kept.1,
            )))) where
              body : Code (Unit {0})
              body = arm.body.code (switch_targets tables targets merge)

              one : FoundCase shape.cases 0 arm.name.id tag
              one = found_case 0 shape.cases arm.name.id tag found

              enters : CaseBlock w given from one.case block
              enters = record {
                shape = shape;
                number = k;
                tag = tag;
                from = here b;
                made = made;
                sort_is = subst (λ shapes. enum_of shapes is_enum (Some (Plain from)) ≡ Some shape)
                    (sym of.shapes) sort_is;
                at = ap (slice_get shape.cases)
                    (let same : tag ≡ one.place = omega (arith, one.is) in same)
                    ∙ one.at;
              }

              payload : arm_payload cases arm.name.id ≡ Some one.case.payload
              payload = ap (λ cs. arm_payload cs arm.name.id) cases_are ∙ ap payload_of one.named

              from_start : (i : ℕ) (ty : Ty) → slice_get one.case.payload i ≡ Some ty
                  → slice_get one.case.payload (0 + i) ≡ Some ty
              from_start i ty is =
                  ap (slice_get one.case.payload) (let same : 0 + i ≡ i = omega arith in same) ∙ is

              typed : HaveTypes arm.patterns (Some one.case.payload) one.case.payload
              typed = patterns_typed arm.patterns one.case.payload
                  (ap (patterns_fit arm.patterns) (sym payload) ∙ fits)

              by : (arm.patterns ≡ [])
                  ⊎ (pattern_types arm.patterns (Some one.case.payload) ≡ one.case.payload)
                  → RowsHold tables.answers
                  (vars_rows (pattern_vars arm.patterns
                  (pattern_types arm.patterns (Some one.case.payload))))
                  → RowsHold tables.answers (vars_rows (pattern_vars arm.patterns one.case.payload))
              by (inl none) hold =
                  subst
                  (λ ps. RowsHold tables.answers (vars_rows (pattern_vars ps one.case.payload)))
                  (sym none) tt
              by (inr same) hold =
                  subst (λ tys. RowsHold tables.answers (vars_rows (pattern_vars arm.patterns tys)))
                  same
                  hold

              rows : RowsHold tables.answers (vars_rows (pattern_vars arm.patterns
                  one.case.payload))
              rows = by typed.types_are
                  (subst (λ tys. RowsHold tables.answers
                  (vars_rows (pattern_vars arm.patterns (pattern_types arm.patterns tys)))) payload
                  ok.typed)

        arm_in : (one : Arm) → CaseMade one
            → CaseOk tables number functions owner cases after one.arm
            → HeadFits cases (head_in one.arm) → (q : Position) → Grown b q
            → SafeAt w q (arm_code tables given targets merge one) (Past one.arm.body.inside)
        arm_in one made ok fits q grown =
            resume_then w b q (OfCase given.reg k made.tag) one.block
            (scope (patterns_code tables given 0 one.arm.patterns
            >> one.arm.body.code (switch_targets tables targets merge)) >> jump merge)
            (Past one.arm.body.inside) inside made.made grown
            (λ s in_s keeps there.
            safe_then w s
            (scope (patterns_code tables given 0 one.arm.patterns
            >> one.arm.body.code (switch_targets tables targets merge))) (λ _. jump merge)
            (λ _ t. Kept tables number functions owner one.arm.body.inside w s t)
            (Past one.arm.body.inside)
            (patterned one.arm one.block made.tag made.found made.made ok fits s keeps there)
            (λ _ t in_t kept.
            let still = keeps_then w b s t keeps kept.0 in
            safe_weaker w t (jump merge) (λ _. MadeLast w t) (Past one.arm.body.inside)
            (jump_target tables functions w of t merge
            (made_target w b t merge made_merge still.follows))
            (λ _ u in_u closed.
            (grown_keeps w b u (keeps_then w b t u still closed.keeps), kept.1))))

        arms_in : (blocks : List Arm) → All CaseMade blocks
            → All (CaseOk tables number functions owner cases after) (arms_of blocks)
            → All (HeadFits cases) (heads_of (arms_of blocks)) → (q : Position) → Grown b q
            → SafeAt w q (all (arm_code tables given targets merge) blocks)
            (Past (cases_inside (arms_of blocks)))
        unfolding all
        arms_in [] made ok fits q grown =
            safe_done w q tt (Past []) (grown, All-nil (BodyFits tables number functions))
        arms_in (one ∷ more) made ok fits q grown =
            safe_then w q (arm_code tables given targets merge one)
            (λ _. all (arm_code tables given targets merge) more) (Past one.arm.body.inside)
            (Past (cases_inside (arms_of (one ∷ more))))
            (arm_in one (All-head CaseMade one more made)
            (All-head (CaseOk tables number functions owner cases after) one.arm (arms_of more) ok)
            (All-head (HeadFits cases) (head_in one.arm) (heads_of (arms_of more)) fits) q grown)
            (λ _ s in_s first.
            safe_weaker w s (all (arm_code tables given targets merge) more)
            (Past (cases_inside (arms_of more))) (Past (cases_inside (arms_of (one ∷ more))))
            (arms_in more (All-tail CaseMade one more made)
            (All-tail (CaseOk tables number functions owner cases after) one.arm (arms_of more) ok)
            (All-tail (HeadFits cases) (head_in one.arm) (heads_of (arms_of more)) fits) s first.0)
            (λ _ t in_t rest. (
              rest.0,
              All-append (BodyFits tables number functions) one.arm.body.inside
                  (cases_inside (arms_of more)) first.1 rest.1,
            )))

        default_in : (otherwise : Option BlockCode) (default : Option ℕ)
            → IsDefault otherwise default
            → KeptOk tables number functions owner after (else_code otherwise)
            (inside_of otherwise) → (q : Position) → Grown b q
            → SafeAt w q (default_code tables otherwise default targets merge)
            (Past (inside_of otherwise))
        default_in None None is ok q grown =
            safe_done w q tt (Past []) (grown, All-nil (BodyFits tables number functions))
        default_in None (Some to) is ok q grown = absurd is
        default_in (Some block) None is ok q grown = absurd is
        default_in (Some block) (Some to) is ok q grown =
            resume_then w b q Anywhere to
            (block.code (switch_targets tables targets merge) >> jump merge) (Past block.inside)
            inside
            is grown
            (λ s in_s keeps there.
            safe_then w s (block.code (switch_targets tables targets merge)) (λ _. jump merge)
            (λ _ t. Kept tables number functions owner block.inside w s t) (Past block.inside)
            (ok w of s (knows_still tables owner number w b s keeps knows)
            (switch_targets tables targets merge) (targets_in s keeps.follows) returns)
            (λ _ t in_t kept.
            let still = keeps_then w b s t keeps kept.0 in
            safe_weaker w t (jump merge) (λ _. MadeLast w t) (Past block.inside)
            (jump_target tables functions w of t merge
            (made_target w b t merge made_merge still.follows))
            (λ _ u in_u closed.
            (grown_keeps w b u (keeps_then w b t u still closed.keeps), kept.1))))

    -- Everything is made once the subject has its value.
    module _ (cases : Option (List CaseShape)) (cases_are : cases ≡ Some shape.cases)
        (after : Returned) (returns : ReturnsOk after w.result) (targets : Targets)
        (targets_ok : TargetsOk w b targets) (arms : List CaseCode) (otherwise : Option BlockCode)
        (arms_ok : All (CaseOk tables number functions owner cases after) arms)
        (fits : All (HeadFits cases) (heads_of arms))
        (otherwise_ok : KeptOk tables number functions owner after (else_code otherwise)
        (inside_of otherwise)) where
      abbrev Done : Unit {0} → Position → Type 0
      Done _ q = Keeps w b q
          × BodiesFit tables number functions (cases_inside arms ++ inside_of otherwise)

      abbrev last_parts : List Arm → Option ℕ → ℕ → Code (Unit {0})
      last_parts blocks default merge = all (arm_code tables given targets merge) blocks
          >> default_code tables otherwise default targets merge
          >> resume merge

      abbrev parts : List Arm → Option ℕ → ℕ → Code (Unit {0})
      parts blocks default merge =
          close (Switch given (switch_to shape.cases blocks (unwrap_or default merge)))
          >> last_parts blocks default merge

      last_parts_in : (blocks : List Arm) (default : Option ℕ) (merge : ℕ)
          → arms_of blocks ≡ arms → All CaseMade blocks → IsDefault otherwise default
          → MadeAt w b Anywhere merge → (q : Position) → Keeps w b q
          → SafeAt w q (last_parts blocks default merge) Done
      last_parts_in blocks default merge are made is_default made_merge q keeps =
          safe_then w q (all (arm_code tables given targets merge) blocks)
          (λ _. default_code tables otherwise default targets merge >> resume merge)
          (Past cases cases_are after returns targets targets_ok merge made_merge
          (cases_inside (arms_of blocks))) Done
          (arms_in cases cases_are after returns targets targets_ok merge made_merge blocks made
          (subst (All (CaseOk tables number functions owner cases after)) (sym are) arms_ok)
          (subst (λ list. All (HeadFits cases) (heads_of list)) (sym are) fits) q
          (grown_keeps w b q keeps))
          (λ _ s in_s first.
          safe_then w s (default_code tables otherwise default targets merge)
          (λ _. resume merge)
          (Past cases cases_are after returns targets targets_ok merge made_merge
          (inside_of otherwise)) Done
          (default_in cases cases_are after returns targets targets_ok merge made_merge otherwise
          default is_default otherwise_ok s first.0)
          (λ _ t in_t second.
          safe_weaker w t (resume merge) (λ _ u. Keeps w b u × (here u ≡ merge)) Done
          (resume_in w b t Anywhere merge inside made_merge second.0)
          (λ _ u in_u got. (
            got.0,
            All-append (BodyFits tables number functions) (cases_inside arms)
                (inside_of otherwise)
                (subst (λ list. BodiesFit tables number functions (cases_inside list)) are
                first.1) second.1,
          ))))

      switched_in : SafeAt w b (each (arm_block tables given k shape) arms
          >>= λ blocks. default_block tables otherwise
          >>= λ default. block_made
          >>= λ merge. parts blocks default merge) Done
      switched_in =
          safe_then w b (each (arm_block tables given k shape) arms)
          (λ blocks. default_block tables otherwise
          >>= λ default. block_made
          >>= λ merge. parts blocks default merge) (ArmsMade arms) Done
          (arms_made arms b (keeps_self w b, refl))
          (λ blocks q in_q armed.
          safe_then w q (default_block tables otherwise)
          (λ default. block_made >>= λ merge. parts blocks default merge)
          (λ default s. IsDefault otherwise default × Still s) Done
          (default_made otherwise q armed.1.1)
          (λ default s in_s is_default.
          block_then w b s Anywhere (λ merge. parts blocks default merge) Done is_default.1.0
          is_default.1.1
          (λ merge t in_t made_merge keeps there.
          safe_then w t
          (close (Switch given (switch_to shape.cases blocks (unwrap_or default merge))))
          (λ _. last_parts blocks default merge) (λ _. MadeLast w t) Done
          (close_switch blocks (unwrap_or default merge) t armed.1.0 keeps
          (default_target otherwise default merge t is_default.0 made_merge keeps))
          (λ _ u in_u closed.
          last_parts_in blocks default merge armed.0 armed.1.0 is_default.0 made_merge u
          (keeps_then w b t u keeps closed.keeps)))))

  -- `switch`, where no two cases of an enum have one name
  pub switch_ok : ((k : ℕ) (shape : Shape) → slice_get tables.world.shapes k ≡ Some shape
      → CasesDiffer shape.cases) → (only : Bool) (state : State) (at : ℕ) (subject : ExprCode)
      (judged : Judged) (arms : List CaseCode) (otherwise : Option BlockCode) (armed : Armed)
      (last : Left) → ExprOk tables number functions owner subject judged
      → RowsHold tables.answers (switch_left (cases_of tables.world judged.ty) at judged armed.heads
      (is_some otherwise) (beside armed.left last)).rows
      → CasesOk tables number functions owner (cases_of tables.world judged.ty) state arms armed
      → OtherwiseOk tables number functions owner armed.left.state otherwise last
      → StmtOk tables number functions owner only state
      (statement (switch_code tables subject arms otherwise)
      (subject.inside ++ cases_inside arms ++ inside_of otherwise))
      (switch_left (cases_of tables.world judged.ty) at judged armed.heads (is_some otherwise)
      (beside armed.left last))
  unfolding shape_of shape_at
  switch_ok differ only state at subject judged arms otherwise armed last ok hold arms_ok
      otherwise_ok =
      stmt_keeps tables number functions owner only state
      (switch_code tables subject arms otherwise)
      (subject.inside ++ cases_inside arms ++ inside_of otherwise)
      (switch_left cases at judged armed.heads (is_some otherwise) (beside armed.left last))
      (λ w of p knows targets targets_ok returns.
      safe_then w p subject.read (numbered targets)
      (λ x q. ValueAfter w p ok.ty x q × BodiesFit tables number functions subject.inside)
      (Done w p) (ok.read w of p knows)
      (λ x b in_b got.
      known_then w b 0 (named_shape (tables.answers.type_at subject.key)) (shaped targets x)
      (Done w p)
      (λ k named.
      known_then w b no_shape (slice_get tables.world.shapes k) (switched targets x k)
      (Done w p)
      (λ shape found.
      let is = is_Named ok.ty k (ap named_shape (sym ok.typed) ∙ named) in
      let enum = enum_cases tables.world ok.ty k shape fit.list is found
      (ap (cases_of tables.world) (sym ok.has) ∙ fit.has) in
      safe_weaker w b (switched targets x k shape)
      (λ _ q. Keeps w b q
      × BodiesFit tables number functions (cases_inside arms ++ inside_of otherwise))
      (Done w p)
      (switched_in w of b in_b (knows_still tables owner number w p b got.0.1 knows) x ok.ty
      got.0.0 k shape
      (ap (λ ty. enum_of tables.world.shapes is_enum (Some (Plain ty))) is
      ∙ enum_shape tables.world.shapes k shape found enum.sort_is)
      (differ k shape found) cases (fit.has ∙ ap Some (sym enum.cases_are))
      last.state.returned returns targets
      (targets_still w p b targets got.0.1.follows targets_ok) arms otherwise
      (arms_ok.each last.state.returned otherwise_ok.back)
      (subst (All (HeadFits cases)) arms_ok.heads fit.each) otherwise_ok.code_ok)
      (λ _ q in_q kept. (
        keeps_then w p b q got.0.1 kept.0,
        subst (BodiesFit tables number functions)
            (sym (append_assoc subject.inside (cases_inside arms) (inside_of otherwise)))
            (All-append (BodyFits tables number functions) subject.inside
            (cases_inside arms ++ inside_of otherwise) got.1 kept.1),
      ))))))
      (λ result returns. arms_ok.back result (otherwise_ok.back result returns)) where
        cases : Option (List CaseShape)
        cases = cases_of tables.world judged.ty

        fit : SwitchFits cases armed.heads
        fit = switch_well tables.answers cases at judged armed.heads (is_some otherwise)
            (beside armed.left last)
            ok.ty
            ok.has hold

        Done : Whole → Position → Unit {0} → Position → Type 0
        Done w p _ q = Kept tables number functions owner
            (subject.inside ++ cases_inside arms ++ inside_of otherwise) w p q

        switched : Targets → Operand → ℕ → Shape → Code (Unit {0})
        switched targets given k shape = each (arm_block tables given k shape) arms
            >>= λ blocks. default_block tables otherwise
            >>= λ default. block_made
            >>= λ merge. close (Switch given
            (switch_to shape.cases blocks (unwrap_or default merge)))
            >> all (arm_code tables given targets merge) blocks
            >> default_code tables otherwise default targets merge
            >> resume merge

        shaped : Targets → Operand → ℕ → Code (Unit {0})
        shaped targets given k =
            known no_shape (slice_get tables.world.shapes k) >>= switched targets given k

        numbered : Targets → Operand → Code (Unit {0})
        numbered targets given =
            known 0 (named_shape (tables.answers.type_at subject.key)) >>= shaped targets given
