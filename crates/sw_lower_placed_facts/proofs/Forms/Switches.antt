-- `switch`.
use Rattle.std.proofs.Common.{◌≡◌, ℕ, List, [], ◌∷◌, ◌++◌, Option, Some, None, flat_map, refl, sym}
use Rattle.std.proofs.Common.{subst, unwrap_or}
use Rattle.std.proofs.lemmas.List.Elements.{All-nil}
use Rattle.sw_types.specs.declared.shape.Shape.{Shape}
use Rattle.sw_graph.specs.declared.instr.Last.TheVariants as last
use Rattle.sw_graph.specs.declared.instr.Operand.{Operand}
use Rattle.sw_isolation_rules.specs.Uses.{named_shape}
use Rattle.sw_lower_plans.specs.Plan.{OfCase}
use Rattle.sw_lower_plans.specs.Run.{Making}
use Rattle.sw_lower_code.specs.Code.{Code, all, block_for, close, done, each, resume, scope}
use Rattle.sw_lower_code.specs.Code.{◌>>=◌, ◌>>◌}
use Rattle.sw_lower_code.specs.Whole.{Body}
use Rattle.sw_lower_rules.specs.Carriers.{BlockCode, CaseCode, ExprCode}
use Rattle.sw_lower_rules.specs.Expressions.{block_made}
use Rattle.sw_lower_rules.specs.Statements.{Arm, arm_block, arm_code, case_from, default_block}
use Rattle.sw_lower_rules.specs.Statements.{default_code, inside_of, patterns_code, switch_code}
use Rattle.sw_lower_rules.specs.Statements.{switch_targets, switch_to}
use Rattle.sw_lower_rules.specs.Tables.{Tables}
use Rattle.sw_lower_rules.specs.Uses.{shape_of}
use Rattle.sw_lower_rules.specs.declared.targets.Targets.{Targets}
use Rattle.sw_lower_formed_facts.specs.Ground.{Ground}
use Rattle.sw_lower_placed_facts.specs.Claims.{AreOrdinary, BlockPlaced, CodePlaced, IsOrdinary}
use Rattle.sw_lower_placed_facts.specs.Claims.{ReadPlaced}
use Rattle.sw_lower_placed_facts.specs.Placing.{PlacesAt, PlacesWith}
use Rattle.sw_lower_placed_facts.specs.Settled.{IsSettled}
use Rattle.sw_lower_placed_facts.specs.Hosts.{IsHost, Program, Host}
use Rattle.sw_lower_placed_facts.proofs.Forms.Branches.{CasesPlaced, OtherwisePlaced}
use Rattle.sw_lower_placed_facts.proofs.Forms.Declaring.{patterns_placed}
use Rattle.sw_lower_placed_facts.proofs.Forms.Joining.{both_ordinary, goes_block, goes_close, goes_jump}
use Rattle.sw_lower_placed_facts.proofs.Forms.Joining.{goes_resume, then_with, with_after, with_done}
use Rattle.sw_lower_placed_facts.proofs.Forms.Joining.{with_end, with_then, with_weaker}
use Rattle.sw_lower_placed_facts.proofs.Forms.Values.{goes_read}
use Rattle.sw_lower_placed_facts.proofs.Placing.Joining.{EachIs, places_after, places_any}
use Rattle.sw_lower_placed_facts.proofs.Placing.Joining.{places_each_with}
use Rattle.sw_lower_placed_facts.proofs.Placing.Joining.{places_done, places_scope, places_then}
use Rattle.sw_lower_placed_facts.proofs.Placing.Steps.{places_block}
use Rattle.sw_lower_placed_facts.proofs.Placing.Asking.{places_known_then, places_shape_then}

module _ (program : Program) (host : Host)
    (settled : IsSettled program) (is_host : IsHost program host)
    (ground : Ground program.tables program.numbers program.functions) where
  abbrev tables : Tables
  tables = program.tables

  abbrev Goes : {A : Type 0} → Code A → Type 0 → Type 0
  Goes code So = PlacesWith program host code So

  abbrev Ordinary : List Body → Type 0
  Ordinary bodies = AreOrdinary program bodies

  abbrev cases_inside : List CaseCode → List Body
  cases_inside arms = flat_map (λ (arm : CaseCode). arm.body.inside) arms

  -- one arm, in its block
  arm_placed : (subject : Operand) (targets : Targets) (merge : ℕ) (one : Arm)
      → BlockPlaced program host one.arm.body
      → Goes (arm_code tables subject targets merge one) (Ordinary one.arm.body.inside)
  arm_placed subject targets merge one so =
      then_with (resume one.block) _ (goes_resume one.block) (λ resumed.
      with_after
      (scope (patterns_code tables subject 0 one.arm.patterns
      >> one.arm.body.code (switch_targets tables targets merge))) _
      (λ s. places_scope s _ (λ done t. Ordinary one.arm.body.inside)
      (then_with (patterns_code tables subject 0 one.arm.patterns) _
      (patterns_placed program host settled is_host ground subject 0 one.arm.patterns)
      (λ taken. so.code_is (switch_targets tables targets merge)) s))
      (λ done. goes_jump merge))

  -- An arm is given its block.
  abbrev OfArm : CaseCode → Arm → Making → Type 0
  OfArm arm one t = one.arm ≡ arm

  arm_block_placed : (subject : Operand) (number : ℕ) (shape : Shape) (arm : CaseCode) (s : Making)
      → PlacesAt program host s (arm_block tables subject number shape arm) (OfArm arm)
  arm_block_placed subject number shape arm s =
      places_known_then s 0 (case_from 0 shape.cases arm.name.id) _ (OfArm arm) (λ tag is.
      places_then s (block_for (OfCase subject.reg number tag)) _ (λ block t. Unit {0}) (OfArm arm)
      (places_any s (block_for (OfCase subject.reg number tag)) _
      (places_block s (OfCase subject.reg number tag)))
      (λ block t later any.
      places_done t (record { arm = arm; block = block }) (OfArm arm) refl))

  arms_placed : (subject : Operand) (targets : Targets) (merge : ℕ) (arms : List CaseCode)
      (blocks : List Arm) (t : Making) → CasesPlaced program host arms → EachIs OfArm arms blocks t
      → Goes (all (arm_code tables subject targets merge) blocks) (Ordinary (cases_inside arms))
  unfolding all
  arms_placed subject targets merge [] [] t so is =
      with_done tt (All-nil (IsOrdinary program))
  arms_placed subject targets merge [] (one ∷ blocks) t so is = absurd is
  arms_placed subject targets merge (arm ∷ arms) [] t so is = absurd is
  arms_placed subject targets merge (arm ∷ arms) (one ∷ blocks) t so is =
      with_then (arm_code tables subject targets merge one) _
      (arm_placed subject targets merge one
      (subst (λ (of : CaseCode). BlockPlaced program host of.body) (sym is.0) so.0))
      (λ first done.
      with_weaker (all (arm_code tables subject targets merge) blocks)
      (λ rest. both_ordinary program arm.body.inside (cases_inside arms)
      (subst (λ (of : CaseCode). Ordinary of.body.inside) is.0 first) rest)
      (arms_placed subject targets merge arms blocks t so.1 is.1))

  -- Where there is a `default`, it has a block.
  abbrev HasBlock : Option BlockCode → Option ℕ → Type 0
  HasBlock None default = Unit {0}
  HasBlock (Some block) None = ⊥
  HasBlock (Some block) (Some number) = Unit {0}

  default_block_placed : (otherwise : Option BlockCode) (s : Making)
      → PlacesAt program host s (default_block tables otherwise) (λ d t. HasBlock otherwise d)
  default_block_placed None s = places_done s None (λ d t. HasBlock None d) tt
  default_block_placed (Some block) s =
      places_after s block_made (λ number. done (Some number)) (λ d t. HasBlock (Some block) d)
      (goes_block s)
      (λ number u later. places_done u (Some number) (λ d t. HasBlock (Some block) d) tt)

  default_placed : (otherwise : Option BlockCode) (default : Option ℕ) (targets : Targets)
      (merge : ℕ) → OtherwisePlaced program host otherwise → HasBlock otherwise default
      → Goes (default_code tables otherwise default targets merge) (Ordinary (inside_of otherwise))
  default_placed None None targets merge so has = with_done tt (All-nil (IsOrdinary program))
  default_placed None (Some number) targets merge so has =
      with_done tt (All-nil (IsOrdinary program))
  default_placed (Some block) None targets merge so has = absurd has
  default_placed (Some block) (Some number) targets merge so has =
      then_with (resume number) _ (goes_resume number) (λ resumed.
      with_after (block.code (switch_targets tables targets merge)) _
      (so.code_is (switch_targets tables targets merge)) (λ done. goes_jump merge))

  -- what follows the subject
  after_blocks : (given : Operand) (shape : Shape) (arms : List CaseCode) (blocks : List Arm)
      (otherwise : Option BlockCode) (targets : Targets) (t : Making) (So : Type 0)
      → (Ordinary (cases_inside arms) → Ordinary (inside_of otherwise) → So)
      → CasesPlaced program host arms
      → EachIs OfArm arms blocks t → OtherwisePlaced program host otherwise → (default : Option ℕ)
      → HasBlock otherwise default
      → Goes (block_made
      >>= λ merge. close (last.Switch given
      (switch_to shape.cases blocks (unwrap_or default merge)))
      >> all (arm_code tables given targets merge) blocks
      >> default_code tables otherwise default targets merge
      >> resume merge) So
  after_blocks given shape arms blocks otherwise targets t So gives so are last default has =
      then_with block_made _ goes_block (λ merge.
      then_with (close _) _ (goes_close _) (λ closed.
      with_then (all (arm_code tables given targets merge) blocks) _
      (arms_placed given targets merge arms blocks t so are) (λ first done.
      with_end (default_code tables otherwise default targets merge) _ (λ rest. gives first rest)
      (default_placed otherwise default targets merge last has) (λ ended. goes_resume merge))))

  after_shape : (given : Operand) (number : ℕ) (shape : Shape) (arms : List CaseCode)
      (otherwise : Option BlockCode) (targets : Targets) (So : Type 0)
      → (Ordinary (cases_inside arms) → Ordinary (inside_of otherwise) → So)
      → CasesPlaced program host arms
      → OtherwisePlaced program host otherwise
      → Goes (each (arm_block tables given number shape) arms
      >>= λ blocks. default_block tables otherwise
      >>= λ default. block_made
      >>= λ merge. close (last.Switch given
      (switch_to shape.cases blocks (unwrap_or default merge)))
      >> all (arm_code tables given targets merge) blocks
      >> default_code tables otherwise default targets merge
      >> resume merge) So
  after_shape given number shape arms otherwise targets So gives so last s =
      places_then s (each (arm_block tables given number shape) arms) _ (EachIs OfArm arms)
      (λ done t. So)
      (places_each_with OfArm (λ arm one u t later is. is)
      (arm_block tables given number shape) arms
      (λ arm has. arm_block_placed given number shape arm) s)
      (λ blocks u later are.
      places_then u (default_block tables otherwise) _ (λ d t. HasBlock otherwise d)
      (λ done t. So)
      (default_block_placed otherwise u)
      (λ default t after has.
      after_blocks given shape arms blocks otherwise targets u So gives so are last default has t))

  pub switch_placed : (subject : ExprCode) (arms : List CaseCode) (otherwise : Option BlockCode)
      → ReadPlaced program host subject → CasesPlaced program host arms
      → OtherwisePlaced program host otherwise
      → CodePlaced program host (switch_code tables subject arms otherwise)
      (subject.inside ++ cases_inside arms ++ inside_of otherwise)
  unfolding shape_of
  switch_placed subject arms otherwise read so last targets =
      with_then subject.read _ (goes_read program host subject read) (λ inside given s.
      places_known_then s 0 (named_shape (tables.answers.type_at subject.key)) _ _ (λ number is.
      places_shape_then tables s number _ _ (λ shape found.
      after_shape given number shape arms otherwise targets _
      (λ first rest. both_ordinary program (subject.inside ++ cases_inside arms)
      (inside_of otherwise) (both_ordinary program subject.inside (cases_inside arms) inside first)
      rest) so last s)))
