-- `if`, `while`, `return`, `break` and `continue`.
use Rattle.std.proofs.Common.{ℕ, List, [], ◌∷◌, ◌++◌, Option, Some, None, flat_map}
use Rattle.std.proofs.lemmas.List.Elements.{All-nil}
use Rattle.sw_graph.specs.declared.instr.Last.TheVariants as last
use Rattle.sw_graph.specs.declared.instr.Operand.{Operand}
use Rattle.sw_lower_code.specs.Code.{Code, close, known, resume, ◌>>◌}
use Rattle.sw_lower_code.specs.Whole.{Body}
use Rattle.sw_lower_rules.specs.Carriers.{BlockCode, CaseCode, IfCode}
use Rattle.sw_lower_rules.specs.Expressions.{block_made, jump}
use Rattle.sw_lower_rules.specs.Statements.{arms_code, else_code, ignored, in_new_block, inside_of}
use Rattle.sw_lower_rules.specs.Statements.{leave, return_code, while_code}
use Rattle.sw_lower_rules.specs.Tables.{Tables}
use Rattle.sw_lower_rules.specs.declared.targets.Targets.{Targets}
use Rattle.sw_lower_placed_facts.specs.Claims.{AreOrdinary, BlockPlaced, CodePlaced, IsOrdinary}
use Rattle.sw_lower_placed_facts.specs.Placing.{PlacesWith}
use Rattle.sw_lower_placed_facts.specs.Hosts.{Program, Host}
use Rattle.sw_lower_placed_facts.proofs.Forms.Joining.{both_ordinary, goes_block, goes_close, goes_jump}
use Rattle.sw_lower_placed_facts.proofs.Forms.Joining.{goes_new_block, goes_resume, then_with, with_end}
use Rattle.sw_lower_placed_facts.proofs.Forms.Joining.{with_after, with_done, with_then, with_weaker}
use Rattle.sw_lower_placed_facts.proofs.Placing.Joining.{places_any}
use Rattle.sw_lower_placed_facts.proofs.Placing.Steps.{places_known}

module _ (program : Program) (host : Host) where
  abbrev Goes : {A : Type 0} → Code A → Type 0 → Type 0
  Goes code So = PlacesWith program host code So

  abbrev Ordinary : List Body → Type 0
  Ordinary bodies = AreOrdinary program bodies

  abbrev if_inside : List IfCode → List Body
  if_inside arms = flat_map (λ (arm : IfCode). arm.inside) arms

  -- the arms of an `if`, before any `else`
  abbrev pub ArmsPlaced : List IfCode → Type 0
  ArmsPlaced arms = (otherwise : Code (Unit {0})) (targets : Targets) (rest : List Body)
      → Goes otherwise (Ordinary rest) → Goes (arms_code arms otherwise targets)
      (Ordinary (if_inside arms) × Ordinary rest)

  -- an `else` or a `default`
  abbrev pub OtherwisePlaced : Option BlockCode → Type 0
  OtherwisePlaced None = Unit {0}
  OtherwisePlaced (Some block) = BlockPlaced program host block

  -- the arms of a `switch`
  abbrev pub CasesPlaced : List CaseCode → Type 0
  CasesPlaced [] = Unit {0}
  CasesPlaced (arm ∷ arms) = BlockPlaced program host arm.body × CasesPlaced arms

  pub no_arms_placed : ArmsPlaced []
  unfolding arms_code
  no_arms_placed otherwise targets rest last =
      with_weaker otherwise (λ so. (All-nil (IsOrdinary program), so)) last

  -- the first arm and those after it
  after_cond : (given : Operand) (arms : List IfCode) (body : BlockCode)
      (otherwise : Code (Unit {0})) (targets : Targets) (Rest So : Type 0)
      → (Ordinary body.inside → Rest → So) → BlockPlaced program host body
      → Goes (arms_code arms otherwise targets) Rest → (holds fails merge : ℕ)
      → Goes (resume holds
      >> body.code targets
      >> jump merge
      >> resume fails
      >> arms_code arms otherwise targets
      >> jump merge
      >> resume merge) So
  after_cond given arms body otherwise targets Rest So gives of_body rest holds fails merge =
      then_with (resume holds) _ (goes_resume holds) (λ resumed.
      with_then (body.code targets) _ (of_body.code_is targets) (λ inside done.
      then_with (jump merge) _ (goes_jump merge) (λ jumped.
      then_with (resume fails) _ (goes_resume fails) (λ again.
      with_end (arms_code arms otherwise targets) _ (λ so. gives inside so) rest (λ ended.
      then_with (jump merge) _ (goes_jump merge) (λ merged. goes_resume merge))))))

  pub more_arms_placed : (cond : Code Operand) (body : BlockCode) (in_cond : List Body)
      (arms : List IfCode) → Goes cond (Ordinary in_cond) → BlockPlaced program host body
      → ArmsPlaced arms
      → ArmsPlaced (record { cond = cond; body = body; inside = in_cond ++ body.inside } ∷ arms)
  unfolding arms_code
  more_arms_placed cond body in_cond arms of_cond of_body more otherwise targets rest last =
      with_then cond _ of_cond (λ first given.
      then_with block_made _ goes_block (λ holds.
      then_with block_made _ goes_block (λ fails.
      then_with block_made _ goes_block (λ merge.
      then_with (close _) _ (goes_close _) (λ closed.
      after_cond given arms body otherwise targets (Ordinary (if_inside arms) × Ordinary rest)
      (Ordinary ((in_cond ++ body.inside) ++ if_inside arms) × Ordinary rest)
      (λ inside so. (
        both_ordinary program (in_cond ++ body.inside) (if_inside arms)
            (both_ordinary program in_cond body.inside first inside) so.0,
        so.1,
      ))
      of_body (more otherwise targets rest last) holds fails merge)))))

  pub else_placed : (otherwise : Option BlockCode) (targets : Targets)
      → OtherwisePlaced otherwise
      → Goes (else_code otherwise targets) (Ordinary (inside_of otherwise))
  else_placed None targets so = with_done tt (All-nil (IsOrdinary program))
  else_placed (Some block) targets so = so.code_is targets

  pub if_placed : (arms : List IfCode) (otherwise : Option BlockCode) → ArmsPlaced arms
      → OtherwisePlaced otherwise
      → CodePlaced program host
      (λ targets. arms_code arms (else_code otherwise targets) targets)
      (if_inside arms ++ inside_of otherwise)
  if_placed arms otherwise all last targets =
      with_weaker (arms_code arms (else_code otherwise targets) targets)
      (λ so. both_ordinary program (if_inside arms) (inside_of otherwise) so.0 so.1)
      (all (else_code otherwise targets) targets (inside_of otherwise)
      (else_placed otherwise targets last))

  -- loops
  pub while_placed : (cond : Code Operand) (body : BlockCode) (in_cond : List Body)
      → Goes cond (Ordinary in_cond) → BlockPlaced program host body
      → CodePlaced program host (λ targets. while_code cond body) (in_cond ++ body.inside)
  while_placed cond body in_cond of_cond of_body targets =
      then_with block_made _ goes_block (λ head.
      then_with block_made _ goes_block (λ inner.
      then_with block_made _ goes_block (λ after.
      then_with (jump head) _ (goes_jump head) (λ jumped.
      then_with (resume head) _ (goes_resume head) (λ resumed.
      with_then cond _ of_cond (λ first given.
      then_with (close _) _ (goes_close _) (λ closed.
      then_with (resume inner) _ (goes_resume inner) (λ entered.
      with_end (body.code _) _ (λ so. both_ordinary program in_cond body.inside first so)
      (of_body.code_is _) (λ done.
      then_with (jump head) _ (goes_jump head) (λ again. goes_resume after))))))))))

  -- `return`
  pub return_nothing_placed : (tables : Tables)
      → CodePlaced program host (λ targets. return_code tables None) []
  return_nothing_placed tables targets =
      with_weaker (return_code tables None) (λ any. All-nil (IsOrdinary program))
      (then_with (close (last.Return None)) (λ _. in_new_block) (goes_close (last.Return None))
      (λ closed. goes_new_block))

  pub return_placed : (tables : Tables) (read : Code Operand) (inside : List Body)
      → Goes read (Ordinary inside)
      → CodePlaced program host (λ targets. return_code tables (Some read)) inside
  return_placed tables read inside so targets =
      with_after read _ so (λ given.
      then_with (close _) _ (goes_close _) (λ closed. goes_new_block))

  -- `break` and `continue`
  pub leave_placed : (tables : Tables) (to : Targets → Option ℕ)
      → CodePlaced program host (λ targets. leave tables (to targets)) []
  leave_placed tables to targets =
      with_weaker (leave tables (to targets)) (λ any. All-nil (IsOrdinary program))
      (then_with (known 0 (to targets)) _
      (λ s. places_any s (known 0 (to targets)) _ (places_known s 0 (to targets)))
      (λ number. then_with (jump number) _ (goes_jump number) (λ jumped. goes_new_block)))

  -- an expression whose value isn't used
  pub ignored_placed : (tables : Tables) (read : Code Operand) (inside : List Body)
      → Goes read (Ordinary inside)
      → CodePlaced program host (λ targets. ignored tables read) inside
  ignored_placed tables read inside so targets = with_after read _ so (λ given. with_done tt tt)
