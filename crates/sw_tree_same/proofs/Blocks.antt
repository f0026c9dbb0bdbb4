-- Work that goes on in another block: conditions, cases, loops, and the ends of bodies.
use Rattle.std.proofs.Common.{◌≡◌, ℕ, Bool, true, false, Option, Some, None, List}
use Rattle.std.proofs.Common.{[], ◌∷◌, length, refl, ap, sym, ◌∙◌, subst, arith}
use Rattle.std.proofs.lemmas.Option.{slice_get_within}
use Rattle.std.specs.Prelude.{slice_get, option_and_then, ◌≢◌, if◌then◌else◌}
use Rattle.sw_types.specs.declared.shape.CaseShape.{CaseShape}
use Rattle.sw_graph.specs.declared.instr.Last.TheVariants as last
use Rattle.sw_graph.specs.declared.instr.Operand.{Operand}
use Rattle.sw_lower_plans.specs.declared.bound.Bound.{Bound}
use Rattle.sw_value.specs.declared.effect.Effect.TheVariants as effect
use Rattle.sw_value.specs.declared.value.Value.{Value}
use Rattle.sw_value.specs.declared.value.Value.TheVariants as value
use Rattle.sw_value.specs.Effect.{goto_of, needs}
use Rattle.sw_value.specs.Value.{tag_of, truth_of, value_at}
use Rattle.sw_machine_kind_facts.proofs.ItemLemmas.{found_within}
use Rattle.sw_tree_work.specs.Work as work
use Rattle.sw_tree_work.specs.Work.{Work}
use Rattle.sw_tree_step.specs.Acting.{Leaves}
use Rattle.sw_tree_step.specs.State.{Going}
use Rattle.sw_tree_step.specs.Working.{chosen, decided, goes, in_loop, work_done}
use Rattle.sw_spots.specs.Spots.{Enters, GoesTo, InRing, IsEnd, IsSeen, OfReg, Ring, Stands}
use Rattle.sw_spots.specs.Spots.{WaysStand}
use Rattle.sw_tree_same.specs.Frames.{AreVars, LoopsStand}
use Rattle.sw_tree_same.proofs.Following.{gone}
use Rattle.sw_tree_same.proofs.Places.{goto_here, last_here}
use Rattle.sw_tree_same.proofs.Registers.{vars_seen}
use Rattle.sw_tree_same.proofs.Tests.{by_test}
use Rattle.sw_tree_same.proofs.Scene.{Have, Related, Relates, Scene, has_value, here, now, on_one}

module _ (c : Scene) where
  -- The work does what its last instruction does.
  abbrev pub Ends : Work → Type 0
  Ends w = (temps : List Value) (numbers : List ℕ) → Have c temps numbers
      → Stands c.p w c.function c.rings (here c numbers)
      → Relates c (work_done w c.bodies c.trees c.depth c.tree temps)

  -- another block goes on
  goes_to : (rest : Work) (rings : List Ring) (loops : List Going) (vars : List Bound)
      (temps : List Value) (numbers : List ℕ) (to : ℕ) → Have c temps numbers
      → AreVars c.frame.regs c.tree.env vars
      → Enters c.function to vars numbers (λ spot. Stands c.p rest c.function rings spot)
      → LoopsStand c.p c.function rings loops → now c ≡ goto_of c.graph c.frame to
      → Relates c (goes rest loops temps c.tree)
  goes_to rest rings loops vars temps numbers to are known enters around is =
      subst (Related c (goes rest loops temps c.tree))
      (sym (is ∙ goto_here c.graph c.state c.depth c.frame c.function (here c numbers) c.at to enters.0))
      (gone c rest rings loops vars temps numbers to are known enters around)

  branch_now : (all : List ℕ) (o : Operand) (holds fails r : ℕ) (v : Value) → o.reg ≡ r
      → value_at c.frame.regs r ≡ Some v
      → IsEnd c.function (here c all) (last.Branch o holds fails)
      → now c ≡ needs (truth_of v)
      (λ truth. goto_of c.graph c.frame (if truth then holds else fails))
  branch_now all o holds fails r v is has end =
      last_here c.graph c.state c.depth c.frame c.function (here c all) c.at
      (last.Branch o holds fails) end
      ∙ ap (λ x. needs (option_and_then truth_of x)
      (λ truth. goto_of c.graph c.frame (if truth then holds else fails))) (has_value c o r v is has)

  jump_now : (all : List ℕ) (to : ℕ) → IsEnd c.function (here c all) (last.Jump to)
      → now c ≡ goto_of c.graph c.frame to
  jump_now all to end =
      last_here c.graph c.state c.depth c.frame c.function (here c all) c.at (last.Jump to) end

  pub test_ends : (one other : Work) → Ends (work.Test one other)
  test_ends one other temps numbers are act = on_one c _ _ temps numbers are act
      (λ v s more others has below on.
      let end = on.2.2 in
      by more others below on.0 on.1 end.1 end.2 (truth_of v)
      (branch_now numbers on.2.0 on.0 on.1 s v on.2.1 has end.0)) where
        by : (more : List Value) (others : List ℕ) → Have c more others → (holds fails : ℕ)
            → Enters c.function holds c.vars others (λ next. Stands c.p one c.function c.rings next)
            → Enters c.function fails c.vars others (λ next. Stands c.p other c.function c.rings next)
            → (truth : Option Bool)
            → now c ≡ needs truth (λ is. goto_of c.graph c.frame (if is then holds else fails))
            → Relates c (option_and_then
            (λ is. goes (if is then one else other) c.tree.loops more c.tree) truth)
        by more others below holds fails first second None is = is
        by more others below holds fails first second (Some true) is =
            goes_to one c.rings c.tree.loops c.vars more others holds below c.are_vars first c.loops
            is
        by more others below holds fails first second (Some false) is =
            goes_to other c.rings c.tree.loops c.vars more others fails below c.are_vars second
            c.loops is

  pub jump_ends : (rest : Work) → Ends (work.Jump rest)
  jump_ends rest temps numbers are act =
      goes_to rest c.rings c.tree.loops act.1 temps numbers act.0 are
      (vars_seen c.frame.regs c.tree.env act.1 c.vars act.3 c.are_vars) act.4 c.loops
      (jump_now numbers act.0 act.2)

  -- no temporaries are left
  bare : (temps : List Value) (numbers : List ℕ) → numbers ≡ [] → Have c temps numbers
      → Have c temps []
  bare temps numbers is are = subst (Have c temps) is are

  pub loop_ends : (cond body rest : Work) → Ends (work.Loop cond body rest)
  loop_ends cond body rest temps numbers are act =
      let ring = act.1 in
      goes_to cond (ring ∷ c.rings)
      (record { cond = cond; body = body; rest = rest } ∷ c.tree.loops) ring.vars temps []
      ring.head (bare temps numbers act.0 are)
      (subst (AreVars c.frame.regs c.tree.env) (sym act.2) c.are_vars) act.4
      (act.4, act.5, act.6, c.loops) (jump_now numbers ring.head act.3)

  seen : (ring : Ring) → IsSeen ring.vars c.vars → AreVars c.frame.regs c.tree.env ring.vars
  seen ring is = vars_seen c.frame.regs c.tree.env ring.vars c.vars is c.are_vars

  pub decide_ends : Ends work.Decide
  decide_ends temps numbers are act = on_one c _ _ temps numbers are act
      (λ v s more others has below on. by numbers v s more others has below c.rings c.tree.loops
      c.loops on) where
        on : (ring : Ring) (rings : List Ring) (one : Going) (loops : List Going)
            (more : List Value) → LoopsStand c.p c.function (ring ∷ rings) (one ∷ loops)
            → Have c more [] → IsSeen ring.vars c.vars → (truth : Option Bool)
            → now c ≡ needs truth
            (λ is. goto_of c.graph c.frame (if is then ring.inner else ring.after))
            → Relates c (option_and_then (decided one loops more c.tree) truth)
        on ring rings one loops more around none is_seen None is = is
        on ring rings one loops more around none is_seen (Some true) is =
            goes_to one.body (ring ∷ rings) (one ∷ loops) ring.vars more [] ring.inner none
            (seen ring is_seen) around.1 around is
        on ring rings one loops more around none is_seen (Some false) is =
            goes_to one.rest rings loops ring.vars more [] ring.after none (seen ring is_seen)
            around.2 around.3 is

        by : (all : List ℕ) (v : Value) (s : ℕ) (more : List Value) (others : List ℕ)
            → value_at c.frame.regs s ≡ Some v → Have c more others → (rings : List Ring)
            (loops : List Going) → LoopsStand c.p c.function rings loops
            → InRing rings (λ ring rings. (others ≡ []) × OfReg s (λ o.
            IsEnd c.function (here c all) (last.Branch o ring.inner ring.after)
            × IsSeen ring.vars c.vars))
            → Relates c (in_loop loops
            (λ one loops. option_and_then (decided one loops more c.tree) (truth_of v)))
        by all v s more others has below (ring ∷ rings) (one ∷ loops) around act =
            on ring rings one loops more around (bare more others act.0 below) act.1.2.1 (truth_of v)
            (branch_now all act.1.0 ring.inner ring.after s v act.1.1 has act.1.2.0)
        by all v s more others has below [] [] around act = absurd act
        by all v s more others has below [] (one ∷ loops) around act = absurd around
        by all v s more others has below (ring ∷ rings) [] around act = absurd around

  pub again_ends : Ends work.Again
  again_ends temps numbers are act = by c.rings c.tree.loops c.loops act where
    by : (rings : List Ring) (loops : List Going) → LoopsStand c.p c.function rings loops
        → Stands c.p work.Again c.function rings (here c numbers)
        → Relates c (in_loop loops (λ one loops. goes one.cond (one ∷ loops) temps c.tree))
    by (ring ∷ rings) (one ∷ loops) around act =
        goes_to one.cond (ring ∷ rings) (one ∷ loops) ring.vars temps [] ring.head
        (bare temps numbers act.0 are) (seen ring act.2) around.0 around
        (jump_now numbers ring.head act.1)
    by [] [] around act = absurd act
    by [] (one ∷ loops) around act = absurd around
    by (ring ∷ rings) [] around act = absurd around

  pub leave_ends : Ends work.Leave
  leave_ends temps numbers are act = by c.rings c.tree.loops c.loops act where
    by : (rings : List Ring) (loops : List Going) → LoopsStand c.p c.function rings loops
        → Stands c.p work.Leave c.function rings (here c numbers)
        → Relates c (in_loop loops (λ one loops. goes one.rest loops temps c.tree))
    by (ring ∷ rings) (one ∷ loops) around act =
        goes_to one.rest rings loops ring.vars temps [] ring.after (bare temps numbers act.0 are)
        (seen ring act.2) around.2 around.3 (jump_now numbers ring.after act.1)
    by [] [] around act = absurd act
    by [] (one ∷ loops) around act = absurd around
    by (ring ∷ rings) [] around act = absurd around

  pub return_ends : Ends work.Return
  return_ends temps numbers are act = on_one c _ _ temps numbers are act
      (λ v s more others has below on.
      subst (Related c (Some (record { frame = c.tree; outside = Leaves v })))
      (sym (last_here c.graph c.state c.depth c.frame c.function (here c numbers) c.at
      (last.Return (Some on.0)) on.2
      ∙ ap (λ x. needs x effect.Leave) (has_value c on.0 s v on.1 has))) (refl, refl))

  pub finish_ends : Ends work.Finish
  finish_ends temps numbers are act =
      subst (Related c (Some (record { frame = c.tree; outside = Leaves value.Unit })))
      (sym (last_here c.graph c.state c.depth c.frame c.function (here c numbers) c.at
      (last.Return None) act)) (refl, refl)

  -- the way for a name, where the `switch` goes for it
  way_stands : (ways : Work) (Goes : ℕ → ℕ → Type 0) (numbers : List ℕ) (name block : ℕ)
      → WaysStand c.p ways c.function c.rings Goes (here c numbers) → Goes name block
      → Enters c.function block c.vars numbers
      (λ next. Stands c.p (chosen name ways) c.function c.rings next)
  way_stands (work.Case one way others) Goes numbers name block stand there = by_test
      (λ same. Enters c.function block c.vars numbers
      (λ next. Stands c.p (if same then way else chosen name others) c.function c.rings next)) one
      name (λ same. stand.0 block (subst (λ n. Goes n block) (sym same) there))
      (λ apart. way_stands others (λ other to. Goes other to × (other ≢ one)) numbers name block
      stand.1 (there, λ same. apart (sym same)))
  way_stands (work.Otherwise way) Goes numbers name block stand there = stand name block there
  way_stands _ Goes numbers name block stand there = absurd stand

  -- what a `switch` does for the case with a number
  case_goes : (cases : List CaseShape) (ways : Work) (to : List ℕ) (more : List Value)
      (numbers : List ℕ) → Have c more numbers → length to ≡ length cases
      → WaysStand c.p ways c.function c.rings (GoesTo cases to) (here c numbers) → (tag : ℕ)
      (one : Option CaseShape) → slice_get cases tag ≡ one
      → now c ≡ needs (slice_get to tag) (goto_of c.graph c.frame)
      → Relates c (option_and_then
      (λ (case : CaseShape). goes (chosen case.name ways) c.tree.loops more c.tree) one)
  case_goes cases ways to more numbers have count stand tag (Some one) at is =
      let less = slice_get_within cases tag one at in
      let found = found_within to tag (omega (arith, less, count)) in
      goes_to (chosen one.name ways) c.rings c.tree.loops c.vars more numbers found.0 have c.are_vars
      (way_stands ways (GoesTo cases to) numbers one.name found.0 stand
      (tag, one, at, refl, found.1)) c.loops
      (is ∙ ap (λ o. needs o (goto_of c.graph c.frame)) found.1)
  case_goes cases ways to more numbers have count stand tag None at is = is ∙ by (slice_get to tag) refl where
    by : (o : Option ℕ) → slice_get to tag ≡ o → needs o (goto_of c.graph c.frame) ≡ effect.Stuck
    by None found = refl
    by (Some block) found =
        let less = slice_get_within to tag block found in
        let there = found_within cases tag (omega (arith, less, count)) in
        absurd (let no : ⊥ = (let wrong : None ≡ Some there.0 = sym at ∙ there.1 in cc) in no)

  pub switch_ends : (cases : List CaseShape) (ways : Work) → Ends (work.Switch cases ways)
  switch_ends cases ways (v ∷ temps) (s ∷ numbers) are act =
      let to = act.0 in
      let o = act.1.0 in
      let end = act.1.2 in
      by (tag_of v)
      (last_here c.graph c.state c.depth c.frame c.function (here c (s ∷ numbers)) c.at
      (last.Switch o to) end.0
      ∙ ap (λ x. needs (option_and_then tag_of x)
      (λ tag. needs (slice_get to tag) (goto_of c.graph c.frame))) (has_value c o s v act.1.1 are.0))
    where
      by : (tag : Option ℕ)
          → now c ≡ needs tag (λ tag. needs (slice_get act.0 tag) (goto_of c.graph c.frame))
          → Relates c (option_and_then
          (λ (one : CaseShape). goes (chosen one.name ways) c.tree.loops (v ∷ temps) c.tree)
          (option_and_then (slice_get cases) tag))
      by None is = is
      by (Some tag) is =
          case_goes cases ways act.0 (v ∷ temps) (s ∷ numbers) are act.1.2.1 act.1.2.2 tag
          (slice_get cases tag) refl is
  switch_ends cases ways [] [] are act = absurd act
  switch_ends cases ways [] (s ∷ numbers) are act = absurd are
  switch_ends cases ways (v ∷ temps) [] are act = absurd are
