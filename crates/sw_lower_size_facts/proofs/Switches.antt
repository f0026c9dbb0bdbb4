-- The code of a `switch` is short: it makes a block for each arm, one for `default` and one after it.
use Rattle.std.proofs.Common.{◌≡◌, ℕ, ◌+◌, ◌*◌, ◌≤◌, List, [], ◌∷◌, map, Option, Some, None, length}
use Rattle.std.proofs.Common.{arith, refl, sym, subst}
use Rattle.std.specs.List.{AllByRecursion, sum}
use Rattle.sw_types.specs.declared.shape.Shape.{Shape}
use Rattle.sw_graph.specs.declared.instr.Operand.{Operand}
use Rattle.sw_lower_plans.specs.Plan.{Anywhere, OfCase, after}
use Rattle.sw_lower_code.specs.Code.{all, andthen, block_for, done, each, known}
use Rattle.sw_lower_rules.specs.Carriers.{BlockCode, CaseCode, ExprCode}
use Rattle.sw_lower_rules.specs.Statements.{Arm, arm_block, arm_code, default_block, default_code}
use Rattle.sw_lower_rules.specs.Statements.{switch_code, switch_targets}
use Rattle.sw_lower_rules.specs.Tables.{Tables}
use Rattle.sw_lower_rules.specs.declared.targets.Targets.{Targets}
use Rattle.sw_lower_code_facts.proofs.Declaring.{has_patterns}
use Rattle.sw_lower_code_facts.proofs.Uses.{has_shape_at, has_shape_of}
use Rattle.sw_lower_size_facts.specs.Short.{IsShort, MakesAtMost}
use Rattle.sw_lower_size_facts.proofs.Lists.{sum-cons}
use Rattle.sw_lower_size_facts.proofs.Statements.{BlockShort, ForSome}
use Rattle.sw_lower_size_facts.proofs.Steps.{Gives, after_block, after_quiet, before_quiet}
use Rattle.sw_lower_size_facts.proofs.Steps.{makes_given, makes_more, makes_scope, makes_then, quiet}
use Rattle.sw_lower_size_facts.proofs.Steps.{quiet_close, quiet_done, quiet_known, quiet_resume}
use Rattle.sw_lower_size_facts.proofs.Steps.{quiet_variables}

-- an arm of a `switch`
pub record CaseShort (size : ℕ) (arm : CaseCode) : Type 0 where
  pub block : ℕ
  pub fits : 1 + block ≤ size
  pub body : BlockShort block arm.body

-- the arms that got blocks are these
abbrev AreArms : List CaseCode → List Arm → Type 0
AreArms [] [] = Unit {0}
AreArms [] (one ∷ more) = ⊥
AreArms (arm ∷ arms) [] = ⊥
AreArms (arm ∷ arms) (one ∷ more) = (one.arm ≡ arm) × AreArms arms more

module _ (tables : Tables) (subject : Operand) (number : ℕ) (shape : Shape) where
  makes_arm : (arm : CaseCode) → MakesAtMost 1 (arm_block tables subject number shape arm)
  makes_arm arm =
      after_quiet 1 _ _ (quiet_known _ _) (λ tag.
      after_block 0 1 (OfCase subject.reg number tag) _ (λ block. quiet_done _) (omega arith))

  gives_arm : (arm : CaseCode)
      → Gives (λ (one : Arm). one.arm ≡ arm) (arm_block tables subject number shape arm)
  unfolding andthen block_for done known
  gives_arm arm place = refl

  makes_arms : (arms : List CaseCode)
      → MakesAtMost (length arms) (each (arm_block tables subject number shape) arms)
  unfolding each
  makes_arms [] = quiet_done []
  makes_arms (arm ∷ arms) =
      makes_then 1 (length arms) (length (arm ∷ arms)) _ _ (makes_arm arm)
      (λ one. before_quiet (length arms) _ _ (makes_arms arms) (λ more. quiet_done _))
      (omega arith)

  gives_arms : (arms : List CaseCode)
      → Gives (AreArms arms) (each (arm_block tables subject number shape) arms)
  unfolding andthen done each
  gives_arms [] place = tt
  gives_arms (arm ∷ arms) place =
      let piece = (arm_block tables subject number shape arm).plan place in
      (gives_arm arm place, gives_arms arms (after place piece))

module _ (tables : Tables) where
  -- an arm with its block
  arm_short : (subject : Operand) (targets : Targets) (merge : ℕ) (one : Arm) (size : ℕ)
      → BlockShort size one.arm.body → IsShort size (arm_code tables subject targets merge one)
  arm_short subject targets merge one size short =
      after_quiet (3 * size) _ _ (quiet_resume one.block) (λ resumed.
      before_quiet (3 * size) _ _
      (makes_scope (3 * size) _
      (after_quiet (3 * size) _ _
      (has_patterns quiet quiet_variables tables subject 0 one.arm.patterns) (λ taken.
      short.code (switch_targets tables targets merge)))) (λ done. quiet_close _))

  -- the arms, beside their blocks
  module _ {Y : Type 0} (part : Y → CaseCode) (size : Y → ℕ) where
    abbrev Arms : List Y → Type 0
    Arms ys = AllByRecursion (λ y. CaseShort (size y) (part y)) ys

    bodies : (ys : List Y) → Arms ys → ℕ
    bodies [] short = 0
    bodies (y ∷ ys) short = short.0.block + bodies ys short.1

    bodies_fit : (ys : List Y) (short : Arms ys)
        → length (map part ys) + bodies ys short ≤ sum (map size ys)
    unfolding bodies
    bodies_fit [] short = omega arith
    bodies_fit (y ∷ ys) short =
        let first = short.0.fits in
        omega (arith, first, sum-cons (size y) (map size ys), bodies_fit ys short.1)

    arms_short : (subject : Operand) (targets : Targets) (merge : ℕ) (ys : List Y)
        (short : Arms ys) (blocks : List Arm) → AreArms (map part ys) blocks
        → IsShort (bodies ys short) (all (arm_code tables subject targets merge) blocks)
    unfolding all bodies
    arms_short subject targets merge [] short [] are = quiet_done tt
    arms_short subject targets merge [] short (one ∷ more) are = absurd are
    arms_short subject targets merge (y ∷ ys) short [] are = absurd are
    arms_short subject targets merge (y ∷ ys) short (one ∷ more) are =
        let first = short.0 in
        let rest = bodies ys short.1 in
        makes_then (3 * first.block) (3 * rest) (3 * (first.block + rest)) _ _
        (arm_short subject targets merge one first.block
        (subst (λ (arm : CaseCode). BlockShort first.block arm.body) (sym are.0) first.body))
        (λ done. arms_short subject targets merge ys short.1 more are.1) (omega arith)

  -- `default`
  default_makes : (otherwise : Option BlockCode)
      → MakesAtMost 1 (default_block tables otherwise)
  default_makes None = makes_more 0 1 (done None) (quiet_done None) (omega arith)
  default_makes (Some block) =
      after_block 0 1 Anywhere _ (λ number. quiet_done (Some number)) (omega arith)

  default_short : (otherwise : Option BlockCode) (default : Option ℕ) (targets : Targets)
      (merge size : ℕ) → ForSome size otherwise
      → IsShort size (default_code tables otherwise default targets merge)
  default_short None None targets merge size short =
      makes_more 0 (3 * size) (done tt) (quiet_done tt) (omega arith)
  default_short None (Some number) targets merge size short =
      makes_more 0 (3 * size) (done tt) (quiet_done tt) (omega arith)
  default_short (Some block) None targets merge size short =
      makes_more 0 (3 * size) (done tt) (quiet_done tt) (omega arith)
  default_short (Some block) (Some number) targets merge size short =
      after_quiet (3 * size) _ _ (quiet_resume number) (λ resumed.
      before_quiet (3 * size) _ _ (short.code (switch_targets tables targets merge)) (λ done.
      quiet_close _))

  pub switch_short : {Y : Type 0} (part : Y → CaseCode) (size : Y → ℕ) (ys : List Y)
      (subject : ExprCode) (otherwise : Option BlockCode) (first last : ℕ) (targets : Targets)
      → IsShort first subject.read → AllByRecursion (λ y. CaseShort (size y) (part y)) ys
      → ForSome last otherwise → IsShort (1 + first + sum (map size ys) + last)
      (switch_code tables subject (map part ys) otherwise targets)
  switch_short part size ys subject otherwise first last targets of_subject short rest =
      let arms = map part ys in
      let inside = bodies part size ys short in
      let left = 3 * inside + 3 * last in
      let next = length arms + (2 + left) in
      makes_then (3 * first) next (3 * (1 + first + sum (map size ys) + last)) subject.read _
      of_subject (λ given.
      after_quiet next _ _ (has_shape_of quiet tables subject.key) (λ number.
      after_quiet next _ _ (has_shape_at quiet tables number) (λ shape.
      makes_given (AreArms arms) (length arms) (2 + left) next _ _
      (makes_arms tables given number shape arms) (gives_arms tables given number shape arms)
      (λ blocks are.
      makes_then 1 (1 + left) (2 + left) _ _ (default_makes otherwise) (λ default.
      after_block left (1 + left) Anywhere _ (λ merge.
      after_quiet left _ _ (quiet_close _) (λ closed.
      makes_then (3 * inside) (3 * last) left _ _
      (arms_short part size given targets merge ys short blocks are) (λ done.
      before_quiet (3 * last) _ _ (default_short otherwise default targets merge last rest)
      (λ ended. quiet_resume merge)) (omega arith))) (omega arith)) (omega arith))
      (omega arith)))) (omega (arith, bodies_fit part size ys short))
