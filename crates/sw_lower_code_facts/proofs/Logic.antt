-- `&&` and `||` have what the steps have, which make blocks, end them and go on in others.
use Rattle.std.proofs.Common.{ℕ}
use Rattle.sw_types.specs.declared.ty.Ty.TheVariants as types
use Rattle.sw_graph.specs.declared.function.RegKind.TheVariants.{Plain}
use Rattle.sw_graph.specs.declared.instr.Last.TheVariants.{Jump}
use Rattle.sw_graph.specs.declared.instr.Operand.{Operand}
use Rattle.sw_lower_plans.specs.Plan.{Anywhere}
use Rattle.sw_lower_code.specs.Code.{Code}
use Rattle.sw_lower_rules.specs.Expressions.{both, copied, either, jump, right_in}
use Rattle.sw_lower_rules.specs.Uses.{operand}
use Rattle.sw_lower_code_facts.specs.Kept.{Kept}
use Rattle.sw_lower_code_facts.specs.Steps.{KeptByBlocks}

module _ (kept : Kept) (blocks : KeptByBlocks kept) where
  abbrev Has : {A : Type 0} → Code A → Type 0
  Has code = kept.Has code

  pub has_jump : (to : ℕ) → Has (jump to)
  has_jump to = blocks.close (Jump to)

  has_copied : (at : ℕ) (given : Operand) → Has (copied at given)
  has_copied at given =
      kept.after _ _ (kept.reg (Plain types.Bool)) (λ r.
      kept.after _ _ (kept.emit _ tt) (λ value. kept.done r))

  has_right : (at r : ℕ) (right : Code Operand) (block merge : ℕ) → Has right
      → blocks.Fresh block → blocks.Fresh merge → Has (right_in at r right block merge)
  has_right at r right block merge has one other =
      kept.after _ _ (blocks.resume block one) (λ resumed.
      kept.after right _ has (λ given.
      kept.after _ _ (kept.emit _ tt) (λ copied.
      kept.after _ _ (has_jump merge) (λ jumped.
      kept.after _ _ (blocks.resume merge other) (λ merged. kept.done (operand r at))))))

  pub has_both : (at : ℕ) (right : Code Operand) (left : Operand) → Has right
      → Has (both at right left)
  has_both at right left has =
      kept.after _ _ (has_copied at left) (λ r.
      blocks.after_block Anywhere _ (λ block one.
      blocks.after_block Anywhere _ (λ merge other.
      kept.after _ _ (blocks.close _) (λ closed.
      has_right at r right block merge has one other))))

  pub has_either : (at : ℕ) (right : Code Operand) (left : Operand) → Has right
      → Has (either at right left)
  has_either at right left has =
      kept.after _ _ (has_copied at left) (λ r.
      blocks.after_block Anywhere _ (λ block one.
      blocks.after_block Anywhere _ (λ merge other.
      kept.after _ _ (blocks.close _) (λ closed.
      has_right at r right block merge has one other))))
