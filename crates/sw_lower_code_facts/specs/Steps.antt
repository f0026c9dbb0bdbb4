-- Properties that the steps have, too, which make blocks, end them and go on in others.
use Rattle.std.specs.Prelude.{ℕ}
use Rattle.sw_graph.specs.declared.instr.Instr.{Instr}
use Rattle.sw_graph.specs.declared.instr.Last.{Last}
use Rattle.sw_lower_plans.specs.Plan.{Entry}
use Rattle.sw_lower_plans.specs.declared.bound.Bound.{Bound}
use Rattle.sw_lower_code.specs.Code as steps
use Rattle.sw_lower_code.specs.Code.{Code, andthen}
use Rattle.sw_lower_code_facts.specs.Kept.{CallsNothing, Kept}

-- Blocks that code makes are `Fresh`, and it goes on in such blocks alone.
pub record KeptByBlocks (kept : Kept) : Type 1 where
  pub Fresh : ℕ → Type 0
  pub after_block : {B : Type 0} (entry : Entry) (next : ℕ → Code B)
      → ((number : ℕ) → Fresh number → kept.Has (next number))
      → kept.Has (andthen (steps.block_for entry) next)
  pub close : (last : Last) → kept.Has (steps.close last)
  pub resume : (number : ℕ) → Fresh number → kept.Has (steps.resume number)

-- The steps that declare variables have the property.
pub record KeptByVariables (kept : Kept) : Type 0 where
  pub bind : (bound : Bound) → kept.Has (steps.bind bound)
  pub front : (instr : Instr) → CallsNothing instr → kept.Has (steps.front instr)

-- `Gives` says what is so of the value that code gives. Code whose variables are seen in it alone has
-- the property.
pub record KeptByStatements (kept : Kept) (blocks : KeptByBlocks kept) : Type 1 where
  pub Gives : {A : Type 0} → (A → Type 0) → Code A → Type 0
  pub gives_any : {A : Type 0} (some : Code A) → Gives (λ value. Unit {0}) some
  pub gives_done : {A : Type 0} (P : A → Type 0) (value : A) → P value → Gives P (steps.done value)
  pub gives_after : {A B : Type 0} (P : A → Type 0) (Q : B → Type 0) (first : Code A)
      (next : A → Code B) → Gives P first → ((value : A) → P value → Gives Q (next value))
      → Gives Q (andthen first next)
  pub gives_block : (entry : Entry) → Gives blocks.Fresh (steps.block_for entry)
  pub after_given : {A B : Type 0} (P : A → Type 0) (first : Code A) (next : A → Code B)
      → kept.Has first → Gives P first → ((value : A) → P value → kept.Has (next value))
      → kept.Has (andthen first next)
  pub scope : {A : Type 0} (inner : Code A) → kept.Has inner → kept.Has (steps.scope inner)
