-- Each single step of code that makes and ends no block.
use Rattle.std.proofs.Common.{ℕ, Option, refl}
use Rattle.sw_graph.specs.declared.function.RegKind.{RegKind}
use Rattle.sw_graph.specs.declared.instr.Instr.{Instr}
use Rattle.sw_lower_plans.specs.declared.name.FunctionName.{FunctionName}
use Rattle.sw_lower_code.specs.Code.{emit, known, number, reg, var}
use Rattle.sw_lower_first_facts.specs.Flowing.{FlowsWithoutReturn}
use Rattle.sw_lower_first_facts.proofs.Flowing.Joining.{goes_still}

pub flows_reg : (kind : RegKind) → FlowsWithoutReturn (reg kind)
unfolding reg
flows_reg kind place = goes_still place _ refl refl refl

pub flows_emit : (instr : Instr) → FlowsWithoutReturn (emit instr)
unfolding emit
flows_emit instr place = goes_still place _ refl refl refl

pub flows_var : (key : ℕ) → FlowsWithoutReturn (var key)
unfolding var
flows_var key place = goes_still place _ refl refl refl

pub flows_number : (name : FunctionName) → FlowsWithoutReturn (number name)
unfolding number
flows_number name place = goes_still place _ refl refl refl

pub flows_known : {A : Type 0} (fallback : A) (value : Option A)
    → FlowsWithoutReturn (known fallback value)
unfolding known
flows_known fallback value place = goes_still place _ refl refl refl
