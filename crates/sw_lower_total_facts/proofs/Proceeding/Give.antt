-- An instruction that gives a value.
use Rattle.std.proofs.Common.{ℕ}
use Rattle.sw_types.specs.declared.ty.Ty.{Ty}
use Rattle.sw_graph.specs.declared.function.RegKind.TheVariants.{Plain}
use Rattle.sw_graph.specs.declared.instr.Instr.{Instr}
use Rattle.sw_lower_plans.specs.Run.{IsGoing, Making}
use Rattle.sw_lower_code.specs.Code.{done, emit, reg, ◌>>◌}
use Rattle.sw_lower_rules.specs.Uses.{give, operand}
use Rattle.sw_lower_total_facts.specs.Proceeding.{Proceeds}
use Rattle.sw_lower_total_facts.proofs.Proceeding.Steps.{proceeds_done, proceeds_emit, proceeds_reg}
use Rattle.sw_lower_total_facts.proofs.Proceeding.Then.{proceeds_then}

-- An instruction that gives a value asks for nothing.
pub proceeds_give : (at : ℕ) (ty : Ty) (instr : ℕ → Instr) (s : Making) → IsGoing s
    → Proceeds s (give at ty instr)
proceeds_give at ty instr s going =
    proceeds_then (reg (Plain ty)) (λ number. emit (instr number) >> done (operand number at)) s
    going (proceeds_reg (Plain ty) s)
    (λ r t ran made.
    proceeds_then (emit (instr r)) (λ _. done (operand r at)) t made.1.there
    (proceeds_emit (instr r) t) (λ value u ended more. proceeds_done (operand r at) u))
