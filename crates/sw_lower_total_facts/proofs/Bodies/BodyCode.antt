-- The code of a body proceeds where its block does.
use Rattle.std.proofs.Common.{◌≡◌, ℕ, Bool, true, false, List, Option, Some, None, refl}
use Rattle.std.specs.Prelude.{if◌then◌else◌}
use Rattle.sw_types.specs.declared.ty.Ty.{Ty}
use Rattle.sw_graph.specs.declared.instr.Last.TheVariants.{Return}
use Rattle.sw_graph.specs.declared.instr.Operand.{Operand}
use Rattle.sw_typing_rules.specs.Statements.{State, in_body}
use Rattle.sw_typing_rules.specs.Verdicts.{is_unit}
use Rattle.sw_isolation_rules.specs.declared.note.Note.{Note}
use Rattle.sw_isolation_rules.specs.declared.uses.Context.{Context}
use Rattle.sw_lower_plans.specs.Plan.{Numbers}
use Rattle.sw_lower_plans.specs.Run.{Making}
use Rattle.sw_lower_code.specs.Code.{Code, close}
use Rattle.sw_lower_rules.specs.Carriers.{BlockCode, no_targets}
use Rattle.sw_lower_rules.specs.Expressions.{body_code, with_result}
use Rattle.sw_lower_rules.specs.Tables.{Tables}
use Rattle.sw_lower_total_facts.specs.Bound.{InBoxes, Ready, seen_in}
use Rattle.sw_lower_total_facts.specs.Forms.{BlockProceeds, HasTargets}
use Rattle.sw_lower_total_facts.specs.Proceeding.{Proceeds}
use Rattle.sw_lower_total_facts.proofs.Proceeding.Steps.{proceeds_close}
use Rattle.sw_lower_total_facts.proofs.Proceeding.Then.{proceeds_then}

-- No `break` and no `continue` leads out of a body.
pub none_lead : (owner : Option ℕ) (init : Bool) (s : Making)
    → HasTargets (in_body owner init) s no_targets
none_lead owner init s = record { breaks = λ is. cc; continues = λ is. cc }

pub body_code_proceeds : (tables : Tables) (number : Numbers) (context : Context) (listed : List ℕ)
    (owner : Option ℕ) (init : Bool) (state : State) (notes : List Note) (block : BlockCode)
    → BlockProceeds tables number context listed (in_body owner init) state notes block
    → (result : Ty) (s : Making)
    → Ready tables number context listed (seen_in tables context.owner state.vars) notes s
    → InBoxes tables listed s.vars → Proceeds s (body_code result block)
unfolding body_code
body_code_proceeds tables number context listed owner init state notes block ok result s ready
    boxes =
    by (is_unit result) block.only refl where
      returns : Proceeds s (with_result None block)
      returns =
          proceeds_then (block.code no_targets) (λ _. close (Return None)) s ready.going
          (ok.code_proceeds no_targets s ready boxes (none_lead owner init s))
          (λ value t ran made. proceeds_close (Return None) t)

      by : (unit : Bool) (only : Option (Code Operand)) → block.only ≡ only
          → Proceeds s (with_result (if unit then None else only) block)
      by true only is = returns
      by false None is = returns
      by false (Some read) is =
          proceeds_then read (λ given. close (Return (Some given))) s ready.going
          (ok.only read is s ready) (λ value t ran made. proceeds_close (Return (Some value)) t)
