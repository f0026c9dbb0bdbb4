-- The code of a body is placed where its block is.
use Rattle.std.proofs.Common.{Bool, true, false, Option, Some, None}
use Rattle.std.specs.Prelude.{if◌then◌else◌}
use Rattle.sw_types.specs.declared.ty.Ty.{Ty}
use Rattle.sw_graph.specs.declared.instr.Last.{Last}
use Rattle.sw_graph.specs.declared.instr.Last.TheVariants.{Return}
use Rattle.sw_graph.specs.declared.instr.Operand.{Operand}
use Rattle.sw_typing_rules.specs.Verdicts.{is_unit}
use Rattle.sw_lower_code.specs.Code.{Code, andthen, close}
use Rattle.sw_lower_rules.specs.Carriers.{BlockCode, no_targets}
use Rattle.sw_lower_rules.specs.Expressions.{body_code, with_result}
use Rattle.sw_lower_placed_facts.specs.Claims.{AreOrdinary, BlockPlaced, OnlyPlaced}
use Rattle.sw_lower_placed_facts.specs.Placing.{PlacesWith}
use Rattle.sw_lower_placed_facts.specs.Hosts.{Program, Host}
use Rattle.sw_lower_placed_facts.proofs.Placing.Joining.{places_then, places_weaker}
use Rattle.sw_lower_placed_facts.proofs.Placing.Steps.{places_close}

module _ (program : Program) (host : Host) where
  -- code that shows something, and after it the end of the block
  pub places_ended : {A : Type 0} (first : Code A) (last : A → Last) (So : Type 0)
      → PlacesWith program host first So
      → PlacesWith program host (andthen first (λ value. close (last value))) So
  places_ended first last So places s =
      places_then s first (λ value. close (last value)) (λ value t. So) (λ value t. So) (places s)
      (λ value t later so.
      places_weaker t (close (last value)) _ (λ value u. So) (places_close t (last value))
      (λ ended u after still. so))

  pub body_code_placed : (result : Ty) (block : BlockCode) → BlockPlaced program host block
      → PlacesWith program host (body_code result block) (AreOrdinary program block.inside)
  unfolding body_code
  body_code_placed result block ok = by (is_unit result) block.only ok.only where
    So : Type 0
    So = AreOrdinary program block.inside

    returns : PlacesWith program host (with_result None block) So
    returns = places_ended (block.code no_targets) (λ _. Return None) So (ok.code_is no_targets)

    by : (unit : Bool) (only : Option (Code Operand))
        → OnlyPlaced program host only block.inside
        → PlacesWith program host (with_result (if unit then None else only) block) So
    by true only placed = returns
    by false None placed = returns
    by false (Some read) placed =
        places_ended read (λ given. Return (Some given)) So placed
