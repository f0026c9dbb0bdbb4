-- The code of bodies leaves no block open that is reached.
use Rattle.std.proofs.Common.{◌≡◌, ℕ, Bool, true, false, List, [], ◌∷◌, Option, Some, None, refl}
use Rattle.std.proofs.Common.{sym, subst}
use Rattle.std.specs.Prelude.{if◌then◌else◌}
use Rattle.std.proofs.lemmas.Bool.{false≢true}
use Rattle.std.specs.List.{AllByRecursion}
use Rattle.sw_types.specs.declared.shape.Part.{Part}
use Rattle.sw_types.specs.declared.shape.Shape.{Shape}
use Rattle.sw_types.specs.declared.ty.Ty.{Ty}
use Rattle.sw_graph.specs.declared.instr.Last.TheVariants.{Return}
use Rattle.sw_graph.specs.declared.instr.Operand.{Operand}
use Rattle.sw_typing_rules.specs.Statements.{Left, State as Typing, body_result}
use Rattle.sw_typing_rules.specs.Verdicts.{is_unit}
use Rattle.sw_lower_plans.specs.Plan.{Numbers}
use Rattle.sw_lower_code.specs.Code.{Code, andthen, close, each, known, ◌>>◌}
use Rattle.sw_lower_rules.specs.Bodies.{give_value, init_code, value_of}
use Rattle.sw_lower_rules.specs.Carriers.{BlockCode, Given, no_targets}
use Rattle.sw_lower_rules.specs.Uses.{no_operand}
use Rattle.sw_lower_rules.specs.Expressions.{body_code, with_result}
use Rattle.sw_lower_code_facts.proofs.Uses.{has_each, has_each_of}
use Rattle.sw_lower_return_facts.specs.Flows.{CodeFlows, Flows, IsReached, FlowsHere, FlowState}
use Rattle.sw_lower_return_facts.specs.Flows.{TargetsFlow, WaysFlow}
use Rattle.sw_lower_return_facts.specs.Forms.{BlockReturns}
use Rattle.sw_lower_return_facts.proofs.Expressions.Induction.{GivenFlows, flowing}
use Rattle.sw_lower_return_facts.proofs.Flow.Marks.{reached_later}
use Rattle.sw_lower_return_facts.proofs.Flow.Quiet.{flows_done, flows_emit, flows_known, flows_reg}
use Rattle.sw_lower_return_facts.proofs.Flow.Steps.{Closed, flow_close, last_by, return_live}
use Rattle.sw_lower_return_facts.proofs.Flow.Then.{flow_then, flow_weaker, flows_then}
use Rattle.sw_lower_return_facts.proofs.Functions.Bodies.{CodeCloses}
use Rattle.sw_lower_return_facts.proofs.Typing.Giving.{result_gives}

-- a value that is given at the end
pub value_closes : (read : Code Operand) → CodeFlows read
    → CodeCloses (andthen read (λ given. close (Return (Some given))))
value_closes read flows s live rest stands first =
    flow_then s read _ (λ _ t. FlowsHere t live rest) (λ _ t. Flows t rest)
    (flows s live rest stands)
    (λ given t extend in_t.
    flow_weaker t (close (Return (Some given))) (λ _ u. Closed t (Return (Some given)) rest u)
    (λ _ u. Flows u rest)
    (flow_close t (Return (Some given)) rest in_t.flows
    (last_by t.marks t.writes t.place.here live (Return (Some given)) in_t.here
    (λ is. return_live t.marks given)))
    (λ _ u to_u closed. closed.flows))

-- No `break` and no `continue` leads out of a body.
none_lead : (s : FlowState) (live breaks : Bool) → IsReached s.marks 0
    → TargetsFlow s.marks live breaks no_targets
none_lead s live breaks first =
    record { breaks_to = λ is broken. first; continues_to = λ is. first }

-- statements all of whose ways end
ways_close : (block : BlockCode) (breaks : Bool) → WaysFlow true breaks block.code
    → CodeCloses (block.code no_targets >> close (Return None))
ways_close block breaks ways s live rest stands first =
    flow_then s (block.code no_targets) (λ _. close (Return None)) (λ _ t. FlowsHere t false rest)
    (λ _ t. Flows t rest)
    (ways s live rest no_targets stands (none_lead s live breaks first))
    (λ _ t extend in_t.
    flow_weaker t (close (Return None)) (λ _ u. Closed t (Return None) rest u)
    (λ _ u. Flows u rest)
    (flow_close t (Return None) rest in_t.flows
    (last_by t.marks t.writes t.place.here false (Return None) in_t.here
    (λ is. absurd (false≢true is))))
    (λ _ u to_u closed. closed.flows))

-- The code of a body that gives a value.
pub body_closes : (number : Numbers) (result : Ty) (state : Typing) (block : BlockCode)
    (left : Left)
    → BlockReturns number true state block left → body_result left.state.returned ≡ Some result
    → left.ends ≡ true → is_unit result ≡ false → CodeCloses (body_code result block)
unfolding body_code
body_closes number result state block left returns is ends value =
    subst (λ unit. CodeCloses (with_result (if unit then None else block.only) block)) (sym value)
    (by block.only refl) where
      by : (only : Option (Code Operand)) → block.only ≡ only
          → CodeCloses (with_result only block)
      by None none =
          ways_close block left.breaks
          (subst (λ all. WaysFlow all left.breaks block.code) ends
          (returns.ways (result_gives left.state.returned result is value) (λ only. none)))
      by (Some read) some = value_closes read (returns.only_flows read some)

-- code, and after it code that leaves no block open
pub closes_then : {A : Type 0} (first : Code A) (next : A → Code (Unit {0})) → CodeFlows first
    → ((value : A) → CodeCloses (next value)) → CodeCloses (andthen first next)
closes_then first next flows closes s live rest stands reached =
    flow_then s first next (λ _ t. FlowsHere t live rest) (λ _ t. Flows t rest)
    (flows s live rest stands)
    (λ value t extend in_t.
    closes value t live rest in_t (reached_later s.marks t.marks 0 extend reached))

given_flows : (givens : List Given) → AllByRecursion GivenFlows givens
    → AllByRecursion (λ given. CodeFlows (give_value given)) givens
given_flows [] all = tt
given_flows (given ∷ givens) all =
    (flows_then given.read _ all.0 (λ value. flows_done _), given_flows givens all.1)

-- an initialiser
pub init_closes : (key number : ℕ) (shape : Shape) (givens : List Given)
    → AllByRecursion GivenFlows givens → CodeCloses (init_code key number shape givens)
unfolding init_code
init_closes key number shape givens all =
    closes_then (each give_value givens) _ (has_each flowing give_value givens (given_flows givens all))
    (λ values.
    closes_then (each (λ (part : Part). known no_operand (value_of values part.name)) shape.parts) _
    (has_each_of flowing (λ (part : Part). known no_operand (value_of values part.name)) shape.parts
    (λ part. flows_known no_operand (value_of values part.name)))
    (λ operands. value_closes _ (flows_then _ _ (flows_reg _) (λ r.
    flows_then _ _ (flows_emit _) (λ made. flows_done _)))))
