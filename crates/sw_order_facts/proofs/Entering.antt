-- On what a frame is to run that a call pushes.
use Rattle.std.proofs.Common.{◌≡◌, ℕ, Bool, true, false, cond, Option, Some, None, List, sym}
use Rattle.std.proofs.Common.{ap, ◌∙◌}
use Rattle.sw_list.proofs.ListLemmas.{some_injective}
use Rattle.sw_types.specs.declared.isolation.CallKind.{CallKind}
use Rattle.sw_types.specs.declared.isolation.CallKind.TheVariants.{Plain, Same, Weak, Strong, Make}
use Rattle.sw_types.specs.declared.isolation.Iso.{Iso}
use Rattle.sw_graph.specs.declared.graph.Graph.{Graph}
use Rattle.sw_graph.specs.declared.instr.Instr.TheVariants as instr
use Rattle.sw_graph.specs.Points.{Point, Middle}
use Rattle.sw_value.specs.declared.effect.Effect.TheVariants as effect
use Rattle.sw_value.specs.declared.executor.Executor.{Executor}
use Rattle.sw_value.specs.declared.frame.Frame.{Frame}
use Rattle.sw_value.specs.declared.state.State.{State}
use Rattle.sw_value.specs.declared.value.Value.{Value}
use Rattle.sw_value.specs.Call.{call_executor, crosses}
use Rattle.sw_value.specs.Effect.{point_effect}
use Rattle.sw_color_rules.specs.Plans.{is_to_actor}
use Rattle.sw_owner_facts.specs.Colours.{Actor}
use Rattle.sw_secure_facts.specs.Executing.{is_call}
use Rattle.sw_secure_facts.specs.Painting.{actor_on, called_on}
use Rattle.sw_secure_call_facts.proofs.Inverting.{CallsAt, IsCalled, calls_at, closure}
use Rattle.sw_secure_call_facts.proofs.Inverting.{closure_called, function, function_called}

-- a call that doesn't cross stays where its caller is
stays_there : (kind : CallKind) (own later : Executor) (iso : Iso) (regs : List (Option Value))
    → crosses kind ≡ false → call_executor kind own iso regs ≡ Some later → later ≡ own
stays_there Plain own later iso regs crosses is = sym (some_injective is)
stays_there Same own later iso regs crosses is = sym (some_injective is)
stays_there Make own later iso regs crosses is = sym (some_injective is)
stays_there Weak own later iso regs crosses is = cc
stays_there Strong own later iso regs crosses is = cc

called_stays : (graph : Graph) (f : Frame) (kind : CallKind) (number dst : ℕ) (values : List Value)
    (frame : Frame) → IsCalled graph f kind number dst values frame → frame.crossing ≡ false
    → frame.executor ≡ f.executor
called_stays graph f kind number dst values frame called stays =
    ap (λ (g : Frame). g.executor) (sym called.frame)
    ∙ stays_there kind f.executor called.executor called.callee.iso _
    (ap (λ (g : Frame). g.crossing) called.frame ∙ stays) called.runs

pub entered_stays : (graph : Graph) (state : State) (depth : ℕ) (f : Frame) (point : Point)
    (frame : Frame) (next : ℕ) → point_effect graph state depth f point ≡ effect.Enter frame next
    → frame.crossing ≡ false → frame.executor ≡ f.executor
entered_stays graph state depth f point frame next gives stays =
    by (calls_at graph state depth f point (ap is_call gives))
  where
    by : CallsAt point → frame.executor ≡ f.executor
    by (function at dst kind number args p is) =
        let found = function_called graph state depth f at dst kind number args frame next
        (ap (point_effect graph state depth f) (sym is) ∙ gives) in
        called_stays graph f kind number dst found.values frame found.called stays
    by (closure at dst o args p is) =
        let found = closure_called graph state depth f at dst o args frame next
        (ap (point_effect graph state depth f) (sym is) ∙ gives) in
        called_stays graph f Plain found.body dst _ frame found.called stays

-- the actor on which a call begins is that of the frame
if_to : (b : Bool) (o : Option Actor) (a : Actor) → (cond b o None) ≡ Some a → o ≡ Some a
if_to true o a is = is
if_to false o a is = cc

pub begins_on : (point : Point) (frame : Frame) (a : Actor) → called_on point frame ≡ Some a
    → actor_on frame.executor ≡ Some a
begins_on (Middle (instr.Call at dst kind f args)) frame a is =
    if_to (is_to_actor kind) (actor_on frame.executor) a is
begins_on _ frame a is = cc
