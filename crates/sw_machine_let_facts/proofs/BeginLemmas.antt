-- The functions that an effect begins or makes a closure of: the instruction names each, or a
-- closure has it.
use Rattle.std.proofs.Common.{◌≡◌, ℕ, ◌+◌, ◌⊎◌, inl, inr, Option, Some, None, List, [], ◌∷◌, refl}
use Rattle.std.proofs.Common.{sym, subst, arith, Bool, true, false}
use Rattle.std.specs.Prelude.{option_and_then}
use Rattle.std.specs.List.{slice_get, Contains}
use Rattle.sw_graph.specs.declared.graph.Graph.{Graph}
use Rattle.sw_graph.specs.declared.instr.Instr.{Instr}
use Rattle.sw_graph.specs.declared.instr.Instr.TheVariants as instr
use Rattle.sw_graph.specs.declared.instr.Last.{Last}
use Rattle.sw_graph.specs.declared.instr.Operand.{Operand}
use Rattle.sw_graph.specs.Points.{Point, Middle, End}
use Rattle.sw_graph.specs.Placed.{named_by}
use Rattle.sw_value.specs.declared.cell.HeapCell.{HeapCell}
use Rattle.sw_value.specs.declared.cell.HeapCell.TheVariants as cell
use Rattle.sw_value.specs.declared.effect.Effect.{Effect}
use Rattle.sw_value.specs.declared.effect.Effect.TheVariants as effect
use Rattle.sw_value.specs.declared.frame.Frame.{Frame}
use Rattle.sw_value.specs.declared.state.State.{State}
use Rattle.sw_value.specs.declared.value.Value.{Value}
use Rattle.sw_value.specs.Effect.{cell_at, instr_effect, last_effect, point_effect}
use Rattle.sw_value.specs.Frame.{first_frame}
use Rattle.sw_value.specs.Value.{reference_at}
use Rattle.sw_machine_kind_facts.proofs.FirstLemmas.{called_number}

-- the function of a closure
abbrev pub function_of : HeapCell → Option ℕ
function_of (cell.Closure f captures) = Some f
function_of _ = None

-- the function that an effect begins, or makes a closure of
abbrev pub begun : Effect → Option ℕ
begun (effect.Enter frame next) = Some frame.function
begun (effect.Spawn r frame job c next) = Some frame.function
begun (effect.New r h number next) = function_of h
begun _ = None

-- a closure of function f
pub record HasClosure (state : State) (f : ℕ) : Type 0 where
  pub number : ℕ
  pub cell : HeapCell
  pub is : slice_get state.cells number ≡ Some cell
  pub of : function_of cell ≡ Some f

-- the instruction names function f, or there is a closure of it
abbrev pub IsKnown : State → Instr → ℕ → Type 0
IsKnown state i f = Contains (named_by i) f ⊎ HasClosure state f

pub first_number : (graph : Graph) (f : ℕ) (values : List Value) (frame : Frame)
    → first_frame graph f values ≡ Some frame → frame.function ≡ f
unfolding first_frame
first_number graph f values frame e = grind arith

-- a call of a closure begins its function
closure_begun : (graph : Graph) (state : State) (depth next : ℕ) (frame : Frame) (at r g : ℕ)
    (c : Operand) (ss : List Operand)
    → begun (instr_effect graph state depth frame next (instr.CallClosure at r c ss)) ≡ Some g
    → option_and_then function_of (cell_at state frame c) ≡ Some g
closure_begun graph state depth next frame at r g c ss e = grind (arith, called_number)

closure_there : (state : State) (frame : Frame) (c : Operand) (g : ℕ)
    → option_and_then function_of (cell_at state frame c) ≡ Some g → HasClosure state g
closure_there state frame c g = by (reference_at frame.regs c) where
  found : (n : ℕ) (o : Option HeapCell) → slice_get state.cells n ≡ o
      → option_and_then function_of o ≡ Some g → HasClosure state g
  found n None is e = cc
  found n (Some h) is e = record { number = n; cell = h; is = is; of = e }

  by : (o : Option ℕ)
      → option_and_then function_of (option_and_then (λ n. slice_get state.cells n) o) ≡ Some g
      → HasClosure state g
  by None e = cc
  by (Some n) e = found n (slice_get state.cells n) refl e

-- any other instruction names the function that it begins or makes a closure of
abbrev calls_closure : Instr → Bool
calls_closure (instr.CallClosure at r c ss) = true
calls_closure _ = false

names_begun : (graph : Graph) (state : State) (depth next : ℕ) (frame : Frame) (g : ℕ) (i : Instr)
    → calls_closure i ≡ false → begun (instr_effect graph state depth frame next i) ≡ Some g
    → named_by i ≡ g ∷ []
names_begun graph state depth next frame g i other e = grind (arith, called_number, first_number)

named : (fs : List ℕ) (g : ℕ) → fs ≡ g ∷ [] → Contains fs g
named fs g are = subst (λ l. Contains l g) (sym are) (0, omega arith, refl)

instr_begins : (graph : Graph) (state : State) (depth next : ℕ) (frame : Frame) (g : ℕ)
    (i : Instr) → begun (instr_effect graph state depth frame next i) ≡ Some g
    → IsKnown state i g
instr_begins graph state depth next frame g (instr.CallClosure at r c ss) e =
    inr (closure_there state frame c g
    (closure_begun graph state depth next frame at r g c ss e))
instr_begins graph state depth next frame g i e =
    inl (named (named_by i) g (names_begun graph state depth next frame g i refl e))

-- the last instruction of a block begins none
last_begins : (graph : Graph) (frame : Frame) (g : ℕ) (l : Last)
    → begun (last_effect graph frame l) ≡ Some g → ⊥
last_begins graph frame g l e = grind arith

-- what a job begins by what stands at its point
pub point_begins : (graph : Graph) (state : State) (depth : ℕ) (frame : Frame) (g : ℕ)
    (point : Point) → begun (point_effect graph state depth frame point) ≡ Some g
    → (i : Instr) × (point ≡ Middle i) × IsKnown state i g
point_begins graph state depth frame g (Middle i) e =
    (i, refl, instr_begins graph state depth (frame.point + 1) frame g i e)
point_begins graph state depth frame g (End l) e =
    absurd (last_begins graph frame g l e)
