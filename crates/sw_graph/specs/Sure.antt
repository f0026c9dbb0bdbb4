-- The ways that constants leave: a branch on a register to which the instruction before it gives a
-- truth value goes to the side of that value alone.
use Rattle.std.specs.Prelude.{◌≡◌, ◌≢◌, ℕ, zero, suc, ◌+◌, Bool, true, false, Option, Some, None}
use Rattle.std.specs.Prelude.{List, [], ◌∷◌, slice_get}
use Rattle.sw_types.specs.declared.ty.Ty.TheVariants.{Unit as Void}
use Rattle.sw_graph.specs.declared.function.Function.{Function}
use Rattle.sw_graph.specs.declared.graph.Graph.{Graph}
use Rattle.sw_graph.specs.declared.instr.Instr.{Instr}
use Rattle.sw_graph.specs.declared.instr.Instr.TheVariants.{Const}
use Rattle.sw_graph.specs.declared.instr.Last.{Last}
use Rattle.sw_graph.specs.declared.instr.Last.TheVariants.{Branch, Return}
use Rattle.sw_graph.specs.declared.instr.Literal.TheVariants.{Bool as BoolOf}
use Rattle.sw_graph.specs.Mentions.{blocks_of}
use Rattle.sw_graph.specs.Points.{Point, Middle, End, point_in, block_start}
use Rattle.sw_graph.specs.Ways.{Way}

-- what stands at the point before one
abbrev pub point_before : Function → ℕ → Option Point
point_before function zero = None
point_before function (suc p) = point_in function p

-- the index of the block to which a branch goes where its register has a truth value
abbrev pub side : Bool → ℕ
side true = 0
side false = 1

-- A last instruction may go to its block of index k, where `before` stands before it.
abbrev pub MayTake : Last → Option Point → ℕ → Type 0
MayTake (Branch condition holds fails) (Some (Middle (Const at dst (BoolOf b)))) k =
    dst ≡ condition.reg → k ≡ side b
MayTake _ _ k = Unit {0}

-- one point leads to another, by no side of a branch that a constant rules out
pub data SureLeads (function : Function) : ℕ → ℕ → Type 0 where
  on : (p : ℕ) (instr : Instr) → point_in function p ≡ Some (Middle instr)
      → SureLeads function p (p + 1)
  to : (p : ℕ) (last : Last) (k block q : ℕ) → point_in function p ≡ Some (End last)
      → slice_get (blocks_of last) k ≡ Some block → block_start function block ≡ Some q
      → MayTake last (point_before function p) k → SureLeads function p q

-- a way of such steps from the first point to a point, with the points that it passes, the last of
-- them first
pub data SureWay (function : Function) : ℕ → List ℕ → Type 0 where
  begin : SureWay function 0 []
  further : (p q : ℕ) (passed : List ℕ) → SureWay function p passed → SureLeads function p q
      → SureWay function q (p ∷ passed)

-- A way leads to a return of nothing in a function of the graph that gives something.
pub record MayLackResult (graph : Graph) : Type 0 where
  pub number : ℕ
  pub function : Function
  pub is : slice_get graph.functions number ≡ Some function
  pub gives : function.result ≢ Void
  pub point : ℕ
  pub passed : List ℕ
  pub way : Way function point passed
  pub here : point_in function point ≡ Some (End (Return None))
