-- What the tests of operations ask of region states (SE-0414, SE-0430), and the graphs in which
-- each test passes.
use Rattle.std.specs.Prelude.{◌≡◌, ℕ, Option, Some, List, [], ◌∷◌, slice_get}
use Rattle.sw_graph.specs.declared.function.Function.{Function}
use Rattle.sw_graph.specs.declared.graph.Graph.{Graph}
use Rattle.sw_partition.specs.Effects.{IsFree}
use Rattle.sw_partition.specs.Regions.{Regions, HasSomePair}
use Rattle.sw_region_flow.specs.Least.{point_ops_at, IsLeast}
use Rattle.sw_region_flow.specs.Walks.{IsCopy}
use Rattle.sw_region_ops.specs.Runs.{Applies}
use Rattle.sw_region_ops.specs.Setting.{FunctionSetting, setting_of}
use Rattle.sw_region_ops.specs.declared.op.Op.{Op}
use Rattle.sw_region_ops.specs.declared.op.Op.TheVariants.{Need, Free, Fresh, Put, Join, Give}
use Rattle.sw_solve.specs.Annotation.{value_at}

-- element x was given away nowhere
abbrev pub IsNotGivenAway : Regions → ℕ → Type 0
IsNotGivenAway r x = ¬ (HasSomePair r x)

-- What is used is live. What is given away is live, and not with `Here`.
abbrev pub Passes : Op → Regions → Type 0
Passes (Need x at) r = IsNotGivenAway r x
Passes (Free x at code) r = IsFree r x
Passes (Fresh x) r = Unit {0}
Passes (Put x y) r = Unit {0}
Passes (Join x y) r = Unit {0}
Passes (Give x site) r = Unit {0}

-- Each of the operations passes in the state that those before it make.
abbrev pub AllPass : List Op → Regions → Type 0
AllPass [] r = Unit {0}
AllPass (op ∷ ops) r = Passes op r × ((made : Regions) → Applies op r made → AllPass ops made)

-- With what an annotation has there, the operations at each point of a function pass.
abbrev pub EachPasses : FunctionSetting → List (Option Regions) → Type 0
EachPasses setting states = (p : ℕ) (state copied : Regions) → value_at states p ≡ Some state
    → IsCopy state copied → AllPass (point_ops_at setting p) copied

-- The points of each function have a least annotation, and in it each test passes.
pub record IsPassed (graph : Graph) : Type 0 where
  pub annotated : (number : ℕ) (body : Function) → slice_get graph.functions number ≡ Some body
      → (states : List (Option Regions)) × IsLeast (setting_of graph body) states
  pub passes : (number : ℕ) (body : Function) → slice_get graph.functions number ≡ Some body
      → (states : List (Option Regions)) → IsLeast (setting_of graph body) states
      → EachPasses (setting_of graph body) states
