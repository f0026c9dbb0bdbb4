-- The region breaches of a graph (SE-0414, SE-0430), and the list of them.
use Rattle.std.specs.Prelude.{◌≡◌, ℕ, ◌<◌, ◌≤◌, ◌⊎◌, Option, Some, None, List, slice_get, Contains}
use Rattle.std.specs.List.{AllPairs}
use Rattle.sw_breach.specs.declared.Breach.{Breach}
use Rattle.sw_graph.specs.declared.function.Function.{Function}
use Rattle.sw_graph.specs.declared.graph.Graph.{Graph}
use Rattle.sw_partition.specs.Regions.{Regions}
use Rattle.sw_region_flow.specs.Least.{point_ops_at, IsLeast, FailsAt}
use Rattle.sw_region_ops.specs.Setting.{FunctionSetting, setting_of}

-- a test fails in the least annotation of a function's points
pub record IsBreachIn (setting : FunctionSetting) (breach : Breach) : Type 0 where
  pub states : List (Option Regions)
  pub least : IsLeast setting states
  pub point : ℕ
  pub fails : FailsAt (point_ops_at setting) states point breach

-- a breach of one of the graph's functions
pub record IsBreachOf (graph : Graph) (breach : Breach) : Type 0 where
  pub number : ℕ
  pub body : Function
  pub is_body : slice_get graph.functions number ≡ Some body
  pub breaks : IsBreachIn (setting_of graph body) breach

-- by position, then by code
abbrev pub IsBefore : Breach → Breach → Type 0
IsBefore one other = (one.at < other.at) ⊎ ((one.at ≡ other.at) × (one.code < other.code))

-- no note is less than any
abbrev pub IsNoteAtMost : Option ℕ → Option ℕ → Type 0
IsNoteAtMost None other = Unit {0}
IsNoteAtMost (Some site) None = ⊥
IsNoteAtMost (Some site) (Some other) = site ≤ other

-- the two have one position and one code, and the first has the lesser note
pub record StandsFor (kept breach : Breach) : Type 0 where
  pub at : kept.at ≡ breach.at
  pub code : kept.code ≡ breach.code
  pub note : IsNoteAtMost kept.note breach.note

-- All breaches of a kind, by position, then by code. Those of one position and one code are one,
-- with the least note.
pub record AreAll (Is : Breach → Type 0) (list : List Breach) : Type 0 where
  pub sound : (breach : Breach) → Contains list breach → Is breach
  pub complete : (breach : Breach) → Is breach
      → (kept : Breach) × Contains list kept × StandsFor kept breach
  pub rising : AllPairs IsBefore list

-- all region breaches of a graph
abbrev pub AreBreaches : Graph → List Breach → Type 0
AreBreaches graph = AreAll (IsBreachOf graph)
