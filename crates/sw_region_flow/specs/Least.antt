-- The least annotation of the points of a function with region states (SE-0414), and the tests that
-- fail in it.
use Rattle.std.specs.Prelude.{◌≡◌, ℕ, ◌+◌, ◌<◌, Option, Some, List, [], ◌∷◌, length, map, take}
use Rattle.std.specs.Prelude.{slice_get}
use Rattle.std.specs.Option.{option_map_or}
use Rattle.sw_breach.specs.declared.Breach.{Breach}
use Rattle.sw_graph.specs.Mentions.{blocks_of}
use Rattle.sw_graph.specs.Points.{Point, Middle, End, points_of}
use Rattle.sw_graph.specs.declared.instr.Block.{Block}
use Rattle.sw_partition.specs.Regions.{Regions, size_of, IsWithin}
use Rattle.sw_region_flow.specs.Walks.{IsCopy, Walks, FailsAmong}
use Rattle.sw_region_ops.specs.Elements.{element_count}
use Rattle.sw_region_ops.specs.Entry.{IsEntry}
use Rattle.sw_region_ops.specs.Setting.{FunctionSetting}
use Rattle.sw_region_ops.specs.Sites.{AreSites}
use Rattle.sw_region_ops.specs.Table.{point_ops}
use Rattle.sw_region_ops.specs.declared.op.Op.{Op}
use Rattle.sw_solve.specs.Annotation.{value_at, IsClosed, IsAtMostEverywhere}

-- the operations at a point of a function; none where there is no such point
unfoldable pub point_ops_at : FunctionSetting → ℕ → List Op
point_ops_at setting p =
    option_map_or (point_ops setting) (slice_get (points_of setting.body.blocks) p) []

-- the point at which a block begins
unfoldable pub first_point : List Block → ℕ → ℕ
first_point blocks b = length (points_of (take b blocks))

-- The points that follow what stands at point p: an instruction leads to the next point, and a last
-- instruction to the points at which its blocks begin.
abbrev pub following : List Block → ℕ → Point → List ℕ
following blocks p (Middle instr) = (p + 1) ∷ []
following blocks p (End last) = map (first_point blocks) (blocks_of last)

-- the points that follow a point; none where there is no such point
unfoldable pub followers : List Block → ℕ → List ℕ
followers blocks p = option_map_or (following blocks p) (slice_get (points_of blocks) p) []

-- An annotation of a function's points is closed: point 0 has at least the state at the entry, and
-- each point that follows another has at least what the operations make of the state there.
abbrev pub IsClosedFor : FunctionSetting → List ℕ → List (Option Regions) → Type 0
IsClosedFor setting sites states =
    IsClosed IsWithin size_of (element_count setting.elements ∷ sites) (IsEntry setting sites)
    (λ p. Walks (point_ops_at setting p)) (followers setting.body.blocks) states

-- the least closed annotation of a function's points
pub record IsLeast (setting : FunctionSetting) (states : List (Option Regions)) : Type 0 where
  pub sites : List ℕ
  pub are_sites : AreSites setting sites
  pub closed : IsClosedFor setting sites states
  pub least : (other : List (Option Regions)) → IsClosedFor setting sites other
      → IsAtMostEverywhere IsWithin states other

-- With what an annotation has at p, a test fails among the operations there.
pub record FailsAt (ops : ℕ → List Op) (states : List (Option Regions)) (p : ℕ)
    (breach : Breach) : Type 0 where
  pub state : Regions
  pub stands : value_at states p ≡ Some state
  pub copied : Regions
  pub is_copy : IsCopy state copied
  pub fails : FailsAmong (ops p) copied breach

-- What the least annotation of a function's points has at the first points of its blocks.
pub record IsLeastAtBlocks (setting : FunctionSetting)
    (states : List (Option Regions)) : Type 0 where
  pub points : List (Option Regions)
  pub least : IsLeast setting points
  pub at : (b : ℕ) → b < length setting.body.blocks
      → value_at states b ≡ value_at points (first_point setting.body.blocks b)
