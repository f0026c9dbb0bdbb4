-- How the colours of the first frames begin.
use Rattle.std.specs.Prelude.{◌≡◌, ℕ, Option, Some, List, length, slice_get}
use Rattle.sw_graph.specs.declared.function.Function.{Function}
use Rattle.sw_graph.specs.declared.graph.Graph.{Graph}
use Rattle.sw_value.specs.declared.frame.Frame.{Frame}
use Rattle.sw_partition.specs.Regions.{Regions}
use Rattle.sw_owner_facts.specs.Colours.{Colour}
use Rattle.sw_region_facts.specs.Annotated.{Annotates}
use Rattle.sw_secure_facts.specs.Painting.{actor_on, begun_here}

-- each function is annotated
abbrev pub AreAnnotated : Graph → (ℕ → List (Option Regions)) → Type 0
AreAnnotated graph states = (n : ℕ) (body : Function) → slice_get graph.functions n ≡ Some body
    → Annotates graph body (states n)

-- The `Here` of each of these frames has the colour of the actor that it stands on, or one of job 0.
pub record HeresBegin (frames : List Frame) (row : List Colour) : Type 0 where
  pub count : length row ≡ length frames
  pub each : (i : ℕ) (frame : Frame) (colour : Colour) → slice_get frames i ≡ Some frame
      → slice_get row i ≡ Some colour
      → (n : ℕ) × (colour ≡ begun_here (actor_on frame.executor) 0 n)
