-- Which colours the elements of frames have in a state of the coloured machine, and which of these
-- elements can still be used (SE-0414).
use Rattle.std.specs.Prelude.{◌≡◌, ◌≢◌, ℕ, suc, Bool, true, false, Option, Some, List, [], length}
use Rattle.std.specs.Prelude.{map, slice_get, Contains, IfSome, option_and_then}
use Rattle.std.specs.Option.{option_map, option_map_or, option_to_list}
use Rattle.sw_graph.specs.declared.graph.Graph.{Graph}
use Rattle.sw_value.specs.declared.frame.Frame.{Frame}
use Rattle.sw_value.specs.declared.job.Job.{Job}
use Rattle.sw_value.specs.declared.state.State.{State}
use Rattle.sw_value.specs.declared.value.Value.{Value}
use Rattle.sw_value.specs.Job.{is_running}
use Rattle.sw_value.specs.Value.{value_at}
use Rattle.sw_color_rules.specs.declared.colored.Colored.{Colored}
use Rattle.sw_color_rules.specs.declared.colors.Owner.{Owner}
use Rattle.sw_color_rules.specs.Names.{name_in}
use Rattle.sw_color_rules.specs.Palette.{owner_in}
use Rattle.sw_color_rules.specs.Tints.{colors_in}
use Rattle.sw_partition.specs.Regions.{Regions, Together}
use Rattle.sw_region_flow.specs.Passing.{IsNotGivenAway}
use Rattle.sw_region_ops.specs.Elements.{element_at}
use Rattle.sw_owner_facts.specs.View.{Element, Here, Register, Frame as Spot}
use Rattle.sw_region_facts.specs.FrameRegions.{element_in}
use Rattle.sw_view_facts.specs.Views.{annotated, awaited_by, closes_at, elements_in, frame_at}

-- ---- colours
-- the colour with a number: of numbers that merged, the one that is left
abbrev pub colour_with : Colored → ℕ → ℕ
colour_with colored n = name_in colored.colors.palette.names n

-- who owns a colour
abbrev pub owner_by : Colored → ℕ → Option Owner
owner_by colored colour = owner_in colored.colors.palette colour

-- the colours that a value has
abbrev pub colours_in : Colored → Value → List ℕ
colours_in colored v = map (colour_with colored) (colors_in colored.colors.cells v)

-- the number of the colour of a frame's `Here`
abbrev pub here_number : Colored → Spot → Option ℕ
here_number colored p = option_and_then (λ (row : List ℕ). slice_get row p.depth)
    (slice_get colored.colors.heres p.job)

-- the colour of a frame's `Here`
abbrev pub here_colour : Colored → Spot → Option ℕ
here_colour colored p = option_map (colour_with colored) (here_number colored p)

-- the colours of an element of a frame: of `Here` one, of a register those of its value
abbrev pub colours_at : Colored → Spot → Element → List ℕ
colours_at colored p Here = option_to_list (here_colour colored p)
colours_at colored p (Register r) = option_map_or (colours_in colored)
    (option_and_then (λ (f : Frame). value_at f.regs r) (frame_at colored.state p)) []

-- ---- frames and their elements
-- Whether only the return is left of a frame of an initialiser: of an actor, or of a class with a
-- global actor.
abbrev pub is_closing : Graph → Frame → Bool
is_closing graph frame = option_map_or (λ function. closes_at graph function frame.point)
    (slice_get graph.functions frame.function) false

-- A register of a frame is live if it is tracked, doesn't wait for the result of the frame above,
-- and was given away nowhere by the region state at the frame's point. A frame that called another
-- one stands at the point after the call, and the state there is what the call's operations make.
pub record IsLiveRegister (graph : Graph) (states : ℕ → List (Option Regions)) (state : State)
    (p : Spot) (r : ℕ) : Type 0 where
  pub element : ℕ
  pub tracked : element_at (elements_in graph (frame_at state p)) r ≡ Some element
  pub awaited : awaited_by state p ≢ Some r
  pub kept : IfSome (annotated states state p) (λ regions. IsNotGivenAway regions element)

-- `Here` always is
abbrev pub IsLive : Graph → (ℕ → List (Option Regions)) → State → Spot → Element → Type 0
IsLive graph states state p Here = Unit {0}
IsLive graph states state p (Register r) = IsLiveRegister graph states state p r

-- a live element of a frame that isn't closing has the colour
pub record HasLive (graph : Graph) (states : ℕ → List (Option Regions)) (colored : Colored)
    (p : Spot) (x : Element) (colour : ℕ) : Type 0 where
  pub frame : Frame
  pub there : frame_at colored.state p ≡ Some frame
  pub not_closing : is_closing graph frame ≡ false
  pub live : IsLive graph states colored.state p x
  pub has : Contains (colours_at colored p x) colour

-- two elements of a frame are in one region, by the region state at the frame's point
pub record AreInOneRegion (graph : Graph) (states : ℕ → List (Option Regions)) (state : State)
    (p : Spot) (x y : Element) : Type 0 where
  pub regions : Regions
  pub stands : annotated states state p ≡ Some regions
  pub one : ℕ
  pub is_one : element_in (elements_in graph (frame_at state p)) x ≡ Some one
  pub other : ℕ
  pub is_other : element_in (elements_in graph (frame_at state p)) y ≡ Some other
  pub together : Together regions one other

-- the frame is the top one of a running job
pub record IsRunning (state : State) (p : Spot) : Type 0 where
  pub job : Job
  pub there : slice_get state.jobs p.job ≡ Some job
  pub running : is_running job ≡ true
  pub top : length job.frames ≡ suc p.depth
