-- A frame of the machine on the written tree beside one of the machine on a graph.
use Rattle.std.specs.Prelude.{◌≡◌, ℕ, ◌+◌, ◌<◌, Bool, true, false, List, [], ◌∷◌, ◌++◌, Option}
use Rattle.std.specs.Prelude.{Some, None, length, slice_get, take}
use Rattle.std.specs.List.{AllZip}
use Rattle.sw_graph.specs.declared.function.Function.{Function}
use Rattle.sw_graph.specs.declared.graph.Graph.{Graph}
use Rattle.sw_graph.specs.Points.{points_of}
use Rattle.sw_value.specs.declared.frame.Frame.{Frame}
use Rattle.sw_value.specs.declared.frame.TheConstants.{NO_REGISTER}
use Rattle.sw_value.specs.declared.value.Value.{Value}
use Rattle.sw_value.specs.Value.{value_at}
use Rattle.sw_lower_plans.specs.Plan.{var_in}
use Rattle.sw_lower_plans.specs.declared.bound.Bound.{Bound}
use Rattle.sw_tree_step.specs.State.{Direct, Env, Going, InBox, Room, TreeFrame, room_of, value_in}
use Rattle.sw_spots.specs.Spots.{Enters, IsFree, Program, Ring, Spot, Stands}

-- the temporaries are in these registers
abbrev pub AreTemps : List (Option Value) → List Value → List ℕ → Type 0
AreTemps regs temps numbers = AllZip (λ v r. value_at regs r ≡ Some v) temps numbers

abbrev pub is_boxed : Room → Bool
is_boxed (Direct v) = false
is_boxed (InBox c) = true

-- a variable, or its box, is in the register of its bound
abbrev pub IsRoom : List (Option Value) → Bound → Room → Type 0
IsRoom regs bound room =
    (is_boxed room ≡ bound.boxed) × (value_at regs bound.reg ≡ Some (value_in room))

-- A variable is there, and so it is of each that is seen.
pub record HasRoom (regs : List (Option Value)) (env : Env) (key : ℕ) (bound : Bound) : Type 0 where
  pub room : Room
  pub found : room_of key env ≡ Some room
  pub is : IsRoom regs bound room

abbrev pub AreVars : List (Option Value) → Env → List Bound → Type 0
AreVars regs env vars = (key : ℕ) (bound : Bound) → var_in key vars ≡ Some bound
    → HasRoom regs env key bound

-- A frame goes on in a block of its function, at an index.
pub record IsAt (graph : Graph) (frame : Frame) (function : Function) (block index : ℕ) : Type 0
  where
    pub is : slice_get graph.functions frame.function ≡ Some function
    pub within : block < length function.blocks
    pub point : frame.point ≡ length (points_of (take block function.blocks)) + index
    pub regs : length frame.regs ≡ length function.regs

-- A register that waits for a value is free, and the value is to be the newest temporary.
abbrev pub IsWanted : Function → Option ℕ → Spot → Type 0
IsWanted f None spot = Unit {0}
IsWanted f (Some r) spot = IsFree f r spot.vars spot.temps

abbrev pub asking : Option ℕ → List ℕ → List ℕ
asking None temps = temps
asking (Some r) temps = r ∷ temps

abbrev pub with_wanted : Option ℕ → Spot → Spot
with_wanted wanted spot = record spot { temps = asking wanted spot.temps }

-- where the value of a frame goes
abbrev pub wanted_by : Bool → ℕ → Option ℕ
wanted_by true r = Some r
wanted_by false r = None

module _ (p : Program) where
  -- the work of each loop that goes on stands in the loop's blocks
  abbrev pub LoopsStand : Function → List Ring → List Going → Type 0
  LoopsStand f [] [] = Unit {0}
  LoopsStand f [] (one ∷ loops) = ⊥
  LoopsStand f (ring ∷ rings) [] = ⊥
  LoopsStand f (ring ∷ rings) (one ∷ loops) =
      Enters f ring.head ring.vars [] (λ next. Stands p one.cond f (ring ∷ rings) next)
      × Enters f ring.inner ring.vars [] (λ next. Stands p one.body f (ring ∷ rings) next)
      × Enters f ring.after ring.vars [] (λ next. Stands p one.rest f rings next)
      × LoopsStand f rings loops

  -- Two frames have the same variables and temporaries, and the work that is left stands where the
  -- graph's frame goes on, once the register has its value that waits for one.
  pub record Match (graph : Graph) (wanted : Option ℕ) (tree : TreeFrame) (frame : Frame) : Type 0
    where
      pub function : Function
      pub rings : List Ring
      pub spot : Spot
      pub at : IsAt graph frame function spot.block spot.index
      pub temps : AreTemps frame.regs tree.temps spot.temps
      pub vars : AreVars frame.regs tree.env spot.vars
      pub free : IsWanted function wanted spot
      pub stands : Stands p tree.work function rings (with_wanted wanted spot)
      pub loops : LoopsStand function rings tree.loops
      pub executor : tree.executor ≡ frame.executor
      pub crossing : tree.crossing ≡ frame.crossing

  -- The top frames match. What the tree's gives goes to the frame below just if what the graph's gives
  -- has a register there, and this waits for it.
  pub record TopMatches (graph : Graph) (wanted : Option ℕ) (tree : TreeFrame) (frames : List Frame)
      (Below : Option ℕ → List Frame → Type 0) : Type 0 where
    pub below : List Frame
    pub top : Frame
    pub are : frames ≡ below ++ top ∷ []
    pub same : Match graph wanted tree top
    pub unwanted : tree.gives ≡ false → top.result ≡ NO_REGISTER
    pub rest : Below (wanted_by tree.gives top.result) below

  -- The frames of a job match, the top one first on the tree and last on the graph.
  abbrev pub FramesMatch : Graph → Option ℕ → List TreeFrame → List Frame → Type 0
  FramesMatch graph wanted [] frames = frames ≡ []
  FramesMatch graph wanted (tree ∷ trees) frames = TopMatches graph wanted tree frames
      (λ below others. FramesMatch graph below trees others)
