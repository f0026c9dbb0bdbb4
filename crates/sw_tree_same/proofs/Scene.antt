-- A frame of each machine that is about to do something, and what it means that both do the same.
use Rattle.std.proofs.Common.{◌≡◌, ℕ, suc, ◌+◌, ◌<◌, Bool, true, false, Option, Some, None, List, []}
use Rattle.std.proofs.Common.{◌∷◌, length, take, drop, reverse, refl, ap, ◌∙◌, arith}
use Rattle.std.proofs.lemmas.Bool.Decides.{nat_tests}
use Rattle.std.specs.Prelude.{slice_get, nat_le, option_and_then, if◌then◌else◌}
use Rattle.sw_graph.specs.declared.function.Function.{Function}
use Rattle.sw_graph.specs.declared.graph.Graph.{Graph}
use Rattle.sw_graph.specs.declared.instr.Operand.{Operand}
use Rattle.sw_lower_plans.specs.declared.bound.Bound.{Bound}
use Rattle.sw_value.specs.declared.effect.Effect.{Effect}
use Rattle.sw_value.specs.declared.effect.Effect.TheVariants as effect
use Rattle.sw_value.specs.declared.frame.Frame.{Frame}
use Rattle.sw_value.specs.declared.frame.TheConstants.{NO_REGISTER}
use Rattle.sw_value.specs.declared.state.State.{State}
use Rattle.sw_value.specs.declared.value.Value.{Value}
use Rattle.sw_value.specs.declared.value.Value.TheVariants as value
use Rattle.sw_value.specs.Effect.{effect_of}
use Rattle.sw_value.specs.Frame.{finish_instr, go_on, set_field}
use Rattle.sw_value.specs.Value.{operand_value, value_at}
use Rattle.sw_tree_work.specs.Bodies.{Bodies}
use Rattle.sw_tree_work.specs.Work.{Act, Work}
use Rattle.sw_tree_step.specs.Acting.{Adds, Done, Enters, Halts, Leaves, Outside, Prints, Quiet}
use Rattle.sw_tree_step.specs.Acting.{Rests, Spawns, Waits, Writes, WritesGlobal, act_done, one_of}
use Rattle.sw_tree_step.specs.Acting.{with_newest}
use Rattle.sw_tree_step.specs.State.{TreeFrame, TreeState}
use Rattle.sw_spots.specs.Spots.{ActAt, OnMany, OnOne, Program, Ring, Spot, Stands}
use Rattle.sw_tree_same.specs.Frames.{AreTemps, AreVars, IsAt, LoopsStand, Match}
use Rattle.sw_tree_same.specs.States.{CellsMatch, Ground, StatesMatch}
use Rattle.sw_tree_same.proofs.Zips.{zip_drop, zip_length, zip_reverse, zip_take}

-- A frame that begins has as many registers as its function, and a value in each that this takes.
pub record IsFull (function : Function) (frame : Frame) : Type 0 where
  pub count : length frame.regs ≡ length function.regs
  pub values : (r : ℕ) → r < function.takes → (v : Value) × (value_at frame.regs r ≡ Some v)

abbrev pub BeginsWith : Graph → Frame → Type 0
BeginsWith graph frame = (function : Function)
    → slice_get graph.functions frame.function ≡ Some function → IsFull function frame

abbrev pub BeginsFull : Graph → Effect → Type 0
BeginsFull graph (effect.Enter frame next) = BeginsWith graph frame
BeginsFull graph (effect.Spawn r frame job cell next) = BeginsWith graph frame
BeginsFull graph _ = Unit {0}

-- The states and the frames, which match, but for the temporaries and the work that is left.
pub record Scene : Type 0 where
  pub p : Program
  pub graph : Graph
  pub bodies : Bodies
  pub ground : Ground p graph bodies
  pub trees : TreeState
  pub state : State
  pub match_states : StatesMatch p graph trees state
  pub depth : ℕ
  pub tree : TreeFrame
  pub frame : Frame
  pub function : Function
  pub rings : List Ring
  pub block : ℕ
  pub index : ℕ
  pub at : IsAt graph frame function block index
  pub vars : List Bound
  pub are_vars : AreVars frame.regs tree.env vars
  pub loops : LoopsStand p function rings tree.loops
  pub executor : tree.executor ≡ frame.executor
  pub crossing : tree.crossing ≡ frame.crossing
  pub full : BeginsFull graph (effect_of graph state depth frame)

module _ (c : Scene) where
  abbrev pub now : Effect
  now = effect_of c.graph c.state c.depth c.frame

  -- the point after the instruction
  abbrev pub next : ℕ
  next = c.frame.point + 1

  -- the spot of the instruction, the one after it, and the first of a block
  abbrev pub here : List ℕ → Spot
  here temps = record { block = c.block; index = c.index; vars = c.vars; temps = temps }

  abbrev pub later : List ℕ → Spot
  later temps = record { block = c.block; index = suc c.index; vars = c.vars; temps = temps }

  -- the frames go on
  pub record Follows (wanted : Option ℕ) (tree : TreeFrame) (frame : Frame) : Type 0 where
    pub same : Match c.p c.graph wanted tree frame
    pub gives : tree.gives ≡ c.tree.gives

  -- What an act does is what an effect does.
  abbrev pub IsDone : TreeFrame → Outside → Effect → Type 0
  IsDone tree Quiet (effect.Set r v n) = Follows None tree (finish_instr r v n c.frame)
  IsDone tree Quiet (effect.SetField r i v n) = Follows None tree (set_field r i v n c.frame)
  IsDone tree Quiet (effect.Goto n) = Follows None tree (go_on n c.frame)
  IsDone tree (Prints line) (effect.Print r text n) =
      (line ≡ text) × Follows None tree (finish_instr r value.Unit n c.frame)
  IsDone tree (Adds one) (effect.New r cell number n) =
      CellsMatch c.p one cell × Follows None tree (finish_instr r (value.Cell number) n c.frame)
  IsDone tree (Writes k slot v) (effect.Write l other w n) =
      (k ≡ l) × (slot ≡ other) × (v ≡ w) × Follows None tree (go_on n c.frame)
  IsDone tree (WritesGlobal g v) (effect.WriteGlobal h w n) =
      (g ≡ h) × (v ≡ w) × Follows None tree (go_on n c.frame)
  IsDone tree (Enters callee) (effect.Enter frame n) = Match c.p c.graph None callee frame
      × (callee.gives ≡ true) × Follows (Some frame.result) tree (go_on n c.frame)
  IsDone tree (Spawns first) (effect.Spawn r frame job cell n) =
      Match c.p c.graph None first frame × (first.gives ≡ false) × (frame.result ≡ NO_REGISTER)
      × (job ≡ length c.state.jobs)
      × Follows None tree (finish_instr r (value.Cell cell) n c.frame)
  IsDone tree (Waits on) (effect.Wait other r n) =
      (on ≡ other) × Follows (Some r) tree (go_on n c.frame)
  IsDone tree Rests (effect.Rest r n) =
      Follows None tree (finish_instr r value.Unit n c.frame)
  IsDone tree (Leaves v) (effect.Leave w) = (v ≡ w) × (tree ≡ c.tree)
  IsDone tree (Halts kind at) (effect.Halt other place) =
      (kind ≡ other) × (at ≡ place) × (tree ≡ c.tree)
  IsDone tree _ _ = ⊥

  -- A frame that lacks what its work needs is stuck on the graph.
  abbrev pub Related : Option Done → Effect → Type 0
  Related None e = e ≡ effect.Stuck
  Related (Some done) e = IsDone done.frame done.outside e

  abbrev pub Relates : Option Done → Type 0
  Relates done = Related done now

  abbrev pub Have : List Value → List ℕ → Type 0
  Have temps numbers = AreTemps c.frame.regs temps numbers

  -- what is said of the spot after an act, before the rest of the work
  abbrev pub Rest : Work → Spot → Type 0
  Rest rest spot = Stands c.p rest c.function c.rings spot

  -- The act does what its instruction does.
  abbrev pub Does : Act → Type 0
  Does act = (rest : Work) (temps : List Value) (numbers : List ℕ) → Have temps numbers
      → ActAt c.p act c.function (here numbers) (Rest rest)
      → Relates (act_done act c.bodies c.trees c.depth c.tree rest temps)

  -- the newest temporary, and the others
  pub on_one : (P : ℕ → List ℕ → Type 0) (done : Value → List Value → Option Done)
      (temps : List Value) (numbers : List ℕ) → Have temps numbers → OnOne numbers P
      → ((v : Value) (s : ℕ) (more : List Value) (others : List ℕ)
      → value_at c.frame.regs s ≡ Some v → Have more others → P s others → Relates (done v more))
      → Relates (one_of temps done)
  on_one P done [] [] are act go = absurd act
  on_one P done (v ∷ temps) (s ∷ numbers) are act go = go v s temps numbers are.0 are.1 act
  on_one P done [] (s ∷ numbers) are act go = absurd are
  on_one P done (v ∷ temps) [] are act go = absurd are

  -- so many of the newest, and the others
  pub on_many : (P : List ℕ → List ℕ → Type 0) (done : List Value → List Value → Option Done)
      (count : ℕ) (temps : List Value) (numbers : List ℕ) → Have temps numbers
      → OnMany count numbers P
      → ((values : List Value) (own : List ℕ) (more : List Value) (others : List ℕ)
      → Have values own → Have more others → P own others → Relates (done values more))
      → Relates (with_newest count temps done)
  on_many P done count temps numbers are act go = by (nat_le count (length temps)) refl where
    by : (enough : Bool) → nat_le count (length temps) ≡ enough
        → Relates (option_and_then (λ values. done values (drop count temps))
        (if enough then Some (reverse (take count temps)) else None))
    by true e = go (reverse (take count temps)) (reverse (take count numbers)) (drop count temps)
        (drop count numbers)
        (zip_reverse (λ v r. value_at c.frame.regs r ≡ Some v) (take count temps)
        (take count numbers)
        (zip_take (λ v r. value_at c.frame.regs r ≡ Some v) count temps numbers are))
        (zip_drop (λ v r. value_at c.frame.regs r ≡ Some v) count temps numbers are) act.1
    by false e = absurd (let no : ⊥ = (let few = act.0 in
        let same = zip_length (λ v r. value_at c.frame.regs r ≡ Some v) temps numbers are in
        grind (arith, nat_tests, e, few, same)) in no)

  -- what an operand has
  pub has_value : (o : Operand) (r : ℕ) (v : Value) → o.reg ≡ r
      → value_at c.frame.regs r ≡ Some v → operand_value c.frame.regs o ≡ Some v
  has_value o r v is has = ap (value_at c.frame.regs) is ∙ has
