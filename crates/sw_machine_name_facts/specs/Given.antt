-- Which cells are named by the values that a step gives to registers, cells, globals and new frames,
-- and where the step takes these values from.
use Rattle.std.specs.Prelude.{◌≡◌, ◌⊎◌, ℕ, Option, Some, None, Contains}
use Rattle.sw_graph.specs.declared.graph.Graph.{Graph}
use Rattle.sw_value.specs.declared.effect.Act.{Act}
use Rattle.sw_value.specs.declared.effect.Act.TheVariants.{Dispatch, Wake, Execute}
use Rattle.sw_value.specs.declared.effect.Effect.{Effect}
use Rattle.sw_value.specs.declared.effect.Effect.TheVariants as effect
use Rattle.sw_value.specs.declared.race.Place.{Place}
use Rattle.sw_value.specs.declared.race.Place.TheVariants.{Prop, BoxOf, Global}
use Rattle.sw_value.specs.declared.state.State.{State}
use Rattle.sw_value.specs.declared.value.Value.{Value}
use Rattle.sw_value.specs.Transition.{made_by}
use Rattle.sw_machine_access_facts.specs.Footprint.{Reads, Writes}
use Rattle.sw_machine_access_facts.specs.Location.{IsLocation}
use Rattle.sw_machine_let_facts.specs.Lets.{RunsFirst}
use Rattle.sw_reach_facts.specs.Named.{values_in}
use Rattle.sw_reach_facts.specs.Reached.{references}
use Rattle.sw_machine_name_facts.specs.Names.{RegistersName, JobNames, PlaceNames, FixedNames}

-- a value that the effect gives names cell k
abbrev pub EffectGives : Effect → ℕ → Type 0
EffectGives (effect.Set r v next) k = Contains (references v) k
EffectGives (effect.SetField r i v next) k = Contains (references v) k
EffectGives (effect.New r cell c next) k = (v : Value) × Contains (values_in cell) v
    × Contains (references v) k
EffectGives (effect.Write c slot v next) k = Contains (references v) k
EffectGives (effect.WriteGlobal g v next) k = Contains (references v) k
EffectGives (effect.Enter frame next) k = RegistersName frame.regs k
EffectGives (effect.Spawn r frame made cell next) k = RegistersName frame.regs k
EffectGives (effect.Leave v) k = Contains (references v) k
EffectGives _ k = ⊥

abbrev pub ActGives : Act → ℕ → Type 0
ActGives Dispatch k = ⊥
ActGives (Wake ended r v) k = Contains (references v) k
ActGives (Execute e) k = EffectGives e k

-- the cell that an act makes
abbrev pub made_cell : Act → Option ℕ
made_cell (Execute (effect.New r cell c next)) = Some c
made_cell (Execute (effect.Spawn r frame made c next)) = Some c
made_cell _ = None

-- the place lies in the cell with this number
abbrev pub LiesIn : Place → ℕ → Type 0
LiesIn (Prop c i) k = c ≡ k
LiesIn (BoxOf c) k = c ≡ k
LiesIn (Global g) k = ⊥

-- Where a name comes from that an effect of job j gives: a register of the job names it, or a `let`
-- part or a capture of a cell that such a register names; or it is read from a location, or from a
-- global that is none.
pub data Source (graph : Graph) (state : State) (j k : ℕ) : Type 0 where
  in_register : JobNames state j k → Source graph state j k
  in_cell : (c : ℕ) → JobNames state j c → FixedNames graph state c k → Source graph state j k
  in_location : (place : Place) → Reads graph state j place → PlaceNames state place k
      → Source graph state j k
  in_global : (g : ℕ) → ¬ IsLocation graph state (Global g) → PlaceNames state (Global g) k
      → Source graph state j k

-- the job that steps, or the one that it makes
abbrev pub IsStepped : ℕ → Act → ℕ → Type 0
IsStepped j act i = (i ≡ j) ⊎ (made_by act ≡ Some i)

-- how a place gets a value in a step of job j: its access writes the place, the place lies in a cell
-- that is made, or it is a global `let` that gets its first value
pub data Fills (graph : Graph) (state : State) (j : ℕ) (act : Act) (place : Place) : Type 0 where
  by_access : Writes graph state j place → Fills graph state j act place
  by_maker : (c : ℕ) → made_cell act ≡ Some c → LiesIn place c → Fills graph state j act place
  by_first : (g : ℕ) → place ≡ Global g → ¬ IsLocation graph state (Global g)
      → RunsFirst graph state j → Fills graph state j act place
