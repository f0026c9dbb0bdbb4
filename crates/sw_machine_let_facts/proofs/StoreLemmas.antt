-- What stands at a point whose effect writes a place: a store to that place.
use Rattle.std.proofs.Common.{◌≡◌, ℕ, Option, Some, None, refl, ap, ◌∙◌, arith}
use Rattle.std.specs.Option.{option_map}
use Rattle.sw_graph.specs.declared.graph.Graph.{Graph}
use Rattle.sw_graph.specs.declared.instr.Instr.TheVariants as instr
use Rattle.sw_graph.specs.declared.instr.Operand.{Operand}
use Rattle.sw_graph.specs.Points.{Point, Middle}
use Rattle.sw_value.specs.declared.effect.Effect.{Effect}
use Rattle.sw_value.specs.declared.effect.Effect.TheVariants as effect
use Rattle.sw_value.specs.declared.frame.Frame.{Frame}
use Rattle.sw_value.specs.declared.race.Place.{Place}
use Rattle.sw_value.specs.declared.race.Place.TheVariants.{Prop, Global, BoxOf}
use Rattle.sw_value.specs.declared.state.State.{State}
use Rattle.sw_value.specs.Effect.{point_effect}
use Rattle.sw_value.specs.Value.{reference_at}
use Rattle.sw_machine_access_facts.proofs.CellLemmas.{slot_place}

-- the place that an effect writes, if it writes one
abbrev pub written : Effect → Option Place
written (effect.Write c slot v next) = Some (slot_place c slot)
written (effect.WriteGlobal g v next) = Some (Global g)
written _ = None

-- the place that a point stores to, if it does
abbrev pub stored : Frame → Point → Option Place
stored frame (Middle (instr.StoreBox at b s)) = option_map BoxOf (reference_at frame.regs b)
stored frame (Middle (instr.StoreProp at o i s)) =
    option_map (λ c. Prop c i) (reference_at frame.regs o)
stored frame (Middle (instr.StoreGlobal at g s)) = Some (Global g)
stored frame _ = None

-- an effect that writes is that of a store
pub stores : (graph : Graph) (state : State) (depth : ℕ) (frame : Frame) (point : Point)
    (place : Place) → written (point_effect graph state depth frame point) ≡ Some place
    → stored frame point ≡ Some place
stores graph state depth frame point place e = grind arith

-- a store into part i of cell c
pub record StoresPart (frame : Frame) (point : Point) (c i : ℕ) : Type 0 where
  pub at : ℕ
  pub owner : Operand
  pub operand : Operand
  pub is : point ≡ Middle (instr.StoreProp at owner i operand)
  pub refers : reference_at frame.regs owner ≡ Some c

pub part_store : (frame : Frame) (point : Point) (c i : ℕ) → stored frame point ≡ Some (Prop c i)
    → StoresPart frame point c i
part_store frame (Middle (instr.StoreProp at o k s)) c i = by (reference_at frame.regs o) refl where
  by : (r : Option ℕ) → reference_at frame.regs o ≡ r
      → option_map (λ n. Prop n k) r ≡ Some (Prop c i)
      → StoresPart frame (Middle (instr.StoreProp at o k s)) c i
  by None refers e = cc
  by (Some n) refers e =
      let cells : n ≡ c = cc in
      let parts : k ≡ i = cc in
      record {
        at = at;
        owner = o;
        operand = s;
        is = ap (λ m. Middle (instr.StoreProp at o m s)) parts;
        refers = refers ∙ ap Some cells;
      }
part_store frame (Middle (instr.StoreBox at b s)) c i = by (reference_at frame.regs b) where
  by : (r : Option ℕ) → option_map BoxOf r ≡ Some (Prop c i)
      → StoresPart frame (Middle (instr.StoreBox at b s)) c i
  by None e = cc
  by (Some n) e = cc
part_store frame point c i = λ e. cc

-- a store into global g
pub record StoresGlobal (point : Point) (g : ℕ) : Type 0 where
  pub at : ℕ
  pub operand : Operand
  pub is : point ≡ Middle (instr.StoreGlobal at g operand)

pub global_store : (frame : Frame) (point : Point) (g : ℕ) → stored frame point ≡ Some (Global g)
    → StoresGlobal point g
global_store frame (Middle (instr.StoreGlobal at h s)) g = λ e.
    let same : h ≡ g = cc in
    record { at = at; operand = s; is = ap (λ n. Middle (instr.StoreGlobal at n s)) same }
global_store frame (Middle (instr.StoreProp at o k s)) g = by (reference_at frame.regs o) where
  by : (r : Option ℕ) → option_map (λ n. Prop n k) r ≡ Some (Global g)
      → StoresGlobal (Middle (instr.StoreProp at o k s)) g
  by None e = cc
  by (Some n) e = cc
global_store frame (Middle (instr.StoreBox at b s)) g = by (reference_at frame.regs b) where
  by : (r : Option ℕ) → option_map BoxOf r ≡ Some (Global g)
      → StoresGlobal (Middle (instr.StoreBox at b s)) g
  by None e = cc
  by (Some n) e = cc
global_store frame point g = λ e. cc
