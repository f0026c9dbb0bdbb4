-- What the program reads of acts.
use Rattle.std.specs.Prelude.{ℕ, Bool, true, false, not, Option, Some, None, List, ◌∷◌}
use Rattle.sw_graph.specs.Points as points
use Rattle.sw_graph.specs.declared.point.Point.{Point}
use Rattle.sw_graph.specs.declared.point.Point.TheVariants.{Middle, End}
use Rattle.sw_value.specs.declared.value.Value.{Value, out-Value}
use Rattle.sw_value.specs.declared.value.Value.TheOpen as layer
use Rattle.sw_value.specs.declared.effect.Effect.{Effect}
use Rattle.sw_value.specs.declared.effect.Effect.TheVariants as effect
use Rattle.sw_color_rules.specs.declared.colors.Owner.{Owner}
use Rattle.sw_color_rules.specs.declared.colors.Owner.TheVariants.{Job, ActorOf, Global}
use Rattle.sw_color_rules.specs.declared.colors.Tint.{Tint}
use Rattle.sw_color_rules.specs.declared.colors.Tint.TheVariants.{Colored, Owns}
use Rattle.sw_color_rules.specs.declared.plan.Plan.{Plan}
use Rattle.sw_color_rules.specs.Plans.{joining}

-- a point that is lent from the graph
abbrev pub read_point : Point → points.Point
read_point (Middle instr) = points.Middle instr.now
read_point (End last) = points.End last.now

-- what a cell with a new colour has to do with it
abbrev pub tint_for : Owner → ℕ → Tint
tint_for (Job j) n = Colored n
tint_for (ActorOf c) n = Owns n
tint_for (Global g) n = Owns n

-- a cell is made with a new colour, which merges with these
abbrev pub fresh_cell : Owner → ℕ → List ℕ → Plan
fresh_cell owner n ns =
    record (joining (n ∷ ns)) { fresh = Some owner; tint = Some (tint_for owner n) }

-- the colour of the `Here` of a frame that begins: its actor's, or the next one
abbrev pub here_number : Option ℕ → ℕ → ℕ
here_number None next = next
here_number (Some a) next = a

-- the owner of that colour if it is a new one
abbrev pub here_owner : Option ℕ → Owner → Option Owner
here_owner None owner = Some owner
here_owner (Some a) owner = None

abbrev pub layer_plain : layer.Value-F Value → Bool
layer_plain (layer.Int n) = true
layer_plain (layer.Bool b) = true
layer_plain layer.Unit = true
layer_plain _ = false

-- a value that has no colours, whatever cells there are
abbrev pub is_plain : Value → Bool
is_plain v = layer_plain (out-Value v)

-- whether an effect may change colours
abbrev pub effect_colors : Effect → Bool
effect_colors (effect.Set r v next) = not (is_plain v)
effect_colors (effect.SetField r i v next) = true
effect_colors (effect.Print r line next) = false
effect_colors (effect.New r cell c next) = true
effect_colors (effect.Write c slot v next) = not (is_plain v)
effect_colors (effect.WriteGlobal g v next) = not (is_plain v)
effect_colors (effect.Goto next) = false
effect_colors (effect.Enter frame next) = true
effect_colors (effect.Spawn r frame made cell next) = true
effect_colors (effect.Wait on r next) = false
effect_colors (effect.Rest r next) = false
effect_colors (effect.Leave v) = true
effect_colors (effect.Halt kind at) = false
effect_colors effect.Stuck = false
