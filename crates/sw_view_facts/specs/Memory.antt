-- A cell more, with a colour or without.
use Rattle.std.specs.Prelude.{◌≡◌, ℕ, Option, Some, [], ◌∷◌, ◌++◌}
use Rattle.sw_value.specs.declared.frame.Frame.{Frame}
use Rattle.sw_value.specs.declared.state.State.{State}
use Rattle.sw_value.specs.declared.value.Value.{Value}
use Rattle.sw_value.specs.Value.{value_at}
use Rattle.sw_owner_facts.specs.Colours.{Colour}
use Rattle.sw_owner_facts.specs.View.{Frame as Spot}
use Rattle.sw_reach_facts.specs.Named.{NamesCells}
use Rattle.sw_view_facts.specs.Views.{Colours, frame_at}

-- a cell more has this colour, or none
abbrev pub coloured_more : Option Colour → Colours → Colours
coloured_more colour colours =
    record { cells = colours.cells ++ colour ∷ []; heres = colours.heres }

-- the registers of the frames refer to cells that are there
abbrev pub RegistersName : State → Type 0
RegistersName state = (p : Spot) (h : Frame) (r : ℕ) (v : Value) → frame_at state p ≡ Some h
    → value_at h.regs r ≡ Some v → NamesCells state.cells v
