-- What a register of a frame that stays holds.
use Rattle.std.specs.Option.{option_map_or}
use Rattle.std.proofs.Common.{◌≡◌, ℕ, Option, Some, None, [], refl}
use Rattle.sw_value.specs.declared.frame.Frame.{Frame}
use Rattle.sw_value.specs.declared.state.State.{State}
use Rattle.sw_value.specs.declared.value.Value.{Value}
use Rattle.sw_value.specs.Value.{value_at}
use Rattle.sw_owner_facts.specs.View.{Frame as Spot}
use Rattle.sw_reach_facts.specs.Reached.{colours_of}
use Rattle.sw_view_facts.specs.Changes.{KeepsReach}
use Rattle.sw_view_facts.specs.Views.{Colours, colours_by, frame_at}

pub colours_kept : (state next : State) (colours after : Colours)
    → KeepsReach state next colours after → (p : Spot) (o : Option Frame) (r : ℕ)
    → frame_at state p ≡ o → colours_by next after o r ≡ colours_by state colours o r
colours_kept state next colours after keeps p None r is = refl
colours_kept state next colours after keeps p (Some h) r is = by (value_at h.regs r) refl where
  by : (v : Option Value) → value_at h.regs r ≡ v
      → option_map_or (colours_of next.cells after.cells) v []
      ≡ option_map_or (colours_of state.cells colours.cells) v []
  by None at = refl
  by (Some v) at = keeps p h r v is at
