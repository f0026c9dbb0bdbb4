-- What is passed to a frame that begins has the same colours by number and by hue.
use Rattle.std.proofs.Common.{ℕ, Bool, true, false, cond, Option, Some, None, List, [], ◌∷◌, ◌++◌}
use Rattle.std.proofs.Common.{Contains, refl}
use Rattle.std.proofs.lemmas.List.{map-append}
use Rattle.sw_graph.specs.declared.graph.Graph.{Graph}
use Rattle.sw_value.specs.declared.state.State.{State}
use Rattle.sw_value.specs.declared.value.Value.{Value}
use Rattle.sw_color_rules.specs.declared.colors.Colors.{Colors}
use Rattle.sw_color_rules.specs.Plans as plans
use Rattle.sw_color_rules.specs.Tints.{colors_in}
use Rattle.sw_late_facts.specs.Hues.{hue}
use Rattle.sw_reach_facts.specs.Coloured.{CaptureEarlier}
use Rattle.sw_reach_facts.specs.Named.{NamesCells}
use Rattle.sw_reach_facts.specs.Reached.{colours_of}
use Rattle.sw_owner_facts.specs.Colours.{Colour}
use Rattle.sw_secure_facts.specs.Painting.{passed}
use Rattle.sw_hue_facts.specs.Hued.{SameColours, hued, hues_of}
use Rattle.sw_hue_facts.specs.Tinted.{TintsFit}
use Rattle.sw_hue_facts.proofs.Lists.{first_in, later_in}
use Rattle.sw_hue_facts.proofs.Same.{same_appended, same_lists, same_through}
use Rattle.sw_hue_facts.proofs.Tinted.{value_same}

module _ (graph : Graph) (state : State) (colors : Colors)
    (fit : TintsFit graph state.cells colors) (earlier : CaptureEarlier state.cells) where
  -- what stands first, unless it is sent
  first_same : (sends : Bool) (v : Value) → NamesCells state.cells v
      → SameColours (hues_of colors.palette (cond sends [] (colors_in colors.cells v)))
      (cond sends [] (colours_of state.cells (hued colors).cells v))
  first_same true v named = same_lists [] [] refl
  first_same false v named = value_same graph state.cells colors fit earlier v named

  both : (ns ms : List ℕ) (cs ds : List Colour) → SameColours (hues_of colors.palette ns) cs
      → SameColours (hues_of colors.palette ms) ds
      → SameColours (hues_of colors.palette (ns ++ ms)) (cs ++ ds)
  both ns ms cs ds first rest =
      same_through (hues_of colors.palette (ns ++ ms))
      (hues_of colors.palette ns ++ hues_of colors.palette ms) (cs ++ ds)
      (same_lists _ _ (map-append (hue colors.palette) ns ms))
      (same_appended (hues_of colors.palette ns) cs (hues_of colors.palette ms) ds first rest)

  pub passed_same : (sending : List Bool) (regs : List (Option Value))
      → ((v : Value) → Contains regs (Some v) → NamesCells state.cells v)
      → SameColours (hues_of colors.palette (plans.passed colors.cells sending regs))
      (passed state (hued colors) sending regs)
  passed_same [] [] named = same_lists [] [] refl
  passed_same (sends ∷ sending) [] named = same_lists [] [] refl
  passed_same [] (None ∷ regs) named = same_lists [] [] refl
  passed_same (sends ∷ sending) (None ∷ regs) named = same_lists [] [] refl
  passed_same [] (Some v ∷ regs) named =
      both (colors_in colors.cells v) (plans.passed colors.cells [] regs)
      (colours_of state.cells (hued colors).cells v) (passed state (hued colors) [] regs)
      (value_same graph state.cells colors fit earlier v (named v (first_in (Some v) regs)))
      (passed_same [] regs (λ w has. named w (later_in (Some v) regs (Some w) has)))
  passed_same (sends ∷ sending) (Some v ∷ regs) named =
      both (cond sends [] (colors_in colors.cells v)) (plans.passed colors.cells sending regs)
      (cond sends [] (colours_of state.cells (hued colors).cells v))
      (passed state (hued colors) sending regs)
      (first_same sends v (named v (first_in (Some v) regs)))
      (passed_same sending regs (λ w has. named w (later_in (Some v) regs (Some w) has)))
