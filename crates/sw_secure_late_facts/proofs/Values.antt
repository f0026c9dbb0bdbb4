-- Plans of the effects that make no cell, frame or job and take no frame off.
use Rattle.std.proofs.Common.{◌≡◌, ℕ, Bool, true, false, cond, Option, Some, None, List, [], ◌∷◌}
use Rattle.std.proofs.Common.{◌++◌, refl}
use Rattle.std.proofs.Common.{◌<◌, zero, suc, map, sym, subst}
use Rattle.std.specs.Prelude.{option_and_then, slice_index_or, unwrap_or}
use Rattle.std.specs.List.{slice_get}
use Rattle.std.specs.Option.{option_map}
use Rattle.sw_list.proofs.ListLemmas.{some_injective}
use Rattle.sw_color_rules.specs.declared.colors.Palette.{Palette}
use Rattle.sw_color_rules.specs.declared.colors.Tint.{Tint}
use Rattle.sw_color_rules.specs.declared.colors.Tint.TheVariants.{Bare, Colored, Owns, Holds}
use Rattle.std.proofs.lemmas.List.Elements.{All-append, All-cons, All-head, All-nil}
use Rattle.sw_graph.specs.declared.graph.Graph.{Graph}
use Rattle.sw_graph.specs.Points.{Point}
use Rattle.sw_value.specs.declared.effect.Effect.{Effect}
use Rattle.sw_value.specs.declared.effect.Effect.TheVariants as effect
use Rattle.sw_value.specs.declared.frame.Frame.{Frame}
use Rattle.sw_value.specs.declared.state.State.{State}
use Rattle.sw_value.specs.declared.value.Value.{Value}
use Rattle.sw_value.specs.Value.{value_at}
use Rattle.sw_color_rules.specs.declared.colors.Colors.{Colors}
use Rattle.sw_color_rules.specs.Plans.{effect_plan, is_make, joining, next_color, no_plan}
use Rattle.sw_color_rules.specs.Plans.{store_color, top_here}
use Rattle.sw_color_rules.specs.Ranges.{AreBelow, AreMade, noted}
use Rattle.sw_color_rules.specs.Tints.{color_by, color_number, colors_in, slot_colors}
use Rattle.sw_color_rules.proofs.NumberLemmas.{all_there, slot_below}
use Rattle.sw_late_facts.specs.Hues.{hue}
use Rattle.sw_owner_facts.specs.Colours.{Colour}
use Rattle.sw_owner_facts.specs.View.{Frame as Spot}
use Rattle.sw_reach_facts.specs.Reached.{colours_of}
use Rattle.sw_view_facts.specs.Views.{colours_by, here_at}
use Rattle.sw_secure_facts.specs.Executing.{is_of_values}
use Rattle.sw_secure_facts.specs.Painting.{joined_by, made_by, stored_colour}
use Rattle.sw_hue_facts.specs.Hued.{SameColours, cell_hue, hued, hues_of}
use Rattle.sw_secure_late_facts.proofs.Joining.{PlanFits}
use Rattle.sw_secure_late_facts.proofs.Same.{same_hues, same_refl}
use Rattle.sw_secure_late_facts.proofs.Showing.{Shows, here_made, here_shows, slot_shows}
use Rattle.sw_secure_late_facts.proofs.Showing.{value_made}

-- ---- the number of a cell
pub number_shows : (p : Palette) (tints : List Tint) (c : ℕ)
    → slice_index_or (map (cell_hue p) tints) c None ≡ option_map (hue p) (color_number tints c)
unfolding color_number
number_shows p [] zero = refl
number_shows p [] (suc c) = refl
number_shows p (t ∷ ts) zero = refl
number_shows p (t ∷ ts) (suc c) = number_shows p ts c

pub number_made : (colors : Colors) → AreMade colors → (c n : ℕ) → color_number colors.cells c
    ≡ Some n
    → n < next_color colors
unfolding color_number
number_made colors made c n is = by (slice_get colors.cells c) refl is where
  of : (t : Tint) → AreBelow (next_color colors) (noted t) → color_by t ≡ Some n
      → n < next_color colors
  of Bare below e = cc
  of (Colored m) below e = subst (λ k. k < next_color colors) (some_injective e)
      (All-head (λ k. k < next_color colors) m [] below)
  of (Owns m) below e = cc
  of (Holds ms) below e = cc

  by : (o : Option Tint) → slice_get colors.cells c ≡ o → option_and_then color_by o ≡ Some n
      → n < next_color colors
  by None there e = cc
  by (Some t) there e = of t (all_there (λ u. AreBelow (next_color colors) (noted u)) colors.cells c
      t
      there made.cells) e

module _ (graph : Graph) (state : State) (colors : Colors) (q : Spot) (shows : Shows state colors q)
    (number : ℕ) (f : Frame) (point : Point) where
  -- a plan that makes nothing
  joins : (ns : List ℕ) (joined : List Colour) → AreBelow (next_color colors) ns
      → SameColours (hues_of colors.palette ns) joined
      → PlanFits q colors (joining ns) joined (hued colors)
  joins ns joined below same = record { heir = refl; below = below; is = refl; same = same }

  pub nothing_fits : PlanFits q colors no_plan [] (hued colors)
  nothing_fits = joins [] [] (All-nil (λ n. n < next_color colors)) (same_refl [])

  both : (ns : List ℕ) (cs : List Colour) (v : Value) → AreBelow (next_color colors) ns
      → SameColours (hues_of colors.palette ns) cs
      → PlanFits q colors (joining (ns ++ colors_in colors.cells v))
      (cs ++ colours_of state.cells (hued colors).cells v) (hued colors)
  both ns cs v below same = joins (ns ++ colors_in colors.cells v)
      (cs ++ colours_of state.cells (hued colors).cells v)
      (All-append (λ n. n < next_color colors) ns (colors_in colors.cells v) below
      (value_made state colors q shows v))
      (same_hues colors.palette ns (colors_in colors.cells v) cs
      (colours_of state.cells (hued colors).cells v) same (shows.values v))

  abbrev Fits : Effect → Type 0
  Fits e = PlanFits q colors (effect_plan graph colors q.job f point e)
      (joined_by graph state (hued colors) q number f point e)
      (made_by graph (hued colors) q.job number point e)

  stored : (c : ℕ) (v : Value) → PlanFits q colors
      (joining (store_color colors q.job (color_number colors.cells c) ++ colors_in colors.cells v))
      (stored_colour (hued colors) q c ∷ colours_of state.cells (hued colors).cells v) (hued colors)
  stored c v =
      subst (λ o. PlanFits q colors
      (joining (store_color colors q.job (color_number colors.cells c) ++ colors_in colors.cells v))
      (unwrap_or o (here_at (hued colors) q) ∷ colours_of state.cells (hued colors).cells v)
      (hued colors)) (sym (number_shows colors.palette colors.cells c))
      (by (color_number colors.cells c) refl)
    where
      by : (o : Option ℕ) → color_number colors.cells c ≡ o → PlanFits q colors
          (joining (store_color colors q.job o ++ colors_in colors.cells v))
          (unwrap_or (option_map (hue colors.palette) o) (here_at (hued colors) q)
          ∷ colours_of state.cells (hued colors).cells v) (hued colors)
      by None is = both (top_here colors q.job) (here_at (hued colors) q ∷ []) v
          (here_made colors shows.made q.job) (here_shows state colors q shows)
      by (Some n) is = both (n ∷ []) (hue colors.palette n ∷ []) v
          (All-cons (λ m. m < next_color colors) n [] (number_made colors shows.made c n is)
          (All-nil (λ m. m < next_color colors))) (same_refl (hue colors.palette n ∷ []))

  pub value_fits : (e : Effect) → is_of_values e ≡ true → Fits e
  value_fits (effect.Set r v next) is = by (is_make point) where
    by : (b : Bool) → PlanFits q colors (cond b (joining (colors_in colors.cells v)) no_plan)
        (cond b (colours_of state.cells (hued colors).cells v) []) (hued colors)
    by true = joins (colors_in colors.cells v) (colours_of state.cells (hued colors).cells v)
        (value_made state colors q shows v) (shows.values v)
    by false = nothing_fits
  value_fits (effect.SetField r i v next) is =
      both (slot_colors colors.cells (value_at f.regs r))
      (colours_by state (hued colors) (Some f) r) v
      (slot_below (next_color colors) colors.cells shows.made.cells (value_at f.regs r))
      (slot_shows state colors q shows (value_at f.regs r))
  value_fits (effect.Print r line next) is = nothing_fits
  value_fits (effect.Write c slot v next) is = stored c v
  value_fits (effect.WriteGlobal g v next) is =
      both (top_here colors q.job) (here_at (hued colors) q ∷ []) v
      (here_made colors shows.made q.job)
      (here_shows state colors q shows)
  value_fits (effect.Goto next) is = nothing_fits
  value_fits (effect.Wait on r next) is = nothing_fits
  value_fits (effect.Rest r next) is = nothing_fits
  value_fits (effect.New r cell c next) is = cc
  value_fits (effect.Enter frame next) is = cc
  value_fits (effect.Spawn r frame made cell next) is = cc
  value_fits (effect.Leave v) is = cc
  value_fits (effect.Halt kind at) is = cc
  value_fits effect.Stuck is = cc
