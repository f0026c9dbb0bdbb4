-- What numbers show by hue: those of values, of slots, and of the `Here` of the frame that runs.
use Rattle.std.proofs.Common.{◌≡◌, ℕ, suc, ◌-◌, ◌<◌, Option, Some, None, List, [], ◌∷◌, length, map}
use Rattle.std.proofs.Common.{refl, sym, ap, ◌∙◌, arith, Bool, true, false}
use Rattle.std.specs.Prelude.{option_and_then, slice_index_or}
use Rattle.std.specs.Option.{option_map, option_map_or, option_to_list}
use Rattle.std.specs.List.{slice_get}
use Rattle.std.proofs.lemmas.List.{length-map}
use Rattle.std.proofs.lemmas.List.Elements.{All-cons, All-nil, All-append}
use Rattle.std.proofs.lemmas.Option.{get_or_from_slice_get, slice_get-map, slice_get_within}
use Rattle.sw_machine_kind_facts.proofs.ItemLemmas.{found_within}
use Rattle.sw_value.specs.declared.frame.Frame.{Frame}
use Rattle.sw_value.specs.declared.job.Job.{Job}
use Rattle.sw_value.specs.declared.state.State.{State}
use Rattle.sw_value.specs.declared.value.Value.{Value}
use Rattle.sw_color_rules.specs.declared.colors.Colors.{Colors}
use Rattle.sw_color_rules.specs.Palette.{IsWhole}
use Rattle.sw_color_rules.specs.Plans as plans
use Rattle.sw_color_rules.specs.Plans.{next_color, last_of, top_here}
use Rattle.sw_color_rules.specs.Ranges.{AreBelow, AreMade}
use Rattle.sw_color_rules.specs.Tints.{colors_in, colors_of, slot_colors}
use Rattle.sw_color_rules.proofs.NumberLemmas.{all_there, value_below}
use Rattle.sw_late_facts.specs.Hues.{hue}
use Rattle.sw_owner_facts.specs.Colours.{Colour, OfJob}
use Rattle.sw_owner_facts.specs.View.{Frame as Spot}
use Rattle.sw_reach_facts.specs.Reached.{colours_of}
use Rattle.sw_view_facts.specs.Steps.{TopAt}
use Rattle.sw_view_facts.specs.Views.{here_at}
use Rattle.sw_secure_facts.specs.Painting.{passed, reached_by_all}
use Rattle.sw_secure_facts.specs.Secure.{HeresFit}
use Rattle.sw_hue_facts.specs.Hued.{SameColours, hued, hues_of}
use Rattle.sw_secure_late_facts.proofs.Same.{same_hues, same_hues_of, same_is, same_refl}

-- By hue, the numbers of a value are the colours that it reaches, and that of the top frame's
-- `Here`
-- is its colour.
pub record Shows (state : State) (colors : Colors) (q : Spot) : Type 0 where
  pub whole : IsWhole colors.palette
  pub made : AreMade colors
  pub values : (v : Value) → SameColours (hues_of colors.palette (colors_in colors.cells v))
      (colours_of state.cells (hued colors).cells v)
  pub here : hues_of colors.palette (top_here colors q.job) ≡ here_at (hued colors) q ∷ []

module _ (state : State) (colors : Colors) (q : Spot) (shows : Shows state colors q) where
  pub value_made : (v : Value) → AreBelow (next_color colors) (colors_in colors.cells v)
  value_made v = value_below (next_color colors) colors.cells shows.made.cells v

  pub slot_shows : (slot : Option Value) → SameColours
      (hues_of colors.palette (slot_colors colors.cells slot))
      (option_map_or (colours_of state.cells (hued colors).cells) slot [])
  slot_shows None = same_refl []
  slot_shows (Some v) = shows.values v

  pub all_show : (vs : List Value) → SameColours
      (hues_of colors.palette (colors_of colors.cells vs))
      (reached_by_all state (hued colors) vs)
  all_show vs = same_hues_of colors.palette (colors_in colors.cells)
      (colours_of state.cells (hued colors).cells) vs shows.values

  pub here_shows : SameColours (hues_of colors.palette (top_here colors q.job))
      (here_at (hued colors) q ∷ [])
  here_shows = same_is (hues_of colors.palette (top_here colors q.job))
      (here_at (hued colors) q ∷ []) shows.here

  -- what a frame that begins has in its registers
  pub passed_shows : (sending : List Bool) (regs : List (Option Value))
      → SameColours (hues_of colors.palette (plans.passed colors.cells sending regs))
      (passed state (hued colors) sending regs)
  passed_shows sending [] = same_refl []
  passed_shows sending (None ∷ regs) = same_refl []
  passed_shows [] (Some v ∷ regs) =
      same_hues colors.palette (colors_in colors.cells v) (plans.passed colors.cells [] regs)
      (colours_of state.cells (hued colors).cells v) (passed state (hued colors) [] regs)
      (shows.values v) (passed_shows [] regs)
  passed_shows (true ∷ sending) (Some v ∷ regs) = passed_shows sending regs
  passed_shows (false ∷ sending) (Some v ∷ regs) =
      same_hues colors.palette (colors_in colors.cells v) (plans.passed colors.cells sending regs)
      (colours_of state.cells (hued colors).cells v) (passed state (hued colors) sending regs)
      (shows.values v) (passed_shows sending regs)

  pub passed_made : (sending : List Bool) (regs : List (Option Value))
      → AreBelow (next_color colors) (plans.passed colors.cells sending regs)
  passed_made sending [] = All-nil (λ n. n < next_color colors)
  passed_made sending (None ∷ regs) = All-nil (λ n. n < next_color colors)
  passed_made [] (Some v ∷ regs) =
      All-append (λ n. n < next_color colors) (colors_in colors.cells v)
      (plans.passed colors.cells [] regs)
      (value_made v) (passed_made [] regs)
  passed_made (true ∷ sending) (Some v ∷ regs) = passed_made sending regs
  passed_made (false ∷ sending) (Some v ∷ regs) =
      All-append (λ n. n < next_color colors) (colors_in colors.cells v)
      (plans.passed colors.cells sending regs)
      (value_made v) (passed_made sending regs)

-- ---- `Here`
pub here_made : (colors : Colors) → AreMade colors → (job : ℕ)
    → AreBelow (next_color colors) (top_here colors job)
unfolding top_here
here_made colors made job = by (slice_get colors.heres job) refl where
  last : (row : List ℕ) (o : Option ℕ) → last_of row ≡ o → AreBelow (next_color colors) row
      → AreBelow (next_color colors) (option_to_list o)
  last row None is below = All-nil (λ n. n < next_color colors)
  last row (Some n) is below = All-cons (λ m. m < next_color colors) n []
      (all_there (λ m. m < next_color colors) row (length row - 1) n is below)
      (All-nil (λ m. m < next_color colors))

  by : (o : Option (List ℕ)) → slice_get colors.heres job ≡ o
      → AreBelow (next_color colors) (option_to_list (option_and_then last_of o))
  by None is = All-nil (λ n. n < next_color colors)
  by (Some row) is = last row (last_of row) refl
      (all_there (AreBelow (next_color colors)) colors.heres job row is made.heres)

-- The number of the top frame's `Here`.
module _ (state : State) (colors : Colors) (q : Spot) (job : Job) (f : Frame)
    (top : TopAt state q job f) (fit : HeresFit state (hued colors)) where
  abbrev hues : ℕ → Colour
  hues = hue colors.palette

  pub here_number : (n : ℕ) × (top_here colors q.job ≡ n ∷ []) × (hues n ≡ here_at (hued colors) q)
  unfolding top_here
  here_number = (
    at.0,
    ap (λ o. option_to_list (option_and_then last_of o)) row.1
        ∙ ap (λ (k : ℕ). option_to_list (slice_get row.0 k))
        (let last : length row.0 - 1 ≡ q.depth = omega (arith, count) in last)
        ∙ ap (λ (o : Option ℕ). option_to_list o) at.1,
    sym (ap (λ r. slice_index_or r q.depth (OfJob q.job 0))
        (get_or_from_slice_get (map (map hues) colors.heres) q.job (map hues row.0) [] rows)
        ∙ get_or_from_slice_get (map hues row.0) q.depth (hues at.0) (OfJob q.job 0)
        (slice_get-map hues row.0 q.depth ∙ ap (option_map hues) at.1)),
  )
    where
      inside : q.job < length colors.heres
      inside =
          let here = slice_get_within state.jobs q.job job top.there in
          let jobs = fit.jobs in
          omega (arith, here, jobs, length-map colors.heres (map hues))

      row : (ns : List ℕ) × (slice_get colors.heres q.job ≡ Some ns)
      row = found_within colors.heres q.job inside

      rows : slice_get (map (map hues) colors.heres) q.job ≡ Some (map hues row.0)
      rows = slice_get-map (map hues) colors.heres q.job ∙ ap (option_map (map hues)) row.1

      count : length row.0 ≡ suc q.depth
      count = sym (length-map row.0 hues) ∙ fit.frames q.job job (map hues row.0) top.there rows
          ∙ top.height

      at : (n : ℕ) × (slice_get row.0 q.depth ≡ Some n)
      at = found_within row.0 q.depth (omega (arith, count))

  pub here_known : hues_of colors.palette (top_here colors q.job) ≡ here_at (hued colors) q ∷ []
  here_known =
      ap (hues_of colors.palette) here_number.1 ∙ ap (λ c. c ∷ []) here_number.2
