-- Values have the same colours by number and by hue.
use Rattle.std.proofs.Common.{◌≡◌, ◌<◌, ℕ, Bool, true, false, Option, Some, None, List, []}
use Rattle.std.proofs.Common.{length, flat_map, Contains, refl, sym, subst, ap, ◌∙◌}
use Rattle.std.specs.List.{slice_get, slice_index_or}
use Rattle.std.specs.Option.{option_map, option_map_or}
use Rattle.std.specs.Prelude.{not}
use Rattle.std.proofs.lemmas.List.{append-nil}
use Rattle.std.proofs.lemmas.List.Concat.{concat_is}
use Rattle.std.proofs.lemmas.Option.{get_or_from_slice_get, slice_get-map}
use Rattle.sw_types.specs.Sendable.{sends_at}
use Rattle.sw_graph.specs.declared.graph.Graph.{Graph}
use Rattle.sw_value.specs.declared.cell.HeapCell.{HeapCell}
use Rattle.sw_value.specs.declared.cell.HeapCell.TheVariants.{Object, Actor, BoxOf, Closure, TaskOf}
use Rattle.sw_value.specs.declared.value.Value.{Value, fold-Value}
use Rattle.sw_value.specs.declared.value.Value.TheOpen as layer
use Rattle.sw_value.specs.declared.value.Value.TheVariants as value
use Rattle.sw_value.specs.Value.{layer_reference, reference_of}
use Rattle.sw_machine_kind_facts.proofs.ItemLemmas.{found_within}
use Rattle.sw_color_rules.specs.declared.colors.Colors.{Colors}
use Rattle.sw_color_rules.specs.declared.colors.Tint.{Tint}
use Rattle.sw_color_rules.specs.declared.colors.Tint.TheVariants.{Bare, Colored, Owns, Holds}
use Rattle.sw_color_rules.specs.Tints as tints
use Rattle.sw_color_rules.specs.Tints.{colors_in, colors_of, held, held_by, references_in}
use Rattle.sw_late_facts.specs.Hues.{hue}
use Rattle.sw_owner_facts.specs.Colours.{Colour}
use Rattle.sw_reach_facts.specs.Coloured.{CaptureEarlier, runs_isolated}
use Rattle.sw_reach_facts.specs.Named.{NamesCells}
use Rattle.sw_reach_facts.specs.Reached as reached
use Rattle.sw_reach_facts.specs.Reached.{colours_of, references, shown, shown_below}
use Rattle.sw_reach_facts.proofs.CellLemmas.{colours_of_cell, reference_shows}
use Rattle.sw_reach_facts.proofs.ClosureLemmas.{reference_captures}
use Rattle.sw_reach_facts.proofs.ReferenceLemmas.{cell_of, references-cell}
use Rattle.sw_hue_facts.specs.Hued.{SameColours, cell_hue, hued, hues_of}
use Rattle.sw_hue_facts.specs.Tinted.{TintFits, TintsFit}
use Rattle.sw_hue_facts.proofs.Same.{same_flat, same_lists, same_through}

-- ---- references
layers_same : (l : layer.Value-F (List ℕ)) → tints.layer_references l ≡ reached.layer_references l
layers_same (layer.Cell c) = refl
layers_same (layer.Int n) = refl
layers_same (layer.Bool b) = refl
layers_same layer.Unit = refl
layers_same (layer.Group parts) = sym (concat_is parts)
layers_same (layer.Case tag payload) = sym (concat_is payload)

pub references_same : (v : Value) → references_in v ≡ references v
references_same v =
    ap (λ (f : layer.Value-F (List ℕ) → List ℕ). fold-Value (List ℕ) f v) (λ i l. layers_same l i)

module _ (graph : Graph) (cells : List HeapCell) (colors : Colors)
    (fit : TintsFit graph cells colors) (earlier : CaptureEarlier cells) where
  abbrev hues : List (Option Colour)
  hues = (hued colors).cells

  held_is : (c : ℕ) (tint : Tint) → slice_get colors.cells c ≡ Some tint
      → held colors.cells c ≡ held_by tint
  unfolding held
  held_is c tint at = ap (λ o. option_map_or held_by o []) at

  hue_is : (c : ℕ) (tint : Tint) → slice_get colors.cells c ≡ Some tint
      → slice_index_or hues c None ≡ cell_hue colors.palette tint
  hue_is c tint at = get_or_from_slice_get hues c (cell_hue colors.palette tint) None
      (slice_get-map (cell_hue colors.palette) colors.cells c
      ∙ ap (option_map (cell_hue colors.palette)) at)

  module _ (v : Value) (c : ℕ) (refers : reference_of v ≡ Some c) (inside : c < length cells) where
    -- the colours of the reference, where the tint is known
    by_tint : (tint : Tint) → slice_get colors.cells c ≡ Some tint
        → SameColours (hues_of colors.palette (held_by tint)) (colours_of cells hues v)
        → SameColours (hues_of colors.palette (held colors.cells c)) (colours_of cells hues v)
    by_tint tint at same =
        same_through (hues_of colors.palette (held colors.cells c))
        (hues_of colors.palette (held_by tint)) (colours_of cells hues v)
        (same_lists _ _ (ap (hues_of colors.palette) (held_is c tint at))) same

    -- a cell without colour that is no closure shows nothing
    shows : (tint : Tint) (cell : HeapCell) → slice_get colors.cells c ≡ Some tint
        → slice_get cells c ≡ Some cell → colours_of cells hues v
        ≡ shown (shown_below cells hues c) (cell_hue colors.palette tint) (Some cell)
    shows tint cell at there =
        colours_of_cell cells hues v c (cell_of v c refers) inside
        ∙ ap (λ o. shown (shown_below cells hues c) o (slice_get cells c)) (hue_is c tint at)
        ∙ ap (shown (shown_below cells hues c) (cell_hue colors.palette tint)) there

    coloured : (tint : Tint) → slice_get colors.cells c ≡ Some tint
        → (n : ℕ) × (tint ≡ Colored n)
        → SameColours (hues_of colors.palette (held colors.cells c)) (colours_of cells hues v)
    coloured tint at (n, is) = by_tint (Colored n) (at ∙ ap (λ t. Some t) is)
        (same_lists _ _ (sym (reference_shows cells hues v c (hue colors.palette n) refers inside
        (hue_is c (Colored n) (at ∙ ap (λ t. Some t) is)))))

    by_cell : (cell : HeapCell) (tint : Tint) → slice_get cells c ≡ Some cell
        → slice_get colors.cells c ≡ Some tint → TintFits graph cells colors c cell tint
        → SameColours (hues_of colors.palette (held colors.cells c)) (colours_of cells hues v)
    by_cell (Object k parts) tint there at fits = by (sends_at graph.shapes k) refl where
      by : (b : Bool) → sends_at graph.shapes k ≡ b
          → SameColours (hues_of colors.palette (held colors.cells c)) (colours_of cells hues v)
      by true e =
          let plain = at ∙ ap (λ t. Some t) (fits.bare e) in
          by_tint Bare plain (same_lists _ _ (sym (shows Bare (Object k parts) plain there)))
      by false e = coloured tint at (fits.coloured (ap not e))
    by_cell (Actor k parts) tint there at fits =
        let own = fits.owns k parts refl in
        let owned = at ∙ ap (λ t. Some t) own.1 in
        by_tint (Owns own.0) owned
        (same_lists _ _ (sym (shows (Owns own.0) (Actor k parts) owned there)))
    by_cell (BoxOf w) tint there at fits = coloured tint at (fits.coloured refl)
    by_cell (Closure f captures) tint there at fits = by (runs_isolated graph f) refl where
      by : (b : Bool) → runs_isolated graph f ≡ b
          → SameColours (hues_of colors.palette (held colors.cells c)) (colours_of cells hues v)
      by true e = coloured tint at (fits.coloured e)
      by false e =
          let captured = fits.holds f captures refl e in
          let holds = at ∙ ap (λ t. Some t) captured.1 in
          by_tint (Holds captured.0) holds
          (same_through (hues_of colors.palette captured.0)
          (flat_map (colours_of cells hues) captures)
          (colours_of cells hues v) captured.2
          (same_lists _ _ (sym (reference_captures cells hues earlier v c f captures refers there
          (hue_is c (Holds captured.0) holds)))))
    by_cell (TaskOf j) tint there at fits =
        let plain = at ∙ ap (λ t. Some t) (fits.bare refl) in
        by_tint Bare plain (same_lists _ _ (sym (shows Bare (TaskOf j) plain there)))

    pub reference_same :
        SameColours (hues_of colors.palette (held colors.cells c)) (colours_of cells hues v)
    reference_same =
        let cell = found_within cells c inside in
        let tint = found_within colors.cells c (subst (λ n. c < n) (sym fit.count) inside) in
        by_cell cell.0 tint.0 cell.1 tint.1 (fit.each c cell.0 tint.0 cell.1 tint.1)

  cell_same : (c : ℕ) → c < length cells
      → SameColours (hues_of colors.palette (held colors.cells c))
      (shown_below cells hues (length cells) c)
  unfolding colours_of
  cell_same c inside =
      same_through (hues_of colors.palette (held colors.cells c))
      (colours_of cells hues (value.Cell c)) (shown_below cells hues (length cells) c)
      (reference_same (value.Cell c) c (ap layer_reference (value.outs-Cell c)) inside)
      (same_lists _ _ (ap (flat_map (shown_below cells hues (length cells)))
      (references-cell (value.Cell c) c (value.outs-Cell c))
      ∙ append-nil (shown_below cells hues (length cells) c)))

  pub value_same : (v : Value) → NamesCells cells v
      → SameColours (hues_of colors.palette (colors_in colors.cells v)) (colours_of cells hues v)
  unfolding colors_in colours_of
  value_same v named =
      same_through (hues_of colors.palette (flat_map (held colors.cells) (references_in v)))
      (hues_of colors.palette (flat_map (held colors.cells) (references v)))
      (flat_map (shown_below cells hues (length cells)) (references v))
      (same_lists _ _ (ap (λ l. hues_of colors.palette (flat_map (held colors.cells) l))
      (references_same v)))
      (same_flat (hue colors.palette) (held colors.cells) (shown_below cells hues (length cells))
      (references v) (λ c has. cell_same c (named c has)))

  pub values_same : (vs : List Value) → ((v : Value) → Contains vs v → NamesCells cells v)
      → SameColours (hues_of colors.palette (colors_of colors.cells vs))
      (flat_map (colours_of cells hues) vs)
  values_same vs named = same_flat (hue colors.palette) (colors_in colors.cells)
      (colours_of cells hues) vs (λ v has. value_same v (named v has))
