-- Where tints fit, every value has the same colours by number and by hue.
use Rattle.std.proofs.Common.{◌≡◌, ◌<◌, ◌≤◌, ℕ, zero, suc, cond, Option, None, List, [], length}
use Rattle.std.proofs.Common.{◌∷◌, Contains, flat_map, refl, sym, subst, ap, ◌∙◌, arith, inl, inr}
use Rattle.std.specs.List.{slice_get, slice_index_or}
use Rattle.std.specs.Option.{option_map_or}
use Rattle.std.proofs.lemmas.Bool.{cases_lt, ne_eqb}
use Rattle.std.proofs.lemmas.List.{append-nil}
use Rattle.std.proofs.lemmas.Option.{slice_get_past}
use Rattle.sw_list.proofs.Members.{one_in}
use Rattle.sw_graph.specs.declared.graph.Graph.{Graph}
use Rattle.sw_value.specs.declared.cell.HeapCell.{HeapCell}
use Rattle.sw_value.specs.declared.value.Value.{Value}
use Rattle.sw_value.specs.declared.value.Value.TheVariants as value
use Rattle.sw_color_rules.specs.declared.colors.Colors.{Colors}
use Rattle.sw_color_rules.specs.Tints.{colors_in, held, held_by, references_in}
use Rattle.sw_owner_facts.specs.Colours.{Colour}
use Rattle.sw_reach_facts.specs.Coloured.{CaptureEarlier}
use Rattle.sw_reach_facts.specs.Reached.{colours_of, references, shown, shown_below}
use Rattle.sw_reach_facts.proofs.ReferenceLemmas.{references-cell}
use Rattle.sw_hue_facts.specs.Hued.{SameColours, hued, hues_of}
use Rattle.sw_hue_facts.specs.Tinted.{TintsFit}
use Rattle.sw_hue_facts.proofs.Tinted.{references_same, value_same}
use Rattle.sw_secure_late_facts.proofs.Same.{same_hues_of, same_is}

past_shown : {C : Type 0} (cells : List HeapCell) (colours : List (Option C)) (n c : ℕ) → n ≤ c
    → shown_below cells colours n c ≡ []
unfolding shown_below
past_shown cells colours zero c past = refl
past_shown cells colours (suc n) c past =
    ap (λ b. cond b (shown (shown_below cells colours n) (slice_index_or colours n None)
    (slice_get cells n)) (shown_below cells colours n c))
    (ne_eqb c n (λ e. let x : ⊥ = omega (arith, past, e) in x))
    ∙ past_shown cells colours n c (omega (arith, past))

module _ (graph : Graph) (cells : List HeapCell) (colors : Colors)
    (fit : TintsFit graph cells colors) (earlier : CaptureEarlier cells) where
  abbrev shows : ℕ → List Colour
  shows = shown_below cells (hued colors).cells (length cells)

  past_held : (c : ℕ) → length cells ≤ c → held colors.cells c ≡ []
  unfolding held
  past_held c past = ap (λ o. option_map_or held_by o [])
      (slice_get_past colors.cells c (let count = fit.count in omega (arith, count, past)))

  cell_reads : (c : ℕ) → SameColours (hues_of colors.palette (held colors.cells c)) (shows c)
  unfolding colors_in colours_of
  cell_reads c = elim (cases_lt c (length cells)) [
    | inl inside ↦
        subst (λ l. SameColours (hues_of colors.palette l) (shows c))
        (ap (flat_map (held colors.cells)) numbers ∙ append-nil (held colors.cells c))
        (subst (SameColours (hues_of colors.palette
        (flat_map (held colors.cells) (references_in (value.Cell c)))))
        (ap (flat_map shows) refers ∙ append-nil (shows c))
        (value_same graph cells colors fit earlier (value.Cell c) (λ d has.
        subst (λ k. k < length cells) (one_in c d (subst (λ l. Contains l d) refers has)) inside)))
    | inr past ↦ same_is (hues_of colors.palette (held colors.cells c)) (shows c)
        (ap (hues_of colors.palette) (past_held c past)
        ∙ sym (past_shown cells (hued colors).cells (length cells) c past))
  ]
    where
      refers : references (value.Cell c) ≡ c ∷ []
      refers = references-cell (value.Cell c) c (value.outs-Cell c)

      numbers : references_in (value.Cell c) ≡ c ∷ []
      numbers = references_same (value.Cell c) ∙ refers

  pub value_reads : (v : Value) → SameColours (hues_of colors.palette (colors_in colors.cells v))
      (colours_of cells (hued colors).cells v)
  unfolding colors_in colours_of
  value_reads v =
      subst (λ l. SameColours (hues_of colors.palette (flat_map (held colors.cells) l))
      (colours_of cells (hued colors).cells v)) (sym (references_same v))
      (same_hues_of colors.palette (held colors.cells) shows (references v) cell_reads)
