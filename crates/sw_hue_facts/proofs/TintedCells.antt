-- Tints that fit go on to fit where a slot of a cell is written, and where a cell is made.
use Rattle.std.proofs.Common.{◌≡◌, ◌<◌, ℕ, Option, Some, None, List, [], ◌∷◌, ◌++◌}
use Rattle.std.proofs.Common.{length, flat_map, Contains, refl, sym, subst, ap, ◌∙◌, inl, inr}
use Rattle.std.proofs.Common.{arith, length-append, ◌+◌}
use Rattle.std.specs.List.{slice_get}
use Rattle.std.proofs.lemmas.Bool.{cases_eq}
use Rattle.std.proofs.lemmas.List.{length-map, map-append}
use Rattle.std.proofs.lemmas.Option.{slice_get_within}
use Rattle.sw_list.proofs.ListLemmas.{some_injective}
use Rattle.sw_list.proofs.Members.{flat_map_same}
use Rattle.sw_graph.specs.declared.graph.Graph.{Graph}
use Rattle.sw_value.specs.declared.cell.HeapCell.{HeapCell}
use Rattle.sw_value.specs.declared.cell.HeapCell.TheVariants.{Object, Actor, BoxOf, Closure, TaskOf}
use Rattle.sw_value.specs.declared.cell.Slot.{Slot}
use Rattle.sw_value.specs.declared.cell.Slot.TheVariants.{Part, Content}
use Rattle.sw_value.specs.declared.value.Value.{Value}
use Rattle.sw_value.specs.Cell.{with_slot}
use Rattle.sw_value.specs.Lists.{changed_at}
use Rattle.sw_value.proofs.ListLemmas.{changed_at_found, changed_at_none, get_before}
use Rattle.sw_value.proofs.ListLemmas.{length-changed_at}
use Rattle.sw_machine_kind_facts.proofs.ItemLemmas.{at_end, changed_other}
use Rattle.sw_color_rules.specs.declared.colors.Colors.{Colors}
use Rattle.sw_color_rules.specs.declared.colors.Tint.{Tint}
use Rattle.sw_color_rules.specs.Changes.{Mark, after_change, mark}
use Rattle.sw_reach_facts.specs.Coloured.{CaptureEarlier, may_have_colour}
use Rattle.sw_reach_facts.specs.Named.{NamesCells, values_in}
use Rattle.sw_reach_facts.specs.Reached.{colours_of}
use Rattle.sw_reach_facts.proofs.ChangeLemmas.{colours_before, colours_written}
use Rattle.sw_hue_facts.specs.Hued.{SameColours, cell_hue, hued, hues_of}
use Rattle.sw_hue_facts.specs.Tinted.{TintFits, TintsFit, is_bare}
use Rattle.sw_hue_facts.proofs.Same.{same_lists, same_through}

-- ---- a slot is written
module _ (graph : Graph) (slot : Slot) (w : Value) where
  may_same : (h : HeapCell)
      → may_have_colour graph (with_slot slot w h) ≡ may_have_colour graph h
  may_same h = by slot h where
    by : (s : Slot) (h : HeapCell)
        → may_have_colour graph (with_slot s w h) ≡ may_have_colour graph h
    by (Part i) (Object k parts) = refl
    by (Part i) (Actor k parts) = refl
    by (Part i) (BoxOf v) = refl
    by (Part i) (Closure f captures) = refl
    by (Part i) (TaskOf j) = refl
    by Content (Object k parts) = refl
    by Content (Actor k parts) = refl
    by Content (BoxOf v) = refl
    by Content (Closure f captures) = refl
    by Content (TaskOf j) = refl

  bare_same : (h : HeapCell) → is_bare graph (with_slot slot w h) ≡ is_bare graph h
  bare_same h = by slot h where
    by : (s : Slot) (h : HeapCell) → is_bare graph (with_slot s w h) ≡ is_bare graph h
    by (Part i) (Object k parts) = refl
    by (Part i) (Actor k parts) = refl
    by (Part i) (BoxOf v) = refl
    by (Part i) (Closure f captures) = refl
    by (Part i) (TaskOf j) = refl
    by Content (Object k parts) = refl
    by Content (Actor k parts) = refl
    by Content (BoxOf v) = refl
    by Content (Closure f captures) = refl
    by Content (TaskOf j) = refl

  actor_was : (h : HeapCell) (k : ℕ) (parts : List Value) → with_slot slot w h ≡ Actor k parts
      → (old : List Value) × (h ≡ Actor k old)
  actor_was h k parts is = by slot h is where
    by : (s : Slot) (h : HeapCell) → with_slot s w h ≡ Actor k parts
        → (old : List Value) × (h ≡ Actor k old)
    by (Part i) (Object l vs) e = absurd (let clash : ⊥ = cc in clash)
    by (Part i) (Actor l vs) e = (vs, ap (λ m. Actor m vs) (let same : l ≡ k = cc in same))
    by (Part i) (BoxOf v) e = absurd (let clash : ⊥ = cc in clash)
    by (Part i) (Closure f vs) e = absurd (let clash : ⊥ = cc in clash)
    by (Part i) (TaskOf j) e = absurd (let clash : ⊥ = cc in clash)
    by Content (Object l vs) e = absurd (let clash : ⊥ = cc in clash)
    by Content (Actor l vs) e = (parts, e)
    by Content (BoxOf v) e = absurd (let clash : ⊥ = cc in clash)
    by Content (Closure f vs) e = absurd (let clash : ⊥ = cc in clash)
    by Content (TaskOf j) e = absurd (let clash : ⊥ = cc in clash)

  closure_was : (h : HeapCell) (f : ℕ) (vs : List Value) → with_slot slot w h ≡ Closure f vs
      → h ≡ Closure f vs
  closure_was h f vs is = by slot h is where
    by : (s : Slot) (h : HeapCell) → with_slot s w h ≡ Closure f vs → h ≡ Closure f vs
    by (Part i) (Object l us) e = absurd (let clash : ⊥ = cc in clash)
    by (Part i) (Actor l us) e = absurd (let clash : ⊥ = cc in clash)
    by (Part i) (BoxOf v) e = e
    by (Part i) (Closure g us) e = e
    by (Part i) (TaskOf j) e = e
    by Content (Object l us) e = e
    by Content (Actor l us) e = e
    by Content (BoxOf v) e = absurd (let clash : ⊥ = cc in clash)
    by Content (Closure g us) e = e
    by Content (TaskOf j) e = e

  module _ (cells : List HeapCell) (d : ℕ) (colors : Colors)
      (fit : TintsFit graph cells colors) where
    abbrev written : List HeapCell
    written = changed_at (with_slot slot w) d cells

    -- a closure's captures have what they had
    holds_same : (vs : List Value) (ns : List ℕ)
        → SameColours (hues_of colors.palette ns)
        (flat_map (colours_of cells (hued colors).cells) vs)
        → SameColours (hues_of colors.palette ns)
        (flat_map (colours_of written (hued colors).cells) vs)
    holds_same vs ns same =
        same_through (hues_of colors.palette ns)
        (flat_map (colours_of cells (hued colors).cells) vs)
        (flat_map (colours_of written (hued colors).cells) vs) same
        (same_lists _ _ (flat_map_same (colours_of cells (hued colors).cells)
        (colours_of written (hued colors).cells) vs
        (λ v has. sym (colours_written cells (hued colors).cells d slot w v))))

    other_fits : (c : ℕ) (cell : HeapCell) (tint : Tint) → slice_get cells c ≡ Some cell
        → slice_get colors.cells c ≡ Some tint → TintFits graph written colors c cell tint
    other_fits c cell tint there at =
        let old = fit.each c cell tint there at in
        record {
          coloured = old.coloured;
          bare = old.bare;
          owns = old.owns;
          holds = λ f vs is free.
              let held = old.holds f vs is free in (held.0, held.1, holds_same vs held.0 held.2);
        }

    this_fits : (c : ℕ) (h : HeapCell) (tint : Tint) → slice_get cells c ≡ Some h
        → slice_get colors.cells c ≡ Some tint
        → TintFits graph written colors c (with_slot slot w h) tint
    this_fits c h tint there at =
        let old = other_fits c h tint there at in
        record {
          coloured = λ may. old.coloured (sym (may_same h) ∙ may);
          bare = λ is. old.bare (sym (bare_same h) ∙ is);
          owns = λ k parts is. let was = actor_was h k parts is in old.owns k was.0 was.1;
          holds = λ f vs is free. old.holds f vs (closure_was h f vs is) free;
        }

    at_slot : (c : ℕ) (cell : HeapCell) (tint : Tint) → slice_get written c ≡ Some cell
        → slice_get colors.cells c ≡ Some tint → c ≡ d → (o : Option HeapCell)
        → slice_get cells d ≡ o → TintFits graph written colors c cell tint
    at_slot c cell tint there at same None is = other_fits c cell tint
        (ap (λ l. slice_get l c) (sym (changed_at_none (with_slot slot w) d cells is)) ∙ there) at
    at_slot c cell tint there at same (Some h) is =
        subst (λ (x : HeapCell). TintFits graph written colors c x tint)
        (some_injective (sym (ap (slice_get written) same
        ∙ changed_at_found (with_slot slot w) d cells h is) ∙ there))
        (this_fits c h tint (ap (slice_get cells) same ∙ is) at)

    pub tints_written : TintsFit graph written colors
    tints_written = record {
      count = fit.count ∙ sym (length-changed_at (with_slot slot w) d cells);
      each = λ c cell tint there at. elim (cases_eq c d) [
        | inl same ↦ at_slot c cell tint there at same (slice_get cells d) refl
        | inr differ ↦ other_fits c cell tint
            (sym (changed_other (with_slot slot w) d c cells differ) ∙ there) at
      ];
    }

-- ---- a cell is made
module _ (graph : Graph) (cells : List HeapCell) (colors : Colors) (cell : HeapCell) (tint : Tint)
    (fit : TintsFit graph cells colors) (earlier : CaptureEarlier cells)
    (named : (v : Value) → Contains (values_in cell) v → NamesCells cells v) where
  abbrev more : List HeapCell
  more = cells ++ cell ∷ []

  abbrev marked : Colors
  marked = record colors { cells = colors.cells ++ tint ∷ [] }

  added_same : (vs : List Value) → ((v : Value) → Contains vs v → NamesCells cells v)
      → flat_map (colours_of more (hued marked).cells) vs
      ≡ flat_map (colours_of cells (hued colors).cells) vs
  added_same vs names = flat_map_same (colours_of more (hued marked).cells)
      (colours_of cells (hued colors).cells) vs
      (λ v has. ap (λ hues. colours_of more hues v)
      (map-append (cell_hue colors.palette) colors.cells (tint ∷ []))
      ∙ colours_before cells (hued colors).cells cell (cell_hue colors.palette tint) v
      (length-map colors.cells (cell_hue colors.palette) ∙ fit.count) (names v has))

  later_fits : (c : ℕ) (one : HeapCell) (t : Tint)
      → ((v : Value) → Contains (values_in one) v → NamesCells cells v)
      → TintFits graph cells colors c one t → TintFits graph more marked c one t
  later_fits c one t names old = record {
    coloured = old.coloured;
    bare = old.bare;
    owns = old.owns;
    holds = λ f vs is free.
        let held = old.holds f vs is free in (
          held.0,
          held.1,
          same_through (hues_of colors.palette held.0)
              (flat_map (colours_of cells (hued colors).cells) vs)
              (flat_map (colours_of more (hued marked).cells) vs) held.2
              (same_lists _ _ (sym (added_same vs
              (subst (λ x. (v : Value) → Contains (values_in x) v → NamesCells cells v) is
              names)))),
        );
  }

  -- of the cells before, only a closure's captures matter
  before_fits : (c : ℕ) (one : HeapCell) (t : Tint) → slice_get cells c ≡ Some one
      → TintFits graph cells colors c one t → TintFits graph more marked c one t
  before_fits c one t there old = record {
    coloured = old.coloured;
    bare = old.bare;
    owns = old.owns;
    holds = λ f vs is free.
        let held = old.holds f vs is free in
        let closure = there ∙ ap (λ x. Some x) is in
        let inside = slice_get_within cells c (Closure f vs) closure in (
          held.0,
          held.1,
          same_through (hues_of colors.palette held.0)
              (flat_map (colours_of cells (hued colors).cells) vs)
              (flat_map (colours_of more (hued marked).cells) vs) held.2
              (same_lists _ _ (sym (added_same vs (λ v has d refers.
              let lower = earlier c f vs v d closure has refers in omega (arith, lower, inside))))),
        );
  }

  added_fits : TintFits graph cells colors (length cells) cell tint → TintsFit graph more marked
  added_fits fits = record {
    count = length-append colors.cells (tint ∷ []) ∙ ap (λ n. n + 1) fit.count
        ∙ sym (length-append cells (cell ∷ []));
    each = λ c one t there at. elim (at_end cells cell one c there) [
      | inl old ↦
          let inside = slice_get_within cells c one old in
          before_fits c one t old (fit.each c one t old
          (get_before colors.cells c t tint at (subst (λ n. c < n) (sym fit.count) inside)))
      | inr (end, is) ↦
          subst (λ x. TintFits graph more marked c x t) (sym is)
          (subst (λ n. TintFits graph more marked n cell t) (sym end)
          (subst (λ s. TintFits graph more marked (length cells) cell s)
          (sym (tint_is c t at end)) (later_fits (length cells) cell tint named fits)))
    ];
  }
    where
      tint_is : (c : ℕ) (t : Tint) → slice_get (colors.cells ++ tint ∷ []) c ≡ Some t
          → c ≡ length cells → t ≡ tint
      tint_is c t at end = elim (at_end colors.cells tint t c at) [
        | inl before ↦ absurd (let inside = slice_get_within colors.cells c t before in
            let count = fit.count in omega (arith, inside, end, count))
        | inr (_, is) ↦ is
      ]

  pub tints_added : TintFits graph cells colors (length cells) cell tint
      → TintsFit graph (cells ++ cell ∷ []) (after_change colors (Mark tint))
  unfolding mark
  tints_added fits = added_fits fits
