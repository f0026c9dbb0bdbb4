-- A value of an untracked kind reaches no colour.
use Rattle.std.specs.List.{slice_get, slice_index_or}
use Rattle.std.proofs.Common.{◌≡◌, ℕ, zero, suc, Bool, true, false, cond, ◌==◌, not, List, length}
use Rattle.std.proofs.Common.{flat_map, Contains, Option, Some, None, refl, sym, subst, ap, ◌∙◌}
use Rattle.std.proofs.Common.{◌≤◌}
use Rattle.std.proofs.lemmas.Bool.{eqb-true}
use Rattle.std.proofs.lemmas.Option.{slice_get_within}
use Rattle.sw_list.proofs.Members.{none_in, of_flat_map, stands_at}
use Rattle.sw_graph.specs.declared.function.RegKind.{RegKind}
use Rattle.sw_graph.specs.declared.graph.Graph.{Graph}
use Rattle.sw_graph.specs.Clean.{is_untracked}
use Rattle.sw_graph.specs.Kinds.{IsCaptured, shape_of, is_struct, is_enum, parts, payload}
use Rattle.sw_value.specs.declared.cell.HeapCell.{HeapCell}
use Rattle.sw_value.specs.declared.cell.HeapCell.TheVariants as cell
use Rattle.sw_value.specs.declared.value.Value.{Value}
use Rattle.sw_machine_kind_facts.specs.Kinds.{HasKind, Referents}
use Rattle.sw_machine_kind_facts.proofs.ItemLemmas.{found_within}
use Rattle.sw_machine_kind_facts.proofs.KindLemmas.{shape_is}
use Rattle.sw_machine_kind_facts.proofs.PartLemmas.{parts_shape, payload_shape}
use Rattle.sw_reach_facts.specs.Coloured.{may_have_colour, ConformancesHold, ClosureCrosses}
use Rattle.sw_reach_facts.specs.Coloured.{ColoursFit, GoesUntracked}
use Rattle.sw_reach_facts.specs.Reached.{references, shown, shown_below, colours_of}
use Rattle.sw_reach_facts.proofs.ReferentLemmas.{leads_to}
use Rattle.sw_reach_facts.proofs.CrossingLemmas.{named_crosses, value_crosses, struct_is_value}
use Rattle.sw_reach_facts.proofs.CrossingLemmas.{enum_is_value, part_crosses, payload_crosses}
use Rattle.sw_reach_facts.proofs.CrossingLemmas.{captured_named, captured_marked, boxes_stay}
use Rattle.sw_reach_facts.proofs.CrossingLemmas.{free_runs}

pub refers_across : (graph : Graph) → ConformancesHold graph → (cells : List RegKind) (v : Value)
    (kind : RegKind) → HasKind graph.shapes cells v kind → is_untracked graph (Some kind) ≡ true
    → (c : ℕ) → Contains (references v) c → GoesUntracked graph cells c
refers_across graph conform =
    leads_to graph.shapes (λ kind. is_untracked graph (Some kind) ≡ true) part payload_part where
      part : (kind : RegKind) (kinds : List RegKind) → is_untracked graph (Some kind) ≡ true
          → parts (shape_of graph.shapes is_struct (Some kind)) ≡ Some kinds → (i : ℕ)
          (one : RegKind) → slice_get kinds i ≡ Some one → is_untracked graph (Some one) ≡ true
      part kind kinds crosses are i one at =
          let found = parts_shape (shape_of graph.shapes is_struct (Some kind)) kinds are in
          let shape = shape_is graph.shapes is_struct kind found.0 found.1 in
          part_crosses graph found.0
          (value_crosses graph conform shape.number found.0 shape.at
          (struct_is_value found.0.kind shape.holds)
          (named_crosses graph kind shape.number shape.form crosses)) kinds
          (sym (ap parts found.1) ∙ are) i one at

      payload_part : (kind : RegKind) (tag : ℕ) (kinds : List RegKind)
          → is_untracked graph (Some kind) ≡ true
          → payload (shape_of graph.shapes is_enum (Some kind)) tag ≡ Some kinds → (i : ℕ)
          (one : RegKind) → slice_get kinds i ≡ Some one → is_untracked graph (Some one) ≡ true
      payload_part kind tag kinds crosses are i one at =
          let found = payload_shape (shape_of graph.shapes is_enum (Some kind)) tag kinds are in
          let shape = shape_is graph.shapes is_enum kind found.0 found.1 in
          payload_crosses graph found.0
          (value_crosses graph conform shape.number found.0 shape.at
          (enum_is_value found.0.kind shape.holds)
          (named_crosses graph kind shape.number shape.form crosses)) tag kinds
          (sym (ap (λ o. payload o tag) found.1) ∙ are) i one at

module _ {C : Type 0} (graph : Graph) (conform : ConformancesHold graph) (world : Referents)
    (cells : List HeapCell) (colours : List (Option C))
    (are : ColoursFit graph world cells colours) where
  -- a cell shows nothing to what may cross, where that is so of the first n
  abbrev ShowsNothing : ℕ → ℕ → Type 0
  ShowsNothing n c = (from kind : RegKind) → slice_get world.cells c ≡ Some from
      → IsCaptured (Some from) (Some kind) → is_untracked graph (Some kind) ≡ true → (colour : C)
      → Contains (shown_below cells colours n c) colour → ⊥

  closure_crosses : (c f : ℕ) (vs : List Value) (from kind : RegKind)
      → slice_get cells c ≡ Some (cell.Closure f vs) → slice_get world.cells c ≡ Some from
      → IsCaptured (Some from) (Some kind) → is_untracked graph (Some kind) ≡ true
      → ClosureCrosses graph world.cells f vs
  closure_crosses c f vs from kind here at goes crosses =
      let fits = are.fit c (cell.Closure f vs) from here at in
      are.marked c f vs from here at
      (captured_marked graph from kind fits.sendable fits.params fits.function.result goes fits.form
      crosses)

  without_colour : (c : ℕ) (from kind : RegKind) (h : HeapCell) → slice_get cells c ≡ Some h
      → slice_get world.cells c ≡ Some from → IsCaptured (Some from) (Some kind)
      → is_untracked graph (Some kind) ≡ true → may_have_colour graph h ≡ true → ⊥
  without_colour c from kind (cell.Object k vs) here at goes crosses may =
      let fits = are.fit c (cell.Object k vs) from here at in
      let sends = named_crosses graph kind k (captured_named from kind k goes fits.0) crosses in
      let e : true ≡ false = sym may ∙ ap not sends in cc
  without_colour c from kind (cell.Actor k vs) here at goes crosses may = cc
  without_colour c from kind (cell.BoxOf v) here at goes crosses may =
      let fits = are.fit c (cell.BoxOf v) from here at in
      boxes_stay graph from kind fits.inner goes fits.is crosses
  without_colour c from kind (cell.Closure f vs) here at goes crosses may =
      let fits = are.fit c (cell.Closure f vs) from here at in
      let free = closure_crosses c f vs from kind here at goes crosses in
      let e : true ≡ false =
      sym may ∙ free_runs graph f fits.function fits.is (free.free fits.function fits.is) in cc
  without_colour c from kind (cell.TaskOf j) here at goes crosses may = cc

  entry_nothing : (n : ℕ) → ((c : ℕ) → ShowsNothing n c) → (from kind : RegKind)
      → slice_get world.cells n ≡ Some from → IsCaptured (Some from) (Some kind)
      → is_untracked graph (Some kind) ≡ true → (colour : C)
      → Contains (shown (shown_below cells colours n) (slice_index_or colours n None)
      (slice_get cells n)) colour → ⊥
  entry_nothing n below from kind at goes crosses colour has =
      by (slice_index_or colours n None) refl (slice_get cells n) refl has where
        inside : (h : HeapCell) → slice_get cells n ≡ Some h
            → Contains (shown (shown_below cells colours n) None (Some h)) colour → ⊥
        inside (cell.Closure f vs) here has =
            let closure = closure_crosses n f vs from kind here at goes crosses in
            let captured = of_flat_map
            (λ v. flat_map (shown_below cells colours n) (references v)) vs colour has in
            let reached = of_flat_map (shown_below cells colours n) (references captured.0) colour
            captured.2 in
            let stands = stands_at vs captured.0 captured.1 in
            let there = found_within closure.kinds stands.0
            (subst (λ k. suc stands.0 ≤ k) closure.have.count
            (slice_get_within vs stands.0 captured.0 stands.1)) in
            let across = refers_across graph conform world.cells captured.0 there.0
            (closure.have.each stands.0 captured.0 there.0 stands.1 there.1)
            (closure.untracked stands.0 there.0 there.1) reached.0 reached.1 in
            below reached.0 across.from across.kind across.at across.goes across.holds colour
            reached.2
        inside (cell.Object k vs) here has = none_in colour has
        inside (cell.Actor k vs) here has = none_in colour has
        inside (cell.BoxOf v) here has = none_in colour has
        inside (cell.TaskOf j) here has = none_in colour has

        by : (o : Option C) → slice_index_or colours n None ≡ o → (p : Option HeapCell)
            → slice_get cells n ≡ p → Contains (shown (shown_below cells colours n) o p) colour → ⊥
        by (Some h) e p is has =
            let there = are.coloured n h e in
            without_colour n from kind there.0 there.1 at goes crosses there.2
        by None e None is has = none_in colour has
        by None e (Some h) is has = inside h is has

  pub shows_nothing : (n c : ℕ) → ShowsNothing n c
  unfolding shown_below
  shows_nothing zero c from kind at goes crosses colour has = none_in colour has
  shows_nothing (suc n) c from kind at goes crosses colour has =
      by (c == n) refl (λ d. shows_nothing n d) has where
        by : (b : Bool) → (c == n) ≡ b → ((d : ℕ) → ShowsNothing n d)
            → Contains (cond b (shown (shown_below cells colours n) (slice_index_or colours n None)
            (slice_get cells n)) (shown_below cells colours n c)) colour → ⊥
        by true e below has =
            let same : c ≡ n = eqb-true c n e in
            entry_nothing n below from kind (ap (slice_get world.cells) (sym same) ∙ at) goes
            crosses colour has
        by false e below has = below c from kind at goes crosses colour has

  -- a value of a kind that may cross reaches no colour
  pub crosses_nothing : (v : Value) (kind : RegKind) → HasKind graph.shapes world.cells v kind
      → is_untracked graph (Some kind) ≡ true → (colour : C)
      → Contains (colours_of cells colours v) colour → ⊥
  unfolding colours_of
  crosses_nothing v kind fits crosses colour has =
      let reached = of_flat_map (shown_below cells colours (length cells)) (references v) colour has
      in
      let across = refers_across graph conform world.cells v kind fits crosses reached.0 reached.1 in
      shows_nothing (length cells) reached.0 across.from across.kind across.at across.goes
      across.holds colour reached.2
