-- How a place comes by a value in a step, and what never changes of a cell.
use Rattle.std.proofs.Common.{◌≡◌, ◌⊎◌, inl, inr, ℕ, Bool, true, false, Option, Some, None, List}
use Rattle.std.proofs.Common.{refl, ap, sym, ◌∙◌, subst, arith}
use Rattle.std.specs.List.{slice_get}
use Rattle.sw_graph.specs.declared.graph.Graph.{Graph}
use Rattle.sw_graph.specs.Placed.{IsPlaced}
use Rattle.sw_graph.specs.Supplied.{IsSupplied}
use Rattle.sw_value.specs.declared.cell.HeapCell.{HeapCell}
use Rattle.sw_value.specs.declared.cell.HeapCell.TheVariants.{Closure}
use Rattle.sw_value.specs.declared.cell.Slot.{Slot}
use Rattle.sw_value.specs.declared.effect.Act.{Act}
use Rattle.sw_value.specs.declared.race.Access.{Access}
use Rattle.sw_value.specs.declared.race.Place.{Place}
use Rattle.sw_value.specs.declared.race.Place.TheVariants.{Prop, Global}
use Rattle.sw_value.specs.declared.state.State.{State}
use Rattle.sw_value.specs.declared.value.Value.{Value}
use Rattle.sw_value.specs.Access.{next_access}
use Rattle.sw_value.specs.Act.{act_of}
use Rattle.sw_value.specs.Cell.{with_slot}
use Rattle.sw_value.specs.Reach.{step_of, reach}
use Rattle.sw_machine_access_facts.specs.Footprint.{IsWriteOf, Writes}
use Rattle.sw_machine_access_facts.specs.Location.{IsLocation, content_of}
use Rattle.sw_machine_access_facts.proofs.WriteLemmas.{step_writes, step_stays}
use Rattle.sw_machine_let_facts.proofs.GlobalLemmas.{store_first}
use Rattle.sw_machine_let_facts.proofs.KeepLemmas.{reached_spares, writes_located}
use Rattle.sw_machine_let_facts.proofs.PlaceLemmas.{cases_place}
use Rattle.sw_machine_let_facts.proofs.StepLemmas.{step_keeps}
use Rattle.sw_machine_name_facts.specs.Given.{ActGives, Fills, by_access, by_maker, by_first}
use Rattle.sw_machine_name_facts.specs.Given.{made_cell}
use Rattle.sw_machine_name_facts.specs.Names.{PlaceNames, CapturesName, FixedNames, in_part}
use Rattle.sw_machine_name_facts.specs.Names.{in_capture}
use Rattle.sw_machine_name_facts.proofs.Acts.{steps_by}
use Rattle.sw_machine_name_facts.proofs.Cells.{CellAfter, stays, written, added, cell_after}
use Rattle.sw_machine_name_facts.proofs.Contents.{Gets, has_one, is_global, in_new, new_gives}
use Rattle.sw_machine_name_facts.proofs.Contents.{new_number, place_found}
use Rattle.sw_machine_name_facts.proofs.Loads.{cases_location}
use Rattle.sw_machine_name_facts.proofs.Numbers.{next_cell}

-- a step writes a place or doesn't
cases_write : (graph : Graph) (state : State) (j : ℕ) (place : Place)
    → Writes graph state j place ⊎ (Writes graph state j place → ⊥)
cases_write graph state j place = by (next_access graph state j) where
  pick : (a : Access) → a.place ≡ place → (b : Bool) → a.writes ≡ b
      → IsWriteOf place (Some a) ⊎ (IsWriteOf place (Some a) → ⊥)
  pick a same true writes = inl (same, writes)
  pick a same false reads =
      inr (λ w. let clash : false ≡ true = sym reads ∙ w.1 in let z : ⊥ = cc in z)

  by : (o : Option Access) → IsWriteOf place o ⊎ (IsWriteOf place o → ⊥)
  by None = inr (λ none. none)
  by (Some a) = elim (cases_place a.place place) [
    | inl same ↦ pick a same a.writes refl
    | inr apart ↦ inr (λ w. apart w.0)
  ]

-- what stays as it was names what it named
still : (state after : State) (place : Place) (k : ℕ)
    → content_of after place ≡ content_of state place → PlaceNames after place k
    → PlaceNames state place k
still state after place k same n =
    record { value = n.value; has = sym same ∙ n.has; names = n.names }

module _ (graph : Graph) (placed : IsPlaced graph) (supplied : IsSupplied graph) (items : List ℕ)
    (j : ℕ) (act : Act) (is : act_of graph (reach graph items) j ≡ Some act) where
  abbrev state : State
  state = reach graph items

  abbrev after : State
  after = step_of graph (reach graph items) j

  -- a global that gets a value
  global_filled : (g k : ℕ) → PlaceNames after (Global g) k
      → PlaceNames state (Global g) k ⊎ Fills graph state j act (Global g)
  global_filled g k n = elim (step_keeps graph state j (Global g) tt) [
    | inl same ↦ inl (still state after (Global g) k same n)
    | inr stores ↦ elim (cases_location graph state (Global g)) [
      | inr fixed ↦
          inr (by_first g refl fixed (store_first graph placed state j g fixed stores))
      | inl located ↦ elim (cases_write graph state j (Global g)) [
        | inl writes ↦ inr (by_access writes)
        | inr apart ↦
            inl (still state after (Global g) k
            (step_writes graph state j (Global g) located apart) n)
      ]
    ]
  ]

  filled : (place : Place) (k : ℕ) → PlaceNames after place k → Gets state act place
      → PlaceNames state place k ⊎ Fills graph state j act place
  filled place k n (has_one inside has) = elim (cases_write graph state j place) [
    | inl writes ↦ inr (by_access writes)
    | inr apart ↦
        inl (still state after place k
        (reached_spares graph placed supplied items j place inside has apart) n)
  ]
  filled place k n (is_global g same) =
      subst (λ p. PlaceNames after p k → PlaceNames state p k ⊎ Fills graph state j act p)
      (sym same) (global_filled g k) n
  filled place k n (in_new c made lies) = inr (by_maker c made lies)

  pub places_name : (place : Place) (k : ℕ) → PlaceNames after place k
      → PlaceNames state place k ⊎ (ActGives act k × Fills graph state j act place)
  places_name place k n =
      elim (place_found j act state (next_cell graph state j act is) place k
      (subst (λ s. PlaceNames s place k) (steps_by graph state j act is) n)) [
        | inl was ↦ inl was
        | inr (gives, gets) ↦ elim (filled place k n gets) [
          | inl was ↦ inl was
          | inr fills ↦ inr (gives, fills)
        ]
      ]

  -- ---- what never changes of a cell
  part_fixed : (c i k : ℕ) → (IsLocation graph after (Prop c i) → ⊥)
      → PlaceNames after (Prop c i) k
      → FixedNames graph state c k ⊎ ((made_cell act ≡ Some c) × ActGives act k)
  part_fixed c i k fixed n = elim (places_name (Prop c i) k n) [
    | inl was ↦
        inl (in_part i (λ located. fixed (step_stays graph state j (Prop c i) located)) was)
    | inr (gives, fills) ↦ by gives fills
  ] where
    by : ActGives act k → Fills graph state j act (Prop c i)
        → FixedNames graph state c k ⊎ ((made_cell act ≡ Some c) × ActGives act k)
    by gives (by_access writes) =
        absurd (fixed (step_stays graph state j (Prop c i)
        (writes_located graph state j (Prop c i) writes)))
    by gives (by_maker d made lies) = inr (made ∙ ap Some (sym lies), gives)
    by gives (by_first g same location first) = absurd (let z : ⊥ = cc in z)

  closure_fixed : (c k : ℕ) → CapturesName after c k
      → FixedNames graph state c k ⊎ ((made_cell act ≡ Some c) × ActGives act k)
  closure_fixed c k n =
      by (cell_after j act state c (Closure n.function n.captures)
      (ap (λ (s : State). slice_get s.cells c) (sym (steps_by graph state j act is)) ∙ n.is)) where
        was_closure : (slot : Slot) (v : Value) (h : HeapCell)
            → with_slot slot v h ≡ Closure n.function n.captures
            → h ≡ Closure n.function n.captures
        was_closure slot v h same = grind arith

        captured : slice_get state.cells c ≡ Some (Closure n.function n.captures)
            → FixedNames graph state c k
        captured was = in_capture (record {
          function = n.function;
          captures = n.captures;
          is = was;
          value = n.value;
          among = n.among;
          names = n.names;
        })

        by : CellAfter state act c (Closure n.function n.captures)
            → FixedNames graph state c k ⊎ ((made_cell act ≡ Some c) × ActGives act k)
        by (stays was) = inl (captured was)
        by (written slot v next same old was now) =
            inl (captured (was ∙ ap Some (was_closure slot v old now)))
        by (added here new) =
            let number = new_number act (Closure n.function n.captures) new in inr (
              number.1 ∙ ap Some (next_cell graph state j act is number.0 number.1 ∙ sym here),
              new_gives act (Closure n.function n.captures) n.value k new n.among n.names,
            )

  pub fixed_name : (c k : ℕ) → FixedNames graph after c k
      → FixedNames graph state c k ⊎ ((made_cell act ≡ Some c) × ActGives act k)
  fixed_name c k (in_part i fixed n) = part_fixed c i k fixed n
  fixed_name c k (in_capture n) = closure_fixed c k n
