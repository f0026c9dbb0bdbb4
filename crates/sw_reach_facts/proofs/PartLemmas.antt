-- The colours of parts and payloads, and those of what is made of values.
use Rattle.std.specs.List.{slice_get, slice_set}
use Rattle.std.proofs.Common.{◌≡◌, ◌⊎◌, ℕ, List, Option, Some, None, length, flat_map, Contains}
use Rattle.std.proofs.Common.{refl, sym, subst, ap, ◌∙◌, inl, inr}
use Rattle.std.proofs.lemmas.List.Elements.{All-contains, All-contains_itself, All-set, All-weaker}
use Rattle.sw_list.proofs.Members.{in_flat_map, of_flat_map, flat_map-flat_map, member_at}
use Rattle.sw_value.specs.declared.cell.HeapCell.{HeapCell}
use Rattle.sw_value.specs.declared.value.Value.{Value, out-Value}
use Rattle.sw_value.specs.declared.value.Value.TheOpen.{Value-F}
use Rattle.sw_value.specs.declared.value.Value.TheOpen as layer
use Rattle.sw_value.specs.declared.value.Value.TheVariants as value
use Rattle.sw_value.specs.Value.{field_of, layer_field, with_field, layer_with_field, payload_of}
use Rattle.sw_value.specs.Value.{layer_payload, made}
use Rattle.sw_reach_facts.specs.Reached.{references, shown_below, colours_of}
use Rattle.sw_reach_facts.proofs.ReferenceLemmas.{references-group, references-case}

-- what is put into a list is in it, beside what was there
in_set : {X : Type 0} (xs : List X) (i : ℕ) (w x : X) → Contains (slice_set xs i w) x
    → Contains xs x ⊎ (w ≡ x)
in_set xs i w x has =
    All-contains (λ y. Contains xs y ⊎ (w ≡ y)) (slice_set xs i w) x
    (All-set (λ y. Contains xs y ⊎ (w ≡ y)) xs i w (inr refl)
    (All-weaker (Contains xs) (λ y. Contains xs y ⊎ (w ≡ y)) (λ y is. inl is) xs
    (All-contains_itself xs))) has

module _ {C : Type 0} (cells : List HeapCell) (colours : List (Option C)) where
  abbrev colours_in : Value → List C
  colours_in = colours_of cells colours

  of_parts : (v : Value) (vs : List Value) → references v ≡ flat_map references vs
      → colours_in v ≡ flat_map colours_in vs
  unfolding colours_of
  of_parts v vs are =
      ap (flat_map (shown_below cells colours (length cells))) are
      ∙ flat_map-flat_map (shown_below cells colours (length cells)) references vs

  pub of_group : (v : Value) (vs : List Value) → out-Value v ≡ layer.Group vs
      → colours_in v ≡ flat_map colours_in vs
  of_group v vs is = of_parts v vs (references-group v vs is)

  pub of_case : (v : Value) (tag : ℕ) (vs : List Value) → out-Value v ≡ layer.Case tag vs
      → colours_in v ≡ flat_map colours_in vs
  of_case v tag vs is = of_parts v vs (references-case v tag vs is)

  among : (v : Value) (vs : List Value) (i : ℕ) (w : Value) (c : C)
      → colours_in v ≡ flat_map colours_in vs → slice_get vs i ≡ Some w
      → Contains (colours_in w) c → Contains (colours_in v) c
  among v vs i w c are at has = subst (λ l. Contains l c) (sym are)
      (in_flat_map colours_in vs w c (member_at vs i w at) has)

  -- a part of a struct
  pub part_within : (v : Value) (i : ℕ) (w : Value) (c : C) → field_of i v ≡ Some w
      → Contains (colours_in w) c → Contains (colours_in v) c
  part_within v i w c at has = by (out-Value v) refl at where
    by : (l : Value-F Value) → out-Value v ≡ l → layer_field i l ≡ Some w
        → Contains (colours_in v) c
    by (layer.Group vs) is at = among v vs i w c (of_group v vs is) at has
    by (layer.Case tag vs) is at = cc
    by (layer.Int n) is at = cc
    by (layer.Bool b) is at = cc
    by layer.Unit is at = cc
    by (layer.Cell d) is at = cc

  -- a value of the payload of a case
  pub payload_within : (v : Value) (i : ℕ) (w : Value) (c : C) → payload_of i v ≡ Some w
      → Contains (colours_in w) c → Contains (colours_in v) c
  payload_within v i w c at has = by (out-Value v) refl at where
    by : (l : Value-F Value) → out-Value v ≡ l → layer_payload i l ≡ Some w
        → Contains (colours_in v) c
    by (layer.Case tag vs) is at = among v vs i w c (of_case v tag vs is) at has
    by (layer.Group vs) is at = cc
    by (layer.Int n) is at = cc
    by (layer.Bool b) is at = cc
    by layer.Unit is at = cc
    by (layer.Cell d) is at = cc

  -- a struct, or a case with a payload, that is made
  pub made_shows : (tag : Option ℕ) (vs : List Value)
      → colours_in (made tag vs) ≡ flat_map colours_in vs
  made_shows None vs = of_group (value.Group vs) vs (value.outs-Group vs)
  made_shows (Some tag) vs = of_case (value.Case tag vs) tag vs (value.outs-Case tag vs)

  -- a struct with another part
  pub with_field_within : (i : ℕ) (w v : Value) (c : C)
      → Contains (colours_in (with_field i w v)) c
      → Contains (colours_in v) c ⊎ Contains (colours_in w) c
  with_field_within i w v c has = by (out-Value v) refl has where
    by : (l : Value-F Value) → out-Value v ≡ l
        → Contains (colours_in (layer_with_field i w v l)) c
        → Contains (colours_in v) c ⊎ Contains (colours_in w) c
    by (layer.Group vs) is has =
        let found = of_flat_map colours_in (slice_set vs i w) c
        (subst (λ l. Contains l c) (made_shows None (slice_set vs i w)) has) in
        elim (in_set vs i w found.0 found.1) [
          | inl old ↦ inl (subst (λ l. Contains l c) (sym (of_group v vs is))
              (in_flat_map colours_in vs found.0 c old found.2))
          | inr new ↦ inr (subst (λ x. Contains (colours_in x) c) (sym new) found.2)
        ]
    by (layer.Case tag vs) is has = inl has
    by (layer.Int n) is has = inl has
    by (layer.Bool b) is has = inl has
    by layer.Unit is has = inl has
    by (layer.Cell d) is has = inl has
