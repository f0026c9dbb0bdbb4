-- What parts of values name, and what is made of values.
use Rattle.std.proofs.Common.{◌≡◌, ◌⊎◌, inl, inr, ℕ, List, [], Option, Some, None, flat_map, Contains}
use Rattle.std.proofs.Common.{refl, sym, subst}
use Rattle.std.specs.List.{slice_set}
use Rattle.sw_list.proofs.Members.{none_in, one_in, in_one, in_flat_map, of_flat_map, stands_at}
use Rattle.sw_list.proofs.Members.{member_at}
use Rattle.sw_value.specs.declared.value.Value.{Value, out-Value}
use Rattle.sw_value.specs.declared.value.Value.TheOpen.{Value-F}
use Rattle.sw_value.specs.declared.value.Value.TheOpen as layer
use Rattle.sw_value.specs.declared.value.Value.TheVariants as value
use Rattle.sw_value.specs.Value.{field_of, layer_field, with_field, layer_with_field, payload_of}
use Rattle.sw_value.specs.Value.{layer_payload, made, reference_of}
use Rattle.sw_reach_facts.specs.Reached.{references}
use Rattle.sw_reach_facts.proofs.ReferenceLemmas.{references-cell, references-void, references-group}
use Rattle.sw_reach_facts.proofs.ReferenceLemmas.{references-case, cell_of}
use Rattle.sw_machine_name_facts.proofs.Items.{of_set}

-- a value that refers to nothing
pub nothing_named : (v : Value) (k : ℕ) → references v ≡ [] → Contains (references v) k → ⊥
nothing_named v k is has = none_in k (subst (λ l. Contains l k) is has)

pub void_names : (k : ℕ) → Contains (references value.Unit) k → ⊥
void_names k = nothing_named value.Unit k (references-void value.Unit value.outs-Unit)

-- a reference names its cell alone
pub reference_names : (c k : ℕ) → Contains (references (value.Cell c)) k → c ≡ k
reference_names c k has =
    one_in c k (subst (λ l. Contains l k)
    (references-cell (value.Cell c) c (value.outs-Cell c)) has)

pub refers : (v : Value) (c : ℕ) → reference_of v ≡ Some c → Contains (references v) c
refers v c is =
    subst (λ l. Contains l c) (sym (references-cell v c (cell_of v c is))) (in_one c)

among : (v : Value) (vs : List Value) (w : Value) (k : ℕ) → references v ≡ flat_map references vs
    → Contains vs w → Contains (references w) k → Contains (references v) k
among v vs w k are has names =
    subst (λ l. Contains l k) (sym are) (in_flat_map references vs w k has names)

-- a part of a struct
pub field_names : (i : ℕ) (v w : Value) (k : ℕ) → field_of i v ≡ Some w
    → Contains (references w) k → Contains (references v) k
field_names i v w k at names = by (out-Value v) refl at where
  by : (l : Value-F Value) → out-Value v ≡ l → layer_field i l ≡ Some w
      → Contains (references v) k
  by (layer.Group vs) is at =
      among v vs w k (references-group v vs is) (member_at vs i w at) names
  by l is at = cc

-- a value of the payload of a case
pub payload_names : (i : ℕ) (v w : Value) (k : ℕ) → payload_of i v ≡ Some w
    → Contains (references w) k → Contains (references v) k
payload_names i v w k at names = by (out-Value v) refl at where
  by : (l : Value-F Value) → out-Value v ≡ l → layer_payload i l ≡ Some w
      → Contains (references v) k
  by (layer.Case tag vs) is at =
      among v vs w k (references-case v tag vs is) (member_at vs i w at) names
  by l is at = cc

-- a struct, or a case with a payload, that is made
made_of : (tag : Option ℕ) (vs : List Value) → references (made tag vs) ≡ flat_map references vs
made_of None vs = references-group (value.Group vs) vs (value.outs-Group vs)
made_of (Some tag) vs = references-case (value.Case tag vs) tag vs (value.outs-Case tag vs)

pub made_names : (tag : Option ℕ) (vs : List Value) (k : ℕ) → Contains (references (made tag vs)) k
    → (v : Value) × Contains vs v × Contains (references v) k
made_names tag vs k has =
    of_flat_map references vs k (subst (λ l. Contains l k) (made_of tag vs) has)

-- a struct with another part
pub with_field_names : (i : ℕ) (w v : Value) (k : ℕ) → Contains (references (with_field i w v)) k
    → Contains (references v) k ⊎ Contains (references w) k
with_field_names i w v k has = by (out-Value v) refl has where
  by : (l : Value-F Value) → out-Value v ≡ l → Contains (references (layer_with_field i w v l)) k
      → Contains (references v) k ⊎ Contains (references w) k
  by (layer.Group vs) is has =
      let found = made_names None (slice_set vs i w) k has in
      let stands = stands_at (slice_set vs i w) found.0 found.1 in
      elim (of_set vs i stands.0 w found.0 stands.1) [
        | inl was ↦
            inl (among v vs found.0 k (references-group v vs is)
            (member_at vs stands.0 found.0 was) found.2)
        | inr (here, same) ↦ inr (subst (λ u. Contains (references u) k) (sym same) found.2)
      ]
  by l is has = inl has
