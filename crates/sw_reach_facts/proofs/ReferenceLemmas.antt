-- The references of a value, by what it is made of.
use Rattle.std.proofs.Common.{◌≡◌, ℕ, ℤ, Bool, List, [], ◌∷◌, flat_map, Some, sym, ap, ◌∙◌}
use Rattle.sw_list.proofs.ListLemmas.{some_injective}
use Rattle.sw_list.proofs.Members.{concat-map}
use Rattle.sw_value.specs.declared.value.Value.{Value, out-Value, roll-Value, roll-out-Value}
use Rattle.sw_value.specs.declared.value.Value.{fold-roll-Value}
use Rattle.sw_value.specs.declared.value.Value.TheOpen as layer
use Rattle.sw_value.specs.Value.{reference_of, layer_reference}
use Rattle.sw_reach_facts.specs.Reached.{layer_references, references}

unrolled : (v : Value) (l : layer.Value-F Value) → out-Value v ≡ l
    → references v ≡ references (roll-Value l)
unrolled v l is = ap references (sym (roll-out-Value v) ∙ ap roll-Value is)

pub references-cell : (v : Value) (c : ℕ) → out-Value v ≡ layer.Cell c → references v ≡ c ∷ []
references-cell v c is =
    unrolled v (layer.Cell c) is ∙ fold-roll-Value (List ℕ) layer_references (layer.Cell c)

pub references-int : (v : Value) (n : ℤ) → out-Value v ≡ layer.Int n → references v ≡ []
references-int v n is =
    unrolled v (layer.Int n) is ∙ fold-roll-Value (List ℕ) layer_references (layer.Int n)

pub references-truth : (v : Value) (b : Bool) → out-Value v ≡ layer.Bool b → references v ≡ []
references-truth v b is =
    unrolled v (layer.Bool b) is ∙ fold-roll-Value (List ℕ) layer_references (layer.Bool b)

pub references-void : (v : Value) → out-Value v ≡ layer.Unit → references v ≡ []
references-void v is =
    unrolled v layer.Unit is ∙ fold-roll-Value (List ℕ) layer_references layer.Unit

pub references-group : (v : Value) (vs : List Value) → out-Value v ≡ layer.Group vs
    → references v ≡ flat_map references vs
references-group v vs is =
    unrolled v (layer.Group vs) is
    ∙ fold-roll-Value (List ℕ) layer_references (layer.Group vs) ∙ concat-map references vs

pub references-case : (v : Value) (tag : ℕ) (vs : List Value) → out-Value v ≡ layer.Case tag vs
    → references v ≡ flat_map references vs
references-case v tag vs is =
    unrolled v (layer.Case tag vs) is
    ∙ fold-roll-Value (List ℕ) layer_references (layer.Case tag vs) ∙ concat-map references vs

-- the layer of a value that refers to a cell
pub cell_of : (v : Value) (c : ℕ) → reference_of v ≡ Some c → out-Value v ≡ layer.Cell c
cell_of v c is = by (out-Value v) is where
  by : (l : layer.Value-F Value) → layer_reference l ≡ Some c → l ≡ layer.Cell c
  by (layer.Cell d) is = ap layer.Cell (some_injective is)
  by (layer.Int n) is = cc
  by (layer.Bool b) is = cc
  by layer.Unit is = cc
  by (layer.Group vs) is = cc
  by (layer.Case tag vs) is = cc
