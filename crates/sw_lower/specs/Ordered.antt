-- The order and the names of bodies.
use Rattle.std.specs.Prelude.{◌≡◌, ℕ, ◌+◌, ◌*◌, List, Some, slice_get, if◌then◌else◌}
use Rattle.sw_lower_bodies.specs.declared.body_tree.BodyTree.{BodyTree}
use Rattle.sw_lower_plans.specs.declared.name.FunctionName.{FunctionName}
use Rattle.sw_lower_rules.specs.Tables.{number_in}

-- by the key, and a getter after what gives a first value
abbrev pub tree_order : BodyTree → ℕ
tree_order tree = 2 * tree.key + (if tree.getter then 1 else 0)

abbrev pub tree_name : BodyTree → FunctionName
tree_name tree = record { key = tree.key; getter = tree.getter }

-- each name is found at its own place
abbrev pub AreFound : List FunctionName → Type 0
AreFound names = (number : ℕ) (name : FunctionName) → slice_get names number ≡ Some name
    → number_in names name ≡ Some number
