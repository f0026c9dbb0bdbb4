-- How often names stand in a list.
use Rattle.std.specs.Prelude.{ℕ, Bool, true, false, ◌==◌, List, Option, Some, None, fold}
use Rattle.std.specs.Prelude.{if◌then◌else◌}
use Rattle.sw_tree.specs.declared.name.Name.{Name}
use Rattle.sw_decl_values.specs.declared.counts.Times.{Times}
use Rattle.sw_decl_values.specs.declared.counts.Times.TheVariants.{Once, More}

-- one more time
abbrev pub one_more : Option Times → Times
one_more None = Once
one_more (Some times) = More

-- how often a name stands in a list, if it does
abbrev pub times_in : List Name → ℕ → Option Times
times_in names id =
    fold (λ found (name : Name). if name.id == id then Some (one_more found) else found) None names

abbrev pub is_once : Option Times → Bool
is_once None = false
is_once (Some Once) = true
is_once (Some More) = false
