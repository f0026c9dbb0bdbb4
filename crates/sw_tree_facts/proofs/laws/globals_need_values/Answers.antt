use Rattle.std.proofs.Common.{◌⊎◌, inl, inr, Contains, IsSome, List}
use Rattle.std.proofs.lemmas.List.Elements.{Contains-append_left, Contains-append_right}
use Rattle.std.proofs.lemmas.List.Elements.{Contains-append_cases}
use Rattle.sw_tree.specs.declared.decl.Decl.{Decl}
use Rattle.sw_tree.specs.declared.decl.Decl.TheVariants.{Global}
use Rattle.sw_tree.specs.declared.decl.PropTree.{PropTree}
use Rattle.sw_tree_facts.proofs.laws.globals_need_values.Goals as goal
use Rattle.sw_tree_facts.specs.Values.{AreValued}

one_of_both : (before after : List Decl) (prop : PropTree) → AreValued before → AreValued after
    → Contains before (Global prop) ⊎ Contains after (Global prop) → IsSome prop.value
one_of_both before after prop first second (inl has) = first prop has
one_of_both before after prop first second (inr has) = second prop has

pub returns-clause-appended : goal.returns-clause-appended
returns-clause-appended c before after = (
  λ all. (
    λ prop has. all prop (Contains-append_left before after (Global prop) has),
    λ prop has. all prop (Contains-append_right before after (Global prop) has),
  ),
  λ both prop has. one_of_both before after prop both.0 both.1
      (Contains-append_cases before after (Global prop) has),
)
