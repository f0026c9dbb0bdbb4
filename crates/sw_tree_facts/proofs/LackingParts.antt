-- A tree in which no task has a parameter and no chain is without an operator has nothing unwritten
-- where its parts, which are such trees too, have nothing.
use Rattle.std.proofs.Common.{◌≡◌, List, [], ◌∷◌, map, flat_map, Contains}
use Rattle.std.proofs.Common.{Option, None, Some, option_map, unwrap_or, refl}
use Rattle.std.proofs.lemmas.List.Elements.{All-contains_itself, All-weaker, recursion_from_All}
use Rattle.std.specs.List.{AllByRecursion}
use Rattle.sw_tree.proofs.TreeInduction.{Given}
use Rattle.sw_tree.specs.Keys.{joined}
use Rattle.sw_tree.specs.declared.expr.Expr.TheVariants as exprs
use Rattle.sw_tree_facts.proofs.EmptyLists.{none_joined, none_flat}
use Rattle.sw_tree_facts.proofs.PartsWritten.{IsWritten, in_tree}
use Rattle.sw_tree_facts.specs.Parts.{Tree, of_expr, IsPart, TasksTakeNothing, ChainsHaveOperators}
use Rattle.sw_tree_facts.specs.Parts as parts

-- what is asked of the tasks and chains in a tree
abbrev pub LacksForms : Tree → Type 0
LacksForms tree = TasksTakeNothing tree × ChainsHaveOperators tree

-- what is asked of a tree is asked of its parts
lacks_in : (part whole : Tree) → IsPart part whole → LacksForms whole → LacksForms part
lacks_in part whole is lacks = (
  λ at detached body stands. lacks.0 at detached body
      (parts.inside (of_expr (exprs.Spawn at detached body)) part whole stands is),
  λ first rest stands. lacks.1 first rest
      (parts.inside (of_expr (exprs.Chain first rest)) part whole stands is),
)

-- A tree that lacks both forms has nothing unwritten.
abbrev pub IsEnough : Tree → Type 0
IsEnough tree = LacksForms tree → IsWritten tree

-- so a part of a tree that lacks both has nothing unwritten
pub by_part : {part whole : Tree} → IsEnough part → IsPart part whole → LacksForms whole
    → IsWritten part
by_part {part} {whole} enough is lacks = enough (lacks_in part whole is lacks)

-- the items of a list are parts of a tree
abbrev AreParts : {X : Type 0} → (X → Tree) → Tree → List X → Type 0
AreParts {X} of whole xs = (x : X) → Contains xs x → IsPart (of x) whole

every_enough : {X : Type 0} (of : X → Tree) (xs : List X) → ((x : X) → IsEnough (of x))
    → AllByRecursion (λ x. IsEnough (of x)) xs
every_enough of [] enough = tt
every_enough of (x ∷ xs) enough = (enough x, every_enough of xs enough)

module _ {X : Type 0} (of : X → Tree) {whole : Tree} where
  each_written : (xs : List X) → AllByRecursion (λ x. IsEnough (of x)) xs
      → AllByRecursion (λ x. IsPart (of x) whole) xs → LacksForms whole
      → AllByRecursion (λ x. IsWritten (of x)) xs
  each_written [] enough are lacks = tt
  each_written (x ∷ xs) enough are lacks =
      (by_part enough.0 are.0 lacks, each_written xs enough.1 are.1 lacks)

  each_is_part : (xs : List X) → AreParts of whole xs → AllByRecursion (λ x. IsPart (of x) whole) xs
  each_is_part xs are =
      recursion_from_All (λ x. IsPart (of x) whole) xs
      (All-weaker (Contains xs) (λ x. IsPart (of x) whole) are xs (All-contains_itself xs))

  pub parts_joined : (xs : List X) → AllByRecursion (λ x. IsEnough (of x)) xs
      → AreParts of whole xs → LacksForms whole → joined (map (λ x. in_tree (of x)) xs) ≡ []
  parts_joined xs enough are lacks =
      none_joined (λ x. in_tree (of x)) xs (each_written xs enough (each_is_part xs are) lacks)

  pub parts_flat : (xs : List X) → ((x : X) → IsEnough (of x)) → AreParts of whole xs
      → LacksForms whole → flat_map (λ x. in_tree (of x)) xs ≡ []
  parts_flat xs enough are lacks =
      none_flat (λ x. in_tree (of x)) xs
      (each_written xs (every_enough of xs enough) (each_is_part xs are) lacks)

  -- and an item that may be there
  pub part_given : (x : Option X) → Given (λ x. IsEnough (of x)) x
      → ((y : X) → x ≡ Some y → IsPart (of y) whole) → LacksForms whole
      → unwrap_or (option_map (λ x. in_tree (of x)) x) [] ≡ []
  part_given None enough is lacks = refl
  part_given (Some x) enough is lacks = by_part enough (is x refl) lacks
