-- Keys that differ, and parts of trees.
use Rattle.std.proofs.Common.{◌≡◌, ℕ, suc, ◌⊎◌, inl, inr, Bool, true, false, Some, None}
use Rattle.std.proofs.Common.{List, [], ◌∷◌, ◌++◌, refl, sym, ◌∙◌, subst}
use Rattle.std.proofs.lemmas.Bool.Decides.{eqb_tells}
use Rattle.std.specs.List.{AllByRecursion, IsDistinct}
use Rattle.std.specs.Prelude.{◌==◌, ◌≢◌, nat_eq, if◌then◌else◌}
use Rattle.sw_isolation_rules.specs.declared.note.Capture.{Capture}
use Rattle.sw_lower_plans.specs.Plan.{var_in}
use Rattle.sw_tree_facts.specs.Parts.{IsPart, StandsIn, Tree}
use Rattle.sw_tree_facts.specs.Parts as parts
use Rattle.sw_spots.specs.Making.{AreOnce, IsOne}
use Rattle.sw_spots.specs.Spots.{bound_of, taken_bounds}
use Rattle.sw_spots_tree.specs.Needs.{captured_by}

pub one_first : (xs ys : List ℕ) (key : ℕ) → IsOne xs key → IsOne (xs ++ ys) key
one_first [] ys key one = absurd one
one_first (x ∷ xs) ys key (inl same) = inl same
one_first (x ∷ xs) ys key (inr one) = inr (one_first xs ys key one)

pub one_rest : (xs ys : List ℕ) (key : ℕ) → IsOne ys key → IsOne (xs ++ ys) key
one_rest [] ys key one = one
one_rest (x ∷ xs) ys key one = inr (one_rest xs ys key one)

pub once_first : (xs ys : List ℕ) → AreOnce (xs ++ ys) → AreOnce xs
once_first [] ys once = tt
once_first (x ∷ xs) ys once =
    ((λ one. once.0 (one_first xs ys x one)), once_first xs ys once.1)

pub once_rest : (xs ys : List ℕ) → AreOnce (xs ++ ys) → AreOnce ys
once_rest [] ys once = once
once_rest (x ∷ xs) ys once = once_rest xs ys once.1

pub once_apart : (xs ys : List ℕ) → AreOnce (xs ++ ys) → (key : ℕ) → IsOne xs key → IsOne ys key
    → ⊥
once_apart [] ys once key one other = one
once_apart (x ∷ xs) ys once key (inl same) other =
    once.0 (subst (IsOne (xs ++ ys)) same (one_rest xs ys key other))
once_apart (x ∷ xs) ys once key (inr one) other = once_apart xs ys once.1 key one other

-- The keys of a program's nodes differ, so none of them stands twice.
pub distinct_once : (keys : List ℕ) → IsDistinct nat_eq keys → AreOnce keys
unfolding IsDistinct
distinct_once [] distinct = tt
distinct_once (key ∷ keys) distinct =
    (none keys distinct.0, distinct_once keys distinct.1) where
      none : (others : List ℕ) → AllByRecursion (λ other. nat_eq key other ≡ false) others
          → IsOne others key → ⊥
      none [] all one = absurd one
      none (other ∷ others) all (inl same) =
          by (nat_eq key other) (eqb_tells key other) all.0 where
            by : (is : Bool)
                → ((is ≡ true) × (key ≡ other)) ⊎ ((is ≡ false) × (key ≢ other)) → is ≡ false → ⊥
            by is (inl tells) not = let wrong : true ≡ false = sym tells.0 ∙ not in cc
            by is (inr tells) not = tells.1 same
      none (other ∷ others) all (inr one) = none others all.1 one

-- A variable that isn't taken isn't seen where a body begins.
pub unseen_taken : (r : ℕ) (takes : List ℕ) (key : ℕ) → (IsOne takes key → ⊥)
    → var_in key (taken_bounds r [] takes) ≡ None
unseen_taken r [] key none = refl
unseen_taken r (one ∷ more) key none =
    by (one == key) (eqb_tells one key) (unseen_taken (suc r) more key (λ other. none (inr other))) where
      by : (is : Bool) → ((is ≡ true) × (one ≡ key)) ⊎ ((is ≡ false) × (one ≢ key))
          → var_in key (taken_bounds (suc r) [] more) ≡ None
          → (if is then Some (bound_of one r false) else var_in key (taken_bounds (suc r) [] more))
          ≡ None
      by true (inl tells) rest = absurd (none (inl (sym tells.1)))
      by true (inr tells) rest = absurd (let c : ⊥ = (let wrong : true ≡ false = tells.0 in cc) in c)
      by false tells rest = rest

-- nor is one that isn't captured
pub unseen_held : (r : ℕ) (captures : List Capture) (takes : List ℕ) (key : ℕ)
    → (IsOne (captured_by captures) key → ⊥) → (IsOne takes key → ⊥)
    → var_in key (taken_bounds r captures takes) ≡ None
unseen_held r [] takes key none taken = unseen_taken r takes key taken
unseen_held r (one ∷ more) takes key none taken =
    by (one.variable == key) (eqb_tells one.variable key)
    (unseen_held (suc r) more takes key (λ other. none (inr other)) taken) where
      by : (is : Bool)
          → ((is ≡ true) × (one.variable ≡ key)) ⊎ ((is ≡ false) × (one.variable ≢ key))
          → var_in key (taken_bounds (suc r) more takes) ≡ None
          → (if is then Some (bound_of one.variable r one.by_ref)
          else var_in key (taken_bounds (suc r) more takes)) ≡ None
      by true (inl tells) rest = absurd (none (inl (sym tells.1)))
      by true (inr tells) rest = absurd (let c : ⊥ = (let wrong : true ≡ false = tells.0 in cc) in c)
      by false tells rest = rest

-- what is so of each of some, and of each of others
pub each_first : {A : Type 0} (P : A → Type 0) (xs ys : List A) → AllByRecursion P (xs ++ ys)
    → AllByRecursion P xs
each_first P [] ys all = tt
each_first P (x ∷ xs) ys all = (all.0, each_first P xs ys all.1)

pub each_rest : {A : Type 0} (P : A → Type 0) (xs ys : List A) → AllByRecursion P (xs ++ ys)
    → AllByRecursion P ys
each_rest P [] ys all = all
each_rest P (x ∷ xs) ys all = each_rest P xs ys all.1

-- what stands right in a tree that stands in another stands in that
pub down : (inner part whole : Tree) → IsPart inner part → StandsIn part whole
    → StandsIn inner whole
down inner part _ is (parts.itself _) = parts.inside inner inner part (parts.itself inner) is
down inner part whole is (parts.inside _ outer _ stands next) =
    parts.inside inner outer whole (down inner part outer is stands) next
