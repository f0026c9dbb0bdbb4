-- Names that are all apart are each found at their own place.
use Rattle.std.proofs.Common.{◌≡◌, ℕ, ◌+◌, ◌<◌, ◌≤◌, List, Option, Some, None, Bool, true, false}
use Rattle.std.proofs.Common.{inl, inr, length, map, option_map, slice_get, get_or, refl, ap, sym}
use Rattle.std.proofs.Common.{◌∙◌, arith, drop, subst}
use Rattle.std.proofs.lemmas.Bool.{cases_eq}
use Rattle.std.proofs.lemmas.Option.{same_Some, slice_get-map, slice_get_read, slice_get_within}
use Rattle.std.specs.Prelude.{if◌then◌else◌}
use Rattle.sw_decl_words.specs.Words.{or_else}
use Rattle.sw_lower_plans.specs.Plan.{Numbers}
use Rattle.sw_lower_plans.specs.declared.name.FunctionName.{FunctionName}
use Rattle.sw_lower_bodies.specs.Trees.{bodies_by, body_by}
use Rattle.sw_lower_bodies.specs.declared.body_tree.BodyTree.{BodyTree}
use Rattle.sw_lower_rules.specs.Bodies.{AreNumbered}
use Rattle.sw_lower_rules.specs.Tables.{Tables, is_named, is_same, name_of, number_from, number_in}
use Rattle.sw_lower.specs.Ordered.{AreFound, tree_name}
use Rattle.sw_lower.proofs.Programs.{names_are, next_left}

own_getter : (getter : Bool) → is_same getter getter ≡ true
own_getter true = refl
own_getter false = refl

own_name : (name : FunctionName) → is_named name name ≡ true
own_name name = grind (arith, own_getter name.getter)

noted_then : (before : Option ℕ) (here : Bool) (number : ℕ) (later : Option ℕ)
    → or_else (or_else before (if here then Some number else None)) later
    ≡ or_else before (if here then Some number else later)
noted_then None true number later = refl
noted_then None false number later = refl
noted_then (Some found) here number later = refl

-- what is noted so far, and then what is left to note
pub noted_next : (trees : List BodyTree) (count : ℕ) (tree : BodyTree) (old new : Numbers)
    (name : FunctionName) (whole : Option ℕ) → count < length trees
    → tree ≡ get_or trees count tree
    → ((other : FunctionName) → new other
    ≡ or_else (old other) (if is_named (tree_name tree) other then Some count else None))
    → or_else (old name) (number_from count (map tree_name (drop count trees)) name) ≡ whole
    → or_else (new name) (number_from (count + 1) (map tree_name (drop (count + 1) trees)) name)
    ≡ whole
noted_next trees count tree old new name whole below is noted left =
    let later = number_from (count + 1) (map tree_name (drop (count + 1) trees)) name in
    ap (λ found. or_else found later) (noted name)
    ∙ (noted_then (old name) (is_named (tree_name tree) name) count later
    ∙ (ap (λ list. or_else (old name) (number_from count (map tree_name list) name))
    (sym (next_left trees count tree below is)) ∙ left))

-- The first names, as many as a count, are found at their places.
abbrev pub AreFoundBelow : ℕ → List FunctionName → Numbers → Type 0
AreFoundBelow count names numbers = (number : ℕ) (name : FunctionName) → number < count
    → slice_get names number ≡ Some name → numbers name ≡ Some number

-- one name more
pub found_next : (names : List FunctionName) (count : ℕ) (name : FunctionName) (old new : Numbers)
    → slice_get names count ≡ Some name → old name ≡ None
    → ((other : FunctionName) → new other
    ≡ or_else (old other) (if is_named name other then Some count else None))
    → AreFoundBelow count names old → AreFoundBelow (count + 1) names new
found_next names count name old new here none noted found number other below at =
    elim (cases_eq number count) [
      | inl is ↦
          let same : name ≡ other =
          same_Some name other (sym here ∙ (ap (slice_get names) (sym is) ∙ at)) in
          subst (λ one. new one ≡ Some number) same
          (noted name
          ∙ (ap (λ found. or_else found (if is_named name name then Some count else None)) none
          ∙ (ap (λ own. if own then Some count else None) (own_name name) ∙ ap Some (sym is))))
      | inr isnt ↦
          noted other
          ∙ ap (λ found. or_else found (if is_named name other then Some count else None))
          (found number other (omega (arith, below, isnt)) at)
    ]

-- all names
pub all_found : (names : List FunctionName) (count : ℕ) (numbers : Numbers) → length names ≤ count
    → ((name : FunctionName) → numbers name ≡ number_in names name)
    → AreFoundBelow count names numbers → AreFound names
all_found names count numbers all are found number name at =
    sym (are name)
    ∙ found number name (omega (arith, all, slice_get_within names number name at)) at

-- the name of a tree among those of all
pub name_at : (trees : List BodyTree) (number : ℕ) (tree : BodyTree) → number < length trees
    → tree ≡ get_or trees number tree
    → slice_get (map tree_name trees) number ≡ Some (tree_name tree)
name_at trees number tree below is =
    slice_get-map tree_name trees number
    ∙ ap (option_map tree_name) (slice_get_read trees (length trees) number tree refl below is)

-- The bodies of trees whose names are found are found by their names.
pub bodies_found : (tables : Tables) (trees : List BodyTree) → AreFound (map tree_name trees)
    → AreNumbered (bodies_by tables trees)
unfolding bodies_by
bodies_found tables trees found number body at =
    subst AreFound (sym (names_are tables trees)) found number (name_of body)
    (slice_get-map name_of (map (body_by tables) trees) number ∙ ap (option_map name_of) at)

-- The numbers that were noted are less than a count.
abbrev pub AreBelow : ℕ → Numbers → Type 0
AreBelow count numbers = (name : FunctionName) (number : ℕ) → numbers name ≡ Some number
    → number < count

-- one name more
pub below_next : (count : ℕ) (name : FunctionName) (old new : Numbers)
    → ((other : FunctionName) → new other
    ≡ or_else (old other) (if is_named name other then Some count else None))
    → AreBelow count old → AreBelow (count + 1) new
below_next count name old new noted below other number at =
    by (old other) refl (is_named name other) (sym (noted other) ∙ at) where
      by : (found : Option ℕ) → old other ≡ found → (here : Bool)
          → or_else found (if here then Some count else None) ≡ Some number → number < count + 1
      by (Some found) is here same =
          omega (arith, below other found is, same_Some found number same)
      by None is true same = omega (arith, same_Some count number same)
      by None is false same = cc

-- A name that was noted before isn't found at its own place.
pub noted_twice : (names : List FunctionName) (count : ℕ) (name : FunctionName) (numbers : Numbers)
    (later : Option ℕ) → slice_get names count ≡ Some name → AreBelow count numbers
    → or_else (numbers name) later ≡ number_in names name → (numbers name ≡ None → ⊥)
    → AreFound names → ⊥
noted_twice names count name numbers later at below noted known found =
    by (numbers name) refl (noted ∙ found count name at) where
      by : (before : Option ℕ) → numbers name ≡ before → or_else before later ≡ Some count → ⊥
      by None is same = known is
      by (Some number) is same =
          omega (arith, below name number is, same_Some number count same)
