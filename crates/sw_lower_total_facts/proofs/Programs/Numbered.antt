-- Each body of a program has a number.
use Rattle.std.proofs.Common.{◌≡◌, ℕ, zero, suc, ◌+◌, Bool, true, false, List, [], ◌∷◌, Some, map}
use Rattle.std.proofs.Common.{Contains, refl, ap, sym, ◌∙◌, subst, arith}
use Rattle.std.proofs.lemmas.Bool.{eq-eqb}
use Rattle.std.proofs.lemmas.List.Elements.{All-contains_itself}
use Rattle.std.proofs.lemmas.List.Sorted.{Contains-permutation}
use Rattle.std.specs.Prelude.{All, IsSome, ◌&&◌, if◌then◌else◌}
use Rattle.sw_list.proofs.Members.{none_in}
use Rattle.sw_tree.specs.declared.decl.Decl.{Decl}
use Rattle.sw_tree.proofs.Members.{in_map}
use Rattle.sw_lower_plans.specs.declared.name.FunctionName.{FunctionName}
use Rattle.sw_lower_code.specs.Whole.{Body}
use Rattle.sw_lower_rules.specs.Bodies.{AreOrdered, numbers_of, program_bodies}
use Rattle.sw_lower_rules.specs.Tables.{Tables, is_named, is_same, name_of, number_from}
use Rattle.sw_lower_total_facts.specs.Proceeding.{BodyIsNumbered}

same_itself : (getter : Bool) → is_same getter getter ≡ true
same_itself true = refl
same_itself false = refl

-- A name is the same as itself.
pub named_itself : (name : FunctionName) → is_named name name ≡ true
named_itself name =
    ap (λ keys. keys && is_same name.getter name.getter) (eq-eqb name.key name.key refl)
    ∙ same_itself name.getter

-- A name that is listed has a number.
number_some : (from : ℕ) (names : List FunctionName) (name : FunctionName) → Contains names name
    → IsSome (number_from from names name)
number_some from [] name has = absurd (none_in name has)
number_some from (one ∷ names) name (zero, below, same) =
    subst (λ test. IsSome (if test then Some from else number_from (from + 1) names name))
    (sym (ap (λ other. is_named other name) same ∙ named_itself name)) refl
number_some from (one ∷ names) name (suc k, below, same) =
    by (is_named one name) (number_some (from + 1) names name (k, omega (arith, below), same)) where
      by : (test : Bool) → IsSome (number_from (from + 1) names name)
          → IsSome (if test then Some from else number_from (from + 1) names name)
      by true later = refl
      by false later = later

module _ (tables : Tables) (decls : List Decl) (ordered : List Body)
    (are : AreOrdered tables decls ordered) where
  -- a body of the program has a number
  pub body_numbered : (body : Body) → Contains (program_bodies tables decls) body
      → IsSome (numbers_of ordered (name_of body))
  body_numbered body has =
      number_some 0 (map name_of ordered) (name_of body)
      (in_map name_of ordered body
      (Contains-permutation (program_bodies tables decls) ordered body are.bodies has))

  -- and so has a name that is that of a body
  pub name_numbered : (body : Body) (name : FunctionName)
      → Contains (program_bodies tables decls) body → name_of body ≡ name
      → IsSome (numbers_of ordered name)
  name_numbered body name has named =
      subst (λ one. IsSome (numbers_of ordered one)) named (body_numbered body has)

  -- Each body of a program has a number.
  pub bodies_are_numbered : All (BodyIsNumbered (numbers_of ordered)) (program_bodies tables decls)
  bodies_are_numbered k d below =
      body_numbered _ (All-contains_itself (program_bodies tables decls) k d below)
