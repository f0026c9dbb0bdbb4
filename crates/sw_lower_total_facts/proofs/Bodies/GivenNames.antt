-- Each property of a class or an actor is given a value, by name.
use Rattle.std.proofs.Common.{◌≡◌, ℕ, ◌==◌, Bool, true, false, List, [], ◌∷◌, ◌++◌, map, Option}
use Rattle.std.proofs.Common.{Some, None, Contains, is_some, ◌⊎◌, inl, inr, arith, refl, ap, sym}
use Rattle.std.proofs.Common.{◌∙◌, subst, fold, true≢false}
use Rattle.std.proofs.lemmas.Grind.{common_steps}
use Rattle.std.proofs.lemmas.List.Elements.{Contains-append_left, Contains-append_right}
use Rattle.std.specs.Prelude.{if◌then◌else◌, ◌||◌}
use Rattle.sw_list.proofs.Members.{in_flat_map}
use Rattle.sw_tree.specs.declared.decl.InitTree.{InitTree}
use Rattle.sw_tree.specs.declared.decl.ParamTree.{ParamTree}
use Rattle.sw_tree.specs.declared.decl.PropTree.{PropTree}
use Rattle.sw_tree.specs.declared.expr.Expr.{Expr}
use Rattle.sw_tree.specs.declared.name.Name.{Name}
use Rattle.sw_tree.proofs.Members.{in_map, of_map}
use Rattle.sw_types.specs.declared.shape.Part.{Part}
use Rattle.sw_decl_words.specs.Evident.{Meanings}
use Rattle.sw_decl_words.specs.Shaped.{part_of}
use Rattle.sw_decl_words.specs.declared.placed.Placed.{Placed}
use Rattle.sw_decl_names.specs.Repeats.{earlier, first_place}
use Rattle.sw_decl_values.specs.Profile.{param_names}
use Rattle.sw_decl_values.specs.Values.{has_value, lacking, set_first, without_value}
use Rattle.sw_typing_rules.specs.Programs.{param_var}
use Rattle.sw_typing_rules.specs.Words.{local}
use Rattle.sw_typing_rules.specs.Worlds.{World}
use Rattle.sw_typing_rules.specs.declared.scope.Var.{Var}
use Rattle.sw_lower_rules.specs.Bodies.{first_values, prop_given}
use Rattle.sw_lower_rules.specs.Carriers.{Given}
use Rattle.sw_lower_rules.specs.Statements.{expr_code}
use Rattle.sw_lower_rules.specs.Tables.{Tables}
use Rattle.sw_typing_facts.proofs.Lists.Listed.{in_first, in_rest}
use Rattle.sw_typing_facts.proofs.Programs.NamesApart.{none_of, next}

-- a name that has a place is one of the names
some_earlier : (found : Option ℕ) (at : ℕ) → is_some (earlier found at) ≡ true
some_earlier None at = refl
some_earlier (Some first) at = refl

placed_among : (names : List Name) (found : Option ℕ) (id : ℕ)
    → is_some (fold (next id) found names) ≡ true
    → (is_some found ≡ true) ⊎ Contains (map (λ (name : Name). name.id) names) id
placed_among [] found id is = inl is
placed_among (name ∷ names) found id is =
    elim (placed_among names (next id found name) id is) [
      | inl now ↦ by (name.id == id) refl now
      | inr later ↦ inr (in_rest name.id (map (λ (one : Name). one.id) names) id later)
    ] where
      by : (same : Bool) → (name.id == id) ≡ same
          → is_some (if same then earlier found name.at else found) ≡ true
          → (is_some found ≡ true) ⊎ Contains (map (λ (name : Name). name.id) (name ∷ names)) id
      by true same now =
          let here : name.id ≡ id = grind (arith, common_steps, same) in
          inr (subst (λ other. Contains (map (λ (name : Name). name.id) (name ∷ names)) other) here
          (in_first name.id (map (λ (one : Name). one.id) names)))
      by false same now = inl now

pub place_named : (names : List Name) (id : ℕ) → is_some (first_place names id) ≡ true
    → Contains (map (λ (name : Name). name.id) names) id
place_named names id is = elim (placed_among names None id is) [
  | inl none ↦ absurd (true≢false (sym none))
  | inr has ↦ has
]

-- Parameters are the variables that are seen in an initialiser.
abbrev seen : ℕ → Option Var → Var → Option Var
seen id found one = if one.name == id then Some one else found

agree_from : (world : World) (params : List ParamTree) (place : Option ℕ) (found : Option Var)
    (id : ℕ) → is_some place ≡ is_some found
    → is_some (fold (next id) place (param_names params))
    ≡ is_some (fold (seen id) found (map (param_var world) params))
agree_from world [] place found id same = same
agree_from world (param ∷ params) place found id same =
    agree_from world params (next id place param.name) (seen id found (param_var world param)) id
    (by (param.name.id == id)) where
      by : (is : Bool) → is_some (if is then earlier place param.name.at else place)
          ≡ is_some (if is then Some (param_var world param) else found)
      by true = some_earlier place param.name.at
      by false = same

pub params_agree : (world : World) (params : List ParamTree) (id : ℕ)
    → is_some (first_place (param_names params) id)
    ≡ is_some (local (map (param_var world) params) id)
params_agree world params id = agree_from world params None None id refl

-- a property that isn't reported has a value
has_if : (so : Bool) (one : Placed) → (if so then [] else one ∷ []) ≡ [] → so ≡ true
has_if true one none = refl
has_if false one none = cc

abbrev name_of : Given → ℕ
name_of given = given.name

module _ (tables : Tables) (n : ℕ) (props : List PropTree) where
  -- a name that is among the first values, or among others
  first_named : (gives : List Given) (prop : PropTree) (value : Expr) → Contains props prop
      → prop.value ≡ Some value
      → Contains (map name_of (first_values tables n props ++ gives)) prop.word.id
  first_named gives prop value has is =
      in_map name_of (first_values tables n props ++ gives) given
      (Contains-append_left (first_values tables n props) gives given
      (in_flat_map (λ (prop : PropTree). prop_given tables n prop prop.value) props prop given has
      (subst (λ found. Contains (prop_given tables n prop found) given) (sym is)
      (in_first given [])))) where
        given : Given
        given = record { name = prop.word.id; read = (expr_code tables (Some n) value).read }

  later_named : (gives : List Given) (id : ℕ) → Contains (map name_of gives) id
      → Contains (map name_of (first_values tables n props ++ gives)) id
  later_named gives id has =
      let (given, among, is) = of_map name_of gives id has in
      subst (λ name. Contains (map name_of (first_values tables n props ++ gives)) name) is
      (in_map name_of (first_values tables n props ++ gives) given
      (Contains-append_right (first_values tables n props) gives given among))

  prop_named : (inits : List InitTree) (gives : List Given)
      → map name_of gives ≡ map (λ (name : Name). name.id) (set_first inits)
      → without_value props inits ≡ [] → (prop : PropTree) → Contains props prop
      → Contains (map name_of (first_values tables n props ++ gives)) prop.word.id
  prop_named inits gives names valued prop has =
      by prop.value refl
      (has_if (has_value (first_place (set_first inits)) prop)
      (record { at = prop.word.at; code = 305 })
      (none_of (lacking (first_place (set_first inits))) props prop valued has)) where
        by : (found : Option Expr) → prop.value ≡ found
            → has_value (first_place (set_first inits)) prop ≡ true
            → Contains (map name_of (first_values tables n props ++ gives)) prop.word.id
        by None is so =
            later_named gives prop.word.id
            (subst (λ names. Contains names prop.word.id) (sym names)
            (place_named (set_first inits) prop.word.id
            (sym (ap (λ found. is_some found
            || is_some (first_place (set_first inits) prop.word.id)) is) ∙ so)))
        by (Some value) is so = first_named gives prop value has is

  -- Each part of the shape has a name among those of what is given.
  pub parts_named : (known : Meanings) (inits : List InitTree) (gives : List Given)
      → map name_of gives ≡ map (λ (name : Name). name.id) (set_first inits)
      → without_value props inits ≡ [] → (parts : List Part)
      → parts ≡ map (part_of known (Some n)) props → (part : Part) → Contains parts part
      → Contains (map name_of (first_values tables n props ++ gives)) part.name
  parts_named known inits gives names valued parts are part has =
      let (prop, among, is) = of_map (part_of known (Some n)) props part
      (subst (λ all. Contains all part) are has) in
      subst (λ (one : Part). Contains (map name_of (first_values tables n props ++ gives))
      one.name) is (prop_named inits gives names valued prop among)
