-- The first values of global variables and of properties are quiet.
use Rattle.std.proofs.Common.{◌≡◌, ℕ, true, List, [], ◌∷◌, Option, Some, None, flat_map}
use Rattle.std.proofs.Common.{Contains, refl, sym, subst, ◌&&◌}
use Rattle.std.proofs.lemmas.List.Elements.{All-nil}
use Rattle.sw_list.proofs.Members.{in_flat_map}
use Rattle.sw_tree.specs.NodeKey.{expr_key}
use Rattle.sw_tree.specs.declared.decl.Decl.{Decl}
use Rattle.sw_tree.specs.declared.decl.Decl.TheVariants.{Global}
use Rattle.sw_tree.specs.declared.decl.PropTree.{PropTree}
use Rattle.sw_tree.specs.declared.expr.Expr.{Expr}
use Rattle.sw_types.specs.Accepts.{is_marked}
use Rattle.sw_decl_words.specs.Evident.{Meanings, meanings_of}
use Rattle.sw_decl_words.specs.Shaped.{prop_type}
use Rattle.sw_decl_values.specs.Profile as profile
use Rattle.sw_decl_values.specs.Profile.{no_params, value_found}
use Rattle.sw_decl_values.specs.Simple.{is_simple}
use Rattle.sw_decls.specs.declared.signature.AsyncDefault.{AsyncDefault}
use Rattle.sw_typing_rules.specs.Expressions.{Judged}
use Rattle.sw_typing_rules.specs.Judging.{judge}
use Rattle.sw_typing_rules.specs.Programs.{ValueOf, first_value, prop_value, value_setting}
use Rattle.sw_typing_rules.specs.Programs.{values_from, values_of}
use Rattle.sw_typing_rules.specs.Worlds.{World}
use Rattle.sw_typing_rules.proofs.Sound.{judges}
use Rattle.sw_typing_rules.proofs.Steps.{and_left}
use Rattle.sw_lower_plans.specs.Plan.{Numbers}
use Rattle.sw_lower_rules.specs.Bodies.{first_values, prop_given}
use Rattle.sw_lower_rules.specs.Carriers.{Given}
use Rattle.sw_lower_rules.specs.Statements.{expr_code}
use Rattle.sw_lower_rules.specs.Tables.{Tables}
use Rattle.sw_lower_formed_facts.specs.Forms.{VarHolds}
use Rattle.sw_typing_facts.proofs.Lists.Listed.{in_first, in_rest}
use Rattle.sw_typing_facts.proofs.Programs.DeclStands.{known_is, sound_values, value_stands}
use Rattle.sw_typing_facts.proofs.Programs.OwnAssigns.{simple_if}
use Rattle.sw_typing_facts.proofs.Programs.Standing.{Stands}
use Rattle.sw_lower_formed_facts.proofs.Said.RowsOf.{value_rows_hold}
use Rattle.sw_lower_total_facts.specs.Programs.{IsWelltyped, noted_tables}
use Rattle.sw_lower_first_facts.specs.Quiet.{WritesQuiet}
use Rattle.sw_lower_first_facts.proofs.Flowing.Joining.{all_joined}
use Rattle.sw_lower_first_facts.proofs.Quiet.Inits.{GivesQuiet}
use Rattle.sw_lower_first_facts.proofs.Quiet.Simple.{simple_quiet}

-- The first value of a global variable that breaches no rule is simple.
global_simple : (known : Meanings) (prop : PropTree) (value : Expr)
    → profile.first_value known None prop ≡ [] → prop.value ≡ Some value
    → is_simple known None no_params value ≡ true
global_simple known prop value none is =
    and_left (is_simple known None no_params value)
    (profile.is_typed known None prop.ty value)
    (simple_if (is_simple known None no_params value
    && profile.is_typed known None prop.ty value) (expr_key value)
    (subst (λ found. value_found known None no_params prop.ty found ≡ []) is none))

module _ (decls : List Decl) (rule : AsyncDefault) (world : World)
    (is : IsWelltyped decls rule world) (numbers : Numbers) where
  abbrev tables : Tables
  tables = noted_tables world decls

  -- a first value of the program
  abbrev value_with : Option ℕ → PropTree → Expr → ValueOf
  value_with owner prop value = record {
    at = prop.word.at;
    owner = owner;
    wanted = prop_type world.known owner prop;
    value = value;
  }

  value_quiet : (owner : Option ℕ) (prop : PropTree) (value : Expr)
      → Contains (values_from world 0 decls) (value_with owner prop value)
      → is_simple (meanings_of decls) owner no_params value ≡ true
      → WritesQuiet tables numbers (expr_code tables owner value).read
  value_quiet owner prop value stands simple =
      let made = value_with owner prop value in
      let judged : Judged = judge world value (value_setting made) (is_marked made.wanted) in
      let derived = judges world (value_setting made) (is_marked made.wanted) value in
      simple_quiet tables numbers (value_setting made) no_params (λ id. refl)
      (All-nil (VarHolds tables.answers)) (is_marked made.wanted) value judged derived
      (value_rows_hold world decls is.keyed is.well made judged stands derived)
      (subst (λ known. is_simple known owner no_params value ≡ true)
      (sym (known_is decls rule world is.declared)) simple)

  prop_has : (owner : Option ℕ) (prop : PropTree) (value : Expr) → prop.value ≡ Some value
      → Contains (prop_value world owner prop) (value_with owner prop value)
  prop_has owner prop value value_is =
      subst (λ found. Contains (first_value world owner prop found) (value_with owner prop value))
      (sym value_is) (in_first (value_with owner prop value) [])

  -- the first value of a global variable
  pub global_quiet : (n g : ℕ) (prop : PropTree) (value : Expr) → Stands decls n g (Global prop)
      → prop.value ≡ Some value → WritesQuiet tables numbers (expr_code tables None value).read
  unfolding values_of profile.values_of
  global_quiet n g prop value stands value_is =
      value_quiet None prop value
      (value_stands world decls n g (Global prop) (value_with None prop value) stands
      (prop_has None prop value value_is))
      (global_simple (meanings_of decls) prop value
      (sound_values decls is.sound n g (Global prop) stands) value_is)

  -- those of the properties of a class or an actor
  module _ (n : ℕ) (props : List PropTree)
      (simple : (prop : PropTree) (value : Expr) → Contains props prop → prop.value ≡ Some value
      → is_simple (meanings_of decls) (Some n) no_params value ≡ true)
      (stand : (value : ValueOf) → Contains (flat_map (prop_value world (Some n)) props) value
      → Contains (values_from world 0 decls) value) where
    given_quiet : (prop : PropTree) → Contains props prop → (found : Option Expr)
        → prop.value ≡ found → GivesQuiet tables numbers (prop_given tables n prop found)
    given_quiet prop has None value_is = tt
    given_quiet prop has (Some value) value_is = (
      value_quiet (Some n) prop value
          (stand (value_with (Some n) prop value)
          (in_flat_map (prop_value world (Some n)) props prop (value_with (Some n) prop value) has
          (prop_has (Some n) prop value value_is)))
          (simple prop value has value_is),
      tt,
    )

    some_quiet : (some : List PropTree)
        → ((prop : PropTree) → Contains some prop → Contains props prop)
        → GivesQuiet tables numbers (first_values tables n some)
    some_quiet [] among = tt
    some_quiet (prop ∷ some) among =
        all_joined (λ (one : Given). WritesQuiet tables numbers one.read)
        (prop_given tables n prop prop.value) (first_values tables n some)
        (given_quiet prop (among prop (in_first prop some)) prop.value refl)
        (some_quiet some (λ one has. among one (in_rest prop some one has)))

    pub firsts_quiet : GivesQuiet tables numbers (first_values tables n props)
    firsts_quiet = some_quiet props (λ prop has. has)
