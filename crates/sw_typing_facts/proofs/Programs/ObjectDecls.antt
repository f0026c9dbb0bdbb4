-- What no breach of a rule says of a class or an actor: names of properties differ, first values
-- are simple, and there is one initialiser at most, whose statements are of one form.
use Rattle.std.proofs.Common.{◌≡◌, ℕ, ◌≤◌, Bool, true, List, [], ◌∷◌, ◌++◌, Option, Some, None, map}
use Rattle.std.proofs.Common.{flat_map, Contains, refl, ap, subst, arith, ◌&&◌}
use Rattle.sw_tree.proofs.Counting.{hits, hits_same, in_all}
use Rattle.sw_tree.proofs.KeyCounts as counts
use Rattle.sw_tree.proofs.KeyCounts.{in_expr, in_prop, in_prop-is}
use Rattle.sw_tree.specs.Contents.{AreKeyed}
use Rattle.sw_tree.specs.NodeKey.{expr_key}
use Rattle.sw_tree.specs.declared.decl.Decl.{Decl}
use Rattle.sw_tree.specs.declared.decl.Decl.TheVariants.{Actor, Class}
use Rattle.sw_tree.specs.declared.decl.FuncTree.{FuncTree}
use Rattle.sw_tree.specs.declared.decl.InitTree.{InitTree}
use Rattle.sw_tree.specs.declared.decl.PropTree.{PropTree}
use Rattle.sw_tree.specs.declared.decl.Written.{Written}
use Rattle.sw_tree.specs.declared.expr.Expr.{Expr}
use Rattle.sw_tree.specs.declared.name.Name.{Name}
use Rattle.sw_tree.proofs.Members.{in_map}
use Rattle.sw_decl_words.specs.Evident.{Meanings, meanings_of}
use Rattle.sw_decl_words.specs.Words.{top_meaning}
use Rattle.sw_decl_words.specs.declared.words.Meaning.{Meaning}
use Rattle.sw_decl_names.specs.Repeats.{repeats}
use Rattle.sw_decl_members.specs.Members as members
use Rattle.sw_decl_members.specs.Members.{func_words, later_inits, prop_words}
use Rattle.sw_decl_values.specs.Profile as profile
use Rattle.sw_decl_values.specs.Profile.{first_value, in_stmts, no_params, outside, value_found}
use Rattle.sw_decl_values.specs.Simple.{is_simple}
use Rattle.sw_decl_values.specs.Values.{without_value}
use Rattle.sw_decls.specs.Declaring.{IsFirstBreach}
use Rattle.sw_typing_rules.proofs.Steps.{and_left}
use Rattle.std.proofs.lemmas.List.Elements.{Contains-append_left}
use Rattle.sw_typing_facts.proofs.Programs.DeclStands.{none_left, none_right, sound_names}
use Rattle.sw_typing_facts.proofs.Programs.DeclStands.{sound_values}
use Rattle.sw_typing_facts.proofs.Programs.Keyed.{counted_where, key_once, one_item}
use Rattle.sw_typing_facts.proofs.Programs.NamesApart.{none_of, one_place_of}
use Rattle.sw_typing_facts.proofs.Programs.OwnAssigns.{simple_if}
use Rattle.sw_typing_facts.proofs.Programs.Standing.{Stands}

-- a class or an actor that breaches no rule
pub record ObjectOk (known : Meanings) (n : ℕ) (props : List PropTree) (inits : List InitTree)
    : Type 0 where
  pub names : (one other : PropTree) → Contains props one → Contains props other
      → one.word.id ≡ other.word.id → one ≡ other
  pub firsts : (prop : PropTree) (value : Expr) → Contains props prop → prop.value ≡ Some value
      → is_simple known (Some n) no_params value ≡ true
  pub single : (init : InitTree) (more : List InitTree) → inits ≡ init ∷ more → more ≡ []
  pub stmts : (init : InitTree) (more : List InitTree) → inits ≡ init ∷ more
      → in_stmts known n props init.params init.body.stmts ≡ []

none_of_map : {X Y : Type 0} (f : X → Y) (xs : List X) → map f xs ≡ [] → xs ≡ []
none_of_map f [] none = refl
none_of_map f (x ∷ xs) none = cc

simple_by : (known : Meanings) (n : ℕ) (prop : PropTree) (value : Expr)
    → first_value known (Some n) prop ≡ [] → prop.value ≡ Some value
    → is_simple known (Some n) no_params value ≡ true
simple_by known n prop value none is =
    and_left (is_simple known (Some n) no_params value)
    (profile.is_typed known (Some n) prop.ty value)
    (simple_if (is_simple known (Some n) no_params value
    && profile.is_typed known (Some n) prop.ty value) (expr_key value)
    (subst (λ found. value_found known (Some n) no_params prop.ty found ≡ []) is none))

module _ (decls : List Decl) (keyed : AreKeyed decls) (n g : ℕ) (decl : Decl)
    (stands : Stands decls n g decl) (props : List PropTree) (inits : List InitTree)
    (funcs : List FuncTree)
    (counted : (k : ℕ) → in_all in_prop props k ≤ counts.in_decl decl k) where
  -- properties with one name are one
  names_by : repeats (prop_words props ++ func_words funcs) ≡ [] → (one other : PropTree)
      → Contains props one → Contains props other → one.word.id ≡ other.word.id → one ≡ other
  names_by none one other has holds same =
      let place = one_place_of (prop_words props ++ func_words funcs) one.word other.word none
      (Contains-append_left (prop_words props) (func_words funcs) one.word
      (in_map (λ (prop : PropTree). prop.word) props one has))
      (Contains-append_left (prop_words props) (func_words funcs) other.word
      (in_map (λ (prop : PropTree). prop.word) props other holds)) same in
      let k = other.word.at in
      one_item in_prop props one other k
      (omega (arith, counted k, counted_where 0 0 decls n g decl k stands, key_once decls keyed k))
      has holds
      (omega (arith, in_prop-is one k, hits_same k, ap (λ at. hits at k) place))
      (omega (arith, in_prop-is other k, hits_same k))

  object_by : members.in_object (top_meaning decls) props inits funcs ≡ []
      → profile.in_object (meanings_of decls) n props inits ≡ []
      → ObjectOk (meanings_of decls) n props inits
  unfolding members.in_object profile.in_object
  object_by named valued = record {
    names = names_by (none_right (later_inits inits) _ later);
    firsts = λ prop value has is.
        simple_by known n prop value (none_of (first_value known (Some n)) props prop
        (none_left (flat_map (first_value known (Some n)) props) _ values) has) is;
    single = λ init more is.
        none_of_map (λ (init : InitTree). record { at = init.at; code = 301 }) more
        (subst (λ all. later_inits all ≡ []) is (none_left (later_inits inits) _ later));
    stmts = λ init more is.
        subst (λ all. profile.in_first_init known n props all ≡ []) is
        (none_right (flat_map (first_value known (Some n)) props) _ values);
  } where
    known : Meanings
    known = meanings_of decls

    top : ℕ → Option Meaning
    top = top_meaning decls

    later : later_inits inits ++ repeats (prop_words props ++ func_words funcs) ≡ []
    later = none_right (members.in_funcs top funcs) _
        (none_right (members.in_inits top inits) _
        (none_right (members.in_props top props) _ named))

    values : flat_map (first_value known (Some n)) props
        ++ profile.in_first_init known n props inits ≡ []
    values = none_right (without_value props inits) _ valued

module _ (decls : List Decl) (keyed : AreKeyed decls) (sound : IsFirstBreach decls None) (n g : ℕ)
  where
    -- a class
    pub class_ok : (written : Written) (word : Name) (conforms : Bool) (props : List PropTree)
        (inits : List InitTree) (funcs : List FuncTree)
        → Stands decls n g (Class written word conforms props inits funcs)
        → ObjectOk (meanings_of decls) n props inits
    unfolding members.in_decl profile.values_of
    class_ok written word conforms props inits funcs stands =
        let decl = Class written word conforms props inits funcs in
        object_by decls keyed n g decl stands props inits funcs
        (λ k. omega (arith, counts.in_decl-Class written word conforms props inits funcs k))
        (none_right (members.funcs_written (top_meaning decls) funcs) _
        (none_right (members.bad_written (top_meaning decls) written) _
        (sound_names decls sound n g decl stands)))
        (sound_values decls sound n g decl stands)

    -- an actor
    pub actor_ok : (word : Name) (props : List PropTree) (inits : List InitTree)
        (funcs : List FuncTree) → Stands decls n g (Actor word props inits funcs)
        → ObjectOk (meanings_of decls) n props inits
    unfolding members.in_decl profile.values_of
    actor_ok word props inits funcs stands =
        let decl = Actor word props inits funcs in
        object_by decls keyed n g decl stands props inits funcs
        (λ k. omega (arith, counts.in_decl-Actor word props inits funcs k))
        (none_right (members.funcs_in_actor funcs) _ (sound_names decls sound n g decl stands))
        (sound_values decls sound n g decl stands)

-- A class or an actor that breaches no rule has a value for each property.
module _ (decls : List Decl) (sound : IsFirstBreach decls None) (n g : ℕ) where
  pub class_valued : (written : Written) (word : Name) (conforms : Bool) (props : List PropTree)
      (inits : List InitTree) (funcs : List FuncTree)
      → Stands decls n g (Class written word conforms props inits funcs)
      → without_value props inits ≡ []
  unfolding profile.values_of profile.in_object
  class_valued written word conforms props inits funcs stands =
      none_left (without_value props inits) _ (sound_values decls sound n g
      (Class written word conforms props inits funcs) stands)

  pub actor_valued : (word : Name) (props : List PropTree) (inits : List InitTree)
      (funcs : List FuncTree) → Stands decls n g (Actor word props inits funcs)
      → without_value props inits ≡ []
  unfolding profile.values_of profile.in_object
  actor_valued word props inits funcs stands =
      none_left (without_value props inits) _ (sound_values decls sound n g
      (Actor word props inits funcs) stands)
