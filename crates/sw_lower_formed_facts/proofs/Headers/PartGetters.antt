-- Getters of properties are found by the keys of these.
use Rattle.std.proofs.Common.{◌≡◌, ℕ, ◌+◌, Some, List, [], ◌∷◌, length, flat_map, ◌⊎◌}
use Rattle.std.proofs.Common.{inl, inr, refl, ap, sym, ◌∙◌, subst, arith}
use Rattle.std.proofs.lemmas.Option.{same_Some, slice_get-map}
use Rattle.std.specs.Prelude.{slice_get}
use Rattle.sw_tree.proofs.KeyCounts.{in_prop}
use Rattle.sw_tree.specs.Contents.{AreKeyed}
use Rattle.sw_tree.specs.declared.decl.Decl.{Decl}
use Rattle.sw_tree.specs.declared.decl.Decl.TheVariants.{Entry, Struct, Enum, Class, Actor}
use Rattle.sw_tree.specs.declared.decl.Decl.TheVariants.{GlobalActor, Func, Global}
use Rattle.sw_tree.specs.declared.decl.PropTree.{PropTree}
use Rattle.sw_types.specs.declared.shape.Part.{Part}
use Rattle.sw_types.specs.declared.shape.Shape.{Shape}
use Rattle.sw_types.specs.declared.ty.Ty.TheVariants as types
use Rattle.sw_graph.specs.declared.function.RegKind.TheVariants.{Plain}
use Rattle.sw_decl_words.proofs.WithinLemmas.{one_shape}
use Rattle.sw_decl_words.specs.Words.{shapes_made}
use Rattle.sw_decls.specs.declared.signature.AsyncDefault.{AsyncDefault}
use Rattle.sw_typing_rules.specs.Worlds.{IsWorldOf, World}
use Rattle.sw_isolation_rules.specs.Answers.{Answers}
use Rattle.sw_lower_code.specs.Whole.{Body}
use Rattle.sw_lower_rules.specs.Bodies.{AreNumbered, AreOrdered, functions_of, numbers_of}
use Rattle.sw_lower_rules.specs.Bodies.{tables_of}
use Rattle.sw_lower_rules.specs.Tables.{Isolation, Tables, getter_of, part_key_in, prop_keys}
use Rattle.sw_lower_rules.specs.Tables.{shape_keys}
use Rattle.sw_lower_formed_facts.specs.Ground.{IsHeader}
use Rattle.sw_lower_formed_facts.proofs.Functions.Takes.{kinds_of}
use Rattle.sw_lower_formed_facts.proofs.Headers.ByName.{header_as}
use Rattle.sw_lower_formed_facts.proofs.Headers.FoundGetters.{GetterAt, getter_at}
use Rattle.sw_lower_formed_facts.proofs.Headers.Getters.{GlobalGetter, IsObjectDecl, PartGetter, props_of}
use Rattle.sw_typing_facts.proofs.Lists.Found.{found_in_found, mapped}
use Rattle.sw_typing_facts.proofs.Programs.DeclStands.{made_flat}
use Rattle.sw_typing_facts.proofs.Programs.Keyed.{counted_where, key_once, one_index, one_place}
use Rattle.sw_lower_formed_facts.proofs.Programs.PropKeys.{global_key_in, no_props, own_key, prop_key_in}
use Rattle.sw_lower_formed_facts.proofs.Programs.PropKeys.{props_in}
use Rattle.sw_typing_facts.proofs.Programs.Standing.{Stands, place_of_thing}

-- one list of keys of each shape
pub keys_counted : (decl : Decl) → length (shape_keys decl) ≡ shapes_made decl
keys_counted (Entry word written at is_async body) = refl
keys_counted (Struct word conforms fields funcs) = refl
keys_counted (Enum word conforms cases funcs) = refl
keys_counted (Class written word conforms props inits funcs) = refl
keys_counted (Actor word props inits funcs) = refl
keys_counted (GlobalActor word made) = refl
keys_counted (Func func) = refl
keys_counted (Global global) = refl

-- the keys of a shape are those of its properties
keys_of_props : (decl : Decl) (keys : List ℕ) → shape_keys decl ≡ keys ∷ []
    → prop_keys (props_of decl) ≡ keys
keys_of_props (Entry word written at is_async body) keys is = cc
keys_of_props (Struct word conforms fields funcs) keys is = cc
keys_of_props (Enum word conforms cases funcs) keys is = cc
keys_of_props (Class written word conforms props inits funcs) keys is = cc
keys_of_props (Actor word props inits funcs) keys is = cc
keys_of_props (GlobalActor word made) keys is = cc
keys_of_props (Func func) keys is = cc
keys_of_props (Global global) keys is = cc

-- the declaration of the type with a number, and its property with the key
record PropPlace (decls : List Decl) (k i key : ℕ) : Type 0 where
  g : ℕ
  decl : Decl
  stands : Stands decls k g decl
  prop : PropTree
  at : slice_get (props_of decl) i ≡ Some prop
  is : prop.word.at ≡ key

prop_place : (decls : List Decl) (k i key : ℕ) → part_key_in decls k i ≡ Some key
    → PropPlace decls k i key
prop_place decls k i key found =
    let (all, first, second) = found_in_found (slice_get (flat_map shape_keys decls) k)
    (λ all. slice_get all i) key found in
    let one = place_of_thing (λ n g decl. shape_keys decl) (λ n g. n) shapes_made
    (λ n g decl. refl) (λ n g decl. keys_counted decl) one_shape 0 0 decls k all
    (ap (λ list. slice_get list k) (sym (made_flat shape_keys 0 0 decls)) ∙ first) in
    let number : one.n ≡ k = omega (arith, one.at) in
    let (prop, at, same) = mapped (λ (prop : PropTree). prop.word.at)
    (slice_get (props_of one.decl) i) key
    (sym (slice_get-map (λ (prop : PropTree). prop.word.at) (props_of one.decl) i)
    ∙ ap (λ list. slice_get list i) (keys_of_props one.decl all one.is) ∙ second) in record {
      g = one.g;
      decl = one.decl;
      stands = subst (λ n. Stands decls n one.g one.decl) number one.stands;
      prop = prop;
      at = at;
      is = same;
    }

module _ (world : World) (answers : Answers) (isolation : Isolation) (decls : List Decl)
    (rule : AsyncDefault) (keys : AreKeyed decls)
    (is : IsWorldOf decls rule world) (ordered : List Body)
    (are : AreOrdered (tables_of world answers isolation decls) decls ordered)
    (numbered : AreNumbered ordered) where
  abbrev tables : Tables
  tables = tables_of world answers isolation decls

  -- the getter of a property that is found by its key
  pub record PartGetterAt (k key f : ℕ) (shape : Shape) (part : Part) : Type 0 where
    pub one : GetterAt world answers isolation decls rule keys is ordered are numbered key f
    pub object : IsObjectDecl one.decl
    pub of : PartGetter tables one.n 0 (props_of one.decl) one.body
    pub number : one.n ≡ k
    pub shape_is : of.shape ≡ shape
    pub part_is : of.part ≡ part

  pub part_getter_at : (k i key f : ℕ) (shape : Shape) (part : Part)
      → part_key_in decls k i ≡ Some key → numbers_of ordered (getter_of key) ≡ Some f
      → slice_get world.shapes k ≡ Some shape → slice_get shape.parts i ≡ Some part
      → PartGetterAt k key f shape part
  part_getter_at k i key f shape part keyed found shape_at part_at = by one.whose where
    place : PropPlace decls k i key
    place = prop_place decls k i key keyed

    one : GetterAt world answers isolation decls rule keys is ordered are numbered key f
    one = getter_at world answers isolation decls rule keys is ordered are numbered key f found

    by : (IsObjectDecl one.decl × PartGetter tables one.n 0 (props_of one.decl) one.body)
        ⊎ GlobalGetter tables one.g one.decl one.body → PartGetterAt k key f shape part
    by (inr other) =
        let own : other.prop.word.at ≡ key = sym other.key ∙ one.key_is in
        let same = one_place decls one.n one.g one.decl k place.g place.decl key keys one.stands
        place.stands (global_key_in one.decl other.prop key other.decl_is own)
        (prop_key_in place.decl i place.prop key place.at place.is) in
        absurd (no_props place.decl other.prop place.prop i (sym same.same ∙ other.decl_is)
        place.at)
    by (inl of) =
        let other = of.1 in
        let own : other.prop.word.at ≡ key = sym other.key ∙ one.key_is in
        let same = one_place decls one.n one.g one.decl k place.g place.decl key keys one.stands
        place.stands (prop_key_in one.decl other.place other.prop key other.prop_at own)
        (prop_key_in place.decl i place.prop key place.at place.is) in
        let index : other.place ≡ i =
        one_index in_prop (props_of place.decl) other.place i other.prop place.prop key
        (omega (
          arith,
          props_in place.decl key,
          counted_where 0 0 decls k place.g place.decl key place.stands,
          key_once decls keys key,
        ))
        (subst (λ d. slice_get (props_of d) other.place ≡ Some other.prop) same.same
        other.prop_at)
        place.at (own_key other.prop key own) (own_key place.prop key place.is) in
        let shape_is : other.shape ≡ shape =
        same_Some other.shape shape
        (sym other.shape_at ∙ ap (slice_get world.shapes) same.shapes ∙ shape_at) in
        let part_place : 0 + other.place ≡ i = omega (arith, index) in record {
          one = one;
          object = of.0;
          of = other;
          number = same.shapes;
          shape_is = shape_is;
          part_is = same_Some other.part part
              (sym other.part_at ∙ ap (slice_get other.shape.parts) part_place
              ∙ ap (λ (s : Shape). slice_get s.parts i) shape_is ∙ part_at);
        }

  -- the getter of a property
  pub part_getter_headers : (k i key f : ℕ) (shape : Shape) (part : Part)
      → part_key_in decls k i ≡ Some key → numbers_of ordered (getter_of key) ≡ Some f
      → slice_get world.shapes k ≡ Some shape → slice_get shape.parts i ≡ Some part
      → IsHeader (functions_of ordered) (Plain (types.Named k) ∷ []) part.ty f
  part_getter_headers k i key f shape part keyed found shape_at part_at =
      let it = part_getter_at k i key f shape part keyed found shape_at part_at in
      header_as (functions_of ordered) (kinds_of it.one.body) (Plain (types.Named k) ∷ [])
      it.one.body.result part.ty f
      (it.of.takes ∙ ap (λ m. Plain (types.Named m) ∷ []) it.number)
      (it.of.gives ∙ ap (λ (x : Part). x.ty) it.part_is) it.one.header
