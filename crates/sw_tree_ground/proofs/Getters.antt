-- The bodies of getters and of first values are found among those of declarations.
use Rattle.std.proofs.Common.{◌≡◌, ℕ, zero, suc, ◌+◌, Option, Some, None, List, [], ◌∷◌, ◌++◌, Contains}
use Rattle.std.proofs.Common.{inl, inr, ◌⊎◌, flat_map, refl, ap, sym, ◌∙◌, subst, arith}
use Rattle.std.proofs.lemmas.List.Elements.{Contains-append_left, Contains-append_right}
use Rattle.std.proofs.lemmas.Option.{slice_get-map}
use Rattle.std.specs.Option.{option_map}
use Rattle.std.specs.Prelude.{IsSome, slice_get}
use Rattle.sw_tree.specs.declared.decl.Decl.{Decl}
use Rattle.sw_tree.specs.declared.decl.Decl.TheVariants.{Entry, Struct, Enum, Class, Actor}
use Rattle.sw_tree.specs.declared.decl.Decl.TheVariants.{GlobalActor, Func, Global}
use Rattle.sw_tree.specs.declared.decl.PropTree.{PropTree}
use Rattle.sw_tree.specs.declared.expr.Expr.{Expr}
use Rattle.sw_tree_facts.specs.Values.{AreValued}
use Rattle.sw_types.specs.declared.shape.Shape.{Shape}
use Rattle.sw_decl_words.proofs.WithinLemmas.{one_shape}
use Rattle.sw_decl_words.specs.Words.{shapes_made}
use Rattle.sw_decls.specs.declared.signature.AsyncDefault.{AsyncDefault}
use Rattle.sw_decls.specs.declared.signature.GlobalVar.{GlobalVar}
use Rattle.sw_typing_rules.specs.Worlds.{World, and_then}
use Rattle.sw_isolation_rules.specs.Answers.{Answers, for_some}
use Rattle.sw_lower_code.specs.Whole.{Body}
use Rattle.sw_lower_rules.specs.Bodies.{numbers_of, tables_of}
use Rattle.sw_lower_rules.specs.Tables.{Isolation, Tables, getter_of, part_key_in, prop_keys, shape_keys}
use Rattle.sw_lower_formed_facts.proofs.Headers.FoundGetters.{GetterAt, getter_at}
use Rattle.sw_lower_formed_facts.proofs.Headers.Getters.{GlobalGetter, IsObjectDecl, PartGetter}
use Rattle.sw_lower_formed_facts.proofs.Headers.Getters.{props_of}
use Rattle.sw_lower_formed_facts.proofs.Headers.PartGetters.{keys_counted}
use Rattle.sw_lower_formed_facts.proofs.Headers.Signed.{for_found}
use Rattle.sw_lower_formed_facts.proofs.Programs.PropKeys.{global_key_in, no_props, prop_key_in}
use Rattle.sw_typing_facts.proofs.Lists.Found.{found_in_found, mapped}
use Rattle.sw_typing_facts.proofs.Lists.Listed.{in_first}
use Rattle.sw_typing_facts.proofs.Programs.DeclStands.{made_flat}
use Rattle.sw_typing_facts.proofs.Programs.GlobalDecls.{GlobalAt, global_at}
use Rattle.sw_typing_facts.proofs.Programs.Keyed.{one_place}
use Rattle.sw_typing_facts.proofs.Programs.Standing.{Stands, place_of_thing, stands_in}
use Rattle.sw_tree_work.specs.Bodies as works
use Rattle.sw_tree_work.specs.Facts.{Facts}
use Rattle.sw_tree_work.specs.Trees.{expr_work}
use Rattle.sw_tree_work.specs.Work as work
use Rattle.sw_tree_work.specs.Work.{BodyName, FirstValue, GlobalGetter as GlobalGetterAt, PartGetter as PartGetterAt}
use Rattle.sw_tree_work.specs.Work.{TreeBody}
use Rattle.sw_spots.specs.Forms.{facts_of}
use Rattle.sw_spots_program.specs.Lowered.{IsMadeOf}
use Rattle.sw_tree_ground.proofs.Names.{HasBody, among_more, work_stands}

-- the keys of a shape are those of its properties
keys_of_props : (decl : Decl) (keys : List ℕ) → shape_keys decl ≡ keys ∷ []
    → prop_keys (props_of decl) ≡ keys
keys_of_props (Entry word written at is_async body) keys is = cc
keys_of_props (Struct word conforms fields funcs) keys is = cc
keys_of_props (Enum word conforms cases funcs) keys is = cc
keys_of_props (Class written word conforms props inits funcs) keys is = cc
keys_of_props (Actor word props inits funcs) keys is = cc
keys_of_props (GlobalActor word made) keys is = cc
keys_of_props (Func func) keys is = cc
keys_of_props (Global global) keys is = cc

-- the declaration of the type with a number, and its property with the key
record PropPlace (decls : List Decl) (k i key : ℕ) : Type 0 where
  g : ℕ
  decl : Decl
  stands : Stands decls k g decl
  prop : PropTree
  at : slice_get (props_of decl) i ≡ Some prop
  is : prop.word.at ≡ key

prop_place : (decls : List Decl) (k i key : ℕ) → part_key_in decls k i ≡ Some key
    → PropPlace decls k i key
prop_place decls k i key found =
    let (all, first, second) = found_in_found (slice_get (flat_map shape_keys decls) k)
    (λ all. slice_get all i) key found in
    let one = place_of_thing (λ n g decl. shape_keys decl) (λ n g. n) shapes_made
    (λ n g decl. refl) (λ n g decl. keys_counted decl) one_shape 0 0 decls k all
    (ap (λ list. slice_get list k) (sym (made_flat shape_keys 0 0 decls)) ∙ first) in
    let number : one.n ≡ k = omega (arith, one.at) in
    let (prop, at, same) = mapped (λ (prop : PropTree). prop.word.at)
    (slice_get (props_of one.decl) i) key
    (sym (slice_get-map (λ (prop : PropTree). prop.word.at) (props_of one.decl) i)
    ∙ ap (λ list. slice_get list i) (keys_of_props one.decl all one.is) ∙ second) in record {
      g = one.g;
      decl = one.decl;
      stands = subst (λ n. Stands decls n one.g one.decl) number one.stands;
      prop = prop;
      at = at;
      is = same;
    }

module _ (facts : Facts) where
  -- the getter of the property at a place
  part_has : (n from : ℕ) (props : List PropTree) (place : ℕ) (prop : PropTree) (shape : Shape)
      → slice_get facts.world.shapes n ≡ Some shape → slice_get props place ≡ Some prop
      → HasBody (works.part_getters facts n from props) (PartGetterAt n (from + place))
  part_has n from [] place prop shape there at = cc
  part_has n from (one ∷ props) zero prop shape there at =
      let body = works.part_getter facts n from one shape in record {
        body = body;
        has = Contains-append_left
            (for_some (slice_get facts.world.shapes n)
            (λ shape. works.part_getter facts n from one shape ∷ []))
            (works.part_getters facts n (from + 1) props) body
            (for_found (slice_get facts.world.shapes n) shape
            (λ shape. works.part_getter facts n from one shape ∷ []) body there (in_first body []));
        named = ap (PartGetterAt n) (let same : from ≡ from + zero = omega arith in same);
      }
  part_has n from (one ∷ props) (suc place) prop shape there at =
      let later = part_has n (from + 1) props place prop shape there at in record {
        body = later.body;
        has = Contains-append_right
            (for_some (slice_get facts.world.shapes n)
            (λ shape. works.part_getter facts n from one shape ∷ []))
            (works.part_getters facts n (from + 1) props) later.body later.has;
        named = later.named
            ∙ ap (PartGetterAt n)
            (let same : (from + 1) + place ≡ from + suc place = omega arith in same);
      }

  -- the getters of a class or an actor are among its bodies
  object_getters : (n g : ℕ) (decl : Decl) → IsObjectDecl decl → (body : TreeBody)
      → Contains (works.part_getters facts n 0 (props_of decl)) body
      → Contains (works.decl_bodies facts n g decl) body
  object_getters n g (Class written word conforms props inits funcs) object body has =
      Contains-append_left
      (works.part_getters facts n 0 props ++ works.inits facts n props word inits)
      (flat_map (works.func_tree_body facts) funcs) body
      (Contains-append_left (works.part_getters facts n 0 props)
      (works.inits facts n props word inits) body has)
  object_getters n g (Actor word props inits funcs) object body has =
      Contains-append_left
      (works.part_getters facts n 0 props ++ works.inits facts n props word inits)
      (flat_map (works.func_tree_body facts) funcs) body
      (Contains-append_left (works.part_getters facts n 0 props)
      (works.inits facts n props word inits) body has)
  object_getters n g (Entry word written at is_async block) object body has = absurd object
  object_getters n g (Struct word conforms fields funcs) object body has = absurd object
  object_getters n g (Enum word conforms cases funcs) object body has = absurd object
  object_getters n g (GlobalActor word made) object body has = absurd object
  object_getters n g (Func func) object body has = absurd object
  object_getters n g (Global prop) object body has = absurd object

module _ (world : World) (answers : Answers) (isolation : Isolation) (decls : List Decl)
    (rule : AsyncDefault) (ordered : List Body)
    (it : IsMadeOf world answers isolation decls rule ordered) where
  abbrev tables : Tables
  tables = tables_of world answers isolation decls

  abbrev facts : Facts
  facts = facts_of tables

  -- the getter of a property
  pub part_named : (k i f : ℕ)
      → and_then (option_map getter_of (part_key_in decls k i)) (numbers_of ordered) ≡ Some f
      → HasBody (works.bodies_from facts 0 0 decls) (PartGetterAt k i)
  part_named k i f named = by one.whose where
    outer : (name : _) × (option_map getter_of (part_key_in decls k i) ≡ Some name)
        × (numbers_of ordered name ≡ Some f)
    outer = found_in_found (option_map getter_of (part_key_in decls k i)) (numbers_of ordered) f named

    inner : (key : ℕ) × (part_key_in decls k i ≡ Some key) × (getter_of key ≡ outer.0)
    inner = mapped getter_of (part_key_in decls k i) outer.0 outer.1

    place : PropPlace decls k i inner.0
    place = prop_place decls k i inner.0 inner.1

    one : GetterAt world answers isolation decls rule it.keyed it.declared ordered it.are it.numbered
        inner.0 f
    one = getter_at world answers isolation decls rule it.keyed it.declared ordered it.are it.numbered
        inner.0 f (ap (numbers_of ordered) inner.2 ∙ outer.2)

    by : (IsObjectDecl one.decl × PartGetter tables one.n 0 (props_of one.decl) one.body)
        ⊎ GlobalGetter tables one.g one.decl one.body
        → HasBody (works.bodies_from facts 0 0 decls) (PartGetterAt k i)
    by (inr other) =
        let own : other.prop.word.at ≡ inner.0 = sym other.key ∙ one.key_is in
        let same = one_place decls one.n one.g one.decl k place.g place.decl inner.0 it.keyed
        one.stands place.stands (global_key_in one.decl other.prop inner.0 other.decl_is own)
        (prop_key_in place.decl i place.prop inner.0 place.at place.is) in
        absurd (no_props place.decl other.prop place.prop i (sym same.same ∙ other.decl_is) place.at)
    by (inl (object, of)) =
        let own : of.prop.word.at ≡ inner.0 = sym of.key ∙ one.key_is in
        let same = one_place decls one.n one.g one.decl k place.g place.decl inner.0 it.keyed
        one.stands place.stands (prop_key_in one.decl of.place of.prop inner.0 of.prop_at own)
        (prop_key_in place.decl i place.prop inner.0 place.at place.is) in
        work_stands facts decls k place.g place.decl (PartGetterAt k i) place.stands
        (among_more (works.part_getters facts k 0 (props_of place.decl))
        (works.decl_bodies facts k place.g place.decl) (PartGetterAt k i)
        (object_getters facts k place.g place.decl (subst IsObjectDecl same.same object))
        (subst (λ j. HasBody (works.part_getters facts k 0 (props_of place.decl)) (PartGetterAt k j))
        (let start : 0 + i ≡ i = omega arith in start)
        (part_has facts k 0 (props_of place.decl) i place.prop of.shape
        (ap (slice_get world.shapes) (sym same.shapes) ∙ of.shape_at) place.at)))

  -- a global variable: its getter
  pub global_named : (g : ℕ) (global : GlobalVar) → slice_get world.globals g ≡ Some global
      → HasBody (works.bodies_from facts 0 0 decls) (GlobalGetterAt g)
  global_named g global at =
      let here = global_at decls rule world it.declared g global at in
      let body = works.global_getter facts g here.prop in
      work_stands facts decls here.n g (Global here.prop) (GlobalGetterAt g) here.stands (record {
        body = body;
        has = Contains-append_right (works.first_value facts g here.prop) (body ∷ []) body
            (in_first body []);
        named = refl;
      })

  -- and what gives it its first value
  pub first_named : AreValued decls → (g : ℕ) (global : GlobalVar)
      → slice_get world.globals g ≡ Some global
      → HasBody (works.bodies_from facts 0 0 decls) (FirstValue g)
  first_named valued g global at = by here.prop.value refl
      (valued here.prop (stands_in 0 0 decls here.n g (Global here.prop) here.stands)) where
        here : GlobalAt decls g global
        here = global_at decls rule world it.declared g global at

        by : (value : Option Expr) → here.prop.value ≡ value → IsSome here.prop.value
            → HasBody (works.bodies_from facts 0 0 decls) (FirstValue g)
        by None is some = absurd (let never : IsSome {T = Expr} None = subst IsSome is some in cc)
        by (Some value) is some =
            let body : TreeBody = record {
              name = FirstValue g;
              iso = facts.iso_at here.prop.word.at;
              takes = [];
              work = (expr_work facts None value).read (work.Then (work.StoreGlobal g) work.Finish);
            } in
            work_stands facts decls here.n g (Global here.prop) (FirstValue g) here.stands (record {
              body = body;
              has = Contains-append_left (works.first_value facts g here.prop)
                  (works.global_getter facts g here.prop ∷ []) body
                  (for_found here.prop.value value (λ value. record {
                    name = FirstValue g;
                    iso = facts.iso_at here.prop.word.at;
                    takes = [];
                    work = (expr_work facts None value).read
                        (work.Then (work.StoreGlobal g) work.Finish);
                  } ∷ []) body is (in_first body []));
              named = refl;
            })
