-- Properties have keys. Those that are isolated and `var` have getters, and so have global
-- variables.
use Rattle.std.proofs.Common.{◌≡◌, ℕ, zero, suc, ◌+◌, true, Option, Some, List, [], ◌∷◌, flat_map}
use Rattle.std.proofs.Common.{Contains, refl, ap, sym, ◌∙◌, subst, arith, ◌&&◌}
use Rattle.std.proofs.lemmas.List.Elements.{Contains-append_left, Contains-append_right}
use Rattle.std.proofs.lemmas.Option.{same_Some, slice_get-map}
use Rattle.std.specs.Option.{option_map}
use Rattle.std.specs.Prelude.{IsSome, if◌then◌else◌, is_some, slice_get}
use Rattle.sw_tree.specs.declared.decl.Decl.{Decl}
use Rattle.sw_tree.specs.declared.decl.Decl.TheVariants.{Global}
use Rattle.sw_tree.specs.declared.decl.PropTree.{PropTree}
use Rattle.sw_types.specs.declared.shape.Part.{Part}
use Rattle.sw_types.specs.declared.shape.Shape.{Shape}
use Rattle.sw_types.specs.declared.shape.ShapeKind.{ShapeKind}
use Rattle.sw_types.specs.declared.shape.ShapeKind.TheVariants as shapes
use Rattle.sw_decls.specs.declared.signature.AsyncDefault.{AsyncDefault}
use Rattle.sw_decls.specs.declared.signature.GlobalVar.{GlobalVar}
use Rattle.sw_typing_rules.specs.Worlds.{IsWorldOf, World, and_then}
use Rattle.sw_isolation_rules.specs.Answers.{Answers, for_some}
use Rattle.sw_isolation_rules.specs.Kinds.{is_isolated, kind_iso, shape_iso}
use Rattle.sw_lower_code.specs.Whole.{Body}
use Rattle.sw_lower_rules.specs.Bodies.{AreOrdered, decl_bodies, getter, global_bodies}
use Rattle.sw_lower_rules.specs.Bodies.{global_getter, numbers_of, part_getter, prop_getters}
use Rattle.sw_lower_rules.specs.Bodies.{shape_getters, stored_read, tables_of, value_bodies}
use Rattle.sw_lower_rules.specs.Tables.{Isolation, Tables, getter_of, part_key_in, prop_keys}
use Rattle.sw_lower_rules.specs.Tables.{shape_keys}
use Rattle.sw_lower_formed_facts.proofs.Headers.Signed.{for_found}
use Rattle.sw_typing_facts.proofs.Lists.Listed.{in_first}
use Rattle.sw_typing_facts.proofs.Programs.GlobalDecls.{global_at}
use Rattle.sw_lower_total_facts.specs.Known.{IsMade}
use Rattle.sw_lower_total_facts.proofs.Programs.FuncBodies.{HasBody, stands_numbered}
use Rattle.sw_lower_total_facts.proofs.Programs.Objects.{object_at, prop_at}

-- The key of a property is found by the numbers of its shape and of the property.
key_found : (decls : List Decl) (k i : ℕ) (props : List PropTree) (prop : PropTree)
    → slice_get (flat_map shape_keys decls) k ≡ Some (prop_keys props)
    → slice_get props i ≡ Some prop → part_key_in decls k i ≡ Some prop.word.at
key_found decls k i props prop keys at =
    ap (λ found. and_then found (λ all. slice_get all i)) keys
    ∙ slice_get-map (λ (prop : PropTree). prop.word.at) props i
    ∙ ap (option_map (λ (prop : PropTree). prop.word.at)) at

-- What stores something that is isolated is a class or an actor.
isolated_made : (kind : ShapeKind) (actor : Option ℕ) → is_isolated (kind_iso kind actor) ≡ true
    → IsMade kind
isolated_made shapes.Struct actor isolated = cc
isolated_made shapes.Enum actor isolated = cc
isolated_made shapes.Class actor isolated = tt
isolated_made shapes.Actor actor isolated = tt

module _ (tables : Tables) where
  -- what is made of a `var` that is isolated
  shape_getter : (n index : ℕ) (prop : PropTree) (shape : Shape) (part : Part)
      → slice_get shape.parts index ≡ Some part → prop.mutable ≡ true
      → is_isolated (shape_iso shape) ≡ true
      → Contains (shape_getters tables n index prop shape)
      (part_getter tables prop.word.at n index shape part)
  shape_getter n index prop shape part at mutable isolated =
      let body = part_getter tables prop.word.at n index shape part in
      let made : Option Part → List Body = λ found. for_some found (λ part.
      part_getter tables prop.word.at n index shape part ∷ []) in
      subst (λ test. Contains (if test then made (slice_get shape.parts index) else []) body)
      (sym (ap (λ test. test && is_isolated (shape_iso shape)) mutable ∙ isolated))
      (for_found (slice_get shape.parts index) part
      (λ part. part_getter tables prop.word.at n index shape part ∷ []) body at (in_first body []))

  -- the getter of the property at a place
  prop_getter : (n index : ℕ) (props : List PropTree) (place : ℕ) (prop : PropTree) (shape : Shape)
      (part : Part) → slice_get tables.world.shapes n ≡ Some shape
      → slice_get props place ≡ Some prop → slice_get shape.parts (index + place) ≡ Some part
      → prop.mutable ≡ true → is_isolated (shape_iso shape) ≡ true
      → HasBody (prop_getters tables n index props) (getter_of prop.word.at)
  prop_getter n index [] place prop shape part there at part_at mutable isolated = cc
  prop_getter n index (one ∷ props) zero prop shape part there at part_at mutable isolated =
      let same : one ≡ prop = same_Some one prop at in
      let own : slice_get shape.parts index ≡ Some part =
      subst (λ i. slice_get shape.parts i ≡ Some part)
      (let here : index + zero ≡ index = omega arith in here) part_at in
      let body = part_getter tables one.word.at n index shape part in
      record {
        body = body;
        has = Contains-append_left
            (for_some (slice_get tables.world.shapes n) (shape_getters tables n index one))
            (prop_getters tables n (index + 1) props) body
            (for_found (slice_get tables.world.shapes n) shape (shape_getters tables n index one)
            body there
            (shape_getter n index one shape part own
            (ap (λ (p : PropTree). p.mutable) same ∙ mutable) isolated));
        named = ap (λ (p : PropTree). getter_of p.word.at) same;
      }
  prop_getter n index (one ∷ props) (suc place) prop shape part there at part_at mutable isolated =
      let later = prop_getter n (index + 1) props place prop shape part there at
      (subst (λ i. slice_get shape.parts i ≡ Some part)
      (let next : index + suc place ≡ (index + 1) + place = omega arith in next) part_at)
      mutable isolated in
      record {
        body = later.body;
        has = Contains-append_right
            (for_some (slice_get tables.world.shapes n) (shape_getters tables n index one))
            (prop_getters tables n (index + 1) props) later.body later.has;
        named = later.named;
      }

  -- the getter of a global variable
  global_body : (g : ℕ) (prop : PropTree) (global : GlobalVar) (actor : ℕ)
      → slice_get tables.world.globals g ≡ Some global → global.mutable ≡ true
      → global.actor ≡ Some actor → HasBody (global_bodies tables g prop) (getter_of prop.word.at)
  unfolding global_bodies
  global_body g prop global actor at mutable isolated =
      let key = prop.word.at in
      let body = getter tables key [] global.ty (stored_read key g global.ty) in
      record {
        body = body;
        has = Contains-append_right (value_bodies tables key g prop.value)
            (for_some (slice_get tables.world.globals g) (global_getter tables key g)) body
            (for_found (slice_get tables.world.globals g) global (global_getter tables key g) body
            at
            (for_found global.actor actor (λ actor. if global.mutable then body ∷ [] else []) body
            isolated
            (subst (λ test. Contains (if test then body ∷ [] else []) body) (sym mutable)
            (in_first body []))));
        named = refl;
      }

module _ (world : World) (answers : Answers) (isolation : Isolation) (decls : List Decl)
    (rule : AsyncDefault) (is : IsWorldOf decls rule world) (ordered : List Body)
    (are : AreOrdered (tables_of world answers isolation decls) decls ordered) where
  abbrev tables : Tables
  tables = tables_of world answers isolation decls

  -- Each property of a class or an actor has a key.
  pub part_keys : (k i : ℕ) (shape : Shape) (part : Part) → slice_get world.shapes k ≡ Some shape
      → slice_get shape.parts i ≡ Some part → IsMade shape.kind → IsSome (part_key_in decls k i)
  part_keys k i shape part at part_at made =
      let here = object_at decls rule world is k shape at made in
      let prop = prop_at decls rule k here.g i here.decl shape part here.object part_at in
      ap is_some (key_found decls k i here.object.props prop.prop here.keys prop.at)

  -- A `var` of a class or an actor that is isolated has a getter.
  pub object_getters : (k i key : ℕ) (shape : Shape) (part : Part)
      → slice_get world.shapes k ≡ Some shape → slice_get shape.parts i ≡ Some part
      → part_key_in decls k i ≡ Some key → part.mutable ≡ true
      → is_isolated (shape_iso shape) ≡ true → IsSome (numbers_of ordered (getter_of key))
  object_getters k i key shape part at part_at key_at mutable isolated =
      let here = object_at decls rule world is k shape at
      (isolated_made shape.kind shape.actor isolated) in
      let object = here.object in
      let prop = prop_at decls rule k here.g i here.decl shape part object part_at in
      let own : prop.prop.word.at ≡ key =
      same_Some prop.prop.word.at key
      (sym (key_found decls k i object.props prop.prop here.keys prop.at) ∙ key_at) in
      let one = prop_getter tables k 0 object.props i prop.prop shape part at prop.at
      (subst (λ j. slice_get shape.parts j ≡ Some part)
      (let same : i ≡ 0 + i = omega arith in same) part_at)
      (ap (λ (p : Part). p.mutable) prop.is ∙ mutable) isolated in
      subst (λ name. IsSome (numbers_of ordered (getter_of name))) own
      (stands_numbered world answers isolation decls rule is ordered are k here.g here.decl
      (getter_of prop.prop.word.at) here.stands
      (record {
        body = one.body;
        has = object.getters tables one.body one.has;
        named = one.named;
      }))

  -- A global `var` that is isolated has a getter.
  pub globals_getters : (g actor : ℕ) (global : GlobalVar)
      → slice_get world.globals g ≡ Some global → global.mutable ≡ true
      → global.actor ≡ Some actor → IsSome (numbers_of ordered (getter_of global.key.at))
  unfolding decl_bodies
  globals_getters g actor global at mutable isolated =
      let here = global_at decls rule world is g global at in
      subst (λ name. IsSome (numbers_of ordered (getter_of name))) here.key
      (stands_numbered world answers isolation decls rule is ordered are here.n g
      (Global here.prop) (getter_of here.prop.word.at) here.stands
      (global_body tables g here.prop global actor at mutable isolated))
