-- The bodies of getters, and of what gives global variables their first values, stand in their
-- functions.
use Rattle.std.proofs.Common.{◌≡◌, ℕ, suc, ◌+◌, ◌⊎◌, inl, inr, Option, Some, None, List, []}
use Rattle.std.proofs.Common.{◌∷◌, ◌++◌, Contains, refl, ap, sym, ◌∙◌, subst, arith}
use Rattle.std.proofs.lemmas.List.Elements.{Contains-append_cases, Contains-append_left}
use Rattle.std.proofs.lemmas.Option.{same_Some, slice_get-map}
use Rattle.std.specs.Option.{option_map}
use Rattle.std.specs.Prelude.{slice_get}
use Rattle.sw_list.proofs.Members.{none_in}
use Rattle.sw_tree.specs.declared.decl.Decl.{Decl}
use Rattle.sw_tree.specs.declared.decl.Decl.TheVariants.{Global}
use Rattle.sw_tree.specs.declared.decl.PropTree.{PropTree}
use Rattle.sw_tree.specs.declared.expr.Expr.{Expr}
use Rattle.sw_tree.proofs.Counting.{in_option}
use Rattle.sw_tree.proofs.KeyCounts.{in_decl-Global, in_expr, in_prop, in_prop-is}
use Rattle.sw_tree_facts.specs.Parts.{StandsIn, of_decl, of_decls, of_expr, of_prop}
use Rattle.sw_tree_facts.specs.Parts as parts
use Rattle.sw_types.specs.declared.shape.Part.{Part}
use Rattle.sw_types.specs.declared.shape.Shape.{Shape}
use Rattle.sw_graph.specs.declared.function.Function.{Function}
use Rattle.sw_decl_words.specs.Evident.{meanings_of}
use Rattle.sw_decl_words.specs.Shaped.{prop_type, written_actor}
use Rattle.sw_decl_words.specs.Words.{shapes_made}
use Rattle.sw_decls.specs.declared.signature.AsyncDefault.{AsyncDefault}
use Rattle.sw_decls.specs.declared.signature.GlobalVar.{GlobalVar}
use Rattle.sw_typing_rules.specs.Worlds.{World, and_then}
use Rattle.sw_isolation_rules.specs.Answers.{Answers, for_some}
use Rattle.sw_lower_plans.specs.Plan.{Numbers}
use Rattle.sw_lower_code.specs.Whole.{Body}
use Rattle.sw_lower_rules.specs.Bodies as bodies
use Rattle.sw_lower_rules.specs.Bodies.{decl_bodies, functions_of, global_bodies, numbers_of}
use Rattle.sw_lower_rules.specs.Bodies.{stored_read, tables_of, value_bodies}
use Rattle.sw_lower_rules.specs.Statements.{expr_code}
use Rattle.sw_lower_rules.specs.Tables.{Isolation, Tables, getter_of, part_key_in, plain}
use Rattle.sw_lower_rules.specs.Tables.{prop_keys, shape_keys}
use Rattle.sw_lower_formed_facts.proofs.Bodies.MadeOf.{body_stands}
use Rattle.sw_lower_formed_facts.proofs.Headers.FoundGetters.{GetterAt, getter_at}
use Rattle.sw_lower_formed_facts.proofs.Headers.Getters.{GlobalGetter, IsObjectDecl, PartGetter}
use Rattle.sw_lower_formed_facts.proofs.Headers.Getters.{props_of}
use Rattle.sw_lower_formed_facts.proofs.Headers.PartGetters.{keys_counted}
use Rattle.sw_lower_formed_facts.proofs.Programs.PropKeys.{global_key_in, no_props, own_key, prop_key_in}
use Rattle.sw_lower_formed_facts.proofs.Programs.PropKeys.{props_in}
use Rattle.sw_decl_words.proofs.WithinLemmas.{one_shape}
use Rattle.sw_typing_facts.proofs.Lists.Found.{found_in_found, mapped}
use Rattle.sw_typing_facts.proofs.Lists.Listed.{in_first, in_rest, only_in}
use Rattle.sw_typing_facts.proofs.Programs.DeclStands.{global_there, made_flat}
use Rattle.sw_typing_facts.proofs.Programs.Keyed.{counted_where, key_once, one_index, one_place}
use Rattle.sw_typing_facts.proofs.Programs.Standing.{Stands, at_place}
use Rattle.sw_tree_work.specs.Bodies as works
use Rattle.sw_tree_work.specs.Facts.{Facts}
use Rattle.sw_tree_work.specs.Trees.{expr_work}
use Rattle.sw_tree_work.specs.Work as work
use Rattle.sw_tree_work.specs.Work.{TreeBody}
use Rattle.sw_spots.specs.Forms.{facts_of, program}
use Rattle.sw_spots.specs.Spots.{Program}
use Rattle.sw_spots_body.proofs.Begun.{IsMade}
use Rattle.sw_spots_tree.proofs.Bodies.{first_value_stands, global_getter_stands, part_getter_stands}
use Rattle.sw_spots_tree.proofs.Every.{every_expr_stands}
use Rattle.sw_spots_tree.proofs.Keys.{down}
use Rattle.sw_spots_tree.specs.Declared.{expr_declared}
use Rattle.sw_spots_program.specs.Lowered.{IsMadeOf}
use Rattle.sw_spots_program.proofs.Declared.{expr_few}
use Rattle.sw_spots_program.proofs.Functions.{Good}
use Rattle.sw_spots_program.proofs.Making.{are_made, is_made}
use Rattle.sw_spots_program.proofs.Ones.{once_by}

module _ (world : World) (answers : Answers) (isolation : Isolation) (decls : List Decl)
    (rule : AsyncDefault) (ordered : List Body)
    (it : IsMadeOf world answers isolation decls rule ordered) where
  abbrev tables : Tables
  tables = tables_of world answers isolation decls

  abbrev facts : Facts
  facts = facts_of tables

  abbrev numbers : Numbers
  numbers = numbers_of ordered

  abbrev functions : List Function
  functions = functions_of ordered

  abbrev p : Program
  p = program tables numbers functions

  abbrev IsGood : TreeBody → Type 0
  IsGood = Good world answers isolation decls rule ordered it

  -- the getter of a property among those of a type
  record OfPart (n from : ℕ) (props : List PropTree) (body : TreeBody) : Type 0 where
    place : ℕ
    prop : PropTree
    shape : Shape
    at : slice_get props place ≡ Some prop
    shape_at : slice_get world.shapes n ≡ Some shape
    is : works.part_getter facts n (from + place) prop shape ≡ body

  of_parts : (n from : ℕ) (props : List PropTree) (body : TreeBody)
      → Contains (works.part_getters facts n from props) body → OfPart n from props body
  of_parts n from [] body has = absurd (none_in body has)
  of_parts n from (prop ∷ props) body has =
      elim (Contains-append_cases
      (for_some (slice_get world.shapes n) (λ shape. works.part_getter facts n from prop shape ∷ []))
      (works.part_getters facts n (from + 1) props) body has) [
        | inl here ↦ first (slice_get world.shapes n) refl here
        | inr there ↦
            let later = of_parts n (from + 1) props body there in record {
              place = suc later.place;
              prop = later.prop;
              shape = later.shape;
              at = later.at;
              shape_at = later.shape_at;
              is = ap (λ k. works.part_getter facts n k later.prop later.shape)
                  (let same : from + suc later.place ≡ (from + 1) + later.place = omega arith in same)
                  ∙ later.is;
            }
      ] where
        first : (found : Option Shape) → slice_get world.shapes n ≡ found
            → Contains (for_some found (λ shape. works.part_getter facts n from prop shape ∷ [])) body
            → OfPart n from (prop ∷ props) body
        first None at has = absurd (none_in body has)
        first (Some shape) at has = record {
          place = 0;
          prop = prop;
          shape = shape;
          at = refl;
          shape_at = at;
          is = ap (λ k. works.part_getter facts n k prop shape)
              (let same : from + 0 ≡ from = omega arith in same)
              ∙ only_in (works.part_getter facts n from prop shape) body has;
        }

  -- The key of a property is found by the numbers of its type and of the property.
  part_key : (n g : ℕ) (decl : Decl) → Stands decls n g decl
      → shape_keys decl ≡ prop_keys (props_of decl) ∷ [] → (place : ℕ) (prop : PropTree)
      → slice_get (props_of decl) place ≡ Some prop
      → part_key_in decls n place ≡ Some prop.word.at
  part_key n g decl stands keys place prop at =
      ap (λ found. and_then found (λ all. slice_get all place))
      (ap (λ all. slice_get all n) (made_flat shape_keys 0 0 decls)
      ∙ at_place (λ n g decl. shape_keys decl) (λ n g. n) shapes_made (λ n g decl. refl)
      (λ n g decl. keys_counted decl) one_shape 0 0 decls n g decl (prop_keys (props_of decl)) n
      stands (ap (λ all. slice_get all 0) keys) (omega arith))
      ∙ slice_get-map (λ (prop : PropTree). prop.word.at) (props_of decl) place
      ∙ ap (option_map (λ (prop : PropTree). prop.word.at)) at

  module _ (n g : ℕ) (decl : Decl) (stands : Stands decls n g decl)
      (keys : shape_keys decl ≡ prop_keys (props_of decl) ∷ []) where
    abbrev Found : ℕ → ℕ → Type 0
    Found key f = GetterAt world answers isolation decls rule it.keyed it.declared ordered it.are
        it.numbered key f

    -- the getter of a property of the declaration, which is found by its key
    part_found : (place : ℕ) (prop : PropTree) (shape : Shape) (f : ℕ)
        → slice_get (props_of decl) place ≡ Some prop → slice_get world.shapes n ≡ Some shape
        → (one : Found prop.word.at f) → PartGetter tables one.n 0 (props_of one.decl) one.body
        → (part : Part)
        × IsMade p numbers (bodies.part_getter tables prop.word.at n (0 + place) shape part)
    part_found place prop shape f at shape_at one of =
        let key = prop.word.at in
        let own : of.prop.word.at ≡ key = sym of.key ∙ one.key_is in
        let same = one_place decls one.n one.g one.decl n g decl key it.keyed one.stands stands
        (prop_key_in one.decl of.place of.prop key of.prop_at own)
        (prop_key_in decl place prop key at refl) in
        let there = subst (λ d. slice_get (props_of d) of.place ≡ Some of.prop) same.same of.prop_at in
        let index : of.place ≡ place =
        one_index in_prop (props_of decl) of.place place of.prop prop key
        (omega (
          arith,
          props_in decl key,
          counted_where 0 0 decls n g decl key stands,
          key_once decls it.keyed key,
        )) there at (own_key of.prop key own) (own_key prop key refl) in
        let shapes : of.shape ≡ shape =
        same_Some of.shape shape (sym of.shape_at ∙ ap (slice_get world.shapes) same.shapes ∙ shape_at)
        in
        let getter = bodies.part_getter tables in (
          of.part,
          subst (IsMade p numbers)
              (of.is
              ∙ ap (λ k. getter k one.n (0 + of.place) of.shape of.part) own
              ∙ ap (λ k. getter key k (0 + of.place) of.shape of.part) same.shapes
              ∙ ap (λ k. getter key n (0 + k) of.shape of.part) index
              ∙ ap (λ s. getter key n (0 + place) s of.part) shapes)
              (is_made tables decls ordered it.are it.numbered it.made one.body one.has),
        )

    -- A getter is no global variable's.
    no_global : (place : ℕ) (prop : PropTree) (f : ℕ) → slice_get (props_of decl) place ≡ Some prop
        → (one : Found prop.word.at f) → GlobalGetter tables one.g one.decl one.body → ⊥
    no_global place prop f at one other =
        let key = prop.word.at in
        let same = one_place decls one.n one.g one.decl n g decl key it.keyed one.stands stands
        (global_key_in one.decl other.prop key other.decl_is (sym other.key ∙ one.key_is))
        (prop_key_in decl place prop key at refl) in
        no_props decl other.prop prop place (sym same.same ∙ other.decl_is) at

    -- so it is the property's
    part_whose : (place : ℕ) (prop : PropTree) (shape : Shape) (f : ℕ)
        → slice_get (props_of decl) place ≡ Some prop → slice_get world.shapes n ≡ Some shape
        → (one : Found prop.word.at f)
        → (IsObjectDecl one.decl × PartGetter tables one.n 0 (props_of one.decl) one.body)
        ⊎ GlobalGetter tables one.g one.decl one.body
        → (part : Part)
        × IsMade p numbers (bodies.part_getter tables prop.word.at n (0 + place) shape part)
    part_whose place prop shape f at shape_at one (inl of) =
        part_found place prop shape f at shape_at one of.1
    part_whose place prop shape f at shape_at one (inr other) =
        absurd (no_global place prop f at one other)

    -- the getter of a property
    pub part_good : (body : TreeBody)
        → Contains (works.part_getters facts n 0 (props_of decl)) body → IsGood body
    part_good body has =
        let of = of_parts n 0 (props_of decl) body has in
        subst IsGood of.is (λ f named.
        let (name, named_so, numbered) = found_in_found
        (option_map getter_of (part_key_in decls n (0 + of.place))) numbers f named in
        let (key, key_at, getter_is) = mapped getter_of (part_key_in decls n (0 + of.place)) name
        named_so in
        let index : 0 + of.place ≡ of.place = omega arith in
        let own : key ≡ of.prop.word.at =
        same_Some key of.prop.word.at (sym key_at ∙ ap (part_key_in decls n) index
        ∙ part_key n g decl stands keys of.place of.prop of.at) in
        let found : numbers (getter_of of.prop.word.at) ≡ Some f =
        ap numbers (ap getter_of (sym own) ∙ getter_is) ∙ numbered in
        let one = getter_at world answers isolation decls rule it.keyed it.declared ordered it.are
        it.numbered of.prop.word.at f found in
        let (part, made) = part_whose of.place of.prop of.shape f of.at of.shape_at one one.whose in
        part_getter_stands tables numbers functions n (0 + of.place) of.prop of.shape part f made found)

  -- a global variable, by its declaration
  module _ (n g : ℕ) (prop : PropTree) (stands : Stands decls n g (Global prop))
      (part : StandsIn (of_prop prop) (of_decls decls)) where
    abbrev key : ℕ
    key = prop.word.at

    abbrev global : GlobalVar
    global = record {
      key = prop.word;
      mutable = prop.mutable;
      actor = written_actor (meanings_of decls).top prop.written;
      ty = prop_type (meanings_of decls) None prop;
    }

    there : slice_get world.globals g ≡ Some global
    there = global_there decls rule world it.declared n g (Global prop) global stands refl

    -- what gives it its first value
    first_good : (value : Expr) → prop.value ≡ Some value → IsGood (record {
      name = work.FirstValue g;
      iso = facts.iso_at key;
      takes = [];
      work = (expr_work facts None value).read (work.Then (work.StoreGlobal g) work.Finish);
    })
    unfolding global_bodies decl_bodies in_option
    first_good value is f named =
        let code = expr_code tables None value in
        let first = bodies.first_value tables key g code in
        let among = λ (body : Body) (has : Contains (first ∷ code.inside) body).
        body_stands tables decls n g (Global prop) body stands
        (Contains-append_left (value_bodies tables key g prop.value)
        (for_some (slice_get world.globals g) (bodies.global_getter tables key g)) body
        (subst (λ given. Contains (value_bodies tables key g given) body) (sym is) has)) in
        let found : numbers (plain key) ≡ Some f =
        sym (ap (λ (found : Option GlobalVar). and_then
        (option_map (λ (one : GlobalVar). plain one.key.at) found) numbers) there) ∙ named in
        first_value_stands tables numbers functions g prop value f
        (every_expr_stands tables numbers functions None (of_decls decls) it.needs value
        (down (of_expr value) (of_prop prop) (of_decls decls) (parts.prop_value prop value is) part)
        (once_by (expr_declared value)
        (λ c. omega (
          arith,
          key_once decls it.keyed c,
          counted_where 0 0 decls n g (Global prop) c stands,
          in_decl-Global prop c,
          in_prop-is prop c,
          ap (λ given. in_option in_expr given c) is,
          expr_few c value,
        )))
        (are_made tables decls ordered it.are it.numbered it.made code.inside
        (λ body has. among body (in_rest first code.inside body has))))
        (is_made tables decls ordered it.are it.numbered it.made first
        (among first (in_first first code.inside))) found

    -- its getter
    getter_found : (f : ℕ) (one : GetterAt world answers isolation decls rule it.keyed it.declared
        ordered it.are it.numbered key f) → GlobalGetter tables one.g one.decl one.body
        → (other : GlobalVar)
        × IsMade p numbers (bodies.getter tables key [] other.ty (stored_read key g other.ty))
    getter_found f one other =
        let own : other.prop.word.at ≡ key = sym other.key ∙ one.key_is in
        let same = one_place decls one.n one.g one.decl n g (Global prop) key it.keyed one.stands stands
        (global_key_in one.decl other.prop key other.decl_is own)
        (global_key_in (Global prop) prop key refl refl) in
        let ty = other.global.ty in (
          other.global,
          subst (IsMade p numbers)
              (other.is
              ∙ ap (λ k. bodies.getter tables k [] ty (stored_read k one.g ty)) own
              ∙ ap (λ k. bodies.getter tables key [] ty (stored_read key k ty)) same.globals)
              (is_made tables decls ordered it.are it.numbered it.made one.body one.has),
        )

    -- which is no property's
    no_part : (f : ℕ) (one : GetterAt world answers isolation decls rule it.keyed it.declared ordered
        it.are it.numbered key f) → PartGetter tables one.n 0 (props_of one.decl) one.body → ⊥
    no_part f one of =
        let same = one_place decls one.n one.g one.decl n g (Global prop) key it.keyed one.stands stands
        (prop_key_in one.decl of.place of.prop key of.prop_at (sym of.key ∙ one.key_is))
        (global_key_in (Global prop) prop key refl refl) in
        no_props one.decl prop of.prop of.place same.same of.prop_at

    getter_whose : (f : ℕ) (one : GetterAt world answers isolation decls rule it.keyed it.declared
        ordered it.are it.numbered key f)
        → (IsObjectDecl one.decl × PartGetter tables one.n 0 (props_of one.decl) one.body)
        ⊎ GlobalGetter tables one.g one.decl one.body
        → (other : GlobalVar)
        × IsMade p numbers (bodies.getter tables key [] other.ty (stored_read key g other.ty))
    getter_whose f one (inl of) = absurd (no_part f one of.1)
    getter_whose f one (inr other) = getter_found f one other

    getter_good : IsGood (works.global_getter facts g prop)
    getter_good f named =
        let found : numbers (getter_of key) ≡ Some f =
        sym (ap (λ (found : Option GlobalVar). and_then
        (option_map (λ (one : GlobalVar). getter_of one.key.at) found) numbers) there) ∙ named in
        let one = getter_at world answers isolation decls rule it.keyed it.declared ordered it.are
        it.numbered key f found in
        let (other, made) = getter_whose f one one.whose in
        global_getter_stands tables numbers functions g prop other f made found

    first_in : (value : Option Expr) → prop.value ≡ value → (body : TreeBody)
        → Contains (for_some value (λ value. record {
          name = work.FirstValue g;
          iso = facts.iso_at key;
          takes = [];
          work = (expr_work facts None value).read (work.Then (work.StoreGlobal g) work.Finish);
        } ∷ [])) body → IsGood body
    first_in None is body has = absurd (none_in body has)
    first_in (Some value) is body has = subst IsGood (only_in _ body has) (first_good value is)

    -- the bodies of a global variable
    pub global_good : (body : TreeBody)
        → Contains (works.first_value facts g prop ++ works.global_getter facts g prop ∷ []) body
        → IsGood body
    global_good body has =
        elim (Contains-append_cases (works.first_value facts g prop)
        (works.global_getter facts g prop ∷ []) body has) [
          | inl first ↦ first_in prop.value refl body first
          | inr getter ↦ subst IsGood (only_in (works.global_getter facts g prop) body getter) getter_good
        ]
