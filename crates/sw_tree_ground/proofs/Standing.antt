-- The bodies of a program that are found by their names stand in the functions with their numbers.
use Rattle.std.proofs.Common.{◌≡◌, ℕ, ◌⊎◌, inl, inr, Bool, true, false, Some, None, List, [], ◌∷◌}
use Rattle.std.proofs.Common.{Contains, refl, ap, ◌∙◌, subst}
use Rattle.std.proofs.lemmas.Bool.{eqb-true}
use Rattle.std.proofs.lemmas.Bool.Decides.{eqb_tells}
use Rattle.std.specs.Option.{option_map}
use Rattle.std.specs.Prelude.{◌==◌, ◌≢◌, ◌||◌, ◌&&◌, if◌then◌else◌, slice_get}
use Rattle.sw_list.proofs.Members.{first_or_later, none_in}
use Rattle.sw_tree.specs.declared.decl.Decl.{Decl}
use Rattle.sw_tree_facts.specs.Values.{AreValued}
use Rattle.sw_decls.specs.declared.signature.AsyncDefault.{AsyncDefault}
use Rattle.sw_decls.specs.declared.signature.GlobalVar.{GlobalVar}
use Rattle.sw_decls.specs.declared.signature.Signature.{Signature}
use Rattle.sw_typing_rules.specs.Worlds.{World, and_then}
use Rattle.sw_isolation_rules.specs.Answers.{Answers}
use Rattle.sw_lower_plans.specs.Plan.{Numbers}
use Rattle.sw_lower_code.specs.Whole.{Body}
use Rattle.sw_lower_rules.specs.Bodies.{functions_of, numbers_of, tables_of}
use Rattle.sw_lower_rules.specs.Tables.{Isolation, Tables, getter_of, plain}
use Rattle.sw_lower_total_facts.proofs.Programs.Found.{func_made}
use Rattle.sw_typing_facts.proofs.Lists.Found.{found_in_found, mapped}
use Rattle.sw_typing_facts.proofs.Lists.Listed.{in_first, in_rest}
use Rattle.sw_tree_work.specs.Bodies.{bodies_from, bodies_of, body_in}
use Rattle.sw_tree_work.specs.Facts.{Facts}
use Rattle.sw_tree_work.specs.Work.{BodyName, FirstValue, Function, GlobalGetter, PartGetter, TreeBody}
use Rattle.sw_tree_work.specs.Work.{is_same_name}
use Rattle.sw_spots.specs.Forms.{facts_of, is_declared, program}
use Rattle.sw_spots.specs.Spots.{BodiesStand, Program}
use Rattle.sw_spots_program.specs.Lowered.{IsMadeOf}
use Rattle.sw_spots_program.proofs.Declarations.{decl_good}
use Rattle.sw_tree_ground.proofs.Getters.{first_named, global_named, part_named}
use Rattle.sw_tree_ground.proofs.Names.{HasBody, func_named, work_made}

-- names that are the same
same_key : (key : ℕ) → (key == key) ≡ true
same_key key = by (eqb_tells key key) where
  by : (((key == key) ≡ true) × (key ≡ key)) ⊎ (((key == key) ≡ false) × (key ≢ key))
      → (key == key) ≡ true
  by (inl tells) = tells.0
  by (inr tells) = absurd (tells.1 refl)

itself : (name : BodyName) → is_same_name name name ≡ true
itself (Function key) = same_key key
itself (PartGetter shape part) =
    ap (λ is. is && (part == part)) (same_key shape) ∙ same_key part
itself (GlobalGetter number) = same_key number
itself (FirstValue number) = same_key number

both_parts : (shape part other one : ℕ) → (shape == other) && (part == one) ≡ true
    → PartGetter shape part ≡ PartGetter other one
both_parts shape part other one same = by (shape == other) refl same where
  by : (is : Bool) → (shape == other) ≡ is → is && (part == one) ≡ true
      → PartGetter shape part ≡ PartGetter other one
  by true is same =
      ap (λ k. PartGetter k part) (eqb-true shape other is)
      ∙ ap (PartGetter other) (eqb-true part one same)
  by false is same = cc

same_names : (one other : BodyName) → is_same_name one other ≡ true → one ≡ other
same_names (Function key) (Function other) same = ap Function (eqb-true key other same)
same_names (PartGetter shape part) (PartGetter other one) same = both_parts shape part other one same
same_names (GlobalGetter number) (GlobalGetter other) same =
    ap GlobalGetter (eqb-true number other same)
same_names (FirstValue number) (FirstValue other) same = ap FirstValue (eqb-true number other same)
same_names (Function key) (PartGetter other one) same = cc
same_names (Function key) (GlobalGetter other) same = cc
same_names (Function key) (FirstValue other) same = cc
same_names (PartGetter shape part) (Function other) same = cc
same_names (PartGetter shape part) (GlobalGetter other) same = cc
same_names (PartGetter shape part) (FirstValue other) same = cc
same_names (GlobalGetter number) (Function other) same = cc
same_names (GlobalGetter number) (PartGetter other one) same = cc
same_names (GlobalGetter number) (FirstValue other) same = cc
same_names (FirstValue number) (Function other) same = cc
same_names (FirstValue number) (PartGetter other one) same = cc
same_names (FirstValue number) (GlobalGetter other) same = cc

-- what is found by a name among bodies of which one has it
record FoundIn (bodies : List TreeBody) (name : BodyName) : Type 0 where
  body : TreeBody
  has : Contains bodies body
  is : body_in bodies name ≡ Some body
  named : body.name ≡ name

find : (bodies : List TreeBody) (name : BodyName) → HasBody bodies name → FoundIn bodies name
find [] name one = absurd (none_in one.body one.has)
find (first ∷ bodies) name one =
    by (is_same_name first.name name) refl (first_or_later first bodies one.body one.has)
    (λ later. find bodies name (record { body = one.body; has = later; named = one.named })) where
      here : is_same_name first.name name ≡ true → FoundIn (first ∷ bodies) name
      here same = record {
        body = first;
        has = in_first first bodies;
        is = ap (λ test. if test then Some first else body_in bodies name) same;
        named = same_names first.name name same;
      }

      by : (same : Bool) → is_same_name first.name name ≡ same
          → (first ≡ one.body) ⊎ Contains bodies one.body
          → (Contains bodies one.body → FoundIn bodies name) → FoundIn (first ∷ bodies) name
      by true same where_it more = here same
      by false other (inl same) more =
          here (ap (λ (body : TreeBody). is_same_name body.name name) same
          ∙ ap (λ named. is_same_name named name) one.named ∙ itself name)
      by false other (inr later) more =
          let found = more later in record {
            body = found.body;
            has = in_rest first bodies found.body found.has;
            is = ap (λ test. if test then Some first else body_in bodies name) other ∙ found.is;
            named = found.named;
          }

-- a function that is declared with a key
declared_func : (funcs : List Signature) (key : ℕ) → is_declared funcs key ≡ true
    → (func : Signature) × Contains funcs func × (func.key.at ≡ key)
declared_func [] key is = cc
declared_func (func ∷ funcs) key is =
    by (func.key.at == key) refl is (declared_func funcs key) where
      by : (same : Bool) → (func.key.at == key) ≡ same → same || is_declared funcs key ≡ true
          → (is_declared funcs key ≡ true
          → (one : Signature) × Contains funcs one × (one.key.at ≡ key))
          → (one : Signature) × Contains (func ∷ funcs) one × (one.key.at ≡ key)
      by true same is later = (func, in_first func funcs, eqb-true func.key.at key same)
      by false other is later =
          let (one, has, same) = later is in (one, in_rest func funcs one has, same)

module _ (world : World) (answers : Answers) (isolation : Isolation) (decls : List Decl)
    (rule : AsyncDefault) (ordered : List Body) (valued : AreValued decls)
    (it : IsMadeOf world answers isolation decls rule ordered) where
  abbrev tables : Tables
  tables = tables_of world answers isolation decls

  abbrev facts : Facts
  facts = facts_of tables

  abbrev numbers : Numbers
  numbers = numbers_of ordered

  abbrev p : Program
  p = program tables numbers (functions_of ordered)

  abbrev all : List TreeBody
  all = bodies_from facts 0 0 decls

  func_has : (key number : ℕ) → p.number (Function key) ≡ Some number → HasBody all (Function key)
  func_has key number named = by (is_declared world.funcs key) refl named where
    by : (is : Bool) → is_declared world.funcs key ≡ is
        → and_then (if is then Some (plain key) else None) numbers ≡ Some number
        → HasBody all (Function key)
    by true is named =
        let (func, has, same) = declared_func world.funcs key is in
        let made = func_made decls rule world it.declared func has in
        subst (λ k. HasBody all (Function k)) same
        (func_named world answers isolation decls rule it.declared made.n made.g made.decl func
        made.stands made.has)
    by false is named = cc

  -- Each name that a function has is that of a body.
  name_has : (name : BodyName) (number : ℕ) → p.number name ≡ Some number → HasBody all name
  name_has (Function key) number named = func_has key number named
  name_has (PartGetter k i) number named =
      part_named world answers isolation decls rule ordered it k i number named
  name_has (GlobalGetter g) number named =
      let (name, found, numbered) = found_in_found
      (option_map (λ (global : GlobalVar). getter_of global.key.at) (slice_get world.globals g)) numbers
      number named in
      let (global, at, is) = mapped (λ (global : GlobalVar). getter_of global.key.at)
      (slice_get world.globals g) name found in
      global_named world answers isolation decls rule ordered it g global at
  name_has (FirstValue g) number named =
      let (name, found, numbered) = found_in_found
      (option_map (λ (global : GlobalVar). plain global.key.at) (slice_get world.globals g)) numbers
      number named in
      let (global, at, is) = mapped (λ (global : GlobalVar). plain global.key.at)
      (slice_get world.globals g) name found in
      first_named world answers isolation decls rule ordered it valued g global at

  pub bodies_stand : BodiesStand p (bodies_of facts decls)
  unfolding bodies_of
  bodies_stand name number named =
      let found = find all name (name_has name number named) in
      let made = work_made facts decls found.body found.has in (
        found.body,
        found.is,
        decl_good world answers isolation decls rule ordered it made.n made.g made.decl made.stands
            found.body made.has number (ap p.number found.named ∙ named),
      )
