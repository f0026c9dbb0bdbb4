-- The bodies of functions and of initialisers are found among those of declarations.
use Rattle.std.proofs.Common.{◌≡◌, ℕ, ◌+◌, false, Option, Some, List, [], ◌∷◌, ◌++◌}
use Rattle.std.proofs.Common.{Contains, inl, inr, flat_map, map, refl, ap, sym, ◌∙◌, subst, length, arith}
use Rattle.std.proofs.lemmas.Bool.{ne_eqb}
use Rattle.std.proofs.lemmas.List.Elements.{Contains-append_cases, Contains-append_left}
use Rattle.std.proofs.lemmas.List.Elements.{Contains-append_right}
use Rattle.std.specs.Prelude.{◌==◌, if◌then◌else◌, slice_get}
use Rattle.sw_list.proofs.Members.{in_flat_map, none_in}
use Rattle.sw_tree.proofs.Members.{of_map}
use Rattle.sw_tree.specs.declared.decl.Decl.{Decl}
use Rattle.sw_tree.specs.declared.decl.Decl.TheVariants.{Entry, Struct, Enum, Class, Actor}
use Rattle.sw_tree.specs.declared.decl.Decl.TheVariants.{GlobalActor, Func, Global}
use Rattle.sw_tree.specs.declared.decl.FuncTree.{FuncTree}
use Rattle.sw_tree.specs.declared.decl.InitTree.{InitTree}
use Rattle.sw_tree.specs.declared.decl.ParamTree.{ParamTree}
use Rattle.sw_tree.specs.declared.decl.PropTree.{PropTree}
use Rattle.sw_tree.specs.declared.name.Name.{Name}
use Rattle.sw_tree.specs.declared.stmt.Block.{Block}
use Rattle.sw_types.specs.declared.isolation.Iso.{Iso}
use Rattle.sw_types.specs.declared.isolation.Iso.TheVariants as iso
use Rattle.sw_types.specs.declared.shape.Shape.{Shape}
use Rattle.sw_decl_words.specs.Evident.{meanings_of}
use Rattle.sw_decl_words.specs.Shaped.{written_actor}
use Rattle.sw_decl_words.specs.Words.{globals_made, shapes_made, top_meaning}
use Rattle.sw_decl_words.specs.declared.words.Meaning.{Meaning}
use Rattle.sw_decls.specs.Signatures.{actor_iso, func_of, funcs_of, init_of, inits_of}
use Rattle.sw_decls.specs.declared.signature.AsyncDefault.{AsyncDefault}
use Rattle.sw_decls.specs.declared.signature.Signature.{Signature}
use Rattle.sw_typing_rules.specs.Worlds.{IsWorldOf, World}
use Rattle.sw_isolation_rules.specs.Answers.{Answers}
use Rattle.sw_isolation_rules.specs.Programs.{func_at}
use Rattle.sw_lower_rules.specs.Bodies.{tables_of}
use Rattle.sw_lower_rules.specs.Tables.{Isolation, Tables}
use Rattle.sw_lower_formed_facts.proofs.Headers.Signed.{for_found}
use Rattle.sw_lower_total_facts.proofs.Programs.Found.{FuncAt, found_at, func_at_key, func_there}
use Rattle.sw_typing_facts.proofs.Lists.Listed.{in_first, only_in}
use Rattle.sw_typing_facts.proofs.Programs.MadeOf.{shape_stands}
use Rattle.sw_typing_facts.proofs.Programs.Standing.{MadeBy, Stands, made_by_one, made_from, maker_of}
use Rattle.sw_tree_work.specs.Bodies as works
use Rattle.sw_tree_work.specs.Bodies.{body_of, first_given, init_work, params_of, self_of}
use Rattle.sw_tree_work.specs.Facts.{Facts}
use Rattle.sw_tree_work.specs.Forms.{Given, body_work}
use Rattle.sw_tree_work.specs.Trees.{block_work}
use Rattle.sw_tree_work.specs.Work.{BodyName, Function as FunctionAt, TreeBody}
use Rattle.sw_spots.specs.Forms.{facts_of}

-- a body with a name
pub record HasBody (bodies : List TreeBody) (name : BodyName) : Type 0 where
  pub body : TreeBody
  pub has : Contains bodies body
  pub named : body.name ≡ name

-- the same among more bodies
pub among_more : (bodies more : List TreeBody) (name : BodyName)
    → ((body : TreeBody) → Contains bodies body → Contains more body) → HasBody bodies name
    → HasBody more name
among_more bodies more name are one =
    record { body = one.body; has = are one.body one.has; named = one.named }

-- the bodies of declarations
works_are : (facts : Facts) (number index : ℕ) (decls : List Decl)
    → works.bodies_from facts number index decls
    ≡ made_from (works.decl_bodies facts) number index decls
works_are facts number index [] = refl
works_are facts number index (decl ∷ decls) =
    ap (λ more. works.decl_bodies facts number index decl ++ more)
    (works_are facts (number + shapes_made decl) (index + globals_made decl) decls)

-- A body of a declaration is one of the program, and the other way round.
pub work_stands : (facts : Facts) (decls : List Decl) (n g : ℕ) (decl : Decl) (name : BodyName)
    → Stands decls n g decl → HasBody (works.decl_bodies facts n g decl) name
    → HasBody (works.bodies_from facts 0 0 decls) name
work_stands facts decls n g decl name stands one = record {
  body = one.body;
  has = subst (λ all. Contains all one.body) (sym (works_are facts 0 0 decls))
      (made_by_one (works.decl_bodies facts) 0 0 decls n g decl one.body stands one.has);
  named = one.named;
}

pub work_made : (facts : Facts) (decls : List Decl) (body : TreeBody)
    → Contains (works.bodies_from facts 0 0 decls) body
    → MadeBy (works.decl_bodies facts) 0 0 decls body
work_made facts decls body has =
    maker_of (works.decl_bodies facts) 0 0 decls body
    (subst (λ all. Contains all body) (works_are facts 0 0 decls) has)

-- where an initialiser is written, there is one
some_written : (init : InitTree) (inits : List InitTree)
    → (length (init ∷ inits) == 0) ≡ false
some_written init inits =
    ne_eqb (length (init ∷ inits)) 0 (λ same. omega (arith, same))

module _ (tables : Tables) where
  abbrev of_tables : Facts
  of_tables = facts_of tables

  -- the body of a function that is found by its key
  func_has : (key : ℕ) (params : List ParamTree) (block : Block) (one : FuncAt tables.world key)
      → HasBody (works.func_body of_tables key params block) (FunctionAt key)
  func_has key params block one =
      let made = λ (func : Signature). body_of of_tables func
      (self_of of_tables func.owner ++ params_of of_tables params)
      (body_work (Some func.result) (block_work of_tables func.owner block)) in
      record {
        body = made one.func;
        has = for_found (func_at tables.world tables.answers key) one.func (λ func. made func ∷ [])
            (made one.func) (found_at tables.world tables.answers key one)
            (in_first (made one.func) []);
        named = ap FunctionAt one.key_is;
      }

  -- the body of an initialiser
  init_has : (n : ℕ) (props : List PropTree) (params : List ParamTree) (givens : List Given)
      (key : ℕ) (one : FuncAt tables.world key) (shape : Shape)
      → slice_get tables.world.shapes n ≡ Some shape
      → HasBody (works.init_body of_tables key n props params givens) (FunctionAt key)
  init_has n props params givens key one shape at =
      let made = λ (shape : Shape) (func : Signature). body_of of_tables func (params_of of_tables params)
      (init_work shape (flat_map (first_given of_tables n) props ++ givens) n) in
      record {
        body = made shape one.func;
        has = for_found (slice_get tables.world.shapes n) shape
            (λ shape. works.signed_body of_tables key (made shape)) (made shape one.func) at
            (for_found (func_at tables.world tables.answers key) one.func
            (λ func. made shape func ∷ []) (made shape one.func)
            (found_at tables.world tables.answers key one) (in_first (made shape one.func) []));
        named = ap FunctionAt one.key_is;
      }

module _ (world : World) (answers : Answers) (isolation : Isolation) (decls : List Decl)
    (rule : AsyncDefault) (is : IsWorldOf decls rule world) where
  abbrev tables : Tables
  tables = tables_of world answers isolation decls

  abbrev facts : Facts
  facts = facts_of tables

  abbrev known : ℕ → Option Meaning
  known = top_meaning decls

  -- a declared function is found by its key
  found_by : (n g : ℕ) (decl : Decl) (func : Signature) (key : ℕ) → Stands decls n g decl
      → Contains (funcs_of known rule n decl) func → func.key.at ≡ key → FuncAt world key
  found_by n g decl func key stands has same =
      func_at_key decls rule world is func key
      (func_there decls rule world is n g decl func stands has) same

  -- the declaration that stands somewhere, and a function of it
  module _ (n g : ℕ) (decl : Decl) (stands : Stands decls n g decl) (func : Signature)
      (declared : Contains (funcs_of known rule n decl) func) where
    abbrev name : BodyName
    name = FunctionAt func.key.at

    -- the body of the function of a tree
    tree_has : (trees : List FuncTree) (owner : Option ℕ) (actor : Iso)
        → Contains (map (func_of known rule owner actor) trees) func
        → HasBody (flat_map (works.func_tree_body facts) trees) name
    tree_has trees owner actor has =
        let (tree, there, same) = of_map (func_of known rule owner actor) trees func has in
        let word : func.key.at ≡ tree.word.at = ap (λ (x : Signature). x.key.at) (sym same) in
        let one = found_by n g decl func tree.word.at stands declared word in
        subst (λ at. HasBody (flat_map (works.func_tree_body facts) trees) (FunctionAt at)) (sym word)
        (among_more (works.func_tree_body facts tree) (flat_map (works.func_tree_body facts) trees)
        (FunctionAt tree.word.at)
        (λ body holds. in_flat_map (works.func_tree_body facts) trees tree body there holds)
        (func_has tables tree.word.at tree.params tree.body one))

    -- the body of the initialiser of a tree
    init_tree_has : (props : List PropTree) (word : Name) (actor : Iso) (inits : List InitTree)
        (shape : Shape) → slice_get world.shapes n ≡ Some shape
        → Contains (map (λ (one : InitTree). init_of known
        (record { at = one.at; id = word.id }) n actor one.params) inits) func
        → HasBody (flat_map (works.written_init facts n props) inits) name
    init_tree_has props word actor inits shape at has =
        let (init, there, same) = of_map (λ (one : InitTree). init_of known
        (record { at = one.at; id = word.id }) n actor one.params) inits func has in
        let own : func.key.at ≡ init.at = ap (λ (x : Signature). x.key.at) (sym same) in
        let one = found_by n g decl func init.at stands declared own in
        subst (λ at. HasBody (flat_map (works.written_init facts n props) inits) (FunctionAt at))
        (sym own)
        (among_more (works.written_init facts n props init)
        (flat_map (works.written_init facts n props) inits) (FunctionAt init.at)
        (λ body holds. in_flat_map (works.written_init facts n props) inits init body there holds)
        (init_has tables n props init.params (block_work facts (Some n) init.body).gives init.at one
        shape at))

    -- the body of an initialiser, written or not
    inits_has : (props : List PropTree) (word : Name) (actor : Iso) (inits : List InitTree)
        (shape : Shape) → slice_get world.shapes n ≡ Some shape
        → Contains (inits_of known word n actor inits) func
        → HasBody (works.inits facts n props word inits) name
    inits_has props word actor [] shape at has =
        let same = only_in (init_of known word n actor []) func has in
        let own : func.key.at ≡ word.at = ap (λ (x : Signature). x.key.at) (sym same) in
        let one = found_by n g decl func word.at stands declared own in
        subst (λ at. HasBody (works.init_body facts word.at n props [] []) (FunctionAt at)) (sym own)
        (init_has tables n props [] [] word.at one shape at)
    inits_has props word actor (init ∷ inits) shape at has =
        let written = map (λ (one : InitTree). init_of known
        (record { at = one.at; id = word.id }) n actor one.params) (init ∷ inits) in
        init_tree_has props word actor (init ∷ inits) shape at
        (subst (λ test. Contains
        ((if test then init_of known word n actor [] ∷ [] else []) ++ written) func)
        (some_written init inits) has)

    -- the body of a function of a class or an actor
    object_has : (props : List PropTree) (word : Name) (actor : Iso) (inits : List InitTree)
        (trees : List FuncTree) (shape : Shape) → slice_get world.shapes n ≡ Some shape
        → Contains (inits_of known word n actor inits
        ++ map (func_of known rule (Some n) actor) trees) func
        → HasBody (works.class_bodies facts n props word inits trees) name
    object_has props word actor inits trees shape at has =
        let getters = works.part_getters facts n 0 props in
        let makers = works.inits facts n props word inits in
        let methods = flat_map (works.func_tree_body facts) trees in
        elim (Contains-append_cases (inits_of known word n actor inits)
        (map (func_of known rule (Some n) actor) trees) func has) [
          | inl here ↦
              among_more makers (getters ++ makers ++ methods) name
              (λ body holds. Contains-append_left (getters ++ makers) methods body
              (Contains-append_right getters makers body holds))
              (inits_has props word actor inits shape at here)
          | inr there ↦
              among_more methods (getters ++ makers ++ methods) name
              (λ body holds. Contains-append_right (getters ++ makers) methods body holds)
              (tree_has trees (Some n) actor there)
        ]

  -- a type's declaration has its shape
  shape_at : (n g : ℕ) (decl : Decl) → Stands decls n g decl → shapes_made decl ≡ 1
      → (shape : Shape) × (slice_get world.shapes n ≡ Some shape)
  shape_at n g decl stands makes =
      let (shape, there) = shape_stands (meanings_of decls) decls n g decl stands makes in
      (shape, ap (λ shapes. slice_get shapes n) is.shapes ∙ there)

  -- Each function of a declaration has a body among those of the declaration.
  decl_has : (n g : ℕ) (decl : Decl) (func : Signature) → Stands decls n g decl
      → Contains (funcs_of known rule n decl) func
      → HasBody (works.decl_bodies facts n g decl) (FunctionAt func.key.at)
  unfolding funcs_of
  decl_has n g (Entry word written at is_async body) func stands has =
      let own : func.key.at ≡ at = ap (λ (x : Signature). x.key.at) (sym (only_in _ func has)) in
      let one = found_by n g (Entry word written at is_async body) func at stands has own in
      subst (λ at'. HasBody (works.func_body facts at [] body) (FunctionAt at')) (sym own)
      (func_has tables at [] body one)
  decl_has n g (Struct word conforms fields funcs) func stands has =
      tree_has n g (Struct word conforms fields funcs) stands func has funcs (Some n) iso.Free has
  decl_has n g (Enum word conforms cases funcs) func stands has =
      tree_has n g (Enum word conforms cases funcs) stands func has funcs (Some n) iso.Free has
  decl_has n g (Class written word conforms props inits funcs) func stands has =
      let decl = Class written word conforms props inits funcs in
      let (shape, at) = shape_at n g decl stands refl in
      object_has n g decl stands func has props word
      (actor_iso (written_actor known written)) inits funcs shape at has
  decl_has n g (Actor word props inits funcs) func stands has =
      let decl = Actor word props inits funcs in
      let (shape, at) = shape_at n g decl stands refl in
      object_has n g decl stands func has props word iso.Own inits funcs shape at has
  decl_has n g (GlobalActor word made) func stands has = absurd (none_in func has)
  decl_has n g (Func tree) func stands has =
      let own : func.key.at ≡ tree.word.at =
      ap (λ (x : Signature). x.key.at) (sym (only_in _ func has)) in
      let one = found_by n g (Func tree) func tree.word.at stands has own in
      subst (λ at. HasBody (works.func_tree_body facts tree) (FunctionAt at)) (sym own)
      (func_has tables tree.word.at tree.params tree.body one)
  decl_has n g (Global global) func stands has = absurd (none_in func has)

  -- So it has one among those of the program.
  pub func_named : (n g : ℕ) (decl : Decl) (func : Signature) → Stands decls n g decl
      → Contains (funcs_of known rule n decl) func
      → HasBody (works.bodies_from facts 0 0 decls) (FunctionAt func.key.at)
  func_named n g decl func stands has =
      work_stands facts decls n g decl (FunctionAt func.key.at) stands
      (decl_has n g decl func stands has)
