-- The bodies of each declaration stand in their functions.
use Rattle.std.proofs.Common.{◌≡◌, ℕ, ◌+◌, ◌≤◌, Option, Some, None, List, [], ◌∷◌, ◌++◌, Contains, inl, inr}
use Rattle.std.proofs.Common.{flat_map, map, refl, ap, sym, subst, arith}
use Rattle.std.proofs.lemmas.List.Elements.{Contains-append_cases, Contains-append_left}
use Rattle.std.proofs.lemmas.List.Elements.{Contains-append_right}
use Rattle.std.specs.Prelude.{slice_get}
use Rattle.sw_list.proofs.Members.{in_flat_map, none_in, of_flat_map}
use Rattle.sw_tree.proofs.Counting.{count, hits, in_all, in_all-cons, in_all-nil}
use Rattle.sw_tree.proofs.KeyCounts.{in_decl, in_func, in_init, in_prop}
use Rattle.sw_tree.proofs.KeyCounts as keys
use Rattle.sw_tree.proofs.Members.{in_map}
use Rattle.sw_tree.specs.declared.decl.Decl.{Decl}
use Rattle.sw_tree.specs.declared.decl.Decl.TheVariants.{Entry, Struct, Enum, Class, Actor}
use Rattle.sw_tree.specs.declared.decl.Decl.TheVariants.{GlobalActor, Func, Global}
use Rattle.sw_tree.specs.declared.decl.FuncTree.{FuncTree}
use Rattle.sw_tree.specs.declared.decl.InitTree.{InitTree}
use Rattle.sw_tree.specs.declared.decl.PropTree.{PropTree}
use Rattle.sw_tree.specs.declared.name.Name.{Name}
use Rattle.sw_tree_facts.specs.Parts.{IsPart, StandsIn, of_block, of_decl, of_decls, of_func, of_init}
use Rattle.sw_tree_facts.specs.Parts.{of_prop}
use Rattle.sw_tree_facts.specs.Parts as parts
use Rattle.sw_types.specs.declared.isolation.Iso.{Iso}
use Rattle.sw_types.specs.declared.isolation.Iso.TheVariants as iso
use Rattle.sw_types.specs.declared.shape.Shape.{Shape}
use Rattle.sw_decl_words.specs.Evident.{meanings_of}
use Rattle.sw_decl_words.specs.Shaped.{shape_of, written_actor}
use Rattle.sw_decl_words.specs.Words.{top_meaning}
use Rattle.sw_decl_words.specs.declared.words.Meaning.{Meaning}
use Rattle.sw_decls.specs.Signatures.{actor_iso, func_of, funcs_of, inits_of}
use Rattle.sw_decls.specs.declared.signature.AsyncDefault.{AsyncDefault}
use Rattle.sw_typing_rules.specs.Worlds.{World}
use Rattle.sw_isolation_rules.specs.Answers.{Answers, for_some}
use Rattle.sw_lower_code.specs.Whole.{Body}
use Rattle.sw_lower_rules.specs.Bodies.{decl_bodies, func_tree_bodies, inits_bodies}
use Rattle.sw_lower_rules.specs.Bodies.{prop_getters, tables_of}
use Rattle.sw_lower_rules.specs.Tables.{Isolation, Tables, prop_keys, shape_keys}
use Rattle.sw_lower_formed_facts.proofs.Headers.Getters.{props_of}
use Rattle.sw_typing_facts.proofs.Lists.Listed.{in_first}
use Rattle.sw_typing_facts.proofs.Programs.DeclStands.{shape_there}
use Rattle.sw_typing_facts.proofs.Programs.Keyed.{counted_in, counted_where, key_once}
use Rattle.sw_typing_facts.proofs.Programs.ObjectDecls.{ObjectOk, actor_ok, class_ok}
use Rattle.sw_typing_facts.proofs.Programs.Standing.{Stands, stands_in}
use Rattle.sw_tree_work.specs.Bodies as works
use Rattle.sw_tree_work.specs.Bodies.{first_given, self_of}
use Rattle.sw_tree_work.specs.Facts.{Facts}
use Rattle.sw_tree_work.specs.Work.{TreeBody}
use Rattle.sw_spots.specs.Forms.{facts_of}
use Rattle.sw_spots_tree.proofs.Keys.{down}
use Rattle.sw_spots_program.specs.Lowered.{IsMadeOf}
use Rattle.sw_spots_program.proofs.Functions.{Good, func_good, tree_good}
use Rattle.sw_spots_program.proofs.Getters.{global_good, part_good}
use Rattle.sw_spots_program.proofs.Initialisers.{first_stands, firsts_stand, inits_good}

module _ (world : World) (answers : Answers) (isolation : Isolation) (decls : List Decl)
    (rule : AsyncDefault) (ordered : List Body)
    (it : IsMadeOf world answers isolation decls rule ordered) where
  abbrev tables : Tables
  tables = tables_of world answers isolation decls

  abbrev facts : Facts
  facts = facts_of tables

  abbrev known : ℕ → Option Meaning
  known = top_meaning decls

  abbrev IsGood : TreeBody → Type 0
  IsGood = Good world answers isolation decls rule ordered it

  module _ (n g : ℕ) (decl : Decl) (stands : Stands decls n g decl) where
    part : StandsIn (of_decl decl) (of_decls decls)
    part = down (of_decl decl) (of_decls decls) (of_decls decls)
        (parts.one_decl decls decl (stands_in 0 0 decls n g decl stands)) (parts.itself (of_decls decls))

    -- each key stands once in the declaration
    once : (c : ℕ) → in_decl decl c ≤ 1
    once c = omega (arith, key_once decls it.keyed c, counted_where 0 0 decls n g decl c stands)

    -- `self` of a type is the type's word
    self_is : (shape : Shape) → slice_get (shape_of (meanings_of decls) n decl) 0 ≡ Some shape
        → self_of facts (Some n) ≡ shape.at ∷ []
    self_is shape made =
        ap (λ found. for_some found (λ (shape : Shape). shape.at ∷ []))
        (shape_there decls rule world it.declared n g decl shape stands made)

    self_count : (shape : Shape) → slice_get (shape_of (meanings_of decls) n decl) 0 ≡ Some shape
        → (c : ℕ) → count (self_of facts (Some n)) c ≡ hits shape.at c
    self_count shape made c =
        omega (
          arith,
          ap (λ list. count list c) (self_is shape made),
          in_all-cons hits shape.at [] c,
          in_all-nil hits c,
        )

    -- the functions of a type
    funcs_good : (funcs : List FuncTree) (owner : Option ℕ) (actor : Iso)
        → ((tree : FuncTree) → Contains funcs tree
        → Contains (funcs_of known rule n decl) (func_of known rule owner actor tree))
        → ((body : Body) → Contains (flat_map (func_tree_bodies tables) funcs) body
        → Contains (decl_bodies tables n g decl) body)
        → ((tree : FuncTree) → Contains funcs tree → IsPart (of_func tree) (of_decl decl))
        → ((c : ℕ) → count (self_of facts owner) c + in_all in_func funcs c ≤ 1)
        → (body : TreeBody) → Contains (flat_map (works.func_tree_body facts) funcs) body
        → IsGood body
    funcs_good funcs owner actor declared inside of few body has =
        let (tree, among, its) = of_flat_map (works.func_tree_body facts) funcs body has in
        tree_good world answers isolation decls rule ordered it n g decl stands tree owner actor
        (declared tree among)
        (λ made holds. inside made (in_flat_map (func_tree_bodies tables) funcs tree made among holds))
        (down (of_func tree) (of_decl decl) (of_decls decls) (of tree among) part)
        (λ c. omega (arith, few c, counted_in in_func funcs tree c among)) body its

    -- a class or an actor
    module _ (word : Name) (props : List PropTree) (inits : List InitTree) (funcs : List FuncTree)
        (actor : Iso) (shape : Shape) (ok : ObjectOk (meanings_of decls) n props inits)
        (there : slice_get world.shapes n ≡ Some shape)
        (keys_are : shape_keys decl ≡ prop_keys (props_of decl) ∷ []) (props_are : props_of decl ≡ props)
        (bodies_are : decl_bodies tables n g decl ≡ prop_getters tables n 0 props
        ++ inits_bodies tables n props word inits ++ flat_map (func_tree_bodies tables) funcs)
        (funcs_are : funcs_of known rule n decl ≡ inits_of known word n actor inits
        ++ map (func_of known rule (Some n) actor) funcs)
        (prop_part : (one : PropTree) → Contains props one → IsPart (of_prop one) (of_decl decl))
        (init_part : (one : InitTree) → Contains inits one → IsPart (of_init one) (of_decl decl))
        (func_part : (one : FuncTree) → Contains funcs one → IsPart (of_func one) (of_decl decl))
        (counted : (c : ℕ) → count (self_of facts (Some n)) c + in_all in_prop props c
        + in_all in_init inits c + in_all in_func funcs c ≤ 1) where
      abbrev getters : List Body
      getters = prop_getters tables n 0 props

      abbrev makers : List Body
      makers = inits_bodies tables n props word inits

      abbrev methods : List Body
      methods = flat_map (func_tree_bodies tables) funcs

      among : (body : Body) → Contains (getters ++ makers ++ methods) body
          → Contains (decl_bodies tables n g decl) body
      among body has = subst (λ all. Contains all body) (sym bodies_are) has

      of_props : (body : TreeBody) → Contains (works.part_getters facts n 0 props) body → IsGood body
      of_props body has =
          part_good world answers isolation decls rule ordered it n g decl stands keys_are body
          (subst (λ all. Contains (works.part_getters facts n 0 all) body) (sym props_are) has)

      of_inits : (body : TreeBody) → Contains (works.inits facts n props word inits) body → IsGood body
      of_inits =
          inits_good world answers isolation decls rule ordered it n g decl stands shape there props
          (firsts_stand world answers isolation decls rule ordered it n props (λ prop has.
          first_stands world answers isolation decls rule ordered it n prop
          (down (of_prop prop) (of_decl decl) (of_decls decls) (prop_part prop has) part)
          (λ c. omega (arith, counted c, counted_in in_prop props prop c has))
          (λ value is. ok.firsts prop value has is)))
          word inits
          (λ body has. among body
          (Contains-append_left (getters ++ makers) methods body
          (Contains-append_right getters makers body has)))
          (λ init has. down (of_init init) (of_decl decl) (of_decls decls) (init_part init has) part)
          (λ init has c. omega (arith, counted c, counted_in in_init inits init c has))

      of_funcs : (body : TreeBody) → Contains (flat_map (works.func_tree_body facts) funcs) body
          → IsGood body
      of_funcs =
          funcs_good funcs (Some n) actor
          (λ tree has. subst (λ all. Contains all (func_of known rule (Some n) actor tree))
          (sym funcs_are)
          (Contains-append_right (inits_of known word n actor inits)
          (map (func_of known rule (Some n) actor) funcs) (func_of known rule (Some n) actor tree)
          (in_map (func_of known rule (Some n) actor) funcs tree has)))
          (λ body has. among body (Contains-append_right (getters ++ makers) methods body has))
          func_part
          (λ c. omega (arith, counted c))

      object_good : (body : TreeBody)
          → Contains (works.class_bodies facts n props word inits funcs) body → IsGood body
      object_good body has =
          let front = works.part_getters facts n 0 props in
          let middle = works.inits facts n props word inits in
          let rest = flat_map (works.func_tree_body facts) funcs in
          elim (Contains-append_cases (front ++ middle) rest body has) [
            | inr method ↦ of_funcs body method
            | inl before ↦
                elim (Contains-append_cases front middle body before) [
                  | inl getter ↦ of_props body getter
                  | inr maker ↦ of_inits body maker
                ]
          ]

  -- Each body of a declaration stands.
  pub decl_good : (n g : ℕ) (decl : Decl) → Stands decls n g decl → (body : TreeBody)
      → Contains (works.decl_bodies facts n g decl) body → IsGood body
  unfolding shape_of funcs_of decl_bodies
  decl_good n g (Entry word written at is_async block) stands body has =
      let decl = Entry word written at is_async block in
      func_good world answers isolation decls rule ordered it n g decl stands at [] block
      (λ body has. has)
      (down (of_block block) (of_decl decl) (of_decls decls)
      (parts.entry_body word written at is_async block) (part n g decl stands)) _ (in_first _ []) refl
      (λ c. omega (
        arith,
        once n g decl stands c,
        keys.in_decl-Entry word written at is_async block c,
        in_all-nil hits c,
      )) body has
  decl_good n g (Struct word conforms fields funcs) stands body has =
      let decl = Struct word conforms fields funcs in
      funcs_good n g decl stands funcs (Some n) iso.Free
      (λ tree among. in_map (func_of known rule (Some n) iso.Free) funcs tree among)
      (λ body has. has) (parts.struct_func word conforms fields funcs)
      (λ c. omega (
        arith,
        once n g decl stands c,
        self_count n g decl stands _ refl c,
        keys.in_decl-Struct word conforms fields funcs c,
      )) body has
  decl_good n g (Enum word conforms cases funcs) stands body has =
      let decl = Enum word conforms cases funcs in
      funcs_good n g decl stands funcs (Some n) iso.Free
      (λ tree among. in_map (func_of known rule (Some n) iso.Free) funcs tree among)
      (λ body has. has) (parts.enum_func word conforms cases funcs)
      (λ c. omega (
        arith,
        once n g decl stands c,
        self_count n g decl stands _ refl c,
        keys.in_decl-Enum word conforms cases funcs c,
      )) body has
  decl_good n g (Class written word conforms props inits funcs) stands body has =
      let decl = Class written word conforms props inits funcs in
      object_good n g decl stands word props inits funcs (actor_iso (written_actor known written)) _
      (class_ok decls it.keyed it.sound n g written word conforms props inits funcs stands)
      (shape_there decls rule world it.declared n g decl _ stands refl) refl refl refl refl
      (parts.class_prop written word conforms props inits funcs)
      (parts.class_init written word conforms props inits funcs)
      (parts.class_func written word conforms props inits funcs)
      (λ c. omega (
        arith,
        once n g decl stands c,
        self_count n g decl stands _ refl c,
        keys.in_decl-Class written word conforms props inits funcs c,
      )) body has
  decl_good n g (Actor word props inits funcs) stands body has =
      let decl = Actor word props inits funcs in
      object_good n g decl stands word props inits funcs iso.Own _
      (actor_ok decls it.keyed it.sound n g word props inits funcs stands)
      (shape_there decls rule world it.declared n g decl _ stands refl) refl refl refl refl
      (parts.actor_prop word props inits funcs) (parts.actor_init word props inits funcs)
      (parts.actor_func word props inits funcs)
      (λ c. omega (
        arith,
        once n g decl stands c,
        self_count n g decl stands _ refl c,
        keys.in_decl-Actor word props inits funcs c,
      )) body has
  decl_good n g (GlobalActor word made) stands body has = absurd (none_in body has)
  decl_good n g (Func func) stands body has =
      let decl = Func func in
      tree_good world answers isolation decls rule ordered it n g decl stands func None iso.Free
      (in_first _ []) (λ body has. has)
      (down (of_func func) (of_decl decl) (of_decls decls) (parts.decl_func func)
      (part n g decl stands))
      (λ c. omega (arith, once n g decl stands c, keys.in_decl-Func func c, in_all-nil hits c)) body has
  decl_good n g (Global prop) stands body has =
      global_good world answers isolation decls rule ordered it n g prop stands
      (down (of_prop prop) (of_decl (Global prop)) (of_decls decls) (parts.decl_global prop)
      (part n g (Global prop) stands)) body has
