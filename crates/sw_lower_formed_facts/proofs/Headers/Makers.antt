-- Initialisers are found by the keys of their types.
use Rattle.std.proofs.Common.{◌≡◌, ℕ, Option, Some, None, List, [], ◌∷◌, ◌++◌, map, Contains}
use Rattle.std.proofs.Common.{length, refl, ap, sym, ◌∙◌, arith}
use Rattle.std.proofs.lemmas.List.Elements.{Contains-append_left, Contains-append_right}
use Rattle.std.specs.Prelude.{◌==◌, flat_map, if◌then◌else◌, slice_get}
use Rattle.sw_tree.proofs.Counting.{hits_same}
use Rattle.sw_tree.specs.Contents.{AreKeyed}
use Rattle.sw_tree.specs.declared.decl.Decl.{Decl}
use Rattle.sw_tree.specs.declared.decl.Decl.TheVariants.{Entry, Struct, Enum, Class, Actor}
use Rattle.sw_tree.specs.declared.decl.Decl.TheVariants.{GlobalActor, Func, Global}
use Rattle.sw_tree.specs.declared.decl.InitTree.{InitTree}
use Rattle.sw_tree.specs.declared.decl.PropTree.{PropTree}
use Rattle.sw_tree.specs.declared.name.Name.{Name}
use Rattle.sw_tree.proofs.Members.{in_map}
use Rattle.sw_types.specs.declared.isolation.Iso.{Iso}
use Rattle.sw_types.specs.declared.isolation.Iso.TheVariants as iso
use Rattle.sw_types.specs.declared.shape.Shape.{Shape}
use Rattle.sw_decl_words.proofs.WithinLemmas.{one_shape}
use Rattle.sw_decl_words.specs.Evident.{meanings_of}
use Rattle.sw_decl_words.specs.Shaped.{written_actor}
use Rattle.sw_decl_words.specs.Words.{shapes_made, top_meaning}
use Rattle.sw_decl_words.specs.declared.words.Meaning.{Meaning}
use Rattle.sw_decls.specs.Declaring.{init_key, key_place, maker_keys}
use Rattle.sw_decls.specs.Signatures.{actor_iso, func_of, funcs_of, init_of, inits_of}
use Rattle.sw_decls.specs.declared.signature.AsyncDefault.{AsyncDefault}
use Rattle.sw_decls.specs.declared.signature.Signature.{Signature}
use Rattle.sw_typing_rules.proofs.OneWorld.{value_word}
use Rattle.sw_typing_rules.specs.Programs.{bodies_of, func_body, init_body}
use Rattle.sw_typing_rules.specs.Worlds.{IsWorldOf, World, and_then, item}
use Rattle.sw_isolation_rules.specs.Answers.{Answers, for_some}
use Rattle.sw_isolation_rules.specs.Programs.{func_at}
use Rattle.sw_isolation_rules.specs.Uses.{maker_at}
use Rattle.sw_lower_code.specs.Whole.{Body}
use Rattle.sw_lower_rules.specs.Bodies.{AreNumbered, AreOrdered, decl_bodies, default_bodies}
use Rattle.sw_lower_rules.specs.Bodies.{first_values, func_tree_bodies, functions_of, init_bodies}
use Rattle.sw_lower_rules.specs.Bodies.{init_code, init_signed, inits_bodies, numbers_of}
use Rattle.sw_lower_rules.specs.Bodies.{param_taken, prop_getters, signed, tables_of}
use Rattle.sw_lower_rules.specs.Carriers.{Given}
use Rattle.sw_lower_rules.specs.Statements.{block_code}
use Rattle.sw_lower_rules.specs.Tables.{Isolation, Tables, plain}
use Rattle.sw_lower_formed_facts.specs.Ground.{IsHeader, params_of}
use Rattle.sw_lower_formed_facts.proofs.Headers.ParamTypes.{AreAnswered, are_typed, kinds_are}
use Rattle.sw_lower_formed_facts.proofs.Headers.Signed.{declared_func, for_found, func_found, signed_header}
use Rattle.sw_typing_facts.proofs.Lists.Listed.{between, in_first, in_place}
use Rattle.sw_typing_facts.proofs.Programs.DeclStands.{made_flat}
use Rattle.sw_typing_facts.proofs.Programs.MadeOf.{func_stands, shape_stands}
use Rattle.sw_lower_formed_facts.proofs.Bodies.MadeOf.{body_stands}
use Rattle.sw_typing_facts.proofs.Programs.MadeOf.{typed_stands}
use Rattle.sw_typing_facts.proofs.Programs.SignatureKeys.{no_signature, numbered_key}
use Rattle.sw_typing_facts.proofs.Programs.Standing.{Stands, place_of_thing, stands_in}

-- what is found of a type's initialiser
pub record MakerParts (found : Option ℕ) (numbers : ℕ → Option ℕ) (funcs : List Signature)
    (func : Signature) : Type 0 where
  pub key : ℕ
  pub place : ℕ
  pub key_is : found ≡ Some key
  pub place_is : numbers key ≡ Some place
  pub at : slice_get funcs place ≡ Some func

-- an initialiser that is found is found so
pub maker_parts : (found : Option ℕ) (numbers : ℕ → Option ℕ) (funcs : List Signature)
    (func : Signature) → item (and_then found numbers) funcs ≡ Some func
    → MakerParts found numbers funcs func
maker_parts None numbers funcs func is = cc
maker_parts (Some key) numbers funcs func is = by (numbers key) refl is where
  by : (place : Option ℕ) → numbers key ≡ place → item place funcs ≡ Some func
      → MakerParts (Some key) numbers funcs func
  by None place_is never = cc
  by (Some place) place_is at =
      record { key = key; place = place; key_is = refl; place_is = place_is; at = at }

-- one key of an initialiser of each shape
pub makers_counted : (decl : Decl) → length (maker_keys decl) ≡ shapes_made decl
makers_counted (Entry word written at is_async body) = refl
makers_counted (Struct word conforms fields funcs) = refl
makers_counted (Enum word conforms cases funcs) = refl
makers_counted (Class written word conforms props inits funcs) = refl
makers_counted (Actor word props inits funcs) = refl
makers_counted (GlobalActor word made) = refl
makers_counted (Func func) = refl
makers_counted (Global global) = refl

module _ (world : World) (answers : Answers) (isolation : Isolation) (decls : List Decl)
    (rule : AsyncDefault) (keys : AreKeyed decls)
    (is : IsWorldOf decls rule world) (ordered : List Body)
    (are : AreOrdered (tables_of world answers isolation decls) decls ordered)
    (numbered : AreNumbered ordered) (typed_once : AreAnswered world answers decls) where
  abbrev tables : Tables
  tables = tables_of world answers isolation decls

  abbrev known : ℕ → Option Meaning
  known = top_meaning decls

  -- the body of an initialiser whose type has a shape
  init_made : (n : ℕ) (props : List PropTree) (init : InitTree) (givens : List Given)
      (func : Signature) (shape : Shape) → slice_get world.shapes n ≡ Some shape
      → Contains (init_signed tables n props init.params givens func)
      (signed tables func (map (param_taken tables) init.params)
      (init_code func.key.at n shape (first_values tables n props ++ givens)))
  init_made n props init givens func shape at =
      let body = signed tables func (map (param_taken tables) init.params)
      (init_code func.key.at n shape (first_values tables n props ++ givens)) in
      for_found (slice_get world.shapes n) shape (λ shape.
      signed tables func (map (param_taken tables) init.params)
      (init_code func.key.at n shape (first_values tables n props ++ givens)) ∷ []) body at
      (in_first body [])

  -- The type's declaration, and what is made of its initialisers.
  module _ (n g : ℕ) (decl : Decl) (word : Name) (props : List PropTree) (actor : Iso)
      (stands : Stands decls n g decl) (shape : Shape)
      (there : slice_get world.shapes n ≡ Some shape) (key place f : ℕ) (func : Signature)
      (number : world.numbers key ≡ Some place)
      (at : slice_get world.funcs place ≡ Some func)
      (found : numbers_of ordered (plain func.key.at) ≡ Some f) where
    -- the initialiser that a type has where it writes none
    default_header : word.at ≡ key
        → Contains (funcs_of known rule n decl) (init_of known word n actor [])
        → ((body : Body) → Contains (default_bodies tables n props word) body
        → Contains (decl_bodies tables n g decl) body)
        → IsHeader (functions_of ordered) (params_of func) func.result f
    unfolding default_bodies
    default_header word_is declared made =
        let one = init_of known word n actor [] in
        let same : func ≡ one =
        declared_func world answers isolation decls rule keys is ordered are numbered key
        place func one number at (func_stands known rule decls n g decl one stands declared)
        word_is in
        let code = init_code func.key.at n shape (first_values tables n props ++ []) in
        let body = signed tables func [] code in
        let has : Contains (default_bodies tables n props word) body =
        for_found (func_at world answers word.at) func (init_signed tables n props [] []) body
        (func_found world answers isolation decls rule keys is ordered are numbered word.at
        place func (ap world.numbers word_is ∙ number) at)
        (for_found (slice_get world.shapes n) shape
        (λ shape. signed tables func []
        (init_code func.key.at n shape (first_values tables n props ++ [])) ∷ []) body there
        (in_first body [])) in
        signed_header world answers isolation decls rule keys is ordered are numbered func []
        code f (params_of func) (body_stands tables decls n g decl body stands (made body has))
        found
        (sym (ap params_of same))

    -- an initialiser that is written
    init_header : (init : InitTree) → init.at ≡ key
        → Contains (funcs_of known rule n decl)
        (init_of known (record { at = init.at; id = word.id }) n actor init.params)
        → Contains (bodies_of world n decl) (init_body n init)
        → ((body : Body) → Contains (init_bodies tables n props init) body
        → Contains (decl_bodies tables n g decl) body)
        → IsHeader (functions_of ordered) (params_of func) func.result f
    unfolding init_bodies
    init_header init word_is declared typed made =
        let one = init_of known (record { at = init.at; id = word.id }) n actor init.params in
        let same : func ≡ one =
        declared_func world answers isolation decls rule keys is ordered are numbered key
        place func one number at (func_stands known rule decls n g decl one stands declared)
        word_is in
        let inside = block_code tables (Some n) init.body in
        let code = init_code func.key.at n shape (first_values tables n props ++ inside.gives) in
        let takes = map (param_taken tables) init.params in
        let body = signed tables func takes code in
        let has : Contains (init_bodies tables n props init) body =
        Contains-append_left
        (for_some (func_at world answers init.at)
        (init_signed tables n props init.params inside.gives)) inside.inside body
        (for_found (func_at world answers init.at) func
        (init_signed tables n props init.params inside.gives) body
        (func_found world answers isolation decls rule keys is ordered are numbered init.at
        place func (ap world.numbers word_is ∙ number) at)
        (init_made n props init inside.gives func shape there)) in
        signed_header world answers isolation decls rule keys is ordered are numbered func
        takes code f (params_of func)
        (body_stands tables decls n g decl body stands (made body has)) found
        (kinds_are tables known init.params
        (are_typed world answers decls rule is typed_once (init_body n init)
        (typed_stands world decls n g decl (init_body n init) stands typed))
        ∙ sym (ap params_of same))

    -- the first of the initialisers, or else the one that the type has
    maker_header : (inits : List InitTree) → init_key word.at inits ≡ key
        → ((one : Signature) → Contains (inits_of known word n actor inits) one
        → Contains (funcs_of known rule n decl) one)
        → ((init : InitTree) → Contains inits init
        → Contains (bodies_of world n decl) (init_body n init))
        → ((body : Body) → Contains (inits_bodies tables n props word inits) body
        → Contains (decl_bodies tables n g decl) body)
        → IsHeader (functions_of ordered) (params_of func) func.result f
    maker_header [] word_is declared typed made =
        default_header word_is
        (declared (init_of known word n actor []) (in_first (init_of known word n actor []) []))
        made
    maker_header (init ∷ inits) word_is declared typed made =
        let signature : InitTree → Signature = λ (one : InitTree).
        init_of known (record { at = one.at; id = word.id }) n actor one.params in
        init_header init word_is
        (declared (signature init)
        (Contains-append_right
        (if length (init ∷ inits) == 0 then init_of known word n actor [] ∷ [] else [])
        (map signature (init ∷ inits)) (signature init)
        (in_map signature (init ∷ inits) init (in_first init inits))))
        (typed init (in_first init inits))
        (λ body has. made body
        (Contains-append_left (init_bodies tables n props init)
        (flat_map (init_bodies tables n props) inits) body has))

  -- a struct or an enum has no initialiser
  no_maker : (n g : ℕ) (decl : Decl) → Stands decls n g decl → (word key place : ℕ)
      (func : Signature) → word ≡ key → world.numbers key ≡ Some place
      → slice_get world.funcs place ≡ Some func → value_word decl word ≡ 1 → ⊥
  no_maker n g decl stands word key place func same number at value =
      let own : key_place func ≡ word =
      numbered_key world.funcs key place func (sym (is.numbers key) ∙ number) at ∙ sym same in
      no_signature decls rule world keys is func decl (in_place world.funcs place func at)
      (stands_in 0 0 decls n g decl stands) (omega (arith, value, ap (value_word decl) own))

  -- the initialiser that a declaration has
  maker_by : (n g : ℕ) (decl : Decl) → Stands decls n g decl → (key place f : ℕ) (func : Signature)
      → maker_keys decl ≡ key ∷ []
      → world.numbers key ≡ Some place → slice_get world.funcs place ≡ Some func
      → numbers_of ordered (plain func.key.at) ≡ Some f
      → IsHeader (functions_of ordered) (params_of func) func.result f
  unfolding funcs_of bodies_of decl_bodies
  maker_by n g (Entry word written async_at is_async body) stands key place f func makes number at
      found = cc
  maker_by n g (Struct word conforms fields funcs) stands key place f func makes number at found =
      absurd (no_maker n g (Struct word conforms fields funcs) stands word.at key place func
      (let same : word.at ≡ key = cc in same) number at (hits_same word.at))
  maker_by n g (Enum word conforms cases funcs) stands key place f func makes number at found =
      absurd (no_maker n g (Enum word conforms cases funcs) stands word.at key place func
      (let same : word.at ≡ key = cc in same) number at (hits_same word.at))
  maker_by n g (Class written word conforms props inits funcs) stands key place f func makes number
      at found =
      let decl = Class written word conforms props inits funcs in
      let actor = actor_iso (written_actor known written) in
      let (shape, there) = shape_stands (meanings_of decls) decls n g decl stands refl in
      maker_header n g decl word props actor stands shape
      (ap (λ shapes. slice_get shapes n) is.shapes ∙ there) key place f func number at found inits
      (let same : init_key word.at inits ≡ key = cc in same)
      (λ one has. Contains-append_left (inits_of known word n actor inits)
      (map (func_of known rule (Some n) actor) funcs) one has)
      (λ init has. Contains-append_left (map (init_body n) inits)
      (map (func_body world (Some n)) funcs) (init_body n init)
      (in_map (init_body n) inits init has))
      (λ body has. between (prop_getters tables n 0 props) (inits_bodies tables n props word inits)
      (flat_map (func_tree_bodies tables) funcs) body has)
  maker_by n g (Actor word props inits funcs) stands key place f func makes number at found =
      let decl = Actor word props inits funcs in
      let (shape, there) = shape_stands (meanings_of decls) decls n g decl stands refl in
      maker_header n g decl word props iso.Own stands shape
      (ap (λ shapes. slice_get shapes n) is.shapes ∙ there) key place f func number at found inits
      (let same : init_key word.at inits ≡ key = cc in same)
      (λ one has. Contains-append_left (inits_of known word n iso.Own inits)
      (map (func_of known rule (Some n) iso.Own) funcs) one has)
      (λ init has. Contains-append_left (map (init_body n) inits)
      (map (func_body world (Some n)) funcs) (init_body n init)
      (in_map (init_body n) inits init has))
      (λ body has. between (prop_getters tables n 0 props) (inits_bodies tables n props word inits)
      (flat_map (func_tree_bodies tables) funcs) body has)
  maker_by n g (GlobalActor word made) stands key place f func makes number at found = cc
  maker_by n g (Func tree) stands key place f func makes number at found = cc
  maker_by n g (Global global) stands key place f func makes number at found = cc

  -- the initialiser of a type
  pub maker_headers : (k f : ℕ) (func : Signature) → maker_at world k ≡ Some func
      → numbers_of ordered (plain func.key.at) ≡ Some f
      → IsHeader (functions_of ordered) (params_of func) func.result f
  unfolding maker_at
  maker_headers k f func made found =
      let parts = maker_parts (slice_get world.makers k) world.numbers world.funcs func made in
      let one = place_of_thing (λ n g decl. maker_keys decl) (λ n g. n) shapes_made
      (λ n g decl. refl) (λ n g decl. makers_counted decl) one_shape 0 0 decls k parts.key
      (ap (λ makers. slice_get makers k) (sym (is.makers ∙ made_flat maker_keys 0 0 decls))
      ∙ parts.key_is) in
      maker_by one.n one.g one.decl one.stands parts.key parts.place f func one.is parts.place_is
      parts.at found
