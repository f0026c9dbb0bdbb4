-- Each function of a program, each method and each initialiser has a body with its key.
use Rattle.std.proofs.Common.{◌≡◌, ℕ, false, Option, Some, List, [], ◌∷◌, ◌++◌, map, length}
use Rattle.std.proofs.Common.{flat_map, Contains, inl, inr, refl, ap, sym, ◌∙◌, subst, arith}
use Rattle.std.proofs.lemmas.Bool.{ne_eqb}
use Rattle.std.proofs.lemmas.List.Elements.{Contains-append_cases, Contains-append_left}
use Rattle.std.proofs.lemmas.List.Elements.{Contains-append_right}
use Rattle.std.specs.Prelude.{◌==◌, IsSome, if◌then◌else◌, slice_get}
use Rattle.sw_list.proofs.Members.{none_in}
use Rattle.sw_tree.specs.declared.decl.Decl.{Decl}
use Rattle.sw_tree.specs.declared.decl.Decl.TheVariants.{Entry, Struct, Enum, Class, Actor}
use Rattle.sw_tree.specs.declared.decl.Decl.TheVariants.{GlobalActor, Func, Global}
use Rattle.sw_tree.specs.declared.decl.FuncTree.{FuncTree}
use Rattle.sw_tree.specs.declared.decl.InitTree.{InitTree}
use Rattle.sw_tree.specs.declared.decl.ParamTree.{ParamTree}
use Rattle.sw_tree.specs.declared.decl.PropTree.{PropTree}
use Rattle.sw_tree.specs.declared.name.Name.{Name}
use Rattle.sw_tree.specs.declared.stmt.Block.{Block}
use Rattle.sw_tree.proofs.Members.{of_map}
use Rattle.sw_types.specs.declared.isolation.Iso.{Iso}
use Rattle.sw_types.specs.declared.isolation.Iso.TheVariants as iso
use Rattle.sw_types.specs.declared.shape.Shape.{Shape}
use Rattle.sw_decl_words.specs.Evident.{meanings_of}
use Rattle.sw_decl_words.specs.Shaped.{written_actor}
use Rattle.sw_decl_words.specs.Words.{shapes_made, top_meaning}
use Rattle.sw_decl_words.specs.declared.words.Meaning.{Meaning}
use Rattle.sw_decls.specs.Signatures.{actor_iso, func_of, funcs_of, init_of, inits_of}
use Rattle.sw_decls.specs.declared.signature.AsyncDefault.{AsyncDefault}
use Rattle.sw_decls.specs.declared.signature.Signature.{Signature}
use Rattle.sw_typing_rules.specs.Worlds.{IsWorldOf, World}
use Rattle.sw_isolation_rules.specs.Answers.{Answers, for_some}
use Rattle.sw_isolation_rules.specs.Programs.{func_at}
use Rattle.sw_lower_plans.specs.declared.name.FunctionName.{FunctionName}
use Rattle.sw_lower_code.specs.Whole.{Body}
use Rattle.sw_lower_rules.specs.Bodies.{AreOrdered, decl_bodies, default_bodies, first_values}
use Rattle.sw_lower_rules.specs.Bodies.{func_bodies, func_signed, func_tree_bodies, init_bodies}
use Rattle.sw_lower_rules.specs.Bodies.{init_code, init_signed, inits_bodies, numbers_of}
use Rattle.sw_lower_rules.specs.Bodies.{param_taken, prop_getters, self_taken, signed, tables_of}
use Rattle.sw_lower_rules.specs.Carriers.{Given}
use Rattle.sw_lower_rules.specs.Expressions.{body_code}
use Rattle.sw_lower_rules.specs.Statements.{block_code}
use Rattle.sw_lower_rules.specs.Tables.{Isolation, Tables, name_of, plain}
use Rattle.sw_lower_formed_facts.proofs.Headers.Signed.{for_found}
use Rattle.sw_typing_facts.proofs.Lists.Listed.{in_first, in_place, only_in}
use Rattle.sw_typing_facts.proofs.Programs.MadeOf.{shape_stands}
use Rattle.sw_lower_formed_facts.proofs.Bodies.MadeOf.{body_stands}
use Rattle.sw_typing_facts.proofs.Programs.Standing.{Stands}
use Rattle.sw_lower_total_facts.proofs.Programs.Found.{FuncAt, found_at, func_at_key, func_made}
use Rattle.sw_lower_total_facts.proofs.Programs.Found.{func_there}
use Rattle.sw_lower_total_facts.proofs.Programs.Numbered.{name_numbered}

-- a body with a name
pub record HasBody (bodies : List Body) (name : FunctionName) : Type 0 where
  pub body : Body
  pub has : Contains bodies body
  pub named : name_of body ≡ name

-- the same among more bodies
pub body_among : (bodies more : List Body) (name : FunctionName)
    → ((body : Body) → Contains bodies body → Contains more body) → HasBody bodies name
    → HasBody more name
body_among bodies more name are one =
    record { body = one.body; has = are one.body one.has; named = one.named }

-- what is made of one element is made of the list
in_flat_map : {X Y : Type 0} (f : X → List Y) (xs : List X) (x : X) (y : Y) → Contains xs x
    → Contains (f x) y → Contains (flat_map f xs) y
in_flat_map f [] x y has holds = absurd (none_in x has)
in_flat_map f (one ∷ xs) x y has holds =
    elim (Contains-append_cases (one ∷ []) xs x has) [
      | inl here ↦
          Contains-append_left (f one) (flat_map f xs) y
          (subst (λ z. Contains (f z) y) (sym (only_in one x here)) holds)
      | inr there ↦
          Contains-append_right (f one) (flat_map f xs) y (in_flat_map f xs x y there holds)
    ]

-- where an initialiser is written, there is one
some_written : (init : InitTree) (inits : List InitTree)
    → (length (init ∷ inits) == 0) ≡ false
some_written init inits =
    ne_eqb (length (init ∷ inits)) 0 (λ same. omega (arith, same))

module _ (tables : Tables) where
  -- the body of a function that is found by its key
  func_body : (key : ℕ) (params : List ParamTree) (block : Block) (one : FuncAt tables.world key)
      → HasBody (func_bodies tables key params block) (plain key)
  unfolding func_bodies
  func_body key params block one =
      let func = one.func in
      let code = block_code tables func.owner block in
      let body = signed tables func
      (self_taken tables func.owner ++ map (param_taken tables) params)
      (body_code func.result code) in
      record {
        body = body;
        has = for_found (func_at tables.world tables.answers key) func
            (func_signed tables params block) body
            (found_at tables.world tables.answers key one) (in_first body code.inside);
        named = ap plain one.key_is;
      }

  -- the body of an initialiser
  init_has : (n : ℕ) (props : List PropTree) (params : List ParamTree) (givens : List Given)
      (key : ℕ) (one : FuncAt tables.world key) (shape : Shape)
      → slice_get tables.world.shapes n ≡ Some shape
      → HasBody (for_some (func_at tables.world tables.answers key)
      (init_signed tables n props params givens)) (plain key)
  init_has n props params givens key one shape at =
      let func = one.func in
      let body = signed tables func (map (param_taken tables) params)
      (init_code func.key.at n shape (first_values tables n props ++ givens)) in
      record {
        body = body;
        has = for_found (func_at tables.world tables.answers key) func
            (init_signed tables n props params givens) body
            (found_at tables.world tables.answers key one)
            (for_found (slice_get tables.world.shapes n) shape
            (λ shape. signed tables func (map (param_taken tables) params)
            (init_code func.key.at n shape (first_values tables n props ++ givens)) ∷ []) body at
            (in_first body []));
        named = ap plain one.key_is;
      }

  -- one that is written
  written_body : (n : ℕ) (props : List PropTree) (init : InitTree)
      (one : FuncAt tables.world init.at) (shape : Shape)
      → slice_get tables.world.shapes n ≡ Some shape
      → HasBody (init_bodies tables n props init) (plain init.at)
  unfolding init_bodies
  written_body n props init one shape at =
      let code = block_code tables (Some n) init.body in
      let found = for_some (func_at tables.world tables.answers init.at)
      (init_signed tables n props init.params code.gives) in
      body_among found (found ++ code.inside) (plain init.at)
      (λ body has. Contains-append_left found code.inside body has)
      (init_has n props init.params code.gives init.at one shape at)

  -- and one that isn't
  default_body : (n : ℕ) (props : List PropTree) (word : Name) (one : FuncAt tables.world word.at)
      (shape : Shape) → slice_get tables.world.shapes n ≡ Some shape
      → HasBody (default_bodies tables n props word) (plain word.at)
  unfolding default_bodies
  default_body n props word one shape at = init_has n props [] [] word.at one shape at

module _ (world : World) (answers : Answers) (isolation : Isolation) (decls : List Decl)
    (rule : AsyncDefault) (is : IsWorldOf decls rule world) where
  abbrev tables : Tables
  tables = tables_of world answers isolation decls

  abbrev known : ℕ → Option Meaning
  known = top_meaning decls

  -- a declared function is found by its key
  found_by : (n g : ℕ) (decl : Decl) (func : Signature) (key : ℕ) → Stands decls n g decl
      → Contains (funcs_of known rule n decl) func → func.key.at ≡ key → FuncAt world key
  found_by n g decl func key stands has same =
      func_at_key decls rule world is func key
      (func_there decls rule world is n g decl func stands has) same

  -- the declaration that stands somewhere, and a function of it
  module _ (n g : ℕ) (decl : Decl) (stands : Stands decls n g decl) (func : Signature)
      (declared : Contains (funcs_of known rule n decl) func) where
    -- the body of the function of a tree
    tree_body : (trees : List FuncTree) (owner : Option ℕ) (actor : Iso)
        → Contains (map (func_of known rule owner actor) trees) func
        → HasBody (flat_map (func_tree_bodies tables) trees) (plain func.key.at)
    tree_body trees owner actor has =
        let (tree, there, same) = of_map (func_of known rule owner actor) trees func has in
        let word : func.key.at ≡ tree.word.at = ap (λ (x : Signature). x.key.at) (sym same) in
        let one = found_by n g decl func tree.word.at stands declared word in
        subst (λ at. HasBody (flat_map (func_tree_bodies tables) trees) (plain at)) (sym word)
        (body_among (func_tree_bodies tables tree) (flat_map (func_tree_bodies tables) trees)
        (plain tree.word.at)
        (λ body holds. in_flat_map (func_tree_bodies tables) trees tree body there holds)
        (func_body tables tree.word.at tree.params tree.body one))

    -- the body of the initialiser of a tree
    init_tree_body : (props : List PropTree) (word : Name) (actor : Iso) (inits : List InitTree)
        (shape : Shape) → slice_get world.shapes n ≡ Some shape
        → Contains (map (λ (one : InitTree). init_of known
        (record { at = one.at; id = word.id }) n actor one.params) inits) func
        → HasBody (flat_map (init_bodies tables n props) inits) (plain func.key.at)
    init_tree_body props word actor inits shape at has =
        let (init, there, same) = of_map (λ (one : InitTree). init_of known
        (record { at = one.at; id = word.id }) n actor one.params) inits func has in
        let own : func.key.at ≡ init.at = ap (λ (x : Signature). x.key.at) (sym same) in
        let one = found_by n g decl func init.at stands declared own in
        subst (λ at. HasBody (flat_map (init_bodies tables n props) inits) (plain at)) (sym own)
        (body_among (init_bodies tables n props init) (flat_map (init_bodies tables n props) inits)
        (plain init.at)
        (λ body holds. in_flat_map (init_bodies tables n props) inits init body there holds)
        (written_body tables n props init one shape at))

    -- the body of an initialiser, written or not
    inits_body : (props : List PropTree) (word : Name) (actor : Iso) (inits : List InitTree)
        (shape : Shape) → slice_get world.shapes n ≡ Some shape
        → Contains (inits_of known word n actor inits) func
        → HasBody (inits_bodies tables n props word inits) (plain func.key.at)
    inits_body props word actor [] shape at has =
        let same = only_in (init_of known word n actor []) func has in
        let own : func.key.at ≡ word.at = ap (λ (x : Signature). x.key.at) (sym same) in
        let one = found_by n g decl func word.at stands declared own in
        subst (λ at. HasBody (default_bodies tables n props word) (plain at)) (sym own)
        (default_body tables n props word one shape at)
    inits_body props word actor (init ∷ inits) shape at has =
        let written = map (λ (one : InitTree). init_of known
        (record { at = one.at; id = word.id }) n actor one.params) (init ∷ inits) in
        init_tree_body props word actor (init ∷ inits) shape at
        (subst (λ test. Contains
        ((if test then init_of known word n actor [] ∷ [] else []) ++ written) func)
        (some_written init inits) has)

    -- the body of a function of a class or an actor
    object_body : (props : List PropTree) (word : Name) (actor : Iso) (inits : List InitTree)
        (trees : List FuncTree) (shape : Shape) → slice_get world.shapes n ≡ Some shape
        → Contains (inits_of known word n actor inits
        ++ map (func_of known rule (Some n) actor) trees) func
        → HasBody (prop_getters tables n 0 props ++ inits_bodies tables n props word inits
        ++ flat_map (func_tree_bodies tables) trees) (plain func.key.at)
    object_body props word actor inits trees shape at has =
        let getters = prop_getters tables n 0 props in
        let makers = inits_bodies tables n props word inits in
        let methods = flat_map (func_tree_bodies tables) trees in
        let name = plain func.key.at in
        elim (Contains-append_cases (inits_of known word n actor inits)
        (map (func_of known rule (Some n) actor) trees) func has) [
          | inl here ↦
              body_among makers (getters ++ makers ++ methods) name
              (λ body holds. Contains-append_left (getters ++ makers) methods body
              (Contains-append_right getters makers body holds))
              (inits_body props word actor inits shape at here)
          | inr there ↦
              body_among methods (getters ++ makers ++ methods) name
              (λ body holds. Contains-append_right (getters ++ makers) methods body holds)
              (tree_body trees (Some n) actor there)
        ]

  -- a type's declaration has its shape
  shape_at : (n g : ℕ) (decl : Decl) → Stands decls n g decl → shapes_made decl ≡ 1
      → (shape : Shape) × (slice_get world.shapes n ≡ Some shape)
  shape_at n g decl stands makes =
      let (shape, there) = shape_stands (meanings_of decls) decls n g decl stands makes in
      (shape, ap (λ shapes. slice_get shapes n) is.shapes ∙ there)

  -- Each function of a declaration has a body among those of the declaration.
  decl_body : (n g : ℕ) (decl : Decl) (func : Signature) → Stands decls n g decl
      → Contains (funcs_of known rule n decl) func
      → HasBody (decl_bodies tables n g decl) (plain func.key.at)
  unfolding funcs_of decl_bodies
  decl_body n g (Entry word written at is_async body) func stands has =
      let own : func.key.at ≡ at = ap (λ (x : Signature). x.key.at) (sym (only_in _ func has)) in
      let one = found_by n g (Entry word written at is_async body) func at stands has own in
      subst (λ at'. HasBody (func_bodies tables at [] body) (plain at')) (sym own)
      (func_body tables at [] body one)
  decl_body n g (Struct word conforms fields funcs) func stands has =
      tree_body n g (Struct word conforms fields funcs) stands func has funcs (Some n) iso.Free has
  decl_body n g (Enum word conforms cases funcs) func stands has =
      tree_body n g (Enum word conforms cases funcs) stands func has funcs (Some n) iso.Free has
  decl_body n g (Class written word conforms props inits funcs) func stands has =
      let decl = Class written word conforms props inits funcs in
      let (shape, at) = shape_at n g decl stands refl in
      object_body n g decl stands func has props word
      (actor_iso (written_actor known written)) inits funcs shape at has
  decl_body n g (Actor word props inits funcs) func stands has =
      let decl = Actor word props inits funcs in
      let (shape, at) = shape_at n g decl stands refl in
      object_body n g decl stands func has props word iso.Own inits funcs shape at has
  decl_body n g (GlobalActor word made) func stands has = absurd (none_in func has)
  decl_body n g (Func tree) func stands has =
      let own : func.key.at ≡ tree.word.at =
      ap (λ (x : Signature). x.key.at) (sym (only_in _ func has)) in
      let one = found_by n g (Func tree) func tree.word.at stands has own in
      subst (λ at. HasBody (func_tree_bodies tables tree) (plain at)) (sym own)
      (func_body tables tree.word.at tree.params tree.body one)
  decl_body n g (Global global) func stands has = absurd (none_in func has)

  module _ (ordered : List Body) (are : AreOrdered tables decls ordered) where
    -- a body of a declaration has a number
    pub stands_numbered : (n g : ℕ) (decl : Decl) (name : FunctionName) → Stands decls n g decl
        → HasBody (decl_bodies tables n g decl) name → IsSome (numbers_of ordered name)
    stands_numbered n g decl name stands one =
        name_numbered tables decls ordered are one.body name
        (body_stands tables decls n g decl one.body stands one.has) one.named

    -- Each function of a declaration has a number.
    pub declared_numbered : (n g : ℕ) (decl : Decl) (func : Signature) → Stands decls n g decl
        → Contains (funcs_of known rule n decl) func
        → IsSome (numbers_of ordered (plain func.key.at))
    declared_numbered n g decl func stands has =
        stands_numbered n g decl (plain func.key.at) stands (decl_body n g decl func stands has)

    -- Each function, method and initialiser has a number.
    pub funcs_numbered : (n : ℕ) (func : Signature) → slice_get world.funcs n ≡ Some func
        → IsSome (numbers_of ordered (plain func.key.at))
    funcs_numbered n func at =
        let made = func_made decls rule world is func (in_place world.funcs n func at) in
        declared_numbered made.n made.g made.decl func made.stands made.has
