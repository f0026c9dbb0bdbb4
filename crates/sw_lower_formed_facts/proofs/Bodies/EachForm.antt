-- What is so of the bodies of functions, getters, initialisers and first values is so of all bodies
-- of a program.
use Rattle.std.proofs.Common.{◌≡◌, ℕ, ◌+◌, List, [], ◌∷◌, ◌++◌, Option, Some, None, map, flat_map}
use Rattle.std.proofs.Common.{Contains, refl, subst, sym, length, inl, inr, Bool, false}
use Rattle.std.proofs.lemmas.List.Elements.{Contains-append_left, Contains-append_right}
use Rattle.std.specs.Prelude.{◌==◌, if◌then◌else◌, slice_get}
use Rattle.sw_tree.specs.Contents.{AreKeyed}
use Rattle.sw_tree.specs.declared.decl.Decl.{Decl}
use Rattle.sw_tree.specs.declared.decl.Decl.TheVariants.{Entry, Struct, Enum, Class, Actor}
use Rattle.sw_tree.specs.declared.decl.Decl.TheVariants.{GlobalActor, Func, Global}
use Rattle.sw_tree.specs.declared.decl.FuncTree.{FuncTree}
use Rattle.sw_tree.specs.declared.decl.InitTree.{InitTree}
use Rattle.sw_tree.specs.declared.decl.PropTree.{PropTree}
use Rattle.sw_tree.specs.declared.decl.Written.{Written}
use Rattle.sw_tree.specs.declared.name.Name.{Name}
use Rattle.sw_tree.specs.declared.stmt.Block.{Block}
use Rattle.sw_tree.proofs.Members.{in_map}
use Rattle.sw_types.specs.declared.isolation.Iso.{Iso}
use Rattle.sw_types.specs.declared.isolation.Iso.TheVariants as iso
use Rattle.sw_types.specs.declared.shape.Shape.{Shape}
use Rattle.sw_types.specs.declared.shape.ShapeKind.TheVariants as kinds
use Rattle.sw_types.specs.declared.ty.Ty.TheVariants as types
use Rattle.sw_decl_words.specs.Evident.{meanings_of}
use Rattle.sw_decl_words.specs.Shaped.{part_of, shape_of, written_actor}
use Rattle.sw_decl_words.specs.Words.{shapes_made, top_meaning}
use Rattle.sw_decl_words.specs.declared.words.Meaning.{Meaning}
use Rattle.sw_decl_values.specs.Values.{without_value}
use Rattle.sw_decls.specs.Declaring.{IsFirstBreach, key_place}
use Rattle.sw_decls.specs.Signatures.{actor_iso, func_of, funcs_from, funcs_of, init_of, inits_of}
use Rattle.sw_decls.specs.declared.signature.AsyncDefault.{AsyncDefault}
use Rattle.sw_decls.specs.declared.signature.Signature.{Signature}
use Rattle.sw_typing_rules.specs.Programs as typing
use Rattle.sw_typing_rules.specs.Programs.{ValueOf, bodies_of, entry_body, func_body, init_body}
use Rattle.sw_typing_rules.specs.Programs.{prop_value, values_from, values_of}
use Rattle.sw_typing_rules.specs.Worlds.{IsWorldOf, World}
use Rattle.sw_lower_code.specs.Whole.{Body}
use Rattle.sw_lower_rules.specs.Bodies.{bodies_from, decl_bodies, default_bodies, func_bodies}
use Rattle.sw_lower_rules.specs.Bodies.{func_tree_bodies, global_bodies, init_bodies}
use Rattle.sw_decl_words.specs.Words.{globals_made}
use Rattle.sw_lower_rules.specs.Bodies.{inits_bodies, program_bodies, prop_getters}
use Rattle.sw_lower_rules.specs.Tables.{Tables}
use Rattle.sw_lower_formed_facts.proofs.Bodies.FuncBodies.{body_by}
use Rattle.sw_lower_formed_facts.proofs.Bodies.Initialisers.{IsObject}
use Rattle.sw_typing_facts.proofs.Lists.Joined.{Gives, both_give, each_gives, none_gives}
use Rattle.sw_typing_facts.proofs.Lists.Listed.{in_first}
use Rattle.sw_typing_facts.proofs.Programs.DeclParts.{funcs_in, inits_in, props_in}
use Rattle.sw_typing_facts.proofs.Programs.DeclStands.{shape_there, value_stands}
use Rattle.sw_typing_facts.proofs.Programs.MadeOf.{func_stands, typed_stands}
use Rattle.sw_typing_facts.proofs.Programs.ObjectDecls.{ObjectOk, actor_ok, actor_valued, class_ok}
use Rattle.sw_typing_facts.proofs.Programs.ObjectDecls.{class_valued}
use Rattle.sw_typing_facts.proofs.Programs.Standing.{Stands, StandsFrom}

-- a class or an actor, by its declaration
pub record IsObjectAt (world : World) (decls : List Decl) (n g : ℕ) (decl : Decl)
    (props : List PropTree) (inits : List InitTree) : Type 0 where
  pub stands : Stands decls n g decl
  pub props_are : props_in decl ≡ props
  pub inits_are : inits_in decl ≡ inits
  pub ok : ObjectOk (meanings_of decls) n props inits
  pub valued : without_value props inits ≡ []
  pub shape : Shape
  pub there : slice_get world.shapes n ≡ Some shape
  pub parts : shape.parts ≡ map (part_of (meanings_of decls) (Some n)) props
  pub kind : IsObject shape.kind
  pub values : (value : ValueOf) → Contains (flat_map (prop_value world (Some n)) props) value
      → Contains (values_from world 0 decls) value

-- What is so of the bodies of each form.
pub record FormsGive (world : World) (decls : List Decl) (rule : AsyncDefault) (tables : Tables)
    (P Q : Body → Type 0) : Type 0 where
  -- getters
  pub getters : (n : ℕ) (props : List PropTree) → Gives P Q (prop_getters tables n 0 props)
  -- functions and methods
  pub trees : (n g : ℕ) (decl : Decl) (owner : Option ℕ) (actor : Iso) (tree : FuncTree)
      → Stands decls n g decl → Contains (funcs_in decl) tree
      → Contains (funcs_of (top_meaning decls) rule n decl)
      (func_of (top_meaning decls) rule owner actor tree)
      → Contains (bodies_of world n decl) (func_body world owner tree)
      → Gives P Q (func_tree_bodies tables tree)
  -- the entry
  pub entry : (n g : ℕ) (word : Name) (written : Written) (at : ℕ) (is_async : Bool)
      (body : Block) → Stands decls n g (Entry word written at is_async body) → (one : Signature)
      → Contains (funcs_from (top_meaning decls) rule 0 decls) one → key_place one ≡ at
      → Contains (typing.bodies_from world 0 decls) (body_by at [] body one)
      → Gives P Q (func_bodies tables at [] body)
  -- first values and getters of global variables
  pub globals : (n g : ℕ) (prop : PropTree) → Stands decls n g (Global prop)
      → Gives P Q (global_bodies tables g prop)
  -- the initialiser of a type that writes none, and the one that a type writes
  pub default : (n g : ℕ) (decl : Decl) (word : Name) (actor : Iso) (props : List PropTree)
      (inits : List InitTree) → IsObjectAt world decls n g decl props inits → inits ≡ []
      → Contains (funcs_from (top_meaning decls) rule 0 decls)
      (init_of (top_meaning decls) word n actor [])
      → Gives P Q (default_bodies tables n props word)
  pub init : (n g : ℕ) (decl : Decl) (word : Name) (actor : Iso) (props : List PropTree)
      (inits : List InitTree) → IsObjectAt world decls n g decl props inits → (init : InitTree)
      (more : List InitTree) → inits ≡ init ∷ more
      → Contains (funcs_from (top_meaning decls) rule 0 decls)
      (init_of (top_meaning decls) (record { at = init.at; id = word.id }) n actor init.params)
      → Contains (typing.bodies_from world 0 decls) (init_body n init)
      → Gives P Q (init_bodies tables n props init)

module _ (world : World) (decls : List Decl) (rule : AsyncDefault) (tables : Tables)
    (P Q : Body → Type 0) (forms : FormsGive world decls rule tables P Q) where
  abbrev known : ℕ → Option Meaning
  known = top_meaning decls

  -- the functions of a declaration
  funcs_give : (n g : ℕ) (decl : Decl) (owner : Option ℕ) (actor : Iso) (funcs : List FuncTree)
      → Stands decls n g decl → funcs_in decl ≡ funcs
      → ((tree : FuncTree) → Contains funcs tree
      → Contains (funcs_of known rule n decl) (func_of known rule owner actor tree))
      → ((tree : FuncTree) → Contains funcs tree
      → Contains (bodies_of world n decl) (func_body world owner tree))
      → Gives P Q (flat_map (func_tree_bodies tables) funcs)
  funcs_give n g decl owner actor funcs stands are declared typed =
      each_gives P Q (func_tree_bodies tables) funcs
      (λ tree has. forms.trees n g decl owner actor tree stands
      (subst (λ trees. Contains trees tree) (sym are) has) (declared tree has) (typed tree has))

  -- the initialiser of a class or an actor
  inits_give : (n g : ℕ) (decl : Decl) (word : Name) (actor : Iso) (props : List PropTree)
      (inits : List InitTree) → IsObjectAt world decls n g decl props inits
      → ((func : Signature) → Contains (inits_of known word n actor inits) func
      → Contains (funcs_from known rule 0 decls) func)
      → ((init : InitTree) → Contains inits init
      → Contains (typing.bodies_from world 0 decls) (init_body n init))
      → Gives P Q (inits_bodies tables n props word inits)
  inits_give n g decl word actor props inits object declared typed = by inits refl where
    declared_in : (func : Signature) (all : List InitTree) → inits ≡ all
        → Contains (inits_of known word n actor all) func
        → Contains (funcs_from known rule 0 decls) func
    declared_in func all is has =
        declared func
        (subst (λ some. Contains (inits_of known word n actor some) func) (sym is) has)

    by : (all : List InitTree) → inits ≡ all → Gives P Q (inits_bodies tables n props word all)
    by [] is =
        let func = init_of known word n actor [] in
        forms.default n g decl word actor props inits object is
        (declared_in func [] is (in_first func []))
    by (init ∷ more) is =
        let func = init_of known (record { at = init.at; id = word.id }) n actor init.params in
        both_give P Q (init_bodies tables n props init) (flat_map (init_bodies tables n props) more)
        (forms.init n g decl word actor props inits object init more is
        (declared_in func (init ∷ more) is
        (Contains-append_right
        (if length (init ∷ more) == 0 then init_of known word n actor [] ∷ [] else []) _ func
        (in_first func (map (λ (one : InitTree). init_of known
        (record { at = one.at; id = word.id }) n actor one.params) more))))
        (typed init (subst (λ all. Contains all init) (sym is) (in_first init more))))
        (subst (λ all. Gives P Q (flat_map (init_bodies tables n props) all))
        (sym (object.ok.single init more is)) (none_gives P Q))

  -- what is made of a class or an actor
  object_gives : (n g : ℕ) (decl : Decl) (word : Name) (actor : Iso) (props : List PropTree)
      (inits : List InitTree) (funcs : List FuncTree) → Stands decls n g decl
      → props_in decl ≡ props → inits_in decl ≡ inits → funcs_in decl ≡ funcs
      → ObjectOk (meanings_of decls) n props inits → without_value props inits ≡ []
      → (shape : Shape) → slice_get world.shapes n ≡ Some shape
      → shape.parts ≡ map (part_of (meanings_of decls) (Some n)) props → IsObject shape.kind
      → values_of world n decl ≡ flat_map (prop_value world (Some n)) props
      → funcs_of known rule n decl
      ≡ inits_of known word n actor inits ++ map (func_of known rule (Some n) actor) funcs
      → bodies_of world n decl
      ≡ map (init_body n) inits ++ map (func_body world (Some n)) funcs
      → Gives P Q (prop_getters tables n 0 props ++ inits_bodies tables n props word inits
      ++ flat_map (func_tree_bodies tables) funcs)
  object_gives n g decl word actor props inits funcs stands props_are inits_are funcs_are ok valued
      shape there parts kind values declared typed =
      both_give P Q (prop_getters tables n 0 props ++ inits_bodies tables n props word inits)
      (flat_map (func_tree_bodies tables) funcs)
      (both_give P Q (prop_getters tables n 0 props) (inits_bodies tables n props word inits)
      (forms.getters n props)
      (inits_give n g decl word actor props inits object
      (λ func has. func_stands known rule decls n g decl func stands
      (subst (λ all. Contains all func) (sym declared)
      (Contains-append_left (inits_of known word n actor inits) _ func has)))
      (λ init has. typed_stands world decls n g decl (init_body n init) stands
      (subst (λ all. Contains all (init_body n init)) (sym typed)
      (Contains-append_left (map (init_body n) inits) _ (init_body n init)
      (in_map (init_body n) inits init has))))))
      (funcs_give n g decl (Some n) actor funcs stands funcs_are
      (λ tree has. subst (λ all. Contains all (func_of known rule (Some n) actor tree))
      (sym declared)
      (Contains-append_right (inits_of known word n actor inits) _
      (func_of known rule (Some n) actor tree)
      (in_map (func_of known rule (Some n) actor) funcs tree has)))
      (λ tree has. subst (λ all. Contains all (func_body world (Some n) tree)) (sym typed)
      (Contains-append_right (map (init_body n) inits) _ (func_body world (Some n) tree)
      (in_map (func_body world (Some n)) funcs tree has)))) where
        object : IsObjectAt world decls n g decl props inits
        object = record {
          stands = stands;
          props_are = props_are;
          inits_are = inits_are;
          ok = ok;
          valued = valued;
          shape = shape;
          there = there;
          parts = parts;
          kind = kind;
          values = λ value has. value_stands world decls n g decl value stands
              (subst (λ all. Contains all value) (sym values) has);
        }

  module _ (keyed : AreKeyed decls) (is : IsWorldOf decls rule world)
      (sound : IsFirstBreach decls None) where
    decl_gives : (n g : ℕ) (decl : Decl) → Stands decls n g decl
        → Gives P Q (decl_bodies tables n g decl)
    unfolding decl_bodies funcs_of bodies_of values_of shape_of
    decl_gives n g (Entry word written at is_async body) stands =
        let decl = Entry word written at is_async body in
        let one : Signature = record {
          key = record { at = at; id = 10 };
          owner = None;
          iso = actor_iso (written_actor known written);
          is_async = is_async;
          params = [];
          result = types.Unit;
          sends = false;
        } in
        forms.entry n g word written at is_async body stands one
        (func_stands known rule decls n g decl one stands (in_first one [])) refl
        (typed_stands world decls n g decl (entry_body at body) stands
        (in_first (entry_body at body) []))
    decl_gives n g (Struct word conforms fields funcs) stands =
        funcs_give n g (Struct word conforms fields funcs) (Some n) iso.Free funcs stands refl
        (in_map (func_of known rule (Some n) iso.Free) funcs)
        (in_map (func_body world (Some n)) funcs)
    decl_gives n g (Enum word conforms cases funcs) stands =
        funcs_give n g (Enum word conforms cases funcs) (Some n) iso.Free funcs stands refl
        (in_map (func_of known rule (Some n) iso.Free) funcs)
        (in_map (func_body world (Some n)) funcs)
    decl_gives n g (Class written word conforms props inits funcs) stands =
        let decl = Class written word conforms props inits funcs in
        let shape : Shape = record {
          kind = kinds.Class;
          at = word.at;
          conforms = conforms;
          actor = written_actor known written;
          parts = map (part_of (meanings_of decls) (Some n)) props;
          cases = [];
        } in
        object_gives n g decl word (actor_iso (written_actor known written)) props inits funcs
        stands refl refl refl
        (class_ok decls keyed sound n g written word conforms props inits funcs stands)
        (class_valued decls sound n g written word conforms props inits funcs stands) shape
        (shape_there decls rule world is n g decl shape stands refl) refl tt refl refl refl
    decl_gives n g (Actor word props inits funcs) stands =
        let decl = Actor word props inits funcs in
        let shape : Shape = record {
          kind = kinds.Actor;
          at = word.at;
          conforms = false;
          actor = None;
          parts = map (part_of (meanings_of decls) (Some n)) props;
          cases = [];
        } in
        object_gives n g decl word iso.Own props inits funcs stands refl refl refl
        (actor_ok decls keyed sound n g word props inits funcs stands)
        (actor_valued decls sound n g word props inits funcs stands) shape
        (shape_there decls rule world is n g decl shape stands refl) refl tt refl refl refl
    decl_gives n g (GlobalActor word made) stands = none_gives P Q
    decl_gives n g (Func func) stands =
        forms.trees n g (Func func) None iso.Free func stands (in_first func [])
        (in_first (func_of known rule None iso.Free func) [])
        (in_first (func_body world None func) [])
    decl_gives n g (Global prop) stands = forms.globals n g prop stands

    all_give : (from index : ℕ) (some : List Decl)
        → ((n g : ℕ) (decl : Decl) → StandsFrom from index some n g decl
        → Gives P Q (decl_bodies tables n g decl))
        → Gives P Q (bodies_from tables from index some)
    all_give from index [] each = none_gives P Q
    all_give from index (decl ∷ some) each =
        both_give P Q (decl_bodies tables from index decl)
        (bodies_from tables (from + shapes_made decl) (index + globals_made decl) some)
        (each from index decl (inl (refl, refl, refl)))
        (all_give (from + shapes_made decl) (index + globals_made decl) some
        (λ n g one later. each n g one (inr later)))

    -- the bodies of a program
    pub program_gives : Gives P Q (program_bodies tables decls)
    program_gives = all_give 0 0 decls decl_gives
