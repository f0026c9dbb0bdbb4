-- Each body of a program is placed.
use Rattle.std.proofs.Common.{◌≡◌, ℕ, Bool, false, List, [], ◌∷◌, ◌++◌, Option, Some, None, map}
use Rattle.std.proofs.Common.{flat_map, Contains, refl, ap, sym, ◌∙◌, subst, arith}
use Rattle.std.proofs.lemmas.Option.{same_Some}
use Rattle.std.proofs.lemmas.List.Elements.{All-append, All-contains, All-nil, All-weaker}
use Rattle.std.proofs.lemmas.List.Elements.{Contains-append_left, Contains-append_right}
use Rattle.std.specs.Prelude.{All, slice_get}
use Rattle.sw_list.proofs.Members.{in_flat_map}
use Rattle.sw_tree.specs.declared.decl.Decl.{Decl}
use Rattle.sw_tree.specs.declared.decl.Decl.TheVariants.{Entry, Struct, Enum, Class, Actor}
use Rattle.sw_tree.specs.declared.decl.Decl.TheVariants.{GlobalActor, Func, Global}
use Rattle.sw_tree.specs.declared.decl.FuncTree.{FuncTree}
use Rattle.sw_tree.specs.declared.decl.InitTree.{InitTree}
use Rattle.sw_tree.specs.declared.decl.ParamTree.{ParamTree}
use Rattle.sw_tree.specs.declared.decl.PropTree.{PropTree}
use Rattle.sw_tree.specs.declared.decl.Written.{Written}
use Rattle.sw_tree.specs.declared.name.Name.{Name}
use Rattle.sw_tree.proofs.Members.{in_map}
use Rattle.sw_types.specs.declared.isolation.Iso.{Iso}
use Rattle.sw_types.specs.declared.isolation.Iso.TheVariants as iso
use Rattle.sw_types.specs.declared.shape.Shape.{Shape}
use Rattle.sw_types.specs.declared.shape.ShapeKind.TheVariants as kinds
use Rattle.sw_decl_words.proofs.WithinLemmas.{one_shape}
use Rattle.sw_decl_words.specs.Evident.{meanings_of}
use Rattle.sw_decl_words.specs.Shaped.{part_of, shape_of, written_actor}
use Rattle.sw_decl_words.specs.Words.{shapes_made, top_meaning}
use Rattle.sw_decl_words.specs.declared.words.Meaning.{Meaning}
use Rattle.sw_decls.specs.Declaring.{init_key, maker_keys}
use Rattle.sw_decls.specs.Signatures.{actor_iso, func_of, funcs_of, inits_of}
use Rattle.sw_decls.specs.declared.signature.AsyncDefault.{AsyncDefault}
use Rattle.sw_decls.specs.declared.signature.Signature.{Signature}
use Rattle.sw_typing_rules.specs.Programs.{bodies_of, func_body, init_body, values_of}
use Rattle.sw_typing_rules.specs.Worlds.{World, and_then, item}
use Rattle.sw_isolation_rules.specs.Answers.{Answers, for_some}
use Rattle.sw_isolation_rules.specs.Programs.{func_at}
use Rattle.sw_isolation_rules.specs.Uses.{maker_at}
use Rattle.sw_lower_plans.specs.declared.name.FunctionName.{FunctionName}
use Rattle.sw_lower_code.specs.Whole.{Body}
use Rattle.sw_lower_rules.specs.Bodies.{decl_bodies, default_bodies, first_values, func_bodies}
use Rattle.sw_lower_rules.specs.Bodies.{func_tree_bodies, init_bodies, init_code, init_signed}
use Rattle.sw_lower_rules.specs.Bodies.{inits_bodies, param_taken, program_bodies, prop_getters}
use Rattle.sw_lower_rules.specs.Bodies.{signed}
use Rattle.sw_lower_rules.specs.Carriers.{Given}
use Rattle.sw_lower_rules.specs.Statements.{block_code}
use Rattle.sw_lower_rules.specs.Tables.{Tables, name_of, plain}
use Rattle.sw_lower_formed_facts.proofs.Headers.Makers.{makers_counted}
use Rattle.sw_lower_formed_facts.proofs.Headers.Signed.{for_found}
use Rattle.sw_typing_facts.proofs.Lists.Joined.{all_left, all_right}
use Rattle.sw_typing_facts.proofs.Lists.Listed.{in_first}
use Rattle.sw_typing_facts.proofs.Programs.DeclParts.{funcs_in}
use Rattle.sw_typing_facts.proofs.Programs.DeclStands.{made_flat, shape_there, value_stands}
use Rattle.sw_lower_formed_facts.proofs.Bodies.MadeOf.{body_made, body_stands}
use Rattle.sw_typing_facts.proofs.Programs.ObjectDecls.{actor_ok, class_ok}
use Rattle.sw_typing_facts.proofs.Programs.Standing.{Stands, at_place, maker_of}
use Rattle.sw_lower_total_facts.specs.Known.{IsMade}
use Rattle.sw_lower_total_facts.proofs.Programs.Objects.{object_at}
use Rattle.sw_lower_call_facts.proofs.Calls.Insides.{init_inside, inside_of, insides, tree_inside}
use Rattle.sw_lower_placed_facts.specs.Allowed.{IsActorMaker}
use Rattle.sw_lower_placed_facts.specs.Bodies.{ArePlaced, IsPlacedBody, MakesActor}
use Rattle.sw_lower_placed_facts.specs.Bodies.IsPlacedBody.{maker}
use Rattle.sw_lower_placed_facts.specs.Claims.{AreOrdinary, IsOrdinary}
use Rattle.sw_lower_placed_facts.specs.Hosts.{Program}
use Rattle.sw_lower_placed_facts.proofs.Bodies.FuncTrees.{entry_placed, func_inner, trees_inner}
use Rattle.sw_lower_placed_facts.proofs.Bodies.FuncTrees.{tree_placed, trees_placed}
use Rattle.sw_lower_placed_facts.proofs.Bodies.Given as the
use Rattle.sw_lower_placed_facts.proofs.Bodies.Given.{IsProgram}
use Rattle.sw_lower_placed_facts.proofs.Bodies.Globals.{all_ordinary, global_placed}
use Rattle.sw_lower_placed_facts.proofs.Bodies.Globals.{prop_getters_placed}
use Rattle.sw_lower_placed_facts.proofs.Bodies.Objects.{IsMakerOf, IsObject, inits_inner, inits_make}

module _ (decls : List Decl) (rule : AsyncDefault) (world : World) (ordered : List Body)
    (given : IsProgram decls rule world ordered) where
  abbrev tables : Tables
  tables = the.tables decls rule world ordered given

  abbrev answers : Answers
  answers = the.answers decls rule world ordered given

  abbrev program : Program
  program = the.program decls rule world ordered given

  abbrev Here : Body → Type 0
  Here = the.Here decls rule world ordered given

  abbrev Is : Body → Type 0
  Is = IsOrdinary program

  abbrev Placed : Body → Type 0
  Placed = IsPlacedBody program

  abbrev known : ℕ → Option Meaning
  known = top_meaning decls

  abbrev ordinary_ones : (some : List Body) → All Is some → All Placed some
  ordinary_ones = all_ordinary decls rule world ordered given

  -- the key of the initialiser of a type
  maker_there : (n g key : ℕ) (decl : Decl) → Stands decls n g decl → maker_keys decl ≡ key ∷ []
      → slice_get world.makers n ≡ Some key
  maker_there n g key decl stands is =
      ap (λ makers. slice_get makers n)
      (given.typed.declared.makers ∙ made_flat maker_keys 0 0 decls)
      ∙ at_place (λ n g decl. maker_keys decl) (λ n g. n) shapes_made (λ n g decl. refl)
      (λ n g decl. makers_counted decl) one_shape 0 0 decls n g decl key n stands
      (ap (λ all. slice_get all 0) is) (omega arith)

  class_object : (n g : ℕ) (written : Written) (word : Name) (conforms : Bool)
      (props : List PropTree) (inits : List InitTree) (funcs : List FuncTree)
      → Stands decls n g (Class written word conforms props inits funcs)
      → IsObject decls rule world ordered given n g
      (Class written word conforms props inits funcs) word props inits
  unfolding funcs_of bodies_of values_of shape_of
  class_object n g written word conforms props inits funcs stands =
      let decl = Class written word conforms props inits funcs in
      let isolation = actor_iso (written_actor known written) in
      let shape : Shape = record {
        kind = kinds.Class;
        at = word.at;
        conforms = conforms;
        actor = written_actor known written;
        parts = map (part_of (meanings_of decls) (Some n)) props;
        cases = [];
      } in
      record {
        stands = stands;
        props_are = refl;
        inits_are = refl;
        ok = class_ok decls given.typed.keyed given.typed.sound n g written word conforms props
            inits funcs stands;
        shape = shape;
        there = shape_there decls rule world given.typed.declared n g decl shape stands refl;
        kind = refl;
        maker = maker_there n g (init_key word.at inits) decl stands refl;
        signed = λ func has. Contains-append_left (inits_of known word n isolation inits)
            (map (func_of known rule (Some n) isolation) funcs) func has;
        typed = λ init has. Contains-append_left (map (init_body n) inits)
            (map (func_body world (Some n)) funcs) (init_body n init)
            (in_map (init_body n) inits init has);
        values = λ value has. value_stands world decls n g decl value stands has;
      }

  actor_object : (n g : ℕ) (word : Name) (props : List PropTree) (inits : List InitTree)
      (funcs : List FuncTree) → Stands decls n g (Actor word props inits funcs)
      → IsObject decls rule world ordered given n g (Actor word props inits funcs) word props inits
  unfolding funcs_of bodies_of values_of shape_of
  actor_object n g word props inits funcs stands =
      let decl = Actor word props inits funcs in
      let shape : Shape = record {
        kind = kinds.Actor;
        at = word.at;
        conforms = false;
        actor = None;
        parts = map (part_of (meanings_of decls) (Some n)) props;
        cases = [];
      } in
      record {
        stands = stands;
        props_are = refl;
        inits_are = refl;
        ok = actor_ok decls given.typed.keyed given.typed.sound n g word props inits funcs stands;
        shape = shape;
        there = shape_there decls rule world given.typed.declared n g decl shape stands refl;
        kind = refl;
        maker = maker_there n g (init_key word.at inits) decl stands refl;
        signed = λ func has. Contains-append_left (inits_of known word n iso.Own inits)
            (map (func_of known rule (Some n) iso.Own) funcs) func has;
        typed = λ init has. Contains-append_left (map (init_body n) inits)
            (map (func_body world (Some n)) funcs) (init_body n init)
            (in_map (init_body n) inits init has);
        values = λ value has. value_stands world decls n g decl value stands has;
      }

  -- what is made of a declaration, and the bodies of closures and tasks in it
  record DeclPlaced (n g : ℕ) (decl : Decl) : Type 0 where
    each : All Placed (decl_bodies tables n g decl)
    inside : AreOrdinary program (inside_of tables n g decl)

  -- the functions of a declaration
  funcs_placed : (n g : ℕ) (decl : Decl) (owner : Option ℕ) (isolation : Iso)
      (funcs : List FuncTree) → Stands decls n g decl → funcs_in decl ≡ funcs
      → ((tree : FuncTree) → Contains funcs tree
      → Contains (funcs_of known rule n decl) (func_of known rule owner isolation tree))
      → ((tree : FuncTree) → Contains funcs tree
      → Contains (bodies_of world n decl) (func_body world owner tree))
      → ((body : Body) → Contains (flat_map (tree_inside tables) funcs) body
      → Contains (inside_of tables n g decl) body)
      → All Here (flat_map (func_tree_bodies tables) funcs)
      → AreOrdinary program (flat_map (func_tree_bodies tables) funcs)
  funcs_placed n g decl owner isolation funcs stands are declared typed among =
      trees_placed decls rule world ordered given n g decl owner isolation funcs stands
      (λ tree has. subst (λ all. Contains all tree) (sym are) has) declared typed
      (λ tree has body inside.
      among body (in_flat_map (tree_inside tables) funcs tree body has inside))

  -- the methods of a struct or an enum
  value_type_placed : (n g : ℕ) (decl : Decl) (funcs : List FuncTree) → Stands decls n g decl
      → funcs_in decl ≡ funcs
      → funcs_of known rule n decl ≡ map (func_of known rule (Some n) iso.Free) funcs
      → bodies_of world n decl ≡ map (func_body world (Some n)) funcs
      → inside_of tables n g decl ≡ flat_map (tree_inside tables) funcs
      → All Here (flat_map (func_tree_bodies tables) funcs)
      → AreOrdinary program (flat_map (func_tree_bodies tables) funcs)
  value_type_placed n g decl funcs stands are declared typed inside =
      funcs_placed n g decl (Some n) iso.Free funcs stands are
      (λ tree has. subst (λ all. Contains all (func_of known rule (Some n) iso.Free tree))
      (sym declared) (in_map (func_of known rule (Some n) iso.Free) funcs tree has))
      (λ tree has. subst (λ all. Contains all (func_body world (Some n) tree)) (sym typed)
      (in_map (func_body world (Some n)) funcs tree has))
      (λ body has. subst (λ all. Contains all body) (sym inside) has)

  -- a class or an actor
  record ObjectPlaced (n : ℕ) (word : Name) (props : List PropTree) (inits : List InitTree)
      (funcs : List FuncTree) : Type 0 where
    each : All Placed (prop_getters tables n 0 props ++ inits_bodies tables n props word inits
        ++ flat_map (func_tree_bodies tables) funcs)
    inside : AreOrdinary program
        (flat_map (init_inside tables n) inits ++ flat_map (tree_inside tables) funcs)

  object_placed : (n g : ℕ) (decl : Decl) (word : Name) (props : List PropTree)
      (inits : List InitTree) (funcs : List FuncTree)
      → IsObject decls rule world ordered given n g decl word props inits
      → (All Here (flat_map (func_tree_bodies tables) funcs)
      → AreOrdinary program (flat_map (func_tree_bodies tables) funcs))
      → All Here (prop_getters tables n 0 props ++ inits_bodies tables n props word inits
      ++ flat_map (func_tree_bodies tables) funcs)
      → ObjectPlaced n word props inits funcs
  object_placed n g decl word props inits funcs object trees_are here =
      let getters = prop_getters tables n 0 props in
      let makers = inits_bodies tables n props word inits in
      let trees = flat_map (func_tree_bodies tables) funcs in
      let first = all_left Here (getters ++ makers) trees here in
      let placed = trees_are (all_right Here (getters ++ makers) trees here) in
      record {
        each = All-append Placed (getters ++ makers) trees
            (All-append Placed getters makers
            (ordinary_ones getters
            (prop_getters_placed decls rule world ordered given n g decl object.stands 0 props
            (λ prop has. subst (λ all. Contains all prop) (sym object.props_are) has)
            (all_left Here getters makers first)))
            (All-weaker (IsMakerOf decls rule world ordered given object.shape) Placed
            (λ body made. maker made.makes) makers
            (inits_make decls rule world ordered given n g decl word props inits object
            (all_right Here getters makers first))))
            (ordinary_ones trees placed);
        inside = All-append Is (flat_map (init_inside tables n) inits)
            (flat_map (tree_inside tables) funcs)
            (inits_inner decls rule world ordered given n g decl word props inits object)
            (trees_inner tables program funcs placed);
      }

  -- the methods of a class or an actor
  methods_placed : (n g : ℕ) (decl : Decl) (isolation : Iso) (word : Name) (inits : List InitTree)
      (funcs : List FuncTree) → Stands decls n g decl → funcs_in decl ≡ funcs
      → funcs_of known rule n decl ≡ inits_of known word n isolation inits
      ++ map (func_of known rule (Some n) isolation) funcs
      → bodies_of world n decl
      ≡ map (init_body n) inits ++ map (func_body world (Some n)) funcs
      → inside_of tables n g decl
      ≡ flat_map (init_inside tables n) inits ++ flat_map (tree_inside tables) funcs
      → All Here (flat_map (func_tree_bodies tables) funcs)
      → AreOrdinary program (flat_map (func_tree_bodies tables) funcs)
  methods_placed n g decl isolation word inits funcs stands are declared typed inside =
      funcs_placed n g decl (Some n) isolation funcs stands are
      (λ tree has. subst (λ all. Contains all (func_of known rule (Some n) isolation tree))
      (sym declared)
      (Contains-append_right (inits_of known word n isolation inits)
      (map (func_of known rule (Some n) isolation) funcs)
      (func_of known rule (Some n) isolation tree)
      (in_map (func_of known rule (Some n) isolation) funcs tree has)))
      (λ tree has. subst (λ all. Contains all (func_body world (Some n) tree)) (sym typed)
      (Contains-append_right (map (init_body n) inits) (map (func_body world (Some n)) funcs)
      (func_body world (Some n) tree) (in_map (func_body world (Some n)) funcs tree has)))
      (λ body has. subst (λ all. Contains all body) (sym inside)
      (Contains-append_right (flat_map (init_inside tables n) inits)
      (flat_map (tree_inside tables) funcs) body has))

  decl_placed : (n g : ℕ) (decl : Decl) → Stands decls n g decl
      → All Here (decl_bodies tables n g decl) → DeclPlaced n g decl
  unfolding decl_bodies funcs_of bodies_of
  decl_placed n g (Entry word written at is_async body) stands here =
      let placed = entry_placed decls rule world ordered given n g word written at is_async body
      stands here in
      record {
        each = ordinary_ones (func_bodies tables at [] body) placed;
        inside = func_inner tables program at [] body placed;
      }
  decl_placed n g (Struct word conforms fields funcs) stands here =
      let placed = value_type_placed n g (Struct word conforms fields funcs) funcs stands refl
      refl refl refl here in
      record {
        each = ordinary_ones (flat_map (func_tree_bodies tables) funcs) placed;
        inside = trees_inner tables program funcs placed;
      }
  decl_placed n g (Enum word conforms cases funcs) stands here =
      let placed = value_type_placed n g (Enum word conforms cases funcs) funcs stands refl
      refl refl refl here in
      record {
        each = ordinary_ones (flat_map (func_tree_bodies tables) funcs) placed;
        inside = trees_inner tables program funcs placed;
      }
  decl_placed n g (Class written word conforms props inits funcs) stands here =
      let decl = Class written word conforms props inits funcs in
      let placed = object_placed n g decl word props inits funcs
      (class_object n g written word conforms props inits funcs stands)
      (methods_placed n g decl (actor_iso (written_actor known written)) word inits funcs stands
      refl refl refl refl) here in
      record { each = placed.each; inside = placed.inside }
  decl_placed n g (Actor word props inits funcs) stands here =
      let decl = Actor word props inits funcs in
      let placed = object_placed n g decl word props inits funcs
      (actor_object n g word props inits funcs stands)
      (methods_placed n g decl iso.Own word inits funcs stands refl refl refl refl) here in
      record { each = placed.each; inside = placed.inside }
  decl_placed n g (GlobalActor word made) stands here =
      record { each = All-nil Placed; inside = All-nil Is }
  decl_placed n g (Func func) stands here =
      let placed = tree_placed decls rule world ordered given n g (Func func) None iso.Free func
      stands (in_first func []) (in_first (func_of known rule None iso.Free func) [])
      (in_first (func_body world None func) []) (λ body has. has) here in
      record {
        each = ordinary_ones (func_tree_bodies tables func) placed;
        inside = func_inner tables program func.word.at func.params func.body placed;
      }
  decl_placed n g (Global prop) stands here =
      let placed = global_placed decls rule world ordered given n g prop stands here in
      record { each = placed.each; inside = placed.inside }

  placed_at : (n g : ℕ) (decl : Decl) → Stands decls n g decl → DeclPlaced n g decl
  placed_at n g decl stands =
      decl_placed n g decl stands (the.decl_here decls rule world ordered given n g decl stands)

  every_placed : (body : Body) → Contains (program_bodies tables decls) body
      → IsPlacedBody program body
  every_placed body has =
      let made = body_made tables decls body has in
      All-contains Placed (decl_bodies tables made.n made.g made.decl) body
      (placed_at made.n made.g made.decl made.stands).each made.has

  inside_placed : (body : Body) → Contains (insides tables decls) body → IsOrdinary program body
  inside_placed body has =
      let made = maker_of (inside_of tables) 0 0 decls body has in
      All-contains Is (inside_of tables made.n made.g made.decl) body
      (placed_at made.n made.g made.decl made.stands).inside made.has

  -- the body of the initialiser that a type has
  module _ (n g : ℕ) (decl : Decl) (word : Name) (props : List PropTree) (inits : List InitTree)
      (object : IsObject decls rule world ordered given n g decl word props inits) where
    -- a body with the name of a function
    record Named (bodies : List Body) (func : Signature) : Type 0 where
      body : Body
      has : Contains bodies body
      named : name_of body ≡ plain func.key.at

    signed_named : (func : Signature) (params : List ParamTree) (givens : List Given)
        → Named (init_signed tables n props params givens func) func
    signed_named func params givens =
        let body = signed tables func (map (param_taken tables) params)
        (init_code func.key.at n object.shape (first_values tables n props ++ givens)) in record {
          body = body;
          has = for_found (slice_get world.shapes n) object.shape (λ shape.
              signed tables func (map (param_taken tables) params)
              (init_code func.key.at n shape (first_values tables n props ++ givens)) ∷ []) body
              object.there (in_first body []);
          named = refl;
        }

    named_among : (bodies more : List Body) (func : Signature)
        → ((body : Body) → Contains bodies body → Contains more body) → Named bodies func
        → Named more func
    named_among bodies more func among one =
        record { body = one.body; has = among one.body one.has; named = one.named }

    maker_named : (all : List InitTree) (func : Signature)
        → func_at world answers (init_key word.at all) ≡ Some func
        → Named (inits_bodies tables n props word all) func
    unfolding default_bodies init_bodies
    maker_named [] func found =
        named_among (init_signed tables n props [] [] func) _ func
        (λ body has. for_found (func_at world answers word.at) func
        (init_signed tables n props [] []) body found has) (signed_named func [] [])
    maker_named (init ∷ more) func found =
        let code = block_code tables (Some n) init.body in
        named_among (init_signed tables n props init.params code.gives func) _ func
        (λ body has.
        Contains-append_left (init_bodies tables n props init)
        (flat_map (init_bodies tables n props) more) body
        (Contains-append_left (for_some (func_at world answers init.at)
        (init_signed tables n props init.params code.gives)) code.inside body
        (for_found (func_at world answers init.at) func
        (init_signed tables n props init.params code.gives) body found has)))
        (signed_named func init.params code.gives)

    -- the function that makes the type is found by its key
    made_found : (func : Signature) → maker_at world n ≡ Some func
        → func_at world answers (init_key word.at inits) ≡ Some func
    unfolding maker_at func_at
    made_found func made =
        sym (ap (λ found. item (and_then found world.numbers) world.funcs) object.maker) ∙ made

    object_maker : (func : Signature) → maker_at world n ≡ Some func
        → object.shape.kind ≡ kinds.Actor
        → ((body : Body) → Contains (inits_bodies tables n props word inits) body
        → Contains (decl_bodies tables n g decl) body)
        → All Here (inits_bodies tables n props word inits)
        → MakesActor program (plain func.key.at)
    object_maker func made actor among here =
        let one = maker_named inits func (made_found func made) in
        let makes = All-contains (IsMakerOf decls rule world ordered given object.shape)
        (inits_bodies tables n props word inits) one.body
        (inits_make decls rule world ordered given n g decl word props inits object here) one.has in
        record {
          body = one.body;
          has = body_stands tables decls n g decl one.body object.stands (among one.body one.has);
          named = one.named;
          makes = makes.makes;
          actor = ap (λ (s : Shape). s.kind) makes.same ∙ actor;
        }

  -- a declaration whose shape has another kind
  other_kind : (k g : ℕ) (decl : Decl) (shape made : Shape) → Stands decls k g decl
      → slice_get world.shapes k ≡ Some shape
      → slice_get (shape_of (meanings_of decls) k decl) 0 ≡ Some made → shape.kind ≡ made.kind
  other_kind k g decl shape made stands at is =
      ap (λ (s : Shape). s.kind) (same_Some shape made
      (sym at ∙ shape_there decls rule world given.typed.declared k g decl made stands is))

  actor_maker : (k g key : ℕ) (decl : Decl) (shape : Shape) (func : Signature)
      → Stands decls k g decl → maker_keys decl ≡ key ∷ []
      → slice_get world.shapes k ≡ Some shape → shape.kind ≡ kinds.Actor
      → maker_at world k ≡ Some func → MakesActor program (plain func.key.at)
  unfolding shape_of decl_bodies
  actor_maker k g key (Entry word written at is_async body) shape func stands makes there actor
      made = cc
  actor_maker k g key (Struct word conforms fields funcs) shape func stands makes there actor made =
      cc (other_kind k g (Struct word conforms fields funcs) shape _ stands there refl, actor)
  actor_maker k g key (Enum word conforms cases funcs) shape func stands makes there actor made =
      cc (other_kind k g (Enum word conforms cases funcs) shape _ stands there refl, actor)
  actor_maker k g key (Class written word conforms props inits funcs) shape func stands makes there
      actor made =
      cc (
        other_kind k g (Class written word conforms props inits funcs) shape _ stands there refl,
        actor,
      )
  actor_maker k g key (Actor word props inits funcs) shape func stands makes there actor made =
      let decl = Actor word props inits funcs in
      let object = actor_object k g word props inits funcs stands in
      let getters = prop_getters tables k 0 props in
      let makers = inits_bodies tables k props word inits in
      let trees = flat_map (func_tree_bodies tables) funcs in
      object_maker k g decl word props inits object func made
      (ap (λ (s : Shape). s.kind) (same_Some object.shape shape (sym object.there ∙ there)) ∙ actor)
      (λ body has. Contains-append_left (getters ++ makers) trees body
      (Contains-append_right getters makers body has))
      (all_right Here getters makers
      (all_left Here (getters ++ makers) trees
      (the.decl_here decls rule world ordered given k g decl stands)))
  actor_maker k g key (GlobalActor word by) shape func stands makes there actor made = cc
  actor_maker k g key (Func tree) shape func stands makes there actor made = cc
  actor_maker k g key (Global prop) shape func stands makes there actor made = cc

  maker_is : (name : FunctionName) → IsActorMaker program name → MakesActor program name
  maker_is name is =
      let one = object_at decls rule world given.typed.declared is.k is.shape is.is_shape
      (subst IsMade (sym is.actor) tt) in
      subst (MakesActor program) (sym is.named)
      (actor_maker is.k one.g (init_key one.object.word.at one.object.inits) one.decl is.shape
      is.func one.stands one.object.maker is.is_shape is.actor is.maker)

  -- The bodies of a program are placed, and the initialiser of each actor makes one.
  pub are_placed : ArePlaced program
  are_placed = record {
    each = every_placed;
    among = the.inside_among decls rule world ordered given;
    inside = inside_placed;
    makers = maker_is;
  }
