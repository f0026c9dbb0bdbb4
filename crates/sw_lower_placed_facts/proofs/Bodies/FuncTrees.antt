-- The bodies of the functions and methods that a program declares, and of its entry, are placed.
use Rattle.std.proofs.Common.{◌≡◌, ℕ, false, List, [], ◌∷◌, Option, Some, None, flat_map, map}
use Rattle.std.proofs.Common.{refl, sym, subst, Contains, Bool}
use Rattle.std.proofs.lemmas.List.Elements.{All-append, All-nil, All-tail}
use Rattle.std.specs.Prelude.{All}
use Rattle.sw_tree.specs.declared.decl.Decl.{Decl}
use Rattle.sw_tree.specs.declared.decl.Decl.TheVariants.{Entry}
use Rattle.sw_tree.specs.declared.decl.FuncTree.{FuncTree}
use Rattle.sw_tree.specs.declared.decl.ParamTree.{ParamTree}
use Rattle.sw_tree.specs.declared.decl.Written.{Written}
use Rattle.sw_tree.specs.declared.name.Name.{Name}
use Rattle.sw_tree.specs.declared.stmt.Block.{Block}
use Rattle.sw_types.specs.declared.isolation.Iso.{Iso}
use Rattle.sw_types.specs.declared.ty.Ty.TheVariants as types
use Rattle.sw_decl_words.specs.Shaped.{written_actor}
use Rattle.sw_decl_words.specs.Words.{top_meaning}
use Rattle.sw_decls.specs.Declaring.{key_place}
use Rattle.sw_decls.specs.Signatures.{actor_iso, func_of, funcs_from, funcs_of}
use Rattle.sw_decls.specs.declared.signature.AsyncDefault.{AsyncDefault}
use Rattle.sw_decls.specs.declared.signature.Signature.{Signature}
use Rattle.sw_typing_rules.specs.Programs.{bodies_from, bodies_of, entry_body, func_body, param_var}
use Rattle.sw_typing_rules.specs.Worlds.{World}
use Rattle.sw_isolation_rules.specs.Answers.{Answers, for_some}
use Rattle.sw_isolation_rules.specs.Programs.{func_at, func_context}
use Rattle.sw_lower_code.specs.Whole.{Body}
use Rattle.sw_lower_rules.specs.Bodies.{func_bodies, func_signed, func_tree_bodies}
use Rattle.sw_lower_rules.specs.Statements.{block_code}
use Rattle.sw_lower_rules.specs.Tables.{Tables}
use Rattle.sw_lower_formed_facts.proofs.Bodies.FuncBodies.{body_by}
use Rattle.sw_lower_formed_facts.proofs.Bodies.FuncTrees.{tree_typed}
use Rattle.sw_lower_formed_facts.proofs.Headers.FoundFuncs.{found_func, func_is}
use Rattle.sw_lower_formed_facts.proofs.Headers.Signed.{for_found}
use Rattle.sw_typing_facts.proofs.Lists.Joined.{all_left, all_right}
use Rattle.sw_typing_facts.proofs.Lists.Listed.{in_first, in_place, in_rest}
use Rattle.sw_typing_facts.proofs.Programs.DeclParts.{funcs_in}
use Rattle.sw_typing_facts.proofs.Programs.MadeOf.{func_stands, typed_stands}
use Rattle.sw_typing_facts.proofs.Programs.Standing.{Stands}
use Rattle.sw_lower_call_facts.proofs.Calls.Insides.{func_inside, inside_of, tree_inside}
use Rattle.sw_lower_placed_facts.specs.Claims.{AreInside, AreOrdinary, BlockNoted, IsOrdinary}
use Rattle.sw_lower_placed_facts.specs.Hosts.{Program}
use Rattle.sw_lower_placed_facts.proofs.Bodies.Funcs.{signed_placed}
use Rattle.sw_lower_placed_facts.proofs.Bodies.Given as the
use Rattle.sw_lower_placed_facts.proofs.Bodies.Given.{IsProgram}
use Rattle.sw_lower_placed_facts.proofs.Bodies.Notes.{entry_noted, tree_noted}

module _ (decls : List Decl) (rule : AsyncDefault) (world : World) (ordered : List Body)
    (given : IsProgram decls rule world ordered) where
  abbrev tables : Tables
  tables = the.tables decls rule world ordered given

  abbrev answers : Answers
  answers = the.answers decls rule world ordered given

  abbrev program : Program
  program = the.program decls rule world ordered given

  abbrev Here : Body → Type 0
  Here = the.Here decls rule world ordered given

  -- The block of the function with a key stands, with what is noted of it.
  abbrev Noted : ℕ → List ParamTree → Block → Type 0
  Noted key params block = (func : Signature) → func_at world answers key ≡ Some func
      → BlockNoted program (func_context func) [] (map (param_var world) params) block

  -- The bodies in it are those of closures and tasks.
  abbrev Inside : ℕ → Block → Type 0
  Inside key block = (func : Signature) → func_at world answers key ≡ Some func
      → AreInside program (block_code tables func.owner block).inside

  -- the function with a key, where this one is declared with it
  keyed_placed : (key at : ℕ) (params : List ParamTree) (block : Block) (one : Signature)
      → Contains (funcs_from (top_meaning decls) rule 0 decls) one → key_place one ≡ key
      → Contains (bodies_from world 0 decls) (body_by at params block one)
      → Noted key params block → Inside key block
      → All Here (func_bodies tables key params block)
      → AreOrdinary program (func_bodies tables key params block)
  unfolding func_bodies
  keyed_placed key at params block one declared same stands noted inside =
      by (func_at world answers key) refl where
        by : (found : Option Signature) → func_at world answers key ≡ found
            → All Here (for_some found (func_signed tables params block))
            → AreOrdinary program (for_some found (func_signed tables params block))
        by None is here = All-nil (IsOrdinary program)
        by (Some func) is here =
            let place = found_func world answers key func is in
            signed_placed decls rule world ordered given at params block func
            (subst (λ f. Contains (bodies_from world 0 decls) (body_by at params block f))
            (sym (func_is decls rule world answers given.typed.keyed given.typed.declared key func
            one is declared same)) stands)
            (in_place world.funcs place.place func place.at) (noted func is) (inside func is) here

  -- The bodies in the block of a function are among those of its declaration.
  func_among : (key : ℕ) (block : Block) (func : Signature)
      → func_at world answers key ≡ Some func → (body : Body)
      → Contains (block_code tables func.owner block).inside body
      → Contains (func_inside tables key block) body
  func_among key block func found body has =
      for_found (func_at world answers key) func
      (λ (func : Signature). (block_code tables func.owner block).inside) body found has

  -- a function or a method
  pub tree_placed : (n g : ℕ) (decl : Decl) (owner : Option ℕ) (actor : Iso) (tree : FuncTree)
      → Stands decls n g decl → Contains (funcs_in decl) tree
      → Contains (funcs_of (top_meaning decls) rule n decl)
      (func_of (top_meaning decls) rule owner actor tree)
      → Contains (bodies_of world n decl) (func_body world owner tree)
      → ((body : Body) → Contains (tree_inside tables tree) body
      → Contains (inside_of tables n g decl) body)
      → All Here (func_tree_bodies tables tree)
      → AreOrdinary program (func_tree_bodies tables tree)
  tree_placed n g decl owner actor tree stands has declared typed among =
      let one = func_of (top_meaning decls) rule owner actor tree in
      keyed_placed tree.word.at tree.word.at tree.params tree.body one
      (func_stands (top_meaning decls) rule decls n g decl one stands declared) refl
      (tree_typed decls rule world given.typed.declared n g decl owner actor tree stands typed)
      (λ func found. record {
        stands = (the.trees_stand decls rule world ordered given).funcs n g decl stands tree func
            has found;
        noted = λ note noted no_mention.
            tree_noted world answers decls n g decl stands tree func has found note noted;
      })
      (λ func found.
      the.code_inside decls rule world ordered given n g decl
      (block_code tables func.owner tree.body).inside stands (λ body inside.
      among body (func_among tree.word.at tree.body func found body inside)))

  -- the entry
  pub entry_placed : (n g : ℕ) (word : Name) (written : Written) (at : ℕ) (is_async : Bool)
      (body : Block) → Stands decls n g (Entry word written at is_async body)
      → All Here (func_bodies tables at [] body)
      → AreOrdinary program (func_bodies tables at [] body)
  unfolding funcs_of bodies_of
  entry_placed n g word written at is_async body stands =
      let decl = Entry word written at is_async body in
      let one : Signature = record {
        key = record { at = at; id = 10 };
        owner = None;
        iso = actor_iso (written_actor (top_meaning decls) written);
        is_async = is_async;
        params = [];
        result = types.Unit;
        sends = false;
      } in
      keyed_placed at at [] body one
      (func_stands (top_meaning decls) rule decls n g decl one stands (in_first one [])) refl
      (typed_stands world decls n g decl (entry_body at body) stands
      (in_first (entry_body at body) []))
      (λ func found. record {
        stands = (the.trees_stand decls rule world ordered given).entries n g word written at
            is_async body func stands found;
        noted = λ note noted no_mention.
            entry_noted world answers decls n g word written at is_async body func stands found
            note noted;
      })
      (λ func found.
      the.code_inside decls rule world ordered given n g decl
      (block_code tables func.owner body).inside stands (λ one inside.
      func_among at body func found one inside))

  -- functions and methods of a declaration
  pub trees_placed : (n g : ℕ) (decl : Decl) (owner : Option ℕ) (actor : Iso)
      (funcs : List FuncTree) → Stands decls n g decl
      → ((tree : FuncTree) → Contains funcs tree → Contains (funcs_in decl) tree)
      → ((tree : FuncTree) → Contains funcs tree
      → Contains (funcs_of (top_meaning decls) rule n decl)
      (func_of (top_meaning decls) rule owner actor tree))
      → ((tree : FuncTree) → Contains funcs tree
      → Contains (bodies_of world n decl) (func_body world owner tree))
      → ((tree : FuncTree) → Contains funcs tree → (body : Body)
      → Contains (tree_inside tables tree) body → Contains (inside_of tables n g decl) body)
      → All Here (flat_map (func_tree_bodies tables) funcs)
      → AreOrdinary program (flat_map (func_tree_bodies tables) funcs)
  trees_placed n g decl owner actor [] stands has declared typed among here =
      All-nil (IsOrdinary program)
  trees_placed n g decl owner actor (tree ∷ funcs) stands has declared typed among here =
      let first = func_tree_bodies tables tree in
      let rest = flat_map (func_tree_bodies tables) funcs in
      All-append (IsOrdinary program) first rest
      (tree_placed n g decl owner actor tree stands (has tree (in_first tree funcs))
      (declared tree (in_first tree funcs)) (typed tree (in_first tree funcs))
      (among tree (in_first tree funcs)) (all_left Here first rest here))
      (trees_placed n g decl owner actor funcs stands
      (λ one holds. has one (in_rest tree funcs one holds))
      (λ one holds. declared one (in_rest tree funcs one holds))
      (λ one holds. typed one (in_rest tree funcs one holds))
      (λ one holds. among one (in_rest tree funcs one holds)) (all_right Here first rest here))

-- Where the bodies that are made of a function are ordinary, those in its block are.
module _ (tables : Tables) (program : Program) where
  found_inner : (params : List ParamTree) (block : Block) (found : Option Signature)
      → AreOrdinary program (for_some found (func_signed tables params block))
      → AreOrdinary program
      (for_some found (λ (func : Signature). (block_code tables func.owner block).inside))
  found_inner params block None all = All-nil (IsOrdinary program)
  found_inner params block (Some func) all =
      All-tail (IsOrdinary program) _ (block_code tables func.owner block).inside all

  pub func_inner : (key : ℕ) (params : List ParamTree) (block : Block)
      → AreOrdinary program (func_bodies tables key params block)
      → AreOrdinary program (func_inside tables key block)
  unfolding func_bodies
  func_inner key params block all =
      found_inner params block (func_at tables.world tables.answers key) all

  pub trees_inner : (funcs : List FuncTree)
      → AreOrdinary program (flat_map (func_tree_bodies tables) funcs)
      → AreOrdinary program (flat_map (tree_inside tables) funcs)
  trees_inner [] all = All-nil (IsOrdinary program)
  trees_inner (tree ∷ funcs) all =
      let first = func_tree_bodies tables tree in
      let rest = flat_map (func_tree_bodies tables) funcs in
      All-append (IsOrdinary program) (tree_inside tables tree)
      (flat_map (tree_inside tables) funcs)
      (func_inner tree.word.at tree.params tree.body (all_left (IsOrdinary program) first rest all))
      (trees_inner funcs (all_right (IsOrdinary program) first rest all))
