-- The bodies of initialisers are quiet.
use Rattle.std.proofs.Common.{◌≡◌, ℕ, true, List, [], ◌∷◌, ◌++◌, Option, Some, map, flat_map}
use Rattle.std.proofs.Common.{Contains, refl, ap, sym, ◌∙◌, subst, slice_get}
use Rattle.std.proofs.lemmas.List.Elements.{Contains-append_left, Contains-append_right}
use Rattle.std.proofs.lemmas.Option.{same_Some}
use Rattle.sw_tree.specs.declared.decl.Decl.{Decl}
use Rattle.sw_tree.specs.declared.decl.Decl.TheVariants.{Entry, Struct, Enum, Class, Actor}
use Rattle.sw_tree.specs.declared.decl.Decl.TheVariants.{GlobalActor, Func, Global}
use Rattle.sw_tree.specs.declared.decl.FuncTree.{FuncTree}
use Rattle.sw_tree.specs.declared.decl.InitTree.{InitTree}
use Rattle.sw_tree.specs.declared.decl.PropTree.{PropTree}
use Rattle.sw_tree.specs.declared.name.Name.{Name}
use Rattle.sw_tree.specs.declared.stmt.Stmt.{Stmt}
use Rattle.sw_tree.proofs.Members.{in_map}
use Rattle.sw_types.specs.declared.shape.Shape.{Shape}
use Rattle.sw_decl_words.specs.Evident.{meanings_of}
use Rattle.sw_decl_words.specs.Shaped.{shape_of}
use Rattle.sw_decl_names.specs.Repeats.{first_place}
use Rattle.sw_decl_values.specs.Counts.{times_in}
use Rattle.sw_decl_values.specs.Profile.{in_stmt, param_names, wanted_names}
use Rattle.sw_decl_values.specs.Values.{set_in}
use Rattle.sw_decls.specs.Declaring.{init_key, maker_keys}
use Rattle.sw_decls.specs.declared.signature.AsyncDefault.{AsyncDefault}
use Rattle.sw_decls.specs.declared.signature.Signature.{Signature}
use Rattle.sw_typing_rules.specs.Judging.{leave_block}
use Rattle.sw_typing_rules.specs.Programs.{ValueOf, bodies_from, bodies_of, body_state, func_body}
use Rattle.sw_typing_rules.specs.Programs.{init_body, prop_value, values_of}
use Rattle.sw_typing_rules.specs.Statements.{Left, State, in_body}
use Rattle.sw_typing_rules.specs.Worlds.{World}
use Rattle.sw_typing_rules.specs.declared.scope.Inside.{Inside}
use Rattle.sw_typing_rules.proofs.Sound.{leaves_block}
use Rattle.sw_isolation_rules.specs.Answers.{for_some}
use Rattle.sw_isolation_rules.specs.Programs.{func_at}
use Rattle.sw_lower_plans.specs.Plan.{Numbers}
use Rattle.sw_lower_plans.specs.declared.name.FunctionName.{FunctionName}
use Rattle.sw_lower_code.specs.Whole.{Body}
use Rattle.sw_lower_rules.specs.Bodies.{decl_bodies, default_bodies, first_values, func_tree_bodies}
use Rattle.sw_lower_rules.specs.Bodies.{init_bodies, init_code, init_signed, inits_bodies}
use Rattle.sw_lower_rules.specs.Bodies.{param_taken, prop_getters, signed}
use Rattle.sw_lower_rules.specs.Carriers.{BlockCode, Given}
use Rattle.sw_lower_rules.specs.Statements.{block_code}
use Rattle.sw_lower_rules.specs.Tables.{Tables, name_of, plain}
use Rattle.sw_lower_formed_facts.proofs.Headers.Signed.{for_found}
use Rattle.sw_typing_facts.proofs.Lists.Listed.{in_first}
use Rattle.sw_typing_facts.proofs.Programs.DeclStands.{known_is, shape_there, value_stands}
use Rattle.sw_typing_facts.proofs.Programs.MadeOf.{typed_stands}
use Rattle.sw_typing_facts.proofs.Programs.NamesApart.{none_of}
use Rattle.sw_typing_facts.proofs.Programs.ObjectDecls.{ObjectOk, actor_ok, class_ok}
use Rattle.sw_typing_facts.proofs.Programs.OwnAssigns.{OwnAssign, own_assign}
use Rattle.sw_typing_facts.proofs.Programs.Standing.{Stands}
use Rattle.sw_lower_formed_facts.proofs.Said.RowsOf.{body_rows_hold, params_hold}
use Rattle.sw_lower_total_facts.specs.Known.{IsMade}
use Rattle.sw_lower_total_facts.specs.Programs.{IsWelltyped, noted_tables}
use Rattle.sw_lower_total_facts.proofs.Bodies.GivenNames.{params_agree}
use Rattle.sw_lower_first_facts.specs.Quiet.{WritesQuiet}
use Rattle.sw_lower_first_facts.proofs.Flowing.Joining.{all_joined}
use Rattle.sw_lower_first_facts.proofs.Quiet.Inits.{GivesQuiet, block_quiet, init_quiet}
use Rattle.sw_lower_first_facts.proofs.Quiet.Values.{firsts_quiet}

-- a quiet body with a name
pub record HasQuiet (tables : Tables) (numbers : Numbers) (bodies : List Body)
    (name : FunctionName) : Type 0 where
  pub body : Body
  pub has : Contains bodies body
  pub named : name_of body ≡ name
  pub quiet : WritesQuiet tables numbers body.code

-- the same among more bodies
quiet_among : (tables : Tables) (numbers : Numbers) (bodies more : List Body)
    (name : FunctionName) → ((body : Body) → Contains bodies body → Contains more body)
    → HasQuiet tables numbers bodies name → HasQuiet tables numbers more name
quiet_among tables numbers bodies more name are one = record {
  body = one.body;
  has = are one.body one.has;
  named = one.named;
  quiet = one.quiet;
}

module _ (decls : List Decl) (rule : AsyncDefault) (world : World)
    (is : IsWelltyped decls rule world) (numbers : Numbers) where
  abbrev tables : Tables
  tables = noted_tables world decls

  abbrev Has : List Body → FunctionName → Type 0
  Has = HasQuiet tables numbers

  -- A class or an actor, and what is declared of it.
  module _ (n g : ℕ) (decl : Decl) (stands : Stands decls n g decl) (word : Name)
      (props : List PropTree) (inits : List InitTree)
      (object : ObjectOk (meanings_of decls) n props inits)
      (values : (value : ValueOf) → Contains (flat_map (prop_value world (Some n)) props) value
      → Contains (values_of world n decl) value)
      (typed : (init : InitTree) → Contains inits init
      → Contains (bodies_of world n decl) (init_body n init))
      (shape : Shape) (there : slice_get world.shapes n ≡ Some shape) where
    firsts : GivesQuiet tables numbers (first_values tables n props)
    firsts = firsts_quiet decls rule world is numbers n props object.firsts
        (λ value has. value_stands world decls n g decl value stands (values value has))

    -- an initialiser, by what its statements give
    signed_quiet : (func : Signature) (init : InitTree) (givens : List Given)
        → GivesQuiet tables numbers givens
        → Has (init_signed tables n props init.params givens func) (plain func.key.at)
    signed_quiet func init givens quiet =
        let all = first_values tables n props ++ givens in
        let body = signed tables func (map (param_taken tables) init.params)
        (init_code func.key.at n shape all) in
        record {
          body = body;
          has = for_found (slice_get world.shapes n) shape (λ shape.
              signed tables func (map (param_taken tables) init.params)
              (init_code func.key.at n shape all) ∷ []) body there (in_first body []);
          named = refl;
          quiet = init_quiet tables numbers func.key.at n shape all
              (all_joined (λ (one : Given). WritesQuiet tables numbers one.read)
              (first_values tables n props) givens firsts quiet);
        }

    default_quiet : (func : Signature)
        → Has (init_signed tables n props [] [] func) (plain func.key.at)
    default_quiet func =
        let all = first_values tables n props ++ [] in
        let body = signed tables func [] (init_code func.key.at n shape all) in
        record {
          body = body;
          has = for_found (slice_get world.shapes n) shape (λ shape.
              signed tables func [] (init_code func.key.at n shape all) ∷ []) body there
              (in_first body []);
          named = refl;
          quiet = init_quiet tables numbers func.key.at n shape all
              (all_joined (λ (one : Given). WritesQuiet tables numbers one.read)
              (first_values tables n props) [] firsts tt);
        }

    -- what the statements of the first initialiser give
    written_gives : (init : InitTree) (more : List InitTree) → inits ≡ init ∷ more
        → GivesQuiet tables numbers (block_code tables (Some n) init.body).gives
    written_gives init more inits_are =
        block_quiet tables numbers n params state init.body left
        (leaves_block world inside state init.body)
        (params_hold world decls is.keyed is.well (init_body n init) standing)
        (params_agree world init.params)
        (body_rows_hold world decls is.keyed is.well (init_body n init) left standing
        (leaves_block world inside state init.body)) own where
          params : ℕ → Option ℕ
          params = first_place (param_names init.params)

          inside : Inside
          inside = in_body (Some n) true

          state : State
          state = body_state world (init_body n init)

          left : Left
          left = leave_block world init.body inside state

          standing : Contains (bodies_from world 0 decls) (init_body n init)
          standing = typed_stands world decls n g decl (init_body n init) stands
              (typed init (subst (λ all. Contains all init) (sym inits_are) (in_first init more)))

          own : (x : Stmt) → Contains init.body.stmts x → OwnAssign world.known n params x
          own x has =
              subst (λ known. OwnAssign known n params x)
              (sym (known_is decls rule world is.declared))
              (own_assign (meanings_of decls) n params
              (first_place (wanted_names (meanings_of decls) n props))
              (times_in (set_in init.body.stmts)) x
              (none_of (in_stmt (meanings_of decls) n params
              (first_place (wanted_names (meanings_of decls) n props))
              (times_in (set_in init.body.stmts))) init.body.stmts x
              (object.stmts init more inits_are) has))

    -- the initialiser that is found by the key of the type's
    inits_quiet : (func : Signature) → func_at world tables.answers (init_key word.at inits)
        ≡ Some func → (some : List InitTree) → inits ≡ some
        → Has (inits_bodies tables n props word some) (plain func.key.at)
    unfolding default_bodies init_bodies
    inits_quiet func found [] inits_are =
        let name = plain func.key.at in
        quiet_among tables numbers (init_signed tables n props [] [] func)
        (default_bodies tables n props word) name
        (λ body has. for_found (func_at world tables.answers word.at) func
        (init_signed tables n props [] []) body
        (ap (λ some. func_at world tables.answers (init_key word.at some)) (sym inits_are) ∙ found)
        has)
        (default_quiet func)
    inits_quiet func found (init ∷ more) inits_are =
        let name = plain func.key.at in
        let code : BlockCode = block_code tables (Some n) init.body in
        let bodies = for_some (func_at world tables.answers init.at)
        (init_signed tables n props init.params code.gives) in
        quiet_among tables numbers (init_signed tables n props init.params code.gives func)
        (inits_bodies tables n props word (init ∷ more)) name
        (λ body has.
        Contains-append_left (init_bodies tables n props init)
        (flat_map (init_bodies tables n props) more) body
        (Contains-append_left bodies code.inside body
        (for_found (func_at world tables.answers init.at) func
        (init_signed tables n props init.params code.gives) body
        (ap (λ some. func_at world tables.answers (init_key word.at some)) (sym inits_are) ∙ found)
        has)))
        (signed_quiet func init code.gives (written_gives init more inits_are))

    -- among all bodies of the declaration
    object_quiet : (funcs : List FuncTree) (key : ℕ) (func : Signature)
        → init_key word.at inits ≡ key → func_at world tables.answers key ≡ Some func
        → Has (prop_getters tables n 0 props ++ inits_bodies tables n props word inits
        ++ flat_map (func_tree_bodies tables) funcs) (plain func.key.at)
    object_quiet funcs key func key_is found =
        let makers = inits_bodies tables n props word inits in
        let getters = prop_getters tables n 0 props in
        quiet_among tables numbers makers
        (getters ++ makers ++ flat_map (func_tree_bodies tables) funcs) (plain func.key.at)
        (λ body has.
        Contains-append_left (getters ++ makers) (flat_map (func_tree_bodies tables) funcs) body
        (Contains-append_right getters makers body has))
        (inits_quiet func (ap (func_at world tables.answers) key_is ∙ found) inits refl)

  -- a struct or an enum has no initialiser
  no_object : (n g : ℕ) (decl : Decl) (one shape : Shape) → Stands decls n g decl
      → slice_get (shape_of (meanings_of decls) n decl) 0 ≡ Some one
      → slice_get world.shapes n ≡ Some shape → (IsMade one.kind → ⊥) → IsMade shape.kind → ⊥
  no_object n g decl one shape stands makes there never made =
      never (subst (λ (s : Shape). IsMade s.kind)
      (same_Some shape one (sym there
      ∙ shape_there decls rule world is.declared n g decl one stands makes)) made)

  -- The initialiser of a class or an actor is quiet.
  pub maker_quiet : (n g : ℕ) (decl : Decl) → Stands decls n g decl → (shape : Shape)
      → slice_get world.shapes n ≡ Some shape → IsMade shape.kind → (key : ℕ) (func : Signature)
      → maker_keys decl ≡ key ∷ [] → func_at world tables.answers key ≡ Some func
      → Has (decl_bodies tables n g decl) (plain func.key.at)
  unfolding decl_bodies bodies_of values_of shape_of
  maker_quiet n g (Entry word written at is_async body) stands shape there made key func makes
      found = cc
  maker_quiet n g (Struct word conforms fields funcs) stands shape there made key func makes found =
      absurd (no_object n g (Struct word conforms fields funcs) _ shape stands refl there
      (λ never. never) made)
  maker_quiet n g (Enum word conforms cases funcs) stands shape there made key func makes found =
      absurd (no_object n g (Enum word conforms cases funcs) _ shape stands refl there
      (λ never. never) made)
  maker_quiet n g (Class written word conforms props inits funcs) stands shape there made key func
      makes found =
      object_quiet n g (Class written word conforms props inits funcs) stands word props inits
      (class_ok decls is.keyed is.sound n g written word conforms props inits funcs stands)
      (λ value has. has)
      (λ init has. Contains-append_left (map (init_body n) inits)
      (map (func_body world (Some n)) funcs) (init_body n init)
      (in_map (init_body n) inits init has)) shape there funcs key func
      (let same : init_key word.at inits ≡ key = cc in same) found
  maker_quiet n g (Actor word props inits funcs) stands shape there made key func makes found =
      object_quiet n g (Actor word props inits funcs) stands word props inits
      (actor_ok decls is.keyed is.sound n g word props inits funcs stands) (λ value has. has)
      (λ init has. Contains-append_left (map (init_body n) inits)
      (map (func_body world (Some n)) funcs) (init_body n init)
      (in_map (init_body n) inits init has)) shape there funcs key func
      (let same : init_key word.at inits ≡ key = cc in same) found
  maker_quiet n g (GlobalActor word by) stands shape there made key func makes found = cc
  maker_quiet n g (Func tree) stands shape there made key func makes found = cc
  maker_quiet n g (Global prop) stands shape there made key func makes found = cc
