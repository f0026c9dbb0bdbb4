-- The bodies of initialisers proceed.
use Rattle.std.proofs.Common.{◌≡◌, ℕ, true, false, List, [], ◌∷◌, ◌++◌, Option, Some, None, map}
use Rattle.std.proofs.Common.{flat_map, Contains, refl, ap, sym, ◌∙◌, subst, inl, inr}
use Rattle.std.proofs.lemmas.List.Elements.{All-nil, All-cons, Contains-append_cases}
use Rattle.std.proofs.lemmas.List.Sorted.{Contains-permutation}
use Rattle.std.specs.Prelude.{slice_get}
use Rattle.sw_list.proofs.Members.{none_in, of_flat_map}
use Rattle.sw_tree.specs.declared.decl.Decl.{Decl}
use Rattle.sw_tree.specs.declared.decl.InitTree.{InitTree}
use Rattle.sw_tree.specs.declared.decl.ParamTree.{ParamTree}
use Rattle.sw_tree.specs.declared.decl.PropTree.{PropTree}
use Rattle.sw_tree.specs.declared.expr.Expr.{Expr}
use Rattle.sw_tree.specs.declared.name.Name.{Name}
use Rattle.sw_tree.specs.declared.stmt.Stmt.{Stmt}
use Rattle.sw_tree_facts.specs.Unwritten.{block_unwritten, expr_unwritten}
use Rattle.sw_types.specs.Accepts.{is_marked}
use Rattle.sw_types.specs.declared.isolation.Iso.{Iso}
use Rattle.sw_types.specs.declared.shape.Shape.{Shape}
use Rattle.sw_decl_words.specs.Evident.{meanings_of}
use Rattle.sw_decl_words.specs.Shaped.{part_of}
use Rattle.sw_decl_words.specs.Words.{top_meaning}
use Rattle.sw_decl_names.specs.Repeats.{first_place}
use Rattle.sw_decl_values.specs.Profile.{no_params, param_names}
use Rattle.sw_decl_values.specs.Values.{set_first, without_value}
use Rattle.sw_decls.specs.Signatures.{funcs_from, init_of}
use Rattle.sw_decls.specs.declared.signature.AsyncDefault.{AsyncDefault}
use Rattle.sw_decls.specs.declared.signature.Signature.{Signature}
use Rattle.sw_typing_rules.specs.Expressions.{Judged}
use Rattle.sw_typing_rules.specs.Judges.{Judges}
use Rattle.sw_typing_rules.specs.Judging.{judge, leave_block}
use Rattle.sw_typing_rules.specs.Programs.{ValueOf, bodies_from, body_state, init_body, param_var}
use Rattle.sw_typing_rules.specs.Programs.{prop_value, value_setting, values_from}
use Rattle.sw_typing_rules.specs.Statements.{Left, State, in_body}
use Rattle.sw_typing_rules.specs.Worlds.{World}
use Rattle.sw_typing_rules.specs.declared.scope.Inside.{Inside}
use Rattle.sw_typing_rules.specs.declared.scope.Var.{Var}
use Rattle.sw_typing_rules.proofs.Sound.{judges, leaves_block}
use Rattle.sw_isolation_rules.specs.Answers.{for_some}
use Rattle.sw_isolation_rules.specs.Kinds.{shape_iso}
use Rattle.sw_isolation_rules.specs.Programs.{context_of, func_at, func_context}
use Rattle.sw_isolation_rules.specs.declared.note.Note.{Note}
use Rattle.sw_lower_plans.specs.Plan.{Numbers}
use Rattle.sw_lower_plans.specs.Run.{Making}
use Rattle.sw_lower_code.specs.Whole.{Body}
use Rattle.sw_lower_rules.specs.Bodies.{default_bodies, first_values, init_bodies, init_code}
use Rattle.sw_lower_rules.specs.Bodies.{init_signed, param_taken, prop_given, signed}
use Rattle.sw_lower_rules.specs.Carriers.{Given}
use Rattle.sw_lower_rules.specs.Statements.{block_code, expr_code}
use Rattle.sw_lower_rules.specs.Tables.{Tables}
use Rattle.sw_lower_formed_facts.specs.Forms.{VarHolds}
use Rattle.sw_lower_formed_facts.proofs.Bodies.InitBodies.{all_own, first_in, first_of}
use Rattle.sw_lower_formed_facts.proofs.Headers.FoundFuncs.{func_is}
use Rattle.sw_typing_facts.proofs.Lists.Joined.{Gives, both_give, none_gives}
use Rattle.sw_typing_facts.proofs.Lists.Listed.{only_in}
use Rattle.sw_typing_facts.proofs.Programs.ObjectDecls.{ObjectOk}
use Rattle.sw_typing_facts.proofs.Programs.OwnAssigns.{OwnAssign}
use Rattle.sw_lower_formed_facts.proofs.Said.RowsOf.{body_rows_hold, params_hold, value_rows_hold}
use Rattle.sw_lower_total_facts.specs.Proceeding.{BodyProceeds, BodyIsNumbered, Proceeds}
use Rattle.sw_lower_total_facts.specs.Programs.{noted_tables, notes_of}
use Rattle.sw_lower_total_facts.specs.Trees.{BlockStands, ExprStands}
use Rattle.sw_lower_total_facts.proofs.Bodies.AllStand.{ParamsAreLets}
use Rattle.sw_lower_total_facts.proofs.Bodies.FuncBodies.{param_keys, plain_bound, plain_param}
use Rattle.sw_lower_total_facts.proofs.Bodies.Given.{IsProgram}
use Rattle.sw_lower_total_facts.proofs.Bodies.GivenNames.{params_agree, parts_named}
use Rattle.sw_lower_total_facts.proofs.Bodies.GivenValues.{Begun, begun_kept, begun_none, simple_proceeds}
use Rattle.sw_lower_total_facts.proofs.Bodies.InitValues.{BlockGives, block_gives}
use Rattle.sw_lower_total_facts.proofs.Bodies.Initialisers.{Kept, init_proceeds}
use Rattle.sw_lower_total_facts.proofs.Bodies.Taking.{Entered, body_proceeds}
use Rattle.sw_lower_total_facts.proofs.EnumWords.{body_unmeant, value_unmeant}
use Rattle.sw_lower_total_facts.proofs.Programs.Found.{FuncAt, found_at, func_at_key}

module _ (world : World) (decls : List Decl) (rule : AsyncDefault) (number : Numbers)
    (program : IsProgram world decls rule number) where
  abbrev tables : Tables
  tables = noted_tables world decls

  abbrev all : List Note
  all = notes_of world decls

  abbrev Numbered : Body → Type 0
  Numbered = BodyIsNumbered number

  abbrev Goes : Body → Type 0
  Goes = BodyProceeds number

  abbrev Params : List ParamTree → Type 0
  Params = ParamsAreLets world decls number

  -- Where an initialiser begins, its parameters are bound.
  begun : (params : List ParamTree) → Params params → (t : Making)
      → Entered number (map (param_taken tables) params) t
      → Begun tables number (map (param_var world) params) t
  begun params none t entered = record {
    going = entered.going;
    numbers = entered.numbers;
    bound = λ key has.
        plain_bound tables number (map (param_taken tables) params)
        (plain_param world decls rule number program params none) t entered key
        (subst (λ keys. Contains keys key) (sym (param_keys tables params)) has);
  }

  -- What is given proceeds where parameters are bound.
  abbrev Reads : List ParamTree → List Given → Type 0
  Reads params given = (one : Given) → Contains given one → (s : Making)
      → Begun tables number (map (param_var world) params) s → Proceeds s one.read

  -- A class or an actor, with what is declared of it.
  module _ (n : ℕ) (props : List PropTree) (inits : List InitTree)
      (object : ObjectOk (meanings_of decls) n props inits)
      (valued : without_value props inits ≡ []) (shape : Shape)
      (there : slice_get world.shapes n ≡ Some shape)
      (parts : shape.parts ≡ map (part_of (meanings_of decls) (Some n)) props)
      (declared_values : (value : ValueOf)
      → Contains (flat_map (prop_value world (Some n)) props) value
      → Contains (values_from world 0 decls) value)
      (firsts_stand : (prop : PropTree) (value : Expr) → Contains props prop
      → prop.value ≡ Some value
      → ExprStands tables number all (context_of (shape_iso shape) false (Some n)) [] [] value
      × (expr_unwritten value ≡ [])) where
    -- the first value of a property
    first_proceeds : (prop : PropTree) (value : Expr) → Contains props prop
        → prop.value ≡ Some value → (s : Making) → Begun tables number [] s
        → Proceeds s (expr_code tables (Some n) value).read
    first_proceeds prop value has value_is =
        simple_proceeds world decls rule number program (value_setting made) (is_marked made.wanted)
        value judged is_judged (value_unmeant world decls program.keyed made stands) place.1
        (All-nil (VarHolds tables.answers))
        (value_rows_hold world decls program.keyed program.well made judged stands is_judged)
        no_params (λ id. refl) (object.firsts prop value has value_is)
        (context_of (shape_iso shape) false (Some n)) refl place.0 where
          made : ValueOf
          made = first_of world n prop value

          stands : Contains (values_from world 0 decls) made
          stands = declared_values made (first_in world n props prop value has value_is)

          judged : Judged
          judged = judge world value (value_setting made) (is_marked made.wanted)

          is_judged : Judges world (value_setting made) (is_marked made.wanted) value judged
          is_judged = judges world (value_setting made) (is_marked made.wanted) value

          place : ExprStands tables number all (context_of (shape_iso shape) false (Some n)) [] []
              value × (expr_unwritten value ≡ [])
          place = firsts_stand prop value has value_is

    firsts_proceed : (one : Given) → Contains (first_values tables n props) one → (s : Making)
        → Begun tables number [] s → Proceeds s one.read
    firsts_proceed one has =
        let (prop, among, inside) =
        of_flat_map (λ (prop : PropTree). prop_given tables n prop prop.value) props one has in
        by prop among prop.value refl inside where
          by : (prop : PropTree) → Contains props prop → (found : Option Expr) → prop.value ≡ found
              → Contains (prop_given tables n prop found) one → (s : Making)
              → Begun tables number [] s → Proceeds s one.read
          by prop among None is inside = absurd (none_in one inside)
          by prop among (Some value) is inside =
              λ s empty. subst (λ (given : Given). Proceeds s given.read) (only_in _ one inside)
              (first_proceeds prop value among is s empty)

    -- the body of an initialiser, by what its statements give
    signed_proceeds : (func : Signature) (params : List ParamTree) → Params params
        → (given : List Given) → Reads params given
        → map (λ (one : Given). one.name) given ≡ map (λ (name : Name). name.id) (set_first inits)
        → Gives Numbered Goes (init_signed tables n props params given func)
    signed_proceeds func params none given reads names =
        subst (λ found. Gives Numbered Goes (for_some found (λ (s : Shape).
        signed tables func (map (param_taken tables) params)
        (init_code func.key.at n s (first_values tables n props ++ given)) ∷ []))) (sym there)
        (λ numbered. All-cons Goes body []
        (body_proceeds number body (λ t entered.
        init_proceeds kept func.key.at n shape (first_values tables n props ++ given) all_read
        (parts_named tables n props (meanings_of decls) inits given names valued shape.parts parts)
        t (begun params none t entered)))
        (All-nil Goes)) where
          vars : List Var
          vars = map (param_var world) params

          kept : Kept
          kept = begun_kept tables number vars

          body : Body
          body = signed tables func (map (param_taken tables) params)
              (init_code func.key.at n shape (first_values tables n props ++ given))

          all_read : (one : Given) → Contains (first_values tables n props ++ given) one
              → (s : Making) → Begun tables number vars s → Proceeds s one.read
          all_read one has s here =
              elim (Contains-append_cases (first_values tables n props) given one has) [
                | inl first ↦ firsts_proceed one first s (begun_none tables number vars s here)
                | inr later ↦ reads one later s here
              ]

    -- the initialiser of a type that writes none
    pub default_proceeds : (word : Name) → inits ≡ []
        → Gives Numbered Goes (default_bodies tables n props word)
    unfolding default_bodies
    default_proceeds word none = by (func_at world tables.answers word.at) where
      by : (found : Option Signature)
          → Gives Numbered Goes (for_some found (init_signed tables n props [] []))
      by None = none_gives Numbered Goes
      by (Some func) =
          signed_proceeds func [] (λ param has. absurd (none_in param has)) []
          (λ one has. absurd (none_in one has))
          (ap (λ some. map (λ (name : Name). name.id) (set_first some)) (sym none))

    -- the one that a type writes
    pub inits_proceed : (init : InitTree) (more : List InitTree) → inits ≡ init ∷ more
        → (word : Name) (actor : Iso) → Contains (funcs_from (top_meaning decls) rule 0 decls)
        (init_of (top_meaning decls) (record { at = init.at; id = word.id }) n actor init.params)
        → Contains (bodies_from world 0 decls) (init_body n init)
        → ((func : Signature) → func_at world tables.answers init.at ≡ Some func
        → BlockStands tables number all (func_context func) [] (map (param_var world) init.params)
        init.body)
        → block_unwritten init.body ≡ [] → Params init.params
        → Gives Numbered Goes (init_bodies tables n props init)
    unfolding init_bodies
    inits_proceed init more inits_are word actor declared stands placed tasks none =
        subst (λ found. Gives Numbered Goes
        (for_some found (init_signed tables n props init.params
        (block_code tables (Some n) init.body).gives)
        ++ (block_code tables (Some n) init.body).inside)) (sym found)
        (by found_one.func found) where
          one : Signature
          one = init_of (top_meaning decls) (record { at = init.at; id = word.id }) n actor
              init.params

          params : ℕ → Option ℕ
          params = first_place (param_names init.params)

          inside : Inside
          inside = in_body (Some n) true

          state : State
          state = body_state world (init_body n init)

          left : Left
          left = leave_block world init.body inside state

          own : (x : Stmt) → Contains init.body.stmts x → OwnAssign (meanings_of decls) n params x
          own = all_own (meanings_of decls) n props inits object init more inits_are

          found_one : FuncAt world init.at
          found_one = func_at_key decls rule world program.declared one init.at
              (Contains-permutation (funcs_from (top_meaning decls) rule 0 decls) world.funcs one
              program.declared.funcs declared) refl

          found : func_at world tables.answers init.at ≡ Some found_one.func
          found = found_at world tables.answers init.at found_one

          by : (func : Signature) → func_at world tables.answers init.at ≡ Some func
              → Gives Numbered Goes
              (init_signed tables n props init.params
              (block_code tables (Some n) init.body).gives func
              ++ (block_code tables (Some n) init.body).inside)
          by func is =
              let same : func ≡ one =
              func_is decls rule world tables.answers program.keyed program.declared init.at func
              one is declared refl in
              let gave : BlockGives world decls rule number program n params (func_context func)
              (ap (λ (f : Signature). f.owner) same) state init.body =
              block_gives world decls rule number program n params (func_context func)
              (ap (λ (f : Signature). f.owner) same) state init.body left
              (leaves_block world inside state init.body)
              (params_hold world decls program.keyed program.well (init_body n init) stands)
              (params_agree world init.params)
              (body_rows_hold world decls program.keyed program.well (init_body n init) left stands
              (leaves_block world inside state init.body))
              (body_unmeant world decls program.keyed (init_body n init) stands) tasks
              (placed func is) own in
              both_give Numbered Goes
              (init_signed tables n props init.params
              (block_code tables (Some n) init.body).gives func)
              (block_code tables (Some n) init.body).inside
              (signed_proceeds func init.params none
              (block_code tables (Some n) init.body).gives gave.gives.reads
              (gave.gives.named
              ∙ ap (λ some. map (λ (name : Name). name.id) (set_first some)) (sym inits_are)))
              (subst (Gives Numbered Goes) (sym gave.inside) (none_gives Numbered Goes))
