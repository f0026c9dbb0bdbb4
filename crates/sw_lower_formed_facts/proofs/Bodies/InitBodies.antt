-- The functions of initialisers fit.
use Rattle.std.proofs.Common.{◌≡◌, ℕ, true, List, [], ◌∷◌, ◌++◌, Option, Some, None, map, flat_map}
use Rattle.std.proofs.Common.{Contains, refl, ap, sym, ◌∙◌, subst}
use Rattle.std.proofs.lemmas.List.{map-append}
use Rattle.std.proofs.lemmas.List.Elements.{All-nil, All-cons, All-head}
use Rattle.std.specs.Prelude.{All, slice_get}
use Rattle.sw_list.proofs.Members.{in_flat_map}
use Rattle.sw_lower_formed_facts.specs.Programs.{tables_in}
use Rattle.sw_tree.proofs.FoldEquations as eq
use Rattle.sw_tree.specs.Folds.{fold_stmt}
use Rattle.sw_tree.specs.declared.decl.Decl.{Decl}
use Rattle.sw_tree.specs.declared.decl.InitTree.{InitTree}
use Rattle.sw_tree.specs.declared.decl.ParamTree.{ParamTree}
use Rattle.sw_tree.specs.declared.decl.PropTree.{PropTree}
use Rattle.sw_tree.specs.declared.expr.Expr.{Expr}
use Rattle.sw_tree.specs.declared.name.Name.{Name}
use Rattle.sw_tree.specs.declared.stmt.Block.{Block, out-roll-Block}
use Rattle.sw_tree.specs.declared.stmt.Stmt.{Stmt}
use Rattle.sw_types.specs.Accepts.{IsAcceptedAs, is_marked}
use Rattle.sw_types.specs.declared.isolation.Iso.{Iso}
use Rattle.sw_types.specs.declared.shape.Shape.{Shape}
use Rattle.sw_types.specs.declared.ty.Ty.TheVariants as types
use Rattle.sw_graph.specs.declared.function.Function.{Function}
use Rattle.sw_decl_words.specs.Evident.{Meanings, meanings_of}
use Rattle.sw_decl_words.specs.Shaped.{part_of, prop_type}
use Rattle.sw_decl_words.specs.Words.{top_meaning}
use Rattle.sw_decl_names.specs.Repeats.{first_place}
use Rattle.sw_decl_values.specs.Counts.{times_in}
use Rattle.sw_decl_values.specs.Profile.{in_stmt, no_params, param_names, wanted_names}
use Rattle.sw_decl_values.specs.Values.{set_in}
use Rattle.sw_decls.specs.Signatures.{funcs_from, init_of}
use Rattle.sw_decls.specs.declared.signature.AsyncDefault.{AsyncDefault}
use Rattle.sw_decls.specs.declared.signature.Signature.{Signature}
use Rattle.sw_typing_rules.proofs.Sound.{judges, leaves_block}
use Rattle.sw_typing_rules.specs.Expressions.{Judged}
use Rattle.sw_typing_rules.specs.Judges as is
use Rattle.sw_typing_rules.specs.Judges.{Judges, LeavesAll, LeavesBlock}
use Rattle.sw_typing_rules.specs.Judging.{judge, leave_block}
use Rattle.sw_typing_rules.specs.Programs.{ValueOf, bodies_from, body_state, init_body, first_value}
use Rattle.sw_typing_rules.specs.Programs.{prop_value, value_setting, values_from}
use Rattle.sw_typing_rules.specs.Statements.{Left, State, in_body, is_one, with_only}
use Rattle.sw_typing_rules.specs.Worlds.{World}
use Rattle.sw_typing_rules.specs.declared.scope.Inside.{Inside}
use Rattle.sw_isolation_rules.specs.Answers.{for_some}
use Rattle.sw_isolation_rules.specs.Programs.{func_at}
use Rattle.sw_lower_plans.specs.Plan.{Numbers}
use Rattle.sw_lower_code.specs.Whole.{Body}
use Rattle.sw_lower_rules.specs.Bodies.{default_bodies, first_values, init_bodies, init_code}
use Rattle.sw_lower_rules.specs.Bodies.{init_signed, param_taken, prop_given, signed}
use Rattle.sw_lower_rules.specs.Carriers.{BlockCode, ExprCode, Given}
use Rattle.sw_lower_rules.specs.Statements.{block_code, code_steps, expr_code}
use Rattle.sw_lower_rules.specs.Tables.{Isolation, Tables}
use Rattle.sw_lower_formed_facts.specs.Forms.{BodiesFit, ExprOk, VarHolds}
use Rattle.sw_lower_formed_facts.specs.Ground.{IsDeclaredIn}
use Rattle.sw_lower_formed_facts.specs.Trees.{IsHere}
use Rattle.sw_lower_formed_facts.specs.Taking.{TakenOk}
use Rattle.sw_lower_formed_facts.proofs.Bodies.BodyFits.{body_fits}
use Rattle.sw_lower_formed_facts.proofs.Bodies.FuncBodies.{params_taken_ok}
use Rattle.sw_lower_formed_facts.proofs.Bodies.Given.{AllHere, Fits, IsProgram}
use Rattle.sw_lower_formed_facts.proofs.Bodies.InitStmts.{AllGave, stmts_give}
use Rattle.sw_lower_formed_facts.proofs.Bodies.Initialisers.{GivenWith, IsObject, givens_of, init_ok}
use Rattle.sw_lower_formed_facts.proofs.Headers.FoundFuncs.{func_is}
use Rattle.sw_typing_facts.proofs.Lists.Joined.{Gives, both_give, none_gives}
use Rattle.sw_typing_facts.proofs.Lists.Listed.{in_first, in_rest}
use Rattle.sw_typing_facts.proofs.Programs.DeclStands.{known_is}
use Rattle.sw_typing_facts.proofs.Programs.NamesApart.{none_of}
use Rattle.sw_typing_facts.proofs.Programs.ObjectDecls.{ObjectOk}
use Rattle.sw_typing_facts.proofs.Programs.OwnAssigns.{OwnAssign, own_assign}
use Rattle.sw_lower_formed_facts.proofs.Programs.OwnParts.{are_apart, prop_accepts}
use Rattle.sw_lower_formed_facts.proofs.Programs.SimpleInside.{simple_inside}
use Rattle.sw_lower_formed_facts.proofs.Said.RowsOf.{body_rows_hold, params_hold, value_goes}
use Rattle.sw_lower_formed_facts.proofs.Said.RowsOf.{value_rows_hold}
use Rattle.sw_typing_facts.proofs.Types.Within.{shape_within}

-- the statements of a block
block_all : (world : World) (inside : Inside) (state : State) (block : Block) (left : Left)
    → LeavesBlock world inside state block left
    → LeavesAll world (with_only inside (is_one block.stmts)) state block.stmts left
block_all world inside state block left (is.block _ _ stmts _ d) =
    subst (λ (xs : List Stmt). LeavesAll world (with_only inside (is_one xs)) state xs left)
    (sym (ap (λ b. b.stmts) (out-roll-Block (record { stmts = stmts })))) d

-- the first value of a property, among those of its type
abbrev pub first_of : World → ℕ → PropTree → Expr → ValueOf
first_of world n prop value = record {
  at = prop.word.at;
  owner = Some n;
  wanted = prop_type world.known (Some n) prop;
  value = value;
}

pub first_in : (world : World) (n : ℕ) (props : List PropTree) (prop : PropTree) (value : Expr)
    → Contains props prop → prop.value ≡ Some value
    → Contains (flat_map (prop_value world (Some n)) props) (first_of world n prop value)
first_in world n props prop value has value_is =
    let made = first_of world n prop value in
    in_flat_map (prop_value world (Some n)) props prop made has
    (subst (λ found. Contains (first_value world (Some n) prop found) made) (sym value_is)
    (in_first made []))

-- each statement of an initialiser gives a property its value
pub all_own : (known : Meanings) (n : ℕ) (props : List PropTree) (inits : List InitTree)
    → ObjectOk known n props inits → (init : InitTree) (more : List InitTree)
    → inits ≡ init ∷ more → (x : Stmt) → Contains init.body.stmts x
    → OwnAssign known n (first_place (param_names init.params)) x
all_own known n props inits object init more inits_are x has =
    let params = first_place (param_names init.params) in
    let wanted = first_place (wanted_names known n props) in
    let given = times_in (set_in init.body.stmts) in
    own_assign known n params wanted given x
    (none_of (in_stmt known n params wanted given) init.body.stmts x
    (object.stmts init more inits_are) has)

-- the code of a block, by its statements
block_is : (tables : Tables) (owner : Option ℕ) (block : Block)
    → block_code tables owner block ≡ (code_steps tables owner).block (record
    { stmts = map (fold_stmt (code_steps tables owner)) block.stmts })
unfolding block_code
block_is tables owner block = eq.fold_block-out (code_steps tables owner) block

module _ (world : World) (isolation : Isolation) (decls : List Decl) (rule : AsyncDefault)
    (number : Numbers) (functions : List Function)
    (program : IsProgram world isolation decls rule number functions) (n : ℕ)
    (props : List PropTree) (inits : List InitTree)
    (object : ObjectOk (meanings_of decls) n props inits) (shape : Shape)
    (there : slice_get world.shapes n ≡ Some shape)
    (parts : shape.parts ≡ map (part_of (meanings_of decls) (Some n)) props) (init : InitTree)
    (more : List InitTree) (inits_are : inits ≡ init ∷ more)
    (stands : Contains (bodies_from world 0 decls) (init_body n init)) where
  -- what the statements of an initialiser give
  init_gave : AllGave world isolation decls rule number functions program n shape there
      (are_apart (meanings_of decls) n props inits object shape parts)
      (first_place (param_names init.params)) init.body.stmts
  init_gave =
      stmts_give world isolation decls rule number functions program n shape there
      (are_apart (meanings_of decls) n props inits object shape parts)
      (first_place (param_names init.params)) (is_one init.body.stmts) state init.body.stmts left
      (block_all world inside state init.body left leaves)
      (params_hold world decls program.keyed program.well (init_body n init) stands)
      (body_rows_hold world decls program.keyed program.well (init_body n init) left stands leaves)
      (all_own (meanings_of decls) n props inits object init more inits_are) where
        inside : Inside
        inside = in_body (Some n) true

        state : State
        state = body_state world (init_body n init)

        left : Left
        left = leave_block world init.body inside state

        leaves : LeavesBlock world inside state init.body left
        leaves = leaves_block world inside state init.body

  -- There is no body in an initialiser.
  pub init_inside : (block_code (tables_in world isolation decls) (Some n) init.body).inside ≡ []
  init_inside =
      ap (λ (c : BlockCode). c.inside)
      (block_is (tables_in world isolation decls) (Some n) init.body)
      ∙ init_gave.inside

module _ (world : World) (isolation : Isolation) (decls : List Decl) (rule : AsyncDefault)
    (number : Numbers) (functions : List Function)
    (program : IsProgram world isolation decls rule number functions) where
  abbrev tables : Tables
  tables = tables_in world isolation decls

  abbrev Here : Body → Type 0
  Here = IsHere tables number functions

  abbrev Fit : Body → Type 0
  Fit = Fits tables number functions

  -- A class or an actor, with what is declared of it.
  module _ (n : ℕ) (props : List PropTree) (inits : List InitTree)
      (object : ObjectOk (meanings_of decls) n props inits) (shape : Shape)
      (there : slice_get world.shapes n ≡ Some shape)
      (parts : shape.parts ≡ map (part_of (meanings_of decls) (Some n)) props)
      (is_object : IsObject shape.kind)
      (valued : (value : ValueOf) → Contains (flat_map (prop_value world (Some n)) props) value
      → Contains (values_from world 0 decls) value) where
    abbrev One : Type 0
    One = GivenWith tables number functions (Some n) shape

    abbrev givens : List One → List Given
    givens = givens_of tables number functions (Some n) shape

    -- the first value of a property
    first_one : (prop : PropTree) (value : Expr) → Contains props prop → prop.value ≡ Some value
        → (one : One)
        × (one.given ≡ record
        { name = prop.word.id; read = (expr_code tables (Some n) value).read })
    first_one prop value has value_is = (
      record {
        given = record { name = prop.word.id; read = code.read };
        inside = code.inside;
        ok = record {
          from = ok.ty;
          accepted = prop_accepts (meanings_of decls) n props inits object shape parts prop ok.ty
              has
              accepted;
          read = ok.read;
        };
      },
      refl,
    ) where
      code : ExprCode
      code = expr_code tables (Some n) value

      none : code.inside ≡ []
      none = simple_inside tables (Some n) (meanings_of decls) (Some n) no_params value
          (object.firsts prop value has value_is)

      made : ValueOf
      made = first_of world n prop value

      stands : Contains (values_from world 0 decls) made
      stands = valued made (first_in world n props prop value has value_is)

      judged : Judged
      judged = judge world value (value_setting made) (is_marked made.wanted)

      is_judged : Judges world (value_setting made) (is_marked made.wanted) value judged
      is_judged = judges world (value_setting made) (is_marked made.wanted) value

      ok : ExprOk tables number functions (Some n) code judged
      ok = program.exprs (value_setting made) (is_marked made.wanted) value judged is_judged
          (All-nil (VarHolds tables.answers))
          (value_rows_hold world decls program.keyed program.well made judged stands is_judged)
          (subst (λ bodies. AllHere tables number functions bodies) (sym none) (All-nil Here))

      accepted : IsAcceptedAs ok.ty (prop_type (meanings_of decls) (Some n) prop)
      accepted = subst (λ (known : Meanings). IsAcceptedAs ok.ty (prop_type known (Some n) prop))
          (known_is decls rule world program.declared)
          (value_goes world decls program.keyed program.well made judged ok.ty stands is_judged
          ok.has)

    -- the first values of some of the properties
    record FirstGave (some : List PropTree) : Type 0 where
      all : List One
      gives : first_values tables n some ≡ givens all

    first_gives : (some : List PropTree) → ((p : PropTree) → Contains some p → Contains props p)
        → FirstGave some
    first_gives [] among = record { all = []; gives = refl }
    first_gives (prop ∷ some) among =
        by prop.value refl (first_gives some (λ p has. among p (in_rest prop some p has))) where
          by : (found : Option Expr) → prop.value ≡ found → FirstGave some → FirstGave (prop ∷ some)
          by None is rest = record {
            all = rest.all;
            gives = ap (λ found. prop_given tables n prop found ++ first_values tables n some) is
                ∙ rest.gives;
          }
          by (Some value) is rest =
              let one = first_one prop value (among prop (in_first prop some)) is in record {
                all = one.0 ∷ rest.all;
                gives = ap (λ found. prop_given tables n prop found ++ first_values tables n some)
                    is
                    ∙ ap (λ given. given ∷ first_values tables n some) (sym one.1)
                    ∙ ap (λ more. one.0.given ∷ more) rest.gives;
              }

    -- the function of an initialiser, by what is given to properties
    made_fits : (func : Signature) (params : List ParamTree)
        → All (TakenOk tables (Some n)) (map (param_taken tables) params)
        → func.result ≡ types.Named n → (all : List One)
        → Here (signed tables func (map (param_taken tables) params)
        (init_code func.key.at n shape (givens all)))
        → Fit (signed tables func (map (param_taken tables) params)
        (init_code func.key.at n shape (givens all)))
    made_fits func params takes result all here =
        (body_fits tables number functions (Some n)
        (signed tables func (map (param_taken tables) params)
        (init_code func.key.at n shape (givens all))) takes
        (subst (IsDeclaredIn tables) (sym result) (shape_within tables.world.shapes n shape there))
        (All (λ (one : One). BodiesFit tables number functions one.inside) all)
        (λ w of p knows gives. init_ok tables number functions (Some n) shape w of all func.key.at n
        there is_object (gives ∙ result) p knows)
        here.made).0

    signed_fits : (func : Signature) (params : List ParamTree)
        → All (TakenOk tables (Some n)) (map (param_taken tables) params)
        → func.result ≡ types.Named n → (given : List Given) (more : List One)
        → given ≡ givens more → Gives Here Fit (init_signed tables n props params given func)
    signed_fits func params takes result given more given_is =
        subst (λ found. Gives Here Fit (for_some found (λ (s : Shape).
        signed tables func (map (param_taken tables) params)
        (init_code func.key.at n s (first_values tables n props ++ given)) ∷ []))) (sym there)
        (subst (λ all. Gives Here Fit (signed tables func (map (param_taken tables) params)
        (init_code func.key.at n shape all) ∷ [])) (sym all_is)
        (λ here. All-cons Fit _ []
        (made_fits func params takes result (first.all ++ more) (All-head Here _ [] here))
        (All-nil Fit))) where
          first : FirstGave props
          first = first_gives props (λ p has. has)

          all_is : first_values tables n props ++ given ≡ givens (first.all ++ more)
          all_is = ap (λ before. before ++ given) first.gives
              ∙ ap (λ after. givens first.all ++ after) given_is
              ∙ sym (map-append (λ (one : One). one.given) first.all more)

    -- an initialiser that is found by its key
    keyed_fits : (key : ℕ) (one : Signature) → one.key.at ≡ key → one.result ≡ types.Named n
        → Contains (funcs_from (top_meaning decls) rule 0 decls) one → (params : List ParamTree)
        → All (TakenOk tables (Some n)) (map (param_taken tables) params)
        → (given : List Given) (more : List One) → given ≡ givens more
        → Gives Here Fit
        (for_some (func_at world tables.answers key) (init_signed tables n props params given))
    keyed_fits key one same result declared params takes given more given_is =
        by (func_at world tables.answers key) refl where
          by : (found : Option Signature) → func_at world tables.answers key ≡ found
              → Gives Here Fit (for_some found (init_signed tables n props params given))
          by None is = none_gives Here Fit
          by (Some func) is =
              signed_fits func params takes
              (ap (λ (f : Signature). f.result) (func_is decls rule world tables.answers
              program.keyed program.declared key func one is declared same) ∙ result)
              given more given_is

    -- the initialiser of a type that writes none
    pub default_fits : (word : Name) (actor : Iso)
        → Contains (funcs_from (top_meaning decls) rule 0 decls)
        (init_of (top_meaning decls) word n actor [])
        → Gives Here Fit (default_bodies tables n props word)
    unfolding default_bodies
    default_fits word actor declared =
        keyed_fits word.at (init_of (top_meaning decls) word n actor []) refl refl declared []
        (All-nil (TakenOk tables (Some n))) [] [] refl

    -- the one that a type writes
    pub init_fits : (init : InitTree) (more : List InitTree) → inits ≡ init ∷ more → (word : Name)
        (actor : Iso) → Contains (funcs_from (top_meaning decls) rule 0 decls)
        (init_of (top_meaning decls) (record { at = init.at; id = word.id }) n actor init.params)
        → Contains (bodies_from world 0 decls) (init_body n init)
        → Gives Here Fit (init_bodies tables n props init)
    unfolding init_bodies
    init_fits init more inits_are word actor declared stands =
        both_give Here Fit
        (for_some (func_at world tables.answers init.at)
        (init_signed tables n props init.params code.gives)) code.inside
        (keyed_fits init.at
        (init_of (top_meaning decls) (record { at = init.at; id = word.id }) n actor init.params)
        refl refl declared init.params
        (params_taken_ok world isolation decls rule number functions program (Some n)
        (init_body n init) stands) code.gives gave.all
        (ap (λ (c : BlockCode). c.gives) (block_is tables (Some n) init.body) ∙ gave.gives))
        (subst (Gives Here Fit)
        (sym (init_inside world isolation decls rule number functions program n props inits object
        shape there parts init more inits_are stands))
        (none_gives Here Fit)) where
          code : BlockCode
          code = block_code tables (Some n) init.body

          gave : AllGave world isolation decls rule number functions program n shape there
              (are_apart (meanings_of decls) n props inits object shape parts)
              (first_place (param_names init.params)) init.body.stmts
          gave = init_gave world isolation decls rule number functions program n props inits object
              shape there parts init more inits_are stands
