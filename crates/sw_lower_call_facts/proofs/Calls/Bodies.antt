-- Each call and each task in the bodies of functions, methods, initialisers and getters is of
-- something.
use Rattle.std.proofs.Common.{◌≡◌, ℕ, ◌+◌, Bool, true, false, List, [], ◌∷◌, ◌++◌, Option, Some}
use Rattle.std.proofs.Common.{None, flat_map, Contains, subst, refl}
use Rattle.std.proofs.lemmas.List.Elements.{All-append, All-cons, All-nil, All-contains, All-tail}
use Rattle.std.specs.List.{AllByRecursion}
use Rattle.std.specs.Prelude.{All, ◌&&◌, if◌then◌else◌, slice_get}
use Rattle.sw_list.proofs.Members.{none_in}
use Rattle.sw_tree.specs.declared.decl.FuncTree.{FuncTree}
use Rattle.sw_tree.specs.declared.decl.InitTree.{InitTree}
use Rattle.sw_tree.specs.declared.decl.ParamTree.{ParamTree}
use Rattle.sw_tree.specs.declared.decl.PropTree.{PropTree}
use Rattle.sw_tree.specs.declared.expr.Expr.{Expr}
use Rattle.sw_tree.specs.declared.name.Name.{Name}
use Rattle.sw_tree.specs.declared.stmt.Block.{Block}
use Rattle.sw_types.specs.declared.shape.Shape.{Shape}
use Rattle.sw_types.specs.declared.shape.ShapeKind.{ShapeKind}
use Rattle.sw_types.specs.declared.shape.ShapeKind.TheVariants as shapes
use Rattle.sw_types.specs.declared.ty.Ty.{Ty}
use Rattle.sw_graph.specs.declared.instr.Operand.{Operand}
use Rattle.sw_decls.specs.declared.signature.GlobalVar.{GlobalVar}
use Rattle.sw_decls.specs.declared.signature.Signature.{Signature}
use Rattle.sw_isolation_rules.specs.Answers.{for_some}
use Rattle.sw_isolation_rules.specs.Kinds.{is_isolated, shape_iso}
use Rattle.sw_isolation_rules.specs.Programs.{func_at}
use Rattle.sw_lower_plans.specs.Plan.{Numbers}
use Rattle.sw_lower_code.specs.Code.{Code}
use Rattle.sw_lower_code.specs.Whole.{Body}
use Rattle.sw_lower_code.specs.declared.taken.Taken.{Taken}
use Rattle.sw_lower_rules.specs.Bodies.{default_bodies, first_values}
use Rattle.sw_lower_rules.specs.Bodies.{func_bodies, func_signed, func_tree_bodies, getter}
use Rattle.sw_lower_rules.specs.Bodies.{give_value, global_bodies, global_getter}
use Rattle.sw_lower_rules.specs.Bodies.{init_bodies, init_code, init_signed, inits_bodies}
use Rattle.sw_lower_rules.specs.Bodies.{made_instr, prop_getters, prop_given, shape_getters}
use Rattle.sw_lower_rules.specs.Bodies.{value_bodies}
use Rattle.sw_lower_rules.specs.Carriers.{Given}
use Rattle.sw_lower_rules.specs.Expressions.{iso_of}
use Rattle.sw_lower_rules.specs.Statements.{block_code, expr_code}
use Rattle.sw_lower_rules.specs.Tables.{Tables}
use Rattle.sw_typing_facts.proofs.Lists.Listed.{in_first, in_rest}
use Rattle.sw_lower_code_facts.proofs.Uses.{has_each, has_each_of}
use Rattle.sw_lower_call_facts.specs.Calls.{CodeIsOfBodies, IsOfBody}
use Rattle.sw_lower_call_facts.specs.Carried.{AreIn, BodyCalls, GivenCalls}
use Rattle.sw_lower_call_facts.proofs.Calls.Induction.{block_code_calls, expr_calls, in_left, in_right}
use Rattle.sw_lower_call_facts.proofs.Calls.Uses.{calling, writes_give}
use Rattle.sw_lower_call_facts.proofs.Writing.Joining.{writes_done, writes_then}
use Rattle.sw_lower_call_facts.proofs.Writing.Steps.{writes_close, writes_emit, writes_known}

-- the bodies in a first value
abbrev pub value_inside : Tables → Option Expr → List Body
value_inside tables None = []
value_inside tables (Some value) = (expr_code tables None value).inside

module _ (tables : Tables) (numbers : Numbers) (bodies : List Body) where
  abbrev Bodies : Body → Type 0
  Bodies body = BodyCalls tables numbers bodies body

  abbrev In : List Body → Type 0
  In some = AreIn tables numbers bodies some

  abbrev Givens : Given → Type 0
  Givens given = GivenCalls tables numbers bodies given

  abbrev Here : {A : Type 0} → Code A → Type 0
  Here code = CodeIsOfBodies tables numbers bodies code

  -- Where these bodies are among those of the program, each call in them is of something.
  abbrev pub Goes : List Body → Type 0
  Goes some = In some → All Bodies some

  none_go : Goes []
  none_go are = All-nil Bodies

  pub both_go : (xs ys : List Body) → Goes xs → Goes ys → Goes (xs ++ ys)
  both_go xs ys one other are =
      All-append Bodies xs ys (one (in_left tables numbers bodies xs ys are))
      (other (in_right tables numbers bodies xs ys are))

  pub each_goes : {X : Type 0} (f : X → List Body) (xs : List X)
      → ((x : X) → Contains xs x → Goes (f x)) → Goes (flat_map f xs)
  each_goes f [] each = none_go
  each_goes f (x ∷ xs) each =
      both_go (f x) (flat_map f xs) (each x (in_first x xs))
      (each_goes f xs (λ one has. each one (in_rest x xs one has)))

  some_go : {A : Type 0} (found : Option A) (f : A → List Body) → ((x : A) → Goes (f x))
      → Goes (for_some found f)
  some_go None f each = none_go
  some_go (Some x) f each = each x

  some_so : {A : Type 0} (found : Option A) (f : A → List Body)
      → ((x : A) → All Bodies (f x)) → All Bodies (for_some found f)
  some_so None f each = All-nil Bodies
  some_so (Some x) f each = each x

  one_so : (body : Body) → Here body.code
      → (body.getter ≡ true → body.iso ≡ iso_of (tables.isolation.body_at body.key))
      → All Bodies (body ∷ [])
  one_so body so isolated =
      All-cons Bodies body [] (record { code = so; isolated = isolated }) (All-nil Bodies)

  -- functions, methods and the entry, by the bodies in them
  pub signed_by : (params : List ParamTree) (block : Block) (func : Signature)
      → In (block_code tables func.owner block).inside
      → All Bodies (func_signed tables params block func)
  signed_by params block func are =
      let code = block_code tables func.owner block in
      let so = block_code_calls tables numbers bodies func.owner block are in
      All-cons Bodies _ code.inside
      (record {
        code = so.code func.result;
        isolated = λ is. cc;
      }) so.inside

  pub func_goes : (key : ℕ) (params : List ParamTree) (block : Block)
      → Goes (func_bodies tables key params block)
  unfolding func_bodies
  func_goes key params block =
      some_go (func_at tables.world tables.answers key) (func_signed tables params block)
      (λ func are.
      signed_by params block func (λ one has.
      are one (in_rest _ (block_code tables func.owner block).inside one has)))

  pub funcs_go : (funcs : List FuncTree) → Goes (flat_map (func_tree_bodies tables) funcs)
  funcs_go funcs =
      each_goes (func_tree_bodies tables) funcs (λ func has.
      func_goes func.word.at func.params func.body)

  -- an initialiser, where the code of each value that is given is so
  values_call : (givens : List Given) → All Givens givens
      → AllByRecursion (λ given. Here (give_value given)) givens
  values_call [] all = tt
  values_call (given ∷ givens) all = (
    writes_then _ _ (All-contains Givens (given ∷ givens) given all (in_first given givens)).read
        (λ value. writes_done _),
    values_call givens (All-tail Givens given givens all),
  )

  made_of : (kind : ShapeKind) (key r number : ℕ) (operands : List Operand)
      → IsOfBody tables numbers bodies (made_instr kind key r number operands)
  made_of shapes.Struct key r number operands = tt
  made_of shapes.Enum key r number operands = tt
  made_of shapes.Class key r number operands = tt
  made_of shapes.Actor key r number operands = tt

  init_calls : (key number : ℕ) (shape : Shape) (givens : List Given) → All Givens givens
      → Here (init_code key number shape givens)
  unfolding init_code
  init_calls key number shape givens all =
      writes_then _ _ (has_each (calling tables numbers bodies) give_value givens (values_call givens all)) (λ values.
      writes_then _ _ (has_each_of (calling tables numbers bodies) _ shape.parts (λ part. writes_known _ _)) (λ operands.
      writes_then _ _
      (writes_give key _ _ (λ r. made_of shape.kind key r number operands)) (λ made.
      writes_close _)))

  init_signed_so : (number : ℕ) (props : List PropTree) (params : List ParamTree)
      (givens : List Given) (func : Signature)
      → All Givens (first_values tables number props ++ givens)
      → All Bodies (init_signed tables number props params givens func)
  init_signed_so number props params givens func all =
      some_so (slice_get tables.world.shapes number) _ (λ shape.
      one_so _ (init_calls func.key.at number shape _ all) (λ is. cc))

  -- a first value of a property, in which there are no bodies
  abbrev pub IsBare : ℕ → PropTree → Type 0
  IsBare number prop = (value : Expr) → prop.value ≡ Some value
      → (expr_code tables (Some number) value).inside ≡ []

  prop_calls : (number : ℕ) (prop : PropTree) (value : Option Expr)
      → ((one : Expr) → value ≡ Some one → (expr_code tables (Some number) one).inside ≡ [])
      → All Givens (prop_given tables number prop value)
  prop_calls number prop None bare = All-nil Givens
  prop_calls number prop (Some value) bare =
      All-cons Givens _ [] (record {
        read = (expr_calls tables numbers bodies (Some number) value
            (λ one has. absurd (none_in one
            (subst (λ some. Contains some one) (bare value refl) has)))).read;
      }) (All-nil Givens)

  firsts_call : (number : ℕ) (props : List PropTree)
      → ((prop : PropTree) → Contains props prop → IsBare number prop)
      → All Givens (first_values tables number props)
  firsts_call number [] bare = All-nil Givens
  firsts_call number (prop ∷ props) bare =
      All-append Givens (prop_given tables number prop prop.value) _
      (prop_calls number prop prop.value (bare prop (in_first prop props)))
      (firsts_call number props (λ one has. bare one (in_rest prop props one has)))

  module _ (number : ℕ) (props : List PropTree)
      (bare : (prop : PropTree) → Contains props prop → IsBare number prop) where
    pub init_by : (init : InitTree) → In (block_code tables (Some number) init.body).inside
        → All Bodies (init_bodies tables number props init)
    unfolding init_bodies
    init_by init are =
        let code = block_code tables (Some number) init.body in
        let made = for_some (func_at tables.world tables.answers init.at)
        (init_signed tables number props init.params code.gives) in
        let so = block_code_calls tables numbers bodies (Some number) init.body are in
        All-append Bodies made code.inside
        (some_so (func_at tables.world tables.answers init.at)
        (init_signed tables number props init.params code.gives) (λ func.
        init_signed_so number props init.params code.gives func
        (All-append Givens (first_values tables number props) code.gives
        (firsts_call number props bare) so.gives))) so.inside

    init_goes : (init : InitTree) → Goes (init_bodies tables number props init)
    unfolding init_bodies
    init_goes init are =
        let code = block_code tables (Some number) init.body in
        init_by init
        (in_right tables numbers bodies
        (for_some (func_at tables.world tables.answers init.at)
        (init_signed tables number props init.params code.gives)) code.inside are)

    pub default_so : (word : Name) → All Bodies (default_bodies tables number props word)
    unfolding default_bodies
    default_so word =
        some_so (func_at tables.world tables.answers word.at)
        (init_signed tables number props [] []) (λ func.
        init_signed_so number props [] [] func
        (All-append Givens (first_values tables number props) [] (firsts_call number props bare)
        (All-nil Givens)))

    pub inits_go : (word : Name) (inits : List InitTree)
        → Goes (inits_bodies tables number props word inits)
    inits_go word [] = λ are. default_so word
    inits_go word (init ∷ inits) =
        each_goes (init_bodies tables number props) (init ∷ inits) (λ one has. init_goes one)

  -- getters
  getter_so : (key : ℕ) (takes : List Taken) (ty : Ty) (read : Code Operand) → Here read
      → All Bodies (getter tables key takes ty read ∷ [])
  getter_so key takes ty read so =
      one_so (getter tables key takes ty read) (writes_then _ _ so (λ value. writes_close _))
      (λ is. refl)

  if_so : (is : Bool) (some : List Body) → All Bodies some → All Bodies (if is then some else [])
  if_so true some so = so
  if_so false some so = All-nil Bodies

  shape_getters_so : (number index : ℕ) (prop : PropTree) (shape : Shape)
      → All Bodies (shape_getters tables number index prop shape)
  shape_getters_so number index prop shape =
      if_so (prop.mutable && is_isolated (shape_iso shape)) _
      (some_so (slice_get shape.parts index) _ (λ part.
      getter_so prop.word.at _ part.ty _ (writes_give prop.word.at part.ty _ (λ r. tt))))

  pub prop_getters_so : (number index : ℕ) (props : List PropTree)
      → All Bodies (prop_getters tables number index props)
  prop_getters_so number index [] = All-nil Bodies
  prop_getters_so number index (prop ∷ props) =
      All-append Bodies _ _
      (some_so (slice_get tables.world.shapes number) (shape_getters tables number index prop)
      (shape_getters_so number index prop))
      (prop_getters_so number (index + 1) props)

  -- global variables
  global_getter_so : (key index : ℕ) (global : GlobalVar)
      → All Bodies (global_getter tables key index global)
  global_getter_so key index global =
      some_so global.actor _ (λ actor. if_so global.mutable _
      (getter_so key [] global.ty _ (writes_give key global.ty _ (λ r. tt))))

  value_by : (key index : ℕ) (value : Option Expr) → In (value_inside tables value)
      → All Bodies (value_bodies tables key index value)
  value_by key index None are = All-nil Bodies
  value_by key index (Some value) are =
      let code = expr_code tables None value in
      let so = expr_calls tables numbers bodies None value are in
      All-cons Bodies _ code.inside (record {
        code = writes_then _ _ so.read (λ given.
            writes_then _ _ (writes_emit _ tt) (λ stored. writes_close _));
        isolated = λ is. cc;
      }) so.inside

  value_in : (key index : ℕ) (value : Option Expr) → In (value_bodies tables key index value)
      → In (value_inside tables value)
  value_in key index None are = are
  value_in key index (Some value) are =
      λ one has. are one (in_rest _ (expr_code tables None value).inside one has)

  pub global_by : (index : ℕ) (prop : PropTree) → In (value_inside tables prop.value)
      → All Bodies (global_bodies tables index prop)
  unfolding global_bodies
  global_by index prop are =
      All-append Bodies _ _ (value_by prop.word.at index prop.value are)
      (some_so (slice_get tables.world.globals index) (global_getter tables prop.word.at index)
      (global_getter_so prop.word.at index))

  pub global_goes : (index : ℕ) (prop : PropTree) → Goes (global_bodies tables index prop)
  unfolding global_bodies
  global_goes index prop are =
      global_by index prop
      (value_in prop.word.at index prop.value
      (in_left tables numbers bodies (value_bodies tables prop.word.at index prop.value)
      (for_some (slice_get tables.world.globals index) (global_getter tables prop.word.at index))
      are))
