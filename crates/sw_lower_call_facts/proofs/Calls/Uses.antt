-- What the code for what names mean calls.
use Rattle.std.proofs.Common.{◌≡◌, ℕ, List, Option, Some, None, Contains, refl, subst, sym}
use Rattle.std.specs.Prelude.{slice_get}
use Rattle.sw_types.specs.declared.isolation.CallKind.{CallKind}
use Rattle.sw_types.specs.declared.isolation.CallKind.TheVariants as kinds
use Rattle.sw_types.specs.declared.shape.Shape.{Shape}
use Rattle.sw_types.specs.declared.shape.ShapeKind.{ShapeKind}
use Rattle.sw_types.specs.declared.shape.ShapeKind.TheVariants as shapes
use Rattle.sw_types.specs.declared.ty.Ty.{Ty}
use Rattle.sw_graph.specs.declared.function.RegKind.TheVariants.{Plain}
use Rattle.sw_graph.specs.declared.instr.Instr.{Instr}
use Rattle.sw_graph.specs.declared.instr.Instr.TheVariants as instr
use Rattle.sw_graph.specs.declared.instr.Operand.{Operand}
use Rattle.sw_typing_rules.specs.declared.row.Meaning.TheVariants as means
use Rattle.sw_isolation_rules.specs.Uses.{maker_at}
use Rattle.sw_lower_plans.specs.Plan.{Numbers}
use Rattle.sw_lower_code.specs.Code.{andthen, known}
use Rattle.sw_lower_code.specs.Whole.{Body}
use Rattle.sw_lower_rules.specs.Carriers.{ClosureCode}
use Rattle.sw_lower_rules.specs.Expressions.{spawn_read, spawn_result, task_body}
use Rattle.sw_lower_rules.specs.Tables.{Tables, getter_of, plain}
use Rattle.sw_lower_rules.specs.Uses.{call_func, call_getter, call_signature, give, make}
use Rattle.sw_lower_rules.specs.Uses.{make_by, no_func, no_shape, operand, shape_at}
use Rattle.sw_lower_code_facts.specs.Kept.{CallsNothing, Kept}
use Rattle.sw_lower_code_facts.proofs.Uses.{has_capture, has_each_of, has_make_value, has_typed}
use Rattle.sw_lower_code_facts.proofs.Uses.{has_unknown}
use Rattle.sw_lower_total_facts.specs.Known.{IsMade}
use Rattle.sw_lower_call_facts.specs.Calls.{CodeIsOfBodies, IsOfBody, MeansFunc}
use Rattle.sw_lower_call_facts.specs.Calls.CallOf.{of_func, of_getter, of_maker}
use Rattle.sw_lower_call_facts.proofs.Writing.Joining.{writes_done, writes_then}
use Rattle.sw_lower_call_facts.proofs.Writing.Steps.{writes_emit, writes_known, writes_known_then}
use Rattle.sw_lower_call_facts.proofs.Writing.Steps.{writes_number, writes_number_then, writes_reg}
use Rattle.sw_lower_call_facts.proofs.Writing.Steps.{writes_var}

module _ (tables : Tables) (numbers : Numbers) (bodies : List Body) where
  -- what calls nothing
  pub harmless : (one : Instr) → CallsNothing one → IsOfBody tables numbers bodies one
  harmless (instr.Const at dst value) so = tt
  harmless (instr.Un at dst op src) so = tt
  harmless (instr.Bin at dst op left right) so = tt
  harmless (instr.Print at dst args) so = tt
  harmless (instr.Copy at dst src) so = tt
  harmless (instr.Field at dst src part) so = tt
  harmless (instr.Payload at dst src index) so = tt
  harmless (instr.SetField at target part src) so = tt
  harmless (instr.Make at dst shape tag args) so = tt
  harmless (instr.NewObject at dst shape args) so = tt
  harmless (instr.NewBox at dst src) so = tt
  harmless (instr.NewActor at dst shape args) so = tt
  harmless (instr.LoadBox at dst cell) so = tt
  harmless (instr.StoreBox at cell src) so = tt
  harmless (instr.LoadProp at dst cell part) so = tt
  harmless (instr.StoreProp at cell part src) so = tt
  harmless (instr.LoadGlobal at dst global) so = tt
  harmless (instr.StoreGlobal at global src) so = tt
  harmless (instr.NewClosure at dst function captures) so = tt
  harmless (instr.Call at dst kind function args) so = absurd so
  harmless (instr.CallClosure at dst closure args) so = tt
  harmless (instr.NewTask at dst function captures) so = absurd so
  harmless (instr.Await at dst task) so = tt
  harmless (instr.Yield at dst) so = tt

module _ {tables : Tables} {numbers : Numbers} {bodies : List Body} where
  -- a value in a register that is made for it
  pub writes_give : (at : ℕ) (ty : Ty) (one : ℕ → Instr)
      → ((r : ℕ) → IsOfBody tables numbers bodies (one r))
      → CodeIsOfBodies tables numbers bodies (give at ty one)
  writes_give at ty one so =
      writes_then _ _ (writes_reg (Plain ty)) (λ r.
      writes_then _ _ (writes_emit (one r) (so r)) (λ value. writes_done (operand r at)))

module _ (tables : Tables) (numbers : Numbers) (bodies : List Body) where
  abbrev pub calling : Kept
  calling = record {
    Has = λ code. CodeIsOfBodies tables numbers bodies code;
    done = writes_done;
    after = writes_then;
    known = writes_known;
    var = writes_var;
    number = writes_number;
    reg = writes_reg;
    emit = λ one so. writes_emit one (harmless tables numbers bodies one so);
  }

  pub getter_calls : (at : ℕ) (kind : CallKind) (ty : Ty) (key : ℕ) (operands : List Operand)
      → CodeIsOfBodies tables numbers bodies (call_getter tables at kind ty key operands)
  unfolding call_getter
  getter_calls at kind ty key operands =
      writes_number_then (getter_of key) _ (λ f found.
      writes_give at ty _ (λ r. of_getter key found))

  pub func_calls : (at number : ℕ) (operands : List Operand)
      → MeansFunc (tables.answers.meaning_at at) number
      → CodeIsOfBodies tables numbers bodies (call_func tables at number operands)
  unfolding call_func
  func_calls at number operands means =
      writes_known_then no_func _ _ (λ func func_at.
      writes_number_then (plain func.key.at) _ (λ f found.
      writes_known_then kinds.Plain _ _ (λ kind kind_at.
      writes_give at func.result _ (λ r. of_func number func means func_at kind_at found))))

  -- what is made
  made_calls : (at k : ℕ) (shape : Shape) (operands : List Operand)
      → tables.answers.meaning_at at ≡ Some (means.MakeOf k)
      → slice_get tables.world.shapes k ≡ Some shape → IsMade shape.kind
      → CodeIsOfBodies tables numbers bodies (andthen (known no_func (maker_at tables.world k))
      (call_signature tables at operands))
  made_calls at k shape operands means there made =
      writes_known_then no_func _ _ (λ func maker.
      writes_number_then (plain func.key.at) _ (λ f found.
      writes_known_then kinds.Plain _ _ (λ kind kind_at.
      writes_give at func.result _ (λ r.
      of_maker k shape func means there made maker kind_at found))))

  make_by_calls : (at k : ℕ) (shape : Shape) (operands : List Operand)
      → tables.answers.meaning_at at ≡ Some (means.MakeOf k)
      → slice_get tables.world.shapes k ≡ Some shape → (kind : ShapeKind) → shape.kind ≡ kind
      → CodeIsOfBodies tables numbers bodies (make_by tables kind at k operands)
  make_by_calls at k shape operands means there shapes.Struct is =
      has_make_value calling at k None operands
  make_by_calls at k shape operands means there shapes.Enum is = has_unknown calling
  make_by_calls at k shape operands means there shapes.Class is =
      made_calls at k shape operands means there (subst IsMade (sym is) tt)
  make_by_calls at k shape operands means there shapes.Actor is =
      made_calls at k shape operands means there (subst IsMade (sym is) tt)

  pub make_calls : (at k : ℕ) (operands : List Operand)
      → tables.answers.meaning_at at ≡ Some (means.MakeOf k)
      → CodeIsOfBodies tables numbers bodies (make tables at k operands)
  unfolding make shape_at
  make_calls at k operands means =
      writes_known_then no_shape _ _ (λ shape there.
      make_by_calls at k shape operands means there shape.kind refl)

  -- tasks
  pub task_calls : (owner : Option ℕ) (at : ℕ) (closure : ClosureCode)
      → Contains bodies (task_body tables owner closure (spawn_result tables owner at))
      → CodeIsOfBodies tables numbers bodies (spawn_read tables owner at closure)
  task_calls owner at closure has =
      writes_then _ _
      (has_each_of calling _ (tables.isolation.captures_of closure.at)
      (has_capture calling tables at)) (λ operands.
      writes_number_then (plain closure.at) _ (λ f found.
      writes_then _ _ (has_typed calling tables at) (λ ty.
      writes_give at ty _ (λ r. record {
        owner = owner;
        closure = closure;
        result = spawn_result tables owner at;
        has = has;
        numbered = found;
      }))))
